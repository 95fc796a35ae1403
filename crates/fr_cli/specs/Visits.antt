-- Visits: what is read of a connection and written to it, and how it ended. When connections come in at a listener one after
-- another, each is closed before the next one comes in, and these are what happened on them.
use Rattle.std.specs.Prelude.{◌≡◌, ◌⊎◌, ℕ, true, List, [], ◌∷◌, Option, Result, Err, IfErr, IsErrOf, OnOk, ⊤}
use Rattle.std.specs.Io.KnownBytes.{Appends, Consumes, IsAtEnd}
use Rattle.std.specs.declared.io.Error.{Error}
use Rattle.fr_base.specs.declared.actor.Actor.{Actor}
use Rattle.fr_http.specs.Connection.{ReadsNoMore, WasFlushed, is_silent}
use Rattle.fr_http.specs.Exchanges.{Exchanged, IsInterim}
use Rattle.fr_http.specs.Outcome.{IsOutcome}
use Rattle.fr_http.specs.Reads.{IsReadWithin, Reads}
use Rattle.fr_http.specs.Writes.{MayFail}
use Rattle.fr_http.specs.declared.fault.LinkFault.{LinkFault}
use Rattle.fr_http.specs.declared.fault.LinkFault.TheVariants.{Truncated}
use Rattle.fr_http.specs.declared.fault.Unasked.TheVariants.{Fault}
use Rattle.fr_http.specs.declared.input.TheConstants.{MAX_READS}
use Rattle.fr_http.specs.declared.serve.Served.{Served}
use Rattle.fr_cli.specs.declared.streams.listener.Listener as Listener

-- What happened on a connection, as far as its ends tell: the bytes that were read of it, those that were written to it, and how it ended.
pub record Visit : Type 0 where
  pub read : List ℕ
  pub written : List ℕ
  pub done : Result Served LinkFault

-- what the ends of the connection tell of an exchange
abbrev pub visit_of : Exchanged → Visit
visit_of x = record { read = x.read; written = x.written; done = x.done }

-- what is said of a source: the bytes that it has left, and how a read may go
abbrev pub SourceGhosts : Type 0 → Type 1
SourceGhosts R = record { remaining : R → Option (List ℕ); reads : Reads R }

-- what is said of a sink: the bytes that it was given, and how a write or a flush may go
abbrev pub SinkGhosts : Type 0 → Type 1
SinkGhosts W = record {
  contents : W → Option (List ℕ);
  writes : W → List ℕ → Result ℕ Error → W → Type 0;
  flushes : W → Result ⊤ Error → W → Type 0;
}

module _ {L R W : Type 0} (listener : Listener.Ghosts L R W) (reader : SourceGhosts R) (writer : SinkGhosts W) where
  -- A connection came in, which is to last so many seconds at most. Exactly these bytes were read of it, and exactly these were written
  -- to it, and then it was closed, as one that ended so. No more was read than a request may have, and in no more reads than a connection may take. A
  -- fault of reading comes only for its cause: that of an input cut short only where the input was at its end, and more had to come. Behind a fault
  -- that is none of writing no more than the interim reply was written; one of writing comes only where the last call of its sink failed. Where it was
  -- served, that was a flush.
  pub record IsVisited (seconds : ℕ) (old : L) (visit : Visit) (new : L) : Type 0 where
    pub input : R
    pub output : W
    pub between : L
    pub input_left : R
    pub output_made : W
    pub accepted : listener.accepts old seconds input output between
    pub consumed : Consumes (reader.remaining input) (reader.remaining input_left) visit.read
    pub appended : Appends (writer.contents output) (writer.contents output_made) visit.written
    pub bound : ReadsNoMore visit.read
    pub within : IsReadWithin reader.reads MAX_READS input input_left visit.done
    pub truncated : IsErrOf visit.done Truncated
        → IsAtEnd (reader.remaining input_left) × ((who : List ℕ → Option Actor) → IsOutcome who visit.read visit.written (Err (Fault Truncated)))
    pub silent : IfErr visit.done (λ fault. is_silent fault ≡ true → IsInterim visit.read visit.written)
    pub flushed : OnOk visit.done (WasFlushed writer.flushes output_made)
    pub failed : IfErr visit.done (λ fault. MayFail writer.writes writer.flushes fault output_made)
    pub closed : listener.closes between input_left output_made visit.done new

  -- So connections came in, one after another, and no other.
  abbrev pub AreVisited : ℕ → L → List Visit → L → Type 0
  AreVisited seconds old [] new = new ≡ old
  AreVisited seconds old (visit ∷ visits) new = (next : L) × IsVisited seconds old visit next × AreVisited seconds next visits new

  -- It listened at the port, and then so connections came in; or none came in, and it is as it was.
  abbrev pub AreVisitedAt : ℕ → ℕ → L → List Visit → L → Type 0
  AreVisitedAt port seconds old visits new =
      ((visits ≡ []) × (new ≡ old)) ⊎ ((first : L) × listener.listens old port first × AreVisited seconds first visits new)

-- It may have come to listen at the port.
abbrev pub MayListen : {L R W : Type 0} → Listener.Ghosts L R W → ℕ → L → Type 0
MayListen {L} listener port old = (first : L) × listener.listens old port first

-- It refused to listen at the port, and is as it was; or no further connection came in.
abbrev pub IsDeaf : {L R W : Type 0} → Listener.Ghosts L R W → ℕ → L → L → Type 0
IsDeaf listener port old new = (listener.refuses old port × (new ≡ old)) ⊎ listener.ends new

-- The connections that came in at a listener while a job was done: none, and it is as it was; or these, at a port, for so many
-- seconds at most. Whether it may have come to listen at a port. Whether it may be that it refused the port, or that
-- no further one comes in.
pub record Comings : Type 1 where
  pub none : Type 0
  pub at : ℕ → ℕ → List Visit → Type 0
  pub heard : ℕ → Type 0
  pub deaf : ℕ → Type 0

-- those that came in while one listener became another
abbrev pub comings : {L R W : Type 0} → Listener.Ghosts L R W → SourceGhosts R → SinkGhosts W → L → L → Comings
comings listener reader writer old new = record {
  none = new ≡ old;
  at = λ port seconds visits. AreVisitedAt listener reader writer port seconds old visits new;
  heard = λ port. MayListen listener port old;
  deaf = λ port. IsDeaf listener port old new;
}
