-- Connections come in one after another, and then one more. What is said of their ends is said by two traits each.
use Rattle.std.proofs.Common.{ℕ, List, [], ◌∷◌, ◌++◌, refl, subst}
use Rattle.std.specs.declared.io.Read as Read
use Rattle.std.specs.declared.io.Write as Write
use Rattle.fr_http.specs.declared.source.Source as Source
use Rattle.fr_text.specs.declared.sink.Sink as Sink
use Rattle.fr_cli.specs.Visits.{AreVisited, IsVisited, SinkGhosts, SourceGhosts, Visit}
use Rattle.fr_cli.specs.declared.streams.listener.Listener as Listener

-- what is said of a source: as of a reader, and as its own
abbrev pub source : {R : Type 0} → Read.Ghosts R → Source.Ghosts R → SourceGhosts R
source reader own = record { remaining = reader.remaining; reads = own.reads }

-- what is said of a sink: as of a writer, and as its own
abbrev pub sink : {W : Type 0} → Write.Ghosts W → Sink.Ghosts W → SinkGhosts W
sink writer own = record { contents = writer.contents; writes = own.writes; flushes = own.flushes }

module _ {L R W : Type 0} (listener : Listener.Ghosts L R W) (reader : SourceGhosts R) (writer : SinkGhosts W) where
  -- One more came in.
  pub visited_then : (seconds : ℕ) (old mid new : L) (visits : List Visit) (visit : Visit)
      → AreVisited listener reader writer seconds old visits mid → IsVisited listener reader writer seconds mid visit new
      → AreVisited listener reader writer seconds old (visits ++ visit ∷ []) new
  visited_then seconds old mid new [] visit so one =
      (new, subst (λ l. IsVisited listener reader writer seconds l visit new) so one, refl)
  visited_then seconds old mid new (first ∷ visits) visit so one =
      (so.0, so.1, visited_then seconds so.0 mid new visits visit so.2 one)
