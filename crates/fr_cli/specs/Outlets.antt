-- Outlets: where a job writes. A text is written there in pieces, one after another, as far as no write fails.
use Rattle.std.specs.Prelude.{◌≡◌, ◌≢◌, ℕ, List, [], ◌∷◌, ◌++◌, IfErr, IsOk, MatchResult, OnErr, OnOk, Option, Result, Err, ⊤}
use Rattle.std.specs.Io.KnownBytes.{Appends}
use Rattle.fr_cli.specs.Visits.{SinkGhosts}
use Rattle.fr_text.specs.Writing.{IsWriting, Writes}
use Rattle.fr_text.specs.declared.output.TheConstants.{WRITE_RETRIES}
use Rattle.fr_text.specs.declared.output.WriteFailed.{WriteFailed as Unwritten}
use Rattle.fr_http.specs.Writes.{LastFailed}
use Rattle.fr_cli.specs.declared.script_fault.ScriptFault.{ScriptFault}
use Rattle.fr_cli.specs.declared.script_fault.ScriptFault.TheVariants.{WriteFailed}

-- what a job writes to, before it and behind it
pub record Outlet {W : Type 0} (sink : SinkGhosts W) : Type 0 where
  pub old : W
  pub new : W

-- one writer became the other
abbrev pub outlet : {W : Type 0} (sink : SinkGhosts W) → W → W → Outlet sink
outlet sink old new = record { old = old; new = new }

-- the bytes that it was given before the job
abbrev pub held_before : {W : Type 0} {sink : SinkGhosts W} → Outlet sink → Option (List ℕ)
held_before {sink = sink} o = sink.contents o.old

-- the bytes that it was given, those of the job too
abbrev pub held_behind : {W : Type 0} {sink : SinkGhosts W} → Outlet sink → Option (List ℕ)
held_behind {sink = sink} o = sink.contents o.new

-- From there the pieces were written, one after another, as far as no write failed. They have so many retries together.
abbrev pub AreWritten : {W : Type 0} → Writes W → W → ℕ → List (List ℕ) → Result ⊤ Unwritten → W → Type 0
AreWritten writes old retries [] done new = IsOk done × (new ≡ old)
AreWritten {W} writes old retries (piece ∷ pieces) done new = (one : Result ⊤ Unwritten) × (mid : W) × (left : ℕ)
    × IsWriting writes (record { writer = old; retries = retries; rest = piece }) one mid left
    × MatchResult one (λ _. AreWritten writes mid left pieces done new) (λ _. (done ≡ one) × (new ≡ mid))

-- A front of the text was written, and not all of it.
abbrev pub AppendsLess : Option (List ℕ) → Option (List ℕ) → List ℕ → Type 0
AppendsLess old new text = (written : List ℕ) × (missing : List ℕ) × (text ≡ written ++ missing) × (missing ≢ []) × Appends old new written

-- The text was written in these pieces: all of it; or less, and then a write had failed.
pub record IsWritten {W : Type 0} (sink : SinkGhosts W) (text : List ℕ) (pieces : List (List ℕ)) (old new : W) (done : Result ⊤ Unwritten) : Type 0 where
  pub whole : OnOk done (Appends (sink.contents old) (sink.contents new) text)
  pub less : OnErr done (AppendsLess (sink.contents old) (sink.contents new) text)
  pub made : AreWritten sink.writes old WRITE_RETRIES pieces done new

-- The text was written there in one piece, which came to this.
abbrev pub IsPut : {W : Type 0} {sink : SinkGhosts W} → Outlet sink → List ℕ → Result ⊤ Unwritten → Type 0
IsPut {sink = sink} o text done = IsWritten sink text (text ∷ []) o.old o.new done

-- It was written so, as far as no write failed.
abbrev pub IsSaid : {W : Type 0} {sink : SinkGhosts W} → Outlet sink → List ℕ → Type 0
IsSaid o text = (done : Result ⊤ Unwritten) × IsPut o text done

-- Less of it was written, since a write failed.
abbrev pub IsCutShort : {W : Type 0} {sink : SinkGhosts W} → Outlet sink → List ℕ → Type 0
IsCutShort o text = (why : Unwritten) × IsPut o text (Err why)

-- Such a fault may end there what is written of a run: that of writing only where the last call on the writer failed. Of any other fault this says
-- nothing.
abbrev pub MayStop : {W : Type 0} → SinkGhosts W → ScriptFault → W → Type 0
MayStop sink WriteFailed last = LastFailed sink.writes sink.flushes last
MayStop sink _ last = ⊤

-- What is written of a run ended so, and may.
abbrev pub StopsSo : {W : Type 0} → SinkGhosts W → W → Result ⊤ ScriptFault → Type 0
StopsSo sink last done = IfErr done (λ fault. MayStop sink fault last)
