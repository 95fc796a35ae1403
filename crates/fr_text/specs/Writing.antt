-- Writing: how a text is written, write by write. One that is interrupted is tried again, as long as a retry is left.
use Rattle.std.specs.Prelude.{◌≡◌, ◌≢◌, ℕ, zero, suc, ◌+◌, ◌<◌, List, [], drop, Result, Ok, Err, ⊤}
use Rattle.std.specs.IoError.{error_kind}
use Rattle.std.specs.declared.io.Error.{Error}
use Rattle.std.specs.declared.io.ErrorKind.TheVariants.{Interrupted}
use Rattle.fr_text.specs.declared.output.WriteFailed.{WriteFailed}

-- how a write of these bytes may make of a writer the next one, with what it gives
abbrev pub Writes : Type 0 → Type 1
Writes W = W → List ℕ → Result ℕ Error → W → Type 0

-- how far the writing of a text has come: the writer, how many more interrupted writes are tried again, and what is still to be written
pub record Progress (W : Type 0) : Type 0 where
  pub writer : W
  pub retries : ℕ
  pub rest : List ℕ

-- After such a write it goes on: some bytes were taken, and the next follow; or it was interrupted, and is tried again with one retry less.
abbrev pub GoesOn : {W : Type 0} → Result ℕ Error → Progress W → Progress W → Type 0
GoesOn (Ok n) old new = (0 < n) × (new.rest ≡ drop n old.rest) × (new.retries ≡ old.retries)
GoesOn (Err e) old new = (error_kind e ≡ Interrupted) × (new.rest ≡ old.rest) × (new.retries + 1 ≡ old.retries)

-- So many writes were made, one after another, each after which it goes on.
abbrev pub AreWrites : {W : Type 0} → Writes W → ℕ → Progress W → Progress W → Type 0
AreWrites writes zero old new = new ≡ old
AreWrites {W} writes (suc n) old new =
    (mid : Progress W) × AreWrites writes n old mid × ((given : Result ℕ Error) × writes mid.writer mid.rest given new.writer × GoesOn given mid new)

-- With such a write it ends: it took nothing; or it failed otherwise than by an interruption, or when no retry was left.
abbrev pub Fails : ℕ → Result ℕ Error → Type 0
Fails retries (Ok n) = n ≡ 0
Fails retries (Err e) = error_kind e ≡ Interrupted → retries ≡ 0

-- It ends there: all is written; or one write more was made, and failed.
abbrev pub Ends : {W : Type 0} → Writes W → Progress W → Result ⊤ WriteFailed → W → Type 0
Ends writes p (Ok _) last = (p.rest ≡ []) × (last ≡ p.writer)
Ends writes p (Err _) last = (p.rest ≢ []) × ((given : Result ℕ Error) × writes p.writer p.rest given last × Fails p.retries given)

-- From there writes were made, and no others, to its end; and so many retries are left.
pub record IsWriting {W : Type 0} (writes : Writes W) (from : Progress W) (done : Result ⊤ WriteFailed) (last : W) (left : ℕ) : Type 0 where
  pub count : ℕ
  pub to : Progress W
  pub made : AreWrites writes count from to
  pub ends : Ends writes to done last
  pub spent : to.retries ≡ left
