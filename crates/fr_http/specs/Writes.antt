-- Writes: why a connection ends with a fault of writing: the last call on its writer failed.
use Rattle.std.specs.Prelude.{◌⊎◌, Result, Err, ⊤}
use Rattle.std.specs.declared.io.Error.{Error}
use Rattle.fr_text.specs.Writing.{Ends, Progress, Writes}
use Rattle.fr_text.specs.declared.output.WriteFailed.{WriteFailed as Unwritten}
use Rattle.fr_http.specs.declared.fault.LinkFault.{LinkFault}
use Rattle.fr_http.specs.declared.fault.LinkFault.TheVariants.{WriteFailed}
use Rattle.fr_http.specs.declared.fault.Unasked.{Unasked}
use Rattle.fr_http.specs.declared.fault.Unasked.TheVariants.{Fault}

-- how a flush may make of a writer the next one, with what it gives
abbrev pub Flushes : Type 0 → Type 1
Flushes W = W → Result ⊤ Error → W → Type 0

module _ {W : Type 0} (writes : Writes W) (flushes : Flushes W) where
  -- The last call on the writer failed: a write of bytes that were still to be written, or a flush.
  abbrev pub LastFailed : W → Type 0
  LastFailed last = ((from : Progress W) × (why : Unwritten) × Ends writes from (Err why) last) ⊎ ((mid : W) × (e : Error) × flushes mid (Err e) last)

  -- Such a fault may end the connection there: that of writing only where the last call on the writer failed. Of any other fault this says nothing.
  abbrev pub MayFail : LinkFault → W → Type 0
  MayFail (WriteFailed asked) last = LastFailed last
  MayFail _ last = ⊤

  -- the same of why nothing is asked
  abbrev pub MayFailAsking : Unasked → W → Type 0
  MayFailAsking (Fault fault) last = MayFail fault last
  MayFailAsking _ last = ⊤
