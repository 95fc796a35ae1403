-- Inputs: what is taken of a reader: all that it had left, a front of that, or a line.
use Rattle.std.specs.Prelude.{◌≡◌, ◌<◌, ℕ, List, length, IfSome}
use Rattle.std.specs.Io.KnownBytes.{Consumes}
use Rattle.std.specs.declared.io.Read as Read
use Rattle.fr_cli.specs.Keys.{TakesLine}

module _ {R : Type 0} (reader : Read.Ghosts R) where
  -- These are all the bytes that the reader has left, where those are known.
  abbrev pub IsAllOf : R → List ℕ → Type 0
  IsAllOf old bytes = IfSome (reader.remaining old) (λ all. bytes ≡ all)

  -- The reader has more bytes left than so many, where those are known.
  abbrev pub Exceeds : R → ℕ → Type 0
  Exceeds old most = IfSome (reader.remaining old) (λ all. most < length all)

  -- Bytes were taken from the front of what the reader had left, and no others.
  abbrev pub TakesFront : R → R → Type 0
  TakesFront old new = (front : List ℕ) × Consumes (reader.remaining old) (reader.remaining new) front

  -- These bytes were taken from the front of what the reader had left, until a line feed came or the end.
  abbrev pub ReadsLine : R → R → List ℕ → Type 0
  ReadsLine old new front = TakesLine (reader.remaining old) (reader.remaining new) front
