use Rattle.std.proofs.Common.{◌≡◌, true, take}
use Rattle.std.specs.List.{list_all}
use Rattle.fr_base.specs.FixedText.{IsPadded}
use Rattle.fr_base.specs.Names.{is_name_byte}
use Rattle.fr_base.proofs.name.Name.from_bytes.Given as goal

-- the bytes so far are a name's, and copied; behind them are zeros
abbrev pub invariant-loop-place : goal.invariant-loop-place
invariant-loop-place l =
    IsPadded 32 l.copy l.place
    × (take l.place l.copy ≡ take l.place l.bytes)
    × (list_all is_name_byte (take l.place l.bytes) ≡ true)
