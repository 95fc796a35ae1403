-- Moments, gap: the moment of a cell is the macrotick at which its slot starts, on the ring of all the cluster's
-- cycles. A frame's greatest gap is the longest way from one of its moments to the next. A frame that is nowhere placed
-- has none.
use Rattle.std.specs.Prelude.{ℕ, ◌+◌, ◌-◌, ◌*◌, List, [], ◌∷◌, map, Option, Some, None, if◌then◌else◌, nat_lt, min, max}
use Rattle.std.specs.List.{flat_map, filter_map}
use Rattle.fr_base.specs.Cells.{Cell, cells_of}
use Rattle.fr_base.specs.declared.params.Params.{Params}
use Rattle.fr_base.specs.declared.placement.Placement.{Placement}

-- the macroticks of all cycles, after which all is sent again
unfoldable pub ring : Params → ℕ
ring p = p.cycles * p.macroticks_per_cycle

-- the sending moment of a cell: the macrotick on the ring at which its slot starts
unfoldable pub moment : Params → Cell → ℕ
moment p c = c.cycle * p.macroticks_per_cycle + (c.slot - 1) * p.slot_macroticks

-- the moments of some placements; a cell on A and one on B may have the same moment
unfoldable pub moments : Params → List Placement → List ℕ
moments p placements = map (moment p) (flat_map cells_of placements)

-- how far it is from a moment to the next time of another, on a ring of this length: the whole ring
-- where the two are the same
abbrev pub distance : ℕ → ℕ → ℕ → ℕ
distance length from to = if nat_lt from to then to - from else (length - from) + to

-- the least of some numbers, if there is one
abbrev pub least : List ℕ → Option ℕ
least [] = None
least (n ∷ ns) = Some (lower n (least ns))
  where
    lower : ℕ → Option ℕ → ℕ
    lower n None = n
    lower n (Some m) = min n m

-- the greatest of some numbers, if there is one
abbrev pub greatest : List ℕ → Option ℕ
greatest [] = None
greatest (n ∷ ns) = Some (higher n (greatest ns))
  where
    higher : ℕ → Option ℕ → ℕ
    higher n None = n
    higher n (Some m) = max n m

-- how far it is from each moment to the next one; a lone moment comes again a whole ring later
unfoldable pub gaps : ℕ → List ℕ → List ℕ
gaps length moments = filter_map (λ from. least (map (distance length from) moments)) moments

-- the greatest gap; none where nothing is placed
unfoldable pub greatest_gap : Params → List Placement → Option ℕ
greatest_gap p placements = greatest (gaps (ring p) (moments p placements))
