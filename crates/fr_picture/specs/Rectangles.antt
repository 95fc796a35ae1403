-- Rectangle: it has a first cell, and the cells of the same frame in so many next cycles. Two
-- rectangles could be one where the second begins in the cell behind the first one's last.
use Rattle.std.specs.Prelude.{◌≡◌, ℕ, ◌+◌, ◌≤◌, List, [], ◌∷◌, map}
use Rattle.std.specs.List.{flat_map, range_with_len, All}
use Rattle.fr_base.specs.declared.answer.Sending.{Sending}
use Rattle.fr_picture.specs.declared.drawing.rectangle.Rectangle.{Rectangle}

-- the cell of the same frame, slot and channel so many cycles later
abbrev pub later : Sending → ℕ → Sending
later s n = record s { cycle = s.cycle + n }

-- a rectangle's cells: its first, and those of the next cycles
unfoldable pub cells_of : Rectangle → List Sending
cells_of r = map (later r.first) (range_with_len 0 r.cycles)

-- the cells of rectangles
unfoldable pub cells_in : List Rectangle → List Sending
cells_in rs = flat_map cells_of rs

-- the cell follows the rectangle, so that the two would be one rectangle
abbrev pub Meets : Rectangle → Sending → Type 0
Meets r s = s ≡ later r.first r.cycles

-- no rectangle could be one with the rectangle behind it
abbrev pub AreApart : List Rectangle → Type 0
AreApart [] = Unit {0}
AreApart (r ∷ []) = Unit {0}
AreApart (r ∷ s ∷ rs) = ¬ Meets r s.first × AreApart (s ∷ rs)

-- each rectangle has at least one cycle
abbrev pub AreFilled : List Rectangle → Type 0
AreFilled rs = All (λ r. 1 ≤ r.cycles) rs
