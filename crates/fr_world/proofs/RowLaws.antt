-- The rows of a list as frames and placements.
use Rattle.std.proofs.Common.{◌≡◌, ℕ, suc, ◌+◌, ◌<◌, not, length, get_or, List, [], ◌∷◌, ◌++◌, map, filter, take, Option, Some, None, option_map, refl, sym, ap, ◌∙◌, take-suc, add-one, inl, inr}
use Rattle.std.proofs.lemmas.Bool.{cases_Bool}
use Rattle.std.proofs.lemmas.List.{map-append}
use Rattle.std.specs.Prelude.{is_none}
use Rattle.std.specs.List.{find}
use Rattle.fr_base.specs.Cells.{Cell, cells_of, has_cell}
use Rattle.fr_base.specs.Schedule.{fill, first_taken}
use Rattle.fr_base.specs.declared.name.Name.{Name}
use Rattle.fr_base.specs.declared.placement.Placement.{Placement}
use Rattle.fr_world.specs.Occupancies.{taken_cell, first_taken_cell, is_free, is_pair, without}
use Rattle.fr_world.specs.CycleChannels.{cycle_channel, taken_of, earlier}
use Rattle.fr_world.specs.declared.occupancy.TakenCell.{TakenCell}
use Rattle.fr_world.specs.declared.row_occupancy.Row.{Row}
use Rattle.fr_world.specs.declared.row_occupancy.Taken.{Taken}
use Rattle.fr_world.proofs.TakenLaws.{taken_among, taken_among-more, taken_by}

abbrev pub pair_of : Row → Name × Placement
pair_of r = (r.frame, r.placement)

abbrev pub pairs : List Row → List (Name × Placement)
pairs rows = map pair_of rows

-- one row more
pub taken_among-row : (rows : List Row) (i : ℕ) (row : Row) (q : Placement) → i < length rows → row ≡ get_or rows i row
    → taken_among (pairs (take (i + 1) rows)) q ≡ earlier (taken_among (pairs (take i rows)) q) (taken_by row.frame (option_map cycle_channel (find (has_cell row.placement) (cells_of q))))
taken_among-row rows i row q l e =
    let next : take (suc i) rows ≡ take i rows ++ row ∷ [] = take-suc rows i row l ∙ ap (λ r. take i rows ++ r ∷ []) (sym e) in
    ap (λ n. taken_among (pairs (take n rows)) q) (add-one i)
    ∙ ap (λ rs. taken_among (pairs rs) q) next
    ∙ ap (λ ps. taken_among ps q) (map-append pair_of (take i rows) (row ∷ []))
    ∙ taken_among-more (pairs (take i rows)) row.frame row.placement q

-- what was found, as a taken cell
abbrev pub shown : Taken → TakenCell
shown t = record { cycle = t.at.cycle; channel = t.at.channel; frame = t.frame }

shown-found : (r : Option (Cell × Name)) → option_map shown (option_map taken_of r) ≡ option_map taken_cell r
shown-found None = refl
shown-found (Some e) = refl

pub first_taken_cell-among : (ps : List (Name × Placement)) (q : Placement) → option_map shown (taken_among ps q) ≡ first_taken_cell ps q
unfolding taken_among first_taken_cell
first_taken_cell-among ps q = shown-found (first_taken (fill ps) (cells_of q))

none-shown : (r : Option (Cell × Name)) → is_none (option_map taken_cell r) ≡ is_none r
none-shown None = refl
none-shown (Some e) = refl

pub free-none : (ps : List (Name × Placement)) (q : Placement) → is_none (first_taken_cell ps q) ≡ is_free ps q
unfolding first_taken_cell is_free
free-none ps q = none-shown (first_taken (fill ps) (cells_of q))

-- the rows that stay
pub pairs-without : (rows : List Row) (f : Name) (q : Placement) → pairs (filter (λ r. not (is_pair f q (pair_of r))) rows) ≡ without (pairs rows) f q
pairs-without [] f q = refl
pairs-without (r ∷ rows) f q = elim (cases_Bool (not (is_pair f q (pair_of r)))) [
  | inl e ↦ rw e (ap (λ ps. pair_of r ∷ ps) (pairs-without rows f q))
  | inr e ↦ rw e (pairs-without rows f q)
]
