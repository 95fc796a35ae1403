-- Occupancy: which cells a list of frames and placements fills, and the first taken one.
use Rattle.std.specs.Prelude.{◌≡◌, Bool, not, ◌&&◌, List, filter, Option, Some, None, is_none, option_map, Result, Ok, Err, ⊤}
use Rattle.std.specs.Ordering.{is_eq}
use Rattle.fr_base.specs.Keys.{owned, placement_order}
use Rattle.fr_base.specs.Cells.{Cell, cells_of}
use Rattle.fr_base.specs.Names.{same_text}
use Rattle.fr_base.specs.Book.{Frame, schedule_of}
use Rattle.fr_base.specs.Tables.{Table}
use Rattle.fr_base.specs.Schedule.{fill, first_taken}
use Rattle.fr_base.specs.declared.name.Name.{Name}
use Rattle.fr_base.specs.declared.placement.Placement.{Placement}
use Rattle.fr_base.specs.declared.refusal.Refusal.{Refusal}
use Rattle.fr_base.specs.declared.refusal.Refusal.TheVariants.{CellTaken}
use Rattle.fr_world.specs.declared.occupancy.TakenCell.{TakenCell}

-- a filled cell, with the frame there
abbrev pub taken_cell : Cell × Name → TakenCell
taken_cell e = record { cycle = e.0.cycle; channel = e.0.channel; frame = e.1 }

-- the first of the placement's cells that is filled
unfoldable pub first_taken_cell : List (Name × Placement) → Placement → Option TakenCell
first_taken_cell pairs q = option_map taken_cell (first_taken (fill pairs) (cells_of q))

-- none of the placement's cells is filled
unfoldable pub is_free : List (Name × Placement) → Placement → Bool
is_free pairs q = is_none (first_taken (fill pairs) (cells_of q))

-- whether the pair is that of this frame and placement
abbrev pub is_pair : Name → Placement → Name × Placement → Bool
is_pair f q pair = same_text pair.0 f && is_eq (placement_order.compare pair.1 q)

-- the list without this pair
abbrev pub without : List (Name × Placement) → Name → Placement → List (Name × Placement)
without pairs f q = filter (λ pair. not (is_pair f q pair)) pairs

-- In each cell the pairs have the frame that is sent there.
abbrev pub ShowCells : List (Name × Placement) → Table owned Frame → Type 0
ShowCells pairs frames = (c : Cell) → fill pairs c ≡ option_map (λ o. o.frame) (schedule_of frames c)

-- a filled cell refuses a placement
abbrev pub cell_refused : Option TakenCell → Result ⊤ Refusal
cell_refused None = Ok tt
cell_refused (Some t) = Err (CellTaken t.cycle t.channel t.frame)
