-- Sendings: what placements send in which cell, and what a page sends in a cycle.
use Rattle.std.specs.Prelude.{ℕ, ◌==◌, ◌≡◌, ◌++◌, ◌<◌, All, Bool, List, [], ◌∷◌, length, map, slice_index_or}
use Rattle.std.specs.List.{list_any}
use Rattle.fr_base.specs.Cells.{Cell, cells_in, slots_of}
use Rattle.fr_base.specs.Channels.{channels_in}
use Rattle.fr_base.specs.Schedule.{entries, fill}
use Rattle.fr_base.specs.Book.{Frame, Sender, schedule_of}
use Rattle.fr_base.specs.Queries.{sending}
use Rattle.fr_base.specs.Step.{OwnRows}
use Rattle.fr_base.specs.declared.answer.Sending.{Sending}
use Rattle.fr_base.specs.declared.name.Name.{Name}
use Rattle.fr_base.specs.declared.params.Params.{Params}
use Rattle.fr_base.specs.declared.placement.Placement.{Placement}
use Rattle.fr_world.specs.declared.triggerings.FrameSender.{FrameSender}
use Rattle.fr_world.specs.declared.triggerings.FrameTriggering.{FrameTriggering}

-- the latter list begins with the former
abbrev pub Extends : {A : Type 0} → List A → List A → Type 0
Extends {A} old new = (more : List A) × (new ≡ old ++ more)

-- who sends a frame
abbrev pub sender_of : FrameSender → Sender
sender_of s = record { supplier = s.supplier; frame = s.frame; node = s.node }

-- a sender that is nobody: what stands past the end of a list of senders
abbrev pub nobody : FrameSender
nobody = record { supplier = []; frame = []; node = [] }

-- the sender of a placement
abbrev pub sender_in : List FrameSender → FrameTriggering → Sender
sender_in senders p = sender_of (slice_index_or senders p.sender nobody)

-- the placements, each with its sender
abbrev pub filled : List FrameSender → List FrameTriggering → List (Sender × Placement)
filled senders triggerings = map (λ p. (sender_in senders p, p.placement)) triggerings

-- the sender of each placement stands in the list
abbrev pub HaveSenders : List FrameSender → List FrameTriggering → Type 0
HaveSenders senders triggerings = All (λ p. p.sender < length senders) triggerings

-- the placement, with the sender at this place
abbrev pub sent_by : ℕ → Placement → FrameTriggering
sent_by sender q = record { placement = q; sender = sender }

-- the frame's placements, each with its sender
abbrev pub filled_by : Name × Name → Frame → List (Sender × Placement)
filled_by k f = map (λ row. (record { supplier = k.0; frame = k.1; node = f.node }, row.0)) f.placements.rows

-- whether a placement is in the slot
abbrev pub is_used : List FrameTriggering → ℕ → Bool
is_used triggerings slot = list_any (λ p. slot == p.placement.slot) triggerings

-- the cluster's cells of a cycle, by slot and channel
abbrev pub cycle_cells : Params → ℕ → List Cell
cycle_cells p cycle = cells_in (cycle ∷ []) (slots_of p) (channels_in p.channels)

-- what is sent in these cells, where senders fill them with these placements
unfoldable pub sent_in : List (Sender × Placement) → List Cell → List Sending
sent_in filled cells = map sending (entries (fill filled) cells)

-- what the page's frames send in the cycle, by slot and channel
unfoldable pub page_sendings : OwnRows → ℕ → List Sending
page_sendings page cycle = map sending (entries (schedule_of page.frames) (cycle_cells page.params cycle))
