-- The tests that rows pass which a page may have.
use Rattle.std.specs.Prelude.{◌≡◌, ◌==◌, ◌&&◌, Bool, nat_le}
use Rattle.std.specs.List.{list_all}
use Rattle.std.specs.List.Sorted.{IsStrictlySortedBy}
use Rattle.fr_base.specs.Keys.{placement_order}
use Rattle.fr_base.specs.Channels.{channels_in, has_channel}
use Rattle.fr_base.specs.Cycles.{are_cycles}
use Rattle.fr_base.specs.Book.{granted}
use Rattle.fr_base.specs.declared.name.Name.{Name}
use Rattle.fr_base.specs.declared.params.Params.{Params}
use Rattle.fr_base.specs.declared.placement.Placement.{Placement}
use Rattle.fr_base.specs.Step.{OwnRows}
use Rattle.fr_world.specs.Pages.{FrameData, IsPageFrame, frame_of}

-- whether the cluster has the placement's slot and channels, and its cycles are a set of the cluster's cycles
unfoldable pub fits : Params → Placement → Bool
fits p q =
    nat_le 1 q.slot && (nat_le q.slot p.static_slots
    && (list_all (has_channel p.channels) (channels_in q.channels)
    && ((q.cycles.count == p.cycles) && are_cycles q.cycles)))

-- whether the placement fits the cluster and lies in grants to the node
unfoldable pub is_placed : OwnRows → Name → Placement → Bool
is_placed page n q = fits page.params q && granted page.grants page.supplier n q

-- A page may have the frame, its layout is that of the cluster's payload, and its placements stand
-- in order.
abbrev pub IsKeptFrame : OwnRows → FrameData → Type 0
IsKeptFrame page f = IsPageFrame page (frame_of f) × (f.layout.words ≡ page.params.payload_words) × IsStrictlySortedBy placement_order.compare f.placements
