-- The keys of maps and sets compare as the register's.
use Rattle.std.proofs.Common.{◌≡◌, ℕ, List, [], ◌∷◌, Ordering, refl, sym, ap, subst, ◌∙◌}
use Rattle.std.specs.Prelude.{◌&&◌, false, nat_eq, true}
use Rattle.std.specs.Ordering.{is_eq, ordering_then}
use Rattle.std.specs.declared.cmp.Ordering.TheVariants.{Less, Equal, Greater}
use Rattle.std.proofs.lemmas.Bool.{eqb-false}
use Rattle.std.specs.Cmp.{tied_itself}
use Rattle.std.specs.List.Sorted.{IsStrictlySortedBy}
use Rattle.std.specs.Map.{keys_of}
use Rattle.fr_base.specs.Keys.{numbers, names, channel_order, channels_order, owned, channel_slots, placement_order}
use Rattle.fr_base.specs.declared.channel.Channel.{Channel}
use Rattle.fr_base.specs.declared.channel.Channel.TheVariants.{A, B}
use Rattle.fr_base.specs.declared.channel.Channels.{Channels}
use Rattle.fr_base.specs.declared.channel.Channels.TheVariants as channels
use Rattle.fr_base.specs.declared.name.Name.{Name}
use Rattle.fr_base.specs.declared.placement.Placement.{Placement}
use Rattle.fr_base.specs.Cycles.{Cycles}
use Rattle.fr_base.specs.contracts.name.NameOrd.TheImpl as by_text
use Rattle.fr_base.specs.contracts.placement.PlacementOrd.TheImpl as by_cells
use Rattle.fr_base.specs.Names.{same_text}
use Rattle.fr_world.specs.Occupancies.{is_pair}
use Rattle.fr_world.specs.Pages.{FrameData, compare_slots, frames_data}
use Rattle.fr_world.specs.declared.page.ChannelSlot.{ChannelSlot}
use Rattle.fr_world.specs.declared.page.PageFrame.{PageFrame}
use Rattle.fr_world.specs.contracts.page.ChannelSlotOrd.TheImpl as by_slot

abbrev pub slot_cmp : ChannelSlot → ChannelSlot → Ordering
slot_cmp = by_slot.cmp-value.it

slots_alike_parts : (k l : ℕ) (c d : Channel) → slot_cmp (record { slot = k; channel = c }) (record { slot = l; channel = d }) ≡ channel_slots.compare (k, c) (l, d)
unfolding channel_slots numbers channel_order
slots_alike_parts k l A A = refl
slots_alike_parts k l A B = refl
slots_alike_parts k l B A = refl
slots_alike_parts k l B B = refl

pub slots_alike : (x y : ChannelSlot) → slot_cmp x y ≡ channel_slots.compare (x.slot, x.channel) (y.slot, y.channel)
slots_alike x y = slots_alike_parts x.slot y.slot x.channel y.channel

abbrev pub name_cmp : Name → Name → Ordering
name_cmp = by_text.cmp-value.it

-- a supplier's own names compare as that supplier's keys
pub own_alike : (s x y : Name) → name_cmp x y ≡ owned.compare (s, x) (s, y)
unfolding owned names
own_alike s x y = sym (ap (λ r. ordering_then r (name_cmp x y)) (tied_itself names.total s))

abbrev pub placement_cmp : Placement → Placement → Ordering
placement_cmp = by_cells.cmp-value.it

placements_alike_parts : (k l : ℕ) (c d : Channels) (r s : Cycles) → placement_cmp (record { slot = k; channels = c; cycles = r }) (record { slot = l; channels = d; cycles = s }) ≡ placement_order.compare (record { slot = k; channels = c; cycles = r }) (record { slot = l; channels = d; cycles = s })
unfolding placement_order numbers channels_order
placements_alike_parts k l channels.A channels.A r s = refl
placements_alike_parts k l channels.A channels.AB r s = refl
placements_alike_parts k l channels.A channels.B r s = refl
placements_alike_parts k l channels.AB channels.A r s = refl
placements_alike_parts k l channels.AB channels.AB r s = refl
placements_alike_parts k l channels.AB channels.B r s = refl
placements_alike_parts k l channels.B channels.A r s = refl
placements_alike_parts k l channels.B channels.AB r s = refl
placements_alike_parts k l channels.B channels.B r s = refl

pub placements_alike : (x y : Placement) → placement_cmp x y ≡ placement_order.compare x y
placements_alike x y = placements_alike_parts x.slot y.slot x.channels y.channels x.cycles y.cycles

-- of placements in two slots neither is the other
pub slots_apart : (x y : Placement) → nat_eq x.slot y.slot ≡ false → is_eq (placement_order.compare x y) ≡ false
slots_apart x y apart =
    elim (placement_order.compare x y) as (λ r. placement_order.compare x y ≡ r → is_eq r ≡ false) [
      | Less ↦ λ tie. refl
      | Equal ↦ λ tie. absurd (eqb-false x.slot y.slot apart (ap (λ (q : Placement). q.slot) (placement_order.exact x y tie)))
      | Greater ↦ λ tie. refl
    ] refl

-- so no pair with the one is a pair with the other
pub pairs_apart : (f g : Name) (x y : Placement) → nat_eq x.slot y.slot ≡ false → is_pair g y (f, x) ≡ false
pairs_apart f g x y apart =
    elim (same_text f g) as (λ b. (b && is_eq (placement_order.compare x y)) ≡ false) [
      | true ↦ slots_apart x y apart
      | false ↦ refl
    ]

-- ---- keys that rise

abbrev rising : {K : Type 0} → List K → (K → K → Ordering) → Type 0
rising ks cmp = IsStrictlySortedBy cmp ks

pub names_rise : (ks : List Name) → IsStrictlySortedBy name_cmp ks → IsStrictlySortedBy names.compare ks
unfolding names
names_rise ks h = h

pub slots_rise : (ks : List ChannelSlot) → IsStrictlySortedBy slot_cmp ks → IsStrictlySortedBy compare_slots ks
slots_rise ks h = subst (rising ks) (λ i x y. slots_alike x y i) h

pub placements_rise : (ks : List Placement) → IsStrictlySortedBy placement_cmp ks → IsStrictlySortedBy placement_order.compare ks
placements_rise ks h = subst (rising ks) (λ i x y. placements_alike x y i) h

pub keys-frames_data : (es : List (Name × PageFrame)) → keys_of (frames_data es) ≡ keys_of es
keys-frames_data [] = refl
keys-frames_data (e ∷ es) = ap (λ ks. e.0 ∷ ks) (keys-frames_data es)

-- the names of frames rise, in their map and in their list
pub frames_rise : (es : List (Name × PageFrame)) (fs : List (Name × FrameData)) → frames_data es ≡ fs → IsStrictlySortedBy name_cmp (keys_of es) → IsStrictlySortedBy name_cmp (keys_of fs)
frames_rise es fs e h = subst (IsStrictlySortedBy name_cmp) (sym (keys-frames_data es) ∙ ap keys_of e) h
