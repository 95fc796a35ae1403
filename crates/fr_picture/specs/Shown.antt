-- Shown: which slots are held or used, or have a change, and what is shown at the place of each slot.
use Rattle.std.specs.Prelude.{ℕ, zero, suc, nat_eq, nat_lt, Bool, ◌&&◌, ◌||◌, not, List, map, if◌then◌else◌}
use Rattle.std.specs.List.{list_any, range_with_len}
use Rattle.fr_base.specs.declared.answer.DifferenceRow.{DifferenceRow}
use Rattle.fr_base.specs.declared.answer.GrantRow.{GrantRow}
use Rattle.fr_base.specs.declared.answer.Sending.{Sending}
use Rattle.fr_picture.specs.Changes.{is_of_slot}
use Rattle.fr_picture.specs.declared.drawing.marks.Shows.{Shows}
use Rattle.fr_picture.specs.declared.drawing.marks.Shows.TheVariants.{Nothing, Slot, Gap}

-- the slot is held, or something is sent in it, or one of the changes is drawn in it
unfoldable pub is_used : List GrantRow → List Sending → List DifferenceRow → ℕ → Bool
is_used holds sendings changes slot =
    (list_any (λ g. nat_eq g.slot slot) holds || list_any (λ s. nat_eq s.slot slot) sendings) || list_any (is_of_slot slot) changes

-- the slot from which on none up to this one is used
unfoldable pub first_free : (ℕ → Bool) → ℕ → ℕ
first_free used zero = 1
first_free used (suc slot) = if used (suc slot) then suc (suc slot) else first_free used slot

-- What is shown at the place of a slot, where the cluster has so many. A slot that is used is shown. Slots one after another that are not are one
-- gap, which is shown at the place of the last of them; behind the cluster's last slot there is none.
unfoldable pub shows_at : (ℕ → Bool) → ℕ → ℕ → Shows
shows_at used last slot =
    if used slot then Slot slot
    else if nat_lt last slot || (nat_lt slot last && not (used (suc slot))) then Nothing
    else Gap (first_free used slot) slot

-- the same of each slot that a cluster may have
unfoldable pub shown_of : (ℕ → Bool) → ℕ → List Shows
shown_of used last = map (shows_at used last) (range_with_len 1 1023)
