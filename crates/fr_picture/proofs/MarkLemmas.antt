-- Slots that are marked, and what is shown at their places.
use Rattle.std.proofs.Common.{◌≡◌, ◌≢◌, ◌⊎◌, inl, inr, ℕ, suc, ◌+◌, ◌-◌, ◌<◌, ◌≤◌, Bool, true, false, not, ◌&&◌, ◌||◌, cond, List, [], ◌∷◌, ◌++◌, length, get_or, take, map, replicate, refl, sym, ap, ◌∙◌, arith}
use Rattle.std.proofs.Math.Bool.{and-false, or_assoc, or-false, or-true}
use Rattle.std.proofs.Math.Dec.{eqb, ltb}
use Rattle.std.proofs.Math.ListN.{set}
use Rattle.std.specs.List.{list_any, range_with_len}
use Rattle.std.proofs.lemmas.Bool.{cases_lt, le-ltb}
use Rattle.std.proofs.lemmas.Bool.Decides.{eqb_tells}
use Rattle.std.proofs.lemmas.List.{get_or_past, get_or-replicate, get_or-set_same, get_or-set_other, length-replicate}
use Rattle.std.proofs.lemmas.List.Folds.{list_any_more}
use Rattle.std.proofs.lemmas.List.FromFn.{map-range_with_len_more}
use Rattle.fr_base.specs.declared.answer.DifferenceRow.{DifferenceRow}
use Rattle.fr_base.specs.declared.answer.GrantRow.{GrantRow}
use Rattle.fr_base.specs.declared.answer.Sending.{Sending}
use Rattle.fr_picture.specs.Changes.{is_of_slot}
use Rattle.fr_picture.specs.Places.{is_slot}
use Rattle.fr_picture.specs.Shown.{first_free, is_used, shown_of, shows_at}
use Rattle.fr_picture.specs.declared.drawing.marks.Shows.{Shows}
use Rattle.fr_picture.specs.declared.drawing.marks.Shows.TheVariants.{Nothing, Slot, Gap}

marked_case : (marks : List Bool) (k n : ℕ) → k < length marks → ((eqb k n ≡ true) × (k ≡ n)) ⊎ ((eqb k n ≡ false) × (k ≢ n))
    → get_or (set marks k true) n false ≡ (get_or marks n false || eqb k n)
marked_case marks k n small (inl own) =
    ap (λ j. get_or (set marks k true) j false) (sym own.1) ∙ get_or-set_same marks k true false small
    ∙ sym (ap (λ b. get_or marks n false || b) own.0 ∙ or-true (get_or marks n false))
marked_case marks k n small (inr other) =
    get_or-set_other marks k n true false (λ same. other.1 (sym same)) ∙ sym (ap (λ b. get_or marks n false || b) other.0 ∙ or-false (get_or marks n false))

pub marked : (marks : List Bool) (k n : ℕ) → k < length marks → get_or (set marks k true) n false ≡ (get_or marks n false || eqb k n)
marked marks k n small = marked_case marks k n small (eqb_tells k n)

pub ruleset marking = (marked)

-- a loop's step: the rows so far are marked, and one more
pub marked_none : (old : Bool) → old ≡ (old || false)
marked_none old = sym (or-false old)

pub marked_more : {X : Type 0} (marks : X → Bool) (rows : List X) (i : ℕ) (x : X) (old mid new : Bool) → i < length rows → x ≡ get_or rows i x → mid ≡ (old || list_any marks (take i rows))
    → new ≡ (mid || marks x) → new ≡ (old || list_any marks (take (i + 1) rows))
marked_more marks rows i x old mid new small read before now =
    now ∙ ap (λ b. b || marks x) before ∙ or_assoc old (list_any marks (take i rows)) (marks x)
    ∙ ap (λ b. old || b) (sym (list_any_more marks rows i x small ∙ ap (λ y. list_any marks (take i rows) || marks y) (sym read)))

-- ---- what is shown

none_marked_case : (n i : ℕ) → (i < n) ⊎ (n ≤ i) → get_or (replicate n false) i false ≡ false
none_marked_case n i (inl small) = get_or-replicate n i false false small
none_marked_case n i (inr large) = get_or_past (replicate n false) i false (omega (arith, large, length-replicate n false))

-- no slot is marked at first
pub none_marked : (n i : ℕ) → get_or (replicate n false) i false ≡ false
none_marked n i = none_marked_case n i (cases_lt i n)

pub used_of : (holds : List GrantRow) (cells : List Sending) (changes : List DifferenceRow) (n : ℕ) (none held sent all : Bool) → none ≡ false → held ≡ (none || list_any (λ g. eqb g.slot n) holds)
    → sent ≡ (held || list_any (λ s. eqb s.slot n) cells) → all ≡ (sent || list_any (is_of_slot n) changes) → all ≡ is_used holds cells changes n
unfolding is_used
used_of holds cells changes n none held sent all free grants rest changed =
    changed ∙ ap (λ b. b || list_any (is_of_slot n) changes)
    (rest ∙ ap (λ b. b || list_any (λ s. eqb s.slot n) cells) (grants ∙ ap (λ b. b || list_any (λ g. eqb g.slot n) holds) free))

pub unset : (mark : Bool) → not mark ≡ false → mark ≡ true
unset true e = refl
unset false e = sym e

module _ (used : ℕ → Bool) where
  -- where a slot is not used, the same are free up to it
  free_on : (n : ℕ) → used (suc n) ≡ false → first_free used (suc n) ≡ first_free used n
  unfolding first_free
  free_on n free = ap (λ b. cond b (suc (suc n)) (first_free used n)) free

  free_behind : (n : ℕ) → used (suc n) ≡ true → first_free used (suc n) ≡ suc (suc n)
  unfolding first_free
  free_behind n here = ap (λ b. cond b (suc (suc n)) (first_free used n)) here

  pub first_is_free : 1 ≡ first_free used 0
  unfolding first_free
  first_is_free = refl

  goes_on : (last slot : ℕ) → slot ≤ last → (last ≤ slot) ⊎ (used (suc slot) ≡ true) → (ltb last slot || (ltb slot last && not (used (suc slot)))) ≡ false
  goes_on last slot small (inl end) = ap (λ b. b || (ltb slot last && not (used (suc slot)))) (le-ltb last slot small) ∙ ap (λ b. b && not (used (suc slot))) (le-ltb slot last end)
  goes_on last slot small (inr next) =
      ap (λ b. b || (ltb slot last && not (used (suc slot)))) (le-ltb last slot small) ∙ ap (λ b. ltb slot last && not b) next ∙ and-false (ltb slot last)

  -- a gap ends at the cluster's last slot, or before one that is used
  pub gap_here : (last slot free n : ℕ) → slot ≡ suc n → used slot ≡ false → slot ≤ last → (last ≤ slot) ⊎ (used (suc slot) ≡ true) → free ≡ first_free used n
      → Gap free slot ≡ shows_at used last slot
  unfolding shows_at
  gap_here last slot free n at here small ends first =
      let same : first_free used slot ≡ free = ap (first_free used) at ∙ free_on n (ap used (sym at) ∙ here) ∙ sym first in
      sym (ap (λ b. cond b (Slot slot) (cond (ltb last slot || (ltb slot last && not (used (suc slot)))) Nothing (Gap (first_free used slot) slot))) here
      ∙ ap (λ b. cond b Nothing (Gap (first_free used slot) slot)) (goes_on last slot small ends) ∙ ap (λ f. Gap f slot) same)

  slot_case : (last slot : ℕ) (here on : Bool) → is_slot (cond here (Slot slot) (cond on Nothing (Gap (first_free used slot) slot))) ≡ here
  unfolding is_slot
  slot_case last slot true on = refl
  slot_case last slot false true = refl
  slot_case last slot false false = refl

  is_used_slot : (last slot : ℕ) → is_slot (shows_at used last slot) ≡ used slot
  unfolding shows_at
  is_used_slot last slot = slot_case last slot (used slot) (ltb last slot || (ltb slot last && not (used (suc slot))))

  -- a loop's step: the places so far, and one more
  pub shown_more : (last slot : ℕ) (next : Shows) (old new : List Shows) → 1 ≤ slot → next ≡ shows_at used last slot → old ≡ map (shows_at used last) (range_with_len 1 (slot - 1))
      → new ≡ old ++ next ∷ [] → new ≡ map (shows_at used last) (range_with_len 1 (slot + 1 - 1))
  shown_more last slot next old new least is before after =
      let at : 1 + (slot - 1) ≡ slot = omega (arith, least) in
      let more : slot - 1 + 1 ≡ slot + 1 - 1 = omega (arith, least) in
      after ∙ ap (λ xs. xs ++ next ∷ []) before ∙ ap (λ x. map (shows_at used last) (range_with_len 1 (slot - 1)) ++ x ∷ []) is
      ∙ sym (map-range_with_len_more (shows_at used last) 1 (slot - 1) slot at) ∙ ap (λ k. map (shows_at used last) (range_with_len 1 k)) more

  free_more_at : (last n free now : ℕ) (next : Shows) → next ≡ shows_at used last (suc n) → ((is_slot next ≡ true) × (now ≡ suc (suc n))) ⊎ ((is_slot next ≡ false) × (now ≡ free))
      → free ≡ first_free used n → now ≡ first_free used (suc n)
  free_more_at last n free now next is (inl shown) before = shown.1 ∙ sym (free_behind n (sym (is_used_slot last (suc n)) ∙ ap is_slot (sym is) ∙ shown.0))
  free_more_at last n free now next is (inr other) before = other.1 ∙ before ∙ sym (free_on n (sym (is_used_slot last (suc n)) ∙ ap is_slot (sym is) ∙ other.0))

  pub free_more : (last slot free now : ℕ) (next : Shows) → 1 ≤ slot → next ≡ shows_at used last slot → ((is_slot next ≡ true) × (now ≡ slot + 1)) ⊎ ((is_slot next ≡ false) × (now ≡ free))
      → free ≡ first_free used (slot - 1) → now ≡ first_free used (slot + 1 - 1)
  free_more last slot free now next least is which before =
      let at : slot ≡ suc (slot - 1) = omega (arith, least) in
      let more : suc (slot - 1) ≡ slot + 1 - 1 = omega (arith, least) in
      let behind : slot + 1 ≡ suc (suc (slot - 1)) = omega (arith, least) in
      let shifted : ((is_slot next ≡ true) × (now ≡ suc (suc (slot - 1)))) ⊎ ((is_slot next ≡ false) × (now ≡ free)) =
      elim which [ inl shown ↦ inl (shown.0, shown.1 ∙ behind) | inr other ↦ inr other ] in
      free_more_at last (slot - 1) free now next (is ∙ ap (shows_at used last) at) shifted before ∙ ap (first_free used) more

  pub all_shown : (last slot : ℕ) (shown : List Shows) → 1024 ≤ slot → slot ≤ 1024 → shown ≡ map (shows_at used last) (range_with_len 1 (slot - 1)) → shown ≡ shown_of used last
  unfolding shown_of
  all_shown last slot shown least most is =
      let end : slot - 1 ≡ 1023 = omega (arith, least, most) in
      is ∙ ap (λ k. map (shows_at used last) (range_with_len 1 k)) end
