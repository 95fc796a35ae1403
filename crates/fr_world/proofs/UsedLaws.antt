-- The slots that placements are in, marked one by one.
use Rattle.std.proofs.Common.{◌≡◌, ℕ, ◌+◌, ◌<◌, Bool, true, false, ◌||◌, eqb, List, length, take, get_or, set, sym, ap, ◌∙◌, inl, inr, true≢false}
use Rattle.std.proofs.lemmas.Bool.{cases_Bool, eqb-true, eq-eqb, ne_eqb, or_right}
use Rattle.std.proofs.lemmas.List.{get_or-set_other, get_or-set_same}
use Rattle.std.proofs.lemmas.List.Folds.{list_any_more}
use Rattle.fr_world.specs.Sendings.{is_used}
use Rattle.fr_world.specs.declared.triggerings.FrameTriggering.{FrameTriggering}
use Rattle.fr_world.proofs.MaskLaws.{or_none}

-- with one placement more
used-next : (ps : List FrameTriggering) (i slot : ℕ) (p : FrameTriggering) → i < length ps → p ≡ get_or ps i p → is_used (take (i + 1) ps) slot ≡ (is_used (take i ps) slot || eqb slot p.placement.slot)
used-next ps i slot p l e = list_any_more (λ p. eqb slot p.placement.slot) ps i p l ∙ ap (λ q. is_used (take i ps) slot || eqb slot q.placement.slot) (sym e)

-- in a slot of no placement before, with one in another slot
pub unused-next : (ps : List FrameTriggering) (i slot : ℕ) (p : FrameTriggering) → i < length ps → p ≡ get_or ps i p → is_used (take i ps) slot ≡ false → (slot ≡ p.placement.slot → ⊥) → is_used (take (i + 1) ps) slot ≡ false
unused-next ps i slot p l e before other = used-next ps i slot p l e ∙ ap (λ b. b || eqb slot p.placement.slot) before ∙ ne_eqb _ _ other

-- its slot is marked
pub marked-next : (ps : List FrameTriggering) (i slot number : ℕ) (p : FrameTriggering) (marks : List Bool) → i < length ps → p ≡ get_or ps i p → number ≡ p.placement.slot → number < length marks
    → get_or marks slot false ≡ is_used (take i ps) slot → get_or (set marks number true) slot false ≡ is_used (take (i + 1) ps) slot
marked-next ps i slot number p marks l e same low h = elim (cases_Bool (eqb slot p.placement.slot)) [
  | inl here ↦
      let there : slot ≡ number = eqb-true slot p.placement.slot here ∙ sym same in
      ap (λ n. get_or (set marks number true) n false) there ∙ get_or-set_same marks number true false low
      ∙ sym (used-next ps i slot p l e ∙ or_right _ _ here)
  | inr other ↦
      get_or-set_other marks number slot true false (λ at. true≢false (sym (eq-eqb slot p.placement.slot (at ∙ same)) ∙ other))
      ∙ h ∙ sym (used-next ps i slot p l e ∙ or_none _ _ other)
]
