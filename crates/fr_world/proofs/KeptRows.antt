-- What wishes keep, and the wishes that keep nothing, one by one.
use Rattle.std.proofs.Common.{◌≡◌, ◌∙◌, ℕ, ◌+◌, ◌<◌, true, false, List, [], ◌∷◌, ◌++◌, length, get_or, take, Option, Some, None, is_some, refl, sym, ap, append_assoc}
use Rattle.std.specs.Prelude.{is_none}
use Rattle.std.proofs.lemmas.List.{take_more}
use Rattle.fr_base.specs.Turns.{places_given, with_place}
use Rattle.fr_base.specs.declared.name.Name.{Name}
use Rattle.fr_base.specs.declared.placement.Placement.{Placement}
use Rattle.fr_base.specs.declared.proposal.Given.{Given}
use Rattle.fr_world.proofs.TurnLaws.{placed-one, places-append}

pub not-none : (o : Option Placement) → is_some o ≡ true → is_none o ≡ false
not-none (Some q) some = refl
not-none None some = sym some

pub no-place : (o : Option Placement) → is_some o ≡ false → o ≡ None
no-place (Some q) none = cc
no-place None none = refl

pub no-some : (o : Option Placement) → is_some o ≡ false → is_none o ≡ true
no-some o none = ap is_none (no-place o none)

module _ (cells : List (Name × Placement)) (kept : List Given) (i : ℕ) (one : Given) (low : i < length kept) (is : one ≡ get_or kept i one) where
  -- what is kept fills its places
  pub kept-cells : (olds news : List (Name × Placement)) → olds ≡ cells ++ places_given (take i kept) → news ≡ with_place olds one.asked.wish.frame one.place → news ≡ cells ++ places_given (take (i + 1) kept)
  kept-cells olds news was e =
      e ∙ placed-one olds one.asked one.place
      ∙ ap (λ es. es ++ places_given (one ∷ [])) was
      ∙ append_assoc cells (places_given (take i kept)) (places_given (one ∷ []))
      ∙ ap (λ es. cells ++ es) (sym (places-append (take i kept) (one ∷ [])) ∙ ap places_given (ap (λ z. take i kept ++ z ∷ []) is ∙ sym (take_more kept i one low)))
