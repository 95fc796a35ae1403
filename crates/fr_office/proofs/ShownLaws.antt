-- The rows that are shown, one after another.
use Rattle.std.proofs.Common.{◌≡◌, List, [], ◌∷◌, ◌++◌, map, refl, sym, ap, ◌∙◌, append_assoc, append-nil}
use Rattle.std.specs.List.{flat_map}

-- what is made of what is made of each
pub flat-map : {A B R : Type 0} (f : B → List R) (g : A → B) (xs : List A) → flat_map f (map g xs) ≡ flat_map (λ x. f (g x)) xs
flat-map f g [] = refl
flat-map f g (x ∷ xs) = ap (λ rest. f (g x) ++ rest) (flat-map f g xs)

module _ {E R : Type 0} (f : E → List R) where
  -- one more is shown
  pub shown-more : (e : E) (rest left : List E) (old new all : List R) → rest ≡ e ∷ left → new ≡ old ++ f e → old ++ flat_map f rest ≡ all → new ++ flat_map f left ≡ all
  shown-more e rest left old new all s n h =
      ap (λ rs. rs ++ flat_map f left) n
      ∙ append_assoc old (f e) (flat_map f left)
      ∙ ap (λ es. old ++ flat_map f es) (sym s)
      ∙ h

  -- when none is left, all are there
  pub shown-all : (rest : List E) (now all : List R) → rest ≡ [] → now ++ flat_map f rest ≡ all → now ≡ all
  shown-all rest now all s h = sym (append-nil now) ∙ ap (λ es. now ++ flat_map f es) (sym s) ∙ h
