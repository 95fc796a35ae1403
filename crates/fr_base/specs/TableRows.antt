-- Rows in order stay in order where some are left out, and where values change.
use Rattle.std.specs.Prelude.{Bool, true, false, ◌&&◌, T, List, [], ◌∷◌, map, filter, cond}
use Rattle.std.specs.declared.cmp.Ordering.{Ordering}
use Rattle.std.specs.FinMap.Entries.{below_all, is_sorted}

pub both : (a b : Bool) → T a → T b → T (a && b)
both true b p q = q
both false b p q = p

pub first : (a b : Bool) → T (a && b) → T a
first true b p = tt
first false b p = p

pub second : (a b : Bool) → T (a && b) → T b
second true b p = p
second false b p = absurd p

module _ {K V : Type 0} (R : K → K → Ordering) where
  below_all-filter : (x : K) (p : K × V → Bool) (es : List (K × V)) → T (below_all R x es) → T (below_all R x (filter p es))
  below_all-filter x p [] h = tt
  below_all-filter x p (e ∷ es) h =
      let rest = below_all-filter x p es (second _ _ h) in
      elim (p e) as (λ b. T (below_all R x (cond b (e ∷ filter p es) (filter p es)))) [ true ↦ both _ _ (first _ _ h) rest | false ↦ rest ]

  pub is_sorted-filter : (p : K × V → Bool) (es : List (K × V)) → T (is_sorted R es) → T (is_sorted R (filter p es))
  is_sorted-filter p [] h = tt
  is_sorted-filter p (e ∷ es) h =
      let rest = is_sorted-filter p es (second _ _ h) in
      elim (p e) as (λ b. T (is_sorted R (cond b (e ∷ filter p es) (filter p es)))) [ true ↦ both _ _ (below_all-filter e.0 p es (first _ _ h)) rest | false ↦ rest ]

  module _ {W : Type 0} (f : V → W) where
    below_all-map : (x : K) (es : List (K × V)) → T (below_all R x es) → T (below_all R x (map (λ e. (e.0, f e.1)) es))
    below_all-map x [] h = tt
    below_all-map x (e ∷ es) h = both _ _ (first _ _ h) (below_all-map x es (second _ _ h))

    pub is_sorted-map : (es : List (K × V)) → T (is_sorted R es) → T (is_sorted R (map (λ e. (e.0, f e.1)) es))
    is_sorted-map [] h = tt
    is_sorted-map (e ∷ es) h = both _ _ (below_all-map e.0 es (first _ _ h)) (is_sorted-map es (second _ _ h))
