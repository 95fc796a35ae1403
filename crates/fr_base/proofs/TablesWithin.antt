-- A table whose keys all stand in another has no more rows.
use Rattle.std.proofs.Common.{◌≡◌, ◌≤◌, ◌∙◌, true, false, List, [], ◌∷◌, length, is_some, Less, Greater, sym, ap, subst, inl, inr, arith, true≢false}
use Rattle.std.specs.Prelude.{T}
use Rattle.std.specs.Ordering.{eq_by_cmp}
use Rattle.std.specs.FinMap.Entries.{find, is_sorted, below_all}
use Rattle.std.proofs.lemmas.Bool.{cases_Bool}
use Rattle.fr_base.specs.TableRows.{first, second}
use Rattle.fr_base.specs.Tables.{Order, Table, get, contains, len}
use Rattle.fr_base.proofs.TableLaws.{equal, none_above}
use Rattle.fr_base.proofs.MergeLaws.{less, turned, found_first}

module _ {K : Type 0} (o : Order K) where
  below-found : {V : Type 0} (k j : K) (es : List (K × V)) → T (below_all o.compare k es) → is_some (find o.compare j es) ≡ true → o.compare k j ≡ Less
  below-found k j [] h there = absurd (true≢false (sym there))
  below-found k j (e ∷ es) h there = elim (cases_Bool (eq_by_cmp o.compare j e.0)) [
    | inl here ↦ ap (o.compare k) (o.exact j e.0 (equal _ here)) ∙ less _ (first _ _ h)
    | inr other ↦ below-found k j es (second _ _ h) (rw other at there)
  ]

  found_later : {V : Type 0} (k : K) (e : K × V) (es : List (K × V)) → is_some (find o.compare k (e ∷ es)) ≡ true → eq_by_cmp o.compare k e.0 ≡ false → is_some (find o.compare k es) ≡ true
  found_later k e es there other = rw other at there

  clash : (k j : K) → o.compare k j ≡ Less → o.compare j k ≡ Less → ⊥
  clash k j h t = let no : Less ≡ Greater = sym t ∙ turned o k j h in cc

  abbrev AllFound : {V W : Type 0} → List (K × V) → List (K × W) → Type 0
  AllFound xs ys = (k : K) → is_some (find o.compare k xs) ≡ true → is_some (find o.compare k ys) ≡ true

  fewer : {V W : Type 0} (ys : List (K × W)) (xs : List (K × V)) → T (is_sorted o.compare xs) → T (is_sorted o.compare ys) → AllFound xs ys → length xs ≤ length ys
  fewer [] [] sx sy f = omega arith
  fewer [] (x ∷ xs) sx sy f = absurd (true≢false (sym (f x.0 (ap is_some (found_first o x xs)))))
  fewer (y ∷ ys) [] sx sy f = omega arith
  fewer (y ∷ ys) (x ∷ xs) sx sy f =
      elim (cases_Bool (eq_by_cmp o.compare x.0 y.0)) [
        | inl same ↦
            let key : x.0 ≡ y.0 = o.exact x.0 y.0 (equal _ same) in
            let rest = fewer ys xs (second _ _ sx) (second _ _ sy) (λ k there.
            elim (cases_Bool (eq_by_cmp o.compare k x.0)) [
              | inl here ↦ absurd (true≢false (sym there ∙ ap is_some (none_above o (λ k v. true) k x.0 xs (equal _ here) (first _ _ sx))))
              | inr other ↦ found_later k y ys (f k (rw other there)) (subst (λ j. eq_by_cmp o.compare k j ≡ false) key other)
            ]) in
            omega (arith, rest)
        | inr differ ↦
            let x_later : is_some (find o.compare x.0 ys) ≡ true = found_later x.0 y ys (f x.0 (ap is_some (found_first o x xs))) differ in
            let y_first : o.compare y.0 x.0 ≡ Less = below-found y.0 x.0 ys (first _ _ sy) x_later in
            let rest = fewer ys (x ∷ xs) sx (second _ _ sy) (λ k there.
            elim (cases_Bool (eq_by_cmp o.compare k y.0)) [
              | inl here ↦
                  let key : k ≡ y.0 = o.exact k y.0 (equal _ here) in
                  elim (cases_Bool (eq_by_cmp o.compare k x.0)) [
                    | inl too ↦ absurd (clash_self y.0 x.0 y_first (sym key ∙ o.exact k x.0 (equal _ too)))
                    | inr other ↦ absurd (clash y.0 x.0 y_first (subst (λ j. o.compare x.0 j ≡ Less) key (below-found x.0 k xs (first _ _ sx) (found_later k x xs there other))))
                  ]
              | inr other ↦ found_later k y ys (f k there) other
            ]) in
            omega (arith, rest)
      ]
    where
      clash_self : (j k : K) → o.compare j k ≡ Less → j ≡ k → ⊥
      clash_self j k h e = clash j k h (subst (λ (z : K × K). o.compare z.0 z.1 ≡ Less) (λ i. (e i, sym e i)) h)

  pub len-fewer : {V W : Type 0} (t : Table o V) (u : Table o W) → ((k : K) → contains t k ≡ true → contains u k ≡ true) → len t ≤ len u
  unfolding len get
  len-fewer t u f = fewer u.rows t.rows t.sorted u.sorted f
