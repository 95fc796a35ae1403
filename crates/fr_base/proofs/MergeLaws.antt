-- What two tables differ in is what a merge of their rows tells.
use Rattle.std.proofs.Common.{◌≡◌, Bool, true, false, cond, List, [], ◌∷◌, ◌++◌, map, Option, Some, None, refl, sym, ap, subst, ◌∙◌, Ordering, Less, Equal, Greater}
use Rattle.std.specs.Prelude.{T, ⊤}
use Rattle.std.specs.List.{flat_map}
use Rattle.std.specs.Ordering.{is_lt, is_eq, eq_by_cmp, ordering_reverse}
use Rattle.std.specs.Cmp.{tied_itself}
use Rattle.std.specs.FinMap.Entries.{put, find, is_sorted, below_all, by_order}
use Rattle.fr_base.specs.TableRows.{both, first, second}
use Rattle.fr_base.specs.Tables.{Order, Table, get, insert, from_rows}
use Rattle.fr_base.specs.Differences.{differ, keys_of_both, between}
use Rattle.fr_base.specs.Merging.{gone, come, met, put_in, merge}
use Rattle.fr_base.specs.declared.answer.DifferenceRow.{DifferenceRow}
use Rattle.fr_base.specs.declared.answer.SeenRow.{SeenRow}
use Rattle.fr_base.proofs.TableLaws.{put_front, same_table, get-insert, get-from_rows, none_above, insert-same}
use Rattle.fr_base.proofs.SoundTables.{same_key}

pub less : (r : Ordering) → T (is_lt r) → r ≡ Less
less Less h = refl
less Equal h = absurd h
less Greater h = absurd h

pub is_less : (r : Ordering) → r ≡ Less → T (is_lt r)
is_less r e = subst (λ r. T (is_lt r)) (sym e) tt

pub turned : {K : Type 0} (o : Order K) (k j : K) → o.compare k j ≡ Less → o.compare j k ≡ Greater
turned o k j e = o.total.antisymm j k ∙ ap ordering_reverse e

pub lesser : {K : Type 0} (o : Order K) (k j : K) → o.compare k j ≡ Greater → o.compare j k ≡ Less
lesser o k j e = o.total.antisymm j k ∙ ap ordering_reverse e

swapped : (a b : Bool) (r : Option ⊤) → cond a (Some tt) (cond b (Some tt) r) ≡ cond b (Some tt) (cond a (Some tt) r)
swapped true true r = refl
swapped true false r = refl
swapped false true r = refl
swapped false false r = refl

there : {K : Type 0} (o : Order K) (t : Table o ⊤) (k : K) → get (insert t k tt) k ≡ Some tt
there o t k = get-insert t k tt k ∙ ap (λ b. cond b (Some tt) (get t k)) (same_key o k)

module _ {K V : Type 0} (o : Order K) where
  -- a lesser key is below all that a key is below
  pub below-less : (k j : K) (es : List (K × V)) → o.compare k j ≡ Less → T (below_all o.compare j es) → T (below_all o.compare k es)
  below-less k j [] e h = tt
  below-less k j (x ∷ es) e h =
      both _ _ (is_less _ (o.total.trans k j x.0 e (less _ (first _ _ h)))) (below-less k j es e (second _ _ h))

  pub below-tied : (k j : K) (es : List (K × V)) → o.compare k j ≡ Equal → T (below_all o.compare j es) → T (below_all o.compare k es)
  below-tied k j [] e h = tt
  below-tied k j (x ∷ es) e h =
      both _ _ (is_less _ (o.total.congr k j x.0 e ∙ less _ (first _ _ h))) (below-tied k j es e (second _ _ h))

  below-put : (k j : K) (v : V) (es : List (K × V)) → T (is_lt (o.compare k j)) → T (below_all o.compare k es) → T (below_all o.compare k (put o.compare j v es))
  below-put k j v [] e h = both _ _ e tt
  below-put k j v (x ∷ es) e h =
      elim (o.compare j x.0) as (λ r. T (below_all o.compare k (by_order r ((j, v) ∷ x ∷ es) ((x.0, v) ∷ es) (x ∷ put o.compare j v es)))) [
        | Less ↦ both _ _ e h
        | Equal ↦ h
        | Greater ↦ both _ _ (first _ _ h) (below-put k j v es e (second _ _ h))
      ]

  below-from_rows : (k : K) (es : List (K × V)) → T (below_all o.compare k es) → T (below_all o.compare k (from_rows {o = o} es).rows)
  unfolding from_rows insert
  below-from_rows k [] h = tt
  below-from_rows k (x ∷ es) h = below-put k x.0 x.1 (from_rows {o = o} es).rows (first _ _ h) (below-from_rows k es (second _ _ h))

  -- a key that is below all stands nowhere
  pub nowhere : (k : K) (es : List (K × V)) → T (below_all o.compare k es) → find o.compare k es ≡ None
  nowhere k es h = none_above o (λ _ _. true) k k es (tied_itself o.total k) h

  pub found_first : (x : K × V) (es : List (K × V)) → find o.compare x.0 (x ∷ es) ≡ Some x.1
  found_first x es = ap (λ b. cond b (Some x.1) (find o.compare x.0 es)) (same_key o x.0)

  -- a key above another is looked up behind it
  pub found_behind : (x : K × V) (es : List (K × V)) (k : K) → o.compare x.0 k ≡ Less → find o.compare k (x ∷ es) ≡ find o.compare k es
  found_behind x es k e = ap (λ r. cond (is_eq r) (Some x.1) (find o.compare k es)) (turned o x.0 k e)

-- ---- the keys of both

module _ {K V : Type 0} (o : Order K) where
  abbrev key : K × V → K × ⊤
  key e = (e.0, tt)

  abbrev key_table : List (K × V) → List (K × V) → Table o ⊤
  key_table es fs = from_rows (map key (es ++ fs))

  abbrev both_keys : List (K × V) → List (K × V) → List (K × ⊤)
  both_keys es fs = (key_table es fs).rows

  below-keys : (k : K) (es fs : List (K × V)) → T (below_all o.compare k es) → T (below_all o.compare k fs) → T (below_all o.compare k (map key (es ++ fs)))
  below-keys k [] [] h g = tt
  below-keys k [] (y ∷ fs) h g = both _ _ (first _ _ g) (below-keys k [] fs tt (second _ _ g))
  below-keys k (x ∷ es) fs h g = both _ _ (first _ _ h) (below-keys k es fs (second _ _ h) g)

  below-both : (k : K) (es fs : List (K × V)) → T (below_all o.compare k es) → T (below_all o.compare k fs) → T (below_all o.compare k (both_keys es fs))
  below-both k es fs h g = below-from_rows o k (map key (es ++ fs)) (below-keys k es fs h g)

  find-mid : (q : K) (es : List (K × V)) (y : K × V) (fs : List (K × V)) → find o.compare q (map key (es ++ y ∷ fs)) ≡ cond (eq_by_cmp o.compare q y.0) (Some tt) (find o.compare q (map key (es ++ fs)))
  find-mid q [] y fs = refl
  find-mid q (x ∷ es) y fs =
      ap (cond (eq_by_cmp o.compare q x.0) (Some tt)) (find-mid q es y fs)
      ∙ swapped (eq_by_cmp o.compare q x.0) (eq_by_cmp o.compare q y.0) (find o.compare q (map key (es ++ fs)))

  -- a key of the other table is one of both
  mid_table : (es : List (K × V)) (y : K × V) (fs : List (K × V)) → key_table es (y ∷ fs) ≡ insert (key_table es fs) y.0 tt
  mid_table es y fs = same_table _ _ (λ q.
      get-from_rows o (map key (es ++ y ∷ fs)) q
      ∙ find-mid q es y fs
      ∙ ap (cond (eq_by_cmp o.compare q y.0) (Some tt)) (sym (get-from_rows o (map key (es ++ fs)) q))
      ∙ sym (get-insert (key_table es fs) y.0 tt q))

  rows-front : (k : K) (es fs : List (K × V)) → T (below_all o.compare k es) → T (below_all o.compare k fs) → (insert (key_table es fs) k tt).rows ≡ (k, tt) ∷ both_keys es fs
  unfolding insert
  rows-front k es fs h g = put_front o.compare k tt (both_keys es fs) (below-both k es fs h g)

  keys-old : (x : K × V) (es fs : List (K × V)) → T (below_all o.compare x.0 es) → T (below_all o.compare x.0 fs) → both_keys (x ∷ es) fs ≡ (x.0, tt) ∷ both_keys es fs
  unfolding from_rows
  keys-old x es fs h g = rows-front x.0 es fs h g

  keys-new : (y : K × V) (es fs : List (K × V)) → T (below_all o.compare y.0 es) → T (below_all o.compare y.0 fs) → both_keys es (y ∷ fs) ≡ (y.0, tt) ∷ both_keys es fs
  keys-new y es fs h g = ap (λ (t : Table o ⊤). t.rows) (mid_table es y fs) ∙ rows-front y.0 es fs h g

  twice : (es : List (K × V)) (y : K × V) (fs : List (K × V)) (k : K) → k ≡ y.0 → insert (key_table es (y ∷ fs)) k tt ≡ insert (key_table es fs) k tt
  twice es y fs k e =
      ap (λ t. insert t k tt) (mid_table es y fs ∙ ap (λ j. insert (key_table es fs) j tt) (sym e))
      ∙ insert-same (insert (key_table es fs) k tt) k tt (there o (key_table es fs) k)

  keys-both : (x y : K × V) (es fs : List (K × V)) → x.0 ≡ y.0 → T (below_all o.compare x.0 es) → T (below_all o.compare x.0 fs) → both_keys (x ∷ es) (y ∷ fs) ≡ (x.0, tt) ∷ both_keys es fs
  unfolding from_rows
  keys-both x y es fs e h g = ap (λ (t : Table o ⊤). t.rows) (twice es y fs x.0 e) ∙ rows-front x.0 es fs h g

-- ---- what is told of them

module _ {K V : Type 0} (o : Order K) (same : V → V → Bool) (told : K × V → SeenRow) where
  abbrev compare : K × V → K × V → Ordering
  compare x y = o.compare x.0 y.0

  abbrev same_value : K × V → K × V → Bool
  same_value x y = same x.1 y.1

  abbrev walk : List (K × V) → List (K × V) → List DifferenceRow
  walk es fs = merge compare same_value told es fs

  abbrev told_at : List (K × V) → List (K × V) → K × ⊤ → List DifferenceRow
  told_at es fs e = differ same told e.0 (find o.compare e.0 es) (find o.compare e.0 fs)

  abbrev told_of : List (K × V) → List (K × V) → List DifferenceRow
  told_of es fs = flat_map (told_at es fs) (both_keys o es fs)

  flat-above : (k : K) (f g : K × ⊤ → List DifferenceRow) (ks : List (K × ⊤)) → T (below_all o.compare k ks) → ((e : K × ⊤) → o.compare k e.0 ≡ Less → f e ≡ g e) → flat_map f ks ≡ flat_map g ks
  flat-above k f g [] h alike = refl
  flat-above k f g (e ∷ ks) h alike = λ i. alike e (less _ (first _ _ h)) i ++ flat-above k f g ks (second _ _ h) alike i

  only-old : (x : K × V) (es fs : List (K × V)) → T (below_all o.compare x.0 es) → T (below_all o.compare x.0 fs) → told_of (x ∷ es) fs ≡ gone compare same_value told x ∷ told_of es fs
  unfolding differ
  only-old x es fs h g =
      ap (flat_map (told_at (x ∷ es) fs)) (keys-old o x es fs h g)
      ∙ (λ i. differ same told x.0 (found_first o x es i) (nowhere o x.0 fs g i)
      ++ flat-above x.0 (told_at (x ∷ es) fs) (told_at es fs) (both_keys o es fs) (below-both o x.0 es fs h g) (λ e above. ap (λ r. differ same told e.0 r (find o.compare e.0 fs)) (found_behind o x es e.0 above)) i)

  only-new : (y : K × V) (es fs : List (K × V)) → T (below_all o.compare y.0 es) → T (below_all o.compare y.0 fs) → told_of es (y ∷ fs) ≡ come compare same_value told y ∷ told_of es fs
  unfolding differ
  only-new y es fs h g =
      ap (flat_map (told_at es (y ∷ fs))) (keys-new o y es fs h g)
      ∙ (λ i. differ same told y.0 (nowhere o y.0 es h i) (found_first o y fs i)
      ++ flat-above y.0 (told_at es (y ∷ fs)) (told_at es fs) (both_keys o es fs) (below-both o y.0 es fs h g) (λ e above. ap (differ same told e.0 (find o.compare e.0 es)) (found_behind o y fs e.0 above)) i)

  one-key : (x y : K × V) (es fs : List (K × V)) → x.0 ≡ y.0 → T (below_all o.compare x.0 es) → T (below_all o.compare x.0 fs) → told_of (x ∷ es) (y ∷ fs) ≡ met compare same_value told x y ++ told_of es fs
  unfolding differ met
  one-key x y es fs e h g =
      ap (flat_map (told_at (x ∷ es) (y ∷ fs))) (keys-both o x y es fs e h g)
      ∙ (λ i. differ same told x.0 (found_first o x es i) ((ap (λ k. find o.compare k (y ∷ fs)) e ∙ found_first o y fs) i)
      ++ flat-above x.0 (told_at (x ∷ es) (y ∷ fs)) (told_at es fs) (both_keys o es fs) (below-both o x.0 es fs h g) (λ k above. λ j.
      differ same told k.0 (found_behind o x es k.0 above j) (found_behind o y fs k.0 (ap (λ z. o.compare z k.0) (sym e) ∙ above) j)) i)
      ∙ ap (λ z. cond (same x.1 y.1) [] (gone compare same_value told x ∷ record { is_new = true; row = told z } ∷ []) ++ told_of es fs) (λ i. (e i, y.1))

  told-news : (fs : List (K × V)) → T (is_sorted o.compare fs) → told_of [] fs ≡ map (come compare same_value told) fs
  unfolding from_rows
  told-news [] h = refl
  told-news (y ∷ fs) h = only-new y [] fs tt (first _ _ h) ∙ ap (λ ds. come compare same_value told y ∷ ds) (told-news fs (second _ _ h))

  told-in : (x : K × V) (es : List (K × V)) → T (below_all o.compare x.0 es) → ((fs : List (K × V)) → T (is_sorted o.compare fs) → told_of es fs ≡ walk es fs) →
      (fs : List (K × V)) → T (is_sorted o.compare fs) → T (is_sorted o.compare (x ∷ es)) → told_of (x ∷ es) fs ≡ put_in compare same_value told x (walk es) fs
  unfolding put_in
  told-in x es h rest [] g s = only-old x es [] h tt ∙ ap (λ ds. gone compare same_value told x ∷ ds) (rest [] tt)
  told-in x es h rest (y ∷ fs) g s =
      elim (o.compare x.0 y.0) as (λ r. o.compare x.0 y.0 ≡ r → told_of (x ∷ es) (y ∷ fs) ≡ by_order r (gone compare same_value told x ∷ walk es (y ∷ fs)) (met compare same_value told x y ++ walk es fs) (come compare same_value told y ∷ put_in compare same_value told x (walk es) fs)) [
        | Less ↦ λ e. only-old x es (y ∷ fs) h (both _ _ (is_less _ e) (below-less o x.0 y.0 fs e (first _ _ g))) ∙ ap (λ ds. gone compare same_value told x ∷ ds) (rest (y ∷ fs) g)
        | Equal ↦ λ e. one-key x y es fs (o.exact x.0 y.0 e) h (below-tied o x.0 y.0 fs e (first _ _ g)) ∙ ap (λ ds. met compare same_value told x y ++ ds) (rest fs (second _ _ g))
        | Greater ↦ λ e.
            let lesser = lesser o x.0 y.0 e in
            only-new y (x ∷ es) fs (both _ _ (is_less _ lesser) (below-less o y.0 x.0 es lesser h)) (first _ _ g) ∙ ap (λ ds. come compare same_value told y ∷ ds) (told-in x es h rest fs (second _ _ g) s)
      ] refl

  told-walk : (es : List (K × V)) → T (is_sorted o.compare es) → (fs : List (K × V)) → T (is_sorted o.compare fs) → told_of es fs ≡ walk es fs
  unfolding merge
  told-walk [] h fs g = told-news fs g
  told-walk (x ∷ es) h fs g = told-in x es (first _ _ h) (told-walk es (second _ _ h)) fs g h

  -- what two tables differ in, by one walk over both
  pub between-merge : (old new : Table o V) → between same told old new ≡ walk old.rows new.rows
  unfolding between keys_of_both get
  between-merge old new = told-walk old.rows old.sorted new.rows new.sorted
