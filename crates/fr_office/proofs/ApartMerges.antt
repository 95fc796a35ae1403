-- What a merge tells of rows that stand supplier after supplier is what merges of each supplier's rows tell, one after another.
use Rattle.std.proofs.Common.{◌≡◌, Bool, List, [], ◌∷◌, ◌++◌, map, All, refl, sym, ap, ◌∙◌, append_assoc, Ordering, Less, Equal, Greater}
use Rattle.std.specs.Prelude.{T}
use Rattle.std.specs.FinMap.Entries.{below_all, by_order, is_sorted}
use Rattle.std.specs.List.{flat_map}
use Rattle.std.proofs.lemmas.List.{map-append}
use Rattle.std.proofs.lemmas.List.Elements.{All-append, All-cons, All-head, All-nil, All-tail}
use Rattle.fr_base.specs.Keys.{names}
use Rattle.fr_base.specs.Merging.{come, gone, merge, met, put_in}
use Rattle.fr_base.specs.TableRows.{first, second}
use Rattle.fr_base.specs.declared.answer.DifferenceRow.{DifferenceRow}
use Rattle.fr_base.specs.declared.answer.SeenRow.{SeenRow}
use Rattle.fr_base.specs.declared.key.Key.{Key}
use Rattle.fr_base.specs.declared.name.Name.{Name}
use Rattle.fr_base.proofs.MergeLaws.{less, turned}

module _ {X : Type 0} (compare : X → X → Ordering) (same : X → X → Bool) (told : X → SeenRow) where
  abbrev walk : List X → List X → List DifferenceRow
  walk xs ys = merge compare same told xs ys

  abbrev goes : X → DifferenceRow
  goes = gone compare same told

  abbrev comes : X → DifferenceRow
  comes = come compare same told

  abbrev meets : X → X → List DifferenceRow
  meets = met compare same told

  abbrev put : X → (List X → List DifferenceRow) → List X → List DifferenceRow
  put = put_in compare same told

  -- rows of one kind come before those of another
  module _ (Low High : X → Type 0) (below : (x y : X) → Low x → High y → compare x y ≡ Less) (above : (x y : X) → High x → Low y → compare x y ≡ Greater) where
    come-apart : (us ys vs : List X) → All High us → All Low ys → walk us (ys ++ vs) ≡ map comes ys ++ walk us vs
    unfolding merge put_in
    come-apart [] ys vs high low = map-append comes ys vs
    come-apart (u ∷ us) [] vs high low = refl
    come-apart (u ∷ us) (y ∷ ys) vs high low =
        ap (λ r. by_order r (goes u ∷ walk us (y ∷ ys ++ vs)) (meets u y ++ walk us (ys ++ vs)) (comes y ∷ put u (walk us) (ys ++ vs)))
        (above u y (All-head High u us high) (All-head Low y ys low))
        ∙ ap (λ ds. comes y ∷ ds) (come-apart (u ∷ us) ys vs high (All-tail Low y ys low))

    gone-apart : (x : X) (rest : List X → List DifferenceRow) (vs : List X) → Low x → All High vs → put x rest vs ≡ goes x ∷ rest vs
    unfolding put_in
    gone-apart x rest [] low high = refl
    gone-apart x rest (v ∷ vs) low high =
        ap (λ r. by_order r (goes x ∷ rest (v ∷ vs)) (meets x v ++ rest vs) (comes v ∷ put x rest vs)) (below x v low (All-head High v vs high))

    put-apart : (x : X) (xs us vs : List X) → Low x → All High vs → ((ys : List X) → All Low ys → walk (xs ++ us) (ys ++ vs) ≡ walk xs ys ++ walk us vs) →
        (ys : List X) → All Low ys → put x (walk (xs ++ us)) (ys ++ vs) ≡ put x (walk xs) ys ++ walk us vs
    unfolding put_in
    put-apart x xs us vs least high rest [] low = gone-apart x (walk (xs ++ us)) vs least high ∙ ap (λ ds. goes x ∷ ds) (rest [] low)
    put-apart x xs us vs least high rest (y ∷ ys) low =
        let fewer = All-tail Low y ys low in
        elim (compare x y) as (λ r.
        by_order r (goes x ∷ walk (xs ++ us) (y ∷ ys ++ vs)) (meets x y ++ walk (xs ++ us) (ys ++ vs)) (comes y ∷ put x (walk (xs ++ us)) (ys ++ vs))
        ≡ by_order r (goes x ∷ walk xs (y ∷ ys)) (meets x y ++ walk xs ys) (comes y ∷ put x (walk xs) ys) ++ walk us vs) [
          | Less ↦ ap (λ ds. goes x ∷ ds) (rest (y ∷ ys) low)
          | Equal ↦ ap (λ ds. meets x y ++ ds) (rest ys fewer) ∙ sym (append_assoc (meets x y) (walk xs ys) (walk us vs))
          | Greater ↦ ap (λ ds. comes y ∷ ds) (put-apart x xs us vs least high rest ys fewer)
        ]

    merge-apart : (xs us vs : List X) → All Low xs → All High us → All High vs → (ys : List X) → All Low ys → walk (xs ++ us) (ys ++ vs) ≡ walk xs ys ++ walk us vs
    unfolding merge
    merge-apart [] us vs lows high highs ys low = come-apart us ys vs high low
    merge-apart (x ∷ xs) us vs lows high highs ys low = put-apart x xs us vs (All-head Low x xs lows) highs (merge-apart xs us vs (All-tail Low x xs lows) high highs) ys low

  -- ---- suppliers' rows

  module _ (of : X → Name) (by_supplier : (x y : X) → names.compare (of x) (of y) ≡ Less → compare x y ≡ Less)
      (turned_by : (x y : X) → names.compare (of x) (of y) ≡ Greater → compare x y ≡ Greater) where
    -- rows of suppliers above are above
    above_all : (rows : Name → List X) → ((s : Name) → All (λ x. of x ≡ s) (rows s)) → (s : Name) (ts : List (Name × Key)) → T (below_all names.compare s ts) →
        All (λ x. names.compare s (of x) ≡ Less) (flat_map (λ t. rows t.0) ts)
    above_all rows owned s [] below = All-nil (λ x. names.compare s (of x) ≡ Less)
    above_all rows owned s (t ∷ ts) below =
        All-append (λ x. names.compare s (of x) ≡ Less) (rows t.0) (flat_map (λ t. rows t.0) ts) (each (rows t.0) (owned t.0)) (above_all rows owned s ts (second _ _ below))
      where
        each : (xs : List X) → All (λ x. of x ≡ t.0) xs → All (λ x. names.compare s (of x) ≡ Less) xs
        each [] own = All-nil (λ x. names.compare s (of x) ≡ Less)
        each (x ∷ xs) own =
            All-cons (λ x. names.compare s (of x) ≡ Less) x xs (ap (names.compare s) (All-head (λ x. of x ≡ t.0) x xs own) ∙ less _ (first _ _ below)) (each xs (All-tail (λ x. of x ≡ t.0) x xs own))

    pub merge-suppliers : (olds news : Name → List X) → ((s : Name) → All (λ x. of x ≡ s) (olds s)) → ((s : Name) → All (λ x. of x ≡ s) (news s)) →
        (ts : List (Name × Key)) → T (is_sorted names.compare ts) →
        flat_map (λ t. walk (olds t.0) (news t.0)) ts ≡ walk (flat_map (λ t. olds t.0) ts) (flat_map (λ t. news t.0) ts)
    unfolding merge
    merge-suppliers olds news were are [] rise = refl
    merge-suppliers olds news were are (t ∷ ts) rise =
        ap (λ ds. walk (olds t.0) (news t.0) ++ ds) (merge-suppliers olds news were are ts (second _ _ rise))
        ∙ sym (merge-apart (λ x. of x ≡ t.0) (λ x. names.compare t.0 (of x) ≡ Less)
        (λ x y is after. by_supplier x y (ap (λ s. names.compare s (of y)) is ∙ after))
        (λ x y after is. turned_by x y (ap (names.compare (of x)) is ∙ turned names t.0 (of x) after))
        (olds t.0) (flat_map (λ t. olds t.0) ts) (flat_map (λ t. news t.0) ts)
        (were t.0) (above_all olds were t.0 ts (first _ _ rise)) (above_all news are t.0 ts (first _ _ rise)) (news t.0) (are t.0))
