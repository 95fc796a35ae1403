-- A difference is an edit of the rows that are seen, in the order of their kinds and keys.
use Rattle.std.proofs.Common.{◌≡◌, ◌≤◌, ◌<◌, ℕ, Bool, true, false, cond, not, List, [], ◌∷◌, ◌++◌, map, filter, Option, Some, None, All, refl, sym, ap, subst, ◌∙◌, inl, inr, arith, Less}
use Rattle.std.specs.Prelude.{⊤, T}
use Rattle.std.specs.declared.cmp.Ordering.{Ordering}
use Rattle.std.specs.Ordering.{nat_cmp, ordering_then, eq_by_cmp}
use Rattle.std.specs.Cmp.{nat_cmp_is, tied_itself}
use Rattle.std.specs.List.{Contains, flat_map}
use Rattle.std.specs.FinMap.Entries.{find, is_sorted, below_all}
use Rattle.std.proofs.lemmas.Bool.{cases_Bool}
use Rattle.std.proofs.lemmas.List.Elements.{All-nil, All-cons, All-head, All-tail, All-append, All-map, All-weaker, All-contains_itself}
use Rattle.fr_base.specs.TableRows.{both, first, second}
use Rattle.fr_base.specs.Tables.{Order, Table, get, each}
use Rattle.fr_base.specs.Keys.{owned, channel_slots}
use Rattle.fr_base.specs.Names.{same_text}
use Rattle.fr_base.specs.Signals.{SignalData}
use Rattle.fr_base.specs.Book.{Frame, Variant}
use Rattle.fr_base.specs.Seen.{seen_grants, seen_frames}
use Rattle.fr_base.specs.Differences.{differ, keys_of_both, between, placed_frames, starts, all_placements, all_signals, same_holder, same_signal, same_gap, grant_seen, frame_seen, placement_seen, signal_seen, gap_of, gap_seen, rows_of_frames, seen_rows, grants_differ, frames_differ, differences, has_row, lacked, shared, frames_lacked, frames_shared, missing, in_both}
use Rattle.fr_base.specs.EditLaws.{IsWoven, NewIsOldEdited, kind_of, key_cmp, seen_cmp, difference_cmp, Rises, SeenRowsAreInOrder, DifferencesAreInOrder}
use Rattle.fr_base.specs.declared.name.Name.{Name}
use Rattle.fr_base.specs.declared.params.Params.{Params}
use Rattle.fr_base.specs.declared.actor.Actor.{Actor}
use Rattle.fr_base.specs.declared.answer.DifferenceRow.{DifferenceRow}
use Rattle.fr_base.specs.declared.answer.SeenRow.{SeenRow}
use Rattle.fr_base.proofs.TableLaws.{equal, get-from_rows}
use Rattle.fr_base.proofs.SoundTables.{same_some}
use Rattle.fr_base.proofs.MergeLaws.{less, is_less}
use Rattle.fr_base.proofs.DifferenceLaws.{differences-differ, in_both-alike}
use Rattle.fr_base.proofs.DifferenceRows.{rows-found}

-- ---- two lists woven together

woven-append : {X : Type 0} (zs xs ys es fs gs : List X) → IsWoven zs xs ys → IsWoven es fs gs → IsWoven (zs ++ es) (xs ++ fs) (ys ++ gs)
woven-append {X = X} [] xs ys es fs gs ends w = subst (λ (l : List X × List X). IsWoven es (l.0 ++ fs) (l.1 ++ gs)) (λ i. (sym ends.0 i, sym ends.1 i)) w
woven-append (z ∷ zs) xs ys es fs gs (inl (rest, is, more)) w = inl (rest ++ fs, ap (λ l. l ++ fs) is, woven-append zs rest ys es fs gs more w)
woven-append (z ∷ zs) xs ys es fs gs (inr (rest, is, more)) w = inr (rest ++ gs, ap (λ l. l ++ gs) is, woven-append zs xs rest es fs gs more w)

-- what passes a test and what fails it
woven-parts : {E X : Type 0} (f : E → X) (q : E → Bool) (es : List E) → IsWoven (map f es) (map f (filter q es)) (map f (filter (λ e. not (q e)) es))
woven-parts f q [] = (refl, refl)
woven-parts f q (e ∷ es) =
    elim (q e) as (λ b. IsWoven (f e ∷ map f es) (map f (cond b (e ∷ filter q es) (filter q es))) (map f (cond (not b) (e ∷ filter (λ e. not (q e)) es) (filter (λ e. not (q e)) es)))) [
      | true ↦ inl (map f (filter q es), refl, woven-parts f q es)
      | false ↦ inr (map f (filter (λ e. not (q e)) es), refl, woven-parts f q es)
    ]

-- what a table shares with another and what it has alone
woven-table : {K V : Type 0} (o : Order K) (same : V → V → Bool) (told : K × V → SeenRow) (t other : Table o V) → IsWoven (map told t.rows) (shared same told t other) (lacked same told t other)
unfolding shared lacked
woven-table o same told t other = woven-parts told (has_row same other) t.rows

woven-frames : (p : Params) (frames others : Table owned Frame) → IsWoven (rows_of_frames p frames) (frames_shared p frames others) (frames_lacked p frames others)
unfolding rows_of_frames frames_shared frames_lacked
woven-frames p frames others =
    woven-append _ _ _ _ _ _
    (woven-append _ _ _ _ _ _
    (woven-append _ _ _ _ _ _
    (woven-table owned same_text frame_seen (each (λ f. f.node) frames) (each (λ f. f.node) others))
    (woven-table placed_frames (λ _ _. true) placement_seen (all_placements frames) (all_placements others)))
    (woven-table starts same_signal signal_seen (all_signals frames) (all_signals others)))
    (woven-table owned same_gap gap_seen (each (gap_of p) frames) (each (gap_of p) others))

woven-seen : (p : Params) (actor : Actor) (x other : Variant) → IsWoven (seen_rows p actor x) (in_both p actor x other) (missing p actor x other)
unfolding seen_rows in_both missing
woven-seen p actor x other =
    woven-append _ _ _ _ _ _
    (woven-table channel_slots same_holder grant_seen (seen_grants actor x.grants) (seen_grants actor other.grants))
    (woven-frames p (seen_frames actor x.frames) (seen_frames actor other.frames))

pub new-edited : NewIsOldEdited
new-edited p actor old new =
    let told = differences-differ p actor old new in
    record {
      kept = in_both p actor old new;
      was = subst (IsWoven (seen_rows p actor old) (in_both p actor old new)) (sym told.0) (woven-seen p actor old new);
      is =
          subst (λ (l : List SeenRow × List SeenRow). IsWoven (seen_rows p actor new) l.0 l.1) (λ i. (in_both-alike p actor new old i, sym told.1 i))
          (woven-seen p actor new old);
    }

-- ---- lists in order

module _ {X : Type 0} (compare : X → X → Ordering) where
  abbrev listed : X → X × ⊤
  listed x = (x, tt)

  abbrev Below : X → List X → Type 0
  Below x xs = T (below_all compare x (map listed xs))

  below-append : (x : X) (xs ys : List X) → Below x xs → Below x ys → Below x (xs ++ ys)
  below-append x [] ys h g = g
  below-append x (z ∷ xs) ys h g = both _ _ (first _ _ h) (below-append x xs ys (second _ _ h) g)

  module _ (kind : X → ℕ) (apart : (x y : X) → kind x < kind y → compare x y ≡ Less) where
    below-kinds : (a : ℕ) (x : X) → kind x ≤ a → (ys : List X) → All (λ y. a < kind y) ys → Below x ys
    below-kinds a x low [] high = tt
    below-kinds a x low (y ∷ ys) high =
        let above = All-head (λ y. a < kind y) y ys high in
        both _ _ (is_less _ (apart x y (omega (arith, low, above)))) (below-kinds a x low ys (All-tail (λ y. a < kind y) y ys high))

    -- lesser kinds before greater ones
    rises-append : (a : ℕ) (xs ys : List X) → All (λ x. kind x ≤ a) xs → All (λ y. a < kind y) ys → Rises compare xs → Rises compare ys → Rises compare (xs ++ ys)
    rises-append a [] ys low high h g = g
    rises-append a (x ∷ xs) ys low high h g =
        both _ _ (below-append x xs ys (first _ _ h) (below-kinds a x (All-head (λ x. kind x ≤ a) x xs low) ys high))
        (rises-append a xs ys (All-tail (λ x. kind x ≤ a) x xs low) high (second _ _ h) g)

    -- five kinds in turn
    abbrev AreOf : ℕ → List X → Type 0
    AreOf n xs = All (λ x. kind x ≡ n) xs

    of_least : (n a : ℕ) (xs : List X) → n ≤ a → AreOf n xs → All (λ x. kind x ≤ a) xs
    of_least n a xs low are = All-weaker (λ x. kind x ≡ n) (λ x. kind x ≤ a) (λ x is. omega (arith, is, low)) xs are

    of_most : (n a : ℕ) (xs : List X) → a < n → AreOf n xs → All (λ x. a < kind x) xs
    of_most n a xs high are = All-weaker (λ x. kind x ≡ n) (λ x. a < kind x) (λ x is. omega (arith, is, high)) xs are

    rises-four : (fs ps ss gs : List X) → AreOf 1 fs → AreOf 2 ps → AreOf 3 ss → AreOf 4 gs → Rises compare fs → Rises compare ps → Rises compare ss → Rises compare gs → Rises compare (fs ++ ps ++ ss ++ gs)
    rises-four fs ps ss gs f p s g rf rp rs rg =
        let P : ℕ → X → Type 0 = λ a x. kind x ≤ a in
        rises-append 3 (fs ++ ps ++ ss) gs
        (All-append (P 3) (fs ++ ps) ss (All-append (P 3) fs ps (of_least 1 3 fs (omega arith) f) (of_least 2 3 ps (omega arith) p)) (of_least 3 3 ss (omega arith) s))
        (of_most 4 3 gs (omega arith) g)
        (rises-append 2 (fs ++ ps) ss
        (All-append (P 2) fs ps (of_least 1 2 fs (omega arith) f) (of_least 2 2 ps (omega arith) p))
        (of_most 3 2 ss (omega arith) s)
        (rises-append 1 fs ps (of_least 1 1 fs (omega arith) f) (of_most 2 1 ps (omega arith) p) rf rp)
        rs)
        rg

    above-four : (fs ps ss gs : List X) → AreOf 1 fs → AreOf 2 ps → AreOf 3 ss → AreOf 4 gs → All (λ x. 0 < kind x) (fs ++ ps ++ ss ++ gs)
    above-four fs ps ss gs f p s g =
        let P : X → Type 0 = λ x. 0 < kind x in
        All-append P (fs ++ ps ++ ss) gs
        (All-append P (fs ++ ps) ss (All-append P fs ps (of_most 1 0 fs (omega arith) f) (of_most 2 0 ps (omega arith) p)) (of_most 3 0 ss (omega arith) s))
        (of_most 4 0 gs (omega arith) g)

    rises-five : (hs fs ps ss gs : List X) → AreOf 0 hs → AreOf 1 fs → AreOf 2 ps → AreOf 3 ss → AreOf 4 gs →
        Rises compare hs → Rises compare fs → Rises compare ps → Rises compare ss → Rises compare gs → Rises compare (hs ++ (fs ++ ps ++ ss ++ gs))
    rises-five hs fs ps ss gs h f p s g rh rf rp rs rg =
        rises-append 0 hs (fs ++ ps ++ ss ++ gs) (of_least 0 0 hs (omega arith) h) (above-four fs ps ss gs f p s g) rh (rises-four fs ps ss gs f p s g rf rp rs rg)

kinds-apart : (x y : SeenRow) → kind_of x < kind_of y → seen_cmp x y ≡ Less
kinds-apart x y h = ap (λ r. ordering_then r (key_cmp x y)) (sym (nat_cmp_is (kind_of x) (kind_of y) Less h))

abbrev kind_told : DifferenceRow → ℕ
kind_told d = kind_of d.row

told-apart : (x y : DifferenceRow) → kind_told x < kind_told y → difference_cmp x y ≡ Less
told-apart x y h = ap (λ r. ordering_then r (nat_cmp (cond x.is_new 1 0) (cond y.is_new 1 0))) (kinds-apart x.row y.row h)

-- ---- of one kind

module _ {K V : Type 0} (o : Order K) (Fit : K × V → Type 0) where
  -- what is found fits, where all rows do
  found-fits : (es : List (K × V)) → All Fit es → (k : K) (v : V) → find o.compare k es ≡ Some v → Fit (k, v)
  found-fits [] fit k v found = cc
  found-fits (x ∷ es) fit k v found = elim (cases_Bool (eq_by_cmp o.compare k x.0)) [
    | inl tie ↦
        let value : x.1 ≡ v = same_some x.1 v (sym (ap (λ b. cond b (Some x.1) (find o.compare k es)) tie) ∙ found) in
        let same : x ≡ (k, v) = λ i. (sym (o.exact k x.0 (equal _ tie)) i, value i) in
        subst Fit same (All-head Fit x es fit)
    | inr other ↦ found-fits es (All-tail Fit x es fit) k v (sym (ap (λ b. cond b (Some x.1) (find o.compare k es)) other) ∙ found)
  ]

module _ {K V : Type 0} (o : Order K) (told : K × V → SeenRow) (Fit : K × V → Type 0) (keyed : (e d : K × V) → Fit e → Fit d → seen_cmp (told e) (told d) ≡ o.compare e.0 d.0) where
  below-told : (e : K × V) (es : List (K × V)) → Fit e → All Fit es → T (below_all o.compare e.0 es) → Below seen_cmp (told e) (map told es)
  below-told e [] fit fits h = tt
  below-told e (d ∷ es) fit fits h =
      both _ _ (is_less _ (keyed e d fit (All-head Fit d es fits) ∙ less _ (first _ _ h))) (below-told e es fit (All-tail Fit d es fits) (second _ _ h))

  -- the rows of a table
  rises-told : (es : List (K × V)) → All Fit es → T (is_sorted o.compare es) → Rises seen_cmp (map told es)
  rises-told [] fits h = tt
  rises-told (e ∷ es) fits h = both _ _ (below-told e es (All-head Fit e es fits) (All-tail Fit e es fits) (first _ _ h)) (rises-told es (All-tail Fit e es fits) (second _ _ h))

  -- what is told of a row
  abbrev at_row : Bool → K × V → DifferenceRow
  at_row b e = record { is_new = b; row = told e }

  -- what stands there fits
  abbrev Fits : K → Option V → Type 0
  Fits k u = (v : V) → u ≡ Some v → Fit (k, v)

  lesser_key : (b d : Bool) (k j : K) (v w : V) → Fit (k, v) → Fit (j, w) → o.compare k j ≡ Less → difference_cmp (at_row b (k, v)) (at_row d (j, w)) ≡ Less
  lesser_key b d k j v w f g h = ap (λ r. ordering_then r (nat_cmp (cond b 1 0) (cond d 1 0))) (keyed (k, v) (j, w) f g ∙ h)

  one_key : (k : K) (v w : V) → Fit (k, v) → Fit (k, w) → difference_cmp (at_row false (k, v)) (at_row true (k, w)) ≡ Less
  one_key k v w f g = ap (λ r. ordering_then r (nat_cmp 0 1)) (keyed (k, v) (k, w) f g ∙ tied_itself o.total k)

  module _ (same : V → V → Bool) where
    below-differ : (b : Bool) (k j : K) (v : V) (u w : Option V) → Fit (k, v) → Fits j u → Fits j w → o.compare k j ≡ Less → Below difference_cmp (at_row b (k, v)) (differ same told j u w)
    unfolding differ
    below-differ b k j v None None fit was is h = tt
    below-differ b k j v (Some u) None fit was is h = both _ _ (is_less _ (lesser_key b false k j v u fit (was u refl) h)) tt
    below-differ b k j v None (Some w) fit was is h = both _ _ (is_less _ (lesser_key b true k j v w fit (is w refl) h)) tt
    below-differ b k j v (Some u) (Some w) fit was is h =
        elim (same u w) as (λ t. Below difference_cmp (at_row b (k, v)) (cond t [] (at_row false (j, u) ∷ at_row true (j, w) ∷ []))) [
          | true ↦ tt
          | false ↦ both _ _ (is_less _ (lesser_key b false k j v u fit (was u refl) h)) (both _ _ (is_less _ (lesser_key b true k j v w fit (is w refl) h)) tt)
        ]

    rises-differ : (k : K) (u w : Option V) (rest : List DifferenceRow) → Fits k u → Fits k w → ((b : Bool) (v : V) → Fit (k, v) → Below difference_cmp (at_row b (k, v)) rest) →
        Rises difference_cmp rest → Rises difference_cmp (differ same told k u w ++ rest)
    unfolding differ
    rises-differ k None None rest was is below h = h
    rises-differ k (Some u) None rest was is below h = both _ _ (below false u (was u refl)) h
    rises-differ k None (Some w) rest was is below h = both _ _ (below true w (is w refl)) h
    rises-differ k (Some u) (Some w) rest was is below h =
        elim (same u w) as (λ t. Rises difference_cmp (cond t [] (at_row false (k, u) ∷ at_row true (k, w) ∷ []) ++ rest)) [
          | true ↦ h
          | false ↦ both _ _ (both _ _ (is_less _ (one_key k u w (was u refl) (is w refl))) (below false u (was u refl))) (both _ _ (below true w (is w refl)) h)
        ]

    module _ (old new : Table o V) (was : (k : K) → Fits k (get old k)) (is : (k : K) → Fits k (get new k)) where
      abbrev told_at : K × ⊤ → List DifferenceRow
      told_at e = differ same told e.0 (get old e.0) (get new e.0)

      below-flat : (b : Bool) (k : K) (v : V) (es : List (K × ⊤)) → Fit (k, v) → T (below_all o.compare k es) → Below difference_cmp (at_row b (k, v)) (flat_map told_at es)
      below-flat b k v [] fit h = tt
      below-flat b k v (e ∷ es) fit h =
          below-append difference_cmp (at_row b (k, v)) (told_at e) (flat_map told_at es)
          (below-differ b k e.0 v (get old e.0) (get new e.0) fit (was e.0) (is e.0) (less _ (first _ _ h))) (below-flat b k v es fit (second _ _ h))

      rises-flat : (es : List (K × ⊤)) → T (is_sorted o.compare es) → Rises difference_cmp (flat_map told_at es)
      rises-flat [] h = tt
      rises-flat (e ∷ es) h =
          rises-differ e.0 (get old e.0) (get new e.0) (flat_map told_at es) (was e.0) (is e.0) (λ b v fit. below-flat b e.0 v es fit (first _ _ h)) (rises-flat es (second _ _ h))

      -- what is told of two tables
      rises-between : Rises difference_cmp (between same told old new)
      unfolding between
      rises-between = rises-flat (keys_of_both old new).rows (keys_of_both old new).sorted

-- where the key is in each row that is told
module _ {K V : Type 0} (o : Order K) (told : K × V → SeenRow) (keyed : (e d : K × V) → seen_cmp (told e) (told d) ≡ o.compare e.0 d.0) where
  abbrev Any : K × V → Type 0
  Any e = ⊤

  rises-table : (t : Table o V) → Rises seen_cmp (map told t.rows)
  rises-table t = rises-told o told Any (λ e d _ _. keyed e d) t.rows (All-weaker (Contains t.rows) Any (λ _ _. tt) t.rows (All-contains_itself t.rows)) t.sorted

  rises-tables : (same : V → V → Bool) (old new : Table o V) → Rises difference_cmp (between same told old new)
  rises-tables same old new = rises-between o told Any (λ e d _ _. keyed e d) same old new (λ k v _. tt) (λ k v _. tt)

-- ---- of which kind

module _ {K V : Type 0} (o : Order K) (told : K × V → SeenRow) (n : ℕ) (kind : (e : K × V) → kind_of (told e) ≡ n) where
  all-told : (es : List (K × V)) → All (λ x. kind_of x ≡ n) (map told es)
  all-told es = All-map (λ x. kind_of x ≡ n) told es (All-weaker (Contains es) (λ e. kind_of (told e) ≡ n) (λ e _. kind e) es (All-contains_itself es))

  abbrev Kind : DifferenceRow → Type 0
  Kind d = kind_told d ≡ n

  abbrev of_row : Bool → K × V → DifferenceRow
  of_row b e = record { is_new = b; row = told e }

  module _ (same : V → V → Bool) where
    all-differ : (k : K) (u w : Option V) → All Kind (differ same told k u w)
    unfolding differ
    all-differ k None None = All-nil Kind
    all-differ k (Some u) None = All-cons Kind (of_row false (k, u)) [] (kind (k, u)) (All-nil Kind)
    all-differ k None (Some w) = All-cons Kind (of_row true (k, w)) [] (kind (k, w)) (All-nil Kind)
    all-differ k (Some u) (Some w) =
        elim (same u w) as (λ t. All Kind (cond t [] (of_row false (k, u) ∷ of_row true (k, w) ∷ []))) [
          | true ↦ All-nil Kind
          | false ↦ All-cons Kind (of_row false (k, u)) (of_row true (k, w) ∷ []) (kind (k, u)) (All-cons Kind (of_row true (k, w)) [] (kind (k, w)) (All-nil Kind))
        ]

    module _ (old new : Table o V) where
      abbrev differ_at : K × ⊤ → List DifferenceRow
      differ_at e = differ same told e.0 (get old e.0) (get new e.0)

      all-flat : (es : List (K × ⊤)) → All Kind (flat_map differ_at es)
      all-flat [] = All-nil Kind
      all-flat (e ∷ es) = All-append Kind (differ_at e) (flat_map differ_at es) (all-differ e.0 (get old e.0) (get new e.0)) (all-flat es)

      all-between : All Kind (between same told old new)
      unfolding between
      all-between = all-flat (keys_of_both old new).rows

-- ---- signals, whose key is their start

abbrev AtStart : ((Name × Name) × ℕ) × SignalData → Type 0
AtStart e = e.1.start ≡ e.0.1

signals-keyed : (e d : ((Name × Name) × ℕ) × SignalData) → AtStart e → AtStart d → seen_cmp (signal_seen e) (signal_seen d) ≡ starts.compare e.0 d.0
signals-keyed e d here there i = starts.compare (e.0.0, here i) (d.0.0, there i)

abbrev its_signals : (Name × Name) × Frame → List (((Name × Name) × ℕ) × SignalData)
its_signals e = map (λ s. ((e.0, s.start), s)) e.1.signals

all-start : (rows : List ((Name × Name) × Frame)) → All AtStart (flat_map its_signals rows)
all-start [] = All-nil AtStart
all-start (e ∷ rows) =
    All-append AtStart (its_signals e) (flat_map its_signals rows)
    (All-map AtStart (λ (s : SignalData). ((e.0, s.start), s)) e.1.signals (All-weaker (Contains e.1.signals) (λ s. AtStart ((e.0, s.start), s)) (λ s _. refl) e.1.signals (All-contains_itself e.1.signals)))
    (all-start rows)

signals-fit : (frames : Table owned Frame) (k : (Name × Name) × ℕ) (s : SignalData) → get (all_signals frames) k ≡ Some s → AtStart (k, s)
unfolding all_signals
signals-fit frames k s found =
    found-fits starts AtStart (flat_map its_signals frames.rows) (all-start frames.rows) k s (sym (get-from_rows starts (flat_map its_signals frames.rows) k) ∙ found)

signals-rise : (frames : Table owned Frame) → Rises seen_cmp (map signal_seen (all_signals frames).rows)
unfolding get
signals-rise frames =
    let t = all_signals frames in
    rises-told starts signal_seen AtStart signals-keyed t.rows
    (All-weaker (λ e. find starts.compare e.0 t.rows ≡ Some e.1) AtStart (λ e is. signals-fit frames e.0 e.1 is) t.rows (rows-found starts t.rows t.sorted))
    t.sorted

signals-between : (before now : Table owned Frame) → Rises difference_cmp (between same_signal signal_seen (all_signals before) (all_signals now))
signals-between before now =
    rises-between starts signal_seen AtStart signals-keyed same_signal (all_signals before) (all_signals now) (λ k s is. signals-fit before k s is) (λ k s is. signals-fit now k s is)

-- ---- of all kinds

pub seen-in_order : SeenRowsAreInOrder
unfolding seen_rows rows_of_frames
seen-in_order p actor x =
    let grants = seen_grants actor x.grants in
    let frames = seen_frames actor x.frames in
    let nodes : Table owned Name = each (λ (f : Frame). f.node) frames in
    let gaps : Table owned (Option ℕ) = each (gap_of p) frames in
    rises-five seen_cmp kind_of kinds-apart (map grant_seen grants.rows) (map frame_seen nodes.rows) (map placement_seen (all_placements frames).rows) (map signal_seen (all_signals frames).rows) (map gap_seen gaps.rows)
    (all-told channel_slots grant_seen 0 (λ e. refl) grants.rows)
    (all-told owned frame_seen 1 (λ e. refl) nodes.rows)
    (all-told placed_frames placement_seen 2 (λ e. refl) (all_placements frames).rows)
    (all-told starts signal_seen 3 (λ e. refl) (all_signals frames).rows)
    (all-told owned gap_seen 4 (λ e. refl) gaps.rows)
    (rises-table channel_slots grant_seen (λ e d. refl) grants)
    (rises-table owned frame_seen (λ e d. refl) nodes)
    (rises-table placed_frames placement_seen (λ e d. refl) (all_placements frames))
    (signals-rise frames)
    (rises-table owned gap_seen (λ e d. refl) gaps)

pub differences-in_order : DifferencesAreInOrder
unfolding differences grants_differ frames_differ
differences-in_order p actor old new =
    let was = seen_grants actor old.grants in
    let is = seen_grants actor new.grants in
    let before = seen_frames actor old.frames in
    let now = seen_frames actor new.frames in
    let nodes : Table owned Frame → Table owned Name = λ frames. each (λ (f : Frame). f.node) frames in
    let gaps : Table owned Frame → Table owned (Option ℕ) = λ frames. each (gap_of p) frames in
    rises-five difference_cmp kind_told told-apart
    (between same_holder grant_seen was is)
    (between same_text frame_seen (nodes before) (nodes now))
    (between (λ _ _. true) placement_seen (all_placements before) (all_placements now))
    (between same_signal signal_seen (all_signals before) (all_signals now))
    (between same_gap gap_seen (gaps before) (gaps now))
    (all-between channel_slots grant_seen 0 (λ e. refl) same_holder was is)
    (all-between owned frame_seen 1 (λ e. refl) same_text (nodes before) (nodes now))
    (all-between placed_frames placement_seen 2 (λ e. refl) (λ _ _. true) (all_placements before) (all_placements now))
    (all-between starts signal_seen 3 (λ e. refl) same_signal (all_signals before) (all_signals now))
    (all-between owned gap_seen 4 (λ e. refl) same_gap (gaps before) (gaps now))
    (rises-tables channel_slots grant_seen (λ e d. refl) same_holder was is)
    (rises-tables owned frame_seen (λ e d. refl) same_text (nodes before) (nodes now))
    (rises-tables placed_frames placement_seen (λ e d. refl) (λ _ _. true) (all_placements before) (all_placements now))
    (signals-between before now)
    (rises-tables owned gap_seen (λ e d. refl) same_gap (gaps before) (gaps now))
