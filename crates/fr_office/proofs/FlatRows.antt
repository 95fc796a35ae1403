-- The rows of a variant's frames, one frame's after another's, stand in the order of their keys, and are those of the
-- tables that a difference compares.
use Rattle.std.proofs.Common.{◌≡◌, ℕ, ◌<◌, List, [], ◌∷◌, ◌++◌, map, All, AllPairs, refl, sym, ap, ◌∙◌, Less, Some, inl, inr}
use Rattle.std.specs.Prelude.{T}
use Rattle.std.specs.List.{flat_map}
use Rattle.std.specs.Cmp.{nat_cmp_is, tied_itself}
use Rattle.std.specs.FinMap.Entries.{below_all, is_sorted}
use Rattle.std.specs.Ordering.{nat_cmp, ordering_then}
use Rattle.std.proofs.lemmas.List.{map-append}
use Rattle.std.proofs.lemmas.List.Concat.{flat_map_single}
use Rattle.std.proofs.lemmas.List.Elements.{All-head, All-tail}
use Rattle.fr_base.specs.Book.{Book, Frame, Variant}
use Rattle.fr_base.specs.Cluster.{Cluster}
use Rattle.fr_base.specs.Differences.{all_placements, all_signals, gap_of, placed_frames, starts}
use Rattle.fr_base.specs.Exports.{frame_records, placement_records, signal_records}
use Rattle.fr_base.specs.Keys.{numbers, owned, placement_order}
use Rattle.fr_base.specs.Orders.{pairs_by}
use Rattle.fr_base.specs.Queries.{gap_row, gaps_of}
use Rattle.fr_base.specs.Signals.{SignalData}
use Rattle.fr_base.specs.Sound.{IsSound}
use Rattle.fr_base.specs.TableRows.{both, first, second, is_sorted-map}
use Rattle.fr_base.specs.Tables.{Order, Table, each, get}
use Rattle.fr_base.specs.declared.name.Name.{Name}
use Rattle.fr_base.specs.declared.params.Params.{Params}
use Rattle.fr_base.proofs.MergeLaws.{is_less, less}
use Rattle.fr_base.proofs.TableLaws.{rows-from_rows}
use Rattle.fr_base.proofs.LayoutLaws.{AllPairs-head, AllPairs-tail}
use Rattle.fr_world.specs.KeyedRows.{frame_entry, gap_entry, placement_entry, signal_entry}
use Rattle.fr_world.proofs.AmongLaws.{In}
use Rattle.fr_world.proofs.ApartLaws.{In-find}
use Rattle.fr_office.proofs.PageRows.{FrameEntry}

-- ---- what is made of rows in order, under their keys and keys of its own

module _ {K : Type 0} (o : Order K) where
  below-append : {V : Type 0} (k : K) (es fs : List (K × V)) → T (below_all o.compare k es) → T (below_all o.compare k fs) → T (below_all o.compare k (es ++ fs))
  below-append k [] fs h g = g
  below-append k (e ∷ es) fs h g = both _ _ (first _ _ h) (below-append k es fs (second _ _ h) g)

module _ {K J V I W : Type 0} (o : Order K) (p : Order J) (items : V → List I) (key : I → J) (value : I → W) where
  abbrev pairs : Order (K × J)
  pairs = pairs_by o p

  -- an item under its own key
  abbrev keyed : I → J × W
  keyed i = (key i, value i)

  -- an item of a row
  abbrev at : K → I → (K × J) × W
  at k i = ((k, key i), value i)

  abbrev flat : List (K × V) → List ((K × J) × W)
  flat es = flat_map (λ e. map (at e.0) (items e.1)) es

  -- a row's items are above each key of a lesser row
  below-items : (k l : K) (j : J) (is : List I) → o.compare k l ≡ Less → T (below_all pairs.compare (k, j) (map (at l) is))
  below-items k l j [] e = tt
  below-items k l j (i ∷ is) e = both _ _ (is_less _ (ap (λ r. ordering_then r (p.compare j (key i))) e)) (below-items k l j is e)

  below-flat : (k : K) (j : J) (es : List (K × V)) → T (below_all o.compare k es) → T (below_all pairs.compare (k, j) (flat es))
  below-flat k j [] h = tt
  below-flat k j (e ∷ es) h =
      below-append pairs (k, j) (map (at e.0) (items e.1)) (flat es) (below-items k e.0 j (items e.1) (less _ (first _ _ h))) (below-flat k j es (second _ _ h))

  below-same : (k : K) (j : J) (is : List I) → T (below_all p.compare j (map keyed is)) → T (below_all pairs.compare (k, j) (map (at k) is))
  below-same k j [] h = tt
  below-same k j (i ∷ is) h =
      both _ _ (is_less _ (ap (λ r. ordering_then r (p.compare j (key i))) (tied_itself o.total k) ∙ less _ (first _ _ h))) (below-same k j is (second _ _ h))

  sorted-items : (k : K) (is : List I) (rest : List ((K × J) × W)) → T (is_sorted p.compare (map keyed is)) → ((j : J) → T (below_all pairs.compare (k, j) rest)) → T (is_sorted pairs.compare rest) →
      T (is_sorted pairs.compare (map (at k) is ++ rest))
  sorted-items k [] rest h low sorted = sorted
  sorted-items k (i ∷ is) rest h low sorted =
      both _ _ (below-append pairs (k, key i) (map (at k) is) rest (below-same k (key i) is (first _ _ h)) (low (key i))) (sorted-items k is rest (second _ _ h) low sorted)

  -- they stand in the order of both keys
  sorted-flat : (es : List (K × V)) → T (is_sorted o.compare es) → ((e : K × V) → In e es → T (is_sorted p.compare (map keyed (items e.1)))) → T (is_sorted pairs.compare (flat es))
  sorted-flat [] h rise = tt
  sorted-flat (e ∷ es) h rise =
      sorted-items e.0 (items e.1) (flat es) (rise e (inl refl)) (λ j. below-flat e.0 j es (first _ _ h)) (sorted-flat es (second _ _ h) (λ f i. rise f (inr i)))

-- ---- records by their keys

module _ {A B C : Type 0} where
  pub map-map : (g : B → C) (f : A → B) (xs : List A) → map g (map f xs) ≡ map (λ x. g (f x)) xs
  map-map g f [] = refl
  map-map g f (x ∷ xs) = ap (λ rest. g (f x) ∷ rest) (map-map g f xs)

map-flat : {A B C : Type 0} (g : B → C) (f : A → List B) (xs : List A) → map g (flat_map f xs) ≡ flat_map (λ x. map g (f x)) xs
map-flat g f [] = refl
map-flat g f (x ∷ xs) = map-append g (f x) (flat_map f xs) ∙ ap (λ rest. map g (f x) ++ rest) (map-flat g f xs)

pub frame-keys : (t : Table owned Frame) → map frame_entry (flat_map frame_records t.rows) ≡ (each (λ f. f.node) t).rows
unfolding each
frame-keys t = again t.rows
  where
    again : (es : List FrameEntry) → map frame_entry (flat_map frame_records es) ≡ map (λ e. (e.0, e.1.node)) es
    again [] = refl
    again (e ∷ es) = ap (λ rest. (e.0, e.1.node) ∷ rest) (again es)

pub gap-keys : (p : Params) (t : Table owned Frame) → map gap_entry (flat_map (λ e. gap_row p e ∷ []) t.rows) ≡ (each (gap_of p) t).rows
unfolding each
gap-keys p t = again t.rows
  where
    again : (es : List FrameEntry) → map gap_entry (flat_map (λ e. gap_row p e ∷ []) es) ≡ map (λ e. (e.0, gap_of p e.1)) es
    again [] = refl
    again (e ∷ es) = ap (λ rest. (e.0, gap_of p e.1) ∷ rest) (again es)

-- the greatest gaps, one frame's after another's
pub gaps-flat : (p : Params) (t : Table owned Frame) → gaps_of p t ≡ flat_map (λ e. gap_row p e ∷ []) t.rows
unfolding gaps_of
gaps-flat p t = sym (flat_map_single (gap_row p) t.rows)

pub placement-keys : (t : Table owned Frame) → map placement_entry (flat_map placement_records t.rows) ≡ (all_placements t).rows
unfolding all_placements placed_frames
placement-keys t =
    again t.rows
    ∙ sym (rows-from_rows placed_frames (flat_map (λ e. map (λ q. ((e.0, q.0), tt)) e.1.placements.rows) t.rows)
    (sorted-flat owned placement_order (λ (f : Frame). f.placements.rows) (λ q. q.0) (λ _. tt) t.rows t.sorted
    (λ e i. is_sorted-map placement_order.compare (λ _. tt) e.1.placements.rows e.1.placements.sorted)))
  where
    again : (es : List FrameEntry) → map placement_entry (flat_map placement_records es) ≡ flat_map (λ e. map (λ q. ((e.0, q.0), tt)) e.1.placements.rows) es
    again [] = refl
    again (e ∷ es) =
        map-append placement_entry (placement_records e) (flat_map placement_records es)
        ∙ (λ i. map-map placement_entry (λ q. record { frame = e.0.1; node = e.1.node; placement = q.0; supplier = e.0.0 }) e.1.placements.rows i ++ again es i)

-- a number below another comes before it
lesser : (m n : ℕ) → m < n → nat_cmp m n ≡ Less
lesser m n h = sym (nat_cmp_is m n Less h)

abbrev by_start : List SignalData → List (ℕ × SignalData)
by_start signals = map (λ s. (s.start, s)) signals

below-starts : (n : ℕ) (signals : List SignalData) → All (λ s. n < s.start) signals → T (below_all nat_cmp n (by_start signals))
below-starts n [] low = tt
below-starts n (s ∷ signals) low =
    both _ _ (is_less _ (lesser n s.start (All-head (λ s. n < s.start) s signals low))) (below-starts n signals (All-tail (λ s. n < s.start) s signals low))

rising-keys : (signals : List SignalData) → AllPairs (λ s t. s.start < t.start) signals → T (is_sorted numbers.compare (by_start signals))
unfolding numbers
rising-keys [] h = tt
rising-keys (s ∷ signals) h =
    both _ _ (below-starts s.start signals (AllPairs-head (λ s t. s.start < t.start) s signals h)) (rising-keys signals (AllPairs-tail (λ s t. s.start < t.start) s signals h))

-- the starts of a frame's signals rise
abbrev pub Rise : FrameEntry → Type 0
Rise e = AllPairs (λ r s. r.start < s.start) e.1.signals

pub signal-keys : (t : Table owned Frame) → ((e : FrameEntry) → In e t.rows → Rise e) →
    map signal_entry (flat_map signal_records t.rows) ≡ (all_signals t).rows
unfolding all_signals starts
signal-keys t rising =
    again t.rows
    ∙ sym (rows-from_rows starts (flat_map (λ e. map (λ s. ((e.0, s.start), s)) e.1.signals) t.rows)
    (sorted-flat owned numbers (λ (f : Frame). f.signals) (λ s. s.start) (λ s. s) t.rows t.sorted (λ e i. rising-keys e.1.signals (rising e i))))
  where
    again : (es : List FrameEntry) → map signal_entry (flat_map signal_records es) ≡ flat_map (λ e. map (λ s. ((e.0, s.start), s)) e.1.signals) es
    again [] = refl
    again (e ∷ es) =
        map-append signal_entry (signal_records e) (flat_map signal_records es)
        ∙ (λ i. map-map signal_entry (λ s. record { frame = e.0.1; signal = s; supplier = e.0.0 }) e.1.signals i ++ again es i)

-- in a sound book the starts of each frame's signals rise
pub signals-rise : (c : Cluster) (b : Book) (v : Name) (x : Variant) → IsSound c b → get b.variants v ≡ Some x → (e : FrameEntry) → In e x.frames.rows → Rise e
unfolding get
signals-rise c b v x sound there e i =
    ((sound.variants v x there).1.frames e.0 e.1 (In-find owned x.frames.rows e x.frames.sorted i)).layout.rising
