-- What merges tell of the rows of suppliers' frames, one supplier after another, is what a merge tells of the rows of all of them.
use Rattle.std.proofs.Common.{◌≡◌, Bool, true, List, [], ◌∷◌, map, All, refl, sym, ap, subst, ◌∙◌, append-nil, Less, Greater}
use Rattle.std.specs.List.{flat_map}
use Rattle.std.specs.Ordering.{ordering_then}
use Rattle.std.proofs.lemmas.List.Elements.{All-append, All-cons, All-head, All-nil, All-tail, filter_passes}
use Rattle.fr_base.specs.Book.{Book, Variant, is_of, own}
use Rattle.fr_base.specs.Differences.{frame_seen, gap_seen, placed_frames, placement_seen, same_gap, same_signal, signal_seen, starts}
use Rattle.fr_base.specs.Exports.{frame_records, placement_records, signal_records}
use Rattle.fr_base.specs.Keys.{names, numbers, owned, placement_order}
use Rattle.fr_base.specs.Names.{same_text}
use Rattle.fr_base.specs.Queries.{gap_row}
use Rattle.fr_base.specs.Tables.{Order, only}
use Rattle.fr_base.specs.declared.actor.Actor.{Actor}
use Rattle.fr_base.specs.declared.actor.Actor.TheVariants.{Integrator, Supplier}
use Rattle.fr_base.specs.declared.answer.FrameRecord.{FrameRecord}
use Rattle.fr_base.specs.declared.answer.GapRow.{GapRow}
use Rattle.fr_base.specs.declared.answer.PlacementRecord.{PlacementRecord}
use Rattle.fr_base.specs.declared.answer.SeenRow.{SeenRow}
use Rattle.fr_base.specs.declared.answer.SignalRecord.{SignalRecord}
use Rattle.fr_base.specs.declared.key.Key.{Key}
use Rattle.fr_base.specs.declared.name.Name.{Name}
use Rattle.fr_base.specs.declared.params.Params.{Params}
use Rattle.fr_base.proofs.SoundRows.{same_text-is}
use Rattle.fr_office.specs.Compared.{kind_told, suppliers_told}
use Rattle.fr_office.specs.Shown.{seen_names}
use Rattle.fr_office.proofs.ApartMerges.{merge-suppliers}
use Rattle.fr_office.proofs.PageRows.{FrameEntry}
use Rattle.fr_office.proofs.ShownLaws.{flat-map}
use Rattle.fr_world.specs.KeyedRows.{by_key, frame_entry, gap_entry, placement_entry, same_at, signal_entry}

-- the rows of the supplier's frames
abbrev pub rows_in : {X : Type 0} → (FrameEntry → List X) → Variant → Name → List X
rows_in rows x s = flat_map rows (own s x.frames).rows

module _ {X K V : Type 0} (o : Order K) (same : V → V → Bool) (told : K × V → SeenRow) (entry : X → K × V) (rows : FrameEntry → List X)
    (of : X → Name) (owned_by : (e : FrameEntry) → All (λ x. of x ≡ e.0.0) (rows e))
    (below : (x y : X) → names.compare (of x) (of y) ≡ Less → by_key o entry x y ≡ Less)
    (above : (x y : X) → names.compare (of x) (of y) ≡ Greater → by_key o entry x y ≡ Greater) where
  -- the rows of a supplier's frames are the supplier's
  own-rows : (x : Variant) (s : Name) → All (λ r. of r ≡ s) (rows_in rows x s)
  unfolding only
  own-rows x s = each (own s x.frames).rows (filter_passes (λ (e : FrameEntry). is_of s e.0) x.frames.rows)
    where
      each : (es : List FrameEntry) → All (λ e. is_of s e.0 ≡ true) es → All (λ r. of r ≡ s) (flat_map rows es)
      each [] own = All-nil (λ r. of r ≡ s)
      each (e ∷ es) own =
          All-append (λ r. of r ≡ s) (rows e) (flat_map rows es)
          (subst (λ n. All (λ r. of r ≡ n) (rows e)) (same_text-is e.0.0 s (All-head (λ e. is_of s e.0 ≡ true) e es own)) (owned_by e))
          (each es (All-tail (λ e. is_of s e.0 ≡ true) e es own))

  -- one supplier after another, of those whom the actor sees
  kind-told : (b : Book) (before new : Variant) (actor : Actor) →
      flat_map (λ s. kind_told o same told entry (rows_in rows before s) (rows_in rows new s)) (seen_names actor b)
      ≡ kind_told o same told entry (flat_map (rows_in rows before) (seen_names actor b)) (flat_map (rows_in rows new) (seen_names actor b))
  unfolding seen_names
  kind-told b before new Integrator =
      flat-map (λ s. kind_told o same told entry (rows_in rows before s) (rows_in rows new s)) (λ (e : Name × Key). e.0) b.suppliers.rows
      ∙ merge-suppliers (by_key o entry) (same_at same entry) (λ r. told (entry r)) of below above
      (rows_in rows before) (rows_in rows new) (own-rows before) (own-rows new) b.suppliers.rows b.suppliers.sorted
      ∙ (λ i. kind_told o same told entry
      (sym (flat-map (rows_in rows before) (λ (e : Name × Key). e.0) b.suppliers.rows) i)
      (sym (flat-map (rows_in rows new) (λ (e : Name × Key). e.0) b.suppliers.rows) i))
  kind-told b before new (Supplier s) =
      append-nil (kind_told o same told entry (rows_in rows before s) (rows_in rows new s))
      ∙ (λ i. kind_told o same told entry (sym (append-nil (rows_in rows before s)) i) (sym (append-nil (rows_in rows new s)) i))

-- ---- the kinds

-- what holds of each made row holds of all
made : {X Y : Type 0} (of : X → Name) (s : Name) (f : Y → X) → ((y : Y) → of (f y) ≡ s) → (ys : List Y) → All (λ x. of x ≡ s) (map f ys)
made of s f is [] = All-nil (λ x. of x ≡ s)
made of s f is (y ∷ ys) = All-cons (λ x. of x ≡ s) (f y) (map f ys) (is y) (made of s f is ys)

module _ (s t m n : Name) where
  owned-below : names.compare s t ≡ Less → owned.compare (s, m) (t, n) ≡ Less
  unfolding owned
  owned-below e = ap (λ r. ordering_then r (names.compare m n)) e

  owned-above : names.compare s t ≡ Greater → owned.compare (s, m) (t, n) ≡ Greater
  unfolding owned
  owned-above e = ap (λ r. ordering_then r (names.compare m n)) e

module _ (b : Book) (before new : Variant) (actor : Actor) where
  abbrev all_rows : {X : Type 0} → (FrameEntry → List X) → Variant → List X
  all_rows rows x = flat_map (rows_in rows x) (seen_names actor b)

  pub frames-told : (p : Params) → (suppliers_told p (seen_names actor b) before new).frames ≡ kind_told owned same_text frame_seen frame_entry (all_rows frame_records before) (all_rows frame_records new)
  frames-told p = kind-told owned same_text frame_seen frame_entry frame_records (λ r. r.supplier)
      (λ e. All-cons (λ (r : FrameRecord). r.supplier ≡ e.0.0) (record { frame = e.0.1; node = e.1.node; supplier = e.0.0 }) [] refl (All-nil (λ (r : FrameRecord). r.supplier ≡ e.0.0)))
      (λ x y e. owned-below x.supplier y.supplier x.frame y.frame e) (λ x y e. owned-above x.supplier y.supplier x.frame y.frame e) b before new actor

  pub placements-told : (p : Params) → (suppliers_told p (seen_names actor b) before new).placements
      ≡ kind_told placed_frames (λ _ _. true) placement_seen placement_entry (all_rows placement_records before) (all_rows placement_records new)
  unfolding placed_frames
  placements-told p = kind-told placed_frames (λ _ _. true) placement_seen placement_entry placement_records (λ r. r.supplier)
      (λ e. made (λ (r : PlacementRecord). r.supplier) e.0.0 (λ q. record { frame = e.0.1; node = e.1.node; placement = q.0; supplier = e.0.0 }) (λ q. refl) e.1.placements.rows)
      (λ x y e. ap (λ r. ordering_then r (placement_order.compare x.placement y.placement)) (owned-below x.supplier y.supplier x.frame y.frame e))
      (λ x y e. ap (λ r. ordering_then r (placement_order.compare x.placement y.placement)) (owned-above x.supplier y.supplier x.frame y.frame e)) b before new actor

  pub signals-told : (p : Params) → (suppliers_told p (seen_names actor b) before new).signals
      ≡ kind_told starts same_signal signal_seen signal_entry (all_rows signal_records before) (all_rows signal_records new)
  unfolding starts
  signals-told p = kind-told starts same_signal signal_seen signal_entry signal_records (λ r. r.supplier)
      (λ e. made (λ (r : SignalRecord). r.supplier) e.0.0 (λ s. record { frame = e.0.1; signal = s; supplier = e.0.0 }) (λ s. refl) e.1.signals)
      (λ x y e. ap (λ r. ordering_then r (numbers.compare x.signal.start y.signal.start)) (owned-below x.supplier y.supplier x.frame y.frame e))
      (λ x y e. ap (λ r. ordering_then r (numbers.compare x.signal.start y.signal.start)) (owned-above x.supplier y.supplier x.frame y.frame e)) b before new actor

  pub gaps-told : (p : Params) → (suppliers_told p (seen_names actor b) before new).gaps
      ≡ kind_told owned same_gap gap_seen gap_entry (all_rows (λ e. gap_row p e ∷ []) before) (all_rows (λ e. gap_row p e ∷ []) new)
  gaps-told p = kind-told owned same_gap gap_seen gap_entry (λ e. gap_row p e ∷ []) (λ r. r.supplier)
      (λ e. All-cons (λ (r : GapRow). r.supplier ≡ e.0.0) (gap_row p e) [] refl (All-nil (λ (r : GapRow). r.supplier ≡ e.0.0)))
      (λ x y e. owned-below x.supplier y.supplier x.frame y.frame e) (λ x y e. owned-above x.supplier y.supplier x.frame y.frame e) b before new actor
