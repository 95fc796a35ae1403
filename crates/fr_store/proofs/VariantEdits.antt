-- What the tables stand for after a variant's grants or its release change.
use Rattle.std.proofs.Common.{inl, inr, ◌≡◌, ℕ, pos, Bool, true, false, not, ◌&&◌, None, Some, List, [], ◌∷◌, ◌++◌, map, filter, flat_map, if◌then◌else◌, refl, sym, ap, ◌∙◌, subst, IsPermutation, bytes_eq}
use Rattle.std.specs.Ordering.{is_eq, eq_by_cmp, int_eq}
use Rattle.std.proofs.lemmas.List.Elements.{All-weaker}
use Rattle.std.proofs.lemmas.List.Sorted.{IsPermutation-map}
use Rattle.std.proofs.lemmas.Slice.Eq.{bytes_eq-Decides}
use Rattle.sqlite_keyed.proofs.ListLemmas.{filter-map, filter_all, filter_same, all_of, all_map}
use Rattle.sqlite.specs.State.{State}
use Rattle.fr_base.specs.Tables.{get, insert, remove, only}
use Rattle.fr_base.specs.Keys.{names, channel_slots}
use Rattle.fr_base.specs.Channels.{text_of_channel}
use Rattle.fr_base.specs.Cluster.{Cluster}
use Rattle.fr_base.specs.Book.{Holder, Variant, Book}
use Rattle.fr_base.specs.Step.{changed, grants_after, frames_after}
use Rattle.fr_base.specs.Changes.{in_rows}
use Rattle.fr_base.specs.declared.channel.Channel.{Channel}
use Rattle.fr_base.specs.declared.name.Name.{Name}
use Rattle.fr_base.specs.declared.request.Change.TheVariants as change
use Rattle.fr_base.proofs.SoundTables.{contains-more, insert-cases}
use Rattle.fr_base.proofs.TableLaws.{equal}
use Rattle.fr_world.specs.BookEdits.{applied}
use Rattle.fr_world.specs.declared.edit.Edit.{Edit}
use Rattle.fr_world.specs.declared.edit.Edit.TheVariants.{SetReleased, Rows}
use Rattle.fr_tables.specs.Rows.{VariantRow, GrantRow}
use Rattle.fr_tables.specs.Tables.{Tables}
use Rattle.fr_tables.specs.Changes.{Changes, tables_of}
use Rattle.fr_tables.specs.Statements.{with_grant, without_grant, with_released, is_grant_at, is_variant, released_row}
use Rattle.fr_store.specs.StandsFor.{StandsFor, HoldsRows, Stored, Entry, of_frames, IsAsStored, variant_row, grant_rows, frame_row, placement_rows, signal_rows}
use Rattle.fr_store.specs.Reading.{Stands}
use Rattle.fr_store.proofs.ApplyLemmas.{put_new}
use Rattle.fr_store.proofs.EntryLemmas.{same_of, more_of, less_of, turned_of, same_row_of}
use Rattle.fr_store.proofs.HolderLemmas.{other_name, other_slots, this_slot}
use Rattle.fr_store.proofs.StoredLemmas.{IsStill, extends_changed, stored_still, itself}

module _ (t : Tables) (count : ℕ) (b : Book) (stands : HoldsRows t count b) (v : Name) (x y : Variant) (there : get b.variants v ≡ Some x) (still : IsStill x y) where
  frames_still : {X : Type 0} (rows : Name → Entry → List X) (xs : List X) → IsPermutation (of_frames rows stands.stored b.variants) xs
      → IsPermutation (of_frames rows stands.stored (insert b.variants v y)) xs
  unfolding of_frames
  frames_still rows xs all = same_of names b.variants v x y there (λ e. flat_map (rows e.0) (stands.stored e.0).own.rows) xs all refl

  pub changed_stands : (vs : List VariantRow) (gs : List GrantRow) → IsPermutation (map (variant_row stands.stored) (insert b.variants v y).rows) vs → IsPermutation (flat_map grant_rows (insert b.variants v y).rows) gs
      → HoldsRows (record t { variants = vs; grants = gs }) count (record b { variants = insert b.variants v y })
  changed_stands vs gs variants grants = record {
    suppliers = stands.suppliers;
    nodes = stands.nodes;
    imports = stands.imports;
    stored = stands.stored;
    variants = variants;
    grants = grants;
    frames = frames_still (λ v f. frame_row v f ∷ []) t.frames stands.frames;
    placements = frames_still placement_rows t.placements stands.placements;
    signals = frames_still signal_rows t.signals stands.signals;
    dropped = All-weaker _ _ (λ d h. contains-more b.variants v y d.variant h) t.dropped stands.dropped;
    each = λ w z at. elim (insert-cases b.variants v y w z at) [
      | inl here ↦ subst (λ (e : Name × Variant). IsAsStored count t.dropped (insert b.variants v y) (stands.stored e.0) e.0 e.1) (λ i. (sym here.0 i, here.1 i))
          (stored_still t.dropped b.variants (insert b.variants v y) (extends_changed b.variants v y x there still) count (stands.stored v) v x y still (stands.each v x there))
      | inr other ↦ stored_still t.dropped b.variants (insert b.variants v y) (extends_changed b.variants v y x there still) count (stands.stored w) w z z (itself z) (stands.each w z other.1)
    ];
  }

-- ---- grants

row_of : Name → (ℕ × Channel) × Holder → GrantRow
row_of w g = record { variant = w; slot = pos g.0.0; channel = text_of_channel g.0.1; supplier = g.1.supplier; node = g.1.node }

module _ (s v n : Name) (slot : ℕ) (channel : Channel) where
  abbrev holder : Holder
  holder = record { supplier = s; node = n }

  abbrev granted_row : GrantRow
  granted_row = record { variant = v; slot = pos slot; channel = text_of_channel channel; supplier = s; node = n }

  abbrev granting : Edit
  granting = Rows (in_rows s v (change.Grant slot channel n))

  still_granted : (x : Variant) → IsStill x (changed s (change.Grant slot channel n) x)
  unfolding changed frames_after
  still_granted x = record { parent = refl; depth = refl; frames = refl; released = λ h. h }

  grant_more : (x : Variant) → get x.grants (slot, channel) ≡ None → IsPermutation (granted_row ∷ grant_rows (v, x)) (grant_rows (v, changed s (change.Grant slot channel n) x))
  unfolding changed grants_after insert get row_of
  grant_more x free = IsPermutation-map (row_of v) _ _ (put_new channel_slots.compare (slot, channel) holder x.grants.rows free)

  same_variant : (stored : Name → Stored) (x : Variant) → variant_row stored (v, changed s (change.Grant slot channel n) x) ≡ variant_row stored (v, x)
  unfolding changed
  same_variant stored x = refl

  put_grant : (t : Tables) (count : ℕ) (b : Book) → HoldsRows t count b → (x : Variant) → get b.variants v ≡ Some x → get x.grants (slot, channel) ≡ None → HoldsRows (with_grant granted_row t) count (applied b granting)
  unfolding applied
  put_grant t count b stands x there free =
      let y = changed s (change.Grant slot channel n) x in
      let made : HoldsRows (with_grant granted_row t) count (record b { variants = insert b.variants v y }) =
      changed_stands t count b stands v x y there (still_granted x) t.variants (t.grants ++ granted_row ∷ [])
      (same_row_of names b.variants v x y there (variant_row stands.stored) t.variants stands.variants (same_variant stands.stored x))
      (more_of names b.variants v x y there grant_rows t.grants stands.grants granted_row (grant_more x free)) in
      rw there made

  pub granted : (old state : State) → Changes (with_grant granted_row) old state → (c : Cluster) (b : Book) → Stands old c b → (x : Variant) → get b.variants v ≡ Some x
      → get x.grants (slot, channel) ≡ None → Stands state c (applied b granting)
  granted old state h c b stands x there free = record { has = h.has; for = subst (λ t. StandsFor t c (applied b granting)) (sym h.now) (record { heads = stands.for.heads; rows = put_grant (tables_of old) c.params.cycles b stands.for.rows x there free }) }

-- ---- the end of a grant

module _ (s v : Name) (slot : ℕ) (channel : Channel) where
  abbrev revoking : Edit
  revoking = Rows (in_rows s v (change.Revoke slot channel))

  abbrev stays : GrantRow → Bool
  stays g = not (is_grant_at v (pos slot) (text_of_channel channel) g)

  still_revoked : (x : Variant) → IsStill x (changed s (change.Revoke slot channel) x)
  unfolding changed frames_after
  still_revoked x = record { parent = refl; depth = refl; frames = refl; released = λ h. h }

  same_revoked : (stored : Name → Stored) (x : Variant) → variant_row stored (v, changed s (change.Revoke slot channel) x) ≡ variant_row stored (v, x)
  unfolding changed
  same_revoked stored x = refl

  is_at : (g : (ℕ × Channel) × Holder) (tie : Bool) → is_eq (channel_slots.compare (slot, channel) g.0) ≡ tie → is_grant_at v (pos slot) (text_of_channel channel) (row_of v g) ≡ tie
  unfolding row_of
  is_at g false apart = other_slots v slot channel g apart
  is_at g true tie =
      subst (λ k. is_grant_at v (pos slot) (text_of_channel channel) (record { variant = v; slot = pos k.0; channel = text_of_channel k.1; supplier = g.1.supplier; node = g.1.node }) ≡ true)
      (channel_slots.exact (slot, channel) g.0 (equal _ tie)) (this_slot v slot channel g.1)

  grant_less : (x : Variant) → filter stays (grant_rows (v, x)) ≡ grant_rows (v, changed s (change.Revoke slot channel) x)
  unfolding changed grants_after remove only row_of
  grant_less x =
      filter-map stays (row_of v) x.grants.rows
      ∙ ap (map (row_of v)) (filter_same (λ g. stays (row_of v g)) (λ g. not (eq_by_cmp channel_slots.compare (slot, channel) g.0)) (λ g. ap not (is_at g _ refl)) x.grants.rows)

  others_stay : (e : Name × Variant) → is_eq (names.compare v e.0) ≡ false → filter stays (grant_rows e) ≡ grant_rows e
  unfolding row_of
  others_stay e apart =
      filter_all stays (grant_rows e) (all_map (λ g. stays g ≡ true) (row_of e.0) e.1.grants.rows
      (all_of (λ g. stays (row_of e.0 g) ≡ true) (λ g. ap (λ is. not (is && (int_eq (pos g.0.0) (pos slot) && bytes_eq (text_of_channel g.0.1) (text_of_channel channel)))) (other_name v e.0 apart)) e.1.grants.rows))

  end_grant : (t : Tables) (count : ℕ) (b : Book) → HoldsRows t count b → (x : Variant) → get b.variants v ≡ Some x → HoldsRows (without_grant v (pos slot) (text_of_channel channel) t) count (applied b revoking)
  unfolding applied
  end_grant t count b stands x there =
      let y = changed s (change.Revoke slot channel) x in
      let made : HoldsRows (without_grant v (pos slot) (text_of_channel channel) t) count (record b { variants = insert b.variants v y }) =
      changed_stands t count b stands v x y there (still_revoked x) t.variants (filter stays t.grants)
      (same_row_of names b.variants v x y there (variant_row stands.stored) t.variants stands.variants (same_revoked stands.stored x))
      (less_of names b.variants v x y there grant_rows t.grants stands.grants stays (grant_less x) others_stay) in
      rw there made

  pub revoked : (old state : State) → Changes (without_grant v (pos slot) (text_of_channel channel)) old state → (c : Cluster) (b : Book) → Stands old c b
      → (x : Variant) → get b.variants v ≡ Some x → Stands state c (applied b revoking)
  revoked old state h c b stands x there = record { has = h.has; for = subst (λ t. StandsFor t c (applied b revoking)) (sym h.now) (record { heads = stands.for.heads; rows = end_grant (tables_of old) c.params.cycles b stands.for.rows x there }) }

-- ---- the release

module _ (v : Name) where
  abbrev turn : VariantRow → VariantRow
  turn r = if is_variant v r then released_row r else r

  other_variant : (stored : Name → Stored) (e : Name × Variant) → is_eq (names.compare v e.0) ≡ false → turn (variant_row stored e) ≡ variant_row stored e
  other_variant stored e apart = ap (λ is. if is then released_row (variant_row stored e) else variant_row stored e) (other_name v e.0 apart)

  this_variant : (stored : Name → Stored) (x : Variant) → turn (variant_row stored (v, x)) ≡ variant_row stored (v, record x { released = true })
  this_variant stored x = ap (λ is. if is then released_row (variant_row stored (v, x)) else variant_row stored (v, x)) ((bytes_eq-Decides v v).1 refl)

  set_released : (t : Tables) (count : ℕ) (b : Book) → HoldsRows t count b → (x : Variant) → get b.variants v ≡ Some x → HoldsRows (with_released v t) count (applied b (SetReleased v))
  unfolding applied
  set_released t count b stands x there =
      let y : Variant = record x { released = true } in
      let made : HoldsRows (with_released v t) count (record b { variants = insert b.variants v y }) =
      changed_stands t count b stands v x y there (record { parent = refl; depth = refl; frames = refl; released = λ h. refl }) (map turn t.variants) t.grants
      (turned_of names b.variants v x y there (variant_row stands.stored) t.variants stands.variants turn (this_variant stands.stored x) (other_variant stands.stored))
      (same_of names b.variants v x y there grant_rows t.grants stands.grants refl) in
      rw there made

  pub released : (old state : State) → Changes (with_released v) old state → (c : Cluster) (b : Book) → Stands old c b → (x : Variant)
      → get b.variants v ≡ Some x → Stands state c (applied b (SetReleased v))
  released old state h c b stands x there = record { has = h.has; for = subst (λ t. StandsFor t c (applied b (SetReleased v))) (sym h.now) (record { heads = stands.for.heads; rows = set_released (tables_of old) c.params.cycles b stands.for.rows x there }) }
