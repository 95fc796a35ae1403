-- When rows are a page's, by their maps and sets.
use Rattle.std.proofs.Common.{◌≡◌, ◌<◌, ◌≤◌, Bool, true, false, cond, length, List, [], ◌∷◌, ◌++◌, map, flat_map, Option, Some, None, Result, Ok, Err, IfOk, IfSome, IfNone, refl, sym, ap, subst, ◌∙◌, inl, inr, arith, true≢false}
use Rattle.std.specs.Prelude.{T}
use Rattle.std.specs.Bool.{Decides}
use Rattle.std.specs.List.{All, AllByRecursion, AllPairs}
use Rattle.std.specs.List.Sorted.{IsStrictlySortedBy}
use Rattle.std.specs.Map.{keys_of}
use Rattle.std.specs.FinMap.Entries.{find, is_sorted}
use Rattle.std.specs.Ordering.{eq_by_cmp}
use Rattle.std.proofs.lemmas.Bool.{cases_Bool}
use Rattle.std.proofs.lemmas.List.{get_or-map, length-map, map-append}
use Rattle.std.proofs.lemmas.List.Elements.{All-from_recursion, All-map, recursion_from_All}
use Rattle.std.proofs.lemmas.List.Folds.{flat_map-map}
use Rattle.std.proofs.lemmas.Simd.{map-map}
use Rattle.fr_base.specs.Book as book
use Rattle.fr_base.specs.Book.{Sender, placements_of}
use Rattle.fr_base.specs.Keys.{owned, placement_order}
use Rattle.fr_base.specs.Queries.{placements_in}
use Rattle.fr_base.specs.TableRows.{first, second}
use Rattle.fr_base.specs.Tables.{Order, Table, get, len}
use Rattle.fr_base.specs.declared.name.Name.{Name}
use Rattle.fr_base.specs.declared.placement.Placement.{Placement}
use Rattle.fr_base.proofs.SoundTables.{same_key, same_some}
use Rattle.fr_base.proofs.TableLaws.{equal, none_above}
use Rattle.fr_world.specs.Building.{IsKeptFrame}
use Rattle.fr_world.specs.Decisions.{filled_by}
use Rattle.fr_world.specs.PageCells.{ShareNone, pairs_in}
use Rattle.fr_world.specs.Pages.{AreApart, IsKept, IsPageFrame, frame_data, frame_of, frames_data, own_rows_of, rows_data}
use Rattle.fr_world.specs.declared.page.PageFrame.{PageFrame}
use Rattle.fr_world.specs.declared.page.PageRows.{PageRows}
use Rattle.fr_world.proofs.DecideFilling.{filled_in, page-apart}
use Rattle.fr_world.proofs.BuildFrames.{All-from_map}
use Rattle.fr_world.proofs.KeyLaws.{name_cmp, names_rise, frames_rise, own_alike, slot_cmp, slots_rise}
use Rattle.fr_world.proofs.MapLaws.{len-set_of, len-table_of, rows-table_of}

-- ---- what holds of each row of a table

module _ {K V : Type 0} (o : Order K) (P : V → Type 0) where
  found_holds : (es : List (K × V)) (k : K) (v : V) → AllByRecursion (λ e. P e.1) es → find o.compare k es ≡ Some v → P v
  found_holds [] k v h found = cc
  found_holds (e ∷ es) k v h found = elim (cases_Bool (eq_by_cmp o.compare k e.0)) [
    | inl tie ↦ subst P (same_some e.1 v (ap (λ b. cond b (Some e.1) (find o.compare k es)) (sym tie) ∙ found)) h.0
    | inr other ↦ found_holds es k v h.1 (ap (λ b. cond b (Some e.1) (find o.compare k es)) (sym other) ∙ found)
  ]

  holds_found : (es : List (K × V)) → T (is_sorted o.compare es) → ((k : K) (v : V) → find o.compare k es ≡ Some v → P v) → AllByRecursion (λ e. P e.1) es
  holds_found [] sorted h = tt
  holds_found (e ∷ es) sorted h = (
    h e.0 e.1 (ap (λ b. cond b (Some e.1) (find o.compare e.0 es)) (same_key o e.0)),
    holds_found es (second _ _ sorted) (λ k v found. h k v (elim (cases_Bool (eq_by_cmp o.compare k e.0)) [
      | inl tie ↦ let none = none_above o (λ _ _. true) k e.0 es (equal _ tie) (first _ _ sorted) in cc
      | inr other ↦ ap (λ b. cond b (Some e.1) (find o.compare k es)) other ∙ found
    ])),
  )

  pub each_row : (t : Table o V) → All (λ e. P e.1) t.rows → (k : K) (v : V) → get t k ≡ Some v → P v
  unfolding get
  each_row t h k v found = found_holds t.rows k v (recursion_from_All (λ e. P e.1) t.rows h) found

  pub all_rows : (t : Table o V) → ((k : K) (v : V) → get t k ≡ Some v → P v) → All (λ e. P e.1) t.rows
  unfolding get
  all_rows t h = All-from_recursion (λ e. P e.1) t.rows (holds_found t.rows t.sorted h)

-- ---- pairs of images

module _ {X Y : Type 0} (R : Y → Y → Type 0) (g : X → Y) where
  AllPairs-from_map : (xs : List X) → AllPairs R (map g xs) → AllPairs (λ x y. R (g x) (g y)) xs
  AllPairs-from_map xs h i j d low high =
      subst (λ (p : Y × Y). R p.0 p.1) (λ k. (get_or-map g xs i d (g d) (omega (arith, low, high)) k, get_or-map g xs j d (g d) high k))
      (h i j (g d) low (omega (arith, high, length-map xs g)))

  AllPairs-map : (xs : List X) → AllPairs (λ x y. R (g x) (g y)) xs → AllPairs R (map g xs)
  AllPairs-map [] h i j e low high = absurd (omega (arith, high))
  AllPairs-map (x ∷ xs) h i j e low high =
      let within : j < length (x ∷ xs) = omega (arith, high, length-map (x ∷ xs) g) in
      subst (λ (p : Y × Y). R p.0 p.1) (λ k. (sym (get_or-map g (x ∷ xs) i x e (omega (arith, low, within))) k, sym (get_or-map g (x ∷ xs) j x e within) k))
      (h i j x low within)

-- ---- what a call built, or did not

pub some_so : {X E : Type 0} {P Q : X → Type 0} (r : Result (Option X) E) → ((x : X) → P x → Q x) → IfOk r (λ o. IfSome o P) → IfOk r (λ o. IfSome o Q)
some_so (Ok (Some x)) so h = so x h
some_so (Ok None) so h = tt
some_so (Err e) so h = tt

pub none_so : {X E : Type 0} {P Q : Type 0} (r : Result (Option X) E) → (P → Q) → IfOk r (λ o. IfNone o P) → IfOk r (λ o. IfNone o Q)
none_so (Ok (Some x)) so h = tt
none_so (Ok None) so h = so h
none_so (Err e) so h = tt

-- ---- the placements of frames, with their names and without

pub pairs-filled : (es : List (Name × PageFrame)) → pairs_in (frames_data es) ≡ filled_in es
pairs-filled es = flat_map-map (λ e. filled_by e.0 (frame_of e.1)) (λ (e : Name × PageFrame). (e.0, frame_data e.1)) es

without_name : (n : Name) (qs : List Placement) → map (λ (x : Name × Placement). x.1) (map (λ q. (n, q)) qs) ≡ qs
without_name n [] = refl
without_name n (q ∷ qs) = ap (λ rest. q ∷ rest) (without_name n qs)

without_names : (es : List (Name × PageFrame)) → map (λ (x : Name × Placement). x.1) (filled_in es) ≡ flat_map (λ e. placements_in (frame_of (frame_data e.1))) es
without_names [] = refl
without_names (e ∷ es) =
    map-append (λ (x : Name × Placement). x.1) (filled_by e.0 (frame_of (frame_data e.1))) (filled_in es)
    ∙ (λ i. without_name e.0 (placements_in (frame_of (frame_data e.1))) i ++ without_names es i)

-- ---- a page's rows

abbrev frame_row : Name → Name × PageFrame → (Name × Name) × book.Frame
frame_row s e = ((s, e.0), frame_of (frame_data e.1))

abbrev with_owner : (Name × Name) × book.Frame → Placement → Sender × Placement
with_owner row q = (record { supplier = row.0.0; frame = row.0.1; node = row.1.node }, q)

-- the placements of some frames, without their owners
without_owners : (rows : List ((Name × Name) × book.Frame)) → map (λ (x : Sender × Placement). x.1) (flat_map (λ row. map (λ q. with_owner row q.0) row.1.placements.rows) rows) ≡ flat_map (λ row. placements_in row.1) rows
without_owners [] = refl
without_owners (row ∷ rows) =
    map-append (λ (x : Sender × Placement). x.1) (map (λ q. with_owner row q.0) row.1.placements.rows) (flat_map (λ row. map (λ q. with_owner row q.0) row.1.placements.rows) rows)
    ∙ (λ i. map-map (λ (x : Sender × Placement). x.1) (λ q. with_owner row q.0) row.1.placements.rows i ++ without_owners rows i)

module _ (r : PageRows) (nodes_rise : IsStrictlySortedBy name_cmp r.nodes.keys) (grants_rise : IsStrictlySortedBy slot_cmp (keys_of r.grants.entries)) (rises : IsStrictlySortedBy name_cmp (keys_of r.frames.entries)) where
  rise : IsStrictlySortedBy name_cmp (keys_of (frames_data r.frames.entries))
  rise = frames_rise r.frames.entries (frames_data r.frames.entries) refl rises

  frame_rows : (own_rows_of (rows_data r)).frames.rows ≡ map (frame_row r.supplier) r.frames.entries
  frame_rows = rows-table_of name_cmp owned (λ f. (r.supplier, f)) frame_of (own_alike r.supplier) (frames_data r.frames.entries) rise ∙ map-map _ _ r.frames.entries

  count_nodes : len (own_rows_of (rows_data r)).nodes ≡ length r.nodes.keys
  count_nodes = len-set_of name_cmp owned (λ n. (r.supplier, n)) (own_alike r.supplier) r.nodes.keys nodes_rise

  count_frames : len (own_rows_of (rows_data r)).frames ≡ length r.frames.entries
  count_frames = len-table_of name_cmp owned (λ f. (r.supplier, f)) frame_of (own_alike r.supplier) (frames_data r.frames.entries) rise ∙ length-map r.frames.entries _

  all_placements : map (λ (x : Sender × Placement). x.1) (placements_of (own_rows_of (rows_data r)).frames) ≡ flat_map (λ e. placements_in (frame_of (frame_data e.1))) r.frames.entries
  unfolding placements_of
  all_placements =
      without_owners (own_rows_of (rows_data r)).frames.rows
      ∙ ap (flat_map (λ row. placements_in row.1)) frame_rows
      ∙ flat_map-map (λ row. placements_in row.1) (frame_row r.supplier) r.frames.entries

  abbrev Frames : Type 0
  Frames = All (λ e. IsKeptFrame (own_rows_of (rows_data r)) (frame_data e.1)) r.frames.entries

  kept_frames : IsKept (rows_data r) → Frames
  kept_frames kept =
      let each = All-from_map (λ e. IsPageFrame (own_rows_of (rows_data r)) e.1) (frame_row r.supplier) r.frames.entries
      (subst (All (λ e. IsPageFrame (own_rows_of (rows_data r)) e.1)) frame_rows (all_rows owned (IsPageFrame (own_rows_of (rows_data r))) (own_rows_of (rows_data r)).frames kept.page.each)) in
      let words = All-from_map (λ e. e.1.layout.words ≡ r.params.payload_words) (λ e. (e.0, frame_data e.1)) r.frames.entries kept.words in
      let placements = All-from_map (λ e. IsStrictlySortedBy placement_order.compare e.1.placements) (λ e. (e.0, frame_data e.1)) r.frames.entries kept.order.frames.placements in
      λ i d low. (each i d low, words i d low, placements i d low)

  pub kept_share : IsKept (rows_data r) → ShareNone (pairs_in (frames_data r.frames.entries))
  kept_share k = subst ShareNone (sym (pairs-filled r.frames.entries)) (page-apart (rows_data r) r.frames.entries refl rises k)

  kept : length r.nodes.keys ≤ 64 → length r.frames.entries ≤ 256 → Frames → AllPairs AreApart (flat_map (λ e. placements_in (frame_of (frame_data e.1))) r.frames.entries) → IsKept (rows_data r)
  kept nodes frames each cells = record {
    page = record {
      nodes = omega (arith, count_nodes, nodes);
      frames = omega (arith, count_frames, frames);
      each = each_row owned (IsPageFrame (own_rows_of (rows_data r))) (own_rows_of (rows_data r)).frames
          (subst (All (λ e. IsPageFrame (own_rows_of (rows_data r)) e.1)) (sym frame_rows) (All-map (λ e. IsPageFrame (own_rows_of (rows_data r)) e.1) (frame_row r.supplier) r.frames.entries (λ i d low. (each i d low).0)));
      apart = AllPairs-from_map AreApart (λ x. x.1) (placements_of (own_rows_of (rows_data r)).frames) (subst (AllPairs AreApart) (sym all_placements) cells);
    };
    words = All-map (λ e. e.1.layout.words ≡ r.params.payload_words) (λ e. (e.0, frame_data e.1)) r.frames.entries (λ i d low. (each i d low).1);
    order = record {
      nodes = names_rise r.nodes.keys nodes_rise;
      grants = slots_rise (keys_of r.grants.entries) grants_rise;
      frames = record {
        names = names_rise (keys_of (frames_data r.frames.entries)) rise;
        placements = All-map (λ e. IsStrictlySortedBy placement_order.compare e.1.placements) (λ e. (e.0, frame_data e.1)) r.frames.entries (λ i d low. (each i d low).2);
      };
    };
  }

  -- too many nodes, too many frames, or a frame that is none of a page
  pub too_many_nodes : 64 < length r.nodes.keys → ¬ IsKept (rows_data r)
  too_many_nodes many k = let few = k.page.nodes in omega (arith, few, many, count_nodes)

  pub too_many_frames : 256 < length r.frames.entries → ¬ IsKept (rows_data r)
  too_many_frames many k = let few = k.page.frames in omega (arith, few, many, count_frames)

  pub other_frames : (are : Bool) → are ≡ false → Decides are Frames → ¬ IsKept (rows_data r)
  other_frames are none frames k = true≢false (sym (frames.1 (kept_frames k)) ∙ none)

  -- else they are a page's where no cell lies in two placements
  pub kept_rows : length r.nodes.keys ≤ 64 → length r.frames.entries ≤ 256 → Frames → ShareNone (pairs_in (frames_data r.frames.entries)) → IsKept (rows_data r)
  kept_rows nodes frames each share =
      kept nodes frames each
      (subst (AllPairs AreApart) (without_names r.frames.entries) (AllPairs-map AreApart (λ (x : Name × Placement). x.1) (filled_in r.frames.entries) (subst ShareNone (pairs-filled r.frames.entries) share)))
