-- The rows of one frame apart from those of the other frames.
use Rattle.std.proofs.Common.{◌≡◌, Bool, true, false, not, ◌&&◌, None, Some, Option, List, [], ◌∷◌, ◌++◌, filter, flat_map, refl, sym, ap, ap₂, ◌∙◌, subst, IsPermutation, append-nil, append_assoc, bytes_eq, true≢false}
use Rattle.std.specs.Ordering.{is_eq, eq_by_cmp}
use Rattle.std.specs.Cmp.{tied_itself}
use Rattle.std.proofs.lemmas.Bool.{and_parts, and_left, and_right, not-true}
use Rattle.std.proofs.lemmas.Grind.{flat_map-append}
use Rattle.std.proofs.lemmas.List.Elements.{filter-append}
use Rattle.std.proofs.lemmas.List.Sorted.{IsPermutation-trans, IsPermutation-append_left}
use Rattle.sqlite_keyed.proofs.ListLemmas.{IsPermutation-flat_map}
use Rattle.fr_base.specs.Tables.{Table, get, only, remove}
use Rattle.fr_base.specs.Keys.{names, owned}
use Rattle.fr_base.specs.Book.{Frame, Variant}
use Rattle.fr_base.specs.declared.name.Name.{Name}
use Rattle.fr_base.proofs.SoundRows.{same_text-is}
use Rattle.fr_store.specs.StandsFor.{Stored, Entry, of_frames}
use Rattle.fr_store.proofs.ApartLemmas.{flat_map_among, nothing_among, apart}
use Rattle.fr_store.proofs.FramePartLemmas.{is_it}
use Rattle.fr_store.proofs.HolderLemmas.{other_name}
use Rattle.fr_store.proofs.SectionLemmas.{row_at}

module _ {X : Type 0} (rows : Name → Entry → List X) (v s f : Name) where
  -- the rows of what stands at the frame's name
  abbrev pub section : Option Frame → List X
  section None = []
  section (Some frame) = rows v ((s, f), frame)

  abbrev of_variant : (Name → Stored) → Name × Variant → List X
  of_variant stored e = flat_map (rows e.0) (stored e.0).own.rows

  -- the rows of the other frames: of this variant's, and of the other variants'
  pub others : (Name → Stored) → Table names Variant → List X
  others stored variants = flat_map (rows v) (remove (stored v).own (s, f)).rows ++ flat_map (of_variant stored) (remove variants v).rows

  section_at : (o : Option Frame) → flat_map (rows v) (row_at (s, f) o) ≡ section o
  section_at None = refl
  section_at (Some frame) = append-nil _

  -- the frame's rows and those of the others are all rows
  pub parted : (stored : Name → Stored) (variants : Table names Variant) (x : Variant) → get variants v ≡ Some x
      → IsPermutation (section (get (stored v).own (s, f)) ++ others stored variants) (of_frames rows stored variants)
  unfolding others of_frames
  parted stored variants x there =
      let own = (stored v).own in
      let rest = flat_map (of_variant stored) (remove variants v).rows in
      let frames_parted : IsPermutation (section (get own (s, f)) ++ flat_map (rows v) (remove own (s, f)).rows) (flat_map (rows v) own.rows) =
      subst (λ xs. IsPermutation xs (flat_map (rows v) own.rows))
      (flat_map-append (rows v) (row_at (s, f) (get own (s, f))) (remove own (s, f)).rows ∙ ap (λ xs. xs ++ flat_map (rows v) (remove own (s, f)).rows) (section_at (get own (s, f))))
      (IsPermutation-flat_map (rows v) _ _ (apart owned (s, f) own)) in
      let variants_parted : IsPermutation (flat_map (rows v) own.rows ++ rest) (flat_map (of_variant stored) variants.rows) =
      subst (λ o. IsPermutation (flat_map (of_variant stored) (row_at v o ++ (remove variants v).rows)) (flat_map (of_variant stored) variants.rows)) there
      (IsPermutation-flat_map (of_variant stored) _ _ (apart names v variants)) in
      subst (λ xs. IsPermutation xs (flat_map (of_variant stored) variants.rows)) (append_assoc (section (get own (s, f))) (flat_map (rows v) (remove own (s, f)).rows) rest)
      (IsPermutation-trans _ _ _ (IsPermutation-append_left rest _ _ frames_parted) variants_parted)

  -- where only this frame is changed, the others' rows are the same
  pub others_stay : (stored stored_next : Name → Stored) (variants next : Table names Variant) → remove (stored_next v).own (s, f) ≡ remove (stored v).own (s, f) → remove next v ≡ remove variants v
      → ((w : Name) → is_eq (names.compare v w) ≡ false → stored_next w ≡ stored w) → others stored_next next ≡ others stored variants
  unfolding others remove only
  others_stay stored stored_next variants next own there same =
      ap₂ ◌++◌ (ap (λ t. flat_map (rows v) t.rows) own)
      (ap (λ t. flat_map (of_variant stored_next) t.rows) there
      ∙ flat_map_among (λ e. not (eq_by_cmp names.compare v e.0)) (of_variant stored_next) (of_variant stored)
      (λ e apart. ap (λ st. flat_map (rows e.0) st.own.rows) (same e.0 (not-true _ apart))) variants.rows)

  other_key : (k : Name × Name) → is_eq (owned.compare (s, f) k) ≡ false → (bytes_eq k.0 s && bytes_eq k.1 f) ≡ false
  other_key k apart = by_test (bytes_eq k.0 s && bytes_eq k.1 f) refl
    where
      by_test : (b : Bool) → (bytes_eq k.0 s && bytes_eq k.1 f) ≡ b → b ≡ false
      by_test false e = refl
      by_test true e =
          let here = and_parts _ _ e in
          let same : (s, f) ≡ k = λ i. (sym (same_text-is k.0 s here.0) i, sym (same_text-is k.1 f here.1) i) in
          absurd (true≢false (sym (ap is_eq (ap (owned.compare (s, f)) (sym same) ∙ tied_itself owned.total (s, f))) ∙ apart))

  -- no row of the others is of this frame
  pub others_apart : (passes : X → Bool) → ((w : Name) (e : Entry) → is_it v s f w e.0 ≡ false → filter passes (rows w e) ≡ []) → (stored : Name → Stored) (variants : Table names Variant)
      → filter passes (others stored variants) ≡ []
  unfolding others remove only
  others_apart passes apart stored variants =
      filter-append passes (flat_map (rows v) (remove (stored v).own (s, f)).rows) (flat_map (of_variant stored) (remove variants v).rows)
      ∙ ap₂ ◌++◌
      (nothing_among (λ e. not (eq_by_cmp owned.compare (s, f) e.0)) passes (rows v) (λ e other. apart v e (and_right (bytes_eq v v) _ (other_key e.0 (not-true _ other)))) (stored v).own.rows)
      (nothing_among (λ e. not (eq_by_cmp names.compare v e.0)) passes (of_variant stored) (λ e other. in_variant e (not-true _ other)) variants.rows)
    where
      none_of : (e : Name × Variant) (es : List Entry) → is_eq (names.compare v e.0) ≡ false → filter passes (flat_map (rows e.0) es) ≡ []
      none_of e [] other = refl
      none_of e (g ∷ es) other = filter-append passes (rows e.0 g) (flat_map (rows e.0) es) ∙ ap₂ ◌++◌ (apart e.0 g (and_left _ _ (other_name v e.0 other))) (none_of e es other)

      in_variant : (e : Name × Variant) → is_eq (names.compare v e.0) ≡ false → filter passes (of_variant stored e) ≡ []
      in_variant e other = none_of e (stored e.0).own.rows other
