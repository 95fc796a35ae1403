-- The frames that a variant shows: its own, and where it is laid over its parent also those of the parent.
use Rattle.std.proofs.Common.{◌≡◌, ◌==◌, ℕ, suc, ◌+◌, ◌<◌, pos, Bool, true, false, not, ◌||◌, ◌&&◌, cond, None, Some, Option, is_some, List, [], ◌∷◌, ◌++◌, map, filter, take, length, get_or, option_map, bytes_eq, if◌then◌else◌, refl, sym, ap, ap₂, ◌∙◌, subst, arith, Less, slice_get, MatchOption, inl, inr, true≢false}
use Rattle.std.specs.Ordering.{int_eq, is_eq}
use Rattle.std.specs.List.{list_any}
use Rattle.std.specs.Option.{option_or}
use Rattle.std.specs.BTreeMap.{is_at}
use Rattle.std.specs.FinMap.Entries.{find}
use Rattle.std.proofs.lemmas.Bool.{cases_Bool}
use Rattle.std.proofs.lemmas.List.Folds.{list_any-append}
use Rattle.std.proofs.lemmas.List.Sorted.{list_any-IsPermutation, IsPermutation-map}
use Rattle.std.proofs.lemmas.Map.Text.{is_eq-slice_cmp}
use Rattle.std.proofs.lemmas.Slice.Eq.{bytes_eq-Decides}
use Rattle.std.proofs.Math.Bool.{or-false}
use Rattle.std.proofs.Math.Seq.{take-suc}
use Rattle.sqlite.specs.Order.{Row}
use Rattle.sqlite_trees.specs.Tree.{IsAscending}
use Rattle.sqlite_keyed.proofs.ListLemmas.{filter-map}
use Rattle.fr_base.specs.Tables.{Table, get, contains}
use Rattle.fr_base.specs.Keys.{names, owned}
use Rattle.fr_base.specs.Book.{Book, Variant, Frame, is_of, own}
use Rattle.fr_base.specs.declared.name.Name.{Name}
use Rattle.fr_base.proofs.SoundRows.{same_text-is}
use Rattle.fr_base.proofs.AloneCells.{same_text-itself}
use Rattle.fr_base.proofs.AloneTables.{get-own}
use Rattle.fr_base.proofs.TableLaws.{equal, same_table, get-only, get-from_rows, kept}
use Rattle.fr_world.specs.Amends.{as_frame, frame_at, frames_of}
use Rattle.fr_world.specs.Maps.{table_of}
use Rattle.fr_world.specs.Pages.{frame_of, frames_data}
use Rattle.fr_world.specs.declared.page.PageFrame.{PageFrame}
use Rattle.fr_world.proofs.AmendLaws.{get_frame}
use Rattle.fr_world.proofs.KeyLaws.{name_cmp}
use Rattle.fr_tables.specs.Rows.{VariantRow, DroppedRow, maybe_words, of_maybe, flag, key_of}
use Rattle.fr_tables.specs.Tables.{Tables}
use Rattle.fr_tables.specs.Changes.{AreListed}
use Rattle.fr_tables.specs.Statements.{any_order, is_variant, shows_variant, is_dropped, is_dropped_by, shows_dropped, dropped_cmp}
use Rattle.fr_store.specs.StandsFor.{HoldsRows, Stored, variant_row, seen, own_or, of_parent}
use Rattle.fr_store.specs.Reading.{name_shown}
use Rattle.fr_store.specs.Paging.{TellsLevel, TellsOver, TellsView, TellsFrames, laid_over, level_shown}
use Rattle.fr_store.specs.declared.page.view.Level.{Level}
use Rattle.fr_store.specs.declared.page.view.View.{View}
use Rattle.fr_store.proofs.HolderLemmas.{any_order_total, other_name}
use Rattle.fr_store.proofs.OrderLemmas.{are_listed}
use Rattle.fr_store.proofs.ReadingLemmas.{flag_back, maybe_back}
use Rattle.fr_store.proofs.SectionLemmas.{only_row, row_at}

-- ---- a variant's row

module _ (t : Tables) (count : ℕ) (b : Book) (stands : HoldsRows t count b) (v : Name) where
  abbrev row_of : Name × Variant → VariantRow
  row_of = variant_row stands.stored

  one_row : filter (is_variant v) (map row_of b.variants.rows) ≡ map row_of (row_at v (get b.variants v))
  one_row =
      filter-map (is_variant v) row_of b.variants.rows
      ∙ ap (map row_of) (only_row names (λ e. bytes_eq e.0 v) v (λ e. other_name v e.0) (λ x. (bytes_eq-Decides v v).1 refl) b.variants)

  one_rises : (o : Option Variant) → IsAscending (λ x y. any_order {X = VariantRow} x y ≡ Less) (map row_of (row_at v o))
  one_rises None = tt
  one_rises (Some x) = (tt, tt)

  abbrev Tells : Option Variant → Option Level → Type 0
  Tells o found = MatchOption found (o ≡ None) (λ level. (x : Variant) × (o ≡ Some x) × (level.released ≡ x.released) × (level.parent ≡ laid_over (stands.stored v) x))

  parent_back : (x : Variant) → (if int_eq (flag (stands.stored v).overlay) (pos 1) then maybe_words (of_maybe x.parent) else None) ≡ laid_over (stands.stored v) x
  parent_back x = ap₂ (λ is parent. if is then parent else None) (flag_back (stands.stored v).overlay) (maybe_back x.parent)

  by_variant : (o : Option Variant) → Tells o (option_map level_shown (slice_get (map shows_variant (map row_of (row_at v o))) 0))
  by_variant None = refl
  by_variant (Some x) = (x, refl, flag_back x.released, parent_back x)

  abbrev IsListed : List Row → Type 0
  IsListed = AreListed shows_variant (is_variant v) any_order t.variants

  -- the rows that are listed are the one of the variant, if it is there
  one_listed : (rows : List Row) → IsListed rows → rows ≡ map shows_variant (map row_of (row_at v (get b.variants v)))
  one_listed rows listed =
      are_listed shows_variant (is_variant v) any_order any_order_total (map row_of b.variants.rows) t.variants rows stands.variants
      (subst (IsAscending (λ x y. any_order x y ≡ Less)) (sym one_row) (one_rises (get b.variants v))) listed
      ∙ ap (map shows_variant) one_row

  pub level_told : (rows : List Row) (found : Option Level) → IsListed rows → found ≡ option_map level_shown (slice_get rows 0) → Tells (get b.variants v) found
  level_told rows found listed read =
      subst (Tells (get b.variants v)) (sym (read ∙ ap (λ rs. option_map level_shown (slice_get rs 0)) (one_listed rows listed))) (by_variant (get b.variants v))

  a_row : (o : Option Variant) → not (length (map shows_variant (map row_of (row_at v o))) == 0) ≡ is_some o
  a_row None = refl
  a_row (Some x) = refl

  -- there is a row where the variant is there
  pub has_told : (rows : List Row) → IsListed rows → not (length rows == 0) ≡ contains b.variants v
  has_told rows listed = ap (λ rs. not (length rs == 0)) (one_listed rows listed) ∙ a_row (get b.variants v)

-- ---- names of rows

-- whether a row has the name
abbrev pub is_named : Name → Row → Bool
is_named n r = bytes_eq (name_shown r) n

-- what is left after one more name
pub less_one : (rows : List Row) (at : ℕ) (row : Row) (m n : Name) (old : Option PageFrame) → at < length rows → get_or rows at row ≡ row → m ≡ name_shown row
    → cond (is_at (name_cmp m) n) None (if list_any (is_named n) (take at rows) then None else old) ≡ (if list_any (is_named n) (take (at + 1) rows) then None else old)
less_one rows at row m n old low is name =
    ap (λ b. cond b None (if list_any (is_named n) (take at rows) then None else old)) (is_eq-slice_cmp m n ∙ ap (λ w. bytes_eq w n) name)
    ∙ either (list_any (is_named n) (take at rows)) (is_named n row)
    ∙ ap (λ b. if b then None else old) (sym more)
  where
    either : (a b : Bool) → cond b None (if a then None else old) ≡ (if a || b then None else old)
    either true true = refl
    either true false = refl
    either false true = refl
    either false false = refl

    next : at + 1 ≡ suc at
    next = omega arith

    more : list_any (is_named n) (take (at + 1) rows) ≡ (list_any (is_named n) (take at rows) || is_named n row)
    more =
        ap (λ k. list_any (is_named n) (take k rows)) next ∙ ap (list_any (is_named n)) (take-suc rows at row low ∙ ap (λ x. take at rows ++ x ∷ []) is)
        ∙ list_any-append (is_named n) (take at rows) (row ∷ []) ∙ ap (λ b. list_any (is_named n) (take at rows) || b) (or-false (is_named n row))

-- the rows of a variant's dropped frames have the names that were dropped in it
module _ (t : Tables) (v s : Name) where
  shown_names : (n : Name) (ds : List DroppedRow) → list_any (is_named n) (map shows_dropped (filter (is_dropped_by v s) ds)) ≡ list_any (is_dropped (key_of v s n)) ds
  shown_names n [] = refl
  shown_names n (d ∷ ds) = by_tests (bytes_eq d.variant v) (bytes_eq d.supplier s) (shown_names n ds)
    where
      by_tests : (of_variant of_supplier : Bool) → list_any (is_named n) (map shows_dropped (filter (is_dropped_by v s) ds)) ≡ list_any (is_dropped (key_of v s n)) ds
          → list_any (is_named n) (map shows_dropped (cond (of_variant && of_supplier) (d ∷ filter (is_dropped_by v s) ds) (filter (is_dropped_by v s) ds)))
          ≡ ((of_variant && (of_supplier && bytes_eq d.frame n)) || list_any (is_dropped (key_of v s n)) ds)
      by_tests true true more = ap (λ b. bytes_eq d.frame n || b) more
      by_tests true false more = more
      by_tests false of_supplier more = more

  pub dropped_named : (rows : List Row) → AreListed shows_dropped (is_dropped_by v s) dropped_cmp t.dropped rows → (n : Name) → list_any (is_named n) rows ≡ list_any (is_dropped (key_of v s n)) t.dropped
  dropped_named rows listed n =
      ap (list_any (is_named n)) listed.shown ∙ sym (list_any-IsPermutation (is_named n) _ _ (IsPermutation-map shows_dropped _ _ listed.same)) ∙ shown_names n t.dropped

-- ---- a supplier's frames, by look-ups

-- under another supplier's key there is none
other_none : (s : Name) (k : Name × Name) → is_of s k ≡ false → (frames : List (Name × PageFrame)) → get (frames_of s frames) k ≡ None
unfolding table_of
other_none s k other frames = get-from_rows owned _ k ∙ none_at frames
  where
    apart : (n : Name) → is_eq (owned.compare k (s, n)) ≡ false
    apart n = elim (cases_Bool (is_eq (owned.compare k (s, n)))) [
      | inl tie ↦ absurd (true≢false (sym (ap (λ j. is_of s j) (owned.exact k (s, n) (equal _ tie)) ∙ same_text-itself s) ∙ other))
      | inr not ↦ not
    ]

    none_at : (es : List (Name × PageFrame)) → find owned.compare k (map (λ e. ((s, e.0), frame_of e.1)) (frames_data es)) ≡ None
    none_at [] = refl
    none_at (e ∷ es) = ap (λ b. cond b (Some (as_frame e.1)) (find owned.compare k (map (λ e. ((s, e.0), frame_of e.1)) (frames_data es)))) (apart e.0) ∙ none_at es

-- so it is enough to look up the supplier's names
module _ (s : Name) (frames : List (Name × PageFrame)) (table : Table owned Frame) (alike : (n : Name) → option_map as_frame (frame_at n frames) ≡ get table (s, n)) where
  not_kept : (k : Name × Name) (o : Option Frame) → is_of s k ≡ false → kept (λ j _. is_of s j) k o ≡ None
  not_kept k None other = refl
  not_kept k (Some f) other = ap (λ b. cond b (Some f) None) other

  pub same_frames : frames_of s frames ≡ own s table
  same_frames = same_table _ _ (λ k. elim (cases_Bool (is_of s k)) [
    | inl mine ↦
        let same : (s, k.1) ≡ k = λ i. (sym (same_text-is k.0 s mine) i, k.1) in
        subst (λ j. get (frames_of s frames) j ≡ get (own s table) j) same
        (get_frame s k.1 frames ∙ alike k.1 ∙ sym (get-own owned (is_of s) table (s, k.1) (same_text-itself s)))
    | inr other ↦ other_none s k other frames ∙ sym (get-only owned (λ j _. is_of s j) table k ∙ not_kept k (get table k) other)
  ])

-- and the names that are there
found_in : (s : Name) (frames : List (Name × PageFrame)) (table : Table owned Frame) → frames_of s frames ≡ own s table → (n : Name) → option_map as_frame (frame_at n frames) ≡ get table (s, n)
found_in s frames table are n = sym (get_frame s n frames) ∙ ap (λ t. get t (s, n)) are ∙ get-own owned (is_of s) table (s, n) (same_text-itself s)

-- ---- what a variant shows

module _ (t : Tables) (count : ℕ) (b : Book) (stands : HoldsRows t count b) (v : Name) (x : Variant) (there : get b.variants v ≡ Some x) where
  abbrev stored : Stored
  stored = stands.stored v

  -- by itself its own frames
  alone : (o : Option Frame) (is hidden : Bool) (parent : Option Name) (k : Name × Name) → (if is then parent else None) ≡ None → own_or o (not is || hidden) (of_parent b.variants parent k) ≡ o
  unfolding of_parent
  alone (Some f) is hidden parent k none = refl
  alone None false hidden parent k none = refl
  alone None true hidden None k none = nothing hidden
    where
      nothing : (h : Bool) → own_or None h None ≡ None
      nothing true = refl
      nothing false = refl
  alone None true hidden (Some p) k none = absurd cc

  pub frames_alone : laid_over stored x ≡ None → stored.own ≡ x.frames
  unfolding seen
  frames_alone none =
      same_table _ _ (λ k. sym ((stands.each v x there).frames k ∙ alone (get stored.own k) stored.overlay (list_any (is_dropped (key_of v k.0 k.1)) t.dropped) x.parent k none))

  -- laid over its parent, its own and then the parent's but for the dropped ones
  over : (p : Name) (y : Variant) → get b.variants p ≡ Some y → (o : Option Frame) (is hidden : Bool) (parent : Option Name) (k : Name × Name) → (if is then parent else None) ≡ Some p
      → own_or o (not is || hidden) (of_parent b.variants parent k) ≡ option_or o (if hidden then None else get y.frames k)
  unfolding of_parent
  over p y is_there (Some f) is hidden parent k laid = refl
  over p y is_there None false hidden parent k laid = absurd cc
  over p y is_there None true hidden None k laid = absurd cc
  over p y is_there None true hidden (Some q) k laid =
      let same : q ≡ p = cc in
      let found : get b.variants q ≡ Some y = ap (get b.variants) same ∙ is_there in
      rw found refl

  pub frames_over : (p : Name) (y : Variant) → get b.variants p ≡ Some y → laid_over stored x ≡ Some p → (k : Name × Name)
      → get x.frames k ≡ option_or (get stored.own k) (if list_any (is_dropped (key_of v k.0 k.1)) t.dropped then None else get y.frames k)
  unfolding seen
  frames_over p y is_there laid k = (stands.each v x there).frames k ∙ over p y is_there (get stored.own k) stored.overlay (list_any (is_dropped (key_of v k.0 k.1)) t.dropped) x.parent k laid

-- ---- one level over the next

map_or : {X Y : Type 0} (f : X → Y) (o p : Option X) → option_map f (option_or o p) ≡ option_or (option_map f o) (option_map f p)
map_or f None p = refl
map_or f (Some x) p = refl

map_if : {X Y : Type 0} (f : X → Y) (b : Bool) (o : Option X) → option_map f (if b then None else o) ≡ (if b then None else option_map f o)
map_if f true o = refl
map_if f false o = refl

module _ (count : ℕ) (t : Tables) (v s : Name) (inherited kept own all : List (Name × PageFrame)) (rows : List Row)
    (listed : AreListed shows_dropped (is_dropped_by v s) dropped_cmp t.dropped rows)
    (left : (n : Name) → frame_at n kept ≡ (if list_any (is_named n) rows then None else frame_at n inherited))
    (joined : (n : Name) → frame_at n all ≡ option_or (frame_at n own) (frame_at n kept))
    (tells : TellsFrames count v s t (frames_data own)) where
  pub over_told : (parent : Name) → TellsOver count v s parent (frames_data inherited) t (frames_data all)
  over_told parent b stands x y there laid parent_there are =
      same_frames s all x.frames (λ n.
      ap (option_map as_frame) (joined n) ∙ map_or as_frame (frame_at n own) (frame_at n kept)
      ∙ ap₂ option_or (found_in s own (stands.stored v).own (tells b stands x there) n)
      (ap (option_map as_frame) (left n) ∙ map_if as_frame (list_any (is_named n) rows) (frame_at n inherited)
      ∙ ap₂ (λ h o. if h then None else o) (dropped_named t v s rows listed n) (found_in s inherited y.frames are n))
      ∙ sym (frames_over t count b stands v x there parent y parent_there laid (s, n)))

-- ---- the view

module _ (count : ℕ) (t : Tables) (v s : Name) (level : Level) (here : TellsLevel v t (Some level)) (view : View) (released : view.released ≡ level.released) where
  pub alone_told : level.parent ≡ None → TellsFrames count v s t (frames_data view.frames.entries) → TellsView count v s t (Some view)
  alone_told none tells b stands =
      let it = here count b stands in
      (it.0, it.1, released ∙ it.2, tells b stands it.0 it.1 ∙ ap (own s) (frames_alone t count b stands v it.0 it.1 (sym it.3 ∙ none)))

  pub laid_told : (parent : Name) (above : View) → level.parent ≡ Some parent → TellsView count parent s t (Some above) → TellsOver count v s parent (frames_data above.frames.entries) t (frames_data view.frames.entries) → TellsView count v s t (Some view)
  laid_told parent above laid tells over b stands =
      let it = here count b stands in
      let its = tells b stands in
      (it.0, it.1, released ∙ it.2, over b stands it.0 its.0 it.1 (sym it.3 ∙ laid) its.1 its.3)
