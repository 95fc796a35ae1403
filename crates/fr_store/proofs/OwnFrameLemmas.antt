-- A supplier's frames among a variant's own, as they are read row by row.
use Rattle.std.proofs.Common.{◌≡◌, ℕ, ◌+◌, ◌<◌, Bool, true, false, cond, ◌&&◌, None, Some, Option, List, [], ◌∷◌, map, filter, flat_map, reverse, take, length, get_or, All, refl, sym, ap, ◌∙◌, subst, IsPermutation, bytes_eq}
use Rattle.std.specs.List.{AllByRecursion}
use Rattle.std.specs.List.Sorted.{IsStrictlySortedBy}
use Rattle.std.specs.Map.{keys_of}
use Rattle.std.specs.BTreeMap.{insert_entry}
use Rattle.std.specs.Ordering.{is_eq}
use Rattle.std.proofs.lemmas.List.Concat.{flat_map_single}
use Rattle.std.proofs.lemmas.List.Elements.{All-from_recursion}
use Rattle.std.proofs.lemmas.List.Sorted.{All-permutation, IsPermutation-trans, IsPermutation-map, IsPermutation-reverse}
use Rattle.std.proofs.lemmas.Slice.Eq.{bytes_eq-Decides}
use Rattle.sqlite.specs.Order.{Row}
use Rattle.sqlite_keyed.proofs.ListLemmas.{map-map, filter-map, filter_same, IsPermutation-filter}
use Rattle.fr_base.specs.Tables.{Table, get, insert, only, from_rows, empty}
use Rattle.fr_base.specs.Keys.{names, owned}
use Rattle.fr_base.specs.Book.{Book, Variant, Frame, is_of, own}
use Rattle.fr_base.specs.declared.name.Name.{Name}
use Rattle.fr_base.specs.declared.params.Params.{Params}
use Rattle.fr_base.proofs.SoundRows.{same_text-is}
use Rattle.fr_world.specs.Maps.{table_of}
use Rattle.fr_world.specs.Pages.{frame_data, frames_data, frame_of}
use Rattle.fr_world.specs.declared.page.PageFrame.{PageFrame}
use Rattle.fr_world.proofs.KeyLaws.{name_cmp, own_alike}
use Rattle.fr_world.proofs.MapLaws.{table_of-insert_entry}
use Rattle.fr_tables.specs.Rows.{FrameRow}
use Rattle.fr_tables.specs.Tables.{Tables}
use Rattle.fr_tables.specs.Changes.{AreListed}
use Rattle.fr_tables.specs.Statements.{is_frame_of, shows_frame, frames_cmp}
use Rattle.fr_store.specs.StandsFor.{HoldsRows, Entry, of_frames, frame_row}
use Rattle.fr_store.specs.Reading.{name_shown}
use Rattle.fr_store.specs.Paging.{TellsFrame, TellsFrames, node_shown}
use Rattle.fr_store.proofs.HolderLemmas.{other_name}
use Rattle.fr_store.proofs.SectionLemmas.{at, only_at}
use Rattle.fr_store.proofs.FramePartLemmas.{filter_flat_none}
use Rattle.fr_store.proofs.TurnLemmas.{turned, each_found, rows_any}

-- the frame that was found
abbrev found : Option Frame → Frame
found None = record { node = []; placements = empty; signals = [] }
found (Some f) = f

module _ (all : Table owned Frame) (s : Name) where
  -- the supplier's frame of which a row tells
  abbrev pub entry_shown : Row → Entry
  entry_shown r = ((s, name_shown r), found (get all (s, name_shown r)))

  -- the row is one of the frames'
  abbrev pub IsOfFrame : Row → Type 0
  IsOfFrame r = (f : Frame) × (get all (s, name_shown r) ≡ Some f) × (f.node ≡ node_shown r)

  abbrev IsMine : Entry → Type 0
  IsMine e = (s ≡ e.0.0) × (get all e.0 ≡ Some e.1)

  abbrev is_own : Entry → Bool
  is_own e = is_of s e.0

  mine_among : (es : List Entry) → AllByRecursion (λ e. get all e.0 ≡ Some e.1) es → AllByRecursion IsMine (filter is_own es)
  mine_among [] h = tt
  mine_among (e ∷ es) h = by_test (is_own e) refl (mine_among es h.1)
    where
      by_test : (b : Bool) → is_own e ≡ b → AllByRecursion IsMine (filter is_own es) → AllByRecursion IsMine (cond b (e ∷ filter is_own es) (filter is_own es))
      by_test true is more = ((sym (same_text-is e.0.0 s is), h.0), more)
      by_test false is more = more

  mine : AllByRecursion IsMine (filter is_own all.rows)
  unfolding get
  mine = mine_among all.rows (each_found owned all.rows all.sorted)

  module _ (v : Name) where
    abbrev row_of : Entry → Row
    row_of e = shows_frame (frame_row v e)

    found_mine : (e : Entry) → IsMine e → get all (s, e.0.1) ≡ Some e.1
    found_mine e is = (λ i. get all (is.0 i, e.0.1)) ∙ is.1

    rows_are : (es : List Entry) → AllByRecursion IsMine es → AllByRecursion IsOfFrame (map row_of es)
    rows_are [] h = tt
    rows_are (e ∷ es) h = ((e.1, found_mine e h.0, refl), rows_are es h.1)

    shown_again : (es : List Entry) → AllByRecursion IsMine es → map entry_shown (map row_of es) ≡ es
    shown_again [] h = refl
    shown_again (e ∷ es) h = λ i. ((h.0.0 i, e.0.1), ap found (found_mine e h.0) i) ∷ shown_again es h.1 i

-- ---- the rows of a query

module _ (v s : Name) (t : Tables) (count : ℕ) (b : Book) (stands : HoldsRows t count b) (x : Variant) (there : get b.variants v ≡ Some x) where
  abbrev stored : Table owned Frame
  stored = (stands.stored v).own

  abbrev passes : FrameRow → Bool
  passes = is_frame_of v s

  abbrev rows_in : Name × Variant → List FrameRow
  rows_in e = flat_map (λ f. frame_row e.0 f ∷ []) (stands.stored e.0).own.rows

  other_variants : (e : Name × Variant) → is_eq (names.compare v e.0) ≡ false → filter passes (rows_in e) ≡ []
  other_variants e apart =
      filter_flat_none passes (λ f. frame_row e.0 f ∷ []) (λ f. ap (λ b. cond b (frame_row e.0 f ∷ []) []) (ap (λ b. b && bytes_eq f.0.0 s) (other_name v e.0 apart)))
      (stands.stored e.0).own.rows

  this_variant : filter passes (rows_in (v, x)) ≡ map (frame_row v) (filter (is_own stored s) stored.rows)
  this_variant =
      ap (filter passes) (flat_map_single (frame_row v) stored.rows) ∙ filter-map passes (frame_row v) stored.rows
      ∙ ap (map (frame_row v)) (filter_same (λ f. passes (frame_row v f)) (is_own stored s) (λ f. ap (λ b. b && bytes_eq f.0.0 s) ((bytes_eq-Decides v v).1 refl)) stored.rows)

  section : filter passes (of_frames (λ w f. frame_row w f ∷ []) stands.stored b.variants) ≡ map (frame_row v) (filter (is_own stored s) stored.rows)
  unfolding of_frames
  section = only_at names rows_in passes v other_variants b.variants ∙ ap (at rows_in passes v) there ∙ this_variant

  module _ (rows : List Row) (listed : AreListed shows_frame passes frames_cmp t.frames rows) where
    same_rows : IsPermutation (map (row_of stored s v) (filter (is_own stored s) stored.rows)) rows
    same_rows =
        let kept : IsPermutation (map (frame_row v) (filter (is_own stored s) stored.rows)) listed.found =
        IsPermutation-trans _ _ _ (subst (λ fs. IsPermutation fs (filter passes t.frames)) section (IsPermutation-filter passes _ _ stands.frames)) listed.same in
        subst (λ rs. IsPermutation rs rows) (map-map shows_frame (frame_row v) _)
        (subst (IsPermutation (map shows_frame (map (frame_row v) (filter (is_own stored s) stored.rows)))) (sym listed.shown) (IsPermutation-map shows_frame _ _ kept))

    -- each row is a frame's
    pub frames_listed : All (IsOfFrame stored s) rows
    frames_listed = All-permutation (IsOfFrame stored s) _ rows same_rows (All-from_recursion (IsOfFrame stored s) _ (rows_are stored s v _ (mine stored s)))

    -- and they are the frames
    pub all_listed : from_rows {o = owned} (map (entry_shown stored s) (reverse rows)) ≡ own s stored
    unfolding only
    all_listed =
        rows_any owned (only (λ k _. is_of s k) stored) (map (entry_shown stored s) (reverse rows))
        (subst (λ es. IsPermutation es (map (entry_shown stored s) (reverse rows))) (shown_again stored s v _ (mine stored s))
        (IsPermutation-trans _ _ _ (IsPermutation-map (entry_shown stored s) _ _ same_rows) (IsPermutation-map (entry_shown stored s) _ _ (IsPermutation-reverse rows))))

-- ---- the frames as they are loaded

abbrev frame_in : PageFrame → Frame
frame_in f = frame_of (frame_data f)

one_in : (s : Name) (old new : List (Name × PageFrame)) (xs : List Entry) (n : Name) (f : PageFrame) → IsStrictlySortedBy name_cmp (keys_of old) → new ≡ insert_entry name_cmp old n f
    → table_of owned (λ n. (s, n)) frame_in old ≡ from_rows xs → table_of owned (λ n. (s, n)) frame_in new ≡ from_rows (((s, n), frame_in f) ∷ xs)
unfolding from_rows
one_in s old new xs n f ordered is h =
    ap (table_of owned (λ n. (s, n)) frame_in) is ∙ table_of-insert_entry name_cmp owned (λ n. (s, n)) frame_in (own_alike s) old n f ordered ∙ ap (λ t. insert t (s, n) (frame_in f)) h

module _ (p : Params) (t : Tables) (v s : Name) where
  -- the frames are those of which the rows tell
  abbrev pub AreLoaded : List Row → List (Name × PageFrame) → Type 0
  AreLoaded rows frames =
      (b : Book) (stands : HoldsRows t p.cycles b) (x : Variant) → get b.variants v ≡ Some x
      → table_of owned (λ n. (s, n)) frame_in frames ≡ from_rows (map (entry_shown (stands.stored v).own s) (reverse rows))

  pub none_yet : (rows : List Row) (frames : List (Name × PageFrame)) → rows ≡ [] → frames ≡ [] → AreLoaded rows frames
  unfolding table_of
  none_yet rows frames none empty b stands x there =
      ap (table_of owned (λ n. (s, n)) frame_in) empty ∙ ap (λ rs. from_rows (map (entry_shown (stands.stored v).own s) (reverse rs))) (sym none)

  module _ (rows : List Row) (listed : AreListed shows_frame (is_frame_of v s) frames_cmp t.frames rows) where
    -- one row more
    pub one_more : (at : ℕ) (row : Row) (n node : Name) (f : PageFrame) (old new : List (Name × PageFrame))
        → at < length rows → get_or rows at row ≡ row → n ≡ name_shown row → node ≡ node_shown row
        → TellsFrame p v s n node t (frame_data f) → IsStrictlySortedBy name_cmp (keys_of old) → new ≡ insert_entry name_cmp old n f → AreLoaded (take at rows) old → AreLoaded (take (at + 1) rows) new
    one_more at row n node f old new low is name its_node tells ordered put so_far b stands x there =
        let stored : Table owned Frame = (stands.stored v).own in
        let here : IsOfFrame stored s row = subst (IsOfFrame stored s) is (frames_listed v s t p.cycles b stands x there rows listed at row low) in
        let stands_here : get stored (s, n) ≡ Some here.0 = ap (λ m. get stored (s, m)) name ∙ here.1 in
        let told : frame_in f ≡ here.0 = (tells b stands x here.0 there stands_here (here.2 ∙ sym its_node)).0 in
        let entry : entry_shown stored s row ≡ ((s, n), frame_in f) =
        ap (λ m. ((s, m), found (get stored (s, m)))) (sym name) ∙ ap (λ o. ((s, n), found o)) stands_here ∙ ap (λ g. ((s, n), g)) (sym told) in
        one_in s old new (map (entry_shown stored s) (reverse (take at rows))) n f ordered put (so_far b stands x there)
        ∙ ap from_rows (ap (λ e. e ∷ map (entry_shown stored s) (reverse (take at rows))) (sym entry) ∙ sym (ap (map (entry_shown stored s)) (turned rows at row low is)))

    -- all rows
    pub frames_told : (frames : List (Name × PageFrame)) → AreLoaded rows frames → TellsFrames p.cycles v s t (frames_data frames)
    unfolding table_of
    frames_told frames loaded b stands x there =
        ap from_rows (map-map (λ e. ((s, e.0), frame_of e.1)) (λ e. (e.0, frame_data e.1)) frames) ∙ loaded b stands x there ∙ all_listed v s t p.cycles b stands x there rows listed
