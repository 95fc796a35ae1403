-- What a page's frames fill, but for those that wishes free.
use Rattle.std.proofs.Common.{◌≡◌, Bool, true, false, cond, List, [], ◌∷◌, ◌++◌, map, Option, Some, None, option_map, Result, Ok, Err, refl, sym, ap, subst, ◌∙◌, ◌⊎◌, inl, inr, true≢false}
use Rattle.std.specs.Prelude.{⊤, All}
use Rattle.std.proofs.lemmas.List.Elements.{All-head, All-tail}
use Rattle.std.specs.List.{flat_map}
use Rattle.std.specs.List.Sorted.{IsStrictlySortedBy}
use Rattle.std.specs.Map.{keys_of, lookup}
use Rattle.std.specs.BTreeMap.{is_at}
use Rattle.std.specs.Ordering.{eq_by_cmp, is_eq}
use Rattle.std.specs.FinMap.Entries.{find}
use Rattle.std.proofs.lemmas.Bool.{cases_Bool}
use Rattle.fr_base.specs.Book as book
use Rattle.fr_base.specs.Keys.{owned, names, placement_order}
use Rattle.fr_base.specs.Names.{same_text}
use Rattle.fr_base.specs.Proposals.{filled_places}
use Rattle.fr_base.specs.RefusedWishes.{emptied, frames_beside, free_wish, free_wishes}
use Rattle.fr_base.specs.Tables.{Table, empty, from_rows, get, insert, remove, settle}
use Rattle.fr_base.specs.declared.name.Name.{Name}
use Rattle.fr_base.specs.declared.placement.Placement.{Placement}
use Rattle.fr_base.specs.declared.refusal.Refusal.{Refusal}
use Rattle.fr_base.specs.declared.wish.Wish.{Wish}
use Rattle.fr_base.specs.declared.wish.WishRead.{WishRead}
use Rattle.fr_base.proofs.AloneCells.{same_text-itself}
use Rattle.fr_base.proofs.SoundRows.{same_text-is}
use Rattle.fr_base.proofs.TableLaws.{equal, get-from_rows, get-insert, same_table}
use Rattle.fr_world.specs.Counts.{freed_if, is_freed}
use Rattle.fr_world.specs.Maps.{table_of, set_of}
use Rattle.fr_world.specs.Pages.{FrameData, PageData, frame_data, frame_of, frames_data, own_rows_of}
use Rattle.fr_world.specs.declared.page.PageFrame.{PageFrame}
use Rattle.fr_world.proofs.CountLaws.{freed_with, get-beside, remove-none}
use Rattle.fr_world.proofs.KeyLaws.{name_cmp, own_alike}
use Rattle.fr_world.proofs.MapLaws.{get-table_of, rows-set_of, rows-table_of}

-- ---- other suppliers' keys

key-apart : (s : Name) (k : Name × Name) (f : Name) → same_text k.0 s ≡ false → eq_by_cmp owned.compare k (s, f) ≡ false
key-apart s k f apart = elim (cases_Bool (eq_by_cmp owned.compare k (s, f))) [
  | inl same ↦
      let keys : k ≡ (s, f) = owned.exact k (s, f) (equal _ same) in
      absurd (true≢false (sym (ap (λ j. same_text j.0 s) keys ∙ same_text-itself s) ∙ apart))
  | inr other ↦ other
]

free-foreign : (s : Name) (reads : List WishRead) (t : Table owned book.Frame) (k : Name × Name) → same_text k.0 s ≡ false → get (free_wishes s reads t) k ≡ get t k
unfolding free_wishes free_wish settle
free-foreign s [] t k apart = refl
free-foreign s (read ∷ reads) t k apart = free-foreign s reads (free_wish s read.wish t) k apart ∙ by read.wish
  where
    settled : (f : Name) (o : Option book.Frame) → get t (s, f) ≡ o → get (settle t (s, f) (emptied o)) k ≡ get t k
    settled f (Some frame) at = get-insert t (s, f) (record frame { placements = empty }) k ∙ ap (λ b. cond b (Some (record frame { placements = empty })) (get t k)) (key-apart s k f apart)
    settled f None at = ap (λ u. get u k) (remove-none t (s, f) at)

    by : (read : Result Wish Refusal) → get (free_wish s read t) k ≡ get t k
    by (Ok wish) = settled wish.frame (get t (s, wish.frame)) refl
    by (Err refusal) = refl

table-foreign : {U : Type 0} (s : Name) (value : U → book.Frame) (es : List (Name × U)) (k : Name × Name) → same_text k.0 s ≡ false → get (table_of owned (λ f. (s, f)) value es) k ≡ None
unfolding table_of
table-foreign {U = U} s value es k apart = get-from_rows owned (map (λ e. ((s, e.0), value e.1)) es) k ∙ nowhere es
  where
    nowhere : (es : List (Name × U)) → find owned.compare k (map (λ e. ((s, e.0), value e.1)) es) ≡ None
    nowhere [] = refl
    nowhere (e ∷ es) = ap (λ b. cond b (Some (value e.1)) (find owned.compare k (map (λ e. ((s, e.0), value e.1)) es))) (key-apart s k e.0 apart) ∙ nowhere es

-- ---- the frames that are left

data_if : Bool → FrameData → FrameData
data_if b d = record d { placements = cond b [] d.placements }

abbrev left_rows : (Name → Bool) → List (Name × FrameData) → List (Name × FrameData)
left_rows freed fs = map (λ e. (e.0, data_if (freed e.0) e.1)) fs

lookup-left : (freed : Name → Bool) (f : Name) (fs : List (Name × FrameData)) → lookup (is_at (name_cmp f)) (left_rows freed fs) ≡ option_map (data_if (freed f)) (lookup (is_at (name_cmp f)) fs)
unfolding data_if names
lookup-left freed f [] = refl
lookup-left freed f (e ∷ fs) = elim (cases_Bool (is_at (name_cmp f) e.0)) [
  | inl here ↦ rw here (ap (λ n. Some (data_if (freed n) e.1)) (sym (names.exact f e.0 (equal _ here))))
  | inr other ↦ rw other (lookup-left freed f fs)
]

freed-data : (b : Bool) (o : Option FrameData) → freed_with b (option_map frame_of o) ≡ option_map frame_of (option_map (data_if b) o)
unfolding data_if set_of from_rows empty
freed-data b None = refl
freed-data true (Some d) = refl
freed-data false (Some d) = refl

module _ (page : PageData) (replace : Bool) (reads : List WishRead) where
  abbrev freed : Name → Bool
  freed = is_freed replace reads

  left_table : Table owned book.Frame
  left_table = table_of owned (λ f. (page.supplier, f)) frame_of (left_rows freed page.frames)

  left_at : (f : Name) → get (frames_beside (own_rows_of page) replace reads) (page.supplier, f) ≡ get left_table (page.supplier, f)
  unfolding left_table
  left_at f =
      get-beside (own_rows_of page) reads replace f
      ∙ ap (freed_with (freed f)) (get-table_of name_cmp owned (λ f. (page.supplier, f)) frame_of (own_alike page.supplier) page.frames f)
      ∙ freed-data (freed f) (lookup (is_at (name_cmp f)) page.frames)
      ∙ ap (option_map frame_of) (sym (lookup-left freed f page.frames))
      ∙ sym (get-table_of name_cmp owned (λ f. (page.supplier, f)) frame_of (own_alike page.supplier) (left_rows freed page.frames) f)

  left_elsewhere : (k : Name × Name) → same_text k.0 page.supplier ≡ false → (b : Bool) → replace ≡ b → get (frames_beside (own_rows_of page) replace reads) k ≡ get left_table k
  unfolding left_table frames_beside
  left_elsewhere k apart true is =
      ap (λ b. get (frames_beside (own_rows_of page) b reads) k) is
      ∙ free-foreign page.supplier reads (own_rows_of page).frames k apart
      ∙ table-foreign page.supplier frame_of page.frames k apart
      ∙ sym (table-foreign page.supplier frame_of (left_rows freed page.frames) k apart)
  left_elsewhere k apart false is =
      ap (λ b. get (frames_beside (own_rows_of page) b reads) k) is
      ∙ table-foreign page.supplier frame_of page.frames k apart
      ∙ sym (table-foreign page.supplier frame_of (left_rows freed page.frames) k apart)

  left_is : frames_beside (own_rows_of page) replace reads ≡ left_table
  left_is = same_table _ _ (λ k. elim (cases_Bool (same_text k.0 page.supplier)) [
    | inl own ↦ subst (λ s. get (frames_beside (own_rows_of page) replace reads) (s, k.1) ≡ get left_table (s, k.1)) (sym (same_text-is k.0 page.supplier own)) (left_at k.1)
    | inr apart ↦ left_elsewhere k apart replace refl
  ])

-- ---- what they fill

-- the placements of a page's entries, but for those that are freed
abbrev pub filled_entries : (Name → Bool) → List (Name × PageFrame) → List (Name × Placement)
filled_entries freed [] = []
filled_entries freed (e ∷ es) = cond (freed e.0) [] (map (λ q. (e.0, q)) e.1.placements.keys) ++ filled_entries freed es

keys-left : (freed : Name → Bool) (fs : List (Name × FrameData)) → keys_of (left_rows freed fs) ≡ keys_of fs
keys-left freed [] = refl
keys-left freed (e ∷ fs) = ap (λ ks. e.0 ∷ ks) (keys-left freed fs)

abbrev in_rows : List ((Name × Name) × book.Frame) → List (Name × Placement)
in_rows rows = flat_map (λ row. map (λ q. (row.0.1, q.0)) row.1.placements.rows) rows

of-set : (f : Name) (qs : List Placement) → map {B = Name × Placement} (λ (q : Placement × ⊤). (f, q.0)) (map {B = Placement × ⊤} (λ q. (q, tt)) qs) ≡ map (λ q. (f, q)) qs
of-set f [] = refl
of-set f (q ∷ qs) = ap (λ rest. (f, q) ∷ rest) (of-set f qs)

module _ (page : PageData) (replace : Bool) (reads : List WishRead) (es : List (Name × PageFrame)) (shows : frames_data es ≡ page.frames)
    (rise : IsStrictlySortedBy name_cmp (keys_of page.frames)) (each : All (λ e. IsStrictlySortedBy placement_order.compare e.1.placements) page.frames) where
  one_left : (b : Bool) (e : Name × FrameData) → IsStrictlySortedBy placement_order.compare e.1.placements → map {B = Name × Placement} (λ (q : Placement × ⊤). (e.0, q.0)) (frame_of (data_if b e.1)).placements.rows ≡ cond b [] (map (λ q. (e.0, q)) e.1.placements)
  unfolding data_if set_of from_rows empty
  one_left true e h = refl
  one_left false e h = ap (map {B = Name × Placement} (λ (q : Placement × ⊤). (e.0, q.0))) (rows-set_of placement_order.compare placement_order (λ p. p) (λ x y. refl) e.1.placements h) ∙ of-set e.0 e.1.placements

  each_left : (freed : Name → Bool) (fs : List (Name × PageFrame)) → All (λ e. IsStrictlySortedBy placement_order.compare e.1.placements) (frames_data fs)
      → in_rows (map (λ e. ((page.supplier, e.0), frame_of e.1)) (left_rows freed (frames_data fs))) ≡ filled_entries freed fs
  each_left freed [] h = refl
  each_left freed (e ∷ fs) h =
      let parts = All-pop-front e fs h in
      λ i. one_left (freed e.0) (e.0, frame_data e.1) parts.0 i ++ each_left freed fs parts.1 i
    where
      All-pop-front : (e : Name × PageFrame) (fs : List (Name × PageFrame)) → All (λ e. IsStrictlySortedBy placement_order.compare e.1.placements) (frames_data (e ∷ fs)) → IsStrictlySortedBy placement_order.compare e.1.placements.keys × All (λ e. IsStrictlySortedBy placement_order.compare e.1.placements) (frames_data fs)
      All-pop-front e fs h = (All-head (λ e. IsStrictlySortedBy placement_order.compare e.1.placements) (e.0, frame_data e.1) (frames_data fs) h, All-tail (λ e. IsStrictlySortedBy placement_order.compare e.1.placements) (e.0, frame_data e.1) (frames_data fs) h)

  pub beside-filled : filled_places (frames_beside (own_rows_of page) replace reads) ≡ filled_entries (is_freed replace reads) es
  unfolding filled_places left_table table_of
  beside-filled =
      ap (λ t. in_rows t.rows) (left_is page replace reads)
      ∙ ap in_rows (rows-table_of name_cmp owned (λ f. (page.supplier, f)) frame_of (own_alike page.supplier) (left_rows (is_freed replace reads) page.frames) (subst (IsStrictlySortedBy name_cmp) (sym (keys-left (is_freed replace reads) page.frames)) rise))
      ∙ ap (λ fs. in_rows (map (λ e. ((page.supplier, e.0), frame_of e.1)) (left_rows (is_freed replace reads) fs))) (sym shows)
      ∙ each_left (is_freed replace reads) es (subst (All (λ e. IsStrictlySortedBy placement_order.compare e.1.placements)) (sym shows) each)
