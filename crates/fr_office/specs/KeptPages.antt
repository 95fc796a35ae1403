-- Kept pages: when no page that is kept is stale. When records stand for a book, with pages and
-- counts kept beside them. Which page is found. How many bytes a page takes at most. Which pages
-- are let go where one that was lent has no room among the others. What an edit may change.
use Rattle.std.specs.Prelude.{◌≡◌, ◌⊎◌, ℕ, ◌+◌, ◌-◌, ◌*◌, Bool, true, false, ◌&&◌, ◌||◌, not, if◌then◌else◌, nat_le, min, List, [], ◌∷◌, length, find, filter, sum_by, All, Option, Some, None, IfSome, ⊤}
use Rattle.std.specs.List.{list_any}
use Rattle.std.specs.Option.{option_or}
use Rattle.std.specs.Ordering.{match_ordering}
use Rattle.fr_base.specs.Book.{Variant, Book}
use Rattle.fr_base.specs.Keys.{owned}
use Rattle.fr_base.specs.Names.{same_text}
use Rattle.fr_base.specs.Tables.{get}
use Rattle.fr_base.specs.declared.name.Name.{Name}
use Rattle.fr_base.specs.declared.params.Params.{Params}
use Rattle.fr_world.specs.BookEdits.{SparesOthers}
use Rattle.fr_world.specs.Edits.{IsOf, all_edited, edited, releases}
use Rattle.fr_world.specs.Pages.{FrameData, IsKept, PageData, own_rows_of}
use Rattle.fr_world.specs.Held.{IsFresh, Standing}
use Rattle.fr_office.specs.ImportCounts.{AreCounted}
use Rattle.fr_office.specs.declared.import_counts.ImportCount.{ImportCount}
use Rattle.fr_office.specs.declared.page_bytes.TheConstants.{FRAME_BYTES, GRANT_BYTES, MAX_BYTES, MOST_GRANTS, MOST_PLACEMENTS, MOST_SIGNALS, PAGE_BYTES, PLACEMENT_BYTES, SIGNAL_BYTES}
use Rattle.fr_world.specs.declared.edit.Edit.{Edit}
use Rattle.fr_world.specs.declared.edit.Edit.TheVariants.{NewVariant, NewFlat, SetReleased, NewSupplier, SetKey, NewNode, Rows, KeepImport}

-- the page that is lent, which was used last; the pages that were used before it; the pages that
-- were used before those; and how many bytes the pages of either list may take
pub record KeptData : Type 0 where
  pub lent : Option PageData
  pub recent : List PageData
  pub earlier : List PageData
  pub most : ℕ

-- This holds of each page that is kept.
abbrev pub EachKept : (PageData → Type 0) → KeptData → Type 0
EachKept P kept = IfSome kept.lent P × All P kept.recent × All P kept.earlier

-- Each page that is kept has these parameters.
abbrev pub AreOf : Params → KeptData → Type 0
AreOf p kept = EachKept (λ page. page.params ≡ p) kept

-- No page is stale.
abbrev pub AreFresh : Params → Book → KeptData → Type 0
AreFresh p b kept = EachKept (IsFresh p b) kept

-- records, and beside them pages and counts of the imports that suppliers keep
pub record WarmData (R : Type 0) : Type 0 where
  pub records : R
  pub pages : KeptData
  pub counts : List ImportCount

-- The records stand for the book, no page beside them is stale, and each count is right.
abbrev pub StandsWarm : {R : Type 0} → (R → Standing) → WarmData R → Standing
StandsWarm stands warm c b = stands warm.records c b × AreFresh c.params b warm.pages × AreCounted b warm.counts

-- ---- pages by supplier and variant

-- whether it is the supplier's page of the variant
abbrev pub is_page_of : Name → Name → PageData → Bool
is_page_of s v page = same_text page.supplier s && same_text page.variant v

-- the supplier's page of the variant, where it is among them
abbrev pub page_at : Name → Name → List PageData → Option PageData
page_at s v pages = find (is_page_of s v) pages

-- the pages of other suppliers or variants
abbrev pub others_than : Name → Name → List PageData → List PageData
others_than s v pages = filter (λ page. not (is_page_of s v page)) pages

-- whose page it is: the supplier and the variant
abbrev pub whose : PageData → Name × Name
whose page = (page.supplier, page.variant)

-- the pages with this one among them, by supplier and variant, in place of the one of the same
-- supplier and variant
abbrev pub with_page : PageData → List PageData → List PageData
with_page page [] = page ∷ []
with_page page (other ∷ pages) = match_ordering (owned.compare (whose page) (whose other)) (page ∷ other ∷ pages) (page ∷ pages) (other ∷ with_page page pages)

-- how many bytes a frame takes at most; it has no more placements and signals than are counted
unfoldable pub frame_bytes : FrameData → ℕ
frame_bytes f = FRAME_BYTES + min (length f.placements) MOST_PLACEMENTS * PLACEMENT_BYTES + min (length f.layout.signals) MOST_SIGNALS * SIGNAL_BYTES

-- how many bytes a page takes at most; it has no more grants than are counted, and no more bytes are reckoned
unfoldable pub bytes_of : PageData → ℕ
bytes_of page = min (PAGE_BYTES + min (length page.grants) MOST_GRANTS * GRANT_BYTES + sum_by (λ e. frame_bytes e.1) page.frames) MAX_BYTES

-- ---- pages that are kept

-- the page that is lent, where it is the supplier's of the variant
abbrev pub lent_at : Name → Name → Option PageData → Option PageData
lent_at s v None = None
lent_at s v (Some page) = if is_page_of s v page then Some page else None

-- the supplier's page of the variant, where it is among those that are not lent
abbrev pub shelved_at : Name → Name → KeptData → Option PageData
shelved_at s v kept = option_or (page_at s v kept.recent) (page_at s v kept.earlier)

-- the supplier's page of the variant, where it is kept
abbrev pub kept_at : Name → Name → KeptData → Option PageData
kept_at s v kept = option_or (lent_at s v kept.lent) (shelved_at s v kept)

-- the pages that are not lent, of other suppliers or variants
abbrev pub kept_without : Name → Name → KeptData → KeptData
kept_without s v kept = record kept { recent = others_than s v kept.recent; earlier = others_than s v kept.earlier }

-- Where so many bytes more are too many for the pages that were used last, these become the pages
-- that were used before, and the others are let go.
abbrev pub with_room : ℕ → KeptData → KeptData
with_room bytes kept = if nat_le (sum_by bytes_of kept.recent) (kept.most - bytes) then kept else record kept { recent = []; earlier = kept.recent }

-- the pages once none is lent
abbrev pub none_lent : KeptData → KeptData
none_lent kept = record kept { lent = None }

-- the pages once the one that was lent is among those that were used before it, in place of the one
-- of the same supplier and variant
abbrev pub put_back : Option PageData → KeptData → KeptData
put_back None kept = kept
put_back (Some page) kept = let others = with_room (bytes_of page) kept in record others { recent = with_page page others.recent }

abbrev pub put_away : KeptData → KeptData
put_away kept = put_back kept.lent (none_lent kept)

-- the pages once room is made for the one that was lent, and it is given up
abbrev pub given_back : Option PageData → KeptData → KeptData
given_back None kept = kept
given_back (Some page) kept = with_room (bytes_of page) kept

abbrev pub given_up : KeptData → KeptData
given_up kept = given_back kept.lent (none_lent kept)

-- The pages once the supplier's page of the variant is lent. They are as they were if it was lent
-- before. Else it is no longer among those that are not lent. The one that was lent before is among
-- them, or is given up.
abbrev pub TurnsFrom : Option PageData → KeptData → KeptData → KeptData → Type 0
TurnsFrom (Some page) old others new = new ≡ old
TurnsFrom None old others new = (none_lent new ≡ none_lent (put_away others)) ⊎ (none_lent new ≡ none_lent (given_up others))

abbrev pub Turns : Name → Name → KeptData → KeptData → Type 0
Turns s v old new = TurnsFrom (lent_at s v old.lent) old (kept_without s v old) new

-- ---- edits

-- whether the edit may change what the page has
abbrev pub touches : Edit → PageData → Bool
touches (NewVariant v parent depth) page = same_text page.variant v
touches (NewFlat v from) page = same_text page.variant v
touches (SetReleased v) page = same_text page.variant v
touches (NewSupplier s key) page = false
touches (SetKey s key) page = false
touches (NewNode s n) page = same_text page.supplier s
touches (Rows rows) page = is_page_of rows.supplier rows.variant page
touches (KeepImport s label v body rows) page = false

-- the pages that pass a test
abbrev pub lent_where : (PageData → Bool) → Option PageData → Option PageData
lent_where test None = None
lent_where test (Some page) = if test page then Some page else None

abbrev pub kept_where : (PageData → Bool) → KeptData → KeptData
kept_where test kept = record kept { lent = lent_where test kept.lent; recent = filter test kept.recent; earlier = filter test kept.earlier }

-- the pages that the edits, one after another, leave as they are
abbrev pub untouched_by : List Edit → KeptData → KeptData
untouched_by [] kept = kept
untouched_by (edit ∷ edits) kept = untouched_by edits (kept_where (λ page. not (touches edit page)) kept)

-- The page is the one before with the edit of its rows made in it.
pub record IsAmended (page : PageData) (edit : Edit) (new : PageData) : Type 0 where
  pub own : IsOf page.supplier page.variant edit
  pub rows : own_rows_of new ≡ edited (own_rows_of page) edit
  pub supplier : new.supplier ≡ page.supplier
  pub variant : new.variant ≡ page.variant
  pub released : new.released ≡ (releases edit || page.released)
  pub kept : IsKept new

-- The page that is lent is the one before, after the edit, or as it was where the edit leaves it.
-- None is lent where none was; the one that was is let go only where the edit may change it.
abbrev pub Amends : Edit → Option PageData → Option PageData → Type 0
Amends edit None None = ⊤
Amends edit (Some page) None = touches edit page ≡ true
Amends edit None (Some new) = ⊥
Amends edit (Some page) (Some new) = IsAmended page edit new ⊎ ((touches edit page ≡ false) × (new ≡ page))

-- The page is the one before with the edits made in it, one after another.
pub record HasEdits (page : PageData) (edits : List Edit) (new : PageData) : Type 0 where
  pub rows : own_rows_of new ≡ all_edited (own_rows_of page) edits
  pub supplier : new.supplier ≡ page.supplier
  pub variant : new.variant ≡ page.variant
  pub released : new.released ≡ (list_any releases edits || page.released)

-- The page that is lent is the one before with the edits made in it. None is lent where none was; the
-- one that was is let go only where an edit may change it.
abbrev pub FollowsAll : List Edit → Option PageData → Option PageData → Type 0
FollowsAll edits None new = new ≡ None
FollowsAll edits (Some page) None = list_any (λ edit. touches edit page) edits ≡ true
FollowsAll edits (Some page) (Some new) = HasEdits page edits new

-- The page that is lent followed the edit. The others are those that the edit leaves as they are.
pub record AreFollowed (edit : Edit) (old new : KeptData) : Type 0 where
  pub lent : Amends edit old.lent new.lent
  pub others : none_lent new ≡ untouched_by (edit ∷ []) (none_lent old)

-- No other supplier than its own holds what the edit grants or ends.
abbrev pub Spares : Book → Edit → Type 0
Spares b (Rows rows) = (x : Variant) → get b.variants rows.variant ≡ Some x → SparesOthers rows.supplier x (Rows rows)
Spares b _ = ⊤
