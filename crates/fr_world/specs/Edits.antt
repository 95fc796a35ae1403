-- Edit: what an edit makes of a page, by the step's own words. Which edits a page takes, which fit
-- its rows, and where edits lead it one after another.
use Rattle.std.specs.Prelude.{◌≡◌, Bool, true, false, List, [], ◌∷◌, Option, Some, None, is_some, IsTrue, IsFalse, ⊤}
use Rattle.fr_base.specs.Tables.{Table, get, contains, insert}
use Rattle.fr_base.specs.Keys.{owned}
use Rattle.fr_base.specs.Book.{Frame}
use Rattle.fr_base.specs.Layouts.{has_signal}
use Rattle.fr_base.specs.Step.{OwnRows, grants_after, frames_after}
use Rattle.fr_base.specs.declared.name.Name.{Name}
use Rattle.fr_base.specs.declared.request.Change.{Change}
use Rattle.fr_base.specs.declared.request.Change.TheVariants as change
use Rattle.fr_base.specs.declared.request.FrameChange.{FrameChange}
use Rattle.fr_base.specs.declared.request.FrameChange.TheVariants.{Add, Drop, Place, Unplace, AddSignal, DropSignal}
use Rattle.fr_world.specs.Pages.{IsPage}
use Rattle.fr_world.specs.declared.edit.Edit.{Edit}
use Rattle.fr_world.specs.declared.edit.Edit.TheVariants.{SetReleased, NewNode, Rows}

-- a supplier's own rows after a change of them
abbrev pub rows_after : Change → OwnRows → OwnRows
rows_after what page = record page { grants = grants_after page.supplier what page.grants; frames = frames_after page.supplier what page.frames }

-- the page after an edit of its supplier's rows; whether the variant is released is no part of it (see `releases`)
unfoldable pub edited : OwnRows → Edit → OwnRows
edited page (NewNode s n) = record page { nodes = insert page.nodes (page.supplier, n) tt }
edited page (Rows rows) = rows_after rows.change page
edited page _ = page

-- whether the edit releases the variant
abbrev pub releases : Edit → Bool
releases (SetReleased v) = true
releases _ = false

-- The edit changes the rows that are on this supplier's page of the variant.
abbrev pub IsOf : Name → Name → Edit → Type 0
IsOf s v (SetReleased w) = w ≡ v
IsOf s v (NewNode t n) = t ≡ s
IsOf s v (Rows rows) = (rows.supplier ≡ s) × (rows.variant ≡ v)
IsOf s v _ = ⊥

-- The supplier's page of the variant takes the edit: it changes this page's rows, and after it a
-- page may have them.
pub record Takes (v : Name) (page : OwnRows) (edit : Edit) : Type 0 where
  pub own : IsOf page.supplier v edit
  pub leaves : IsPage (edited page edit)

-- What a change of a supplier's frame adds is new, and what it names or ends is there; `there` is
-- what stands at the frame's name.
abbrev pub FitsFrame : Table owned ⊤ → Name → Option Frame → FrameChange → Type 0
FitsFrame nodes s there (Add node) = IsTrue (contains nodes (s, node)) × (there ≡ None)
FitsFrame nodes s there Drop = IsTrue (is_some there)
FitsFrame nodes s (Some frame) (Place q) = get frame.placements q ≡ None
FitsFrame nodes s (Some frame) (Unplace q) = IsTrue (contains frame.placements q)
FitsFrame nodes s (Some frame) (AddSignal signal) = IsFalse (has_signal frame.signals signal.name)
FitsFrame nodes s (Some frame) (DropSignal name) = IsTrue (has_signal frame.signals name)
FitsFrame nodes s None _ = ⊥

-- What a change of the page's rows adds is new, and what it names or ends is there.
abbrev pub FitsRows : OwnRows → Change → Type 0
FitsRows page (change.Grant slot channel node) = IsTrue (contains page.nodes (page.supplier, node)) × (get page.grants (slot, channel) ≡ None)
FitsRows page (change.Revoke slot channel) = IsTrue (contains page.grants (slot, channel))
FitsRows page (change.Frame f what) = FitsFrame page.nodes page.supplier (get page.frames (page.supplier, f)) what

-- The same of an edit of the page's rows.
abbrev pub FitsPage : OwnRows → Edit → Type 0
FitsPage page (NewNode s n) = get page.nodes (page.supplier, n) ≡ None
FitsPage page (Rows rows) = FitsRows page rows.change
FitsPage page _ = ⊤

-- The page takes the edits, one after another. Each fits the page that those before it left, and in
-- the end the page is the last.
abbrev pub Leads : Name → OwnRows → List Edit → OwnRows → Type 0
Leads v page [] last = last ≡ page
Leads v page (edit ∷ edits) last = Takes v page edit × FitsPage page edit × Leads v (edited page edit) edits last

-- the page after edits, one after another
abbrev pub all_edited : OwnRows → List Edit → OwnRows
all_edited page [] = page
all_edited page (edit ∷ edits) = all_edited (edited page edit) edits
