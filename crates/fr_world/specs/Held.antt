-- Records: when a register's records stand for a cluster and a book. What is read of them tells of
-- the book, and edits that fit lead to the book after them. When a page is the book's. For which
-- books what a crash leaves of the records may stand.
use Rattle.std.specs.Prelude.{◌≡◌, ◌⊎◌, ℕ, Bool, false, Option, Some, None, List, ◌∷◌, Result, MatchResult, option_map}
use Rattle.fr_base.specs.Tables.{get, contains}
use Rattle.fr_base.specs.Book.{Book, Variant}
use Rattle.fr_base.specs.Cluster.{Cluster}
use Rattle.fr_base.specs.declared.channel.Channel.{Channel}
use Rattle.fr_base.specs.declared.name.Name.{Name}
use Rattle.fr_base.specs.declared.params.Params.{Params}
use Rattle.fr_base.specs.declared.refusal.Refusal.{Refusal}
use Rattle.fr_base.specs.declared.refusal.Refusal.TheVariants.{Unavailable}
use Rattle.fr_world.specs.BookEdits.{all_applied}
use Rattle.fr_world.specs.Fits.{AllFit}
use Rattle.fr_world.specs.Pages.{PageData, page_in}
use Rattle.fr_world.specs.declared.edit.Edit.{Edit}

-- The books for which records stand, each in a cluster.
abbrev pub Standing : Type 1
Standing = Cluster → Book → Type 0

-- What was read tells this of the book, or the answer is Unavailable. The records stand for the
-- same book as before.
abbrev pub Tells : {X : Type 0} → Standing → Standing → Result X Refusal → (Cluster → Book → X → Type 0) → Type 0
Tells old new r says = (c : Cluster) (b : Book) → old c b → new c b × MatchResult r (says c b) (λ e. e ≡ Unavailable)

-- The edits were carried out, one after another; or the answer is Unavailable, and the records
-- stand for the same book as before.
abbrev pub Applies : {X : Type 0} → Standing → Standing → Result X Refusal → List Edit → Type 0
Applies old new r edits = (c : Cluster) (b : Book) → old c b → AllFit c.params b edits →
    MatchResult r (λ _. new c (all_applied b edits)) (λ e. (e ≡ Unavailable) × new c b)

-- For which books what a crash leaves of records may stand, each list of them in a cluster.
abbrev pub Leaving : Type 1
Leaving = Cluster → List Book → Type 0

-- A crash leaves nothing now that it did not leave before.
abbrev pub LeavesNoMore : Leaving → Leaving → Type 0
LeavesNoMore old new = (c : Cluster) (books : List Book) → old c books → new c books

-- Records were only read. They were clean before if they are now. The cluster's parameters stay. A
-- crash leaves nothing that it did not leave before.
pub record Reads {R : Type 0} (clean : R → Type 0) (params : R → Params) (left : R → Leaving) (old new : R) : Type 0 where
  pub falls : clean new → clean old
  pub same : params new ≡ params old
  pub leaves : clean new → LeavesNoMore (left old) (left new)

-- After edits that fit, a crash leaves what it left before, or the book after them.
abbrev pub LeavesEdited : Standing → Leaving → Leaving → List Edit → Type 0
LeavesEdited stands old new edits = (c : Cluster) (b : Book) (books : List Book) → stands c b → AllFit c.params b edits → old c books
    → new c books ⊎ new c (all_applied b edits ∷ books)

-- the supplier's page of the variant, if the variant is there
abbrev pub page_of : Params → Book → Name → Name → Option PageData
page_of p b s v = option_map (page_in p b s v) (get b.variants v)

-- whether somebody holds the slot and channel in the variant
abbrev pub held_in : Book → Name → ℕ × Channel → Bool
held_in b v at = is_held (get b.variants v)
  where
    is_held : Option Variant → Bool
    is_held None = false
    is_held (Some x) = contains x.grants at

-- The page's variant is there, and the page is what the register has for its supplier in it.
pub record IsFresh (p : Params) (b : Book) (page : PageData) : Type 0 where
  pub variant : Variant
  pub there : get b.variants page.variant ≡ Some variant
  pub same : page ≡ page_in p b page.supplier page.variant variant
