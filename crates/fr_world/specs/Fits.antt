-- Fits: when an edit fits the register's rows under a cluster's parameters. What it adds is new,
-- and a placement among it has the cluster's count of cycles. What it names or ends is there, and a
-- variant that changes is open. Each of a list fits the book that those before it left.
use Rattle.std.specs.Prelude.{◌≡◌, ◌≤◌, List, [], ◌∷◌, Some, None, IsTrue, IsFalse, ⊤}
use Rattle.fr_base.specs.Tables.{Table, get, contains}
use Rattle.fr_base.specs.Keys.{owned}
use Rattle.fr_base.specs.Book.{Variant, Book, held_by}
use Rattle.fr_base.specs.Sound.{IsOpenedFrom}
use Rattle.fr_base.specs.declared.limits.TheConstants.{MAX_DEPTH}
use Rattle.fr_base.specs.declared.name.Name.{Name}
use Rattle.fr_base.specs.declared.params.Params.{Params}
use Rattle.fr_base.specs.declared.beginning.Beginning.TheVariants.{Flat}
use Rattle.fr_base.specs.declared.request.Change.{Change}
use Rattle.fr_base.specs.declared.request.Change.TheVariants as change
use Rattle.fr_base.specs.declared.request.CommonCommand.{CommonCommand}
use Rattle.fr_base.specs.declared.request.CommonCommand.TheVariants.{OpenVariant}
use Rattle.fr_base.specs.declared.request.FrameChange.TheVariants.{Place}
use Rattle.fr_world.specs.BookEdits.{applied}
use Rattle.fr_world.specs.Edits.{FitsFrame}
use Rattle.fr_world.specs.declared.edit.Edit.{Edit}
use Rattle.fr_world.specs.declared.edit.Edit.TheVariants.{NewVariant, NewFlat, SetReleased, NewSupplier, SetKey, NewNode, Rows, KeepImport}

-- The variant is there, and open.
pub record IsOpen (b : Book) (v : Name) (x : Variant) : Type 0 where
  pub there : get b.variants v ≡ Some x
  pub unreleased : IsFalse x.released

-- Nobody holds what is to be granted in the variant.
abbrev pub IsUnheld : Variant → Change → Type 0
IsUnheld x (change.Grant slot channel node) = get x.grants (slot, channel) ≡ None
IsUnheld x _ = ⊤

-- A placement that the change adds is of the cluster's cycles.
abbrev pub IsCounted : Params → Change → Type 0
IsCounted p (change.Frame f (Place q)) = q.cycles.count ≡ p.cycles
IsCounted p _ = ⊤

-- A change of the supplier's rows fits the variant. What is granted is nobody's, and the node is
-- there. A grant that ends is the supplier's. A change of a frame fits what stands at the frame's
-- name.
abbrev pub FitsVariant : Table owned ⊤ → Name → Variant → Change → Type 0
FitsVariant nodes s x (change.Grant slot channel node) = IsTrue (contains nodes (s, node)) × (get x.grants (slot, channel) ≡ None)
FitsVariant nodes s x (change.Revoke slot channel) = IsTrue (held_by s (get x.grants (slot, channel)))
FitsVariant nodes s x (change.Frame f what) = FitsFrame nodes s (get x.frames (s, f)) what

-- Each supplier that has a frame in the variant is there.
abbrev pub HasKnownSuppliers : Book → Variant → Type 0
HasKnownSuppliers b x = (k : Name × Name) → IsTrue (contains x.frames k) → IsTrue (contains b.suppliers k.0)

-- What fits of a command by the list of variants alone fits the book: but where a variant is opened
-- flat, the suppliers that have frames in the other one have to be there, as in a sound book.
abbrev pub KnowsSuppliers : Book → CommonCommand → Type 0
KnowsSuppliers b (OpenVariant v (Flat from)) = (x : Variant) → get b.variants from ≡ Some x → HasKnownSuppliers b x
KnowsSuppliers b _ = ⊤

-- A released variant is there, and the suppliers that have frames in it are.
abbrev pub IsCopiable : Book → Name → Type 0
IsCopiable b from = (x : Variant) × (get b.variants from ≡ Some x) × IsTrue x.released × HasKnownSuppliers b x

-- The edit fits the book of a cluster. A variant that changes is open. A new one is opened empty,
-- or from a released one that is one less deep; or it is a flat one of a released one, whose frames'
-- suppliers are there. A placement that is added has the cluster's count of cycles.
abbrev pub Fits : Params → Book → Edit → Type 0
Fits p b (NewVariant v parent depth) = (get b.variants v ≡ None) × IsOpenedFrom b.variants parent depth × (depth ≤ MAX_DEPTH)
Fits p b (NewFlat v from) = (get b.variants v ≡ None) × IsCopiable b from
Fits p b (SetReleased v) = (x : Variant) × IsOpen b v x
Fits p b (NewSupplier s key) = get b.suppliers s ≡ None
Fits p b (SetKey s key) = IsTrue (contains b.suppliers s)
Fits p b (NewNode s n) = IsTrue (contains b.suppliers s) × (get b.nodes (s, n) ≡ None)
Fits p b (Rows rows) = (x : Variant) × IsOpen b rows.variant x × FitsVariant b.nodes rows.supplier x rows.change × IsCounted p rows.change
Fits p b (KeepImport s label v body rows) = IsTrue (contains b.suppliers s) × IsTrue (contains b.variants v) × (get b.imports (s, label) ≡ None)

-- Each of the edits fits the book that those before it left.
abbrev pub AllFit : Params → Book → List Edit → Type 0
AllFit p b [] = ⊤
AllFit p b (edit ∷ edits) = Fits p b edit × AllFit p (applied b edit) edits
