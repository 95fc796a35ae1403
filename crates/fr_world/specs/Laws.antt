-- Laws: in a sound book what is decided on a supplier's page is the register's step, of a change and of an import's
-- rows, and the edits that a page decides lead it to what the change or the rows make of it. They fit the register's
-- rows. An edit does the same to the book and to the page, and leaves others' pages.
use Rattle.std.specs.Prelude.{◌≡◌, ◌||◌, ◌++◌, ℕ, List, [], ◌∷◌, false, Option, Some, None, Ok, IsTrue, IsFalse}
use Rattle.fr_base.specs.Refusing.{◌>>=◌, ◌>>◌, refuse◌when◌}
use Rattle.fr_base.specs.Tables.{get, contains}
use Rattle.fr_base.specs.Cluster.{Cluster}
use Rattle.fr_base.specs.Joining.{joined}
use Rattle.fr_base.specs.KeyChanges.{with_key}
use Rattle.fr_base.specs.Names.{same_text}
use Rattle.fr_base.specs.Parameters.{check_params}
use Rattle.fr_base.specs.Book.{Variant, Kept, Book, file_of}
use Rattle.fr_base.specs.Sound.{IsSound}
use Rattle.fr_base.specs.ImportRows.{header_of_body, rows_of_body, all_rows_of_body}
use Rattle.fr_base.specs.Step.{add_supplier, set_key, add_node, common, change_rows, own_rows, act_rows, import, with_freed, replace_rows, fates_of, tried}
use Rattle.fr_base.specs.Room.{room_in}
use Rattle.fr_base.specs.declared.channel.Channel.{Channel}
use Rattle.fr_base.specs.declared.import.Header.{Header}
use Rattle.fr_base.specs.declared.import.RowRead.{RowRead}
use Rattle.fr_base.specs.declared.key.Key.{Key}
use Rattle.fr_base.specs.declared.name.Name.{Name}
use Rattle.fr_base.specs.declared.params.Params.{Params}
use Rattle.fr_base.specs.declared.refusal.Refusal.TheVariants.{Taken}
use Rattle.fr_base.specs.declared.request.Change.{Change}
use Rattle.fr_base.specs.declared.request.Change.TheVariants.{Grant, Revoke, Frame}
use Rattle.fr_base.specs.declared.request.CommonCommand.{CommonCommand}
use Rattle.fr_base.specs.declared.request.FrameChange.{FrameChange}
use Rattle.fr_base.specs.declared.delivery.Delivery.{Delivery}
use Rattle.fr_base.specs.declared.delivery.Manner.{Manner}
use Rattle.fr_world.specs.BookEdits.{SparesOthers, applied, all_applied, variants_in}
use Rattle.fr_world.specs.Common.{common_edit}
use Rattle.fr_world.specs.Decisions.{IsChecked, decision}
use Rattle.fr_world.specs.Edits.{IsOf, Leads, all_edited, edited, releases, rows_after}
use Rattle.fr_world.specs.Fits.{AllFit, Fits, IsUnheld, KnowsSuppliers}
use Rattle.fr_world.specs.ImportLabels.{after_label, label_decision}
use Rattle.fr_world.specs.ImportLimits.{new_import}
use Rattle.fr_world.specs.ReplacementDecisions.{replacement_decision}
use Rattle.fr_world.specs.RowDecisions.{AreChecked, rows_decision}
use Rattle.fr_world.specs.Trials.{trial}
use Rattle.fr_world.specs.declared.edit.Edit.{Edit}
use Rattle.fr_world.specs.declared.edit.Edit.TheVariants.{NewSupplier, SetKey, KeepImport}
use Rattle.fr_world.specs.Nodes.{new_node}
use Rattle.fr_world.specs.Suppliers.{new_key, new_supplier}
use Rattle.fr_world.specs.Rooms.{page_room}
use Rattle.fr_world.specs.Pages.{PageData, IsKept, nodes_in, own_rows_of, page_in}

-- A supplier's rows of a sound book are a page's.
abbrev pub SoundRowsAreAPage : Type 0
SoundRowsAreAPage = (c : Cluster) (b : Book) (s v : Name) (x : Variant) → IsSound c b → get b.variants v ≡ Some x →
    IsKept (page_in c.params b s v x)

-- In any book they stand for the supplier's own rows.
abbrev pub RowsAreTheRegisters : Type 0
RowsAreTheRegisters = (c : Cluster) (b : Book) (s v : Name) (x : Variant) → own_rows_of (page_in c.params b s v x) ≡ own_rows c.params b s x

-- What a page's decision makes of it, where its parameters make a cluster: its edits fit the page, which takes them one
-- after the other, and they lead to what the change makes of the page's rows.
abbrev pub DecisionLeads : Type 0
DecisionLeads = (rows : PageData) (what : Change) (edits : List Edit) → check_params rows.params ≡ Ok rows.params →
    IsKept rows → IsChecked rows.params what → decision rows what ≡ Ok edits →
    Leads rows.variant (own_rows_of rows) edits (rows_after what (own_rows_of rows))

-- In a sound book a change of a frame by a supplier that is there, in a variant that is there, is refused as on the supplier's
-- page, or makes of the book what its edits make of it.
abbrev pub SupplierDecides : Type 0
SupplierDecides = (c : Cluster) (b : Book) (s v : Name) (x : Variant) (f : Name) (what : FrameChange) →
    IsSound c b → get b.variants v ≡ Some x → IsTrue (contains b.suppliers s) →
    change_rows c.params b s v (Frame f what) ≡ (decision (page_in c.params b s v x) (Frame f what) >>= λ edits. Ok (all_applied b edits))

-- In a sound book the rows of an import by a supplier that is there, into a variant that is there and open, are refused as on the
-- supplier's page, the same row for the same reason, or make of the book what the page's edits make of it.
abbrev pub RowsDecide : Type 0
RowsDecide = (c : Cluster) (b : Book) (s v : Name) (x : Variant) (body : List ℕ) →
    IsSound c b → get b.variants v ≡ Some x → IsFalse x.released → IsTrue (contains b.suppliers s) →
    act_rows c.params b s v (rows_of_body c.params body)
    ≡ (rows_decision (page_in c.params b s v x) (rows_of_body c.params body) >>= λ edits. Ok (all_applied b edits))

-- In a sound book the rows of a replacement are refused as on the supplier's page, the same row for
-- the same reason, or make of the book what the page's edits make of it. They act where the frames
-- that they name were freed, or all where the file is the whole of a kind.
abbrev pub ReplacementDecides : Type 0
ReplacementDecides = (c : Cluster) (b : Book) (s v : Name) (x : Variant) (whole : Option Header) (body : List ℕ) →
    IsSound c b → get b.variants v ≡ Some x → IsFalse x.released → IsTrue (contains b.suppliers s) →
    replace_rows c.params (with_freed b s v x whole (rows_of_body c.params body)) s v (rows_of_body c.params body)
    ≡ (replacement_decision (page_in c.params b s v x) whole (rows_of_body c.params body) >>= λ edits. Ok (all_applied b edits))

-- In a sound book the fate of each row of a supplier's file, in a variant that is there and open,
-- is the same as on the supplier's page.
abbrev pub TrialDecides : Type 0
TrialDecides = (c : Cluster) (b : Book) (s v : Name) (x : Variant) (body : List ℕ) (how : Manner) →
    IsSound c b → get b.variants v ≡ Some x → IsFalse x.released → IsTrue (contains b.suppliers s) →
    fates_of c.params how (tried how b s v x (header_of_body body) (rows_of_body c.params body)) s v (all_rows_of_body c.params body)
    ≡ trial how (page_in c.params b s v x) (header_of_body body) (all_rows_of_body c.params body)

-- The rows of a file are checked under the parameters that they are read by.
abbrev pub RowsAreChecked : Type 0
RowsAreChecked = (p : Params) (body : List ℕ) → AreChecked p (rows_of_body p body)

-- All rows of a file, to its end, are checked under the parameters that they are read by.
abbrev pub AllRowsAreChecked : Type 0
AllRowsAreChecked = (p : Params) (body : List ℕ) → AreChecked p (all_rows_of_body p body)

-- What rows are decided to on a page, whose parameters make a cluster: the edits fit the page, which takes them one after the other.
abbrev pub RowsLead : Type 0
RowsLead = (rows : PageData) (reads : List RowRead) (edits : List Edit) → check_params rows.params ≡ Ok rows.params →
    IsKept rows → AreChecked rows.params reads → rows_decision rows reads ≡ Ok edits →
    Leads rows.variant (own_rows_of rows) edits (all_edited (own_rows_of rows) edits)

-- In a sound book the room for a supplier's frame, in a variant that is there, is the same as on
-- the supplier's page.
abbrev pub RoomDecides : Type 0
RoomDecides = (c : Cluster) (b : Book) (s v : Name) (x : Variant) (f : Name) (repetition : ℕ) → IsSound c b → get b.variants v ≡ Some x →
    room_in c.params b s v f repetition ≡ page_room (page_in c.params b s v x) f repetition

-- In any book a grant to a supplier that is there is refused as on the supplier's page; what the page accepts is Taken where slot
-- and channel are held, by another supplier then, or makes of the book what its edits make of it.
abbrev pub GrantDecides : Type 0
GrantDecides = (c : Cluster) (b : Book) (s v n : Name) (x : Variant) (k : ℕ) (channel : Channel) →
    get b.variants v ≡ Some x → IsTrue (contains b.suppliers s) →
    change_rows c.params b s v (Grant k channel n)
    ≡ (decision (page_in c.params b s v x) (Grant k channel n) >>= λ edits. (refuse Taken when contains x.grants (k, channel)) >> Ok (all_applied b edits))

-- In any book the end of a grant to a supplier that is there is refused as on the supplier's page, or makes of the book what its
-- edits make of it.
abbrev pub RevokeDecides : Type 0
RevokeDecides = (c : Cluster) (b : Book) (s v : Name) (x : Variant) (k : ℕ) (channel : Channel) →
    get b.variants v ≡ Some x → IsTrue (contains b.suppliers s) →
    change_rows c.params b s v (Revoke k channel)
    ≡ (decision (page_in c.params b s v x) (Revoke k channel) >>= λ edits. Ok (all_applied b edits))

-- In any book a supplier that joins is decided by the list of those that are there.
abbrev pub JoiningDecides : Type 0
JoiningDecides = (c : Cluster) (b : Book) (s : Name) (key : Key) → add_supplier c b s key ≡ (new_supplier (file_of c b) s key >>= λ edit. Ok (applied b edit))

-- The edit by which a supplier joins fits the book.
abbrev pub JoiningFits : Type 0
JoiningFits = (c : Cluster) (b : Book) (s : Name) (key : Key) (edit : Edit) → new_supplier (file_of c b) s key ≡ Ok edit → Fits c.params b edit

-- A supplier of a new name joins the book as it joins the list.
abbrev pub JoiningIsListed : Type 0
JoiningIsListed = (c : Cluster) (b : Book) (s : Name) (key : Key) → Fits c.params b (NewSupplier s key) → file_of c (applied b (NewSupplier s key)) ≡ joined (file_of c b) s key

-- In any book another key of a supplier is decided by the list of those that are there.
abbrev pub KeyDecides : Type 0
KeyDecides = (c : Cluster) (b : Book) (s : Name) (key : Key) → set_key c b s key ≡ (new_key (file_of c b) s key >>= λ edit. Ok (applied b edit))

-- The edit by which a supplier has another key fits the book.
abbrev pub KeyFits : Type 0
KeyFits = (c : Cluster) (b : Book) (s : Name) (key : Key) (edit : Edit) → new_key (file_of c b) s key ≡ Ok edit → Fits c.params b edit

-- A supplier that is there has another key in the book as it has in the list.
abbrev pub KeyIsListed : Type 0
KeyIsListed = (c : Cluster) (b : Book) (s : Name) (key : Key) → Fits c.params b (SetKey s key) → file_of c (applied b (SetKey s key)) ≡ with_key (file_of c b) s key

-- In any book a new node for a supplier that is there is decided by the supplier's nodes.
abbrev pub NodeDecides : Type 0
NodeDecides = (b : Book) (s n : Name) → IsTrue (contains b.suppliers s) →
    add_node b s n ≡ (new_node s (nodes_in b s) n >>= λ edit. Ok (applied b edit))

-- In any book what is common to all suppliers is decided by the list of variants.
abbrev pub CommonDecides : Type 0
CommonDecides = (b : Book) (command : CommonCommand) → common b command ≡ (common_edit (variants_in b) command >>= λ edit. Ok (applied b edit))

-- In any book an import is decided by its label, and then as one whose label is new.
abbrev pub LabelDecides : Type 0
LabelDecides = (p : Params) (b : Book) (d : Delivery) (label : Name) (kept : Option Kept) → import p b d label kept ≡ (label_decision kept d >>= after_label p b d label)

-- In a sound book a new import by a supplier that is there is decided by its variant, the limits, and its rows on the supplier's page.
abbrev pub NewImportDecides : Type 0
NewImportDecides = (c : Cluster) (b : Book) (d : Delivery) (label : Name) → IsSound c b → IsTrue (contains b.suppliers d.supplier) → import c.params b d label None ≡ new_import c.params b d label

-- An edit of a supplier's rows of a variant that is there makes of the supplier's own rows in the register what it makes of the
-- page; and the variant is released where the edit releases it, or where it was before.
abbrev pub EditsAgree : Type 0
EditsAgree = (c : Cluster) (b : Book) (s v : Name) (x : Variant) (edit : Edit) → get b.variants v ≡ Some x → IsOf s v edit →
    (y : Variant) × (get (applied b edit).variants v ≡ Some y)
    × (own_rows c.params (applied b edit) s y ≡ edited (own_rows c.params b s x) edit)
    × (y.released ≡ (releases edit || x.released))

-- An edit of a supplier's rows leaves another supplier's own rows of any variant as they were,
-- where it grants or ends nothing that another holds.
abbrev pub OthersStay : Type 0
OthersStay = (c : Cluster) (b : Book) (s t v w : Name) (x y : Variant) (edit : Edit) → get b.variants v ≡ Some x → IsOf s v edit →
    SparesOthers s x edit → same_text s t ≡ false → get b.variants w ≡ Some y →
    (z : Variant) × (get (applied b edit).variants w ≡ Some z)
    × (own_rows c.params (applied b edit) t z ≡ own_rows c.params b t y)

-- ---- each edit fits the rows of the register

-- In a sound book the edits of a change that is decided on a supplier's page fit the book, where a grant is of what nobody holds.
abbrev pub DecisionFits : Type 0
DecisionFits = (c : Cluster) (b : Book) (s v : Name) (x : Variant) (what : Change) (edits : List Edit) →
    IsSound c b → get b.variants v ≡ Some x → IsChecked c.params what → IsUnheld x what →
    decision (page_in c.params b s v x) what ≡ Ok edits → AllFit c.params b edits

-- In a sound book the edits of an import's rows, which are decided on the supplier's page of an
-- open variant, fit the book.
abbrev pub RowsFit : Type 0
RowsFit = (c : Cluster) (b : Book) (s v : Name) (x : Variant) (reads : List RowRead) (edits : List Edit) →
    IsSound c b → get b.variants v ≡ Some x → IsFalse x.released → AreChecked c.params reads →
    rows_decision (page_in c.params b s v x) reads ≡ Ok edits → AllFit c.params b edits

-- After them the edit that keeps the import fits, where the supplier is there and keeps no import
-- under the label.
abbrev pub ImportFits : Type 0
ImportFits = (c : Cluster) (b : Book) (s v label : Name) (x : Variant) (body : List ℕ) (reads : List RowRead) (edits : List Edit) (count : ℕ) →
    IsSound c b → get b.variants v ≡ Some x → IsFalse x.released → IsTrue (contains b.suppliers s) → get b.imports (s, label) ≡ None →
    AreChecked c.params reads → rows_decision (page_in c.params b s v x) reads ≡ Ok edits → AllFit c.params b (edits ++ KeepImport s label v body count ∷ [])

-- In a sound book the edits of a replacement's rows in an open variant fit the book.
abbrev pub ReplacementFits : Type 0
ReplacementFits = (c : Cluster) (b : Book) (s v : Name) (x : Variant) (whole : Option Header) (reads : List RowRead) (edits : List Edit) →
    IsSound c b → get b.variants v ≡ Some x → IsFalse x.released → AreChecked c.params reads →
    replacement_decision (page_in c.params b s v x) whole reads ≡ Ok edits → AllFit c.params b edits

-- In any book the edit that is decided by the nodes of a supplier that is there fits the book.
abbrev pub NodeFits : Type 0
NodeFits = (p : Params) (b : Book) (s n : Name) (edit : Edit) → IsTrue (contains b.suppliers s) → new_node s (nodes_in b s) n ≡ Ok edit → Fits p b edit

-- In any book the edit that is decided by the list of variants fits the book; that of a variant which is opened flat where the suppliers of
-- the other one's frames are there.
abbrev pub CommonFits : Type 0
CommonFits = (p : Params) (b : Book) (command : CommonCommand) (edit : Edit) → KnowsSuppliers b command → common_edit (variants_in b) command ≡ Ok edit → Fits p b edit
