-- Delivery: a delivered file is carried out, tried or answered by a proposal as the definition says, and its rows
-- or wishes as they are decided on the supplier's page; or nothing is done. What a crash leaves of it. What a call that does
-- so comes to, in a record.
use Rattle.std.specs.Prelude.{◌≡◌, ◌⊎◌, ℕ, Bool, false, List, [], ◌∷◌, ◌++◌, length, Option, None, Result, Ok, Err, IfOk, OnOk, IsTrue, MatchResult, ⊤}
use Rattle.fr_base.specs.Book.{Book}
use Rattle.fr_base.specs.Cluster.{Cluster}
use Rattle.fr_base.specs.ImportRows.{header_of_body, all_rows_of_body, up_to_refused}
use Rattle.fr_base.specs.Proposals.{proposal}
use Rattle.fr_base.specs.Sound.{IsSound}
use Rattle.fr_base.specs.Step.{Outcome, RefusedAt, deliver}
use Rattle.fr_base.specs.Tables.{get, contains}
use Rattle.fr_base.specs.Wishes.{wishes_of_body}
use Rattle.fr_base.specs.declared.answer.Answer.{Answer}
use Rattle.fr_base.specs.declared.answer.Answer.TheVariants.{Imported, Replaced, Report, RefusedRow}
use Rattle.fr_base.specs.declared.answer.ReportRows.TheVariants.{Fates, Proposal as Proposed}
use Rattle.fr_base.specs.declared.delivery.Delivery.{Delivery}
use Rattle.fr_base.specs.declared.delivery.Purpose.{Purpose}
use Rattle.fr_base.specs.declared.delivery.Purpose.TheVariants as purpose
use Rattle.fr_base.specs.declared.import.RowRead.{RowRead}
use Rattle.fr_base.specs.declared.name.Name.{Name}
use Rattle.fr_base.specs.declared.refusal.Refusal.{Refusal}
use Rattle.fr_base.specs.declared.refusal.Refusal.TheVariants.{Unavailable}
use Rattle.fr_world.specs.BookEdits.{all_applied}
use Rattle.fr_world.specs.FileDecisions.{file_edits}
use Rattle.fr_world.specs.Fits.{AllFit}
use Rattle.fr_world.specs.Held.{Leaving, LeavesEdited, Standing}
use Rattle.fr_world.specs.ImportLabels.{label_decision}
use Rattle.fr_world.specs.Pages.{PageData, own_rows_of}
use Rattle.fr_world.specs.Trials.{trial}
use Rattle.fr_world.specs.declared.edit.Edit.{Edit}
use Rattle.fr_world.specs.declared.edit.Edit.TheVariants.{KeepImport}
use Rattle.fr_world.specs.declared.records.Records.{Ghosts}
use Rattle.fr_office.specs.Carried.{IsRefused}
use Rattle.fr_office.specs.Decided.{open_page}

-- how many rows the file has, if it is an import that is kept under its label
abbrev pub label_said : Book → Delivery → Purpose Name → Result (Option ℕ) Refusal
label_said b d (purpose.Import label) = label_decision (get b.imports (d.supplier, label)) d
label_said b d _ = Ok None

-- the edits that the rows of a file come to, and one more, with this count of rows, that keeps an import
abbrev pub edits_of_file : Delivery → Purpose Name → List Edit → ℕ → List Edit
edits_of_file d (purpose.Import label) edits rows = edits ++ KeepImport d.supplier label d.variant d.body rows ∷ []
edits_of_file d _ edits rows = edits

-- the answer to a file of which so many rows were carried out
abbrev pub acted_answer : Purpose Name → ℕ → Answer
acted_answer (purpose.Import label) rows = Imported rows
acted_answer _ rows = Replaced rows

-- all rows of the file, read under a page's parameters
abbrev pub rows_on : PageData → Delivery → List RowRead
rows_on page d = all_rows_of_body page.params d.body

-- the outcome of rows that act, by what so many are decided to
abbrev pub acted_outcome : Book → Delivery → Purpose Name → ℕ → Result (List Edit) RefusedAt → Outcome
acted_outcome b d how rows (Ok edits) = record { book = all_applied b (edits_of_file d how edits rows); answer = acted_answer how rows }
acted_outcome b d how rows (Err fault) = record { book = b; answer = RefusedRow fault.line fault.refusal }

-- the answer to a file of wishes on this page: what is proposed for them by its rows
abbrev pub proposal_answer : Delivery → Bool → PageData → Answer
proposal_answer d replace page = Report false (Proposed replace (proposal (own_rows_of page) replace (wishes_of_body page.params d.body)))

-- the outcome of the file, as its rows are decided on this page, or its wishes
abbrev pub file_outcome : Book → Delivery → Purpose Name → PageData → Outcome
file_outcome b d (purpose.Proposal replace) page = record { book = b; answer = proposal_answer d replace page }
file_outcome b d (purpose.Trial manner) page = record { book = b; answer = Report false (Fates (trial manner page (header_of_body d.body) (rows_on page d))) }
file_outcome b d how page = acted_outcome b d how (length (up_to_refused (rows_on page d))) (file_edits how page (header_of_body d.body) (rows_on page d))

-- In a sound book the file of a supplier that is there was carried out or tried as the definition
-- says, and the records stand for the book after it; or nothing was done.
abbrev pub GivesDelivery : Standing → Standing → Result Answer Refusal → Delivery → Purpose Name → Type 0
GivesDelivery old new r d how = (c : Cluster) (b : Book) → old c b → IsSound c b → IsTrue (contains b.suppliers d.supplier) → MatchResult r
    (λ answer. (after : Book) × (deliver c.params b d how ≡ Ok (record { book = after; answer = answer })) × new c after)
    (λ e. IsRefused new c b e (deliver c.params b d how))

-- In a sound book the rows of a file were carried out or tried, as they are decided on its supplier's
-- page, or the first refused row is told. The records stand for the book after that. Or the answer
-- is Unavailable, and they stand for the same book as before.
abbrev pub GivesFile : Standing → Standing → Result Answer Refusal → Delivery → Purpose Name → PageData → Type 0
GivesFile old new r d how page = (c : Cluster) (b : Book) → old c b → IsSound c b → IsTrue (contains b.suppliers d.supplier) →
    label_said b d how ≡ Ok None → open_page c.params b d.supplier d.variant ≡ Ok page → MatchResult r
    (λ answer. (answer ≡ (file_outcome b d how page).answer) × new c (file_outcome b d how page).book)
    (λ e. (e ≡ Unavailable) × new c b)

-- After the delivery of a supplier that is there a crash leaves what it left before, or the book
-- after the delivery.
abbrev pub LeavesDelivery : Standing → Leaving → Leaving → Delivery → Purpose Name → Type 0
LeavesDelivery stands old new d how = (c : Cluster) (b : Book) (books : List Book) → stands c b → IsSound c b → IsTrue (contains b.suppliers d.supplier) → old c books
    → new c books ⊎ ((after : Outcome) × (deliver c.params b d how ≡ Ok after) × new c (after.book ∷ books))

-- After the rows of a file a crash leaves what it left before, or the book after the delivery.
abbrev pub LeavesFile : Standing → Leaving → Leaving → Delivery → Purpose Name → PageData → Type 0
LeavesFile stands old new d how page = (c : Cluster) (b : Book) (books : List Book) → stands c b → IsSound c b → IsTrue (contains b.suppliers d.supplier)
    → label_said b d how ≡ Ok None → open_page c.params b d.supplier d.variant ≡ Ok page → old c books
    → new c books ⊎ new c ((file_outcome b d how page).book ∷ books)

-- This holds where the answer is that of an import that was carried out.
abbrev pub WhereImported : Answer → Type 0 → Type 0
WhereImported (Imported rows) P = P
WhereImported _ P = ⊤

-- This holds where the answer is that of a replacement that was carried out.
abbrev pub WhereReplaced : Answer → Type 0 → Type 0
WhereReplaced (Replaced rows) P = P
WhereReplaced _ P = ⊤

-- This holds where the answer is that of a file that was carried out.
abbrev pub WhereActed : Answer → Type 0 → Type 0
WhereActed (Imported rows) P = P
WhereActed (Replaced rows) P = P
WhereActed _ P = ⊤

-- This holds after an import that was carried out, if none was kept under the label before, and after
-- a replacement that was carried out.
abbrev pub AfterDelivery : Standing → Delivery → Purpose Name → Result Answer Refusal → Type 0 → Type 0
AfterDelivery stands d (purpose.Import label) r P =
    IfOk r (λ answer. (c : Cluster) (b : Book) → stands c b → IsSound c b → get b.imports (d.supplier, label) ≡ None → WhereImported answer P)
AfterDelivery stands d (purpose.Replacement whole) r P = IfOk r (λ answer. WhereReplaced answer P)
AfterDelivery stands d (purpose.Trial manner) r P = ⊤
AfterDelivery stands d (purpose.Proposal replace) r P = ⊤

-- ---- calls on records

-- A call carried the file of a supplier that is there out or tried it, or did nothing. The records
-- were clean before if they are now. After a new import or a replacement they can be read and
-- changed. A crash leaves what it left before, or the book after the delivery.
pub record CarriesDelivery {R : Type 0} (g : Ghosts R) (d : Delivery) (how : Purpose Name) (old new : R) (r : Result Answer Refusal) : Type 0 where
  pub falls : g.clean new → g.clean old
  pub serves : g.clean new → AfterDelivery (g.stands old) d how r (g.serves new)
  pub leaves : g.clean new → LeavesDelivery (g.stands old) (g.leaves old) (g.leaves new) d how
  pub gives : g.clean new → GivesDelivery (g.stands old) (g.stands new) r d how

-- A call did so with the rows of the file, as they are decided on its supplier's page.
pub record CarriesFile {R : Type 0} (g : Ghosts R) (d : Delivery) (how : Purpose Name) (old new : R) (r : Result Answer Refusal) (page : PageData) : Type 0 where
  pub falls : g.clean new → g.clean old
  pub serves : g.clean new → IfOk r (λ answer. WhereActed answer (g.serves new))
  pub leaves : g.clean new → LeavesFile (g.stands old) (g.leaves old) (g.leaves new) d how page
  pub gives : g.clean new → GivesFile (g.stands old) (g.stands new) r d how page

-- A call carried out edits that fit the book, one after another, all of them or none, and answers so
-- where it did.
pub record CarriesActed {R : Type 0} (g : Ghosts R) (edits : List Edit) (answer : Answer) (old new : R) (r : Result Answer Refusal) : Type 0 where
  pub falls : g.clean new → g.clean old
  pub serves : g.clean new → OnOk r (g.serves new)
  pub leaves : g.clean new → LeavesEdited (g.stands old) (g.leaves old) (g.leaves new) edits
  pub applies : g.clean new → (c : Cluster) (b : Book) → g.stands old c b → AllFit c.params b edits → MatchResult r
      (λ said. (said ≡ answer) × g.stands new c (all_applied b edits))
      (λ e. (e ≡ Unavailable) × g.stands new c b)
