-- What a delivered file comes to, by its label, its supplier's page, the room for it and its rows.
use Rattle.std.proofs.Common.{◌≡◌, ◌≤◌, ◌⊎◌, ℕ, Bool, true, false, not, ◌&&◌, List, [], ◌∷◌, length, nat_lt, Option, Some, None, Result, Ok, Err, IfOk, refl, sym, ap, subst, ◌∙◌, inl, inr}
use Rattle.std.specs.List.{AllByRecursion, list_any}
use Rattle.std.specs.Prelude.{⊤, ◌||◌, IfSome, MatchResult, OnOk, is_err, option_map}
use Rattle.fr_base.specs.Refusing.{◌>>=◌, ◌>>◌, ◌or◌, refuse◌when◌}
use Rattle.fr_base.specs.Tables.{get, contains, len}
use Rattle.fr_base.specs.Cluster.{Cluster}
use Rattle.fr_base.specs.Book.{Kept, Variant, Book, own}
use Rattle.fr_base.specs.ImportRows.{header_of_body, rows_of_body, all_rows_of_body, up_to_refused}
use Rattle.fr_base.specs.Names.{same_text}
use Rattle.fr_base.specs.Proposals.{proposal}
use Rattle.fr_base.specs.Sound.{IsSound}
use Rattle.fr_base.specs.Wishes.{wishes_of_body}
use Rattle.fr_base.specs.Step.{Outcome, OwnRows, RefusedAt, at_line, deliver, fates_of, import, imported, own_rows, propose, replace, replaced, replace_rows as book_rows, tried, try, whole_of, with_freed}
use Rattle.fr_base.specs.declared.answer.Answer.{Answer}
use Rattle.fr_base.specs.declared.answer.Answer.TheVariants.{Imported, Replaced, Report, RefusedRow}
use Rattle.fr_base.specs.declared.answer.FateRow.{FateRow}
use Rattle.fr_base.specs.declared.answer.ReportRows.TheVariants.{Fates, Proposal as Proposed}
use Rattle.fr_base.specs.declared.delivery.Delivery.{Delivery}
use Rattle.fr_base.specs.declared.delivery.Manner.{Manner}
use Rattle.fr_base.specs.declared.delivery.Purpose.{Purpose}
use Rattle.fr_base.specs.declared.delivery.Purpose.TheVariants as purpose
use Rattle.fr_base.specs.declared.import.Header.{Header}
use Rattle.fr_base.specs.declared.import.RowRead.{RowRead}
use Rattle.fr_base.specs.declared.limits.TheConstants.{MAX_ROWS, MAX_IMPORT_BYTES}
use Rattle.fr_base.specs.declared.name.Name.{Name}
use Rattle.fr_base.specs.declared.refusal.Refusal.{Refusal}
use Rattle.fr_base.specs.declared.refusal.Refusal.TheVariants.{NoVariant, Released, LabelUsed, Limit, Unavailable}
use Rattle.fr_base.proofs.ImportForms.{IsRead, few_rows}
use Rattle.fr_base.proofs.TrialLaws.{body_ends}
use Rattle.fr_world.specs.BookEdits.{applied, all_applied}
use Rattle.fr_world.specs.Drafts.{IsOfSame}
use Rattle.fr_world.specs.Edits.{Leads, all_edited, edited, releases}
use Rattle.fr_world.specs.FileDecisions.{file_edits, is_proposal, is_trial}
use Rattle.fr_world.specs.Fits.{AllFit}
use Rattle.fr_world.specs.Held.{Leaving, LeavesEdited, Standing, Tells}
use Rattle.fr_world.specs.ImportLabels.{label_decision, after_label}
use Rattle.fr_world.specs.ImportLimits.{file_room, is_import, new_import, page_import}
use Rattle.fr_world.specs.PageEdits.{edits_between}
use Rattle.fr_world.specs.Pages.{PageData, own_rows_of, page_in}
use Rattle.fr_world.specs.ReplacementDecisions.{begun, replace_read, replace_row, replace_rows, replacement_decision}
use Rattle.fr_world.specs.RowDecisions.{DraftData, draft_of, make_read, make_row, make_rows, rows_decision}
use Rattle.fr_world.specs.Trials.{trial}
use Rattle.fr_world.specs.declared.edit.Edit.{Edit}
use Rattle.fr_world.specs.declared.edit.Edit.TheVariants.{KeepImport}
use Rattle.fr_world.proofs.BookFits.{import-fits, replacement-fits}
use Rattle.fr_world.proofs.FileLaws.{all-readable}
use Rattle.fr_world.proofs.ImportRoom.{new-import-decides}
use Rattle.fr_world.proofs.LabelLaws.{label-decides}
use Rattle.fr_world.proofs.PageLaws.{rows-registers}
use Rattle.fr_world.proofs.ReplacementsDecide.{replacement-decides}
use Rattle.fr_world.proofs.RowsDecide.{applied-more, rows-checked}
use Rattle.fr_world.proofs.RowsLead.{leads-last}
use Rattle.fr_world.proofs.TrialsDecide.{trial-decides}
use Rattle.fr_office.specs.Carried.{IsRefused, Replies}
use Rattle.fr_office.specs.Decided.{LeadsTo, Opens, open_page}
use Rattle.fr_office.specs.Deliveries.{AfterDelivery, GivesDelivery, GivesFile, LeavesFile, WhereActed, WhereImported, WhereReplaced, acted_answer, acted_outcome, edits_of_file, file_outcome, label_said, proposal_answer, rows_on}
use Rattle.fr_office.proofs.FreshLaws.{lead-taken, leads-taken}
use Rattle.fr_office.proofs.RowsLaws.{opened-there, some_has}

-- ---- what rows that act come to, by the edits that they are decided to

imported-alike : (b : Book) (d : Delivery) (label : Name) (count : ℕ) (decided : Result (List Edit) RefusedAt) →
    imported b d label count (decided >>= λ edits. Ok (all_applied b edits)) ≡ acted_outcome b d (purpose.Import label) count decided
unfolding imported applied ◌>>=◌
imported-alike b d label count (Ok edits) = λ i. record { book = sym (applied-more b edits (KeepImport d.supplier label d.variant d.body count)) i; answer = Imported count }
imported-alike b d label count (Err fault) = refl

replaced-alike : (b : Book) (d : Delivery) (whole : Bool) (count : ℕ) (decided : Result (List Edit) RefusedAt) →
    replaced b count (decided >>= λ edits. Ok (all_applied b edits)) ≡ acted_outcome b d (purpose.Replacement whole) count decided
unfolding replaced ◌>>=◌
replaced-alike b d whole count (Ok edits) = refl
replaced-alike b d whole count (Err fault) = refl

-- ---- the label

-- a label is new only where no import is kept under it
new_label : (kept : Option Kept) (d : Delivery) → label_decision kept d ≡ Ok None → kept ≡ None
unfolding label_decision ◌>>◌ refuse◌when◌
new_label None d is = refl
new_label (Some kept) d is = elim (same_text kept.variant d.variant && same_text kept.body d.body) as (λ t. ((refuse LabelUsed when not t) >> Ok (Some kept.rows)) ≡ Ok None → Some kept ≡ None) [
  | true ↦ λ e. cc
  | false ↦ λ e. cc
] is

-- ---- the page and the room

-- the limit of imports is none to another file
one_limit : (long : Bool) (o : Outcome) → ((refuse Limit when long) >> Ok o) ≡ (((refuse Limit when long) >> (refuse Limit when false)) >> Ok o)
unfolding ◌>>◌ refuse◌when◌
one_limit true o = refl
one_limit false o = refl

module _ (c : Cluster) (b : Book) (d : Delivery) where
  abbrev page_of : Variant → PageData
  page_of x = page_in c.params b d.supplier d.variant x

  -- what comes of the file on a page
  abbrev made_of : Purpose Name → PageData → Result Outcome Refusal
  made_of how page = file_room d how (len (own d.supplier b.imports)) >> Ok (file_outcome b d how page)

  -- what it comes to in a variant is what it comes to on the variant's page, where that is open
  abbrev IsAlike : Purpose Name → (Variant → Outcome) → Type 0
  IsAlike how outcome = (x : Variant) → get b.variants d.variant ≡ Some x → x.released ≡ false → outcome x ≡ file_outcome b d how (page_of x)

  released_alike : (how : Purpose Name) (outcome : Variant → Outcome) → IsAlike how outcome → (x : Variant) (t : Bool) → get b.variants d.variant ≡ Some x → x.released ≡ t →
      ((refuse Released when t) >> (file_room d how (len (own d.supplier b.imports)) >> Ok (outcome x))) ≡ (((refuse Released when t) >> Ok (page_of x)) >>= made_of how)
  unfolding ◌>>=◌ ◌>>◌ refuse◌when◌
  released_alike how outcome alike x true there released = refl
  released_alike how outcome alike x false there unreleased = ap (λ o. file_room d how (len (own d.supplier b.imports)) >> Ok o) (alike x there unreleased)

  by_page : (how : Purpose Name) (outcome : Variant → Outcome) → IsAlike how outcome →
      ((get b.variants d.variant or NoVariant) >>= λ x. (refuse Released when x.released) >> (file_room d how (len (own d.supplier b.imports)) >> Ok (outcome x)))
      ≡ (open_page c.params b d.supplier d.variant >>= made_of how)
  unfolding open_page ◌or◌ ◌>>=◌
  by_page how outcome alike = elim (get b.variants d.variant) as (λ o. get b.variants d.variant ≡ o →
      ((o or NoVariant) >>= λ x. (refuse Released when x.released) >> (file_room d how (len (own d.supplier b.imports)) >> Ok (outcome x)))
      ≡ (((option_map page_of o or NoVariant) >>= λ page. (refuse Released when page.released) >> Ok page) >>= made_of how)) [
        | None ↦ λ none. refl
        | Some x ↦ λ there. released_alike how outcome alike x x.released there refl
      ] refl

  module _ (sound : IsSound c b) (known : contains b.suppliers d.supplier ≡ true) where
    import_told : (label : Name) → get b.imports (d.supplier, label) ≡ None → import c.params b d label (get b.imports (d.supplier, label)) ≡ (open_page c.params b d.supplier d.variant >>= made_of (purpose.Import label))
    unfolding new_import
    import_told label free =
        ap (import c.params b d label) free ∙ new-import-decides c b d label sound known
        ∙ by_page (purpose.Import label) (page_import c.params b d label) (λ x there unreleased.
        ap (λ rows. imported b d label (length rows) (rows_decision (page_of x) rows >>= λ edits. Ok (all_applied b edits))) (sym (body_ends c.params d.body))
        ∙ imported-alike b d label _ (rows_decision (page_of x) (up_to_refused (all_rows_of_body c.params d.body))))

    -- what a replacement comes to in a variant, by the rows of the register
    abbrev replaced_in : Bool → Variant → Outcome
    replaced_in whole x =
        replaced b (length (rows_of_body c.params d.body))
        (book_rows c.params (with_freed b d.supplier d.variant x (whole_of whole (header_of_body d.body)) (rows_of_body c.params d.body)) d.supplier d.variant (rows_of_body c.params d.body))

    replacement_told : (whole : Bool) → replace c.params b d whole ≡ (open_page c.params b d.supplier d.variant >>= made_of (purpose.Replacement whole))
    unfolding replace file_room
    replacement_told whole =
        (λ i. (get b.variants d.variant or NoVariant) >>= λ x. (refuse Released when x.released) >> one_limit (nat_lt MAX_IMPORT_BYTES (length d.body)) (replaced_in whole x) i)
        ∙ by_page (purpose.Replacement whole) (replaced_in whole) (λ x there unreleased.
        ap (replaced b (length (rows_of_body c.params d.body))) (replacement-decides c b d.supplier d.variant x (whole_of whole (header_of_body d.body)) d.body sound there unreleased known)
        ∙ ap (λ rows. replaced b (length rows) (replacement_decision (page_of x) (whole_of whole (header_of_body d.body)) rows >>= λ edits. Ok (all_applied b edits))) (sym (body_ends c.params d.body))
        ∙ replaced-alike b d whole _ (replacement_decision (page_of x) (whole_of whole (header_of_body d.body)) (up_to_refused (all_rows_of_body c.params d.body))))

    -- what a trial tells in a variant, by the rows of the register
    abbrev telling : List FateRow → Outcome
    telling fates = record { book = b; answer = Report false (Fates fates) }

    abbrev told_in : Manner → Variant → Outcome
    told_in manner x = telling (fates_of c.params manner (tried manner b d.supplier d.variant x (header_of_body d.body) (rows_of_body c.params d.body)) d.supplier d.variant (all_rows_of_body c.params d.body))

    trial_told : (manner : Manner) → try c.params b d manner ≡ (open_page c.params b d.supplier d.variant >>= made_of (purpose.Trial manner))
    unfolding try file_room
    trial_told manner =
        (λ i. (get b.variants d.variant or NoVariant) >>= λ x. (refuse Released when x.released) >> one_limit (nat_lt MAX_IMPORT_BYTES (length d.body)) (told_in manner x) i)
        ∙ by_page (purpose.Trial manner) (told_in manner) (λ x there unreleased. ap telling (trial-decides c b d.supplier d.variant x d.body manner sound there unreleased known))

    -- what is proposed in a variant, by the supplier's rows of the register
    abbrev proposing : Bool → OwnRows → Outcome
    proposing replace own = record { book = b; answer = Report false (Proposed replace (proposal own replace (wishes_of_body c.params d.body))) }

    proposal_told : (replace : Bool) → propose c.params b d replace ≡ (open_page c.params b d.supplier d.variant >>= made_of (purpose.Proposal replace))
    unfolding propose file_room
    proposal_told replace =
        (λ i. (get b.variants d.variant or NoVariant) >>= λ x. (refuse Released when x.released) >> one_limit (nat_lt MAX_IMPORT_BYTES (length d.body)) (proposing replace (own_rows c.params b d.supplier x)) i)
        ∙ by_page (purpose.Proposal replace) (λ x. proposing replace (own_rows c.params b d.supplier x)) (λ x there unreleased. ap (proposing replace) (sym (rows-registers c b d.supplier d.variant x)))

    -- a file that is no kept import is decided by its page, and then the room for it
    pub told : (how : Purpose Name) → label_said b d how ≡ Ok None → deliver c.params b d how ≡ (open_page c.params b d.supplier d.variant >>= made_of how)
    unfolding deliver
    told (purpose.Import label) is = import_told label (new_label (get b.imports (d.supplier, label)) d is)
    told (purpose.Replacement whole) is = replacement_told whole
    told (purpose.Trial manner) is = trial_told manner
    told (purpose.Proposal replace) is = proposal_told replace

  -- another file is kept under its label
  label_used : (how : Purpose Name) (e : Refusal) → label_said b d how ≡ Err e → deliver c.params b d how ≡ Err e
  unfolding deliver ◌>>=◌
  label_used (purpose.Import label) e is = label-decides c.params b d label (get b.imports (d.supplier, label)) ∙ ap (λ r. r >>= after_label c.params b d label) is
  label_used (purpose.Replacement whole) e is = cc
  label_used (purpose.Trial manner) e is = cc
  label_used (purpose.Proposal replace) e is = cc

  -- the same is
  label_kept : (how : Purpose Name) (rows : ℕ) → label_said b d how ≡ Ok (Some rows) → deliver c.params b d how ≡ Ok (record { book = b; answer = Imported rows })
  unfolding deliver ◌>>=◌
  label_kept (purpose.Import label) rows is = label-decides c.params b d label (get b.imports (d.supplier, label)) ∙ ap (λ r. r >>= after_label c.params b d label) is
  label_kept (purpose.Replacement whole) rows is = cc
  label_kept (purpose.Trial manner) rows is = cc
  label_kept (purpose.Proposal replace) rows is = cc

-- what is no import is not limited by how many are kept
pub no_limit : (d : Delivery) (how : Purpose Name) (m n : ℕ) → is_import how ≡ false → file_room d how m ≡ file_room d how n
unfolding file_room
no_limit d how m n none = rw none refl

-- ---- how many rows there are

made_read : (d after : DraftData) (read : RowRead) → make_read d read ≡ Ok after → IsRead read
unfolding make_read at_line ◌>>=◌
made_read d after read made = elim read.row as (λ row. at_line read.line (row >>= make_row d) ≡ Ok after → is_err row ≡ false) [
  | Ok row ↦ λ h. refl
  | Err e ↦ λ h. cc
] made

replaced_read : (d after : DraftData) (read : RowRead) → replace_read d read ≡ Ok after → IsRead read
unfolding replace_read at_line ◌>>=◌
replaced_read d after read made = elim read.row as (λ row. at_line read.line (row >>= replace_row d) ≡ Ok after → is_err row ≡ false) [
  | Ok row ↦ λ h. refl
  | Err e ↦ λ h. cc
] made

-- of rows that were all made none is refused by its own text
all_made : (reads : List RowRead) (d last : DraftData) → make_rows d reads ≡ Ok last → AllByRecursion IsRead reads
unfolding make_rows ◌>>=◌
all_made [] d last made = tt
all_made (read ∷ rest) d last made = elim (make_read d read) as (λ r. make_read d read ≡ r → (r >>= λ after. make_rows after rest) ≡ Ok last → AllByRecursion IsRead (read ∷ rest)) [
  | Ok after ↦ λ is h. (made_read d after read is, all_made rest after last h)
  | Err e ↦ λ is h. cc
] refl made

all_replaced : (reads : List RowRead) (d last : DraftData) → replace_rows d reads ≡ Ok last → AllByRecursion IsRead reads
unfolding replace_rows ◌>>=◌
all_replaced [] d last made = tt
all_replaced (read ∷ rest) d last made = elim (replace_read d read) as (λ r. replace_read d read ≡ r → (r >>= λ after. replace_rows after rest) ≡ Ok last → AllByRecursion IsRead (read ∷ rest)) [
  | Ok after ↦ λ is h. (replaced_read d after read is, all_replaced rest after last h)
  | Err e ↦ λ is h. cc
] refl made

decided_read : (how : Purpose Name) (page : PageData) (header : Option Header) (reads : List RowRead) (edits : List Edit) → is_trial how ≡ false → is_proposal how ≡ false → file_edits how page header reads ≡ Ok edits → AllByRecursion IsRead (up_to_refused reads)
unfolding rows_decision replacement_decision ◌>>=◌
decided_read (purpose.Import label) page header reads edits acts rows decided =
    let rows : List RowRead = up_to_refused reads in
    elim (make_rows (draft_of page) rows) as (λ r. make_rows (draft_of page) rows ≡ r → (r >>= λ last. Ok last.edits) ≡ Ok edits → AllByRecursion IsRead rows) [
      | Ok last ↦ λ made h. all_made rows (draft_of page) last made
      | Err e ↦ λ made h. cc
    ] refl decided
decided_read (purpose.Replacement whole) page header reads edits acts rows decided =
    let rows : List RowRead = up_to_refused reads in
    let start : DraftData = begun (draft_of page) (whole_of whole header) rows in
    elim (replace_rows start rows) as (λ r. replace_rows start rows ≡ r → (r >>= λ last. Ok (edits_between page.variant (own_rows_of page) last.page)) ≡ Ok edits → AllByRecursion IsRead rows) [
      | Ok last ↦ λ made h. all_replaced rows start last made
      | Err e ↦ λ made h. cc
    ] refl decided
decided_read (purpose.Trial manner) page header reads edits acts rows decided = cc
decided_read (purpose.Proposal replace) page header reads edits acts rows decided = cc

-- so they are few, and all that the file has
pub few_rows_act : (how : Purpose Name) (page : PageData) (header : Option Header) (body : List ℕ) (edits : List Edit) → is_trial how ≡ false → is_proposal how ≡ false → file_edits how page header (all_rows_of_body page.params body) ≡ Ok edits →
    (length (all_rows_of_body page.params body) ≤ MAX_ROWS) × (up_to_refused (all_rows_of_body page.params body) ≡ all_rows_of_body page.params body)
few_rows_act how page header body edits acts rows decided =
    let reads : List RowRead = all_rows_of_body page.params body in
    let read : AllByRecursion IsRead (up_to_refused reads) = decided_read how page header reads edits acts rows decided in
    let all : up_to_refused reads ≡ reads = all-readable reads read in
    (subst (λ rows. length rows ≤ MAX_ROWS) (sym (body_ends page.params body) ∙ all) (few_rows page.params body (subst (AllByRecursion IsRead) (body_ends page.params body) read)), all)

-- what the rows that were read come to, so many, is what those of the file come to
pub acted_rows : (d : Delivery) (how : Purpose Name) (page : PageData) (header : Option Header) (reads : List RowRead) (edits : List Edit) (count : ℕ) → is_trial how ≡ false → is_proposal how ≡ false → reads ≡ rows_on page d → header ≡ header_of_body d.body →
    count ≡ length reads → file_edits how page header reads ≡ Ok edits →
    (file_edits how page (header_of_body d.body) (rows_on page d) ≡ Ok edits) × (count ≡ length (up_to_refused (rows_on page d)))
acted_rows d how page header reads edits count acts rows read headed counted decided =
    let said : file_edits how page (header_of_body d.body) (rows_on page d) ≡ Ok edits =
    subst (λ (rows : List RowRead). file_edits how page (header_of_body d.body) rows ≡ Ok edits) read (subst (λ (h : Option Header). file_edits how page h reads ≡ Ok edits) headed decided) in
    (said, counted ∙ ap length (read ∙ sym (few_rows_act how page (header_of_body d.body) d.body edits acts rows said).1))

-- what rows that were carried out hold of the answer
pub serves_acted : (P : Type 0) (r : Result Answer Refusal) → OnOk r P → IfOk r (λ said. WhereActed said P)
serves_acted P (Ok (Imported rows)) h = h
serves_acted P (Ok (Replaced rows)) h = h
serves_acted P (Ok _) h = tt
serves_acted P (Err e) h = tt

-- ---- the rows

module _ (d : Delivery) (how : Purpose Name) (page : PageData) where
  -- the first refused row is told
  pub rows_refused : (old : Standing) (line : ℕ) (refusal : Refusal) → file_edits how page (header_of_body d.body) (rows_on page d) ≡ Err (record { line = line; refusal = refusal }) → GivesFile old old (Ok (RefusedRow line refusal)) d how page
  rows_refused old line refusal decided c b stood sound known free opened = by_how how decided
    where
      by_how : (how : Purpose Name) → file_edits how page (header_of_body d.body) (rows_on page d) ≡ Err (record { line = line; refusal = refusal }) →
          (RefusedRow line refusal ≡ (file_outcome b d how page).answer) × old c (file_outcome b d how page).book
      by_how (purpose.Import label) decided = rw decided (refl, stood)
      by_how (purpose.Replacement whole) decided = rw decided (refl, stood)
      by_how (purpose.Trial manner) decided = cc
      by_how (purpose.Proposal replace) decided = cc

  -- the fate of each is
  pub rows_told : (old : Standing) (manner : Manner) (fates : List FateRow) → how ≡ purpose.Trial manner → fates ≡ trial manner page (header_of_body d.body) (rows_on page d) → GivesFile old old (Ok (Report false (Fates fates))) d how page
  rows_told old manner fates is told c b stood sound known free opened =
      subst (λ (h : Purpose Name). (Report false (Fates fates) ≡ (file_outcome b d h page).answer) × old c (file_outcome b d h page).book) (sym is) (ap (λ l. Report false (Fates l)) told, stood)

  -- what is proposed is told
  pub proposal_given : (old : Standing) (replace : Bool) (r : Result Answer Refusal) → how ≡ purpose.Proposal replace → MatchResult r (λ said. said ≡ proposal_answer d replace page) (λ e. e ≡ Unavailable) → GivesFile old old r d how page
  proposal_given old replace (Ok said) is told c b stood sound known free opened =
      subst (λ (h : Purpose Name). (said ≡ (file_outcome b d h page).answer) × old c (file_outcome b d h page).book) (sym is) (told, stood)
  proposal_given old replace (Err e) is told c b stood sound known free opened = (told, stood)

  module _ (edits : List Edit) (count : ℕ) (acts : is_trial how ≡ false) (rows : is_proposal how ≡ false) (decided : file_edits how page (header_of_body d.body) (rows_on page d) ≡ Ok edits) (unreleased : page.released ≡ false)
      (counted : count ≡ length (up_to_refused (rows_on page d))) where
    outcome-is : (b : Book) → file_outcome b d how page ≡ record { book = all_applied b (edits_of_file d how edits count); answer = acted_answer how count }
    outcome-is b = by_how how acts rows decided
      where
        by_how : (how : Purpose Name) → is_trial how ≡ false → is_proposal how ≡ false → file_edits how page (header_of_body d.body) (rows_on page d) ≡ Ok edits → file_outcome b d how page ≡ record { book = all_applied b (edits_of_file d how edits count); answer = acted_answer how count }
        by_how (purpose.Import label) acts rows decided = rw (counted, decided) refl
        by_how (purpose.Replacement whole) acts rows decided = rw (counted, decided) refl
        by_how (purpose.Trial manner) acts rows decided = cc
        by_how (purpose.Proposal replace) acts rows decided = cc

    all_fit : (c : Cluster) (b : Book) → IsSound c b → contains b.suppliers d.supplier ≡ true → label_said b d how ≡ Ok None → open_page c.params b d.supplier d.variant ≡ Ok page → AllFit c.params b (edits_of_file d how edits count)
    all_fit c b sound known free opened = by_how how acts rows free decided
      where
        by_how : (how : Purpose Name) → is_trial how ≡ false → is_proposal how ≡ false → label_said b d how ≡ Ok None → file_edits how page (header_of_body d.body) (rows_on page d) ≡ Ok edits → AllFit c.params b (edits_of_file d how edits count)
        by_how (purpose.Import label) acts rows free decided =
            let t = opened-there c.params b d.supplier d.variant page opened in
            import-fits c b d.supplier d.variant label t.0 d.body (rows_of_body c.params d.body) edits count sound t.1 (ap (λ (q : PageData). q.released) t.2 ∙ unreleased) known
            (new_label (get b.imports (d.supplier, label)) d free) (rows-checked c.params d.body)
            (ap (rows_decision (page_in c.params b d.supplier d.variant t.0)) (sym (body_ends c.params d.body))
            ∙ ap (λ (q : PageData). rows_decision q (up_to_refused (rows_on q d))) t.2 ∙ decided)
        by_how (purpose.Replacement whole) acts rows free decided =
            let t = opened-there c.params b d.supplier d.variant page opened in
            let kind : Option Header = whole_of whole (header_of_body d.body) in
            replacement-fits c b d.supplier d.variant t.0 kind (rows_of_body c.params d.body) edits sound t.1 (ap (λ (q : PageData). q.released) t.2 ∙ unreleased) (rows-checked c.params d.body)
            (ap (replacement_decision (page_in c.params b d.supplier d.variant t.0) kind) (sym (body_ends c.params d.body))
            ∙ ap (λ (q : PageData). replacement_decision q kind (up_to_refused (rows_on q d))) t.2 ∙ decided)
        by_how (purpose.Trial manner) acts rows free decided = cc
        by_how (purpose.Proposal replace) acts rows free decided = cc

    -- the edits are made, or they are not
    pub rows_acted : (old new : Standing) (r : Result Answer Refusal) → ((c : Cluster) (b : Book) → old c b → AllFit c.params b (edits_of_file d how edits count) → MatchResult r
        (λ said. (said ≡ acted_answer how count) × new c (all_applied b (edits_of_file d how edits count))) (λ e. (e ≡ Unavailable) × new c b)) → GivesFile old new r d how page
    rows_acted old new (Ok said) makes c b stood sound known free opened =
        let m = makes c b stood (all_fit c b sound known free opened) in
        (m.0 ∙ ap (λ (o : Outcome). o.answer) (sym (outcome-is b)), subst (λ (o : Outcome). new c o.book) (sym (outcome-is b)) m.1)
    rows_acted old new (Err e) makes c b stood sound known free opened = makes c b stood (all_fit c b sound known free opened)

    pub rows_stay : (stands : Standing) (old new : Leaving) → LeavesEdited stands old new (edits_of_file d how edits count) → LeavesFile stands old new d how page
    rows_stay stands old new leaves c b books stood sound known free opened left = elim (leaves c b books stood (all_fit c b sound known free opened) left) [
      | inl stays ↦ inl stays
      | inr more ↦ inr (subst (λ (o : Outcome). new c (o.book ∷ books)) (sym (outcome-is b)) more)
    ]

-- ---- the page to which the edits lead

module _ (d : Delivery) (label : Name) (count : ℕ) where
  abbrev kept : List Edit → List Edit
  kept edits = edits_of_file d (purpose.Import label) edits count

  -- the last edit, which keeps an import, is of no page
  rows-as-led : (edits : List Edit) (rows : OwnRows) → all_edited rows (kept edits) ≡ all_edited rows edits
  unfolding edited
  rows-as-led [] rows = refl
  rows-as-led (edit ∷ edits) rows = rows-as-led edits (edited rows edit)

  still-kept : (edits : List Edit) → list_any releases (kept edits) ≡ list_any releases edits
  still-kept [] = refl
  still-kept (edit ∷ edits) = ap (λ t. releases edit || t) (still-kept edits)

pub file_leads : (d : Delivery) (how : Purpose Name) (count : ℕ) (page new : PageData) (edits : List Edit) → Leads page.variant (own_rows_of page) edits (own_rows_of new) → IsOfSame page new → list_any releases edits ≡ false
    → LeadsTo page (edits_of_file d how edits count) new
file_leads d how count page new edits leads same still = by_how how
  where
    plain : LeadsTo page edits new
    plain = record {
      takes = leads-taken page (own_rows_of new) edits leads;
      still = still;
      rows = leads-last page.variant (own_rows_of page) (own_rows_of new) edits leads;
      supplier = same.supplier;
      variant = same.variant;
      released = same.released;
    }

    by_how : (how : Purpose Name) → LeadsTo page (edits_of_file d how edits count) new
    by_how (purpose.Import label) = record {
      takes = lead-taken page.variant (own_rows_of page) (own_rows_of new) edits (KeepImport d.supplier label d.variant d.body count ∷ []) leads (λ rows. (tt, tt));
      still = still-kept d label count edits ∙ still;
      rows = leads-last page.variant (own_rows_of page) (own_rows_of new) edits leads ∙ sym (rows-as-led d label count edits (own_rows_of page));
      supplier = same.supplier;
      variant = same.variant;
      released = same.released;
    }
    by_how (purpose.Replacement whole) = plain
    by_how (purpose.Trial manner) = plain
    by_how (purpose.Proposal replace) = plain

-- ---- the delivery

imported_where : (answer : Answer) (P : Type 0) → WhereActed answer P → WhereImported answer P
imported_where (Imported rows) P h = h
imported_where _ P h = tt

replaced_where : (answer : Answer) (P : Type 0) → WhereActed answer P → WhereReplaced answer P
replaced_where (Replaced rows) P h = h
replaced_where _ P h = tt

-- what holds after rows that acted holds after the delivery
pub after_rows : (stands : Standing) (d : Delivery) (how : Purpose Name) (P : Type 0) (r : Result Answer Refusal) → IfOk r (λ said. WhereActed said P) → AfterDelivery stands d how r P
after_rows stands d (purpose.Import label) P (Ok said) h = λ c b stood sound free. imported_where said P h
after_rows stands d (purpose.Import label) P (Err e) h = tt
after_rows stands d (purpose.Replacement whole) P (Ok said) h = replaced_where said P h
after_rows stands d (purpose.Replacement whole) P (Err e) h = tt
after_rows stands d (purpose.Trial manner) P r h = tt
after_rows stands d (purpose.Proposal replace) P r h = tt

-- what is said of an answer is said of no refusal
pub after_refused : (stands : Standing) (d : Delivery) (how : Purpose Name) (P : Type 0) (r : Result Answer Refusal) (e : Refusal) → r ≡ Err e → AfterDelivery stands d how r P
after_refused stands d how P (Ok said) e is = cc
after_refused stands d how P (Err f) e is = after_rows stands d how P (Err f) tt

-- Records that stood for a sound book still stand for it, and the file is no import that is kept there.
abbrev pub IsNew : Standing → Standing → Delivery → Purpose Name → Type 0
IsNew old now d how = (c : Cluster) (b : Book) → old c b → IsSound c b → now c b × (label_said b d how ≡ Ok None)

module _ (d : Delivery) (how : Purpose Name) (old mid : Standing) where
  -- another file is kept under the label
  pub label_stopped : (e : Refusal) → Replies (λ c b. label_said b d how) old mid (Err e) → GivesDelivery old mid (Err e) d how
  label_stopped e stopped c b stood sound known =
      let t = stopped c b stood sound in (
        t.0,
        elim t.1 [
          | inl lacked ↦ inl lacked
          | inr used ↦ inr (label_used c b d how e used)
        ],
      )

  -- the same is
  pub label_again : (found : Option ℕ) (rows : ℕ) → found ≡ Some rows → Replies (λ c b. label_said b d how) old mid (Ok found) → GivesDelivery old mid (Ok (Imported rows)) d how
  label_again found rows is kept c b stood sound known =
      let t = kept c b stood sound in
      (b, label_kept c b d how rows (t.1 ∙ ap Ok is), t.0)

  -- so nothing new was imported
  pub label_taken : (found : Option ℕ) (rows : ℕ) (P : Type 0) → found ≡ Some rows → Replies (λ c b. label_said b d how) old mid (Ok found) → AfterDelivery old d how (Ok (Imported rows)) P
  unfolding label_decision
  label_taken found rows P is kept = by_how how kept
    where
      by_how : (how : Purpose Name) → Replies (λ c b. label_said b d how) old mid (Ok found) → AfterDelivery old d how (Ok (Imported rows)) P
      by_how (purpose.Import label) kept = λ c b stood sound free.
          let said : label_said b d (purpose.Import label) ≡ Ok found = (kept c b stood sound).1 in
          let none : label_said b d (purpose.Import label) ≡ Ok None = ap (λ k. label_decision k d) free in
          cc
      by_how (purpose.Replacement whole) kept = tt
      by_how (purpose.Trial manner) kept = tt
      by_how (purpose.Proposal replace) kept = tt

  -- none is
  pub label_free : (found : Option ℕ) → found ≡ None → Replies (λ c b. label_said b d how) old mid (Ok found) → IsNew old mid d how
  label_free found is kept c b stood sound =
      let t = kept c b stood sound in
      (t.0, t.1 ∙ ap Ok is)

  module _ (new : IsNew old mid d how) (next : Standing) where
    abbrev IsCount : Cluster → Book → ℕ → Type 0
    IsCount c b count = file_room d how count ≡ file_room d how (len (own d.supplier b.imports))

    -- how many imports are kept is not known
    pub count_lacked : (r : Result ℕ Refusal) (e : Refusal) → r ≡ Err e → Tells mid next r IsCount → GivesDelivery old next (Err e) d how
    count_lacked (Ok n) e lacks asked c b stood sound known = cc
    count_lacked (Err f) e lacks asked c b stood sound known =
        let k = asked c b (new c b stood sound).0 in
        let same : e ≡ f = cc in
        (k.0, inl (same ∙ k.1))

    module _ (count : ℕ) (counted : Tells mid next (Ok count) IsCount) (last : Standing) (lent : Option PageData) where
      -- there is no page that is open
      pub page_stopped : (e : Refusal) → Opens lent d.supplier d.variant next last (Err e) → GivesDelivery old last (Err e) d how
      unfolding ◌>>=◌
      page_stopped e stopped c b stood sound known =
          let t = stopped c b (counted c b (new c b stood sound).0).0 sound in (
            t.0,
            elim t.1 [
              | inl lacked ↦ inl lacked
              | inr refused ↦ inr (told c b d sound known how (new c b stood sound).1 ∙ ap (λ o. o >>= made_of c b d how) refused)
            ],
          )

      module _ (page : PageData) (is : lent ≡ Some page) (opens : Opens lent d.supplier d.variant next last (Ok tt)) where
        by_room : (c : Cluster) (b : Book) → old c b → IsSound c b → contains b.suppliers d.supplier ≡ true →
            last c b × (open_page c.params b d.supplier d.variant ≡ Ok page) × (deliver c.params b d how ≡ (file_room d how count >> Ok (file_outcome b d how page)))
        unfolding ◌>>=◌
        by_room c b stood sound known =
            let k = counted c b (new c b stood sound).0 in
            let t = opens c b k.0 sound in
            let opened : open_page c.params b d.supplier d.variant ≡ Ok page = some_has (λ page. open_page c.params b d.supplier d.variant ≡ Ok page) lent page is t.1 in (
              t.0,
              opened,
              told c b d sound known how (new c b stood sound).1 ∙ ap (λ o. o >>= made_of c b d how) opened ∙ ap (λ r. r >> Ok (file_outcome b d how page)) (sym k.1),
            )

        -- there is no room for it
        pub no_room : (e : Refusal) → file_room d how count ≡ Err e → GivesDelivery old last (Err e) d how
        unfolding ◌>>◌
        no_room e full c b stood sound known =
            let k = by_room c b stood sound known in
            (k.0, inr (k.2 ∙ ap (λ r. r >> Ok (file_outcome b d how page)) full))

        -- there is, and so its outcome is that of its rows
        pub rows_left : file_room d how count ≡ Ok tt → (c : Cluster) (b : Book) → old c b → IsSound c b → contains b.suppliers d.supplier ≡ true →
            last c b × (label_said b d how ≡ Ok None) × (open_page c.params b d.supplier d.variant ≡ Ok page) × (deliver c.params b d how ≡ Ok (file_outcome b d how page))
        unfolding ◌>>◌
        rows_left room c b stood sound known =
            let k = by_room c b stood sound known in
            (k.0, (new c b stood sound).1, k.1, k.2 ∙ ap (λ r. r >> Ok (file_outcome b d how page)) room)

        pub rows_given : file_room d how count ≡ Ok tt → (after : Standing) (r : Result Answer Refusal) → IfSome lent (GivesFile last after r d how) → GivesDelivery old after r d how
        rows_given room after r given c b stood sound known = by_rows r (some_has (GivesFile last after r d how) lent page is given)
          where
            by_rows : (r : Result Answer Refusal) → GivesFile last after r d how page → MatchResult r
                (λ answer. (made : Book) × (deliver c.params b d how ≡ Ok (record { book = made; answer = answer })) × after c made)
                (λ e. IsRefused after c b e (deliver c.params b d how))
            by_rows (Ok answer) given =
                let k = rows_left room c b stood sound known in
                let g = given c b k.0 sound known k.1 k.2 in (
                  (file_outcome b d how page).book,
                  k.3 ∙ ap (λ a. Ok (record { book = (file_outcome b d how page).book; answer = a })) (sym g.0),
                  g.1,
                )
            by_rows (Err e) given =
                let k = rows_left room c b stood sound known in
                let g = given c b k.0 sound known k.1 k.2 in
                (g.1, inl g.0)
