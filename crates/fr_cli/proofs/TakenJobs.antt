-- Words in which `clap` finds no fault ask for a job, but for those of `check`, `export` and `try` that lack an object.
use Rattle.std.proofs.Common.{◌≡◌, ◌⊎◌, inl, inr, ℕ, Bool, true, false, ◌||◌, cond, List, [], ◌∷◌, ◌++◌, map, Option, Some, None, codes, refl, rules, sym, ap, ◌∙◌, subst}
use Rattle.std.specs.Prelude.{find, option_map}
use Rattle.std.specs.Borrow.{Bor}
use Rattle.std.specs.Str.{bytes_eq}
use Rattle.std.proofs.lemmas.Slice.Eq.{bytes_eq-Decides}
use Rattle.clap.specs.Faults.{level_fault}
use Rattle.clap.specs.Simple.{Shape, built, built_leaf, inherited, label_of, marked_built, on_top, with_leaf_noted}
use Rattle.clap.specs.Walk.{Row, Rule, Text, answers_to, first_of, nothing_held, rows_after}
use Rattle.fr_base.proofs.QueryLemmas.{EachOf, query_filled}
use Rattle.fr_base.specs.QueryNames.{Question}
use Rattle.fr_base.specs.declared.field_name.FieldName.{FieldName}
use Rattle.fr_base.specs.declared.import.Header.{Header}
use Rattle.fr_base.specs.declared.delivery.Manner.{Manner}
use Rattle.fr_cli.specs.Commands.{report, slotplan}
use Rattle.fr_cli.specs.Reports.{argument_name, asked_with, reports}
use Rattle.fr_cli.specs.Words.{AreTaken, AskForNone, HasPurpose, HasNoObject, HasNumber, IsAnswerable, IsFoundWithoutObject, IsJobFound, IsJobIn, IsJobOf, IsNumberAt, IsWordAt, LackAnObject, asked_by, header_in, is_given, manner_in, max_number, records, word_of_delivery}
use Rattle.fr_base.specs.declared.delivery.Purpose.{Purpose}
use Rattle.fr_base.specs.declared.delivery.Purpose.TheVariants.{Import as ByLabel, Replacement, Trial, Proposal}
use Rattle.fr_cli.specs.declared.words.delivery.Delivery.{Delivery}
use Rattle.fr_cli.specs.declared.words.inquiry.Inquiry.{Inquiry}
use Rattle.fr_cli.specs.declared.words.Job.{Job}
use Rattle.fr_cli.specs.declared.words.Job.TheVariants as job
use Rattle.fr_cli.proofs.TakenRows.{differ, some_none, some_same}
use Rattle.fr_cli.proofs.TakenNumbers.{IsNumber, number_stands}
use Rattle.fr_cli.proofs.TakenThere.{Stands, has_word, word_stands}
use Rattle.fr_cli.proofs.TakenSubs.{taken_sub}

-- a text that is lent
abbrev lent : Text → Bor Text
lent text = record { ref_ptr = (0, 0); now = text }

abbrev lent_if : Option Text → Option (Bor Text)
lent_if = option_map lent

lent_back : (o : Option Text) → option_map (λ t. t.now) (lent_if o) ≡ o
lent_back None = refl
lent_back (Some t) = refl

-- the subcommand of this name has a job with these words
abbrev HasJob : Text → List Row → Type 0
HasJob name rows = (j : Job) × IsJobOf j name rows

-- or where it has none, it has no object
abbrev Lacks : Text → List Row → Type 0
Lacks name rows = IsJobIn None name rows → HasNoObject name rows

-- so whatever its words are, in which no fault is found
abbrev AlwaysHasJob : Shape → Type 0
AlwaysHasJob s = (rest : List Text) → level_fault s [] nothing_held rest false [] ≡ [] → HasJob s.name (rows_after s.rules [] rest)

abbrev OnlyLacks : Shape → Type 0
OnlyLacks s = (rest : List Text) → level_fault s [] nothing_held rest false [] ≡ [] → Lacks s.name (rows_after s.rules [] rest)

-- the subcommand is `help`, or so
abbrev Asks : Shape → Type 0
Asks s = (label_of s ≡ (codes "help", [])) ⊎ OnlyLacks s

asks : (s : Shape) → AlwaysHasJob s → Asks s
asks s has = inr (λ rest fine none. let (j, is) = has rest fine in absurd (none j is))

-- the word for a field of what is asked is there, and so is the number of any size
abbrev NameThere : Question → List Rule → FieldName → Type 0
NameThere asked rules field = has_word rules (argument_name asked field) ≡ true

abbrev NumberThere : Question → List Rule → FieldName → Type 0
NumberThere asked rules field = NameThere asked rules field × IsNumber rules (argument_name asked field) 0 max_number

-- each name and number of what is asked has a word
abbrev WordsThere : List Rule → Question → Type 0
WordsThere rules asked = EachOf (NameThere asked rules) (NumberThere asked rules) asked

module _ (s : Shape) (once : s.args_override_self ≡ false) (rest : List Text) (fine : level_fault s [] nothing_held rest false [] ≡ []) where
  there : (id : Text) → has_word s.rules id ≡ true → Stands s.rules id (rows_after s.rules [] rest)
  there id has = word_stands s id rest once has fine

  count : (id : Text) (low high : ℕ) → has_word s.rules id ≡ true → IsNumber s.rules id low high
      → (n : ℕ) × HasNumber id low high (rows_after s.rules [] rest) n
  count id low high has parser = number_stands s.rules id (rows_after s.rules [] rest) low high (there id has) parser

  asked_job : (asked : Question) → asked_by s.name (rows_after s.rules [] rest) ≡ Some asked → has_word s.rules (codes "DB") ≡ true
      → WordsThere s.rules asked → HasJob s.name (rows_after s.rules [] rest)
  asked_job asked asks db words =
      let rows = rows_after s.rules [] rest in
      let at = there (codes "DB") db in
      let filled = query_filled (IsWordAt asked rows) (IsNumberAt asked rows) (NameThere asked s.rules) (NumberThere asked s.rules)
      (λ field has. let at = there (argument_name asked field) has in (lent at.text, at.first))
      (λ field has. count (argument_name asked field) 0 max_number has.0 has.1) asked words in
      let who = first_of (codes "supplier") rows in
      let inquiry : Inquiry = record { query = filled.0; supplier = lent_if who } in
      let is = subst (λ (o : Option Question). IsAnswerable o rows filled.0) (sym asks) filled.1 in
      (job.Report (lent at.text) inquiry, (at.first, is, lent_back who))

  deliver_job : (how : Purpose (Bor (List ℕ))) → s.name ≡ word_of_delivery how → HasPurpose how (rows_after s.rules [] rest)
      → has_word s.rules (codes "DB") ≡ true
      → has_word s.rules (codes "KEY") ≡ true → has_word s.rules (codes "VARIANT") ≡ true → has_word s.rules (codes "FILE") ≡ true
      → HasJob s.name (rows_after s.rules [] rest)
  deliver_job how named has db key variant file =
      let at = there (codes "DB") db in
      let by = there (codes "KEY") key in
      let of = there (codes "VARIANT") variant in
      let from = there (codes "FILE") file in
      let delivery : Delivery = record { key = lent by.text; variant = lent of.text; how = how; file = lent from.text } in
      (job.Deliver (lent at.text) delivery, (named, at.first, (by.first, of.first, has, from.first)))

run_job : (s : Shape) → s.name ≡ codes "run" → AlwaysHasJob s
run_job s named rest fine = (job.Run (is_given (codes "lines") (rows_after s.rules [] rest)), (named, refl))

create_job : (s : Shape) → s.args_override_self ≡ false → s.name ≡ codes "create" → has_word s.rules (codes "DB") ≡ true
    → has_word s.rules (codes "CONFIG") ≡ true
    → AlwaysHasJob s
create_job s once named db config rest fine =
    let at = there s once rest fine (codes "DB") db in
    let of = there s once rest fine (codes "CONFIG") config in
    (job.Create (lent at.text) (lent of.text), (named, at.first, of.first))

migrate_job : (s : Shape) → s.args_override_self ≡ false → s.name ≡ codes "migrate" → has_word s.rules (codes "DB") ≡ true → AlwaysHasJob s
migrate_job s once named db rest fine = let at = there s once rest fine (codes "DB") db in (job.Migrate (lent at.text), (named, at.first))

ask_job : (s : Shape) → s.args_override_self ≡ false → s.name ≡ codes "ask" → has_word s.rules (codes "DB") ≡ true → AlwaysHasJob s
ask_job s once named db rest fine =
    let at = there s once rest fine (codes "DB") db in
    (job.Ask (lent at.text) (is_given (codes "lines") (rows_after s.rules [] rest)), (named, at.first, refl))

serve_job : (s : Shape) → s.args_override_self ≡ false → s.name ≡ codes "serve" → has_word s.rules (codes "DB") ≡ true
    → has_word s.rules (codes "PORT") ≡ true
    → IsNumber s.rules (codes "PORT") 1 65535 → has_word s.rules (codes "count") ≡ true
    → IsNumber s.rules (codes "count") 1 1000000 → has_word s.rules (codes "seconds") ≡ true
    → IsNumber s.rules (codes "seconds") 1 3600 → has_word s.rules (codes "memory") ≡ true
    → IsNumber s.rules (codes "memory") 1 1000000 → AlwaysHasJob s
serve_job s once named db port ports many counts long seconds much memory rest fine =
    let at = there s once rest fine (codes "DB") db in
    let number = count s once rest fine (codes "PORT") 1 65535 port ports in
    let connections = count s once rest fine (codes "count") 1 1000000 many counts in
    let time = count s once rest fine (codes "seconds") 1 3600 long seconds in
    let pages = count s once rest fine (codes "memory") 1 1000000 much memory in
    (job.Serve (lent at.text) number.0 connections.0 time.0 pages.0, (named, at.first, number.1, connections.1, time.1, pages.1))

-- The subcommand asks for this report, and each of its words is there.
abbrev AsksReport : Shape → Question → Type 0
AsksReport s asked = (s.args_override_self ≡ false) × (bytes_eq s.name (codes "export") ≡ false) × (asked_with s.name ≡ Some asked)
    × (has_word s.rules (codes "DB") ≡ true) × WordsThere s.rules asked

report_job : (asked : Question) (s : Shape) → AsksReport s asked → AlwaysHasJob s
report_job asked s (once, other, asks, db, words) rest fine = asked_job s once rest fine asked by_name db words
  where
    by_name : asked_by s.name (rows_after s.rules [] rest) ≡ Some asked
    by_name =
        ap (λ (b : Bool). cond b (option_map records (header_in (rows_after s.rules [] rest))) (asked_with s.name)) other ∙ asks

picture_job : (s : Shape) → s.args_override_self ≡ false → s.name ≡ codes "picture" → has_word s.rules (codes "DB") ≡ true
    → has_word s.rules (codes "VARIANT") ≡ true
    → AlwaysHasJob s
picture_job s once named db variant rest fine =
    let at = there s once rest fine (codes "DB") db in
    let of = there s once rest fine (codes "VARIANT") variant in
    let from = first_of (codes "since") (rows_after s.rules [] rest) in
    let who = first_of (codes "supplier") (rows_after s.rules [] rest) in
    (job.Picture (lent at.text) (lent of.text) (lent_if from) (lent_if who), (named, at.first, of.first, lent_back from, lent_back who))

import_job : (s : Shape) → s.args_override_self ≡ false → s.name ≡ codes "import" → has_word s.rules (codes "DB") ≡ true
    → has_word s.rules (codes "KEY") ≡ true
    → has_word s.rules (codes "VARIANT") ≡ true → has_word s.rules (codes "LABEL") ≡ true → has_word s.rules (codes "FILE") ≡ true
    → AlwaysHasJob s
import_job s once named db key variant label file rest fine =
    let of = there s once rest fine (codes "LABEL") label in
    deliver_job s once rest fine (ByLabel (lent of.text)) named of.first db key variant file

replace_job : (s : Shape) → s.args_override_self ≡ false → s.name ≡ codes "replace" → has_word s.rules (codes "DB") ≡ true
    → has_word s.rules (codes "KEY") ≡ true
    → has_word s.rules (codes "VARIANT") ≡ true → has_word s.rules (codes "FILE") ≡ true → AlwaysHasJob s
replace_job s once named db key variant file rest fine =
    deliver_job s once rest fine (Replacement (is_given (codes "whole") (rows_after s.rules [] rest))) named refl db key variant file

propose_job : (s : Shape) → s.args_override_self ≡ false → s.name ≡ codes "propose" → has_word s.rules (codes "DB") ≡ true
    → has_word s.rules (codes "KEY") ≡ true
    → has_word s.rules (codes "VARIANT") ≡ true → has_word s.rules (codes "FILE") ≡ true → AlwaysHasJob s
propose_job s once named db key variant file rest fine =
    deliver_job s once rest fine (Proposal (is_given (codes "replace") (rows_after s.rules [] rest))) named refl db key variant file

explain_job : (s : Shape) → s.name ≡ codes "explain" → AlwaysHasJob s
explain_job s named rest fine =
    let word = first_of (codes "WORD") (rows_after s.rules [] rest) in
    (job.Explain (lent_if word), (named, lent_back word))

-- `export` has one where its rows are named
export_job : (s : Shape) → s.args_override_self ≡ false → s.name ≡ codes "export" → has_word s.rules (codes "DB") ≡ true
    → ((header : Header) → WordsThere s.rules (records header)) → OnlyLacks s
export_job s once named db words rest fine none = inr (inl (named, go (header_in (rows_after s.rules [] rest)) refl))
  where
    asks : (o : Option Header) → header_in (rows_after s.rules [] rest) ≡ o → asked_by s.name (rows_after s.rules [] rest) ≡ option_map records o
    asks o is =
        ap (λ (b : Bool). cond b (option_map records (header_in (rows_after s.rules [] rest))) (asked_with s.name)) ((bytes_eq-Decides s.name (codes "export")).1 named)
        ∙ ap (option_map records) is

    go : (o : Option Header) → header_in (rows_after s.rules [] rest) ≡ o → header_in (rows_after s.rules [] rest) ≡ None
    go None is = is
    go (Some header) is =
        let (j, has) = asked_job s once rest fine (records header) (asks (Some header) is) db (words header) in
        absurd (none j has)

-- and `try` where it may be whole
try_job : (s : Shape) → s.args_override_self ≡ false → s.name ≡ codes "try" → has_word s.rules (codes "DB") ≡ true
    → has_word s.rules (codes "KEY") ≡ true
    → has_word s.rules (codes "VARIANT") ≡ true → has_word s.rules (codes "FILE") ≡ true → OnlyLacks s
try_job s once named db key variant file rest fine none = inr (inr (named, go (manner_in (rows_after s.rules [] rest)) refl))
  where
    go : (o : Option Manner) → manner_in (rows_after s.rules [] rest) ≡ o → manner_in (rows_after s.rules [] rest) ≡ None
    go None is = is
    go (Some manner) is =
        let (j, has) = deliver_job s once rest fine (Trial manner) named is db key variant file in
        absurd (none j has)

-- and `check` where its file is
check_job : (s : Shape) → s.name ≡ codes "check" → OnlyLacks s
check_job s named rest fine none = inl (named, (λ file is. none (job.Check file) (named, is)))

infixr 5 ◌and◌
-- each subcommand of the list is so
data EachAsks : List Shape → Type 0 where
  nothing : EachAsks []
  ◌and◌ : {s : Shape} {subs : List Shape} → Asks s → EachAsks subs → EachAsks (s ∷ subs)

-- a report's subcommand, as `clap` builds it
abbrev shape_of : Text × Question → Shape
shape_of row = built_leaf (inherited (on_top with_leaf_noted (on_top marked_built slotplan)).top (report row).top)

-- each report of the list has a subcommand that asks for it
abbrev AskReports : List (Text × Question) → Type 0
AskReports [] = Unit {0}
AskReports (row ∷ rows) = AsksReport (shape_of row) row.1 × AskReports rows

-- their subcommands, before others
each_report : (rows : List (Text × Question)) → AskReports rows → {subs : List Shape} → EachAsks subs → EachAsks (map shape_of rows ++ subs)
each_report [] ask others = others
each_report (row ∷ rows) (one, more) others = asks _ (report_job row.1 _ one) and each_report rows more others

reports_ask : AskReports reports
unfolding asked_with
reports_ask = search rules

-- in the order of the command line
all_ask : EachAsks (built slotplan).subs
all_ask =
    asks _ (run_job _ refl)
    and asks _ (create_job _ refl refl refl refl)
    and asks _ (migrate_job _ refl refl refl)
    and asks _ (serve_job _ refl refl refl refl refl refl refl refl refl refl refl)
    and asks _ (ask_job _ refl refl refl)
    and each_report reports reports_ask (inr (export_job _ refl refl refl (λ header. (refl, (refl, refl))))
    and asks _ (picture_job _ refl refl refl refl)
    and asks _ (import_job _ refl refl refl refl refl refl refl)
    and asks _ (replace_job _ refl refl refl refl refl refl)
    and inr (try_job _ refl refl refl refl refl refl)
    and asks _ (propose_job _ refl refl refl refl refl refl)
    and inr (check_job _ refl)
    and asks _ (explain_job _ refl)
    and inl refl
    and nothing)

found_asks : (p : Shape → Bool) (subs : List Shape) (s : Shape) → EachAsks subs → find p subs ≡ Some s → Asks s × (p s ≡ true)
found_asks p [] s all e = some_none s e
found_asks p (x ∷ subs) s (one and more) e = go (p x) refl e (found_asks p subs s more)
  where
    go : (t : Bool) → p x ≡ t → cond t (Some x) (find p subs) ≡ Some s → (find p subs ≡ Some s → Asks s × (p s ≡ true))
        → Asks s × (p s ≡ true)
    go true is e rest = let same = some_same x s e in (subst Asks same one, ap p (sym same) ∙ is)
    go false is e rest = rest e

-- a word that `help` answers to is its name
no_help : {X : Type 0} (word : Text) → answers_to word (codes "help", []) ≡ true → bytes_eq word (codes "help") ≡ false → X
no_help word answers other =
    let same : codes "help" ≡ word = (bytes_eq-Decides (codes "help") word).0 (either (bytes_eq (codes "help") word) answers) in
    differ (sym ((bytes_eq-Decides word (codes "help")).1 (sym same)) ∙ other)
  where
    either : (t : Bool) → (t || false) ≡ true → t ≡ true
    either true e = refl
    either false e = e

not_help : (s : Shape) (word : Text) → Asks s → answers_to word (label_of s) ≡ true → bytes_eq word (codes "help") ≡ false → OnlyLacks s
not_help s word (inl help) answers other = no_help word (subst (λ (label : Text × List Text). answers_to word label ≡ true) help answers) other
not_help s word (inr lacks) answers other = lacks

-- where words in which `clap` finds no fault ask for no job, they lack an object
pub object_lacks : (words : List Text) → AreTaken words → AskForNone words → LackAnObject words
object_lacks words taken none =
    let t = taken_sub (built slotplan) words refl refl taken in
    let (asks, answers) = found_asks (λ s. answers_to t.word (label_of s)) (built slotplan).subs t.sub all_ask t.found in
    let lacks = not_help t.sub t.word asks answers t.other t.rest t.fine in
    subst IsFoundWithoutObject (sym t.is) (lacks (subst (IsJobFound None) t.is none))
