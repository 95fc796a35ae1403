-- The words of a report's subcommand: that nothing else is asked with them.
use Rattle.std.proofs.Common.{◌≡◌, ◌∙◌, ◌||◌, sym, refl, ap, subst, ℕ, Bool, true, false, List, Option, Some, None, Err, codes, Bor}
use Rattle.std.specs.Prelude.{⊤}
use Rattle.std.specs.Str.{bytes_eq}
use Rattle.clap.specs.Walk.{Row, Text, first_of}
use Rattle.fr_base.proofs.QueryLemmas.{query_once}
use Rattle.fr_base.specs.QueryNames.{IsQueryRead, Question}
use Rattle.fr_base.specs.declared.query.Query.{Query}
use Rattle.fr_cli.specs.Reports.{argument_name, asked_with}
use Rattle.fr_cli.specs.Words.{HasPurpose, IsAnswerable, IsDeliveryIn, IsJobIn, IsJobOf, IsNumberAt, IsWordAt, asked_by, manner_in, word_of_delivery}
use Rattle.fr_cli.specs.declared.words.delivery.Delivery.{Delivery}
use Rattle.fr_base.specs.declared.delivery.Purpose.{Purpose}
use Rattle.fr_base.specs.declared.delivery.Purpose.TheVariants.{Import as ByLabel, Replacement, Trial, Proposal}
use Rattle.fr_cli.specs.declared.words.Job.{Job}
use Rattle.fr_cli.specs.declared.words.Job.TheVariants.{Run, Create, Migrate, Serve, Ask, Report as ReportOn, Picture, Deliver, Check, Explain}

-- whether a file is delivered by the subcommand of this name
abbrev is_delivery : Text → Bool
is_delivery name = bytes_eq name (codes "import") || (bytes_eq name (codes "replace") || (bytes_eq name (codes "try") || bytes_eq name (codes "propose")))

delivers : (how : Purpose (Bor (List ℕ))) → is_delivery (word_of_delivery how) ≡ true
delivers (ByLabel label) = refl
delivers (Replacement whole) = refl
delivers (Trial manner) = refl
delivers (Proposal replace) = refl

no_delivery : {X : Type 0} (how : Purpose (Bor (List ℕ))) (name : Text) → is_delivery name ≡ false → word_of_delivery how ≡ name → X
no_delivery how name other is = let no : true ≡ false = sym (delivers how) ∙ (ap is_delivery is ∙ other) in cc

-- no report is asked for by a subcommand that delivers a file
no_question : (how : Purpose (Bor (List ℕ))) (rows : List Row) → asked_by (word_of_delivery how) rows ≡ None
unfolding asked_with
no_question (ByLabel label) rows = refl
no_question (Replacement whole) rows = refl
no_question (Trial manner) rows = refl
no_question (Proposal replace) rows = refl

-- where no delivery by a subcommand is of these words, it has no job
pub undelivered : (how : Purpose (Bor (List ℕ))) (rows : List Row) (job : Option Job) → job ≡ None
    → ((delivery : Delivery) → word_of_delivery how ≡ word_of_delivery delivery.how → IsDeliveryIn rows delivery → ⊥)
    → IsJobIn job (word_of_delivery how) rows
undelivered how rows (Some job) none lacks = cc
undelivered how rows None none lacks = go
  where
    go : (job : Job) → IsJobOf job (word_of_delivery how) rows → ⊥
    go (Run numbered) is = no_delivery how (codes "run") refl is.0
    go (Create db config) is = no_delivery how (codes "create") refl is.0
    go (Migrate db) is = no_delivery how (codes "migrate") refl is.0
    go (Serve db port count seconds memory) is = no_delivery how (codes "serve") refl is.0
    go (Ask db numbered) is = no_delivery how (codes "ask") refl is.0
    go (ReportOn db query) is = subst (λ (o : Option Question). IsAnswerable o rows query.query) (no_question how rows) is.1
    go (Picture db variant since supplier) is = no_delivery how (codes "picture") refl is.0
    go (Deliver db delivery) is = lacks delivery is.0 is.2
    go (Check file) is = no_delivery how (codes "check") refl is.0
    go (Explain word) is = no_delivery how (codes "explain") refl is.0

-- where no manner is said, no file is tried
pub untried : (rows : List Row) → manner_in rows ≡ None → (delivery : Delivery) → codes "try" ≡ word_of_delivery delivery.how → IsDeliveryIn rows delivery → ⊥
untried rows none delivery named is = go delivery.how named is.2
  where
    go : (how : Purpose (Bor (List ℕ))) → codes "try" ≡ word_of_delivery how → HasPurpose how rows → ⊥
    go (ByLabel label) named has = cc
    go (Replacement whole) named has = cc
    go (Proposal replace) named has = cc
    go (Trial manner) named has = let no : None ≡ Some manner = sym none ∙ has in cc

-- where a word is wanting, none is there
pub wanting : {X : Type 0} (said : Option Text) (text : Text) → None ≡ said → said ≡ Some text → X
wanting said text none has = let no : None ≡ Some text = none ∙ has in cc

-- what cannot be read of the words has no other reading
pub unread : (asked : Question) (rows : List Row) (e : ⊤) (query : Query (Bor Text) ℕ)
    → IsQueryRead (IsWordAt asked rows) (IsNumberAt asked rows) asked (Err e) → IsAnswerable (Some asked) rows query → ⊥
unread asked rows =
    query_once (IsWordAt asked rows) (IsNumberAt asked rows)
    (λ field e text none has. wanting (first_of (argument_name asked field) rows) text.now (sym none) has)
    (λ field e number none has. none number has) asked
