use Rattle.std.proofs.Common.{ap, refl, true, ◌≡◌, ◌∙◌, sym, Some, None, inr, map, subst, string_bytes}
use Rattle.clap.specs.Words.{App, HasKind, fault_of, is_simple, is_simple_and_free, subcommand_of}
use Rattle.fr_cli.proofs.TakenJobs.{object_lacks}
use Rattle.fr_cli.proofs.WordLaws.{handed_on, refused_by}
use Rattle.fr_cli.proofs.words.read.Goals as goal
use Rattle.fr_cli.specs.Commands.{slotplan}
use Rattle.fr_cli.specs.Words.{IsJobFound}

simple : is_simple slotplan ≡ true
simple = refl

free : is_simple_and_free slotplan ≡ true
free = refl

pub returns-in-Some-clause-taken : goal.returns-in-Some-clause-taken
returns-in-Some-clause-taken c =
    ap (λ (a : App). fault_of a (map string_bytes c.args.words.now)) (sym c.in_ok-program.ensures.0)
    ∙ c.in_ok-matches.ensures.kinds (ap is_simple_and_free c.in_ok-program.ensures.0 ∙ free)

pub returns-in-Some-clause-job : goal.returns-in-Some-clause-job
returns-in-Some-clause-job c =
    let read = (c.in_ok-matches.ensures.ok.2 (ap is_simple c.in_ok-program.ensures.0 ∙ simple)).1 in
    let asked = map string_bytes c.args.words.now in
    subst (IsJobFound (Some c.in-Some.job)) (read ∙ ap (λ (a : App). subcommand_of a asked) c.in_ok-program.ensures.0) c.in-Some.ensures

pub returns-in_err-matches-clause-fault : goal.returns-in_err-matches-clause-fault
returns-in_err-matches-clause-fault c =
    let asked = map string_bytes c.args.words.now in
    let kinds = c.in_err-matches.ensures.kinds (ap is_simple_and_free c.in_ok-program.ensures.0 ∙ free) in
    let same : HasKind (fault_of slotplan asked) c.in_err-matches.field-0.0 =
    subst (λ (a : App). HasKind (fault_of a asked) c.in_err-matches.field-0.0) c.in_ok-program.ensures.0 kinds in
    handed_on asked c.in_err-matches.field-0.0 _ c.from_residual-in_err-matches.ensures.1 (refused_by asked c.in_err-matches.field-0.0 same)

pub returns-clause-fault : goal.returns-clause-fault
returns-clause-fault c =
    let read = (c.in_ok-matches.ensures.ok.2 (ap is_simple c.in_ok-program.ensures.0 ∙ simple)).1 in
    let asked = map string_bytes c.args.words.now in
    let taken = ap (λ (a : App). fault_of a asked) (sym c.in_ok-program.ensures.0)
    ∙ c.in_ok-matches.ensures.kinds (ap is_simple_and_free c.in_ok-program.ensures.0 ∙ free) in
    let none = subst (IsJobFound None) (read ∙ ap (λ (a : App). subcommand_of a asked) c.in_ok-program.ensures.0) c.in-None.ensures in
    inr (inr (c.in_ok-error-in-None.ensures.kind, taken, none, object_lacks asked taken none))
