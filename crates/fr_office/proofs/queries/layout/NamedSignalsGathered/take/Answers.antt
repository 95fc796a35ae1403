use Rattle.std.proofs.Common.{refl, true}
use Rattle.fr_office.proofs.GatherLaws.{takes-found, takes-none}
use Rattle.fr_office.proofs.queries.layout.NamedSignalsGathered.take.Goals as goal

pub returns-then-branch : goal.returns-then-branch
returns-then-branch c =
    takes-found c.args.page.now c.args.self.now (record c.args.self.now { rows = c.push_signals.new.rows; found = true }) c.in_ok-push_signals.field-0 refl c.in_ok-push_signals.ensures.rows
    c.in_ok-push_signals.ensures.found c.if-branch.true refl

pub returns-else-branch : goal.returns-else-branch
returns-else-branch c =
    takes-none c.args.page.now c.args.self.now (record c.args.self.now { rows = c.push_signals.new.rows }) c.in_ok-push_signals.field-0 refl c.in_ok-push_signals.ensures.rows
    c.in_ok-push_signals.ensures.found c.if-branch.false refl
