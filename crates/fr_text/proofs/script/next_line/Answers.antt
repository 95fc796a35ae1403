use Rattle.std.proofs.Common.{sym, subst, length, ◌<◌, rules}
use Rattle.fr_text.proofs.LineLemmas.{Around, around, takes_ended, takes_last}
use Rattle.fr_text.proofs.script.next_line.Goals as goal

pub returns-in-Some-clause-first : goal.returns-in-Some-clause-first
returns-in-Some-clause-first c =
    let found = subst (Around 10 c.args.bytes.now) (sym c.in-Some.ensures) (around 10 c.args.bytes.now) in
    takes_ended _ _ _ _ found.0 found.1 c.without_return.ensures

pub returns-in-None-clause-first : goal.returns-in-None-clause-first
returns-in-None-clause-first c =
    let none = subst (Around 10 c.args.bytes.now) (sym c.in-None.ensures) (around 10 c.args.bytes.now) in
    let some : 0 < length c.args.bytes.now = search rules in
    takes_last _ some none
