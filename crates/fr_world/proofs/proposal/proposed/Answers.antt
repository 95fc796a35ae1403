use Rattle.std.proofs.Common.{◌≡◌, ◌∙◌, None, Some, Err, sym, rules, tests}
use Rattle.fr_base.specs.Proposals.{place_at}
use Rattle.fr_base.specs.declared.refusal.Refusal.TheVariants.{NoRoom}
use Rattle.fr_world.proofs.GivenRows.{row-placed, row-refused, row-without}
use Rattle.fr_world.proofs.proposal.proposed.Goals as goal

pub returns-in_err-wish : goal.returns-in_err-wish
returns-in_err-wish c =
    let e = c.in_err-wish.field-0.0 in
    let told : c.from_residual.result ≡ Err e = search rules in
    told ∙ row-refused c.args.given.now c.args.read.now e c.in_err-wish.was

pub returns-in_err-placement : goal.returns-in_err-placement
returns-in_err-placement c =
    let told : c.from_residual-in_err-placement.result ≡ Err NoRoom = search (rules, tests) in
    let none : place_at c.args.given.now c.args.read.now.line ≡ None = search (rules, tests) in
    told ∙ row-without c.args.given.now c.args.read.now c.in_ok-wish.wish c.in_ok-wish.was none

pub returns : goal.returns
returns c =
    let some : place_at c.args.given.now c.args.read.now.line ≡ Some c.in_ok-placement.placement = search (rules, tests) in
    row-placed c.args.given.now c.args.read.now c.in_ok-wish.wish c.in_ok-wish.was c.in_ok-placement.placement some
