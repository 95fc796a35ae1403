use Rattle.std.proofs.Common.{◌<◌, ◌≡◌, ◌∙◌, [], ap, arith, length, rules}
use Rattle.fr_cli.proofs.NumberedLaws.{numbered-empty, numbered-none, numbered-some}
use Rattle.fr_cli.proofs.streams.numbered_lines.next_request.Goals as goal

pub returns-then-not-is_empty-clause-some : goal.returns-then-not-is_empty-clause-some
returns-then-not-is_empty-clause-some c =
    let l = c.loop-line.invariant in
    let line = c.in-Some.ensures.first.line in
    let some : 0 < length c.in-Some.line.now = search rules in
    record { first = l.same ∙ numbered-some _ _ _ _ line some; room = omega (arith, l.room, ap length line) }

pub loop-line-preserved : goal.loop-line-preserved
loop-line-preserved c =
    let l = c.loop-line.invariant in
    let line = c.in-Some.ensures.first.line in
    let none : length c.in-Some.line.now ≡ 0 = search rules in
    record { same = l.same ∙ numbered-empty _ _ _ _ line none; room = omega (arith, l.room, ap length line) }

pub returns-clause-none : goal.returns-clause-none
returns-clause-none c =
    let none : c.loop-line.rest.now ≡ [] = search rules in
    λ _. c.loop-line.invariant.same ∙ numbered-none _ _ none
