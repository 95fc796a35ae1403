use Rattle.std.proofs.Common.{sym, ◌∙◌, rules, ◌≡◌, []}
use Rattle.fr_text.proofs.LineLemmas.{parts_of_found, parts_of_passed, parts_of_missing}
use Rattle.fr_text.proofs.script.split_script.Goals as goal

pub returns-then-eq : goal.returns-then-eq
returns-then-eq c =
    let (front, whole, so) = c.loop-line.invariant in
    parts_of_found _ front _ _ _ whole so c.in-Some.ensures.first (sym c.eq.ensures ∙ c.if-eq.true)

pub loop-line-preserved : goal.loop-line-preserved
loop-line-preserved c =
    let (front, whole, so) = c.loop-line.invariant in
    parts_of_passed _ front _ _ _ whole so c.in-Some.ensures.first (sym c.eq.ensures ∙ c.if-eq.false)

pub returns : goal.returns
returns c =
    let (front, _, so) = c.loop-line.invariant in
    let none : c.loop-line.rest.now ≡ [] = search rules in
    parts_of_missing _ front _ so none
