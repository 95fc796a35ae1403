use Rattle.std.proofs.Common.{◌≡◌, ◌∙◌, sym, ap, Some, option_map}
use Rattle.fr_base.specs.Fittest.{lesser, rated_cmp}
use Rattle.fr_world.specs.Proposals.{rated_of}
use Rattle.fr_world.proofs.FitLaws.{fewer, fitter-former, fitter-latter}
use Rattle.fr_world.proofs.proposal.fit.fitter.Goals as goal
use Rattle.fr_world.proofs.proposal.fit.fitter.Goals.{then-lt, else-lt}

pub returns-after-lt : goal.returns-after-lt
returns-after-lt c =
    let x = c.in-Some-Some.x in
    let y = c.in-Some-Some.y in
    let both : lesser rated_cmp (option_map rated_of c.args.former) (option_map rated_of c.args.latter) ≡ lesser rated_cmp (Some (rated_of x)) (Some (rated_of y)) = λ i. lesser rated_cmp (option_map rated_of (c.in-Some-Some.is-0 i)) (option_map rated_of (c.in-Some-Some.is-1 i)) in
    elim c.if-lt.branch [
      | then-lt w ↦ ap (λ r. Some (rated_of r)) w.result-is ∙ fitter-latter x y (sym (fewer y.breaks x.breaks) ∙ sym c.lt.ensures ∙ w.if-lt.true) ∙ sym both
      | else-lt w ↦ ap (λ r. Some (rated_of r)) w.result-is ∙ fitter-former x y (sym (fewer y.breaks x.breaks) ∙ sym c.lt.ensures ∙ w.if-lt.false) ∙ sym both
    ]
