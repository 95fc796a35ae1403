use Rattle.std.proofs.Common.{◌≡◌, ◌∙◌, sym, ap, Some}
use Rattle.fr_world.specs.CycleChannels.{earlier}
use Rattle.fr_world.proofs.TakenLaws.{below, earlier-former, earlier-latter}
use Rattle.fr_world.proofs.row_occupancy.first_of.Goals as goal
use Rattle.fr_world.proofs.row_occupancy.first_of.Goals.{then-lt, else-lt}

pub returns-after-lt : goal.returns-after-lt
returns-after-lt c =
    let x = c.in-Some-Some.x in
    let y = c.in-Some-Some.y in
    let both : earlier c.args.former c.args.latter ≡ earlier (Some x) (Some y) = λ i. earlier (c.in-Some-Some.is-0 i) (c.in-Some-Some.is-1 i) in
    elim c.if-lt.branch [
      | then-lt w ↦ ap Some w.result-is ∙ earlier-latter x y (sym (below y.at x.at) ∙ sym c.lt.ensures ∙ w.if-lt.true) ∙ sym both
      | else-lt w ↦ ap Some w.result-is ∙ earlier-former x y (sym (below y.at x.at) ∙ sym c.lt.ensures ∙ w.if-lt.false) ∙ sym both
    ]
