use Rattle.std.proofs.Common.{◌∙◌, filter, map, take_all, ap, arith}
use Rattle.fr_base.specs.Lacks.{is_short, short_wishes}
use Rattle.fr_world.proofs.proposal.lack.short_wishes.Goals as goal

pub returns : goal.returns
unfolding short_wishes
returns c =
    c.loop-one.invariant ∙ ap (λ gs. map (λ g. g.asked) (filter (is_short c.args.node c.args.channels) gs)) (take_all c.loop-one.one-index c.args.given.now (omega (arith, c.loop-one-test.false)))
