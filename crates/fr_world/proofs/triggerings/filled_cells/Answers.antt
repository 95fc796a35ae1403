use Rattle.std.proofs.Common.{◌<◌, ◌∙◌, ◌++◌, [], ◌∷◌, length, map, sym, ap, subst, take_all, arith}
use Rattle.std.proofs.lemmas.List.{get_or_default}
use Rattle.std.proofs.lemmas.Simd.{map-map}
use Rattle.fr_world.specs.Sendings.{nobody, sender_in}
use Rattle.fr_world.proofs.DecideFilling.{named}
use Rattle.fr_world.proofs.LoadLaws.{map-next}
use Rattle.fr_world.proofs.triggerings.filled_cells.Goals as goal

pub loop-one-preserved : goal.loop-one-preserved
loop-one-preserved c =
    let ss = c.args.senders.now in
    let ps = c.args.triggerings.now in
    let one = c.one-item.result in
    let within : one.sender < length ss = subst (λ p. p.sender < length ss) (sym c.one-item.is) (c.requires c.loop-one.one-index one c.loop-one-test.true) in
    map-next (λ p. named (sender_in ss p, p.placement)) ps c.loop-one.one-index one one [] c.loop-one.cells _ c.loop-one-test.true c.one-item.is c.loop-one.invariant
    (c.in_ok-add.ensures.ok ∙ ap (λ s. c.loop-one.cells ++ (s.frame, one.placement) ∷ []) (get_or_default ss one.sender c.index-senders-one.result nobody within))

pub returns : goal.returns
returns c =
    let ss = c.args.senders.now in
    c.loop-one.invariant
    ∙ ap (map (λ p. named (sender_in ss p, p.placement))) (take_all c.loop-one.one-index c.args.triggerings.now (omega (arith, c.loop-one-test.false)))
    ∙ sym (map-map named (λ p. (sender_in ss p, p.placement)) c.args.triggerings.now)
