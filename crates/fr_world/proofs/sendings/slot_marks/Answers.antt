use Rattle.std.proofs.Common.{◌<◌, ◌∙◌, false, length, true, rules}
use Rattle.std.proofs.lemmas.List.{get_or-replicate, length-replicate, length-set}
use Rattle.fr_world.proofs.UsedLaws.{marked-next}
use Rattle.fr_world.proofs.sendings.slot_marks.Goals as goal

pub loop-one-init : goal.loop-one-init
loop-one-init c = (length-replicate 1024 false, λ slot l. get_or-replicate 1024 slot false false l)

pub loop-one-preserved : goal.loop-one-preserved
loop-one-preserved c =
    let number = c.get.result in
    let marks = c.loop-one.marks in
    let low : number < length marks = search (rules, c.get.ensures.is_slot, c.loop-one.invariant.0) in
    (length-set marks number true ∙ c.loop-one.invariant.0, λ slot l. marked-next c.args.triggerings.now c.loop-one.one-index slot number c.one-item.result marks c.loop-one-test.true c.one-item.is c.get.ensures.value low (c.loop-one.invariant.1 slot l))
