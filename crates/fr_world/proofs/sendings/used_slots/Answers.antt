use Rattle.std.proofs.Common.{◌∙◌, ap, min}
use Rattle.std.proofs.lemmas.Result.{IfOk-weaker}
use Rattle.fr_world.proofs.ScheduleLaws.{used-to}
use Rattle.fr_world.proofs.sendings.used_slots.Goals as goal

pub returns : goal.returns
returns c =
    IfOk-weaker c.used_slots_to.result _ _
    (λ slots is. is ∙ used-to c.args.triggerings.now c.min-last.result c.last_slot.result c.args.params.now.static_slots (c.min-last.ensures ∙ ap (λ n. min n c.last_slot.result) c.static_slots.ensures.value) c.last_slot.ensures.none_past)
    c.used_slots_to.ensures
