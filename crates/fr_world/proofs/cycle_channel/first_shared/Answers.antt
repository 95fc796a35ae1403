use Rattle.std.proofs.Common.{◌≡◌, ◌∙◌, sym, rules, None}
use Rattle.fr_world.proofs.SharedLaws.{no_slot, no_channel, no_cycle, both_common, differ, same}
use Rattle.fr_world.proofs.cycle_channel.first_shared.Goals as goal

pub returns-then-ne : goal.returns-then-ne
returns-then-ne c = no_slot c.args.placement.now c.args.other.now (differ _ (sym c.ne.ensures ∙ c.if-ne.true))

pub returns-in_err-channel : goal.returns-in_err-channel
returns-in_err-channel c =
    let none : c.from_residual.result ≡ None = search rules in
    none ∙ no_channel c.args.placement.now c.args.other.now (sym c.first_shared_channel.ensures ∙ c.in_err-channel.was)

pub returns-in_err-cycle : goal.returns-in_err-cycle
returns-in_err-cycle c =
    let none : c.from_residual-in_err-cycle.result ≡ None = search rules in
    none ∙ no_cycle c.args.placement.now c.args.other.now (sym c.first_common.ensures ∙ c.in_err-cycle.was)

pub returns : goal.returns
returns c = both_common c.args.placement.now c.args.other.now c.in_ok-channel.channel c.in_ok-cycle.cycle (same _ (sym c.ne.ensures ∙ c.if-ne.false)) (sym c.first_shared_channel.ensures ∙ c.in_ok-channel.was) (sym c.first_common.ensures ∙ c.in_ok-cycle.was)
