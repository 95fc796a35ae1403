use Rattle.std.proofs.Common.{rules}
use Rattle.fr_world.proofs.BuildFrames.{held_none, held_some}
use Rattle.fr_world.proofs.grants.holds.Goals as goal

pub returns-in-Some : goal.returns-in-Some
returns-in-Some c s =
    held_some s c.args.node c.in-Some.holder.now c.args.grants.now.entries c.args.slot c.args.channel c.eq.result c.eq.ensures (search rules)

pub returns-in-None : goal.returns-in-None
returns-in-None c s = held_none s c.args.node c.args.grants.now.entries c.args.slot c.args.channel (search rules)
