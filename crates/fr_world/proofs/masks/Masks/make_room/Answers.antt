use Rattle.std.proofs.Common.{rules}
use Rattle.fr_world.proofs.MaskLaws.{room-same}
use Rattle.fr_world.proofs.masks.Masks.make_room.Goals as goal

pub returns-in_ok-insert-clause-same : goal.returns-in_ok-insert-clause-same
returns-in_ok-insert-clause-same c = room-same c.args.self.now.slots.entries c.insert.new.self.entries c.args.slot (search rules) c.in_ok-insert.ensures.updates.0
