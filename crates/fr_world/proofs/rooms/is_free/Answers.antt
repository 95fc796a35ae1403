use Rattle.std.proofs.Common.{◌∙◌}
use Rattle.fr_world.proofs.RoomLaws.{free-shown}
use Rattle.fr_world.proofs.rooms.is_free.Goals as goal

pub returns : goal.returns
returns c = c.free.ensures ∙ free-shown _ _ c.args.placement.now c.cells.ensures
