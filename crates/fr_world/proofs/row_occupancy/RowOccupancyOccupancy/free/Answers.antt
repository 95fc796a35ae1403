use Rattle.std.proofs.Common.{◌∙◌, ap, sym}
use Rattle.std.specs.Prelude.{is_none}
use Rattle.fr_world.proofs.RowLaws.{pairs, free-none}
use Rattle.fr_world.proofs.row_occupancy.RowOccupancyOccupancy.free.Goals as goal

pub returns-in-Some : goal.returns-in-Some
returns-in-Some c = ap is_none (sym c.in-Some.is ∙ c.first_taken.ensures) ∙ free-none (pairs c.args.self.now.rows.items) c.args.placement.now

pub returns-in-None : goal.returns-in-None
returns-in-None c = ap is_none (sym c.in-None.is ∙ c.first_taken.ensures) ∙ free-none (pairs c.args.self.now.rows.items) c.args.placement.now
