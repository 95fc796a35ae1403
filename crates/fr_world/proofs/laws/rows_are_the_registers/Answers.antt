use Rattle.fr_world.proofs.PageLaws.{rows-registers}
use Rattle.fr_world.proofs.laws.rows_are_the_registers.Goals as goal

pub returns : goal.returns
returns c = rows-registers
