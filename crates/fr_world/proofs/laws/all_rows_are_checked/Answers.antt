use Rattle.fr_world.proofs.TrialsDecide.{all_rows-checked}
use Rattle.fr_world.proofs.laws.all_rows_are_checked.Goals as goal

pub returns : goal.returns
returns c = all_rows-checked
