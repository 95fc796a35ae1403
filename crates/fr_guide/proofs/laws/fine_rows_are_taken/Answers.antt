use Rattle.fr_guide.proofs.TakenRows.{rows_are_taken}
use Rattle.fr_guide.proofs.laws.fine_rows_are_taken.Goals as goal

pub returns : goal.returns
returns c = rows_are_taken
