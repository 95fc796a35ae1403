use Rattle.fr_guide.proofs.FineFiles.{files_are_taken}
use Rattle.fr_guide.proofs.laws.fine_files_are_taken.Goals as goal

pub returns : goal.returns
returns c = files_are_taken
