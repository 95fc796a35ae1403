use Rattle.fr_world.proofs.ImportRoom.{new-import-decides}
use Rattle.fr_world.proofs.laws.new_import_decides.Goals as goal

pub returns : goal.returns
returns c = new-import-decides
