use Rattle.fr_base.proofs.SetKeyLaws.{set_key-changes}
use Rattle.fr_base.proofs.laws.keys.set_key_changes_one_key.Goals as goal

pub returns : goal.returns
returns c = set_key-changes
