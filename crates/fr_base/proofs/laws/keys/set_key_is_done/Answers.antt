use Rattle.fr_base.proofs.SetKeyLaws.{set_key-done}
use Rattle.fr_base.proofs.laws.keys.set_key_is_done.Goals as goal

pub returns : goal.returns
returns c = set_key-done
