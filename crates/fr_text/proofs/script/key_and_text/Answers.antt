use Rattle.fr_text.specs.Script.{key_and_text}
use Rattle.fr_text.proofs.script.key_and_text.Goals as goal

pub returns : goal.returns
unfolding key_and_text
returns c = c.split_once.ensures
