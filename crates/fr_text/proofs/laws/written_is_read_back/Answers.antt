use Rattle.fr_text.proofs.ReadBackLaws.{written_is_read_back}
use Rattle.fr_text.proofs.laws.written_is_read_back.Goals as goal

pub returns : goal.returns
returns c = written_is_read_back
