use Rattle.fr_guide.proofs.EachWord.{refusals, rows}
use Rattle.fr_guide.proofs.laws.each_refusal_is_explained.Goals as goal

pub returns : goal.returns
returns c = (refusals, rows)
