use Rattle.std.proofs.Common.{◌∙◌, ap, is_some, sym}
use Rattle.fr_guide.proofs.TopicLemmas.{is_found, is_some-copied}
use Rattle.fr_guide.proofs.topics.has.Goals as goal

pub returns : goal.returns
returns c = c.is_some.ensures ∙ is_some-copied c.find.result ∙ ap is_some c.find.ensures ∙ sym (is_found c.args.word.now c.args.topics.now)
