use Rattle.fr_text.proofs.SentLaws.{sent_whole_changes_nothing}
use Rattle.fr_text.proofs.laws.sent_whole_changes_nothing.Goals as goal

pub returns : goal.returns
returns c = sent_whole_changes_nothing
