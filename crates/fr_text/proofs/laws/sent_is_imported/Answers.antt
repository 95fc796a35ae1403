use Rattle.fr_text.proofs.SentLaws.{sent_is_imported}
use Rattle.fr_text.proofs.laws.sent_is_imported.Goals as goal

pub returns : goal.returns
returns c = sent_is_imported
