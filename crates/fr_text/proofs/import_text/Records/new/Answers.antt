use Rattle.fr_text.proofs.ImportTextLemmas.{begins}
use Rattle.fr_text.proofs.import_text.Records.new.Goals as goal

pub returns : goal.returns
returns c = begins c.from_reader.result c.args.body.now c.from_reader.ensures.state c.from_reader.ensures.source
