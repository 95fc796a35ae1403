use Rattle.std.proofs.Common.{rules}
use Rattle.fr_base.proofs.QueryLemmas.{query_made}
use Rattle.fr_cli.proofs.words.inquiry.Inquiry.request.Goals as goal

pub returns : goal.returns
returns c =
    let made = query_made (λ name. name.now) (λ number. number) c.args.self.query c.read.result c.read.ensures in
    search rules
