use Rattle.std.proofs.Common.{rules}
use Rattle.std.specs.Prelude.{⊤}
use Rattle.fr_base.proofs.PurposeLemmas.{purpose_made}
use Rattle.fr_cli.proofs.words.delivery.Delivery.request.Goals as goal

pub returns : goal.returns
returns c =
    let made = purpose_made (λ label. label.now) (λ _. ⊤) c.args.self.how c.read.result c.read.ensures in
    search rules
