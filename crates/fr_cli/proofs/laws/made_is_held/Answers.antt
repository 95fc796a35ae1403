use Rattle.fr_cli.specs.Handlings.{handlings}
use Rattle.fr_cli.specs.Texts.{readings}
use Rattle.fr_cli.specs.Visits.{comings}
use Rattle.fr_cli.proofs.DeedLaws.{made_is_held}
use Rattle.fr_cli.proofs.VisitLaws.{sink, source}
use Rattle.fr_cli.proofs.laws.made_is_held.Goals as goal

pub returns : goal.returns
returns g c = λ held next rest early late before after old new db config s did is opened.
    let read = readings g.F.TextFiles g.F.Reader.Read before after in
    let files = handlings g.G.Registers early late in
    let came = comings g.L.Listener (source g.L.Reader.Read g.L.Reader.Source) (sink g.L.Writer.Write g.L.Writer.Sink) old new in
    made_is_held g.K.Desk held next rest read files came db config s did is opened
