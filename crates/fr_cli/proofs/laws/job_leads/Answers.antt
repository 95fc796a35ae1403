use Rattle.fr_cli.specs.Handlings.{handlings}
use Rattle.fr_cli.specs.Texts.{readings}
use Rattle.fr_cli.specs.Visits.{comings}
use Rattle.fr_cli.proofs.DeedLaws.{job_leads}
use Rattle.fr_cli.proofs.VisitLaws.{sink, source}
use Rattle.fr_cli.proofs.laws.job_leads.Goals as goal

pub returns : goal.returns
returns g c = λ held rest early late before after old new j s status did asks.
    let read = readings g.F.TextFiles g.F.Reader.Read before after in
    let files = handlings g.G.Registers early late in
    let came = comings g.L.Listener (source g.L.Reader.Read g.L.Reader.Source) (sink g.L.Writer.Write g.L.Writer.Sink) old new in
    job_leads g.K.Desk held rest read came s status files j did asks
