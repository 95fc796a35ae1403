use Rattle.std.proofs.Common.{subst, sym}
use Rattle.fr_office.specs.KeptPages.{StandsWarm}
use Rattle.fr_office.proofs.office.Office.config.Goals as goal

pub returns : goal.returns
returns g c = λ k b stands.
    let inside = subst (λ w. StandsWarm g.R.Records.stands w k b) (sym c.self.view_is) stands in
    c.config.ensures.config k b inside
