use Rattle.fr_office.proofs.office.OfficeDesk.config.Goals as goal

pub returns : goal.returns
returns g c = λ k b stands. c.config.ensures k b stands.0
