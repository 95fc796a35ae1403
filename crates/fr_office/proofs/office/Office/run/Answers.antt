use Rattle.std.proofs.Common.{[], ◌∷◌, subst, sym}
use Rattle.fr_office.specs.KeptPages.{StandsWarm}
use Rattle.fr_office.proofs.office.Office.run.Goals as goal

pub returns-clause-headline : goal.returns-clause-headline
returns-clause-headline g c = λ clean k b stands sound.
    let inside = subst (λ w. StandsWarm g.R.Records.stands w k b) (sym c.self.view_is) stands in
    c.run.ensures.headline clean k b inside sound

pub returns-clause-kept : goal.returns-clause-kept
returns-clause-kept g c = λ clean k b stands sound left.
    let inside = subst (λ w. StandsWarm g.R.Records.stands w k b) (sym c.self.view_is) stands in
    c.run.ensures.kept clean k b inside sound (subst (λ w. g.R.Records.leaves w.records k (b ∷ [])) (sym c.self.view_is) left)
