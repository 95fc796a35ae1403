use Rattle.std.proofs.Common.{subst, sym}
use Rattle.fr_office.specs.KeptPages.{StandsWarm}
use Rattle.fr_office.proofs.CrashedLaws.{keeps_change, still_kept}
use Rattle.fr_office.proofs.office.Office.ask.Goals as goal

pub returns-clause-answers : goal.returns-clause-answers
returns-clause-answers g c = λ clean k b stands sound.
    let inside = subst (λ w. StandsWarm g.R.Records.stands w k b) (sym c.self.view_is) stands in
    c.answer.ensures.answers clean k b inside sound

pub returns-clause-leaves : goal.returns-clause-leaves
returns-clause-leaves g c = λ clean k b books stands sound left.
    let inside = subst (λ w. StandsWarm g.R.Records.stands w k b) (sym c.self.view_is) stands in
    c.answer.ensures.leaves clean k b books inside sound (subst (λ w. g.R.Records.leaves w.records k books) (sym c.self.view_is) left)

pub returns-clause-durable : goal.returns-clause-durable
returns-clause-durable g c = λ clean k b stands sound.
    let inside = subst (λ w. StandsWarm g.R.Records.stands w k b) (sym c.self.view_is) stands in
    let records = c.answer.new.records.records in
    keeps_change _ _ (g.R.Records.leaves records) (g.R.Records.serves records) c.args.ask.now c.answer.result (λ cl book serves stood. g.R.Records.settled records cl book clean serves stood.0)
    (c.answer.ensures.answers clean) (c.answer.ensures.serves clean) k b inside sound

pub returns-clause-kept : goal.returns-clause-kept
returns-clause-kept g c = λ clean.
    still_kept _ _ _ _ c.args.ask.now c.answer.result (returns-clause-answers g c clean) (returns-clause-leaves g c clean) (returns-clause-durable g c clean)
