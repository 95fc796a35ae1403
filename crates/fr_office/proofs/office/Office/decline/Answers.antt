use Rattle.std.proofs.Common.{inl, [], ◌∷◌, subst, sym}
use Rattle.fr_base.specs.Step.{step}
use Rattle.fr_base.specs.declared.answer.Answer.{Answer}
use Rattle.fr_office.specs.Answers.{Answers, WhereChanged}
use Rattle.fr_office.specs.KeptPages.{StandsWarm}
use Rattle.fr_office.proofs.CrashedLaws.{still_kept}
use Rattle.fr_office.proofs.office.Office.decline.Goals as goal

pub returns-clause-answers : goal.returns-clause-answers
returns-clause-answers g c =
    subst (λ w. Answers (StandsWarm g.R.Records.stands w) (StandsWarm g.R.Records.stands w) c.args.ask.now c.decline.result) c.self.view_is c.decline.ensures.answers

-- nothing was written
pub returns-clause-kept : goal.returns-clause-kept
returns-clause-kept g c =
    let ask = c.args.ask.now in
    let stands = StandsWarm g.R.Records.stands c.args.self.now in
    let leaves = g.R.Records.leaves c.args.self.now.records in
    still_kept stands stands leaves leaves ask c.decline.result (returns-clause-answers g c) (λ k b books stood sound left. inl left) (λ k b stood sound.
    let after = (step k b ask.actor ask.request).book in
    subst (λ (said : Answer). WhereChanged b after said (leaves k (after ∷ []))) (sym c.decline.ensures.refused.1) tt)
