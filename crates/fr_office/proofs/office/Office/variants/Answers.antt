use Rattle.std.proofs.Common.{subst, sym}
use Rattle.fr_office.specs.Crashed.{IsKept}
use Rattle.fr_office.specs.KeptPages.{StandsWarm}
use Rattle.fr_office.proofs.CrashedLaws.{kept_still}
use Rattle.fr_office.proofs.office.Office.variants.Goals as goal

pub returns-clause-lists : goal.returns-clause-lists
returns-clause-lists g c = λ clean k b stands.
    let inside = subst (λ w. StandsWarm g.R.Records.stands w k b) (sym c.self.view_is) stands in
    c.list_variants.ensures.told clean k b inside

pub returns-clause-kept : goal.returns-clause-kept
returns-clause-kept g c = λ clean k b stood.
    let told = returns-clause-lists g c clean k b stood.0 in
    let before = g.R.Records.leaves c.args.self.now.records k in
    let after = g.R.Records.leaves c.list_variants.new.records.records k in
    let kept : IsKept after k b = kept_still k b before after (λ books left.
    c.list_variants.ensures.reads.leaves clean k books (subst (λ w. g.R.Records.leaves w.records k books) (sym c.self.view_is) left)) stood.1 in
    ((told.0, kept), told.1)
