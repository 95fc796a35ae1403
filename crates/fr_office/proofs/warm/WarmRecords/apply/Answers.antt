use Rattle.std.proofs.Common.{◌≡◌, rules, subst, sym}
use Rattle.fr_base.specs.declared.params.Params.{Params}
use Rattle.fr_world.specs.Held.{IsFresh}
use Rattle.fr_office.specs.KeptPages.{AreOf}
use Rattle.fr_office.proofs.WarmLaws.{away_all, warm_applied, warm_lacked}
use Rattle.fr_office.proofs.warm.WarmRecords.apply.Goals as goal

pub invariant_of-self-2 : goal.invariant_of-self-2
invariant_of-self-2 g c =
    subst (λ (p : Params). AreOf p c.follow.new.self.pages) (sym c.apply.ensures.same)
    (c.follow.ensures.params _ (away_all (λ page. page.params ≡ g.R.Records.params c.self.inside.records) c.self.inside.kept.pages c.put_away.new.self c.put_away.result c.put_away.ensures.ok c.put_away.ensures.err c.self.invariant))

pub returns-in_err-apply-clause-applies : goal.returns-in_err-apply-clause-applies
returns-in_err-apply-clause-applies g c = λ clean.
    warm_lacked g.R.Records.stands _ c.args.self.now c.self.view_is (g.R.Records.stands c.apply.new.self) c.args.edits.now c.from_residual.result c.apply.result c.in_err-apply.field-0.0 (search rules) (search rules)
    (c.apply.ensures.applies clean)

pub returns-clause-applies : goal.returns-clause-applies
returns-clause-applies g c = λ clean.
    warm_applied g.R.Records.stands _ c.args.self.now c.self.view_is (g.R.Records.stands c.apply.new.self) c.args.edits.now c.follow.new.self.pages
    (λ cluster book fits fresh. c.follow.ensures.fresh cluster book fits (away_all (IsFresh cluster.params book) c.self.inside.kept.pages c.put_away.new.self c.put_away.result c.put_away.ensures.ok c.put_away.ensures.err fresh))
    c.follow.new.self.counts c.follow.ensures.counted c.apply.result (search rules) (c.apply.ensures.applies clean)
