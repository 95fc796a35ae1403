use Rattle.std.proofs.Common.{rules, subst, sym}
use Rattle.fr_base.specs.declared.params.Params.{Params}
use Rattle.fr_office.specs.KeptPages.{AreOf}
use Rattle.fr_office.proofs.WarmLaws.{warm_applied, warm_lacked}
use Rattle.fr_office.proofs.warm.WarmLender.change_to.Goals as goal

pub invariant_of-self-2 : goal.invariant_of-self-2
invariant_of-self-2 g c =
    subst (λ (p : Params). AreOf p c.follow_to.new.self.pages) (sym c.apply.ensures.same) (c.follow_to.ensures.params _ c.self.invariant)

pub returns-in_err-apply-clause-carries : goal.returns-in_err-apply-clause-carries
returns-in_err-apply-clause-carries g c = record {
  falls = search rules;
  same = search rules;
  serves = search rules;
  leaves = search rules;
  applies = λ clean.
      warm_lacked g.R.Records.stands _ c.args.self.now c.self.view_is (g.R.Records.stands c.apply.new.self) c.args.edits.now c.from_residual.result c.apply.result c.in_err-apply.field-0.0 (search rules) (search rules)
      (c.apply.ensures.applies clean);
}

pub returns-clause-carries : goal.returns-clause-carries
returns-clause-carries g c = record {
  falls = search rules;
  same = search rules;
  serves = search rules;
  leaves = search rules;
  applies = λ clean.
      warm_applied g.R.Records.stands _ c.args.self.now c.self.view_is (g.R.Records.stands c.apply.new.self) c.args.edits.now c.follow_to.new.self.pages c.follow_to.ensures.fresh c.follow_to.new.self.counts c.follow_to.ensures.counted c.apply.result (search rules) (c.apply.ensures.applies clean);
}
