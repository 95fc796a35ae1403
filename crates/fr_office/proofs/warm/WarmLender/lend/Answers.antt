use Rattle.std.proofs.Common.{◌≡◌, ◌∙◌, Ok, rules, subst, sym, true}
use Rattle.fr_world.specs.Held.{Tells, page_of}
use Rattle.fr_office.specs.KeptPages.{KeptData, StandsWarm}
use Rattle.fr_office.proofs.WarmLaws.{Beside, page_lacked, page_lent, page_read}
use Rattle.fr_office.proofs.warm.WarmLender.lend.Goals as goal

pub returns-then-lend-clause-lends : goal.returns-then-lend-clause-lends
returns-then-lend-clause-lends g c = record {
  reads = search rules;
  told = λ clean.
      page_lent g.R.Records.stands _ c.args.self.now c.self.view_is c.args.supplier c.args.variant c.lend.new.self c.lend.ensures.page c.lend.ensures.fresh (sym c.lend.ensures.told ∙ c.if-lend.true) true;
}

pub returns-in_err-page-clause-lends : goal.returns-in_err-page-clause-lends
returns-in_err-page-clause-lends g c = record {
  reads = search rules;
  told = λ clean.
      page_lacked g.R.Records.stands _ c.args.self.now c.self.view_is c.args.supplier c.args.variant c.lend.new.self c.lend.ensures.page c.lend.ensures.fresh
      (g.R.Records.stands c.page.new.self) c.page.result (c.page.ensures.page clean) c.from_residual.result c.in_err-page.field-0.0 (search rules) (search rules);
}

pub returns-clause-lends : goal.returns-clause-lends
returns-clause-lends g c = record {
  reads = search rules;
  told = λ clean.
      let new = g.R.Records.stands c.page.new.self in
      subst (λ (k : KeptData). Tells (StandsWarm g.R.Records.stands c.args.self.now) (Beside new k c.self.inside.kept.counts) (Ok c.is_some-there.result) (λ cl b _. k.lent ≡ page_of cl.params b c.args.supplier c.args.variant)) (sym c.lend_read.ensures)
      (page_read g.R.Records.stands _ c.args.self.now c.self.view_is c.args.supplier c.args.variant c.lend.new.self c.lend.ensures.page c.lend.ensures.fresh
      new c.page.result (c.page.ensures.page clean) c.in_ok-page.page (search rules) c.is_some-there.result);
}
