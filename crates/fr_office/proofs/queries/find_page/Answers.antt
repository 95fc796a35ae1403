use Rattle.std.proofs.Common.{rules, ◌∙◌, sym}
use Rattle.fr_office.proofs.LentPages.{finds-page, finds-none}
use Rattle.fr_world.proofs.ReadLaws.{reads_then}
use Rattle.fr_office.proofs.queries.find_page.Goals as goal

pub returns-then-branch-clause-finds : goal.returns-then-branch-clause-finds
returns-then-branch-clause-finds g c = record {
  reads = search (rules, reads_then);
  told = λ clean.
      finds-page (g.R.Records.stands c.args.records.now) (g.R.Records.stands c.lend.new.self) c.args.supplier c.args.variant
      (g.R.Lender.lent c.lend.new.self) (c.in_ok-lend.ensures.lends.told clean) (sym c.in_ok-lend.ensures.there ∙ c.if-branch.true);
}

pub returns-else-branch-clause-finds : goal.returns-else-branch-clause-finds
returns-else-branch-clause-finds g c = record {
  reads = search (rules, reads_then);
  told = λ clean.
      finds-none (g.R.Records.stands c.args.records.now) (g.R.Records.stands c.lend.new.self) c.args.supplier c.args.variant
      (g.R.Lender.lent c.lend.new.self) (c.in_ok-lend.ensures.lends.told clean) (sym c.in_ok-lend.ensures.there ∙ c.if-branch.false);
}
