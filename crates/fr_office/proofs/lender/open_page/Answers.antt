use Rattle.std.proofs.Common.{rules, ◌∙◌, sym}
use Rattle.fr_office.proofs.RowsLaws.{opens-frozen, opens-none, opens-page}
use Rattle.fr_world.proofs.ReadLaws.{reads_then}
use Rattle.fr_office.proofs.lender.open_page.Goals as goal

pub returns-then-not-branch-clause-opens : goal.returns-then-not-branch-clause-opens
returns-then-not-branch-clause-opens g c = record {
  reads = search (rules, reads_then);
  told = λ clean.
      opens-none _ _ _ _ _ (c.in_ok-lend.ensures.lends.told clean) (sym c.in_ok-lend.ensures.there ∙ c.if-not-branch.true);
}

pub returns-then-released-clause-opens : goal.returns-then-released-clause-opens
returns-then-released-clause-opens g c = record {
  reads = search (rules, reads_then);
  told = λ clean.
      opens-frozen _ _ _ _ _ (c.in_ok-lend.ensures.lends.told clean) c.lent.result.now c.lent.ensures (sym c.released.ensures ∙ c.if-released.true);
}

pub returns-clause-opens : goal.returns-clause-opens
returns-clause-opens g c = record {
  reads = search (rules, reads_then);
  told = λ clean.
      opens-page _ _ _ _ _ (c.in_ok-lend.ensures.lends.told clean) c.lent.result.now c.lent.ensures (sym c.released.ensures ∙ c.if-released.false);
}
