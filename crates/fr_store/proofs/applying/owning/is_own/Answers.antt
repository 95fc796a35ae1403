use Rattle.std.proofs.Common.{rules, ◌≡◌, ◌==◌, length, ◌∙◌, ap, not}
use Rattle.fr_tables.specs.Changes.{tables_of}
use Rattle.fr_store.proofs.CallLemmas.{seen}
use Rattle.fr_store.proofs.OwningLemmas.{own_told}
use Rattle.fr_store.proofs.applying.owning.is_own.Goals as goal

pub returns : goal.returns
returns g c = record {
  same_reference = c.one_inside.ensures.same_reference;
  does = λ clean was.
      let listed = c.in_ok-rows.ensures.does clean was in
      let none : c.is_empty.result ≡ (length c.in_ok-rows.rows.items == 0) = search rules in
      (ap not none ∙ own_told c.args.key.now.variant c.args.key.now.supplier c.args.key.now.frame (tables_of (seen g.S.Store c.args.tx.now)) c.in_ok-rows.rows.items listed.0, listed.1);
  refused = tt;
  survives = c.one_inside.ensures.survives;
}
