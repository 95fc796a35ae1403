use Rattle.std.proofs.Common.{rules}
use Rattle.fr_office.proofs.ComparedLaws.{page-taken}
use Rattle.fr_office.proofs.LentPages.{finds-lent}
use Rattle.fr_world.proofs.ReadLaws.{reads_then}
use Rattle.fr_office.proofs.queries.differences.take_rows.Goals as goal

pub returns : goal.returns
returns g c = record {
  reads = search (rules, reads_then);
  told = λ now.
      let stands = g.R.Records.stands in
      page-taken (stands c.args.records.now) (stands c.find_page.new.records) c.args.supplier c.args.variant c.lent-page.result.now
      c.args.held.now.entries c.add_grants.new.held.entries c.in_ok-of_page.field-0
      (finds-lent _ _ _ _ _ _ c.lent-page.ensures (c.in_ok-find_page.ensures.finds.told now)) c.in_ok-of_page.ensures c.in_ok-add_grants.ensures;
}
