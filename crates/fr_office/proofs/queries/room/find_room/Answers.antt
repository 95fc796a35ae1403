use Rattle.std.proofs.Common.{rules, subst, sym, Ok, Err}
use Rattle.fr_base.specs.declared.actor.Actor.{Actor}
use Rattle.fr_base.specs.declared.answer.ReportRows.TheVariants as shows
use Rattle.fr_base.specs.declared.refusal.Refusal.TheVariants.{NotYours}
use Rattle.fr_base.specs.declared.report.Report.TheVariants.{Room}
use Rattle.fr_office.specs.Shown.{Shows}
use Rattle.fr_office.proofs.LentPages.{finds-lent}
use Rattle.fr_office.proofs.ShownReplies.{no-room, shows-no_room, shows-room}
use Rattle.fr_world.proofs.ReadLaws.{reads_none, reads_then}
use Rattle.fr_office.proofs.queries.room.find_room.Goals as goal

pub returns-in-Integrator : goal.returns-in-Integrator
returns-in-Integrator g c = record {
  reads = search (rules, reads_none);
  told = λ now.
      let old = g.R.Records.stands c.args.records.now in
      subst (λ (a : Actor). Shows a c.args.variant (Room c.args.frame c.args.repetition) old old (Err NotYours)) (sym c.in-Integrator.is)
      (no-room old c.args.variant c.args.frame c.args.repetition);
}

pub returns-in_err-places-in-Supplier : goal.returns-in_err-places-in-Supplier
returns-in_err-places-in-Supplier g c = record {
  reads = search (rules, reads_then);
  told = λ now.
      let old = g.R.Records.stands c.args.records.now in
      let new = g.R.Records.stands c.find_page.new.records in
      let r = c.from_residual-in_err-places-in-Supplier.result in
      subst (λ (a : Actor). Shows a c.args.variant (Room c.args.frame c.args.repetition) old new r) (sym c.in-Supplier.is)
      (shows-no_room old new c.in-Supplier.supplier c.args.variant c.args.frame c.args.repetition c.lent.result.now (finds-lent _ _ _ _ _ _ c.lent.ensures (c.in_ok-find_page-in-Supplier.ensures.finds.told now))
      r c.in_err-places-in-Supplier.field-0.0 (search rules) c.in_err-places-in-Supplier.ensures.refusal);
}

pub returns-in_ok-places-in-Supplier : goal.returns-in_ok-places-in-Supplier
returns-in_ok-places-in-Supplier g c = record {
  reads = search (rules, reads_then);
  told = λ now.
      let old = g.R.Records.stands c.args.records.now in
      let new = g.R.Records.stands c.find_page.new.records in
      let places = c.in_ok-places-in-Supplier.places in
      subst (λ (a : Actor). Shows a c.args.variant (Room c.args.frame c.args.repetition) old new (Ok (shows.Room places))) (sym c.in-Supplier.is)
      (shows-room old new c.in-Supplier.supplier c.args.variant c.args.frame c.args.repetition c.lent.result.now (finds-lent _ _ _ _ _ _ c.lent.ensures (c.in_ok-find_page-in-Supplier.ensures.finds.told now))
      places c.in_ok-places-in-Supplier.ensures.places);
}
