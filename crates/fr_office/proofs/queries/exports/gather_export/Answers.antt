use Rattle.std.proofs.Common.{rules, ◌≡◌, Ok, subst, sym}
use Rattle.fr_base.specs.Exports.{exported}
use Rattle.fr_base.specs.declared.answer.ReportRows.TheVariants as shows
use Rattle.fr_office.specs.Shown.{Gathers}
use Rattle.fr_office.proofs.ExportLaws.{frames_among, gathers-frames, gathers-placements, gathers-signals}
use Rattle.fr_world.proofs.ReadLaws.{reads_then}
use Rattle.fr_office.proofs.queries.exports.gather_export.Goals as goal

pub returns-in_ok-rows-in-Frames : goal.returns-in_ok-rows-in-Frames
returns-in_ok-rows-in-Frames g c = record {
  reads = search (rules, reads_then);
  told = λ now.
      let records = g.R.Records in
      let old = records.stands c.args.records.now in
      let new = records.stands c.gather_part.new.records in
      let rows = c.in_ok-rows-in-Frames.rows in
      subst (λ header. Gathers c.args.variant (λ p x rows. rows ≡ exported header c.args.number (frames_among c.args.suppliers.now x)) old new (Ok (shows.FrameRecords rows))) (sym c.in-Frames.is)
      (gathers-frames old new c.args.variant c.args.suppliers.now c.args.number rows (c.in_ok-rows-in-Frames.ensures.told now));
}

pub returns-in_ok-rows-in-Placements : goal.returns-in_ok-rows-in-Placements
returns-in_ok-rows-in-Placements g c = record {
  reads = search (rules, reads_then);
  told = λ now.
      let records = g.R.Records in
      let old = records.stands c.args.records.now in
      let new = records.stands c.gather_part-in-Placements.new.records in
      let rows = c.in_ok-rows-in-Placements.rows in
      subst (λ header. Gathers c.args.variant (λ p x rows. rows ≡ exported header c.args.number (frames_among c.args.suppliers.now x)) old new (Ok (shows.PlacementRecords rows))) (sym c.in-Placements.is)
      (gathers-placements old new c.args.variant c.args.suppliers.now c.args.number rows (c.in_ok-rows-in-Placements.ensures.told now));
}

pub returns-in_ok-rows-in-Signals : goal.returns-in_ok-rows-in-Signals
returns-in_ok-rows-in-Signals g c = record {
  reads = search (rules, reads_then);
  told = λ now.
      let records = g.R.Records in
      let old = records.stands c.args.records.now in
      let new = records.stands c.gather_part-in-Signals.new.records in
      let rows = c.in_ok-rows-in-Signals.rows in
      subst (λ header. Gathers c.args.variant (λ p x rows. rows ≡ exported header c.args.number (frames_among c.args.suppliers.now x)) old new (Ok (shows.SignalRecords rows))) (sym c.in-Signals.is)
      (gathers-signals old new c.args.variant c.args.suppliers.now c.args.number rows (c.in_ok-rows-in-Signals.ensures.told now));
}
