use Rattle.std.proofs.Common.{rules, ◌≡◌, map}
use Rattle.fr_base.specs.Exports.{part_of}
use Rattle.fr_office.specs.Gathered.{IsPartOf}
use Rattle.fr_office.proofs.ExportLaws.{frames_among, part-ends}
use Rattle.fr_office.proofs.GatherLaws.{gathers-then}
use Rattle.fr_world.proofs.ReadLaws.{reads_then}
use Rattle.fr_office.proofs.queries.exports.gather_part.Goals as goal

pub returns : goal.returns
returns g c = record {
  reads = search (rules, reads_then);
  told = λ now.
      let stands = g.R.Records.stands in
      let records = g.T.FileRecord.records in
      let ss = c.args.suppliers.now in
      gathers-then (stands c.args.records.now) (stands c.gather.new.records) c.args.variant
      (λ p x all. IsPartOf records p (record { part = c.new.result; rows = c.new-2.result }) ss x all) (λ p x rows. rows ≡ part_of c.args.number (map records (frames_among ss x))) c.in_ok-gathered.gathered c.in_ok-gathered.gathered.rows
      (c.in_ok-gathered.ensures.told now) (λ p x is. part-ends records c.args.number p ss x (record { part = c.new.result; rows = c.new-2.result }) c.in_ok-gathered.gathered c.new.ensures c.new-2.ensures is);
}
