use Rattle.std.proofs.Common.{rules}
use Rattle.fr_office.proofs.DifferenceReplies.{differences-lacked, differences-replied, no_new-replied, no_old-replied}
use Rattle.fr_world.proofs.ReadLaws.{reads_then}
use Rattle.fr_office.proofs.queries.differences.differences.Goals as goal

pub returns-then-not-branch : goal.returns-then-not-branch
returns-then-not-branch g c = record {
  reads = search (rules, reads_then);
  told = λ now.
      let stands = g.R.Records.stands in
      no_new-replied (stands c.args.records.now) (stands c.is_there.new.records) c.args.actor.now c.args.variant c.args.from
      c.in_ok-is_there.field-0 (c.in_ok-is_there.ensures.told now) c.if-not-branch.true;
}

pub returns-then-not-branch-2 : goal.returns-then-not-branch-2
returns-then-not-branch-2 g c = record {
  reads = search (rules, reads_then);
  told = λ now.
      let stands = g.R.Records.stands in
      no_old-replied (stands c.args.records.now) (stands c.is_there.new.records) c.args.actor.now c.args.variant c.args.from (stands c.is_there-2.new.records)
      c.in_ok-is_there.field-0 c.in_ok-is_there-2.field-0 (c.in_ok-is_there.ensures.told (c.is_there-2.ensures.reads.falls now)) (c.in_ok-is_there-2.ensures.told now)
      c.if-not-branch-2.true;
}

pub returns-in_err-rows : goal.returns-in_err-rows
returns-in_err-rows g c = record {
  reads = search (rules, reads_then);
  told = λ now.
      let stands = g.R.Records.stands in
      let last = c.gather_seen.ensures.reads.falls now in
      let mid = c.is_there-2.ensures.reads.falls last in
      differences-lacked (stands c.args.records.now) (stands c.is_there.new.records) c.args.actor.now c.args.variant c.args.from (stands c.is_there-2.new.records) (stands c.gather_seen.new.records)
      c.in_ok-is_there.field-0 c.in_ok-is_there-2.field-0 (c.in_ok-is_there.ensures.told mid) (c.in_ok-is_there-2.ensures.told last)
      c.if-not-branch.false c.if-not-branch-2.false c.in_err-rows.field-0.0 c.from_residual-in_err-rows.result (search rules) (c.in_err-rows.ensures.told now);
}

pub returns : goal.returns
returns g c = record {
  reads = search (rules, reads_then);
  told = λ now.
      let stands = g.R.Records.stands in
      let last = c.gather_seen.ensures.reads.falls now in
      let mid = c.is_there-2.ensures.reads.falls last in
      differences-replied (stands c.args.records.now) (stands c.is_there.new.records) c.args.actor.now c.args.variant c.args.from (stands c.is_there-2.new.records) (stands c.gather_seen.new.records)
      c.in_ok-is_there.field-0 c.in_ok-is_there-2.field-0 (c.in_ok-is_there.ensures.told mid) (c.in_ok-is_there-2.ensures.told last)
      c.if-not-branch.false c.if-not-branch-2.false c.in_ok-rows.rows (c.in_ok-rows.ensures.told now);
}
