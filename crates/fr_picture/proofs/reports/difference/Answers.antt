use Rattle.std.proofs.Common.{rules}
use Rattle.fr_picture.proofs.ReportLaws.{difference_same}
use Rattle.fr_picture.proofs.reports.difference.Goals as goal

pub returns : goal.returns
returns g c = record {
  does = λ clean.
      difference_same (g.D.Desk.stands c.args.desk.now) (g.D.Desk.stands c.rows_of_query.new.desk) c.args.actor c.args.variant.now c.in_ok-variant.variant
      c.args.from.now c.in_ok-from.from c.rows_of_query.result c.in_ok-variant.ensures c.in_ok-from.ensures (c.rows_of_query.ensures.does clean);
  falls = search rules;
}
