use Rattle.std.proofs.Common.{rules}
use Rattle.fr_picture.proofs.ReportLaws.{rows_reported}
use Rattle.fr_picture.proofs.reports.rows_of_query.Goals as goal

pub returns : goal.returns
returns g c = record {
  does = λ clean.
      rows_reported (g.D.Desk.stands c.args.desk.now) (g.D.Desk.stands c.ask.new.self) c.args.actor c.args.query
      c.ask.result c.into_rows.result (c.ask.ensures.answered clean) c.into_rows.ensures;
  falls = search rules;
}
