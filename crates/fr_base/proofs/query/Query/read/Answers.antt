use Rattle.std.proofs.Common.{rules}
use Rattle.fr_base.proofs.QueryLemmas.{query_read, variant_unread, report_unread, difference_read, newer_unread, older_unread}
use Rattle.fr_base.proofs.query.Query.read.Goals as goal

pub returns-in_err-variant-in-Variant : goal.returns-in_err-variant-in-Variant
returns-in_err-variant-in-Variant g c = let unread = variant_unread (g.R.QueryReader.reads c.args.reader.now) (g.R.QueryReader.counts c.args.reader.now) in search rules

pub returns-in_err-report-in-Variant : goal.returns-in_err-report-in-Variant
returns-in_err-report-in-Variant g c = let unread = report_unread (g.R.QueryReader.reads c.args.reader.now) (g.R.QueryReader.counts c.args.reader.now) in search rules

pub returns-in_ok-report-in-Variant : goal.returns-in_ok-report-in-Variant
returns-in_ok-report-in-Variant g c = let read = query_read (g.R.QueryReader.reads c.args.reader.now) (g.R.QueryReader.counts c.args.reader.now) in search rules

pub returns-in_err-variant-in-Difference : goal.returns-in_err-variant-in-Difference
returns-in_err-variant-in-Difference g c = let unread = newer_unread (g.R.QueryReader.reads c.args.reader.now) (g.R.QueryReader.counts c.args.reader.now) in search rules

pub returns-in_err-from-in-Difference : goal.returns-in_err-from-in-Difference
returns-in_err-from-in-Difference g c = let unread = older_unread (g.R.QueryReader.reads c.args.reader.now) (g.R.QueryReader.counts c.args.reader.now) in search rules

pub returns-in_ok-from-in-Difference : goal.returns-in_ok-from-in-Difference
returns-in_ok-from-in-Difference g c = let read = difference_read (g.R.QueryReader.reads c.args.reader.now) (g.R.QueryReader.counts c.args.reader.now) in search rules
