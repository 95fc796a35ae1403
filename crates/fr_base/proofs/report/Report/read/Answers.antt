use Rattle.std.proofs.Common.{rules}
use Rattle.fr_base.proofs.QueryLemmas.{layout_read, layout_unread, room_read, room_unread, room_uncounted, export_read, export_unread}
use Rattle.fr_base.proofs.report.Report.read.Goals as goal

pub returns-in_err-frame-in-Layout : goal.returns-in_err-frame-in-Layout
returns-in_err-frame-in-Layout g c = let unread = layout_unread (g.R.QueryReader.reads c.args.reader.now) (g.R.QueryReader.counts c.args.reader.now) in search rules

pub returns-in_ok-frame-in-Layout : goal.returns-in_ok-frame-in-Layout
returns-in_ok-frame-in-Layout g c = let read = layout_read (g.R.QueryReader.reads c.args.reader.now) (g.R.QueryReader.counts c.args.reader.now) in search rules

pub returns-in_err-frame-in-Room : goal.returns-in_err-frame-in-Room
returns-in_err-frame-in-Room g c = let unread = room_unread (g.R.QueryReader.reads c.args.reader.now) (g.R.QueryReader.counts c.args.reader.now) in search rules

pub returns-in_err-repetition-in-Room : goal.returns-in_err-repetition-in-Room
returns-in_err-repetition-in-Room g c = let uncounted = room_uncounted (g.R.QueryReader.reads c.args.reader.now) (g.R.QueryReader.counts c.args.reader.now) in search rules

pub returns-in_ok-repetition-in-Room : goal.returns-in_ok-repetition-in-Room
returns-in_ok-repetition-in-Room g c = let read = room_read (g.R.QueryReader.reads c.args.reader.now) (g.R.QueryReader.counts c.args.reader.now) in search rules

pub returns-in_err-part-in-Export : goal.returns-in_err-part-in-Export
returns-in_err-part-in-Export g c = let unread = export_unread (g.R.QueryReader.reads c.args.reader.now) (g.R.QueryReader.counts c.args.reader.now) in search rules

pub returns-in_ok-part-in-Export : goal.returns-in_ok-part-in-Export
returns-in_ok-part-in-Export g c = let read = export_read (g.R.QueryReader.reads c.args.reader.now) (g.R.QueryReader.counts c.args.reader.now) in search rules
