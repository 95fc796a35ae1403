use Rattle.std.proofs.Common.{rules}
use Rattle.fr_base.proofs.PurposeLemmas.{label_read, label_unread}
use Rattle.fr_base.proofs.delivery.Purpose.read.Goals as goal

pub returns-in_err-label-in-Import : goal.returns-in_err-label-in-Import
returns-in_err-label-in-Import g c = let unread = label_unread (g.R.QueryReader.reads c.args.reader.now) in search rules

pub returns-in_ok-label-in-Import : goal.returns-in_ok-label-in-Import
returns-in_ok-label-in-Import g c = let read = label_read (g.R.QueryReader.reads c.args.reader.now) in search rules
