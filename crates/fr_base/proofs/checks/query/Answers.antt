use Rattle.std.proofs.Common.{rules}
use Rattle.fr_base.specs.Refusing.{◌>>=◌, ◌>>◌}
use Rattle.fr_base.specs.Checks.{check}
use Rattle.fr_base.proofs.ChecksLemmas.{query_read}
use Rattle.fr_base.proofs.checks.query.Goals as goal

pub returns-in_err-query : goal.returns-in_err-query
unfolding check ◌>>=◌ ◌>>◌
returns-in_err-query c = let read = query_read c.args.asked.now c.read.result c.read.ensures in search rules

pub returns : goal.returns
unfolding check ◌>>=◌ ◌>>◌
returns c = let read = query_read c.args.asked.now c.read.result c.read.ensures in search rules

pub returns-in_err-may_ask : goal.returns-in_err-may_ask
unfolding check ◌>>=◌ ◌>>◌
returns-in_err-may_ask c = search rules

pub returns-in_err-repeats : goal.returns-in_err-repeats
unfolding check ◌>>=◌ ◌>>◌
returns-in_err-repeats c = let read = query_read c.args.asked.now c.read.result c.read.ensures in search rules
