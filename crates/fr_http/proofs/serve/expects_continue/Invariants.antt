-- No value so far asks for it.
use Rattle.std.proofs.Common.{◌≡◌, length}
use Rattle.std.specs.List.{list_any}
use Rattle.fr_http.specs.Outcome.{is_continue}
use Rattle.fr_http.proofs.serve.expects_continue.Given as goal

abbrev pub invariant-loop-value : goal.invariant-loop-value
invariant-loop-value l = list_any is_continue l.initial.values ≡ list_any is_continue l.values

abbrev pub decreases-loop-value : goal.decreases-loop-value
decreases-loop-value l = length l.values
