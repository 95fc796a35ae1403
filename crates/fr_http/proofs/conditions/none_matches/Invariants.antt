-- No value so far lists the tag.
use Rattle.std.proofs.Common.{◌≡◌, length}
use Rattle.fr_http.specs.Conditions.{lists, without_weakness}
use Rattle.fr_http.proofs.conditions.none_matches.Given as goal

abbrev pub invariant-loop-value : goal.invariant-loop-value
invariant-loop-value l = lists without_weakness l.tag l.initial.values ≡ lists without_weakness l.tag l.values

abbrev pub decreases-loop-value : goal.decreases-loop-value
decreases-loop-value l = length l.values
