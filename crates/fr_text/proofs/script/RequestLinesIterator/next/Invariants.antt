-- Only empty lines were passed over.
use Rattle.std.proofs.Common.{◌≡◌, length}
use Rattle.std.specs.Str.Lines.{lines}
use Rattle.fr_text.specs.Script.{request_lines}
use Rattle.fr_text.proofs.script.RequestLinesIterator.next.Given as goal

abbrev pub invariant-loop-line : goal.invariant-loop-line
invariant-loop-line l = request_lines l.initial.self.rest.now ≡ request_lines l.self.rest.now

abbrev pub decreases-loop-line : goal.decreases-loop-line
decreases-loop-line l = length (lines l.self.rest.now)
