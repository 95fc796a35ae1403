-- No line before the rest is the separator.
use Rattle.std.proofs.Common.{◌≡◌, ◌++◌, List, ℕ, length}
use Rattle.std.specs.Str.Lines.{lines}
use Rattle.fr_text.specs.Script.{parts_of}
use Rattle.fr_text.proofs.LineLemmas.{with_front}
use Rattle.fr_text.proofs.script.split_script.Given as goal

abbrev pub invariant-loop-line : goal.invariant-loop-line
invariant-loop-line l = (front : List ℕ) × (l.bytes ≡ front ++ l.rest) × (parts_of l.bytes ≡ with_front front (parts_of l.rest))

abbrev pub decreases-loop-line : goal.decreases-loop-line
decreases-loop-line l = length (lines l.rest)
