-- Each end of a line that was passed is counted.
use Rattle.std.proofs.Common.{◌≡◌, ◌≤◌, ◌+◌, length}
use Rattle.fr_guide.specs.Rows.{line_ends}
use Rattle.fr_guide.proofs.rows.place.Place.line_behind.Given as goal

abbrev pub invariant-loop-self : goal.invariant-loop-self
invariant-loop-self l = record {
  order : l.initial.self.line ≤ l.self.line;
  all : l.self.line + line_ends l.self.rest.now ≡ l.initial.self.line + line_ends l.initial.self.rest.now;
}

abbrev pub decreases-loop-self : goal.decreases-loop-self
decreases-loop-self l = length l.self.rest.now
