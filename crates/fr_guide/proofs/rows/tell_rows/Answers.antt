use Rattle.std.proofs.Common.{rules, ◌∙◌}
use Rattle.fr_guide.proofs.LineLemmas.{next_line}
use Rattle.fr_guide.proofs.RowLemmas.{a_row, last_row, next_row, no_more, no_row, too_many}
use Rattle.fr_guide.proofs.rows.tell_rows.Goals as goal

pub returns-then-room-eq0-clause-rows : goal.returns-then-room-eq0-clause-rows
returns-then-room-eq0-clause-rows c =
    last_row _ _ _ _ _ c.in_ok-push.ensures.items c.loop-place.invariant.rows (too_many _ _ _ _ _ _ _ c.in_ok-read.ensures (search rules) (search rules) c.in_ok-faults.ensures)

pub returns-then-room-eq0-clause-lines : goal.returns-then-room-eq0-clause-lines
returns-then-room-eq0-clause-lines c order =
    next_line _ _ _ 1 _ _ c.in_ok-push.ensures.items c.line_behind-line.ensures.line c.line_behind-line.ensures.order (c.loop-place.invariant.lines order)

pub loop-place-preserved : goal.loop-place-preserved
loop-place-preserved c = record {
  rows = next_row _ _ _ _ _ _ c.in_ok-push-2.ensures.items c.loop-place.invariant.rows (a_row _ _ _ _ _ _ _ c.in_ok-read.ensures (search rules) (search rules) c.in_ok-faults-2.ensures);
  lines = λ order. next_line _ _ _ 1 _ _ c.in_ok-push-2.ensures.items c.line_behind-line.ensures.line c.line_behind-line.ensures.order (c.loop-place.invariant.lines order);
  all = c.line_behind-line.ensures.all ∙ c.loop-place.invariant.all;
}

pub returns-clause-rows : goal.returns-clause-rows
returns-clause-rows c = no_more _ _ _ c.loop-place.invariant.rows (no_row _ _ _ _ _ _ c.in_ok-read.ensures (search rules))
