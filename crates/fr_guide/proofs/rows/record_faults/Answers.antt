use Rattle.std.proofs.Common.{◌∙◌, ◌≡◌, ◌≤◌, rules, arith, subst, sym}
use Rattle.fr_guide.proofs.LineLemmas.{in_order-wider, one_in_order, room_in}
use Rattle.fr_guide.proofs.RowLemmas.{lines_are}
use Rattle.fr_guide.proofs.rows.record_faults.Goals as goal
use Rattle.fr_guide.specs.Rows.{AreInOrder}

pub returns-then-not-branch-clause-lines : goal.returns-then-not-branch-clause-lines
returns-then-not-branch-clause-lines c = lines_are _ 1 _ c.one_line.ensures.lines (omega arith) (omega arith)

pub line_behind-line-requires : goal.line_behind-line-requires
line_behind-line-requires c = record { room = room_in c.args.body.now _ c.new-place.ensures.all (search rules) }

pub tell_rows-requires : goal.tell_rows-requires
tell_rows-requires c = record { room = room_in c.args.body.now _ (c.line_behind-line.ensures.all ∙ c.new-place.ensures.all) (search rules) }

pub returns-in-Some-clause-lines : goal.returns-in-Some-clause-lines
returns-in-Some-clause-lines c =
    let at : c.line_behind-line.result ≡ c.line_behind-line.new.self.line = c.line_behind-line.ensures.line in
    let least : 1 ≤ c.line_behind-line.result = omega (arith, at, c.line_behind-line.ensures.order, c.new-place.ensures.line) in
    let header = subst (AreInOrder 1 c.line_behind-line.new.self.line) (sym c.in_ok-told-in-Some.ensures.lines) (one_in_order 1 _ _ least (omega (arith, at))) in
    in_order-wider 1 _ _ _ (c.in_ok-tell_rows-in-Some.ensures.lines header)
    (omega (arith, c.in_ok-tell_rows-in-Some.ensures.all, c.line_behind-line.ensures.all, c.new-place.ensures.all))

pub returns-clause-lines : goal.returns-clause-lines
returns-clause-lines c =
    let at : c.line_behind-line.result ≡ c.line_behind-line.new.self.line = c.line_behind-line.ensures.line in
    lines_are _ _ _ c.one_line-in-None.ensures.lines (omega (arith, at, c.line_behind-line.ensures.order, c.new-place.ensures.line))
    (omega (arith, at, c.line_behind-line.ensures.all, c.new-place.ensures.all))
