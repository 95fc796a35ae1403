use Rattle.std.proofs.Common.{◌∙◌, ◌+◌, ap, None}
use Rattle.fr_picture.proofs.LaneLemmas.{drawn_grants-more, drawn_cells-more, apart-more, filled-more, home-more, at-more}
use Rattle.fr_picture.proofs.drawing.lane.push_column.Goals as goal

pub returns-clause-grants : goal.returns-clause-grants
returns-clause-grants c =
    drawn_grants-more _ _ _ c.in_ok-push-2.ensures.items c.new-2.ensures.grants ∙ drawn_grants-more _ _ _ c.in_ok-push.ensures.items c.new.ensures.grants

pub returns-clause-cells : goal.returns-clause-cells
returns-clause-cells c =
    drawn_cells-more _ _ _ c.in_ok-push-2.ensures.items c.new-2.ensures.rectangles ∙ drawn_cells-more _ _ _ c.in_ok-push.ensures.items c.new.ensures.rectangles

pub returns-clause-apart : goal.returns-clause-apart
returns-clause-apart c =
    λ h. apart-more _ _ _ c.in_ok-push-2.ensures.items c.new-2.ensures.rectangles (apart-more _ _ _ c.in_ok-push.ensures.items c.new.ensures.rectangles h)

pub returns-clause-filled : goal.returns-clause-filled
returns-clause-filled c =
    λ h. filled-more _ _ _ c.in_ok-push-2.ensures.items c.new-2.ensures.rectangles (filled-more _ _ _ c.in_ok-push.ensures.items c.new.ensures.rectangles h)

pub returns-clause-home : goal.returns-clause-home
returns-clause-home c =
    λ h. home-more _ _ _ c.in_ok-push-2.ensures.items c.new-2.ensures.grants c.new-2.ensures.rectangles (home-more _ _ _ c.in_ok-push.ensures.items c.new.ensures.grants c.new.ensures.rectangles h)

pub returns-clause-at : goal.returns-clause-at
returns-clause-at c =
    λ columns h. at-more _ _ columns _ _ _ _ _ _ c.in_ok-push.ensures.items c.in_ok-push-2.ensures.items
    (c.new.ensures.place ∙ ap (λ s. record c.args.column.now { shows = s }) c.shown_on.ensures)
    (c.new-2.ensures.place ∙ ap (λ s. record c.args.column.now { opens = None; x = c.args.column.now.x + c.args.shift; shows = s }) c.shown_on-2.ensures) h
