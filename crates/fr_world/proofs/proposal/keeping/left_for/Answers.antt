use Rattle.std.proofs.Common.{◌≡◌, ◌∙◌, [], ◌∷◌, true, false, Some, find, sym, ap, rules, tests}
use Rattle.fr_world.specs.Pages.{frame_data}
use Rattle.fr_world.proofs.DecideRows.{placements-kept}
use Rattle.fr_world.proofs.KeepingLaws.{is_left, kept-any, left-first, left-kept, left-other}
use Rattle.fr_world.proofs.proposal.keeping.left_for.Goals as goal
use Rattle.fr_world.proofs.proposal.keeping.left_for.Goals.{else-is_as_wished-via-then-is_as_wished+else-not-is_kept, else-is_as_wished-via-else-is_as_wished}

pub loop-place-preserved : goal.loop-place-preserved
loop-place-preserved c =
    let given = c.args.kept.now in
    let wish = c.args.wish.now in
    let place = c.in-Some.place.now in
    let items : c.loop-place.place-iterator ≡ place ∷ c.next.new.self = search rules in
    let before = ap (find (is_left given wish)) (sym items) ∙ c.loop-place.invariant in
    elim c.else-is_as_wished.branch [
      | else-is_as_wished-via-then-is_as_wished+else-not-is_kept w ↦
          let kept : w.is_kept.result ≡ true = search (rules, tests) in
          sym (left-kept given wish place c.next.new.self (sym (kept-any given wish.frame place) ∙ sym w.is_kept.ensures ∙ kept)) ∙ before
      | else-is_as_wished-via-else-is_as_wished w ↦
          sym (left-other given wish place c.next.new.self (sym c.is_as_wished.ensures ∙ w.if-is_as_wished.false)) ∙ before
    ]

pub returns-then-not-is_kept : goal.returns-then-not-is_kept
returns-then-not-is_kept c =
    let given = c.args.kept.now in
    let wish = c.args.wish.now in
    let place = c.in-Some.place.now in
    let items : c.loop-place.place-iterator ≡ place ∷ c.next.new.self = search rules in
    let free : c.is_kept.result ≡ false = search (rules, tests) in
    sym (left-first given wish place c.next.new.self (sym c.is_as_wished.ensures ∙ c.if-is_as_wished.true) (sym (kept-any given wish.frame place) ∙ sym c.is_kept.ensures ∙ free))
    ∙ ap (find (is_left given wish)) (sym items)
    ∙ c.loop-place.invariant
    ∙ ap (find (is_left given wish)) (sym (placements-kept (frame_data c.args.frame.now) c.iter-place-items.ensures.ordered))

pub returns : goal.returns
returns c =
    let given = c.args.kept.now in
    let wish = c.args.wish.now in
    let items : c.loop-place.place-iterator ≡ [] = search rules in
    ap (find (is_left given wish)) (sym items)
    ∙ c.loop-place.invariant
    ∙ ap (find (is_left given wish)) (sym (placements-kept (frame_data c.args.frame.now) c.iter-place-items.ensures.ordered))
