use Rattle.std.proofs.Common.{List, ◌∙◌, ◌∷◌, ◌++◌, ◌+◌, [], refl, sym, ap, append-nil, drop, map, subst}
use Rattle.std.proofs.lemmas.List.{drop_all, drop_more, take_all}
use Rattle.fr_base.specs.Merging.{come, merge}
use Rattle.fr_base.specs.declared.answer.DifferenceRow.{DifferenceRow}
use Rattle.fr_world.specs.Appending.{AppendsSome}
use Rattle.fr_world.proofs.AppendingLaws.{Begins-itself, Begins-trans, on_error, some-later, some-mapped}
use Rattle.fr_world.proofs.DifferenceSteps.{went-behind, new-left}
use Rattle.fr_world.proofs.differences.push_differences.Goals as goal

pub loop-row-init : goal.loop-row-init
loop-row-init g c = record { grown = Begins-itself c.args.rows.now; whole = refl }

pub loop-row-preserved : goal.loop-row-preserved
loop-row-preserved g c =
    let rest = drop (c.loop-row.row-index + 1) c.args.old.now in
    let here = drop_more c.args.old.now c.loop-row.row-index c.row-item.result c.loop-row-test.true ∙ ap (λ x. x ∷ rest) (sym c.row-item.is) in
    record {
      grown = Begins-trans c.args.rows.now c.loop-row.rows c.push_up_to.new.rows c.loop-row.invariant.grown (_, sym (append-nil c.push_up_to.new.rows) ∙ c.in_ok-left.ensures.ok (λ _. []));
      whole = c.in_ok-left.ensures.ok (merge g.T.KeyedRow.compare g.T.KeyedRow.same g.T.KeyedRow.told rest)
          ∙ ap (λ rs. c.loop-row.rows ++ rs) (went-behind g.T.KeyedRow.compare g.T.KeyedRow.same g.T.KeyedRow.told (drop c.loop-row.row-index c.args.old.now) rest c.row-item.result c.loop-row.left.now here)
          ∙ c.loop-row.invariant.whole;
    }

pub returns-clause-ok : goal.returns-clause-ok
returns-clause-ok g c =
    let none = drop_all c.loop-row.row-index c.args.old.now c.loop-row-test.false in
    c.loop-next.invariant
    ∙ ap (λ rows. c.loop-row.rows ++ map (come g.T.KeyedRow.compare g.T.KeyedRow.same g.T.KeyedRow.told) rows) (take_all c.loop-next.next-index c.loop-row.left.now c.loop-next-test.false)
    ∙ ap (λ rs. c.loop-row.rows ++ rs) (sym (new-left g.T.KeyedRow.compare g.T.KeyedRow.same g.T.KeyedRow.told (drop c.loop-row.row-index c.args.old.now) c.loop-row.left.now none))
    ∙ c.loop-row.invariant.whole

pub returns-in_err-left-clause-err : goal.returns-in_err-left-clause-err
returns-in_err-left-clause-err g c =
    let rest = drop (c.loop-row.row-index + 1) c.args.old.now in
    let here = drop_more c.args.old.now c.loop-row.row-index c.row-item.result c.loop-row-test.true ∙ ap (λ x. x ∷ rest) (sym c.row-item.is) in
    on_error c.from_residual.result (some-later _ _ c.args.rows.now c.loop-row.rows c.push_up_to.new.rows c.loop-row.invariant.grown c.loop-row.invariant.whole
    (subst (λ (told : List DifferenceRow). AppendsSome told c.loop-row.rows c.push_up_to.new.rows)
    (went-behind g.T.KeyedRow.compare g.T.KeyedRow.same g.T.KeyedRow.told (drop c.loop-row.row-index c.args.old.now) rest c.row-item.result c.loop-row.left.now here)
    (c.in_err-left.ensures.err (merge g.T.KeyedRow.compare g.T.KeyedRow.same g.T.KeyedRow.told rest))))

pub returns-in_err-push-clause-err : goal.returns-in_err-push-clause-err
returns-in_err-push-clause-err g c =
    let none = drop_all c.loop-row.row-index c.args.old.now c.loop-row-test.false in
    on_error c.from_residual-in_err-push.result (some-later _ _ c.args.rows.now c.loop-row.rows c.push.new.self c.loop-row.invariant.grown c.loop-row.invariant.whole
    (subst (λ (told : List DifferenceRow). AppendsSome told c.loop-row.rows c.push.new.self)
    (sym (new-left g.T.KeyedRow.compare g.T.KeyedRow.same g.T.KeyedRow.told (drop c.loop-row.row-index c.args.old.now) c.loop-row.left.now none))
    (some-mapped (come g.T.KeyedRow.compare g.T.KeyedRow.same g.T.KeyedRow.told) c.loop-row.left.now c.loop-next.next-index c.loop-row.rows c.loop-next.rows c.push.new.self
    c.loop-next.invariant c.in_err-push.ensures.err)))
