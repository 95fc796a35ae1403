use Rattle.std.proofs.Common.{◌∙◌, ◌∷◌, ◌++◌, [], refl, sym, ap}
use Rattle.fr_world.proofs.AppendingLaws.{Begins-itself, Begins-trans, none-appended, on_error, some-later}
use Rattle.fr_world.proofs.DifferenceSteps.{went-on, met-refused, met-there, came-first, came-last, none_left}
use Rattle.fr_world.proofs.differences.push_up_to.Goals as goal
use Rattle.fr_world.proofs.differences.push_up_to.Goals.{in-Some+in-Less, in_default}

pub loop-next-init : goal.loop-next-init
loop-next-init g c = record { grown = Begins-itself c.args.rows.now; whole = λ rest. refl }

pub loop-next-preserved : goal.loop-next-preserved
loop-next-preserved g c =
    let told_now = c.in_ok-push-in-Greater.ensures.ok ∙ ap (λ r. c.loop-next.rows ++ r ∷ []) c.new_row.ensures in
    record {
      grown = Begins-trans c.args.rows.now c.loop-next.rows c.push.new.self c.loop-next.invariant.grown (_, told_now);
      whole = λ rest.
          went-on g.T.KeyedRow.compare g.T.KeyedRow.same g.T.KeyedRow.told c.args.row.now rest c.loop-next.rows c.push.new.self c.loop-next.left.now
          c.in-Some.next.now c.in-Some.after.now c.in-Some.ensures.cases.0 (sym c.compare.ensures ∙ c.in-Greater.is) told_now
          ∙ c.loop-next.invariant.whole rest;
    }

pub returns-clause-ok : goal.returns-clause-ok
returns-clause-ok g c rest =
    let told_now = c.in_ok-push.ensures.ok ∙ ap (λ r. c.loop-next.rows ++ r ∷ []) c.gone_row.ensures in
    elim c.match-split_first.branch [
      | in-Some+in-Less w ↦
          came-first g.T.KeyedRow.compare g.T.KeyedRow.same g.T.KeyedRow.told c.args.row.now rest c.loop-next.rows c.push-2.new.self c.loop-next.left.now
          w.in-Some.next.now w.in-Some.after.now w.in-Some.ensures.cases.0 (sym w.compare.ensures ∙ w.in-Less.is) told_now
          ∙ c.loop-next.invariant.whole rest
      | in_default w ↦
          came-last g.T.KeyedRow.compare g.T.KeyedRow.same g.T.KeyedRow.told c.args.row.now rest c.loop-next.rows c.push-2.new.self c.loop-next.left.now (none_left c.loop-next.left.now w.in_default.ensures.cases) told_now
          ∙ c.loop-next.invariant.whole rest
    ]

pub returns-in-Equal-clause-ok : goal.returns-in-Equal-clause-ok
returns-in-Equal-clause-ok g c rest =
    met-there g.T.KeyedRow.compare g.T.KeyedRow.same g.T.KeyedRow.told c.args.row.now rest c.loop-next.rows c.push_met.new.rows c.loop-next.left.now
    c.in-Some.next.now c.in-Some.after.now c.in-Some.ensures.cases.0 (sym c.compare.ensures ∙ c.in-Equal.is) c.in_ok-push_met-in-Equal.ensures.ok
    ∙ c.loop-next.invariant.whole rest

pub returns-in_err-push_met-in-Equal-clause-err : goal.returns-in_err-push_met-in-Equal-clause-err
returns-in_err-push_met-in-Equal-clause-err g c = on_error c.from_residual.result (λ rest.
    some-later _ _ c.args.rows.now c.loop-next.rows c.push_met.new.rows c.loop-next.invariant.grown (c.loop-next.invariant.whole rest)
    (met-refused g.T.KeyedRow.compare g.T.KeyedRow.same g.T.KeyedRow.told c.args.row.now rest c.loop-next.rows c.push_met.new.rows c.loop-next.left.now
    c.in-Some.next.now c.in-Some.after.now c.in-Some.ensures.cases.0 (sym c.compare.ensures ∙ c.in-Equal.is) c.in_err-push_met-in-Equal.ensures.err))

pub returns-in_err-push-in-Greater-clause-err : goal.returns-in_err-push-in-Greater-clause-err
returns-in_err-push-in-Greater-clause-err g c = on_error c.from_residual-in_err-push-in-Greater.result (λ rest.
    some-later _ _ c.args.rows.now c.loop-next.rows c.push.new.self c.loop-next.invariant.grown (c.loop-next.invariant.whole rest)
    (none-appended _ c.loop-next.rows c.push.new.self c.in_err-push-in-Greater.ensures.err))

pub returns-in_err-push-clause-err : goal.returns-in_err-push-clause-err
returns-in_err-push-clause-err g c = on_error c.from_residual-in_err-push.result (λ rest.
    some-later _ _ c.args.rows.now c.loop-next.rows c.push-2.new.self c.loop-next.invariant.grown (c.loop-next.invariant.whole rest)
    (none-appended _ c.loop-next.rows c.push-2.new.self c.in_err-push.ensures.err))
