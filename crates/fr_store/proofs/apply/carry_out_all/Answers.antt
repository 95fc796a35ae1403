use Rattle.std.proofs.Common.{rules, ◌≡◌, ◌<◌, ◌∙◌, ap, get_or, length, arith, sym, unwrap_or}
use Rattle.sqlite.specs.State.{HasCleanDisk}
use Rattle.sqlite.specs.Held.{state}
use Rattle.fr_world.specs.declared.edit.Edit.{Edit}
use Rattle.fr_store.specs.Joined.{after_edit}
use Rattle.fr_store.proofs.EditSteps.{one_more, all_come}
use Rattle.fr_store.proofs.JoinedLemmas.{after_next, lent_now, no_other}
use Rattle.fr_tables.proofs.FillLemmas.{survives_both}
use Rattle.fr_store.proofs.apply.carry_out_all.Goals as goal
use Rattle.fr_store.proofs.apply.carry_out_all.Goals.{in-Some, in_default}

pub loop-edit-preserved : goal.loop-edit-preserved
loop-edit-preserved g c =
    let old = state g.S.Store c.args.tx.now.conn.now in
    let before = state g.S.Store c.loop-edit.tx.conn.now in
    let new = state g.S.Store c.carry_out.new.tx.conn.now in
    let edits = c.args.edits.now in
    let at = c.loop-edit.edit-index in
    let edit : Edit = c.edit-item.result in
    let within : at < length edits = search rules in
    let is : get_or edits at edit ≡ edit = search rules in
    let file = c.args.config.now in
    let so_far = unwrap_or c.loop-edit.after file in
    let given = c.unwrap_or-before.result.now in
    let given_is : given ≡ so_far = lent_now c.as_ref.result c.args.config c.loop-edit.after c.unwrap_or-before.result c.unwrap_or-before.ensures c.as_ref.ensures.value in
    let next : unwrap_or c.in_ok-next.field-0 given ≡ after_edit so_far edit = c.in_ok-next.ensures.after ∙ ap (λ f. after_edit f edit) given_is in
    let step : unwrap_or c.match-branch-2.after file ≡ after_edit so_far edit =
    elim c.match-branch-2.branch [
      | in-Some w ↦ ap (λ o. unwrap_or o file) w.after-is ∙ sym (ap (λ o. unwrap_or o given) w.in-Some.is) ∙ next
      | in_default w ↦ ap (λ o. unwrap_or o file) w.after-is ∙ sym given_is ∙ sym (no_other c.in_ok-next.field-0 given w.in_default.not-Some) ∙ next
    ] in (
      c.carry_out.ensures.carried.same_reference ∙ c.loop-edit.invariant.0,
      λ clean inside has.
          let clean_before : HasCleanDisk before = omega (arith, c.carry_out.ensures.carried.survives.clean, clean) in
          let come = c.loop-edit.invariant.1 clean_before inside has in
          let stays = c.in_ok-next.ensures.carried.stays clean come.goes.inside come.goes.has in
          one_more edits at edit within is old before new come stays.0 stays.1 (λ cluster b stands fits. c.in_ok-next.ensures.carried.does clean come.goes.inside cluster b stands fits)
          (λ none. c.in_ok-next.ensures.spared none clean come.goes.inside come.goes.has),
      survives_both old before new c.loop-edit.invariant.2 c.carry_out.ensures.carried.survives,
      step ∙ ap (λ f. after_edit f edit) c.loop-edit.invariant.3 ∙ sym (after_next file edits at edit within is),
    )

pub returns-clause-carried : goal.returns-clause-carried
returns-clause-carried g c = record {
  same_reference = c.loop-edit.invariant.0;
  does = λ clean inside cluster b stands fit.
      all_come c.args.edits.now c.loop-edit.edit-index (state g.S.Store c.args.tx.now.conn.now) (state g.S.Store c.loop-edit.tx.conn.now) c.loop-edit-test.false
      (c.loop-edit.invariant.1 clean inside stands.has) cluster b stands fit;
  stays = λ clean inside has. let come = c.loop-edit.invariant.1 clean inside has in (come.keeps, come.goes);
  refused = tt;
  survives = c.loop-edit.invariant.2;
}

pub returns-clause-spared : goal.returns-clause-spared
returns-clause-spared g c none clean inside has = (c.loop-edit.invariant.1 clean inside has).spared none
