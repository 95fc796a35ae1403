use Rattle.std.proofs.Common.{refl, sym, arith, ◌∙◌}
use Rattle.sqlite.specs.State.{HasCleanDisk}
use Rattle.sqlite.specs.Held.{state}
use Rattle.fr_store.proofs.ClimbLemmas.{HasClimbed, begins, has_before, owner_kept, is_owner, climbs, survives_itself}
use Rattle.fr_store.proofs.ChainLemmas.{has_still}
use Rattle.fr_tables.proofs.FillLemmas.{survives_both}
use Rattle.fr_store.proofs.applying.owning.owner.Goals as goal

pub loop-init : goal.loop-init
loop-init g c =
    let old = state g.S.Store c.args.tx.now.conn.now in
    (refl, λ clean inside has. begins c.args.key.now old inside, survives_itself old)

pub returns-then-branch : goal.returns-then-branch
returns-then-branch g c =
    let old = state g.S.Store c.args.tx.now.conn.now in
    let before = state g.S.Store c.loop.tx.conn.now in
    let mid = state g.S.Store c.is_own.new.tx.conn.now in
    record {
      same_reference = c.is_own.ensures.same_reference ∙ c.loop.invariant.0;
      does = λ clean inside has.
          let clean_before : HasCleanDisk before = omega (arith, c.is_own.ensures.survives.clean, clean) in
          let so_far : HasClimbed c.args.key.now c.loop.above old before = c.loop.invariant.1 clean_before inside has in
          let own = c.in_ok-is_own.ensures.does clean (has_before c.args.key.now old c.loop.above before so_far has) in (
            owner_kept c.args.key.now old c.loop.above before so_far mid own.1,
            is_owner c.args.key.now old c.loop.above before so_far mid own.1 (sym own.0 ∙ c.if-branch.true),
          );
      refused = tt;
      survives = survives_both old before mid c.loop.invariant.2 c.is_own.ensures.survives;
    }

pub loop-preserved : goal.loop-preserved
loop-preserved g c =
    let old = state g.S.Store c.args.tx.now.conn.now in
    let before = state g.S.Store c.loop.tx.conn.now in
    let mid = state g.S.Store c.is_own.new.tx.conn.now in
    let new = state g.S.Store c.read_origin.new.tx.conn.now in (
      c.read_origin.ensures.same_reference ∙ c.is_own.ensures.same_reference ∙ c.loop.invariant.0,
      λ clean inside has.
          let clean_mid : HasCleanDisk mid = omega (arith, c.read_origin.ensures.survives.clean, clean) in
          let clean_before : HasCleanDisk before = omega (arith, c.is_own.ensures.survives.clean, clean_mid) in
          let so_far : HasClimbed c.args.key.now c.loop.above old before = c.loop.invariant.1 clean_before inside has in
          let there = has_before c.args.key.now old c.loop.above before so_far has in
          let own = c.in_ok-is_own.ensures.does clean_mid there in
          let told = c.in_ok-read_origin.ensures.does clean (has_still before mid own.1 there) in
          climbs c.args.key.now old c.loop.above before so_far mid new c.in_ok-read_origin.field-0 c.in_ok-above.above own.1 (sym own.0 ∙ c.if-branch.false) told.0 told.1 c.in_ok-above.ensures.ok_part,
      survives_both old before new c.loop.invariant.2 (survives_both before mid new c.is_own.ensures.survives c.read_origin.ensures.survives),
    )
