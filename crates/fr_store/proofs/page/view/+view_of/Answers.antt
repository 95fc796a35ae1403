use Rattle.std.proofs.Common.{rules, arith, refl, subst}
use Rattle.sqlite.specs.State.{State, HasCleanDisk}
use Rattle.sqlite.specs.Held.{state}
use Rattle.fr_base.specs.declared.name.Name.{Name}
use Rattle.fr_world.specs.Pages.{frames_data}
use Rattle.fr_tables.specs.Tables.{Tables}
use Rattle.fr_tables.specs.Changes.{tables_of}
use Rattle.fr_store.specs.Paging.{TellsLevel, TellsFrames, TellsOver, TellsView}
use Rattle.fr_store.proofs.ChainLemmas.{quiet_first, quiet_told, quiet_spares, quiet_then}
use Rattle.fr_store.proofs.ViewLemmas.{alone_told, laid_told}
use Rattle.fr_store.proofs.page.view.+view_of.Goals as goal

pub returns-in_default : goal.returns-in_default
returns-in_default g t c = record {
  told = λ clean was. let told = c.in_ok-released.ensures.told clean was in (subst (TellsLevel c.args.variant.now (tables_of (state g.S.Store c.args.conn.now))) c.in_default.is told.0 c.args.params.now.cycles, told.1);
  refused = search rules;
  spares = search rules;
}

-- ---- the variant is laid over none

pub returns-in_err-frames : goal.returns-in_err-frames
returns-in_err-frames g t c = record {
  told = search rules;
  refused = search rules;
  spares = let first = quiet_first (state g.S.Store c.args.conn.now) _ c.level_of.ensures.spares c.in_ok-released.ensures.told in
      quiet_spares _ _ (state g.S.Store c.own_frames.new.conn) first c.own_frames.ensures.spares;
}

pub returns-in_default-parent : goal.returns-in_default-parent
returns-in_default-parent g t c = record {
  told = λ clean was. let old : State = state g.S.Store c.args.conn.now in
      let first = quiet_first old (state g.S.Store c.level_of.new.conn) c.level_of.ensures.spares c.in_ok-released.ensures.told in
      let its_own = λ (t : Tables). TellsFrames c.args.params.now.cycles c.args.variant.now c.args.supplier.now t (frames_data c.in_ok-frames.frames.entries) in
      let clean_first : HasCleanDisk (state g.S.Store c.level_of.new.conn) = omega (arith, c.own_frames.ensures.spares.clean, clean) in
      let level = subst (TellsLevel c.args.variant.now (tables_of old)) c.in-Some.is (c.in_ok-released.ensures.told clean_first was).0 in
      let own = quiet_told old _ (state g.S.Store c.own_frames.new.conn) first c.own_frames.ensures.spares its_own c.in_ok-frames.ensures.told clean was in
      (alone_told c.args.params.now.cycles (tables_of old) c.args.variant.now c.args.supplier.now c.in-Some.field-0 level (record { released = c.in-Some.field-0.released; frames = c.in_ok-frames.frames }) refl c.in_default-parent.is own.0, own.1);
  refused = search rules;
  spares = let first = quiet_first (state g.S.Store c.args.conn.now) _ c.level_of.ensures.spares c.in_ok-released.ensures.told in
      quiet_spares _ _ (state g.S.Store c.own_frames.new.conn) first c.own_frames.ensures.spares;
}

-- ---- the variant is laid over its parent

pub returns-in_err-inherited : goal.returns-in_err-inherited
returns-in_err-inherited g t c = record {
  told = search rules;
  refused = search rules;
  spares = let first = quiet_first (state g.S.Store c.args.conn.now) _ c.level_of.ensures.spares c.in_ok-released.ensures.told in
      quiet_spares _ _ (state g.S.Store c.view_of.new.conn) first c.view_of.ensures.spares;
}

pub returns-in_default-2 : goal.returns-in_default-2
returns-in_default-2 g t c = record {
  told = search rules;
  refused = search rules;
  spares = let first = quiet_first (state g.S.Store c.args.conn.now) _ c.level_of.ensures.spares c.in_ok-released.ensures.told in
      quiet_spares _ _ (state g.S.Store c.view_of.new.conn) first c.view_of.ensures.spares;
}

pub returns-in_err-frames-2 : goal.returns-in_err-frames-2
returns-in_err-frames-2 g t c = record {
  told = search rules;
  refused = search rules;
  spares = let old : State = state g.S.Store c.args.conn.now in
      let first = quiet_first old (state g.S.Store c.level_of.new.conn) c.level_of.ensures.spares c.in_ok-released.ensures.told in
      let its_parents = λ (t : Tables). TellsView c.args.params.now.cycles c.in-Some-parent.parent c.args.supplier.now t c.in_ok-inherited.field-0 in
      let second = quiet_then old _ (state g.S.Store c.view_of.new.conn) first c.view_of.ensures.spares its_parents c.in_ok-inherited.ensures.told in
      quiet_spares old _ (state g.S.Store c.lay_over.new.conn) second c.lay_over.ensures.spares;
}

pub returns : goal.returns
returns g t c = record {
  told = λ clean was. let old : State = state g.S.Store c.args.conn.now in
      let v = c.args.variant.now in
      let s = c.args.supplier.now in
      let parent = c.in-Some-parent.parent in
      let first = quiet_first old (state g.S.Store c.level_of.new.conn) c.level_of.ensures.spares c.in_ok-released.ensures.told in
      let its_parents = λ (t : Tables). TellsView c.args.params.now.cycles parent s t c.in_ok-inherited.field-0 in
      let second = quiet_then old _ (state g.S.Store c.view_of.new.conn) first c.view_of.ensures.spares its_parents c.in_ok-inherited.ensures.told in
      let laid = λ (t : Tables). (p : Name) → TellsOver c.args.params.now.cycles v s p (frames_data c.in-Some-2.inherited.frames.entries) t (frames_data c.in_ok-frames-2.frames.entries) in
      let clean_second : HasCleanDisk (state g.S.Store c.view_of.new.conn) = omega (arith, c.lay_over.ensures.spares.clean, clean) in
      let clean_first : HasCleanDisk (state g.S.Store c.level_of.new.conn) = omega (arith, c.view_of.ensures.spares.clean, clean_second) in
      let level = subst (TellsLevel v (tables_of old)) c.in-Some.is (c.in_ok-released.ensures.told clean_first was).0 in
      let view = quiet_told old _ (state g.S.Store c.view_of.new.conn) first c.view_of.ensures.spares its_parents c.in_ok-inherited.ensures.told clean_second was in
      let above = subst (TellsView c.args.params.now.cycles parent s (tables_of old)) c.in-Some-2.is view.0 in
      let over = quiet_told old _ (state g.S.Store c.lay_over.new.conn) second c.lay_over.ensures.spares laid c.in_ok-frames-2.ensures.told clean was in
      (laid_told c.args.params.now.cycles (tables_of old) v s c.in-Some.field-0 level (record { released = c.in-Some.field-0.released; frames = c.in_ok-frames-2.frames }) refl parent c.in-Some-2.inherited c.in-Some-parent.is above (over.0 parent), over.1);
  refused = search rules;
  spares = let old : State = state g.S.Store c.args.conn.now in
      let first = quiet_first old (state g.S.Store c.level_of.new.conn) c.level_of.ensures.spares c.in_ok-released.ensures.told in
      let its_parents = λ (t : Tables). TellsView c.args.params.now.cycles c.in-Some-parent.parent c.args.supplier.now t c.in_ok-inherited.field-0 in
      let second = quiet_then old _ (state g.S.Store c.view_of.new.conn) first c.view_of.ensures.spares its_parents c.in_ok-inherited.ensures.told in
      quiet_spares old _ (state g.S.Store c.lay_over.new.conn) second c.lay_over.ensures.spares;
}
