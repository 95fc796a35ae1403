use Rattle.std.proofs.Common.{rules, arith}
use Rattle.sqlite.specs.State.{State, HasCleanDisk}
use Rattle.sqlite.specs.Held.{state}
use Rattle.fr_world.specs.Pages.{frames_data}
use Rattle.fr_tables.specs.Tables.{Tables}
use Rattle.fr_tables.specs.Changes.{tables_of}
use Rattle.fr_store.specs.Paging.{TellsFrames}
use Rattle.fr_store.proofs.ChainLemmas.{quiet_first, quiet_told, quiet_spares}
use Rattle.fr_store.proofs.ReadingLemmas.{reads_if}
use Rattle.fr_store.proofs.ViewLemmas.{over_told}
use Rattle.fr_store.proofs.page.view.lay_over.Goals as goal

pub returns-in_err-own : goal.returns-in_err-own
returns-in_err-own g c = record {
  told = search rules;
  refused = search rules;
  spares = let first = quiet_first (state g.S.Store c.args.conn.now) _ c.of_supplier.ensures.spares c.in_ok-dropped.ensures.does in
      quiet_spares _ _ (state g.S.Store c.own_frames.new.conn) first c.own_frames.ensures.spares;
}

pub returns-in_default : goal.returns-in_default
returns-in_default g c = record {
  told = search rules;
  refused = search rules;
  spares = let first = quiet_first (state g.S.Store c.args.conn.now) _ c.of_supplier.ensures.spares c.in_ok-dropped.ensures.does in
      quiet_spares _ _ (state g.S.Store c.own_frames.new.conn) first c.own_frames.ensures.spares;
}

pub returns : goal.returns
returns g c = record {
  told = λ clean was. let old : State = state g.S.Store c.args.conn.now in
      let first = quiet_first old (state g.S.Store c.of_supplier.new.conn) c.of_supplier.ensures.spares c.in_ok-dropped.ensures.does in
      let its_own = λ (t : Tables). TellsFrames c.args.params.now.cycles c.args.variant.now c.args.supplier.now t (frames_data c.in_ok-own.own.entries) in
      let clean_first : HasCleanDisk (state g.S.Store c.of_supplier.new.conn) = omega (arith, c.own_frames.ensures.spares.clean, clean) in
      let dropped = c.in_ok-dropped.ensures.does clean_first was in
      let own = quiet_told old _ (state g.S.Store c.own_frames.new.conn) first c.own_frames.ensures.spares its_own c.in_ok-own.ensures.told clean was in
      reads_if _ _ old (state g.S.Store c.own_frames.new.conn) own.1
      (λ all joined parent. over_told c.args.params.now.cycles (tables_of old) c.args.variant.now c.args.supplier.now c.args.inherited.entries c.in-Some.kept.entries c.in_ok-own.own.entries all.entries c.in_ok-dropped.dropped.items dropped.0
      (rw c.as_slice.ensures.value at c.in-Some.ensures) joined own.0 parent)
      c.join.result _ c.ok_or.result c.ok_or.ensures.value c.join.ensures;
  refused = search rules;
  spares = let first = quiet_first (state g.S.Store c.args.conn.now) _ c.of_supplier.ensures.spares c.in_ok-dropped.ensures.does in
      quiet_spares _ _ (state g.S.Store c.own_frames.new.conn) first c.own_frames.ensures.spares;
}
