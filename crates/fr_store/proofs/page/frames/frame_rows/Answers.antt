use Rattle.std.proofs.Common.{rules, arith}
use Rattle.sqlite.specs.State.{State, HasCleanDisk}
use Rattle.sqlite.specs.Held.{state}
use Rattle.fr_tables.specs.Tables.{Tables}
use Rattle.fr_tables.specs.Changes.{AreListed}
use Rattle.fr_tables.specs.Statements.{is_placed_by, shows_placement, placements_cmp, is_signalled_by, shows_signal, signals_cmp}
use Rattle.fr_store.proofs.ChainLemmas.{IsQuiet, quiet_told, quiet_spares, quiet_then}
use Rattle.fr_store.proofs.page.frames.frame_rows.Goals as goal

pub returns-in_err-placements : goal.returns-in_err-placements
returns-in_err-placements g c = record {
  told = search rules;
  refused = search rules;
  spares = let first : IsQuiet (state g.S.Store c.args.conn.now) (state g.S.Store c.of_supplier.new.conn) =
      record { spares = c.of_supplier.ensures.spares; same = λ clean was. (c.in_ok-frames.ensures.does clean was).1 } in
      quiet_spares _ _ (state g.S.Store c.of_supplier-2.new.conn) first c.of_supplier-2.ensures.spares;
}

pub returns-in_err-signals : goal.returns-in_err-signals
returns-in_err-signals g c = record {
  told = search rules;
  refused = search rules;
  spares = let old : State = state g.S.Store c.args.conn.now in
      let first : IsQuiet old (state g.S.Store c.of_supplier.new.conn) =
      record { spares = c.of_supplier.ensures.spares; same = λ clean was. (c.in_ok-frames.ensures.does clean was).1 } in
      let placed = λ (t : Tables).
      AreListed shows_placement (is_placed_by c.args.variant.now c.args.supplier.now) placements_cmp t.placements c.in_ok-placements.placements.items in
      let second : IsQuiet old (state g.S.Store c.of_supplier-2.new.conn) =
      quiet_then old _ (state g.S.Store c.of_supplier-2.new.conn) first c.of_supplier-2.ensures.spares placed c.in_ok-placements.ensures.does in
      quiet_spares old _ (state g.S.Store c.of_supplier-3.new.conn) second c.of_supplier-3.ensures.spares;
}

pub returns : goal.returns
returns g c = record {
  told = λ clean was. let old : State = state g.S.Store c.args.conn.now in
      let first : IsQuiet old (state g.S.Store c.of_supplier.new.conn) =
      record { spares = c.of_supplier.ensures.spares; same = λ clean was. (c.in_ok-frames.ensures.does clean was).1 } in
      let placed = λ (t : Tables).
      AreListed shows_placement (is_placed_by c.args.variant.now c.args.supplier.now) placements_cmp t.placements c.in_ok-placements.placements.items in
      let second : IsQuiet old (state g.S.Store c.of_supplier-2.new.conn) =
      quiet_then old _ (state g.S.Store c.of_supplier-2.new.conn) first c.of_supplier-2.ensures.spares placed c.in_ok-placements.ensures.does in
      let signalled = λ (t : Tables).
      AreListed shows_signal (is_signalled_by c.args.variant.now c.args.supplier.now) signals_cmp t.signals c.in_ok-signals.signals.items in
      let clean_second : HasCleanDisk (state g.S.Store c.of_supplier-2.new.conn) = omega (arith, c.of_supplier-3.ensures.spares.clean, clean) in
      let clean_first : HasCleanDisk (state g.S.Store c.of_supplier.new.conn) = omega (arith, c.of_supplier-2.ensures.spares.clean, clean_second) in
      let placements = quiet_told old _ (state g.S.Store c.of_supplier-2.new.conn) first c.of_supplier-2.ensures.spares placed c.in_ok-placements.ensures.does clean_second was in
      let signals = quiet_told old _ (state g.S.Store c.of_supplier-3.new.conn) second c.of_supplier-3.ensures.spares signalled c.in_ok-signals.ensures.does clean was in
      (record { frames = (c.in_ok-frames.ensures.does clean_first was).0; placements = placements.0; signals = signals.0 }, signals.1);
  refused = search rules;
  spares = let old : State = state g.S.Store c.args.conn.now in
      let first : IsQuiet old (state g.S.Store c.of_supplier.new.conn) =
      record { spares = c.of_supplier.ensures.spares; same = λ clean was. (c.in_ok-frames.ensures.does clean was).1 } in
      let placed = λ (t : Tables).
      AreListed shows_placement (is_placed_by c.args.variant.now c.args.supplier.now) placements_cmp t.placements c.in_ok-placements.placements.items in
      let second : IsQuiet old (state g.S.Store c.of_supplier-2.new.conn) =
      quiet_then old _ (state g.S.Store c.of_supplier-2.new.conn) first c.of_supplier-2.ensures.spares placed c.in_ok-placements.ensures.does in
      quiet_spares old _ (state g.S.Store c.of_supplier-3.new.conn) second c.of_supplier-3.ensures.spares;
}
