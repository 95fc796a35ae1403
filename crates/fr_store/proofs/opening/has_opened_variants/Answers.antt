use Rattle.std.proofs.Common.{refl}
use Rattle.sqlite.specs.Held.{state}
use Rattle.fr_store.proofs.OpenLemmas.{variants_found}
use Rattle.fr_store.proofs.opening.has_opened_variants.Goals as goal

pub returns-in-Ok : goal.returns-in-Ok
returns-in-Ok g c = record {
  does = λ clean up has is.
      variants_found (state g.S.Store c.args.conn.now).now (state g.S.Store c.ask_and_undo.new.conn).now c.in-Ok.rows.items (λ found. found.items) c.opened_variants.result (c.ask_and_undo.ensures.same clean up).1 has
      (c.in-Ok.ensures.does.variants clean refl) (rw c.as_slice.ensures.value at c.opened_variants.ensures.shown) c.opened_variants.ensures.opened (rw c.is_some.ensures at is);
  same = c.ask_and_undo.ensures.same;
  autocommit = c.ask_and_undo.ensures.autocommit;
  survives = c.ask_and_undo.ensures.survives;
}
