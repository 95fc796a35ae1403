use Rattle.std.proofs.Common.{refl}
use Rattle.sqlite.specs.Held.{state}
use Rattle.fr_tables.proofs.NumberLemmas.{number_says, number_silent, number_some, rows_known}
use Rattle.fr_tables.proofs.schema_number.number.Goals as goal

pub returns-in-Ok : goal.returns-in-Ok
returns-in-Ok g c = record {
  does = record {
    some = λ clean.
        number_some (state g.S.Store c.args.conn.now).now c.in-Ok.rows.items c.number_of.result (rw c.as_slice.ensures.value at c.number_of.ensures.some) (c.in-Ok.ensures.does.number clean refl);
    found = λ clean n has.
        c.number_of.ensures.none n (rw c.as_slice.ensures.value (rows_known (state g.S.Store c.args.conn.now).now n c.in-Ok.rows.items has (c.in-Ok.ensures.does.number clean refl has.has)));
    says = λ clean.
        number_says (state g.S.Store c.args.conn.now).now c.in-Ok.rows.items c.number_of.result (rw c.as_slice.ensures.value at c.number_of.ensures.some) (c.in-Ok.ensures.does.answer clean);
    silent = λ clean none.
        number_silent (state g.S.Store c.args.conn.now).now c.in-Ok.rows.items c.number_of.result (rw c.as_slice.ensures.value at c.number_of.ensures.none) (c.in-Ok.ensures.does.answer clean) none;
  };
  same = c.ask_and_undo.ensures.same;
  autocommit = c.ask_and_undo.ensures.autocommit;
  survives = c.ask_and_undo.ensures.survives;
}
