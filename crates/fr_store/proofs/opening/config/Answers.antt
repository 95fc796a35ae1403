use Rattle.std.proofs.Common.{rules, arith, refl, sym, subst, map, IfSome}
use Rattle.std.specs.List.Sorted.{IsPermutation}
use Rattle.sqlite.specs.Effect.{Database}
use Rattle.fr_tables.specs.Filling.{supplier_row}
use Rattle.sqlite.specs.State.{HasCleanDisk}
use Rattle.sqlite.specs.Held.{state}
use Rattle.fr_tables.specs.Tables.{HasTables, tables_in}
use Rattle.fr_tables.specs.Changes.{tables_of}
use Rattle.fr_store.proofs.OpenLemmas.{one_cluster, all_suppliers}
use Rattle.fr_store.proofs.opening.config.Goals as goal

pub returns : goal.returns
returns g c =
    let first = state g.S.Store c.ask_and_undo.new.conn in
    let second = state g.S.Store c.ask_and_undo-2.new.conn in
    let last = state g.S.Store c.has_opened_variants.new.conn in
    let then : HasCleanDisk last → HasCleanDisk second = λ clean. omega (arith, c.has_opened_variants.ensures.survives.clean, clean) in
    let before : HasCleanDisk last → HasCleanDisk first = λ clean. omega (arith, c.ask_and_undo-2.ensures.survives.clean, then clean) in
    record {
      does = record {
        cluster = λ clean up was.
            one_cluster (tables_of (state g.S.Store c.args.conn.now)).cluster2 c.in-Ok.cluster.items c.read.result (c.in-Ok.ensures.does.cluster (before clean) refl was) (rw c.as_slice.ensures.value at c.read.ensures.cluster);
        suppliers = λ clean up was.
            let there = (c.ask_and_undo-2.ensures.same (then clean) (c.has_opened_variants.ensures.same clean up).0).0 in
            let same = (c.ask_and_undo.ensures.same (before clean) there).1 in
            subst (λ (d : Database). IfSome c.read.result (λ k. IsPermutation (map supplier_row k.suppliers) (tables_in d.trees).suppliers)) same
            (all_suppliers (tables_of first).suppliers c.in-Ok-ask_and_undo.suppliers.items c.read.result (c.in-Ok-ask_and_undo.ensures.does.suppliers (then clean) refl (subst HasTables (sym same) was)) (rw c.as_slice-2.ensures.value at c.read.ensures.suppliers));
        variants = search rules;
        formed = search rules;
      };
      same = search rules;
      autocommit = search rules;
      survives = search rules;
    }
