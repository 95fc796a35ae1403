use Rattle.std.proofs.Common.{rules, ◌≡◌, ◌++◌, ◌∙◌, ◌+◌, [], ◌∷◌, take, arith, sym, ap}
use Rattle.sqlite.specs.Held.{state}
use Rattle.fr_base.specs.declared.config.Supplier.{Supplier}
use Rattle.fr_tables.specs.Changes.{Changes}
use Rattle.fr_tables.specs.Statements.{with_supplier}
use Rattle.fr_tables.specs.Filling.{supplier_row, with_suppliers}
use Rattle.fr_tables.proofs.FillLemmas.{and_then, one_more, survives_both, taken}
use Rattle.fr_tables.proofs.filling.suppliers.Goals as goal

pub loop-supplier-preserved : goal.loop-supplier-preserved
loop-supplier-preserved g c =
    let old = state g.S.Store c.args.tx.now.conn.now in
    let mid = state g.S.Store c.loop-supplier.tx.conn.now in
    let new = state g.S.Store c.insert.new.tx.conn.now in
    let list = c.args.list.now in
    let at = c.loop-supplier.supplier-index in
    let item : Supplier = c.supplier-item.result in
    let more : take (at + 1) list ≡ take at list ++ item ∷ [] = taken list at item (search rules) (search rules) in (
      c.insert.ensures.same_reference ∙ c.loop-supplier.invariant.0,
      λ clean up inside was.
          let before = c.loop-supplier.invariant.1 (omega (arith, c.insert.ensures.survives.clean, clean)) up inside was in
          let step : Changes (with_supplier (supplier_row item)) mid new = c.in_ok-insert.ensures.does clean (before.shown.mode ∙ inside) before.has in
          and_then (with_suppliers (take at list)) (with_supplier (supplier_row item)) (with_suppliers (take (at + 1) list))
          (λ t. one_more (take at list) item t ∙ ap (λ xs. with_suppliers xs t) (sym more)) old mid new inside before step,
      survives_both old mid new c.loop-supplier.invariant.2 c.insert.ensures.survives,
    )
