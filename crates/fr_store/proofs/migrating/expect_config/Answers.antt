use Rattle.std.proofs.Common.{◌∙◌, arith}
use Rattle.sqlite.specs.State.{HasCleanDisk}
use Rattle.sqlite.specs.Held.{state}
use Rattle.fr_tables.proofs.FillLemmas.{survives_both}
use Rattle.fr_store.proofs.ChainLemmas.{has_still}
use Rattle.fr_store.proofs.OpenLemmas.{openable}
use Rattle.fr_store.proofs.migrating.expect_config.Goals as goal

pub returns-in-Some-clause-opens : goal.returns-in-Some-clause-opens
returns-in-Some-clause-opens g c =
    let old = state g.S.Store c.args.tx.now.conn.now in
    let a = state g.S.Store c.row_inside.new.tx.conn.now in
    let b = state g.S.Store c.by_name_inside.new.tx.conn.now in
    let new = state g.S.Store c.by_name_inside-2.new.tx.conn.now in
    record {
      same_reference = c.by_name_inside-2.ensures.same_reference ∙ c.by_name_inside.ensures.same_reference ∙ c.row_inside.ensures.same_reference;
      does = λ clean has number.
          let clean_b : HasCleanDisk b = omega (arith, c.by_name_inside-2.ensures.survives.clean, clean) in
          let clean_a : HasCleanDisk a = omega (arith, c.by_name_inside.ensures.survives.clean, clean_b) in
          let first = c.in_ok-cluster.ensures.does clean_a has in
          let has_a = has_still old a first.1 has in
          let second = c.in_ok-suppliers.ensures.does clean_b has_a in
          let has_b = has_still a b second.1 has_a in
          let third = c.in_ok-variants.ensures.does clean has_b in
          openable old a b new c.in-Some.field-0 c.in_ok-cluster.cluster.items c.in_ok-suppliers.suppliers.items c.in_ok-variants.variants.items has number
          first.0 first.1 second.0 second.1 third.0 third.1
          (rw c.as_slice.ensures.value at c.in-Some.ensures.cluster) (rw c.as_slice-2.ensures.value at c.in-Some.ensures.suppliers)
          (rw c.as_slice-3.ensures.value at c.in-Some.ensures.variants) c.in-Some.ensures.formed;
      refused = tt;
      survives = survives_both old b new (survives_both old a b c.row_inside.ensures.survives c.by_name_inside.ensures.survives) c.by_name_inside-2.ensures.survives;
    }
