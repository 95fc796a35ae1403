use Rattle.std.proofs.Common.{◌∙◌, ap, arith}
use Rattle.sqlite.specs.State.{HasCleanDisk}
use Rattle.sqlite.specs.Held.{state}
use Rattle.fr_tables.specs.Changes.{Changes}
use Rattle.fr_tables.specs.Statements.{without_cluster}
use Rattle.fr_tables.specs.Tables.{Tables}
use Rattle.fr_tables.proofs.FillLemmas.{survives_both}
use Rattle.fr_store.proofs.BeforeLemmas.{moves, both_stay}
use Rattle.fr_store.proofs.ChainLemmas.{has_still, same_tables}
use Rattle.fr_store.proofs.migrating.move_cluster.Goals as goal

pub returns-clause-moved : goal.returns-clause-moved
returns-clause-moved g c =
    let old = state g.S.Store c.args.tx.now.conn.now in
    let read = state g.S.Store c.row_inside.new.tx.conn.now in
    let put = state g.S.Store c.insert.new.tx.conn.now in
    let new = state g.S.Store c.delete.new.tx.conn.now in
    record {
      same_reference = c.delete.ensures.same_reference ∙ c.insert.ensures.same_reference ∙ c.row_inside.ensures.same_reference;
      does = λ clean inside has p integrator is counted.
          let clean_put : HasCleanDisk put = omega (arith, c.delete.ensures.survives.clean, clean) in
          let clean_read : HasCleanDisk read = omega (arith, c.insert.ensures.survives.clean, clean_put) in
          let listed = c.in_ok-rows.ensures.does clean_read has in
          let step = c.in_ok-insert.ensures.does clean_put (listed.1.0.mode ∙ inside) (has_still old read listed.1 has) in
          let gone : Changes without_cluster put new = c.in_ok-delete.ensures.does clean (step.shown.mode ∙ listed.1.0.mode ∙ inside) step.has in
          moves old read put new p _ integrator _ c.in_ok-rows.rows.items listed.0 (same_tables old read listed.1)
          (rw c.as_slice.ensures.value at c.in-Some.ensures.cluster) c.in-Some.ensures.cycles step gone is counted;
      stays = λ clean inside has.
          let clean_put : HasCleanDisk put = omega (arith, c.delete.ensures.survives.clean, clean) in
          let clean_read : HasCleanDisk read = omega (arith, c.insert.ensures.survives.clean, clean_put) in
          let listed = c.in_ok-rows.ensures.does clean_read has in
          let step = c.in_ok-insert.ensures.does clean_put (listed.1.0.mode ∙ inside) (has_still old read listed.1 has) in
          both_stay _ without_cluster old read put new inside has listed.1 step (c.in_ok-delete.ensures.does clean (step.shown.mode ∙ listed.1.0.mode ∙ inside) step.has);
      refused = tt;
      survives = survives_both old put new (survives_both old read put c.row_inside.ensures.survives c.insert.ensures.survives) c.delete.ensures.survives;
    }

pub returns-clause-number : goal.returns-clause-number
returns-clause-number g c clean inside has =
    let old = state g.S.Store c.args.tx.now.conn.now in
    let read = state g.S.Store c.row_inside.new.tx.conn.now in
    let put = state g.S.Store c.insert.new.tx.conn.now in
    let new = state g.S.Store c.delete.new.tx.conn.now in
    let clean_put : HasCleanDisk put = omega (arith, c.delete.ensures.survives.clean, clean) in
    let clean_read : HasCleanDisk read = omega (arith, c.insert.ensures.survives.clean, clean_put) in
    let listed = c.in_ok-rows.ensures.does clean_read has in
    let step = c.in_ok-insert.ensures.does clean_put (listed.1.0.mode ∙ inside) (has_still old read listed.1 has) in
    let gone : Changes without_cluster put new = c.in_ok-delete.ensures.does clean (step.shown.mode ∙ listed.1.0.mode ∙ inside) step.has in
    ap (λ (t : Tables). t.register) gone.now ∙ ap (λ (t : Tables). t.register) step.now ∙ ap (λ (t : Tables). t.register) (same_tables old read listed.1)
