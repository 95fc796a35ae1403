use Rattle.std.proofs.Common.{◌∙◌, inl, arith, ap}
use Rattle.sqlite.specs.State.{HasCleanDisk}
use Rattle.sqlite.specs.Held.{state}
use Rattle.fr_tables.specs.Changes.{Changes}
use Rattle.fr_tables.specs.Making.{IsRenewed}
use Rattle.fr_tables.specs.Statements.{with_number}
use Rattle.fr_tables.specs.Tables.{Tables}
use Rattle.fr_tables.specs.SchemaNumbers.{our_schema_number}
use Rattle.fr_tables.proofs.FillLemmas.{survives_both}
use Rattle.fr_store.proofs.AgainLemmas.{still_stands}
use Rattle.fr_store.proofs.BeforeLemmas.{migrated, number_after, renewed_keeps}
use Rattle.fr_store.proofs.InsideLemmas.{keeps_change, keeps_stay, keeps_then}
use Rattle.fr_store.proofs.migrating.change_schema.Goals as goal

pub returns-clause-migrated : goal.returns-clause-migrated
returns-clause-migrated g c =
    let old = state g.S.Store c.args.tx.now.conn.now in
    let made = state g.S.Store c.cluster2.new.tx.conn.now in
    let moved = state g.S.Store c.move_cluster.new.tx.conn.now in
    let done = state g.S.Store c.update.new.tx.conn.now in
    let new = state g.S.Store c.expect_config.new.tx.conn.now in
    record {
      same_reference = c.expect_config.ensures.opens.same_reference ∙ c.update.ensures.same_reference ∙ c.move_cluster.ensures.moved.same_reference ∙ c.cluster2.ensures.same_reference;
      does = λ clean inside cluster b stands.
          let clean_done : HasCleanDisk done = omega (arith, c.expect_config.ensures.opens.survives.clean, clean) in
          let clean_moved : HasCleanDisk moved = omega (arith, c.update.ensures.survives.clean, clean_done) in
          let clean_made : HasCleanDisk made = omega (arith, c.move_cluster.ensures.moved.survives.clean, clean_moved) in
          let first : IsRenewed old made = c.in_ok-cluster2.ensures.does clean_made inside stands.has in
          let within = first.shown.mode ∙ inside in
          let second = c.in_ok-move_cluster.ensures.moved.does clean_moved within first.has cluster.params cluster.integrator (ap (λ (t : Tables). t.cluster) first.same ∙ stands.for.heads.params) stands.for.heads.cycles in
          let goes = (c.in_ok-move_cluster.ensures.moved.stays clean_moved within first.has).1 in
          let third : Changes (with_number our_schema_number) moved done = c.in_ok-update.ensures.does clean_done goes.inside goes.has in
          let seen = c.in_ok-expect_config.ensures.same clean third.has in
          still_stands done new cluster b seen.0.now_is (migrated old made moved done cluster b stands first second third);
      refused = tt;
      survives = survives_both old done new (survives_both old moved done (survives_both old made moved c.cluster2.ensures.survives c.move_cluster.ensures.moved.survives) c.update.ensures.survives) c.expect_config.ensures.opens.survives;
    }

pub returns-clause-opens : goal.returns-clause-opens
returns-clause-opens g c clean inside has number =
    let old = state g.S.Store c.args.tx.now.conn.now in
    let made = state g.S.Store c.cluster2.new.tx.conn.now in
    let moved = state g.S.Store c.move_cluster.new.tx.conn.now in
    let done = state g.S.Store c.update.new.tx.conn.now in
    let clean_done : HasCleanDisk done = omega (arith, c.expect_config.ensures.opens.survives.clean, clean) in
    let clean_moved : HasCleanDisk moved = omega (arith, c.update.ensures.survives.clean, clean_done) in
    let clean_made : HasCleanDisk made = omega (arith, c.move_cluster.ensures.moved.survives.clean, clean_moved) in
    let first : IsRenewed old made = c.in_ok-cluster2.ensures.does clean_made inside has in
    let within = first.shown.mode ∙ inside in
    let goes = (c.in_ok-move_cluster.ensures.moved.stays clean_moved within first.has).1 in
    let third : Changes (with_number our_schema_number) moved done = c.in_ok-update.ensures.does clean_done goes.inside goes.has in
    c.in_ok-expect_config.ensures.opens.does clean third.has (number_after old made moved done number first (c.in_ok-move_cluster.ensures.number clean_moved within first.has) third)

pub returns-clause-stays : goal.returns-clause-stays
returns-clause-stays g c clean inside has =
    let old = state g.S.Store c.args.tx.now.conn.now in
    let made = state g.S.Store c.cluster2.new.tx.conn.now in
    let moved = state g.S.Store c.move_cluster.new.tx.conn.now in
    let done = state g.S.Store c.update.new.tx.conn.now in
    let new = state g.S.Store c.expect_config.new.tx.conn.now in
    let clean_done : HasCleanDisk done = omega (arith, c.expect_config.ensures.opens.survives.clean, clean) in
    let clean_moved : HasCleanDisk moved = omega (arith, c.update.ensures.survives.clean, clean_done) in
    let clean_made : HasCleanDisk made = omega (arith, c.move_cluster.ensures.moved.survives.clean, clean_moved) in
    let first : IsRenewed old made = c.in_ok-cluster2.ensures.does clean_made inside has in
    let second = c.in_ok-move_cluster.ensures.moved.stays clean_moved (first.shown.mode ∙ inside) first.has in
    let third = c.in_ok-update.ensures.does clean_done second.1.inside second.1.has in
    let seen = c.in_ok-expect_config.ensures.same clean third.has in
    let keeps = keeps_then old made done (renewed_keeps old made first) (keeps_then made moved done second.0 (keeps_change _ moved done second.1.inside third)) in (
      keeps_then old done new keeps (keeps_stay done new (inl seen)),
      seen.0.mode ∙ third.shown.mode ∙ second.1.inside,
    )
