use Rattle.std.proofs.Common.{◌∙◌, ap, arith, inl, inr, IsTrue}
use Rattle.sqlite.specs.Held.{state}
use Rattle.sqlite.specs.State.{HasCleanDisk}
use Rattle.fr_base.specs.Cluster.{ClusterFile}
use Rattle.fr_store.proofs.StoredLaws.{cluster_stays, edits_stored, opened}
use Rattle.fr_store.specs.Crashes.{Serves}
use Rattle.fr_store.proofs.CrashLemmas.{edited_left}
use Rattle.fr_store.proofs.store_records.StoreRecords.apply.Goals as goal

pub returns-clause-applies : goal.returns-clause-applies
returns-clause-applies g c clean cluster b stored fit =
    let mid = state g.S.Store c.require_ready.new.store.conn in
    let clean_mid : HasCleanDisk mid = omega (arith, c.apply.ensures.edited.survives.clean, clean) in
    let there = c.in_ok-require_ready.ensures.stands clean_mid cluster b stored in
    let rows = there.rows (c.in_ok-require_ready.ensures.is_open clean_mid) in
    edits_stored mid (state g.S.Store c.apply.new.self.conn) c.require_ready.new.store.config c.apply.new.self.config c.args.edits.now cluster b there fit
    c.apply.result c.or_unavailable.result c.or_unavailable.ensures (c.apply.ensures.edited.stands clean cluster b rows.0 fit) (c.apply.ensures.edited.committed clean) c.apply.ensures.config
    c.apply.ensures.same (c.apply.ensures.edited.undone clean rows.0.has)

pub returns-clause-same : goal.returns-clause-same
returns-clause-same g c =
    let stays = cluster_stays c.apply.result c.require_ready.new.store.config c.apply.new.self.config c.args.edits.now c.apply.ensures.config c.apply.ensures.same in
    ap (λ cluster. cluster.params) stays ∙ ap (λ (f : ClusterFile). f.cluster.params) c.require_ready.ensures.config

pub returns-in_err-require_ready-clause-leaves : goal.returns-in_err-require_ready-clause-leaves
returns-in_err-require_ready-clause-leaves g c clean cluster b books stored fit left = inl (c.require_ready.ensures.reads.leaves clean cluster books left)

pub returns-clause-leaves : goal.returns-clause-leaves
returns-clause-leaves g c clean cluster b books stored fit left =
    let mid = state g.S.Store c.require_ready.new.store.conn in
    let clean_mid : HasCleanDisk mid = omega (arith, c.apply.ensures.edited.survives.clean, clean) in
    let rows = (c.in_ok-require_ready.ensures.stands clean_mid cluster b stored).rows (c.in_ok-require_ready.ensures.is_open clean_mid) in
    inr (edited_left mid (state g.S.Store c.apply.new.self.conn) c.args.edits.now c.apply.result c.apply.ensures.edited.survives clean cluster b books rows.0 rows.1 fit
    (c.apply.ensures.edited.stands clean cluster b rows.0 fit) (c.apply.ensures.edited.committed clean) (c.apply.ensures.edited.undone clean rows.0.has) (c.require_ready.ensures.reads.leaves clean_mid cluster books left))

pub returns-clause-open : goal.returns-clause-open
returns-clause-open g c clean =
    let new = state g.S.Store c.apply.new.self.conn in
    opened (IsTrue new.is_open) (Serves new) (λ up. record { up = up; settled = λ db may. g.met.S.Store.settled c.apply.new.self.conn.store db up may }) c.apply.result c.or_unavailable.result c.or_unavailable.ensures (c.apply.ensures.edited.is_open clean)
