use Rattle.std.proofs.Common.{◌≡◌, refl, ap, arith, subst, IfOk, IfSome}
use Rattle.sqlite.specs.Held.{state}
use Rattle.sqlite.specs.State.{HasCleanDisk}
use Rattle.fr_base.specs.Cluster.{ClusterFile}
use Rattle.fr_base.specs.declared.params.Params.{Params}
use Rattle.fr_world.specs.Held.{page_of}
use Rattle.fr_store.proofs.StoredLaws.{answered, given, told}
use Rattle.fr_store.proofs.AskedLemmas.{reads_ready}
use Rattle.fr_store.proofs.store_records.StoreRecords.page.Goals as goal

pub returns-clause-params : goal.returns-clause-params
returns-clause-params g c =
    let same = ap (λ (f : ClusterFile). f.cluster.params) c.require_ready.ensures.config in
    answered (λ found. IfSome found (λ page. page.params ≡ c.args.self.now.config.cluster.params)) c.page.result c.or_unavailable.result c.or_unavailable.ensures
    (subst (λ (p : Params). IfOk c.page.result (λ found. IfSome found (λ page. page.params ≡ p))) same c.page.ensures.params)

pub returns-clause-page : goal.returns-clause-page
returns-clause-page g c clean cluster b stored =
    let mid = state g.S.Store c.require_ready.new.store.conn in
    let clean_mid : HasCleanDisk mid = omega (arith, c.page.ensures.tells.spares.clean, clean) in
    let there = c.in_ok-require_ready.ensures.stands clean_mid cluster b stored in
    let ready = c.in_ok-require_ready.ensures.is_open clean_mid in
    told mid (state g.S.Store c.page.new.self.conn) c.require_ready.new.store.config c.page.new.self.config c.page.ensures.tells.config clean cluster b there
    (λ found. found ≡ page_of cluster.params b c.args.supplier c.args.variant) c.page.result c.or_unavailable.result c.or_unavailable.ensures ready c.page.ensures.tells.stays
    (given c.page.result (cluster.params.cycles ≡ cluster.params.cycles) (λ found. found ≡ page_of cluster.params b c.args.supplier c.args.variant) refl
    (subst (λ x. IfOk c.page.result (λ found. cluster.params.cycles ≡ x.cluster.params.cycles → found ≡ page_of x.cluster.params b c.args.supplier c.args.variant)) there.config (c.page.ensures.tells.told clean cluster b (there.rows ready).0)))

pub returns-clause-reads : goal.returns-clause-reads
returns-clause-reads g c = reads_ready c.in_ok-require_ready.ensures c.page.ensures.tells
