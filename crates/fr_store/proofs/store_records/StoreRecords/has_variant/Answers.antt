use Rattle.std.proofs.Common.{rules, ◌≡◌, ◌==◌, ◌∙◌, Ok, Err, not, length, ap, refl}
use Rattle.sqlite.specs.Held.{state}
use Rattle.fr_base.specs.Tables.{contains}
use Rattle.fr_base.specs.declared.refusal.Refusal.TheVariants.{Unavailable}
use Rattle.fr_tables.specs.Changes.{tables_of}
use Rattle.fr_store.specs.declared.fault.StoreFault.TheVariants as fault
use Rattle.fr_store.proofs.ViewLemmas.{has_told}
use Rattle.fr_store.proofs.AskedLemmas.{only_tells, reads_ready, told_ready}
use Rattle.fr_store.proofs.store_records.StoreRecords.has_variant.Goals as goal

pub returns-in-Ok-clause-has : goal.returns-in-Ok-clause-has
returns-in-Ok-clause-has g c =
    let mid = c.require_ready.new.store in
    let has = not c.is_empty.result in
    let none : c.is_empty.result ≡ (length c.in-Ok.rows.items == 0) = search rules in
    told_ready c.in_ok-require_ready.ensures
    (only_tells g.S.Store mid c.one.new.conn _ c.one.result c.one.ensures.spares c.one.ensures.does (λ _ b has. has ≡ contains b.variants c.args.variant) (Ok has) tt (λ clean cluster b stands.
    ap not none ∙ has_told (tables_of (state g.S.Store mid.conn)) cluster.params.cycles b stands.for.rows c.args.variant c.in-Ok.rows.items (c.in-Ok.ensures.does clean stands.has).0))
    (Ok has) refl

pub returns-in-Ok-clause-reads : goal.returns-in-Ok-clause-reads
returns-in-Ok-clause-reads g c =
    reads_ready c.in_ok-require_ready.ensures
    (only_tells g.S.Store c.require_ready.new.store c.one.new.conn _ c.one.result c.one.ensures.spares c.one.ensures.does (λ _ _ has. has ≡ has) (Ok (not c.is_empty.result)) tt (λ _ _ _ _. refl))

pub returns-in-Err-clause-has : goal.returns-in-Err-clause-has
returns-in-Err-clause-has g c =
    told_ready c.in_ok-require_ready.ensures
    (only_tells g.S.Store c.require_ready.new.store c.one.new.conn _ c.one.result c.one.ensures.spares c.one.ensures.does (λ _ b has. has ≡ contains b.variants c.args.variant) (Err fault.Unavailable) refl (λ _ _ _ _. tt))
    (Err Unavailable) refl

pub returns-in-Err-clause-reads : goal.returns-in-Err-clause-reads
returns-in-Err-clause-reads g c =
    reads_ready c.in_ok-require_ready.ensures
    (only_tells g.S.Store c.require_ready.new.store c.one.new.conn _ c.one.result c.one.ensures.spares c.one.ensures.does (λ _ b has. has ≡ contains b.variants c.args.variant) (Err fault.Unavailable) refl (λ _ _ _ _. tt))
