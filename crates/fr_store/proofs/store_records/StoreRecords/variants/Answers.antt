use Rattle.fr_store.proofs.AskedLemmas.{reads_ready, told_ready}
use Rattle.fr_store.proofs.store_records.StoreRecords.variants.Goals as goal

pub returns-clause-variants : goal.returns-clause-variants
returns-clause-variants g c = told_ready c.in_ok-require_ready.ensures c.variants.ensures.tells c.or_unavailable.result c.or_unavailable.ensures

pub returns-clause-reads : goal.returns-clause-reads
returns-clause-reads g c = reads_ready c.in_ok-require_ready.ensures c.variants.ensures.tells
