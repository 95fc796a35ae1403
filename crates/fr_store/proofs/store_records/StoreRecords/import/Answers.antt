use Rattle.fr_store.proofs.AskedLemmas.{reads_ready, told_ready}
use Rattle.fr_store.proofs.store_records.StoreRecords.import.Goals as goal

pub returns-clause-import : goal.returns-clause-import
returns-clause-import g c = told_ready c.in_ok-require_ready.ensures c.import.ensures c.or_unavailable.result c.or_unavailable.ensures

pub returns-clause-reads : goal.returns-clause-reads
returns-clause-reads g c = reads_ready c.in_ok-require_ready.ensures c.import.ensures
