use Rattle.fr_store.proofs.AskedLemmas.{reads_ready, told_ready}
use Rattle.fr_store.proofs.store_records.StoreRecords.imports.Goals as goal

pub returns-clause-imports : goal.returns-clause-imports
returns-clause-imports g c = told_ready c.in_ok-require_ready.ensures c.imports.ensures c.or_unavailable.result c.or_unavailable.ensures

pub returns-clause-reads : goal.returns-clause-reads
returns-clause-reads g c = reads_ready c.in_ok-require_ready.ensures c.imports.ensures
