use Rattle.std.proofs.Common.{refl}
use Rattle.fr_store.proofs.MemoryLemmas.{always_clean}
use Rattle.fr_desks.proofs.memory_desk.MemoryDesk.run.Goals as goal

pub returns-clause-headline : goal.returns-clause-headline
returns-clause-headline c = c.run.ensures.headline (always_clean (λ _. refl) c.run.new.self.records.conn)
