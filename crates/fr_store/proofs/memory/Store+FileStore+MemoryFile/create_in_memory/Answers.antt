use Rattle.std.proofs.Common.{refl}
use Rattle.fr_store.proofs.MemoryLemmas.{always_clean}
use Rattle.fr_store.proofs.memory.Store+FileStore+MemoryFile.create_in_memory.Goals as goal

pub returns-in-Ok-clause-made : goal.returns-in-Ok-clause-made
returns-in-Ok-clause-made c = (c.in-Ok.ensures.made (always_clean (λ _. refl) c.in-Ok.store.conn)).made

pub returns-in-Ok-clause-stands : goal.returns-in-Ok-clause-stands
returns-in-Ok-clause-stands c = (c.in-Ok.ensures.made (always_clean (λ _. refl) c.in-Ok.store.conn)).stands

pub returns-in-Ok-clause-committed : goal.returns-in-Ok-clause-committed
returns-in-Ok-clause-committed c = (c.in-Ok.ensures.made (always_clean (λ _. refl) c.in-Ok.store.conn)).committed
