use Rattle.std.proofs.Common.{refl}
use Rattle.fr_store.proofs.MemoryLemmas.{always_clean}
use Rattle.fr_desks.proofs.memory_desk.MemoryDeskDesk.ask.Goals as goal

pub returns-clause-answered : goal.returns-clause-answered
returns-clause-answered c = λ _. c.ask.ensures.answers (always_clean (λ _. refl) c.ask.new.self.records.conn)
