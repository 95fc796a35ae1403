use Rattle.std.proofs.Common.{subst, sym}
use Rattle.sqlite.specs.Files.{file_state}
use Rattle.sqlite.specs.State.{HasCleanDisk}
use Rattle.fr_office.specs.Crashed.{IsKept}
use Rattle.fr_store.specs.Crashes.{StoredLeaves}
use Rattle.fr_cli.proofs.files.local_registers.LocalRegistersRegisters.close.Goals as goal

pub returns-clause-clean : goal.returns-clause-clean
returns-clause-clean g c = λ kept. subst (λ w. HasCleanDisk (file_state w.records.conn)) c.new.ensures.value (c.close.ensures.clean kept)

pub returns-clause-book : goal.returns-clause-book
returns-clause-book g c = λ k b stood kept.
    c.close.ensures.book k b (c.new.ensures.stands k b stood, subst (λ w. IsKept (StoredLeaves (file_state w.records.conn) k) k b) (sym c.new.ensures.value) kept)
