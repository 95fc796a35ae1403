use Rattle.std.proofs.Common.{subst, sym}
use Rattle.sqlite.specs.Files.{file_state}
use Rattle.fr_store.specs.Crashes.{LeavesOnly}
use Rattle.fr_desks.proofs.file_desk.give_up.Goals as goal

pub returns : goal.returns
returns g c = λ are image may k books left.
    let there : LeavesOnly (file_state c.into_records.result.conn) k books =
    subst (λ s. LeavesOnly (file_state s.conn) k books) (sym c.into_records.ensures) left.left in
    c.give_up.ensures.left are image may k books there
