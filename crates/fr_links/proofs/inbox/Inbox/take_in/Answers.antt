use Rattle.std.proofs.Common.{arith, ◌≡◌, ◌++◌, IsSome}
use Rattle.std.proofs.lemmas.Grind.{common_steps}
use Rattle.fr_links.proofs.Told.{told_grows}
use Rattle.fr_links.proofs.inbox.Inbox.take_in.Goals as goal

pub returns-else-is_none-clause-told : goal.returns-else-is_none-clause-told
returns-else-is_none-clause-told g c =
    let is : IsSome c.args.self.now.need = grind (arith, common_steps) in
    let grown : c.extend_from_slice.new.self.items ≡ c.args.self.now.came.items ++ c.args.piece.now = grind (arith, common_steps) in
    told_grows (g.J.Judge.tells c.args.judge.now) c.args.self.now.need c.args.self.now.came.items c.args.piece.now _ is grown
