use Rattle.fr_links.proofs.Connecting.{moved_lets_go}
use Rattle.fr_links.proofs.held.Held.rest.Goals as goal

pub returns-then-is_some-clause-moved : goal.returns-then-is_some-clause-moved
returns-then-is_some-clause-moved g c =
    let gone = c.let_go-left.ensures in
    moved_lets_go _ _ _ _ _ gone.lost.0 gone.lost.1 gone.contents gone.inbox gone.outbox tt

pub returns-else-is_some-clause-moved : goal.returns-else-is_some-clause-moved
returns-else-is_some-clause-moved g c =
    let gone = c.let_go-left.ensures in
    moved_lets_go _ _ _ _ _ gone.lost.0 gone.lost.1 gone.contents gone.inbox gone.outbox tt
