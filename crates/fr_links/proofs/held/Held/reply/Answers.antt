use Rattle.fr_links.proofs.Connecting.{lets_go_after, moved_writes}
use Rattle.fr_links.proofs.held.Held.reply.Goals as goal

pub returns-in-More-clause-moved : goal.returns-in-More-clause-moved
returns-in-More-clause-moved g c = moved_writes _ _ _ _ _ c.send.ensures.remaining c.send.ensures.inbox c.send.ensures.written

pub returns-in-Failed-clause-moved : goal.returns-in-Failed-clause-moved
returns-in-Failed-clause-moved g c = moved_writes _ _ _ _ _ c.send.ensures.remaining c.send.ensures.inbox c.send.ensures.written

pub returns-clause-moved : goal.returns-clause-moved
returns-clause-moved g c =
    lets_go_after _ _ _ c.send.new.self _ _ c.send.ensures.written c.send.ensures.inbox c.send.ensures.remaining c.rest.ensures.moved c.rest.ensures.outbox c.rest.ensures.contents
