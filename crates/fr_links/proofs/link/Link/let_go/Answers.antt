use Rattle.std.proofs.KnownBytes.{Consumes-kept, Consumes-trans, Keeps-trans}
use Rattle.fr_links.proofs.link.Link.let_go.Goals as goal
use Rattle.fr_links.proofs.link.Link.let_go.Goals.{in-Ok+in_ok-left-in-Ok, in-Err+in-Interrupted}

pub returns-in-Ok-eq0-clause-lost : goal.returns-in-Ok-eq0-clause-lost
returns-in-Ok-eq0-clause-lost g c =
    let i = c.loop.invariant in
    let read = c.in-Ok-eq0.ensures in
    (_, Consumes-trans _ _ _ _ _ i.lost.1 read.bytes.0)

pub returns-in_err-left-in-Ok-clause-lost : goal.returns-in_err-left-in-Ok-clause-lost
returns-in_err-left-in-Ok-clause-lost g c =
    let i = c.loop.invariant in
    let read = c.in-Ok.ensures in
    (_, Consumes-trans _ _ _ _ _ i.lost.1 read.bytes.0)

pub returns-in-WouldBlock-clause-lost : goal.returns-in-WouldBlock-clause-lost
returns-in-WouldBlock-clause-lost g c =
    let i = c.loop.invariant in
    let read = c.in-Err.ensures in
    (i.lost.0, Consumes-kept _ _ _ _ i.lost.1 read.bytes)

pub returns-in_default : goal.returns-in_default
returns-in_default g c =
    let i = c.loop.invariant in
    let read = c.in-Err.ensures in
    let rests = Keeps-trans _ _ _ i.contents read.contents in
    record {
      lost = (i.lost.0, Consumes-kept _ _ _ _ i.lost.1 read.bytes);
      inbox = i.inbox;
      outbox = i.outbox;
      contents = rests;
    }

pub loop-preserved : goal.loop-preserved
loop-preserved g c =
    let i = c.loop.invariant in
    elim c.match-read_now.branch [
      | in-Ok+in_ok-left-in-Ok w ↦
          record {
            lost = (_, Consumes-trans _ _ _ _ _ i.lost.1 w.in-Ok.ensures.bytes.0);
            contents = Keeps-trans _ _ _ i.contents w.in-Ok.ensures.contents;
            inbox = i.inbox;
            outbox = i.outbox;
          }
      | in-Err+in-Interrupted w ↦
          record {
            lost = (i.lost.0, Consumes-kept _ _ _ _ i.lost.1 w.in-Err.ensures.bytes);
            contents = Keeps-trans _ _ _ i.contents w.in-Err.ensures.contents;
            inbox = i.inbox;
            outbox = i.outbox;
          }
    ]
