use Rattle.fr_links.proofs.Connecting.{box_commutes, goes_out, moves_kept}
use Rattle.fr_links.proofs.link.Link.send.Goals as goal

pub returns-in-More-clause-written : goal.returns-in-More-clause-written
returns-in-More-clause-written g c = goes_out _ _ _ _ _ _ c.send.ensures.out c.send.ensures.early (box_commutes c.args.self.now.outbox)

pub returns-in-Failed-clause-written : goal.returns-in-Failed-clause-written
returns-in-Failed-clause-written g c = goes_out _ _ _ _ _ _ c.send.ensures.out c.send.ensures.early (box_commutes c.args.self.now.outbox)

pub returns-in-Ok-clause-written : goal.returns-in-Ok-clause-written
returns-in-Ok-clause-written g c =
    moves_kept _ _ _ _ _ _ _ _ (goes_out _ _ _ _ _ _ c.send.ensures.out c.send.ensures.early (box_commutes c.args.self.now.outbox)) c.end_output.ensures.contents

pub returns-in-Err-clause-written : goal.returns-in-Err-clause-written
returns-in-Err-clause-written g c =
    moves_kept _ _ _ _ _ _ _ _ (goes_out _ _ _ _ _ _ c.send.ensures.out c.send.ensures.early (box_commutes c.args.self.now.outbox)) c.end_output.ensures.contents
