use Rattle.std.proofs.Common.{[], subst, sym}
use Rattle.fr_links.specs.Connection.{Writes}
use Rattle.fr_links.proofs.Connecting.{box_rests}
use Rattle.fr_links.proofs.link.Link.hear.Goals as goal
use Rattle.fr_links.proofs.link.Link.hear.Goals.{else-eq-via-then-eq+else-take_invitation, else-eq-via-else-eq}

pub returns-else-eq-clause-written : goal.returns-else-eq-clause-written
returns-else-eq-clause-written g c =
    let rests = box_rests c.args.self.now.outbox _ _ c.hear-heard.ensures.quiet in
    elim c.else-eq.branch [
      | else-eq-via-then-eq+else-take_invitation w ↦ subst (λ link. Writes g.S.Wire.contents c.args.self.now link []) (sym w.self-is) rests
      | else-eq-via-else-eq w ↦ subst (λ link. Writes g.S.Wire.contents c.args.self.now link []) (sym w.self-is) rests
    ]
