use Rattle.std.proofs.Common.{◌∙◌, ap, drop, subst, take}
use Rattle.std.specs.Io.KnownBytes.{Appends}
use Rattle.fr_links.proofs.Moved.{to_the_end, wrote}
use Rattle.fr_links.proofs.outbox.Outbox.send_once.Goals as goal

pub returns-else-n-eq0-clause-out : goal.returns-else-n-eq0-clause-out
returns-else-n-eq0-clause-out g c =
    let sent = c.args.self.now.sent in
    wrote _ _ c.args.self.now.kept.items sent c.in-Ok.n
    (subst (λ xs. Appends (g.S.Wire.contents c.args.stream.now) (g.S.Wire.contents c.write_now.new.self) (take c.in-Ok.n xs))
    (to_the_end c.deref.result.now sent ∙ ap (drop sent) c.deref.ensures.value) c.in-Ok.ensures.bytes)
