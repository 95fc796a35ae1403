use Rattle.fr_links.proofs.Connecting.{same}
use Rattle.fr_links.proofs.Slots.{Follows-refl, put_goes}
use Rattle.fr_links.proofs.table.Table.go_on.Goals as goal
use Rattle.std.proofs.Common.{refl, sym}

pub returns-in-Ready-clause-own : goal.returns-in-Ready-clause-own
returns-in-Ready-clause-own g c =
    let held = c.in-Some.held.now in
    put_goes _ _ c.args.self.now.links c.args.key held held (sym c.in-Some.ensures.value) (same _ _ held.link _) (Follows-refl held.stage) (λ _. refl)
