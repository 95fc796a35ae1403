use Rattle.std.proofs.Common.{arith, ◌≡◌, length}
use Rattle.std.proofs.KnownBytes.{Keeps-refl}
use Rattle.std.proofs.lemmas.Grind.{common_steps}
use Rattle.fr_links.specs.Sending.{interim}
use Rattle.fr_links.proofs.Moved.{commute, goes_early, none_due, none_early, rests}
use Rattle.fr_links.proofs.outbox.Outbox.invite.Goals as goal

pub returns-in-Ok-clause-moved : goal.returns-in-Ok-clause-moved
unfolding interim
returns-in-Ok-clause-moved g c =
    let s = c.args.self.now in
    let empty : length s.kept.items ≡ 0 = grind (arith, common_steps) in
    goes_early _ _ _ _ _ c.in-Ok.ensures.bytes (none_early s.ahead s.passed (omega arith)) (none_due s.sent s.kept.items empty)

pub returns-in_default-clause-moved : goal.returns-in_default-clause-moved
returns-in_default-clause-moved g c =
    let s = c.args.self.now in
    rests _ _ _ _ c.in_default.ensures.bytes (commute s.ahead s.passed s.sent s.kept.items (λ before. let empty = s.turn before in grind (arith, common_steps)))

pub returns-else-is_empty-clause-moved : goal.returns-else-is_empty-clause-moved
returns-else-is_empty-clause-moved g c =
    let s = c.args.self.now in
    rests _ _ _ _ (Keeps-refl _) (commute s.ahead s.passed s.sent s.kept.items (λ before. let empty = s.turn before in grind (arith, common_steps)))
