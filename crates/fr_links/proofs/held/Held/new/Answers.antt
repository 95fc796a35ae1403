use Rattle.std.proofs.Common.{subst, sym}
use Rattle.fr_links.specs.Connection.{Follows, IsMoved}
use Rattle.fr_links.proofs.Connecting.{moved_kept}
use Rattle.fr_links.proofs.Slots.{Follows-refl}
use Rattle.fr_links.specs.declared.stage.Ending.TheVariants.{Failed}
use Rattle.fr_links.specs.declared.stage.Stage.TheVariants.{Ready}
use Rattle.fr_links.proofs.held.Held.new.Goals as goal

pub returns-then-is_ready-clause-begun : goal.returns-then-is_ready-clause-begun
returns-then-is_ready-clause-begun g c =
    let n = c.new.ensures in
    record { first = c.new.result; over = n.stream; empty = n.came; none_due = n.due; none_early = n.early; moved = c.hear-is_ready.ensures.moved }

pub returns-then-is_told-clause-begun : goal.returns-then-is_told-clause-begun
returns-then-is_told-clause-begun g c =
    let n = c.new.ensures in
    let w = c.watch-is_told.ensures in
    record {
      first = c.new.result;
      over = n.stream;
      empty = n.came;
      none_due = n.due;
      none_early = n.early;
      moved = moved_kept _ _ _ _ _ _ _ c.hear-is_ready.ensures.moved (subst (Follows _) (sym w.stage) (Follows-refl _)) w.remaining w.contents w.inbox w.outbox;
    }

pub returns-clause-begun : goal.returns-clause-begun
returns-clause-begun g c =
    let n = c.new.ensures in
    let w = c.watch-is_told.ensures in
    let follows : Follows c.hear-is_ready.new.self.stage c.give_up.new.self.stage =
    subst (Follows _) (sym c.give_up.ensures.stage) (subst (λ stage. Follows stage (Ready Failed)) (sym c.if-is_ready.ensures.stage) tt) in
    record {
      first = c.new.result;
      over = n.stream;
      empty = n.came;
      none_due = n.due;
      none_early = n.early;
      moved = subst (λ link. IsMoved g.S.Wire.remaining g.S.Wire.contents c.new.result link c.give_up.new.self.stage) (sym c.give_up.ensures.link)
          (moved_kept _ _ _ _ _ _ _ c.hear-is_ready.ensures.moved follows w.remaining w.contents w.inbox w.outbox);
    }
