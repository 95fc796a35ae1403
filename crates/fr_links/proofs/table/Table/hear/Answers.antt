use Rattle.std.proofs.Common.{rules, ◌≡◌, refl, subst, sym}
use Rattle.slab.specs.Slab.{with_value}
use Rattle.fr_links.specs.Connection.{Follows}
use Rattle.fr_links.specs.Connections.{Goes, IsKnown, at}
use Rattle.fr_links.specs.declared.stage.Stage.TheVariants.{Asking}
use Rattle.fr_links.proofs.Connecting.{same}
use Rattle.fr_links.proofs.Slots.{Follows-refl, Goes-stays, known_heard, known_stays, put_goes, put_known, ready_unanswered}
use Rattle.fr_links.proofs.Standing.{joined_stays, put_beside, queued_joins}
use Rattle.fr_links.proofs.table.Table.hear.Goals as goal
use Rattle.fr_links.proofs.table.Table.hear.Goals.{else-eq-via-then-eq+else-hear, else-eq-via-else-eq}

pub invariant_of-self-then-hear : goal.invariant_of-self-then-hear
invariant_of-self-then-hear g c =
    let t = c.args.self.now in
    record { queued = queued_joins t.links (with_value t.links c.args.key c.hear.new.self) _ _ _ c.args.key t.queued (put_beside t.links c.args.key c.in-Some.held.now c.hear.new.self (sym c.in-Some.ensures.value)) c.queue.ensures }

pub returns-then-hear-clause-own : goal.returns-then-hear-clause-own
returns-then-hear-clause-own g c =
    let held = c.in-Some.held.now in
    let links = c.args.self.now.links in
    let there = sym c.in-Some.ensures.value in
    let asking : held.stage ≡ Asking = search rules in
    Goes-stays _ _ _ _ _
    (put_goes _ _ links c.args.key held c.hear.new.self there c.hear.ensures.moved (subst (λ stage. Follows stage c.hear.new.self.stage) (sym asking) (ready_unanswered c.hear.new.self.stage c.if-hear.ensures.ready)) (λ not. absurd (not asking)))
    (joined_stays (with_value links c.args.key c.hear.new.self) _ _ _ c.args.key c.queue.ensures)

pub returns-else-eq-clause-own : goal.returns-else-eq-clause-own
returns-else-eq-clause-own g c =
    let held = c.in-Some.held.now in
    let key = c.args.key in
    let there = sym c.in-Some.ensures.value in
    elim c.else-eq.branch [
      | else-eq-via-then-eq+else-hear w ↦
          let asking : held.stage ≡ Asking = search rules in
          subst (λ table. Goes g.S.Wire.remaining g.S.Wire.contents (at c.args.self.now key) (at table key)) (sym w.self-is)
          (put_goes _ _ c.args.self.now.links key held w.hear.new.self there w.hear.ensures.moved (subst (Follows held.stage) (sym w.if-hear.ensures.stage) (Follows-refl held.stage))
          (λ not. absurd (not asking)))
      | else-eq-via-else-eq w ↦
          subst (λ table. Goes g.S.Wire.remaining g.S.Wire.contents (at c.args.self.now key) (at table key)) (sym w.self-is)
          (put_goes _ _ c.args.self.now.links key held held there (same _ _ held.link _) (Follows-refl held.stage) (λ _. refl))
    ]

pub returns-then-hear-clause-told : goal.returns-then-hear-clause-told
returns-then-hear-clause-told g c =
    let held = c.in-Some.held.now in
    let links = c.args.self.now.links in
    let tells = g.J.Judge.tells c.args.judge.now in
    let there = sym c.in-Some.ensures.value in
    let asking : held.stage ≡ Asking = search rules in
    λ known. known_stays tells _ _ (joined_stays (with_value links c.args.key c.hear.new.self) _ _ _ c.args.key c.queue.ensures)
    (put_known tells links c.args.key held c.hear.new.self there (known_heard tells _ held c.hear.new.self there asking c.hear.ensures.told known))

pub returns-else-eq-clause-told : goal.returns-else-eq-clause-told
returns-else-eq-clause-told g c =
    let held = c.in-Some.held.now in
    let key = c.args.key in
    let tells = g.J.Judge.tells c.args.judge.now in
    let there = sym c.in-Some.ensures.value in
    λ known. elim c.else-eq.branch [
      | else-eq-via-then-eq+else-hear w ↦
          let asking : held.stage ≡ Asking = search rules in
          subst (λ table. IsKnown tells (at table key)) (sym w.self-is)
          (put_known tells c.args.self.now.links key held w.hear.new.self there (known_heard tells _ held w.hear.new.self there asking w.hear.ensures.told known))
      | else-eq-via-else-eq w ↦
          subst (λ table. IsKnown tells (at table key)) (sym w.self-is)
          (put_known tells c.args.self.now.links key held held there (subst (IsKnown tells) there known))
    ]
