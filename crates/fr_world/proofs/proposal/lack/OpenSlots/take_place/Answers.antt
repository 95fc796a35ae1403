use Rattle.std.proofs.Common.{◌≡◌, ◌∙◌, suc, ◌++◌, [], ◌∷◌, sym, ap}
use Rattle.std.specs.Prelude.{unwrap_or}
use Rattle.std.specs.List.{range_with_len}
use Rattle.fr_base.specs.Fittest.{fittest}
use Rattle.fr_base.specs.Lacks.{slots_with}
use Rattle.fr_base.specs.Room.{placed}
use Rattle.fr_world.specs.declared.proposal.lack.OpenSlots.{OpenSlots}
use Rattle.fr_world.proofs.LackSlots.{opens-one}
use Rattle.fr_world.proofs.proposal.lack.OpenSlots.take_place.Goals as goal
use Rattle.fr_world.proofs.proposal.lack.OpenSlots.take_place.Goals.{in-Some, in-None+in_ok-place-in-None}

pub returns-clause-taken : goal.returns-clause-taken
returns-clause-taken c =
    let asked = c.args.asked.now in
    let rooms = c.args.rooms.now in
    let p = rooms.params in
    let cs = rooms.kind.channels in
    let r = rooms.kind.repetition in
    let first = c.args.self.now in
    let n = first.count in
    let found = c.fittest.result in
    let place = c.match-fittest.place in
    let now = c.match-fittest.self in
    let new = placed p r (suc n) cs 0 in
    let is : found ≡ fittest p first.cells (range_with_len 1 n) cs r = c.fittest.ensures first.cells (range_with_len 1 n) c.requires.rooms in
    elim c.match-fittest.branch [
      | in-Some w ↦
          opens-one p asked cs r n now.count first.cells c.add.new.self found place c.requires.kind is
          (w.place-is ∙ sym (ap (λ o. unwrap_or o new) w.in-Some.is))
          (ap (λ (s : OpenSlots). s.count) w.self-is ∙ sym (ap (slots_with n) w.in-Some.is))
          (c.in_ok-add.ensures.ok ∙ ap (λ (s : OpenSlots). s.cells ++ (asked.wish.frame, place) ∷ []) w.self-is)
      | in-None+in_ok-place-in-None w ↦
          opens-one p asked cs r n now.count first.cells c.add.new.self found place c.requires.kind is
          (w.place-is ∙ w.in_ok-place-in-None.ensures.place ∙ sym (ap (λ o. unwrap_or o new) w.in-None.is))
          (ap (λ (s : OpenSlots). s.count) w.self-is ∙ w.in_ok-place-in-None.ensures.count ∙ sym (ap (slots_with n) w.in-None.is))
          (c.in_ok-add.ensures.ok ∙ ap (λ (s : OpenSlots). s.cells ++ (asked.wish.frame, place) ∷ []) w.self-is ∙ ap (λ cells. cells ++ (asked.wish.frame, place) ∷ []) w.in_ok-place-in-None.ensures.cells)
    ]
