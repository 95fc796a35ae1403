use Rattle.std.proofs.Common.{◌≡◌, ◌∙◌, ◌+◌, ◌++◌, [], ◌∷◌, true, false, filter, take, take_all, refl, sym, ap, subst, rules, tests, arith}
use Rattle.std.specs.List.{list_any}
use Rattle.fr_base.specs.Turns.{is_for}
use Rattle.fr_base.specs.declared.params.Params.{Params}
use Rattle.fr_world.specs.Plans.{Takes, TakesOne}
use Rattle.fr_world.specs.Proposals.{ShowRooms}
use Rattle.fr_world.specs.declared.proposal.fit.Kind.{Kind}
use Rattle.fr_world.specs.declared.proposal.rooms.Rooms.{Rooms}
use Rattle.fr_world.specs.declared.proposal.turns.Plan.{Plan}
use Rattle.fr_world.proofs.TurnLaws.{kept-next, left-next, none-kept, takes-more, takes-none, takes-one}
use Rattle.fr_world.proofs.proposal.turns.Plan.take_alike.Goals as goal
use Rattle.fr_world.proofs.proposal.turns.Plan.take_alike.Goals.{then-is_for+in_ok-take_place, else-is_for}

pub returns-then-not-has_kind : goal.returns-then-not-has_kind
returns-then-not-has_kind c on at =
    let t = is_for c.args.kind.channels c.args.kind.repetition in
    let none : list_any t c.args.wishes.now ≡ false = sym c.has_kind.ensures ∙ c.if-not-has_kind.true in
    subst (Takes c.args.params.now on c.args.self.now.cells c.args.self.now.cells c.args.self.now.given.items c.args.self.now.given.items) (sym (none-kept t c.args.wishes.now none)) (takes-none c.args.params.now on c.args.self.now.cells c.args.self.now.given.items)

pub loop-asked-init : goal.loop-asked-init
loop-asked-init c = record {
  params = c.in_ok-rooms.ensures.0;
  kind = c.in_ok-rooms.ensures.1;
  rooms = c.in_ok-rooms.ensures.2;
  taken = λ on at. takes-none c.args.params.now on c.args.self.now.cells c.args.self.now.given.items;
}

pub loop-asked-preserved : goal.loop-asked-preserved
loop-asked-preserved c =
    let p = c.args.params.now in
    let kind = c.args.kind in
    let t = is_for kind.channels kind.repetition in
    let slots = c.args.slots.now in
    let wishes = c.args.wishes.now in
    let i = c.loop-asked.asked-index in
    let asked = c.asked-item.result in
    let first = c.args.self.now in
    let old = c.loop-asked.self in
    let before = c.loop-asked.invariant in
    elim c.if-is_for.branch [
      | then-is_for+in_ok-take_place w ↦
          let passes : t asked ≡ true = sym c.is_for.ensures ∙ w.if-is_for.true in
          let new = w.take_place.new.self in
          let one = w.in_ok-take_place.ensures.taken slots before.rooms in
          let taken = subst (λ (z : Params × Kind). TakesOne z.0 z.1 slots asked old.cells new.cells old.given.items new.given.items w.take_place.new.rooms) (λ j. (before.params j, before.kind j)) one in
          record {
            params = ap (λ (r : Rooms). r.params) w.rooms-is ∙ w.in_ok-take_place.ensures.params ∙ before.params;
            kind = ap (λ (r : Rooms). r.kind) w.rooms-is ∙ w.in_ok-take_place.ensures.kind ∙ before.kind;
            rooms = subst (λ (z : Rooms × Plan). ShowRooms z.0 z.1.cells slots) (λ j. (sym w.rooms-is j, sym w.self-is j)) one.rooms;
            taken = λ on at.
                subst (λ (self : Plan). Takes p on first.cells self.cells first.given.items self.given.items (filter t (take (i + 1) wishes))) (sym w.self-is)
                (subst (Takes p on first.cells new.cells first.given.items new.given.items) (kept-next t wishes i asked c.loop-asked-test.true c.asked-item.is passes)
                (takes-more p on first.cells old.cells new.cells first.given.items old.given.items new.given.items (filter t (take i wishes)) (asked ∷ []) (before.taken on at)
                (takes-one p on asked slots kind.channels kind.repetition old.cells new.cells old.given.items new.given.items passes at taken.given taken.filled)));
          }
      | else-is_for w ↦
          let fails : t asked ≡ false = sym c.is_for.ensures ∙ w.if-is_for.false in
          record {
            params = ap (λ (r : Rooms). r.params) w.rooms-is ∙ before.params;
            kind = ap (λ (r : Rooms). r.kind) w.rooms-is ∙ before.kind;
            rooms = subst (λ (z : Rooms × Plan). ShowRooms z.0 z.1.cells slots) (λ j. (sym w.rooms-is j, sym w.self-is j)) before.rooms;
            taken = λ on at.
                subst (λ (self : Plan). Takes p on first.cells self.cells first.given.items self.given.items (filter t (take (i + 1) wishes))) (sym w.self-is)
                (subst (Takes p on first.cells old.cells first.given.items old.given.items) (left-next t wishes i asked c.loop-asked-test.true c.asked-item.is fails) (before.taken on at));
          }
    ]

pub returns : goal.returns
returns c on at =
    let t = is_for c.args.kind.channels c.args.kind.repetition in
    subst (Takes c.args.params.now on c.args.self.now.cells c.loop-asked.self.cells c.args.self.now.given.items c.loop-asked.self.given.items)
    (ap (filter t) (take_all c.loop-asked.asked-index c.args.wishes.now (omega (arith, c.loop-asked-test.false)))) (c.loop-asked.invariant.taken on at)
