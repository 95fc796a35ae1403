use Rattle.std.proofs.Common.{◌++◌, subst}
use Rattle.std.proofs.lemmas.Result.{on_ok_weaker}
use Rattle.fr_base.specs.Proposals.{held_slots}
use Rattle.fr_base.specs.Turns.{turns_on}
use Rattle.fr_base.specs.declared.channel.Channels.TheVariants as channels
use Rattle.fr_world.specs.Pages.{own_rows_of}
use Rattle.fr_world.specs.Plans.{Takes}
use Rattle.fr_world.proofs.GivenRows.{turned-all}
use Rattle.fr_world.proofs.TurnLaws.{takes-more}
use Rattle.fr_world.proofs.proposal.turns.Plan.take_turns.Goals as goal

pub returns : goal.returns
returns c =
    let p = c.args.page.now.params in
    let on = held_slots (own_rows_of c.args.page.now) c.args.node in
    let turns = turns_on p c.args.wishes.now in
    let first = c.args.self.now in
    let a = c.take_turns_for.new.self in
    let b = c.take_turns_for-2.new.self in
    let d = c.take_turns_for-3.new.self in
    let both = takes-more p on first.cells a.cells b.cells first.given.items a.given.items b.given.items (turns channels.AB) (turns channels.A) c.in_ok-take_turns_for.ensures c.in_ok-take_turns_for-2.ensures in
    on_ok_weaker c.take_turns_for-3.result
    (λ last. subst (Takes p on first.cells d.cells first.given.items d.given.items) (turned-all p c.args.wishes.now)
    (takes-more p on first.cells b.cells d.cells first.given.items b.given.items d.given.items (turns channels.AB ++ turns channels.A) (turns channels.B) both last))
    c.take_turns_for-3.ensures
