use Rattle.std.proofs.Common.{◌≡◌, ◌∙◌, ◌+◌, ◌<◌, ◌≤◌, Some, get_or, option_map, true, false, refl, sym, ap, arith}
use Rattle.fr_base.specs.Channels.{has_channel}
use Rattle.fr_base.specs.Cycles.{is_cycle_set}
use Rattle.fr_base.specs.Fittest.{Rated, is_free, least}
use Rattle.fr_base.specs.Room.{placed, places_on}
use Rattle.fr_base.specs.declared.channel.Channel.TheVariants as channel
use Rattle.fr_base.specs.declared.placement.Placement.{Placement}
use Rattle.fr_world.specs.Proposals.{broken_by, cycles_with, fittest_in, is_empty, rated_of}
use Rattle.fr_world.proofs.FitLaws.{answered-not, answered-some, broken-few, few-bases, few-on, fit_so_far, free-more, free-word, is-set, rated-words, repetition-within, taken-more}
use Rattle.fr_world.proofs.proposal.fit.fittest_in.Goals as goal
use Rattle.fr_world.proofs.proposal.fit.fittest_in.Goals.{in-Some, in_default}

pub broken_by_base-together-requires-clause-within : goal.broken_by_base-together-requires-clause-within
broken_by_base-together-requires-clause-within c = repetition-within c.args.params.now.cycles c.args.kind.repetition (omega (arith, c.cycles-cycles.ensures.value, c.cycles-cycles.ensures.range.0)) c.requires

pub broken_on-on_a-requires-clause-within : goal.broken_on-on_a-requires-clause-within
broken_on-on_a-requires-clause-within c = repetition-within c.args.params.now.cycles c.args.kind.repetition (omega (arith, c.cycles-cycles.ensures.value, c.cycles-cycles.ensures.range.0)) c.requires

pub broken_on-on_b-requires-clause-within : goal.broken_on-on_b-requires-clause-within
broken_on-on_b-requires-clause-within c = repetition-within c.args.params.now.cycles c.args.kind.repetition (omega (arith, c.cycles-cycles.ensures.value, c.cycles-cycles.ensures.range.0)) c.requires

pub loop-base-init : goal.loop-base-init
unfolding least
loop-base-init c ps shows = refl

pub bounds-together-base : goal.bounds-together-base
bounds-together-base c = omega (arith, c.loop-base-test.true, few-bases c.args.params.now.cycles c.cycles-cycles.result c.args.kind.repetition c.cycles-cycles.ensures.value c.cycles-cycles.ensures.range c.requires)

pub bounds-on_a-base : goal.bounds-on_a-base
bounds-on_a-base c = omega (arith, c.loop-base-test.true, few-bases c.args.params.now.cycles c.cycles-cycles.result c.args.kind.repetition c.cycles-cycles.ensures.value c.cycles-cycles.ensures.range c.requires)

pub bounds-on_b-base : goal.bounds-on_b-base
bounds-on_b-base c = omega (arith, c.loop-base-test.true, few-bases c.args.params.now.cycles c.cycles-cycles.result c.args.kind.repetition c.cycles-cycles.ensures.value c.cycles-cycles.ensures.range c.requires)

pub overflow_add-rated : goal.overflow_add-rated
overflow_add-rated c =
    let p = c.args.params.now in
    let kind = c.args.kind in
    let base = c.loop-base.base in
    let low = c.loop-base-test.true in
    let all : kind.repetition ≤ 64 = few-bases p.cycles c.cycles-cycles.result kind.repetition c.cycles-cycles.ensures.value c.cycles-cycles.ensures.range c.requires in
    let a : get_or c.broken_on-on_a.result base 0 ≤ kind.repetition = few-on (has_channel kind.channels channel.A) _ _ kind.repetition (c.broken_on-on_a.ensures base low) (broken-few p c.args.filled.a kind.repetition base) in
    let b : get_or c.broken_on-on_b.result base 0 ≤ kind.repetition = few-on (has_channel kind.channels channel.B) _ _ kind.repetition (c.broken_on-on_b.ensures base low) (broken-few p c.args.filled.b kind.repetition base) in
    omega (arith, all, a, b)

pub loop-base-preserved : goal.loop-base-preserved
loop-base-preserved c ps shows =
    let p = c.args.params.now in
    let cs = c.args.kind.channels in
    let r = c.args.kind.repetition in
    let slot = c.args.slot in
    let base = c.loop-base.base in
    let low = c.loop-base-test.true in
    let word = c.on_any-word.result in
    let set = is_cycle_set p.cycles base r in
    let empty = is_empty word (cycles_with p base r) in
    let free_is = free-word ps c.args.filled slot shows cs (cycles_with p base r) word c.on_any-word.ensures in
    elim c.match-free_cycles.branch [
      | in-Some w ↦
          let found = answered-some set empty (cycles_with p base r) c.free_cycles.result c.free_cycles.ensures w.in-Some.cycles w.in-Some.is in
          let place : Placement = record { slot = slot; channels = cs; cycles = w.in-Some.cycles } in
          let rated : Rated = record { place = place; together = get_or c.broken_by_base-together.result base 0; apart = get_or c.broken_on-on_a.result base 0 + get_or c.broken_on-on_b.result base 0 } in
          free-more (placed p r slot cs) ps base (base + 1) refl (option_map rated_of c.loop-base.fittest) (option_map rated_of c.match-free_cycles.fittest) rated
          (c.loop-base.invariant ps shows)
          (free_is ∙ found.0)
          (rated-words ps c.args.filled slot shows p cs r base word c.on_any-word.ensures rated (λ i. record { slot = slot; channels = cs; cycles = found.1 i }) _ _ (c.broken_by_base-together.ensures base low) refl (c.broken_on-on_a.ensures base low) (c.broken_on-on_b.ensures base low))
          (ap (option_map rated_of) w.fittest-is ∙ w.fitter-fittest.ensures)
      | in_default w ↦
          ap (option_map rated_of) w.fittest-is
          ∙ taken-more (placed p r slot cs) ps base (base + 1) refl (option_map rated_of c.loop-base.fittest) (c.loop-base.invariant ps shows)
          (free_is ∙ answered-not set empty (cycles_with p base r) c.free_cycles.result c.free_cycles.ensures (is-set p.cycles base r c.requires low) w.in_default.not-Some)
    ]

pub returns : goal.returns
unfolding fittest_in places_on
returns c ps shows =
    let r = c.args.kind.repetition in
    let end : c.loop-base.base ≡ r = omega (arith, c.loop-base-test.false, c.loop-base.auto.base-end) in
    c.loop-base.invariant ps shows ∙ ap (fit_so_far (placed c.args.params.now r c.args.slot c.args.kind.channels) ps) end
