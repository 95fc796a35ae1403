use Rattle.std.proofs.Common.{◌≡◌, ◌++◌, filter, is_some, map, take}
use Rattle.std.specs.Prelude.{is_none}
use Rattle.fr_base.specs.Turns.{places_given}
use Rattle.fr_world.proofs.proposal.plan_with.Given as goal

-- what was kept so far, and the wishes that keep nothing
abbrev pub invariant-loop-one : goal.invariant-loop-one
invariant-loop-one l = record {
  cells : l.plan.cells ≡ l.fn.cells ++ places_given (take l.one-index l.one-items);
  given : l.plan.given.items ≡ filter (λ g. is_some g.place) (take l.one-index l.one-items);
  others : l.others.items ≡ map (λ g. g.asked) (filter (λ g. is_none g.place) (take l.one-index l.one-items));
}
