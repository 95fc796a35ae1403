use Rattle.std.proofs.Common.{◌≡◌, eqb, drop}
use Rattle.std.specs.List.{find}
use Rattle.fr_world.proofs.proposal.place_at.Given as goal

-- none before
abbrev pub invariant-loop-one : goal.invariant-loop-one
invariant-loop-one l = find (λ g. eqb g.asked.line l.line) (drop l.one-index l.given) ≡ find (λ g. eqb g.asked.line l.line) l.given
