use Rattle.fr_links.proofs.Turned.{goes_staying, reaches_after}
use Rattle.std.proofs.Common.{inl}
use Rattle.fr_links.proofs.links.Links.finish.Goals as goal

pub loop-init : goal.loop-init
loop-init g c = λ key. inl (goes_staying _ _ _ _ (c.let_go_unanswered.ensures key))

pub returns-in_err-turn-clause-each : goal.returns-in_err-turn-clause-each
returns-in_err-turn-clause-each g c = λ key. reaches_after _ _ _ _ _ _ (c.loop.invariant key) (c.turn.ensures.turns.reached.each key)

pub loop-preserved : goal.loop-preserved
loop-preserved g c = λ key. reaches_after _ _ _ _ _ _ (c.loop.invariant key) (c.turn.ensures.turns.reached.each key)
