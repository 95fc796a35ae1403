use Rattle.std.proofs.Common.{◌≡◌, map, take}
use Rattle.fr_base.specs.declared.request.FrameChange.TheVariants.{DropSignal}
use Rattle.fr_world.proofs.decision.freeing.ends_of_signals.Given as goal

-- the ends of the signals before
abbrev pub invariant-loop-signal : goal.invariant-loop-signal
invariant-loop-signal l = l.ends.items ≡ map (λ s. DropSignal s.name) (take l.signal-index l.frame.layout.signals)
