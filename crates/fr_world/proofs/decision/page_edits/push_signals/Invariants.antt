use Rattle.std.proofs.Common.{◌≡◌, ◌++◌, not, map, filter, take}
use Rattle.fr_base.specs.declared.request.FrameChange.TheVariants.{AddSignal}
use Rattle.fr_world.specs.PageEdits.{carries, lent_frame}
use Rattle.fr_world.proofs.decision.page_edits.push_signals.Given as goal

-- those of the signals before were appended
abbrev pub invariant-loop-signal : goal.invariant-loop-signal
invariant-loop-signal l =
    l.changes.items ≡ l.fn.changes.items ++ map AddSignal (filter (λ s. not (carries (lent_frame l.other) s)) (take l.signal-index l.frame.layout.signals))
