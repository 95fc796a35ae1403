use Rattle.std.proofs.Common.{◌≡◌, [], ◌∷◌, ◌++◌, take}
use Rattle.fr_base.specs.Cells.{cells_in}
use Rattle.fr_base.specs.Channels.{channels_in}
use Rattle.fr_world.specs.Sendings.{filled, sent_in}
use Rattle.fr_world.proofs.ScheduleLaws.{column}
use Rattle.fr_world.proofs.sendings.push_cycle.Given as goal

-- what was there, and what is sent in the slots so far
abbrev pub invariant-loop-slot : goal.invariant-loop-slot
invariant-loop-slot l = l.rows ≡ l.fn.rows ++ sent_in (filled l.sendings.senders.now l.sendings.triggerings.now) (cells_in (l.cycle ∷ []) (take l.slot-index l.slots) (channels_in l.channels))

-- and on the slot's channels so far
abbrev pub invariant-loop-channel : goal.invariant-loop-channel
invariant-loop-channel l = l.rows ≡ l.initial.rows ++ sent_in (filled l.sendings.senders.now l.sendings.triggerings.now) (column l.cycle l.slot (take l.channel-index l.channel-items))
