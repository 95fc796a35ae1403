use Rattle.std.proofs.Common.{◌≡◌}
use Rattle.std.specs.List.{range_with_len}
use Rattle.fr_base.specs.Cells.{cells_in}
use Rattle.fr_base.specs.Channels.{channels_in}
use Rattle.fr_world.specs.Sendings.{filled, sent_in}
use Rattle.fr_world.proofs.sendings.schedule.Given as goal

-- what is sent in the cycles before
abbrev pub invariant-loop-cycle : goal.invariant-loop-cycle
invariant-loop-cycle l = l.rows ≡ sent_in (filled l.sendings.senders.now l.sendings.triggerings.now) (cells_in (range_with_len 0 l.cycle) l.slots.items (channels_in l.params.channels))
