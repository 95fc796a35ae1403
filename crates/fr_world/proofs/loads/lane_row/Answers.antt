use Rattle.fr_base.specs.Load.{load_row}
use Rattle.fr_world.proofs.loads.lane_row.Goals as goal

pub returns : goal.returns
unfolding load_row
returns c = λ grants holds. λ i. record { slot = c.args.lane.slot; channel = c.args.lane.channel; used = c.used.ensures i; cycles = c.cycles.ensures.value i; holder = holds i }
