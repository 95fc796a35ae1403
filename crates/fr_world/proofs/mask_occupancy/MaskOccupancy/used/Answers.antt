use Rattle.std.proofs.Common.{◌∙◌, ap}
use Rattle.std.specs.List.{count_by}
use Rattle.fr_base.specs.Cycles.{all_cycles, is_bit_set}
use Rattle.fr_base.specs.Load.{used_cycles}
use Rattle.fr_base.specs.Schedule.{fill}
use Rattle.fr_world.specs.Loads.{lane_of}
use Rattle.fr_world.specs.Masks.{word_on}
use Rattle.fr_world.proofs.LoadLaws.{word-used}
use Rattle.fr_world.proofs.RowLaws.{pairs}
use Rattle.fr_world.proofs.mask_occupancy.MaskOccupancy.used.Goals as goal

pub returns : goal.returns
returns c =
    c.marked_cycles.ensures
    ∙ ap (λ n. count_by (is_bit_set c.on-word.result) (all_cycles n)) c.cycles.ensures.value
    ∙ word-used c.args.params.now (pairs c.self.inside.rows.rows.items) c.self.inside.masks.slots.entries c.args.lane.slot c.args.lane.channel c.on-word.result c.self.invariant
    (c.on-word.ensures ∙ ap (word_on c.args.lane.channel) c.of.ensures)
    ∙ ap (λ ps. used_cycles c.args.params.now (fill ps) (lane_of c.args.lane)) c.self.view_is
