use Rattle.std.proofs.Common.{◌∙◌, sym, ap}
use Rattle.std.specs.List.{list_any}
use Rattle.fr_base.specs.Channels.{channels_in}
use Rattle.fr_base.specs.Cycles.{is_bit_set}
use Rattle.fr_world.specs.Masks.{word_on}
use Rattle.fr_world.proofs.FitLaws.{any-of_both}
use Rattle.fr_world.proofs.filled_cycles.FilledCycles.on_any.Goals as goal

pub returns-in-AB : goal.returns-in-AB
returns-in-AB c k = any-of_both c.args.self k ∙ ap (λ cs. list_any (λ x. is_bit_set (word_on x c.args.self) k) (channels_in cs)) (sym c.in-AB.is)
