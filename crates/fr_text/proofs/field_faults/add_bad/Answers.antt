use Rattle.std.proofs.Common.{arith}
use Rattle.std.proofs.lemmas.Grind.{common_steps}
use Rattle.std.proofs.lemmas.List.Elements.{filter_map-append}
use Rattle.fr_text.proofs.field_faults.add_bad.Goals as goal

pub loop-asked-preserved : goal.loop-asked-preserved
loop-asked-preserved c = grind (arith, common_steps, filter_map-append)
