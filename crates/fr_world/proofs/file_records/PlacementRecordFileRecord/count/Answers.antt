use Rattle.std.proofs.Common.{◌∙◌}
use Rattle.fr_world.specs.Pages.{frame_data}
use Rattle.fr_world.proofs.RecordLaws.{records-count}
use Rattle.fr_world.proofs.file_records.PlacementRecordFileRecord.count.Goals as goal

pub returns : goal.returns
returns c k = c.len.ensures.len ∙ records-count k.0 k.1 (frame_data c.args.frame.now) c.len.ensures.ordered
