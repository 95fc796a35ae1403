use Rattle.fr_world.proofs.PageLaws.{rows-kept}
use Rattle.fr_world.proofs.laws.sound_rows_are_a_page.Goals as goal

pub returns : goal.returns
returns c = rows-kept
