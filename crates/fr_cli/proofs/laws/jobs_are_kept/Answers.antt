use Rattle.fr_cli.proofs.SeriesLaws.{jobs_are_kept}
use Rattle.fr_cli.proofs.laws.jobs_are_kept.Goals as goal

pub returns : goal.returns
returns c = jobs_are_kept
