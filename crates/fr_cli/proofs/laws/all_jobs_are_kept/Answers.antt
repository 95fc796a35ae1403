use Rattle.fr_cli.proofs.SeriesLaws.{all_jobs_are_kept}
use Rattle.fr_cli.proofs.laws.all_jobs_are_kept.Goals as goal

pub returns : goal.returns
returns c = all_jobs_are_kept
