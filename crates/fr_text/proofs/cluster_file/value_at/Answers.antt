use Rattle.toml.proofs.Views.{table_get}
use Rattle.fr_text.proofs.ClusterFileLemmas.{found_or}
use Rattle.fr_text.proofs.cluster_file.value_at.Goals as goal

pub returns : goal.returns
returns c =
    found_or c.get.result c.ok_or.result _
    (table_get c.get.result c.args.key.now c.args.file.now.entries c.get.ensures.value) c.ok_or.ensures.value
