use Rattle.std.proofs.Common.{refl}
use Rattle.fr_tables.specs.Schema.{cluster_at}
use Rattle.fr_tables.specs.SchemaText.{cluster_text}
use Rattle.fr_tables.proofs.MakingLemmas.{makes_table, cluster_is}
use Rattle.fr_tables.proofs.making.cluster.Goals as goal

pub returns : goal.returns
returns g c =
    makes_table 1 0 2 0 cluster_at cluster_text cluster_is refl refl g.S.Store c.args.tx.now c.execute.new.self c.execute.result c.execute.ensures.same_reference
    c.execute.ensures.runs c.execute.ensures.survives
