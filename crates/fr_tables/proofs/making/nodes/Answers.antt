use Rattle.std.proofs.Common.{refl}
use Rattle.fr_tables.specs.Schema.{nodes_at}
use Rattle.fr_tables.specs.SchemaText.{nodes_text}
use Rattle.fr_tables.proofs.MakingLemmas.{makes_table, nodes_is}
use Rattle.fr_tables.proofs.making.nodes.Goals as goal

pub returns : goal.returns
returns g c =
    makes_table 3 2 4 3 nodes_at nodes_text nodes_is refl refl g.S.Store c.args.tx.now c.execute.new.self c.execute.result c.execute.ensures.same_reference
    c.execute.ensures.runs c.execute.ensures.survives
