use Rattle.std.proofs.Common.{refl}
use Rattle.fr_tables.specs.Schema.{variants_at}
use Rattle.fr_tables.specs.SchemaText.{variants_text}
use Rattle.fr_tables.proofs.MakingLemmas.{makes_table, variants_is}
use Rattle.fr_tables.proofs.making.variants.Goals as goal

pub returns : goal.returns
returns g c =
    makes_table 4 3 5 4 variants_at variants_text variants_is refl refl g.S.Store c.args.tx.now c.execute.new.self c.execute.result c.execute.ensures.same_reference
    c.execute.ensures.runs c.execute.ensures.survives
