use Rattle.std.proofs.Common.{refl}
use Rattle.fr_tables.specs.Schema.{grants_at}
use Rattle.fr_tables.specs.SchemaText.{grants_text}
use Rattle.fr_tables.proofs.MakingLemmas.{makes_table, grants_is}
use Rattle.fr_tables.proofs.making.grants.Goals as goal

pub returns : goal.returns
returns g c =
    makes_table 5 4 6 5 grants_at grants_text grants_is refl refl g.S.Store c.args.tx.now c.execute.new.self c.execute.result c.execute.ensures.same_reference
    c.execute.ensures.runs c.execute.ensures.survives
