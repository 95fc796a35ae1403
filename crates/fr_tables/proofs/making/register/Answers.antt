use Rattle.std.proofs.Common.{refl}
use Rattle.fr_tables.specs.Schema.{register_at}
use Rattle.fr_tables.specs.SchemaText.{register_text}
use Rattle.fr_tables.proofs.MakingLemmas.{makes_table, register_is}
use Rattle.fr_tables.proofs.making.register.Goals as goal

pub returns : goal.returns
returns g c =
    makes_table 0 0 1 0 register_at register_text register_is refl refl g.S.Store c.args.tx.now c.execute.new.self c.execute.result c.execute.ensures.same_reference
    c.execute.ensures.runs c.execute.ensures.survives
