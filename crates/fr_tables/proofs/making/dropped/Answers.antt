use Rattle.std.proofs.Common.{refl}
use Rattle.fr_tables.specs.Schema.{dropped_at}
use Rattle.fr_tables.specs.SchemaText.{dropped_text}
use Rattle.fr_tables.proofs.MakingLemmas.{makes_table, dropped_is}
use Rattle.fr_tables.proofs.making.dropped.Goals as goal

pub returns : goal.returns
returns g c =
    makes_table 10 9 11 10 dropped_at dropped_text dropped_is refl refl g.S.Store c.args.tx.now c.execute.new.self c.execute.result c.execute.ensures.same_reference
    c.execute.ensures.runs c.execute.ensures.survives
