use Rattle.std.proofs.Common.{refl}
use Rattle.fr_tables.specs.Schema.{signals_at}
use Rattle.fr_tables.specs.SchemaText.{signals_text}
use Rattle.fr_tables.proofs.MakingLemmas.{makes_table, signals_is}
use Rattle.fr_tables.proofs.making.signals.Goals as goal

pub returns : goal.returns
returns g c =
    makes_table 8 7 9 8 signals_at signals_text signals_is refl refl g.S.Store c.args.tx.now c.execute.new.self c.execute.result c.execute.ensures.same_reference
    c.execute.ensures.runs c.execute.ensures.survives
