use Rattle.std.proofs.Common.{refl}
use Rattle.fr_tables.specs.Schema.{imports_at}
use Rattle.fr_tables.specs.SchemaText.{imports_text}
use Rattle.fr_tables.proofs.MakingLemmas.{makes_table, imports_is}
use Rattle.fr_tables.proofs.making.imports.Goals as goal

pub returns : goal.returns
returns g c =
    makes_table 9 8 10 9 imports_at imports_text imports_is refl refl g.S.Store c.args.tx.now c.execute.new.self c.execute.result c.execute.ensures.same_reference
    c.execute.ensures.runs c.execute.ensures.survives
