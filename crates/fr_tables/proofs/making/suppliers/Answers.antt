use Rattle.std.proofs.Common.{refl}
use Rattle.fr_tables.specs.Schema.{suppliers_at}
use Rattle.fr_tables.specs.SchemaText.{suppliers_text}
use Rattle.fr_tables.proofs.MakingLemmas.{makes_table, suppliers_is}
use Rattle.fr_tables.proofs.making.suppliers.Goals as goal

pub returns : goal.returns
returns g c =
    makes_table 2 0 3 2 suppliers_at suppliers_text suppliers_is refl refl g.S.Store c.args.tx.now c.execute.new.self c.execute.result c.execute.ensures.same_reference
    c.execute.ensures.runs c.execute.ensures.survives
