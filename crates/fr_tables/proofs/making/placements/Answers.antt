use Rattle.std.proofs.Common.{refl}
use Rattle.fr_tables.specs.Schema.{placements_at}
use Rattle.fr_tables.specs.SchemaText.{placements_text}
use Rattle.fr_tables.proofs.MakingLemmas.{makes_table, placements_is}
use Rattle.fr_tables.proofs.making.placements.Goals as goal

pub returns : goal.returns
returns g c =
    makes_table 7 6 8 7 placements_at placements_text placements_is refl refl g.S.Store c.args.tx.now c.execute.new.self c.execute.result c.execute.ensures.same_reference
    c.execute.ensures.runs c.execute.ensures.survives
