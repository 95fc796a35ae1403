use Rattle.std.proofs.Common.{refl}
use Rattle.fr_tables.specs.Schema.{frames_at}
use Rattle.fr_tables.specs.SchemaText.{frames_text}
use Rattle.fr_tables.proofs.MakingLemmas.{makes_table, frames_is}
use Rattle.fr_tables.proofs.making.frames.Goals as goal

pub returns : goal.returns
returns g c =
    makes_table 6 5 7 6 frames_at frames_text frames_is refl refl g.S.Store c.args.tx.now c.execute.new.self c.execute.result c.execute.ensures.same_reference
    c.execute.ensures.runs c.execute.ensures.survives
