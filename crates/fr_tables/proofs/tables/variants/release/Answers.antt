use Rattle.std.proofs.Common.{refl}
use Rattle.fr_tables.proofs.VariantLemmas.{releases}
use Rattle.fr_tables.proofs.TableOf.{runs}
use Rattle.fr_tables.proofs.tables.variants.release.Goals as goal

pub returns : goal.returns
returns g c =
    runs (releases c.args.name.now) g.S.Store c.args.tx.now c.execute.new.self c.execute.result _ c.execute.ensures.same_reference c.execute.ensures.runs c.execute.ensures.survives
    (rw (c.params-to_sql.ensures, c.as_str.ensures.value) refl)
