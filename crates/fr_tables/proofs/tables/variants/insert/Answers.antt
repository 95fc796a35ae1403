use Rattle.std.proofs.Common.{refl, pos, if◌then◌else◌}
use Rattle.std.specs.Prelude.{option_copied}
use Rattle.fr_tables.proofs.VariantLemmas.{inserts, bound_maybe}
use Rattle.fr_tables.proofs.TableOf.{runs}
use Rattle.fr_tables.proofs.tables.variants.insert.Goals as goal

pub returns : goal.returns
returns g c =
    runs (inserts c.args.name.now (option_copied c.args.parent) (pos c.args.depth) (if c.args.overlay then pos 1 else pos 0)) g.S.Store c.args.tx.now c.execute.new.self c.execute.result _ c.execute.ensures.same_reference c.execute.ensures.runs c.execute.ensures.survives
    (rw (c.params-to_sql.ensures, c.params-to_sql-2.ensures, c.params-to_sql-3.ensures, c.params-to_sql-4.ensures, bound_maybe c.text_of.result, c.text_of.ensures, c.as_str.ensures.value) refl)
