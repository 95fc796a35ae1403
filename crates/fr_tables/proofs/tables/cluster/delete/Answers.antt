use Rattle.std.proofs.Common.{refl}
use Rattle.fr_tables.proofs.ClusterLemmas.{deletes}
use Rattle.fr_tables.proofs.TableOf.{runs}
use Rattle.fr_tables.proofs.tables.cluster.delete.Goals as goal

pub returns : goal.returns
returns g c =
    runs deletes g.S.Store c.args.tx.now c.execute.new.self c.execute.result _ c.execute.ensures.same_reference c.execute.ensures.runs c.execute.ensures.survives
    refl
