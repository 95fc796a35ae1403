-- Law of a released variant's plan: what shows it to a reader shows it ever after, and nothing else does.
use Rattle.std.specs.Prelude.{◌≡◌, List, Some, IsTrue}
use Rattle.fr_base.specs.Book.{Book, Variant, file_of}
use Rattle.fr_base.specs.Cluster.{Cluster}
use Rattle.fr_base.specs.Run.{IsRun}
use Rattle.fr_base.specs.Step.{knows}
use Rattle.fr_base.specs.Tables.{get}
use Rattle.fr_base.specs.declared.actor.Actor.{Actor}
use Rattle.fr_base.specs.declared.answer.Answer.{Answer}
use Rattle.fr_base.specs.declared.name.Name.{Name}
use Rattle.fr_base.specs.declared.request.Ask.{Ask}
use Rattle.fr_picture.specs.Plans.{IsPlan, suppliers_seen}
use Rattle.fr_picture.specs.declared.plan.Plan.{Plan}

-- Once a reader is known, the plans that show it a released variant are the same ever after, whatever is asked, as long as
-- the reader sees the same suppliers. A supplier always does: it sees itself alone. The integrator does as long as none joins.
abbrev pub ReleasedPlanStays : Type 0
ReleasedPlanStays = (c : Cluster) (b last : Book) (asks : List Ask) (answers : List Answer) (v : Name) (variant : Variant) →
    get b.variants v ≡ Some variant → IsTrue variant.released → IsRun c b asks answers last →
    (reader : Actor) → IsTrue (knows b reader) → suppliers_seen reader (file_of c last).suppliers ≡ suppliers_seen reader (file_of c b).suppliers →
    (plan : Plan) → (IsPlan c b reader v plan → IsPlan c last reader v plan) × (IsPlan c last reader v plan → IsPlan c b reader v plan)
