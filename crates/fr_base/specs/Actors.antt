-- Actor: whose a key is, as the book stands, the integrator's, else a supplier's, else nobody's.
use Rattle.std.specs.Prelude.{ℕ, List, find, Option, Some, if◌then◌else◌}
use Rattle.std.specs.Option.{option_map}
use Rattle.fr_base.specs.Names.{same_text}
use Rattle.fr_base.specs.Cluster.{Cluster}
use Rattle.fr_base.specs.Book.{Book}
use Rattle.fr_base.specs.declared.actor.Actor.{Actor}
use Rattle.fr_base.specs.declared.actor.Actor.TheVariants.{Integrator, Supplier}

-- the integrator where the bytes are its key; else the supplier whose key they are; else nobody
unfoldable pub actor_of : Cluster → Book → List ℕ → Option Actor
actor_of c b key =
    if same_text c.integrator key then Some Integrator
    else option_map (λ row. Supplier row.0) (find (λ row. same_text row.1 key) b.suppliers.rows)
