-- Seen: what an actor sees of the register's rows: a supplier its own, the integrator those of all.
use Rattle.std.specs.Prelude.{⊤}
use Rattle.fr_base.specs.Tables.{Table, only}
use Rattle.fr_base.specs.Keys.{names, owned, channel_slots}
use Rattle.fr_base.specs.Names.{same_text}
use Rattle.fr_base.specs.Book.{Holder, Frame, own, own_grants}
use Rattle.fr_base.specs.declared.key.Key.{Key}
use Rattle.fr_base.specs.declared.actor.Actor.{Actor}
use Rattle.fr_base.specs.declared.actor.Actor.TheVariants.{Integrator, Supplier}

-- the suppliers that the actor sees: a supplier itself, the integrator all
abbrev pub seen_suppliers : Actor → Table names Key → Table names Key
seen_suppliers Integrator suppliers = suppliers
seen_suppliers (Supplier s) suppliers = only (λ t _. same_text t s) suppliers

-- the nodes that the actor sees
abbrev pub seen_nodes : Actor → Table owned ⊤ → Table owned ⊤
seen_nodes Integrator nodes = nodes
seen_nodes (Supplier s) nodes = own s nodes

-- the grants that the actor sees: a supplier its own, the integrator those of all
abbrev pub seen_grants : Actor → Table channel_slots Holder → Table channel_slots Holder
seen_grants Integrator grants = grants
seen_grants (Supplier s) grants = own_grants s grants

-- the frames that the actor sees
abbrev pub seen_frames : Actor → Table owned Frame → Table owned Frame
seen_frames Integrator frames = frames
seen_frames (Supplier s) frames = own s frames
