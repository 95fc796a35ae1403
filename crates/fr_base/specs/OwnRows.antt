-- Own rows: what a change of a supplier's rows is judged by, and what is proposed to it.
use Rattle.std.specs.Prelude.{⊤}
use Rattle.fr_base.specs.Tables.{Table}
use Rattle.fr_base.specs.Keys.{owned, channel_slots}
use Rattle.fr_base.specs.Book.{Holder, Frame, Variant, Book, own, own_grants}
use Rattle.fr_base.specs.declared.name.Name.{Name}
use Rattle.fr_base.specs.declared.params.Params.{Params}

-- the cluster's parameters, the supplier's nodes, and its grants and frames in the variant
pub record OwnRows : Type 0 where
  pub params : Params
  pub supplier : Name
  pub nodes : Table owned ⊤
  pub grants : Table channel_slots Holder
  pub frames : Table owned Frame

unfoldable pub own_rows : Params → Book → Name → Variant → OwnRows
own_rows p b s variant =
    record { params = p; supplier = s; nodes = own s b.nodes; grants = own_grants s variant.grants; frames = own s variant.frames }
