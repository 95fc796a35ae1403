-- How maps and sets stand for tables of the register.
use Rattle.std.specs.Prelude.{List, map, ⊤}
use Rattle.fr_base.specs.Tables.{Order, Table, from_rows}

-- the entries of a map as a table
unfoldable pub table_of : {J K U V : Type 0} (o : Order K) → (J → K) → (U → V) → List (J × U) → Table o V
table_of o key value es = from_rows (map (λ e. (key e.0, value e.1)) es)

-- the keys of a set as a table
unfoldable pub set_of : {J K : Type 0} (o : Order K) → (J → K) → List J → Table o ⊤
set_of o key ks = from_rows (map (λ k. (key k, tt)) ks)
