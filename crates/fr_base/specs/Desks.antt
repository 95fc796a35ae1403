-- Desk: for which books a register stands, and what a call on it comes to.
use Rattle.fr_base.specs.Book.{Book}
use Rattle.fr_base.specs.Cluster.{Cluster}
use Rattle.fr_base.specs.Sound.{IsSound}
use Rattle.fr_base.specs.declared.desk.Desk as Desk

-- the books for which a register stands, each in a cluster
abbrev pub Standing : Type 1
Standing = Cluster → Book → Type 0

-- in each sound book for which the register stood
abbrev pub InSound : Standing → (Cluster → Book → Type 0) → Type 0
InSound old P = (c : Cluster) (b : Book) → old c b → IsSound c b → P c b

-- A call asks a register. This is so of whether it is clean now, of what it stood for, of what it stands for, and of what the call
-- gives. It was clean before if it is now.
pub record AsksDesk {D X : Type 0} (desk : Desk.Ghosts D) (Does : Type 0 → Standing → Standing → X → Type 0) (old new : D) (given : X) : Type 0 where
  pub does : Does (desk.clean new) (desk.stands old) (desk.stands new) given
  pub falls : desk.clean new → desk.clean old
