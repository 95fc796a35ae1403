-- Fits: wishes of one supplier fit beside what is filled, where there is a placement for each, with its channels and repetition, such that Place of each for its
-- frame, one after the other, meets neither NotGranted nor CellTaken.
use Rattle.std.specs.Prelude.{◌≡◌, List, [], ◌∷◌, ◌++◌, IsTrue}
use Rattle.fr_base.specs.Book.{granted}
use Rattle.fr_base.specs.Fittest.{is_free}
use Rattle.fr_base.specs.OwnRows.{OwnRows}
use Rattle.fr_base.specs.Sound.{FitsCluster}
use Rattle.fr_base.specs.declared.name.Name.{Name}
use Rattle.fr_base.specs.declared.placement.Placement.{Placement}
use Rattle.fr_base.specs.declared.wish.Wish.{Wish}

-- the placement is one of the cluster's with the wish's channels and repetition; the wish's node holds its slot on these channels, and none of its cells is filled
pub record MayStand (own : OwnRows) (filled : List (Name × Placement)) (wish : Wish) (q : Placement) : Type 0 where
  pub fits : FitsCluster own.params q
  pub channels : q.channels ≡ wish.channels
  pub repetition : q.cycles.repetition ≡ wish.repetition
  pub granted : IsTrue (granted own.grants own.supplier wish.node q)
  pub free : IsTrue (is_free filled q)

-- the placements fit the wishes: each may stand beside what is filled and those before it
abbrev pub FitBeside : OwnRows → List (Name × Placement) → List Wish → List Placement → Type 0
FitBeside own filled [] [] = Unit {0}
FitBeside own filled [] (q ∷ qs) = ⊥
FitBeside own filled (wish ∷ wishes) [] = ⊥
FitBeside own filled (wish ∷ wishes) (q ∷ qs) = MayStand own filled wish q × FitBeside own (filled ++ (wish.frame, q) ∷ []) wishes qs

-- some placements fit the wishes
abbrev pub Fit : OwnRows → List (Name × Placement) → List Wish → Type 0
Fit own filled wishes = (qs : List Placement) × FitBeside own filled wishes qs
