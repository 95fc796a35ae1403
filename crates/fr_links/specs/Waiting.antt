-- Which connections wait for their turn, and where they stand.
use Rattle.std.specs.Prelude.{◌≡◌, ◌≢◌, ◌⊎◌, ℕ, Bool, false, IsTrue, nat_eq, ◌||◌, List, [], ◌∷◌, ◌++◌, Option, Some, None}
use Rattle.slab.specs.Slab.{Slab, get}
use Rattle.fr_links.specs.Connection.{IsReady}
use Rattle.fr_links.specs.declared.held.Held.{Held}

-- whether the key stands in the list
abbrev pub stands_in : List ℕ → ℕ → Bool
stands_in [] key = false
stands_in (first ∷ rest) key = nat_eq first key || stands_in rest key

module _ {S : Type 0} where
  -- it is there, and its request is to be answered
  abbrev pub IsWaiting : Option (Held S) → Type 0
  IsWaiting None = ⊥
  IsWaiting (Some held) = IsReady held.stage

  -- The key of each whose request is to be answered stands in the list.
  abbrev pub AllQueued : Slab (Held S) → List ℕ → Type 0
  AllQueued links ready = (key : ℕ) → IsWaiting (get links key) → IsTrue (stands_in ready key)

  -- The connection under this key stands behind all others, or it is gone and none came to stand there. The others are as they were.
  pub record Joins (links links' : Slab (Held S)) (ready ready' : List ℕ) (key : ℕ) : Type 0 where
    pub others : (other : ℕ) → other ≢ key → get links' other ≡ get links other
    pub own : ((get links' key ≡ get links key) × (ready' ≡ ready ++ key ∷ [])) ⊎ ((get links' key ≡ None) × (ready' ≡ ready))
