-- Plan: the cells that are filled and what wishes are given, and how both grow as wishes take places.
use Rattle.std.specs.Prelude.{◌≡◌, ◌&&◌, ◌++◌, [], ◌∷◌, ℕ, Bool, false, List, Option, Some, None}
use Rattle.std.specs.Ordering.{is_eq}
use Rattle.fr_base.specs.Keys.{placement_order}
use Rattle.fr_base.specs.Lacks.{open_slots}
use Rattle.fr_base.specs.Names.{same_text}
use Rattle.fr_base.specs.Fittest.{fittest}
use Rattle.fr_base.specs.Turns.{places_given, take_places, with_place}
use Rattle.fr_base.specs.declared.channel.Channels.{Channels}
use Rattle.fr_base.specs.declared.name.Name.{Name}
use Rattle.fr_base.specs.declared.params.Params.{Params}
use Rattle.fr_base.specs.declared.placement.Placement.{Placement}
use Rattle.fr_base.specs.declared.proposal.Given.{Given}
use Rattle.fr_base.specs.declared.wish.Asked.{Asked}
use Rattle.fr_world.specs.Proposals.{ShowRooms}
use Rattle.fr_world.specs.declared.proposal.fit.Kind.{Kind}
use Rattle.fr_world.specs.declared.proposal.rooms.Rooms.{Rooms}

-- What wishes take, one after the other, was added to what is given, and fills cells.
pub record Takes (p : Params) (on : Channels → List ℕ) (olds news : List (Name × Placement)) (before after : List Given) (turns : List Asked) : Type 0 where
  pub given : after ≡ before ++ take_places p on olds turns
  pub filled : news ≡ olds ++ places_given (take_places p on olds turns)

-- A wish took the fittest place in these slots, if there is one, and the rooms are those that are left.
pub record TakesOne (p : Params) (kind : Kind) (slots : List ℕ) (asked : Asked) (olds news : List (Name × Placement)) (before after : List Given) (left : Rooms) : Type 0 where
  pub given : after ≡ before ++ record { asked = asked; place = fittest p olds slots kind.channels kind.repetition } ∷ []
  pub filled : news ≡ with_place olds asked.wish.frame (fittest p olds slots kind.channels kind.repetition)
  pub rooms : ShowRooms left news slots

-- whether a wish was given this placement of the frame
abbrev pub is_kept_by : Name → Placement → Given → Bool
is_kept_by f q given = by given.place
  where
    by : Option Placement → Bool
    by None = false
    by (Some there) = same_text given.asked.wish.frame f && is_eq (placement_order.compare there q)

-- Wishes took places in slots that were opened as they were needed: it goes on from the slots and cells after them as it would have from those before.
abbrev pub Opens : Params → ℕ → List (Name × Placement) → ℕ → List (Name × Placement) → List Asked → Type 0
Opens p before olds after news turns = (rest : List Asked) → open_slots p before olds (turns ++ rest) ≡ open_slots p after news rest
