-- Listing: the variants that a sender is told. It is told all, if it is there; else it is
-- `UnknownKey`. When `Unavailable` may come in place.
use Rattle.std.specs.Prelude.{◌≡◌, ◌⊎◌, not, List, Vec, Result, Ok, Err, IsTrue, MatchResult}
use Rattle.std.specs.declared.alloc.Global.{Global}
use Rattle.fr_base.specs.Book.{Book}
use Rattle.fr_base.specs.Cluster.{Cluster}
use Rattle.fr_base.specs.Refusing.{◌>>◌, refuse◌when◌}
use Rattle.fr_base.specs.Step.{knows}
use Rattle.fr_base.specs.declared.actor.Actor.{Actor}
use Rattle.fr_base.specs.declared.refusal.Refusal.{Refusal}
use Rattle.fr_base.specs.declared.refusal.Refusal.TheVariants.{Unavailable, UnknownKey}
use Rattle.fr_world.specs.BookEdits.{variants_in}
use Rattle.fr_base.specs.declared.answer.VariantRow.{VariantRow}
use Rattle.fr_world.specs.Held.{Standing}

-- the variants, which all suppliers have in common; a sender that is there is told all of them
unfoldable pub variants_told : Book → Actor → Result (List VariantRow) Refusal
variants_told b actor = do
  refuse UnknownKey when not (knows b actor)
  Ok (variants_in b)

-- This may be told: what the definition says; or Unavailable, to a sender that is there.
abbrev pub MayTell : Book → Actor → Result (List VariantRow) Refusal → Type 0
MayTell b actor told = (variants_told b actor ≡ told) ⊎ (IsTrue (knows b actor) × (told ≡ Err Unavailable))

-- This was told, and the records stand for the same book as before.
abbrev pub Lists : Standing → Standing → Actor → Result (Vec VariantRow Global) Refusal → Type 0
Lists old new actor r = (c : Cluster) (b : Book) → old c b → new c b × MatchResult r (λ rows. MayTell b actor (Ok rows.items)) (λ e. MayTell b actor (Err e))
