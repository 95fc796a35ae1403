-- Laws of a difference: it tells exactly the rows that the actor sees of the one variant and not of
-- the other. So no row is both gone and new.
use Rattle.std.specs.Prelude.{◌↔◌}
use Rattle.std.specs.List.{Contains}
use Rattle.fr_base.specs.Book.{Variant}
use Rattle.fr_base.specs.Differences.{seen_rows, gone_in, new_in, differences}
use Rattle.fr_base.specs.declared.params.Params.{Params}
use Rattle.fr_base.specs.declared.actor.Actor.{Actor}
use Rattle.fr_base.specs.declared.answer.SeenRow.{SeenRow}

-- the row is seen of the one variant, and not of the other
abbrev pub IsSeenOnlyIn : Params → Actor → Variant → Variant → SeenRow → Type 0
IsSeenOnlyIn p actor one other row = Contains (seen_rows p actor one) row × (¬ Contains (seen_rows p actor other) row)

-- A row is told to be gone exactly where the older variant has it and the newer one has not, and to
-- be new exactly where it is the other way round.
abbrev pub ToldIsWhatDiffers : Type 0
ToldIsWhatDiffers = (p : Params) (actor : Actor) (old new : Variant) (row : SeenRow) →
    (Contains (gone_in (differences p actor old new)) row ↔ IsSeenOnlyIn p actor old new row)
    × (Contains (new_in (differences p actor old new)) row ↔ IsSeenOnlyIn p actor new old row)

-- No row is told to be gone and to be new.
abbrev pub NothingIsGoneAndNew : Type 0
NothingIsGoneAndNew = (p : Params) (actor : Actor) (old new : Variant) (row : SeenRow) →
    Contains (gone_in (differences p actor old new)) row → ¬ Contains (new_in (differences p actor old new)) row
