-- Laws of a variant that was just opened from another one: what is seen of both is alike. Opened flat
-- it has no parent and depth 1, so it may be the first of sixteen.
use Rattle.std.specs.Prelude.{◌≡◌, ℕ, Bool, true, false, IsFalse, List, [], Option, Some, None, Ok}
use Rattle.fr_base.specs.Tables.{get}
use Rattle.fr_base.specs.Book.{Variant, Book}
use Rattle.fr_base.specs.Differences.{differences}
use Rattle.fr_base.specs.Queries.{shown}
use Rattle.fr_base.specs.Step.{common}
use Rattle.fr_base.specs.declared.actor.Actor.{Actor}
use Rattle.fr_base.specs.declared.beginning.Beginning.{Beginning}
use Rattle.fr_base.specs.declared.beginning.Beginning.TheVariants.{Empty, From, Flat}
use Rattle.fr_base.specs.declared.name.Name.{Name}
use Rattle.fr_base.specs.declared.params.Params.{Params}
use Rattle.fr_base.specs.declared.report.Report.{Report}
use Rattle.fr_base.specs.declared.report.Report.TheVariants.{Room}
use Rattle.fr_base.specs.declared.request.CommonCommand.TheVariants.{OpenVariant}

-- the variant whose rows a new one begins with, if there is one
abbrev pub origin_of : Beginning Name → Option Name
origin_of Empty = None
origin_of (From parent) = Some parent
origin_of (Flat from) = Some from

-- whether a report tells where a frame may still be placed, which an open variant alone has
abbrev pub is_of_places : Report Name ℕ → Bool
is_of_places (Room frame repetition) = true
is_of_places _ = false

-- Two variants have the same grants and frames. So each other report of them tells each actor the
-- same, and nothing differs between them.
pub record AreAlike (p : Params) (old new : Variant) : Type 0 where
  pub grants : new.grants ≡ old.grants
  pub frames : new.frames ≡ old.frames
  pub shown : (actor : Actor) (report : Report Name ℕ) → is_of_places report ≡ false → shown p actor new report ≡ shown p actor old report
  pub differs : (actor : Actor) → differences p actor old new ≡ []

-- A variant that was just opened from another one, flat or not, is like that one.
abbrev pub OpenedIsAlike : Type 0
OpenedIsAlike = (p : Params) (b after : Book) (v from : Name) (beginning : Beginning Name) (old new : Variant) → origin_of beginning ≡ Some from →
    common b (OpenVariant v beginning) ≡ Ok after → get after.variants from ≡ Some old → get after.variants v ≡ Some new → AreAlike p old new

-- a variant without a parent, open, and of depth 1
pub record IsFirst (x : Variant) : Type 0 where
  pub parent : x.parent ≡ None
  pub depth : x.depth ≡ 1
  pub unreleased : IsFalse x.released

-- A variant that was just opened flat has no parent, and depth 1.
abbrev pub FlatIsFirst : Type 0
FlatIsFirst = (b after : Book) (v from : Name) (new : Variant) → common b (OpenVariant v (Flat from)) ≡ Ok after → get after.variants v ≡ Some new → IsFirst new
