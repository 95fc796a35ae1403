-- Laws of replacements: after one that was carried out, all that its file does not name is as before.
use Rattle.std.specs.Prelude.{◌≡◌, ◌&&◌, ℕ, Bool, false, if◌then◌else◌, List, Option, Some, None, Result, Ok, Err}
use Rattle.std.specs.List.{list_any}
use Rattle.fr_base.specs.Tables.{Table, left_by, get}
use Rattle.fr_base.specs.Keys.{owned}
use Rattle.fr_base.specs.Cluster.{Cluster}
use Rattle.fr_base.specs.Names.{same_text}
use Rattle.fr_base.specs.Book.{Frame, Variant, Book, is_of}
use Rattle.fr_base.specs.ImportRows.{header_of_body, rows_of_body}
use Rattle.fr_base.specs.Step.{frame_of_row, cleared, whole_of, with_variant, step}
use Rattle.fr_base.specs.declared.answer.Answer.TheVariants.{Replaced}
use Rattle.fr_base.specs.declared.import.Header.{Header}
use Rattle.fr_base.specs.declared.import.Row.{Row}
use Rattle.fr_base.specs.declared.import.RowRead.{RowRead}
use Rattle.fr_base.specs.declared.name.Name.{Name}
use Rattle.fr_base.specs.declared.actor.Actor.TheVariants.{Supplier}
use Rattle.fr_base.specs.declared.refusal.Refusal.{Refusal}
use Rattle.fr_base.specs.declared.request.Request.TheVariants.{Deliver}
use Rattle.fr_base.specs.declared.delivery.Purpose.TheVariants as purpose

-- whether the row names the frame
abbrev pub names_frame : Name → Result Row Refusal → Bool
names_frame f (Ok row) = same_text (frame_of_row row) f
names_frame f (Err refusal) = false

-- whether one of the rows names the frame
abbrev pub is_named : Name → List RowRead → Bool
is_named f reads = list_any (λ read. names_frame f read.row) reads

-- whether the key is of a frame of the supplier that one of the rows names
abbrev pub is_freed : Name → List RowRead → Name × Name → Bool
is_freed s reads k = is_of s k && is_named k.1 reads

-- What the supplier's frame has before the rows act, if no row names it: all that it had. But where the file is the whole
-- of its kind, it has what is left of it once it was cleared.
abbrev pub begins_as : Option Header → List RowRead → Name → Option Frame → Option Frame
begins_as None reads f there = there
begins_as (Some kind) reads f there = left_by (cleared kind reads f there)

-- so at its key; frames of other suppliers have all that they had
abbrev pub begins_at : Name → Option Header → List RowRead → Name × Name → Option Frame → Option Frame
begins_at s None reads k there = there
begins_at s (Some kind) reads k there = if is_of s k then begins_as (Some kind) reads k.1 there else there

-- The book is as the first one, except for the supplier's frames of the variant. Those that no row names have what they
-- began with.
pub record IsElsewhereAs (b : Book) (s v : Name) (whole : Option Header) (reads : List RowRead) (after : Book) : Type 0 where
  pub x : Variant
  pub there : get b.variants v ≡ Some x
  pub frames : Table owned Frame
  pub is : after ≡ with_variant b v (record x { frames = frames })
  pub others : (k : Name × Name) → is_freed s reads k ≡ false → get frames k ≡ begins_at s whole reads k (get x.frames k)

-- A replacement that was carried out changes no other frames than those that its file names. A whole one clears the
-- supplier's others, and changes none of another supplier.
abbrev pub ReplacedLeavesTheRest : Type 0
ReplacedLeavesTheRest = (c : Cluster) (b : Book) (s : Name) (variant body : List ℕ) (whole : Bool) (rows : ℕ) →
    (step c b (Supplier s) (Deliver variant (purpose.Replacement whole) body)).answer ≡ Replaced rows →
    IsElsewhereAs b s variant (whole_of whole (header_of_body body)) (rows_of_body c.params body)
    (step c b (Supplier s) (Deliver variant (purpose.Replacement whole) body)).book
