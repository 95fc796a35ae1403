-- Laws of what a replacement leaves: each frame that its file names has what the file's rows say, and the same file
-- again changes nothing.
use Rattle.std.specs.Prelude.{◌≡◌, ℕ, Bool, List, length, Option, Some, is_err, IsTrue, IsFalse}
use Rattle.std.specs.List.{list_all, list_any}
use Rattle.fr_base.specs.Cluster.{Cluster}
use Rattle.fr_base.specs.Names.{same_text}
use Rattle.fr_base.specs.Book.{Frame, Book}
use Rattle.fr_base.specs.ImportRows.{header_of_body, rows_of_body}
use Rattle.fr_base.specs.Brought.{nodes_for, placements_for, signals_for, node_or, had_placements, had_signals, placed_by, signalled_by}
use Rattle.fr_base.specs.ReplacingLaws.{is_named, begins_as}
use Rattle.fr_base.specs.Step.{whole_of, frame_at, step}
use Rattle.fr_base.specs.declared.answer.Answer.TheVariants.{Replaced}
use Rattle.fr_base.specs.declared.import.Header.{Header}
use Rattle.fr_base.specs.declared.import.RowRead.{RowRead}
use Rattle.fr_base.specs.declared.name.Name.{Name}
use Rattle.fr_base.specs.declared.actor.Actor.TheVariants.{Supplier}
use Rattle.fr_base.specs.declared.request.Request.TheVariants.{Deliver}
use Rattle.fr_base.specs.declared.delivery.Purpose.TheVariants as purpose

-- The frame has what the rows say of it. Its node is the one that it had before, or, if it was not
-- there, that of the first row that names a node. Each row that names a node names this one. Its
-- placements are exactly those that the rows give it, or those that it had before where the rows
-- give none. The same holds of its signals.
pub record IsAsFiled (reads : List RowRead) (f : Name) (before : Option Frame) (after : Frame) : Type 0 where
  pub node : node_or (nodes_for f reads) before ≡ Some after.node
  pub one_node : IsTrue (list_all (same_text after.node) (nodes_for f reads))
  pub placements : after.placements ≡ placed_by (placements_for f reads) (had_placements before)
  pub signals : after.signals ≡ signalled_by (signals_for f reads) (had_signals before)

-- The supplier's frame of the variant is there in the book after, and it has what the rows say of
-- it. Before, it had what it begins with.
abbrev pub IsFiledIn : Book → Name → Name → Option Header → List RowRead → Book → Name → Type 0
IsFiledIn b s v whole reads after f =
    (y : Frame) × (frame_at after s v f ≡ Some y) × IsAsFiled reads f (begins_as whole reads f (frame_at b s v f)) y

-- A replacement was answered Replaced, with so many rows. Then its file has so many rows, none of
-- them is refused, and each frame that they name has what they say.
abbrev pub ReplacedIsFiled : Type 0
ReplacedIsFiled = (c : Cluster) (b : Book) (s : Name) (variant body : List ℕ) (whole : Bool) (rows : ℕ) →
    (step c b (Supplier s) (Deliver variant (purpose.Replacement whole) body)).answer ≡ Replaced rows →
    (length (rows_of_body c.params body) ≡ rows)
    × IsFalse (list_any (λ read. is_err read.row) (rows_of_body c.params body))
    × ((f : Name) → IsTrue (is_named f (rows_of_body c.params body)) →
    IsFiledIn b s variant (whole_of whole (header_of_body body)) (rows_of_body c.params body)
    (step c b (Supplier s) (Deliver variant (purpose.Replacement whole) body)).book f)

-- The same file again is answered the same and changes nothing.
abbrev pub SameFileChangesNothing : Type 0
SameFileChangesNothing = (c : Cluster) (b after : Book) (s : Name) (variant body : List ℕ) (whole : Bool) (rows : ℕ) →
    step c b (Supplier s) (Deliver variant (purpose.Replacement whole) body) ≡ record { book = after; answer = Replaced rows } →
    step c after (Supplier s) (Deliver variant (purpose.Replacement whole) body) ≡ record { book = after; answer = Replaced rows }
