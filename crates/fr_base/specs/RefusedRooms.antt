-- Laws of a room that is refused. Each Place of the frame is refused too, with whatever repetition.
-- A released variant has no room.
use Rattle.std.specs.Prelude.{◌≡◌, ◌⊎◌, ℕ, Some, None, Ok, IsTrue}
use Rattle.fr_base.specs.Tables.{get}
use Rattle.fr_base.specs.Changes.{in_rows}
use Rattle.fr_base.specs.Checks.{check}
use Rattle.fr_base.specs.Cluster.{Cluster}
use Rattle.fr_base.specs.Book.{Variant, Book}
use Rattle.fr_base.specs.Step.{knows, step}
use Rattle.fr_base.specs.declared.name.Name.{Name}
use Rattle.fr_base.specs.declared.placement.Placement.{Placement}
use Rattle.fr_base.specs.declared.answer.Answer.TheVariants.{Refused}
use Rattle.fr_base.specs.declared.refusal.Refusal.{Refusal}
use Rattle.fr_base.specs.declared.refusal.Refusal.TheVariants.{NoVariant, Released, NotGranted, Limit}
use Rattle.fr_base.specs.declared.actor.Actor.TheVariants.{Supplier}
use Rattle.fr_base.specs.declared.query.Query.TheVariants.{Variant as OfVariant}
use Rattle.fr_base.specs.declared.report.Report.TheVariants.{Room}
use Rattle.fr_base.specs.declared.request.Request.{Request}
use Rattle.fr_base.specs.declared.request.Command.TheVariants.{Rows}
use Rattle.fr_base.specs.declared.request.Change.TheVariants as change
use Rattle.fr_base.specs.declared.request.FrameChange.TheVariants.{Place}
use Rattle.fr_base.specs.declared.request.Checked.TheVariants as checked

-- Where a supplier that is known is refused the room for a frame, each Place of this frame, with
-- whatever repetition, is refused the same. There is one exception: where the refusal is Limit, a
-- Place on what is not granted to the frame's node is NotGranted.
abbrev pub RefusedRoomRefusesEach : Type 0
RefusedRoomRefusesEach = (c : Cluster) (b : Book) (s v f : Name) (repetition : ℕ) (q : Placement)
    (asked request : Request) (refusal : Refusal) → IsTrue (knows b (Supplier s)) →
    check c.params (Supplier s) asked ≡ Ok (checked.Query (OfVariant v (Room f repetition))) →
    check c.params (Supplier s) request ≡ Ok (checked.Command (Rows (in_rows s v (change.Frame f (Place q))))) →
    (step c b (Supplier s) asked).answer ≡ Refused refusal →
    ((step c b (Supplier s) request).answer ≡ Refused refusal)
    ⊎ ((refusal ≡ Limit) × ((step c b (Supplier s) request).answer ≡ Refused NotGranted))

-- The room for any frame of a released variant is Released; where the variant is not there,
-- NoVariant.
abbrev pub NoRoomWhereReleased : Type 0
NoRoomWhereReleased = (c : Cluster) (b : Book) (s v f : Name) (repetition : ℕ) (asked : Request) →
    IsTrue (knows b (Supplier s)) →
    check c.params (Supplier s) asked ≡ Ok (checked.Query (OfVariant v (Room f repetition))) →
    (get b.variants v ≡ None → (step c b (Supplier s) asked).answer ≡ Refused NoVariant)
    × ((x : Variant) → get b.variants v ≡ Some x → IsTrue x.released →
    (step c b (Supplier s) asked).answer ≡ Refused Released)
