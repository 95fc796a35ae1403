-- Laws of the room that a supplier is told: in a sound book it is where a Place is answered Done, and
-- where the room is refused, so is each Place of the frame.
use Rattle.std.specs.Prelude.{◌≡◌, ◌⊎◌, ℕ, Bool, false, List, Result, Ok, Err, IsTrue, AllPairs}
use Rattle.std.specs.declared.cmp.Ordering.TheVariants.{Less}
use Rattle.fr_base.specs.Keys.{placement_order}
use Rattle.fr_base.specs.Channels.{text_of_channels}
use Rattle.fr_base.specs.Checks.{check}
use Rattle.fr_base.specs.Cluster.{Cluster}
use Rattle.fr_base.specs.Book.{Book}
use Rattle.fr_base.specs.Room.{room_in, has_place}
use Rattle.fr_base.specs.Step.{knows, step}
use Rattle.fr_base.specs.Sound.{FitsCluster, IsSound}
use Rattle.fr_base.specs.Alone.{is_done, is_refused}
use Rattle.fr_base.specs.declared.name.Name.{Name}
use Rattle.fr_base.specs.declared.placement.Placement.{Placement}
use Rattle.fr_base.specs.declared.answer.Answer.{Answer}
use Rattle.fr_base.specs.declared.answer.Answer.TheVariants.{Report, Refused}
use Rattle.fr_base.specs.declared.answer.ReportRows.TheVariants as rows
use Rattle.fr_base.specs.declared.refusal.Refusal.{Refusal}
use Rattle.fr_base.specs.declared.refusal.Refusal.TheVariants.{Limit}
use Rattle.fr_base.specs.declared.actor.Actor.TheVariants.{Supplier}
use Rattle.fr_base.specs.declared.request.Request.{Request}
use Rattle.fr_base.specs.declared.request.Request.TheVariants.{Place, Query}
use Rattle.fr_base.specs.declared.query.Query.TheVariants.{Variant as OfVariant}
use Rattle.fr_base.specs.declared.report.Report.TheVariants.{Room}
use Rattle.fr_base.specs.declared.request.Checked.TheVariants as checked

-- what a supplier is answered of a room
abbrev pub room_told : Result (List Placement) Refusal → Answer
room_told (Ok places) = Report false (rows.Room places)
room_told (Err refusal) = Refused refusal

-- whether an answer tells of room for this placement
abbrev pub tells_place : Placement → Answer → Bool
tells_place q (Report all (rows.Room places)) = has_place q (Ok places)
tells_place q _ = false

-- the request to place a frame so
abbrev pub place_of : List ℕ → List ℕ → Placement → Request
place_of variant frame q =
    Place variant frame q.slot (text_of_channels q.channels) q.cycles.base q.cycles.repetition

-- the request for the room for a frame
abbrev pub room_of : List ℕ → List ℕ → ℕ → Request
room_of variant frame repetition = Query (OfVariant variant (Room frame repetition))

-- In a sound book a supplier that is known is told the room that is there among the rows of all, or
-- why it is refused.
abbrev pub RoomIsTold : Type 0
RoomIsTold = (c : Cluster) (b : Book) (s v f : Name) (repetition : ℕ) (request : Request) → IsSound c b →
    IsTrue (knows b (Supplier s)) →
    check c.params (Supplier s) request ≡ Ok (checked.Query (OfVariant v (Room f repetition))) →
    step c b (Supplier s) request ≡ record { book = b; answer = room_told (room_in c.params b s v f repetition) }

-- In a sound book, for each placement of the cluster, a supplier's Place is answered Done exactly
-- where the room that it is told for this frame and repetition has the placement.
abbrev pub ToldRoomIsPlace : Type 0
ToldRoomIsPlace = (c : Cluster) (b : Book) (s : Name) (variant frame : List ℕ) (q : Placement) → IsSound c b →
    FitsCluster c.params q →
    is_done (step c b (Supplier s) (place_of variant frame q)).answer
    ≡ tells_place q (step c b (Supplier s) (room_of variant frame q.cycles.repetition)).answer

-- Each placement that a supplier is told is one of the cluster, with this repetition.
abbrev pub ToldRoomFits : Type 0
ToldRoomFits = (c : Cluster) (b : Book) (s : Name) (variant frame : List ℕ) (repetition : ℕ) (q : Placement) →
    IsSound c b → IsTrue (tells_place q (step c b (Supplier s) (room_of variant frame repetition)).answer) →
    FitsCluster c.params q × (q.cycles.repetition ≡ repetition)

-- Where the room is refused, each such Place of the frame is refused too, and by the same refusal,
-- unless that is Limit.
abbrev pub RefusedRoomRefuses : Type 0
RefusedRoomRefuses = (c : Cluster) (b : Book) (s : Name) (variant frame : List ℕ) (q : Placement) (refusal : Refusal) →
    IsSound c b → FitsCluster c.params q →
    (step c b (Supplier s) (room_of variant frame q.cycles.repetition)).answer ≡ Refused refusal →
    IsTrue (is_refused (step c b (Supplier s) (place_of variant frame q)).answer)
    × ((refusal ≡ Limit) ⊎ ((step c b (Supplier s) (place_of variant frame q)).answer ≡ Refused refusal))

-- the order of placements: by slot, then channels, A before AB before B, then base
abbrev pub IsBefore : Placement → Placement → Type 0
IsBefore q r = placement_order.compare q r ≡ Less

-- The room that a supplier is told is in order, and no placement stands in it twice.
abbrev pub ToldRoomIsInOrder : Type 0
ToldRoomIsInOrder = (c : Cluster) (b : Book) (s : Name) (variant frame : List ℕ) (repetition : ℕ) (all : Bool)
    (places : List Placement) → IsSound c b →
    (step c b (Supplier s) (room_of variant frame repetition)).answer ≡ Report all (rows.Room places) →
    AllPairs IsBefore places
