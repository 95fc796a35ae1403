-- Laws: a new register is sound. Each request, done or refused, leaves a sound book sound, and so does each run. In a
-- sound book at most one frame is sent in a cell of a variant, by one placement alone, and its supplier and node hold
-- the grant of the cell's slot and channel. Who is known stays known; a key that was changed is nobody's. A released
-- variant stays, and so do the answers to queries of it. A refusal changes nothing. An import that was carried out has
-- the same answer ever after and changes nothing again; its label stays used. A file is answered as its trial tells.
-- What is a supplier's is answered as in a register of its own, and does the same to its rows. Two sound registers under
-- one cluster that are alike for a supplier stay alike for it. Suppliers depend on each other alone by a Grant that
-- another's grant makes `Taken`, and by a supplier that is to have another's key, or is to join beside 64. Each law says
-- of which books it is: any, or sound ones.
use Rattle.std.specs.Prelude.{◌≡◌, ◌≢◌, ◌⊎◌, All, AllPairs, ℕ, Bool, ◌&&◌, nat_lt, List, [], length, take, drop, Some, None, Ok, Err, IsTrue, IsFalse}
use Rattle.fr_base.specs.Tables.{get, len}
use Rattle.fr_base.specs.Cells.{Cell, cells_of}
use Rattle.fr_base.specs.Schedule.{first_taken}
use Rattle.fr_base.specs.Cycles.{is_repetition}
use Rattle.fr_base.specs.Changes.{in_rows}
use Rattle.fr_base.specs.Checks.{check}
use Rattle.fr_base.specs.Cluster.{Cluster, ClusterFile, IsWellFormed}
use Rattle.fr_base.specs.Names.{is_name, same_text}
use Rattle.fr_base.specs.Book.{Frame, Variant, Book, opening, own, granted, schedule_of}
use Rattle.fr_base.specs.Actors.{actor_of}
use Rattle.fr_base.specs.Step.{knows, common, step}
use Rattle.fr_base.specs.Fates.{answer_told}
use Rattle.fr_base.specs.Room.{room_in, has_place}
use Rattle.fr_base.specs.Queries.{sendings_of}
use Rattle.fr_base.specs.Seen.{seen_grants, seen_frames}
use Rattle.fr_base.specs.Differences.{gone_in, new_in, differences, missing, in_both}
use Rattle.fr_base.specs.Load.{load_of, all_used}
use Rattle.fr_base.specs.Layouts.{AreApart, lies_inside}
use Rattle.fr_base.specs.Run.{IsRun}
use Rattle.fr_base.specs.Sound.{FitsCluster, IsSent, IsSound}
use Rattle.fr_base.specs.Alone.{own_variant, rows_of, own_sender, concerns, is_done, is_refused, is_mine, asks_of, answers_of, alone, answers_to, book_after, beside}
use Rattle.fr_base.specs.declared.limits.TheConstants.{MAX_IMPORTS}
use Rattle.fr_base.specs.declared.answer.Answer.{Answer}
use Rattle.fr_base.specs.declared.answer.Answer.TheVariants.{Done, Imported, Replaced, Refused}
use Rattle.fr_base.specs.declared.refusal.Refusal.{Refusal}
use Rattle.fr_base.specs.declared.refusal.Refusal.TheVariants.{BadName, LabelUsed, Limit}
use Rattle.fr_base.specs.declared.name.Name.{Name}
use Rattle.fr_base.specs.declared.key.Key.{Key}
use Rattle.fr_base.specs.declared.params.Params.{Params}
use Rattle.fr_base.specs.declared.placement.Placement.{Placement}
use Rattle.fr_base.specs.declared.actor.Actor.{Actor}
use Rattle.fr_base.specs.declared.actor.Actor.TheVariants.{Integrator, Supplier}
use Rattle.fr_base.specs.declared.request.Ask.{Ask}
use Rattle.fr_base.specs.declared.request.Request.{Request}
use Rattle.fr_base.specs.declared.delivery.Manner.{Manner}
use Rattle.fr_base.specs.declared.delivery.Manner.TheVariants as manner
use Rattle.fr_base.specs.declared.request.Request.TheVariants.{SetKey, Deliver}
use Rattle.fr_base.specs.declared.query.Query.TheVariants.{Variant as OfVariant, Difference}
use Rattle.fr_base.specs.declared.report.Report.{Report}
use Rattle.fr_base.specs.declared.request.Command.TheVariants.{Rows}
use Rattle.fr_base.specs.declared.beginning.Beginning.TheVariants.{From}
use Rattle.fr_base.specs.declared.request.CommonCommand.TheVariants.{OpenVariant}
use Rattle.fr_base.specs.declared.request.Change.TheVariants as change
use Rattle.fr_base.specs.declared.request.FrameChange.TheVariants.{Place}
use Rattle.fr_base.specs.declared.request.Checked.TheVariants as checked
use Rattle.fr_base.specs.declared.delivery.Purpose.TheVariants as purpose

-- A new register is sound.
abbrev pub OpeningIsSound : Type 0
OpeningIsSound = (f : ClusterFile) → IsWellFormed f → IsSound f.cluster (opening f)

-- A sound book stays sound, whoever asks, whatever is asked, and whether it is done or refused.
abbrev pub StepKeepsSound : Type 0
StepKeepsSound = (c : Cluster) (b : Book) (actor : Actor) (request : Request) → IsSound c b → IsSound c (step c b actor request).book

-- After any number of requests, in any order, a book that was sound is sound.
abbrev pub RunKeepsSound : Type 0
RunKeepsSound = (c : Cluster) (b last : Book) (asks : List Ask) (answers : List Answer) → IsSound c b → IsRun c b asks answers last → IsSound c last

-- Each front of a run is a run and leads to a sound book. The rest of it is a run from that book.
-- So the book is sound at every point.
abbrev pub RunIsSoundThroughout : Type 0
RunIsSoundThroughout = (c : Cluster) (b last : Book) (asks : List Ask) (answers : List Answer) (n : ℕ) → IsSound c b → IsRun c b asks answers last →
    (mid : Book) × IsSound c mid × IsRun c b (take n asks) (take n answers) mid × IsRun c mid (drop n asks) (drop n answers) last

-- In a cycle, slot and channel of a variant at most one frame is sent, of all frames of all suppliers, and by one of its
-- placements alone.
abbrev pub OneFrameInACell : Type 0
OneFrameInACell = (c : Cluster) (b : Book) (name : Name) (v : Variant) (k l : Name × Name) (f g : Frame) (q r : Placement) (cell : Cell) →
    IsSound c b → get b.variants name ≡ Some v → IsSent v k f q cell → IsSent v l g r cell → (k ≡ l) × (q ≡ r)

-- The supplier and the node that send a frame hold the grant of its slot and channel.
abbrev pub HolderSends : Type 0
HolderSends = (c : Cluster) (b : Book) (name : Name) (v : Variant) (k : Name × Name) (f : Frame) (q : Placement) (cell : Cell) →
    IsSound c b → get b.variants name ≡ Some v → IsSent v k f q cell → get v.grants (cell.slot, cell.channel) ≡ Some (record { supplier = k.0; node = f.node })

-- All bits of a frame's signals lie in its payload, and no two signals share a bit. None has the name of another.
abbrev pub SignalsLieApart : Type 0
SignalsLieApart = (c : Cluster) (b : Book) (name : Name) (v : Variant) (k : Name × Name) (f : Frame) →
    IsSound c b → get b.variants name ≡ Some v → get v.frames k ≡ Some f →
    All (λ s. IsTrue (lies_inside c.params.payload_words s)) f.signals × AllPairs AreApart f.signals × AllPairs (λ s t. s.name ≢ t.name) f.signals

-- ---- who is known

-- Who is known stays known: no request takes a supplier away.
abbrev pub KnownStaysKnown : Type 0
KnownStaysKnown = (c : Cluster) (b last : Book) (asks : List Ask) (answers : List Answer) (actor : Actor) →
    IsTrue (knows b actor) → IsRun c b asks answers last → IsTrue (knows last actor)

-- ---- whose a key is

-- In a sound book, once a SetKey was done, the new key is the supplier's, the old one is nobody's, and any other is whose it was.
abbrev pub KeyIsChanged : Type 0
KeyIsChanged = (c : Cluster) (b : Book) (actor : Actor) (s : Name) (old new : Key) → IsSound c b → get b.suppliers s ≡ Some old →
    (step c b actor (SetKey s new)).answer ≡ Done →
    (actor_of c (step c b actor (SetKey s new)).book new ≡ Some (Supplier s))
    × (actor_of c (step c b actor (SetKey s new)).book old ≡ None)
    × ((key : List ℕ) → IsFalse (same_text new key) → IsFalse (same_text old key) → actor_of c (step c b actor (SetKey s new)).book key ≡ actor_of c b key)

-- ---- a release freezes

-- Once a variant is released, its grants, frames, placements and signals stay, whatever is asked.
abbrev pub ReleaseFreezes : Type 0
ReleaseFreezes = (c : Cluster) (b last : Book) (asks : List Ask) (answers : List Answer) (v : Name) (variant : Variant) →
    get b.variants v ≡ Some variant → IsTrue variant.released → IsRun c b asks answers last → get last.variants v ≡ Some variant

-- Each query of a released variant that is not answered Unavailable gives the same actor the same
-- answer ever after, once the actor is known. A query whose frame is no name is no query by this
-- law: it is BadName in every book that knows who asks.
abbrev pub ReleasedAnswersStay : Type 0
ReleasedAnswersStay = (c : Cluster) (b last : Book) (asks : List Ask) (answers : List Answer) (v : Name) (variant : Variant) →
    get b.variants v ≡ Some variant → IsTrue variant.released → IsRun c b asks answers last →
    (actor : Actor) (request : Request) (report : Report Name ℕ) → IsTrue (knows b actor) →
    check c.params actor request ≡ Ok (checked.Query (OfVariant v report)) →
    (step c last actor request).answer ≡ (step c b actor request).answer

-- ---- what is refused

-- A refusal changes nothing, that of an import's row too.
abbrev pub RefusedChangesNothing : Type 0
RefusedChangesNothing = (c : Cluster) (b : Book) (actor : Actor) (request : Request) →
    IsTrue (is_refused (step c b actor request).answer) → (step c b actor request).book ≡ b

-- ---- an import that comes again

-- In a sound book the supplier's import was answered Imported, with so many rows, and from the book after it a run leads to the last.
pub record WasImported (c : Cluster) (s : Name) (variant label body : List ℕ) (rows : ℕ) (last : Book) : Type 0 where
  pub begin : Book
  pub asks : List Ask
  pub answers : List Answer
  pub sound : IsSound c begin
  pub imported : (step c begin (Supplier s) (Deliver variant (purpose.Import label) body)).answer ≡ Imported rows
  pub run : IsRun c (step c begin (Supplier s) (Deliver variant (purpose.Import label) body)).book asks answers last

-- Once an import was carried out, the supplier's import of the same label, variant and file has the same answer and changes
-- nothing, ever after, after a release too.
abbrev pub ImportActsOnce : Type 0
ImportActsOnce = (c : Cluster) (s : Name) (variant label body : List ℕ) (rows : ℕ) (last : Book) →
    WasImported c s variant label body rows last →
    step c last (Supplier s) (Deliver variant (purpose.Import label) body) ≡ record { book = last; answer = Imported rows }

-- An import that was carried out is kept, as it was sent.
abbrev pub ImportIsKept : Type 0
ImportIsKept = (c : Cluster) (s : Name) (variant label body : List ℕ) (rows : ℕ) (last : Book) →
    WasImported c s variant label body rows last →
    get last.imports (s, label) ≡ Some (record { variant = variant; body = body; rows = rows })

-- Under a kept label an import with another file, or with the name of another variant, is
-- LabelUsed.
abbrev pub LabelStaysUsed : Type 0
LabelStaysUsed = (c : Cluster) (s : Name) (variant label body : List ℕ) (rows : ℕ) (last : Book) →
    WasImported c s variant label body rows last →
    (other_variant other_body : List ℕ) → IsTrue (is_name other_variant) → IsFalse (same_text variant other_variant && same_text body other_body) →
    step c last (Supplier s) (Deliver other_variant (purpose.Import label) other_body) ≡ record { book = last; answer = Refused LabelUsed }

-- Under a kept label an import with what is no variant's name is BadName.
abbrev pub BadVariantIsBadName : Type 0
BadVariantIsBadName = (c : Cluster) (s : Name) (variant label body : List ℕ) (rows : ℕ) (last : Book) →
    WasImported c s variant label body rows last →
    (other_variant other_body : List ℕ) → IsFalse (is_name other_variant) →
    step c last (Supplier s) (Deliver other_variant (purpose.Import label) other_body) ≡ record { book = last; answer = Refused BadName }

-- ---- what would become of a file

-- A trial changes nothing, whoever asks for it.
abbrev pub TrialChangesNothing : Type 0
TrialChangesNothing = (c : Cluster) (b : Book) (actor : Actor) (variant body : List ℕ) (how : Manner) →
    (step c b actor (Deliver variant (purpose.Trial how) body)).book ≡ b

-- An import under a label that is not kept, where the supplier may keep one more, is answered as its trial tells. Imported, with so many
-- rows, exactly where so many are told and each is done; RefusedRow exactly where the first row that is not done is this one; and refused
-- before its rows exactly as the trial is.
abbrev pub ImportIsTold : Type 0
ImportIsTold = (c : Cluster) (b : Book) (s : Name) (variant label body : List ℕ) →
    IsTrue (is_name label) → get b.imports (s, label) ≡ None → IsTrue (nat_lt (len (own s b.imports)) MAX_IMPORTS) →
    (step c b (Supplier s) (Deliver variant (purpose.Import label) body)).answer ≡ answer_told Imported (step c b (Supplier s) (Deliver variant (purpose.Trial manner.Import) body)).answer

-- A replacement is answered as its trial tells.
abbrev pub ReplacementIsTold : Type 0
ReplacementIsTold = (c : Cluster) (b : Book) (s : Name) (variant body : List ℕ) (whole : Bool) →
    (step c b (Supplier s) (Deliver variant (purpose.Replacement whole) body)).answer
    ≡ answer_told Replaced (step c b (Supplier s) (Deliver variant (purpose.Trial (manner.Replace whole)) body)).answer

-- ---- a supplier alone

-- In a sound book, where one of a supplier's nodes holds a placement's slot on each of its channels, the first of its cells
-- that any frame fills is the first that the supplier's own fill, and by the same frame.
abbrev pub FirstTakenIsOwn : Type 0
FirstTakenIsOwn = (c : Cluster) (b : Book) (v : Name) (variant : Variant) (s n : Name) (q : Placement) →
    IsSound c b → get b.variants v ≡ Some variant → IsTrue (granted variant.grants s n q) →
    first_taken (schedule_of variant.frames) (cells_of q) ≡ first_taken (schedule_of (own_variant s variant).frames) (cells_of q)

-- In a sound book a supplier's schedule has in each cell what the schedule of all has there of the supplier's.
abbrev pub ScheduleIsOwn : Type 0
ScheduleIsOwn = (c : Cluster) (b : Book) (v : Name) (variant : Variant) (s : Name) (cell : Cell) →
    IsSound c b → get b.variants v ≡ Some variant → schedule_of (own_variant s variant).frames cell ≡ own_sender s (schedule_of variant.frames cell)

-- In a sound book a request that is the supplier's is answered as by the register that holds the supplier alone, and does the same to the
-- supplier's rows.
abbrev pub OwnStepIsAlone : Type 0
OwnStepIsAlone = (c : Cluster) (b : Book) (s : Name) (actor : Actor) (request : Request) →
    IsSound c b → IsTrue (is_mine s actor request (step c b actor request).answer) →
    ((step c (rows_of s b) actor request).answer ≡ (step c b actor request).answer)
    × ((step c (rows_of s b) actor request).book ≡ rows_of s (step c b actor request).book)

-- Any other request leaves the supplier's rows as they were, in any book.
abbrev pub OtherStepLeavesRows : Type 0
OtherStepLeavesRows = (c : Cluster) (b : Book) (s : Name) (actor : Actor) (request : Request) →
    IsFalse (is_mine s actor request (step c b actor request).answer) → rows_of s (step c b actor request).book ≡ rows_of s b

-- A new register that holds the supplier alone has the supplier's rows of a new register.
abbrev pub OpeningIsAlone : Type 0
OpeningIsAlone = (f : ClusterFile) (s : Name) → opening (alone s f) ≡ rows_of s (opening f)

-- One step after another is a run, in which no request is answered Unavailable.
abbrev pub StepsAreARun : Type 0
StepsAreARun = (c : Cluster) (b : Book) (asks : List Ask) → IsRun c b asks (answers_to c b asks) (book_after c b asks)

-- Whatever is asked, by whomever, in any order, from any sound book: the register that holds the supplier alone and begins
-- with its rows, asked only what is the supplier's, gives the supplier the same answers one by one, answers Done to each of the integrator's
-- commands among them, and ends with the supplier's rows.
abbrev pub RunIsAlone : Type 0
RunIsAlone = (c : Cluster) (b last : Book) (asks : List Ask) (answers : List Answer) (s : Name) →
    IsSound c b → IsRun c b asks answers last →
    (answers_to c (rows_of s b) (asks_of s asks answers) ≡ answers_of s asks answers)
    × (book_after c (rows_of s b) (asks_of s asks answers) ≡ rows_of s last)

-- Two sound registers have the same parameters and integrator's key, begin with the same rows of
-- the supplier, and are asked the same that is the supplier's. Then they give the supplier the same
-- answers and end with the same rows of it, whatever else is in them and whatever else is asked.
abbrev pub EqualViews : Type 0
EqualViews = (c : Cluster) (b d last end : Book) (asks others : List Ask) (answers replies : List Answer) (s : Name) →
    IsSound c b → IsSound c d → IsRun c b asks answers last → IsRun c d others replies end →
    rows_of s b ≡ rows_of s d → asks_of s asks answers ≡ asks_of s others replies →
    (answers_of s asks answers ≡ answers_of s others replies) × (rows_of s last ≡ rows_of s end)

-- How suppliers depend on each other. An integrator's command that is common or names the supplier, where it is not answered
-- Unavailable, is answered as by the register that holds the supplier alone, with the supplier's rows of the book. There are three
-- exceptions. A Grant which that register accepts is Taken exactly where another supplier holds slot and channel in the variant. An
-- AddSupplier which it accepts is KeyTaken exactly where another supplier has the key, else Limit exactly where 64 suppliers are there. A
-- SetKey which it accepts is KeyTaken exactly where another supplier has the key.
abbrev pub OneDependence : Type 0
OneDependence = (c : Cluster) (b : Book) (s : Name) (request : Request) → IsTrue (concerns s request) →
    (step c b Integrator request).answer ≡ beside s b request (step c (rows_of s b) Integrator request).answer

-- ---- where a frame may be placed

-- In a sound book the room for a supplier's frame is that of the register that holds the supplier alone.
abbrev pub RoomIsAlone : Type 0
RoomIsAlone = (c : Cluster) (b : Book) (s v f : Name) (repetition : ℕ) → IsSound c b →
    room_in c.params (rows_of s b) s v f repetition ≡ room_in c.params b s v f repetition

-- In any book a Place from a supplier that is known, if nothing in it refuses it by itself, is
-- answered Done exactly where there is room for the placement.
abbrev pub RoomIsPlace : Type 0
RoomIsPlace = (c : Cluster) (b : Book) (s v f : Name) (q : Placement) (request : Request) → IsTrue (knows b (Supplier s)) →
    check c.params (Supplier s) request ≡ Ok (checked.Command (Rows (in_rows s v (change.Frame f (Place q))))) →
    is_done (step c b (Supplier s) request).answer ≡ has_place q (room_in c.params b s v f q.cycles.repetition)

-- Where the room for the frame is refused, and not by Limit, such a Place is refused the same.
abbrev pub RoomIsRefused : Type 0
RoomIsRefused = (c : Cluster) (b : Book) (s v f : Name) (q : Placement) (request : Request) (refusal : Refusal) → IsTrue (knows b (Supplier s)) →
    check c.params (Supplier s) request ≡ Ok (checked.Command (Rows (in_rows s v (change.Frame f (Place q))))) →
    room_in c.params b s v f q.cycles.repetition ≡ Err refusal → (refusal ≡ Limit) ⊎ ((step c b (Supplier s) request).answer ≡ Refused refusal)

-- In a sound book, where the repetition divides the count of cycles, the room for a frame has
-- placements of the cluster with that repetition alone.
abbrev pub RoomFits : Type 0
RoomFits = (c : Cluster) (b : Book) (s v f : Name) (repetition : ℕ) (q : Placement) → IsSound c b → IsTrue (is_repetition c.params.cycles repetition) →
    IsTrue (has_place q (room_in c.params b s v f repetition)) → FitsCluster c.params q × (q.cycles.repetition ≡ repetition)

-- ---- how full lanes are

-- In a sound book the used cycles of a variant's load add up to the rows of the schedule that the same actor sees.
abbrev pub LoadAddsUp : Type 0
LoadAddsUp = (c : Cluster) (b : Book) (v : Name) (variant : Variant) (actor : Actor) → IsSound c b → get b.variants v ≡ Some variant →
    all_used (load_of c.params actor (seen_grants actor variant.grants) (seen_frames actor variant.frames)) ≡ length (sendings_of c.params (seen_frames actor variant.frames))

-- ---- how two variants differ

-- The rows that are told to be gone are those that the actor sees of the older variant and that the
-- newer one has not. The rows that are told to be new are those of the newer variant that the older
-- one has not. Both are in the order of the rows.
abbrev pub DifferencesDiffer : Type 0
DifferencesDiffer = (p : Params) (actor : Actor) (old new : Variant) →
    (gone_in (differences p actor old new) ≡ missing p actor old new) × (new_in (differences p actor old new) ≡ missing p actor new old)

-- Without what is gone the rows of the older variant are those of the newer one without what is new, in the same order.
abbrev pub RestIsAlike : Type 0
RestIsAlike = (p : Params) (actor : Actor) (old new : Variant) → in_both p actor old new ≡ in_both p actor new old

-- Where the two variants change places, the gone rows are new and the new rows are gone.
abbrev pub DifferencesTurn : Type 0
DifferencesTurn = (p : Params) (actor : Actor) (old new : Variant) →
    (gone_in (differences p actor new old) ≡ new_in (differences p actor old new)) × (new_in (differences p actor new old) ≡ gone_in (differences p actor old new))

-- A variant does not differ from itself.
abbrev pub NothingDiffersFromItself : Type 0
NothingDiffersFromItself = (p : Params) (actor : Actor) (x : Variant) → differences p actor x x ≡ []

-- A variant that was just opened does not differ from its parent.
abbrev pub OpenedDiffersNowhere : Type 0
OpenedDiffersNowhere = (p : Params) (actor : Actor) (b after : Book) (v from : Name) (old new : Variant) → common b (OpenVariant v (From from)) ≡ Ok after →
    get after.variants from ≡ Some old → get after.variants v ≡ Some new → differences p actor old new ≡ []

-- The difference of two released variants is the same for an actor ever after, as the answers to
-- other queries are.
abbrev pub ReleasedDifferencesStay : Type 0
ReleasedDifferencesStay = (c : Cluster) (b last : Book) (asks : List Ask) (answers : List Answer) (v w : Name) (new old : Variant) →
    get b.variants v ≡ Some new → IsTrue new.released → get b.variants w ≡ Some old → IsTrue old.released → IsRun c b asks answers last →
    (actor : Actor) (request : Request) → IsTrue (knows b actor) →
    check c.params actor request ≡ Ok (checked.Query (Difference v w)) →
    (step c last actor request).answer ≡ (step c b actor request).answer
