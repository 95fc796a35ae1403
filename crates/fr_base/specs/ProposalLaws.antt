-- Laws of proposals. Where the repetitions of a node's wishes are a chain, a wish has no room exactly where it does not fit, and each has a placement exactly
-- where all fit. What is proposed without `replace` is imported as it stands, and its records are those of the wishes, in their order. Under `replace` nothing
-- moves that need not.
use Rattle.std.specs.Prelude.{◌≡◌, ◌⊎◌, ◌↔◌, ℕ, ◌%◌, ◌==◌, Bool, true, false, not, List, [], ◌∷◌, ◌++◌, map, filter, find, is_some, is_none, length, Option, Some, None, option_map, Result, Ok, Err, IsTrue, IsFalse, nat_lt, if◌then◌else◌}
use Rattle.std.specs.List.{AllByRecursion, AllZip, filter_map}
use Rattle.fr_base.specs.Tables.{get}
use Rattle.fr_base.specs.Cluster.{Cluster}
use Rattle.fr_base.specs.Book.{Book, Variant}
use Rattle.fr_base.specs.OwnRows.{OwnRows, own_rows}
use Rattle.fr_base.specs.Wishes.{wishes_of_body}
use Rattle.fr_base.specs.Turns.{same_kind, in_turn, places_given}
use Rattle.fr_base.specs.RefusedWishes.{asked_of, frames_beside}
use Rattle.fr_base.specs.KeptPlaces.{keep}
use Rattle.fr_base.specs.Proposals.{filled_places, is_of_node, judged_wishes, proposal}
use Rattle.fr_base.specs.Sound.{IsSound}
use Rattle.fr_base.specs.Fits.{Fit}
use Rattle.fr_base.specs.ExportedLaws.{File, ReadsAs, MayBeKept}
use Rattle.fr_base.specs.Step.{knows, step}
use Rattle.fr_base.specs.declared.actor.Actor.TheVariants.{Supplier}
use Rattle.fr_base.specs.Names.{is_name}
use Rattle.fr_base.specs.declared.limits.TheConstants.{MAX_IMPORT_BYTES}
use Rattle.fr_base.specs.declared.params.Params.{Params}
use Rattle.fr_base.specs.declared.answer.Answer.{Answer}
use Rattle.fr_base.specs.declared.answer.Answer.TheVariants.{Imported, Refused, Report}
use Rattle.fr_base.specs.declared.answer.ReportRows.TheVariants as rows
use Rattle.fr_base.specs.declared.delivery.Purpose.TheVariants as purpose
use Rattle.fr_base.specs.declared.request.Request.TheVariants.{Deliver}
use Rattle.fr_base.specs.declared.channel.Channels.{Channels}
use Rattle.fr_base.specs.declared.import.Row.{Row}
use Rattle.fr_base.specs.declared.import.Row.TheVariants.{Place}
use Rattle.fr_base.specs.declared.name.Name.{Name}
use Rattle.fr_base.specs.declared.placement.Placement.{Placement}
use Rattle.fr_base.specs.declared.proposal.Given.{Given}
use Rattle.fr_base.specs.declared.proposal.Proposal.{Proposal}
use Rattle.fr_base.specs.declared.proposal.ProposalRow.{ProposalRow}
use Rattle.fr_base.specs.declared.proposal.ProposedPlacement.{ProposedPlacement}
use Rattle.fr_base.specs.declared.refusal.Refusal.{Refusal}
use Rattle.fr_base.specs.declared.refusal.Refusal.TheVariants.{NoVariant, Released, Limit, NoRoom}
use Rattle.fr_base.specs.declared.wish.Asked.{Asked}
use Rattle.fr_base.specs.declared.wish.Wish.{Wish}
use Rattle.fr_base.specs.declared.wish.WishRead.{WishRead}

-- ---- chains

-- one of the two divides the other
abbrev pub OneDivides : ℕ → ℕ → Type 0
OneDivides r t = (t % r ≡ 0) ⊎ (r % t ≡ 0)

-- of each two one divides the other
abbrev pub AreChain : List ℕ → Type 0
AreChain [] = Unit {0}
AreChain (r ∷ rs) = AllByRecursion (OneDivides r) rs × AreChain rs

-- ---- what a proposal tells

-- the node's wishes that are not refused, in the order of lines
abbrev pub asked_of_node : OwnRows → Bool → List WishRead → Name → List Asked
asked_of_node own replace reads n = filter (is_of_node n) (asked_of (judged_wishes own replace reads))

-- the record of a placement that is told, as a row of a file
abbrev pub record_of : Result ProposedPlacement Refusal → Option Row
record_of (Ok placed) = Some (Place placed.frame placed.node placed.placement)
record_of (Err refusal) = None

-- the records of a proposal, in the order of the wishes
abbrev pub records_told : Proposal → List Row
records_told told = filter_map (λ row. record_of row.proposed) told.rows

-- what is told of a line
abbrev pub told_at : Proposal → ℕ → Option (Result ProposedPlacement Refusal)
told_at told line = option_map (λ row. row.proposed) (find (λ row. row.line == line) told.rows)

-- the frame and the placement that are told
abbrev pub placement_told : Option (Result ProposedPlacement Refusal) → Option (Name × Placement)
placement_told (Some (Ok placed)) = Some (placed.frame, placed.placement)
placement_told _ = None

-- whether the wish has a placement in the proposal
abbrev pub has_placement : Proposal → Asked → Bool
has_placement told asked = is_some (placement_told (told_at told asked.line))

-- whether the wish is for these channels
abbrev pub is_on : Channels → Asked → Bool
is_on cs asked = same_kind asked.wish.channels cs

-- the placements that these wishes have in the proposal
abbrev pub placements_told : Proposal → List Asked → List (Name × Placement)
placements_told told wishes = filter_map (λ asked. placement_told (told_at told asked.line)) wishes

-- what is there, and what those of the wishes that are for other channels took
abbrev pub there_and : OwnRows → Proposal → Channels → List Asked → List (Name × Placement)
there_and own told cs before = filled_places own.frames ++ placements_told told (filter (λ asked. not (is_on cs asked)) before)

-- those of the wishes for these channels that have a placement
abbrev pub placed_on : Proposal → Channels → List Asked → List Wish
placed_on told cs before = map (λ asked. asked.wish) (filter (has_placement told) (filter (is_on cs) before))

-- In a sound book, without `replace`, of a node whose wishes have repetitions that are a chain: a wish has no room exactly where it does not fit together with
-- those before it in turn on its channels that have a placement, beside what is there and what those before it on other channels took.
abbrev pub NoRoomIsCertain : Type 0
NoRoomIsCertain = (c : Cluster) (b : Book) (s v n : Name) (x : Variant) (body : List ℕ) (before after : List Asked) (asked : Asked) → IsSound c b → get b.variants v ≡ Some x →
    let own = own_rows c.params b s x in
    let reads = wishes_of_body c.params body in
    let told = proposal own false reads in
    let wishes = asked_of_node own false reads n in
    AreChain (map (λ a. a.wish.repetition) wishes) → in_turn c.params wishes ≡ before ++ asked ∷ after →
    (told_at told asked.line ≡ Some (Err NoRoom))
    ↔ ¬ Fit own (there_and own told asked.wish.channels before) (placed_on told asked.wish.channels before ++ asked.wish ∷ [])

-- ---- what is proposed is accepted

-- In a sound book a supplier that is known asks for a proposal for an open variant, without `replace`. The records of the proposal are the rows of a file, which
-- may be kept under its label. The import of it into this variant is answered Imported, with as many rows as there are records.
abbrev pub ProposalIsImported : Type 0
ProposalIsImported = (c : Cluster) (b : Book) (s v : Name) (x : Variant) (body : List ℕ) (file : File) → IsSound c b → IsTrue (knows b (Supplier s)) → get b.variants v ≡ Some x → IsFalse x.released →
    let records = records_told (proposal (own_rows c.params b s x) false (wishes_of_body c.params body)) in
    ReadsAs c.params file.body records → MayBeKept b s (file ∷ []) →
    (step c b (Supplier s) (Deliver v (purpose.Import file.label) file.body)).answer ≡ Imported (length records)

-- the row is of the wish: of its line; and where it has a placement, its text and the rows did not refuse the wish, whose frame, node, channels and repetition
-- it has
pub record IsRowOf (read : WishRead) (row : ProposalRow) : Type 0 where
  pub line : row.line ≡ read.line
  pub placed : (placed : ProposedPlacement) → row.proposed ≡ Ok placed →
      (read.wish ≡ Ok (record { frame = placed.frame; node = placed.node; channels = placed.placement.channels; repetition = placed.placement.cycles.repetition }))

-- The rows of a proposal stand in the order of the wishes. Each record has its wish's frame, node, channels and repetition.
abbrev pub RowsAreTheirWishes : Type 0
RowsAreTheirWishes = (c : Cluster) (b : Book) (s v : Name) (x : Variant) (body : List ℕ) → IsSound c b → get b.variants v ≡ Some x →
    let reads = wishes_of_body c.params body in
    AllZip IsRowOf reads (proposal (own_rows c.params b s x) false reads).rows

-- In a sound book, without `replace`, of a node whose wishes are all for the same channels and have repetitions that are a chain: each has a placement exactly
-- where they all fit beside what is there.
abbrev pub AllAreGivenWhereAllFit : Type 0
AllAreGivenWhereAllFit = (c : Cluster) (b : Book) (s v n : Name) (x : Variant) (cs : Channels) (body : List ℕ) → IsSound c b → get b.variants v ≡ Some x →
    let own = own_rows c.params b s x in
    let reads = wishes_of_body c.params body in
    let told = proposal own false reads in
    let wishes = asked_of_node own false reads n in
    AllByRecursion (λ a. a.wish.channels ≡ cs) wishes → AreChain (map (λ a. a.wish.repetition) wishes) →
    AllByRecursion (λ a. has_placement told a ≡ true) wishes ↔ Fit own (filled_places own.frames) (map (λ a. a.wish) wishes)

-- ---- what is to replace

-- what the node's wishes keep under `replace`, each that keeps a placement with it
abbrev pub kept_of_node : OwnRows → List WishRead → Name → List Given
kept_of_node own reads n = keep own.supplier own.frames [] (asked_of_node own true reads n)

-- those that keep nothing
abbrev pub without_place : List Given → List Asked
without_place given = map (λ g. g.asked) (filter (λ g. is_none g.place) given)

-- the frames that are not named, and all that is kept of the node
abbrev pub beside_kept : OwnRows → List WishRead → Name → List (Name × Placement)
beside_kept own reads n = filled_places (frames_beside own true reads) ++ places_given (kept_of_node own reads n)

-- In a sound book, under `replace`, of a node of which the wishes that keep nothing are for the same channels and have repetitions that are a chain: where these
-- fit beside all that is kept and the frames that are not named, each wish that keeps a placement has it in the proposal.
abbrev pub NothingMovesThatNeedNot : Type 0
NothingMovesThatNeedNot = (c : Cluster) (b : Book) (s v n : Name) (x : Variant) (cs : Channels) (body : List ℕ) → IsSound c b → get b.variants v ≡ Some x →
    let own = own_rows c.params b s x in
    let reads = wishes_of_body c.params body in
    let others = without_place (kept_of_node own reads n) in
    AllByRecursion (λ a. a.wish.channels ≡ cs) others → AreChain (map (λ a. a.wish.repetition) others) → Fit own (beside_kept own reads n) (map (λ a. a.wish) others) →
    AllByRecursion (λ g. (q : Placement) → g.place ≡ Some q → placement_told (told_at (proposal own true reads) g.asked.line) ≡ Some (g.asked.wish.frame, q)) (kept_of_node own reads n)

-- ---- the answer

-- What a supplier is answered of a proposal. It is refused where the variant is not there, else where it is released, else where the file is too long; else the
-- proposal by the supplier's own rows is told.
abbrev pub proposal_told : Params → Bool → Book → Name → List ℕ → Option Variant → Answer
proposal_told p replace b s body None = Refused NoVariant
proposal_told p replace b s body (Some x) =
    if x.released then Refused Released
    else if nat_lt MAX_IMPORT_BYTES (length body) then Refused Limit
    else Report false (rows.Proposal replace (proposal (own_rows p b s x) replace (wishes_of_body p body)))

-- In any book a supplier that is known, and names a variant in its form, is told that, and the book stays.
abbrev pub ProposalIsTold : Type 0
ProposalIsTold = (c : Cluster) (b : Book) (s : Name) (v body : List ℕ) (replace : Bool) → IsTrue (knows b (Supplier s)) → IsTrue (is_name v) →
    step c b (Supplier s) (Deliver v (purpose.Proposal replace) body) ≡ record { book = b; answer = proposal_told c.params replace b s body (get b.variants v) }
