-- Laws of queries: a query changes nothing. What the register holds, in what two variants differ,
-- the load of one and its rows are told as the book has them; a variant that is not there is told as
-- such. Two variants differ in just the rows that the one is told to have and the other is not.
use Rattle.std.specs.Prelude.{◌≡◌, ◌↔◌, ℕ, List, Option, Some, None, Ok, IsTrue}
use Rattle.std.specs.List.{Contains}
use Rattle.fr_base.specs.Tables.{get}
use Rattle.fr_base.specs.Checks.{is_integrator, check}
use Rattle.fr_base.specs.Cluster.{Cluster}
use Rattle.fr_base.specs.Book.{Variant, Book}
use Rattle.fr_base.specs.Seen.{seen_grants, seen_frames}
use Rattle.fr_base.specs.Differences.{seen_rows, gone_in, new_in, differences}
use Rattle.fr_base.specs.Load.{load_of}
use Rattle.fr_base.specs.Queries.{held}
use Rattle.fr_base.specs.Step.{knows, step}
use Rattle.fr_base.specs.declared.answer.Answer.{Answer}
use Rattle.fr_base.specs.declared.answer.Answer.TheVariants.{Report, Refused}
use Rattle.fr_base.specs.declared.answer.DifferenceRow.{DifferenceRow}
use Rattle.fr_base.specs.declared.answer.LoadRow.{LoadRow}
use Rattle.fr_base.specs.declared.answer.ReportRows.TheVariants as rows
use Rattle.fr_base.specs.declared.answer.SeenRow.{SeenRow}
use Rattle.fr_base.specs.declared.refusal.Refusal.TheVariants.{NoVariant}
use Rattle.fr_base.specs.declared.name.Name.{Name}
use Rattle.fr_base.specs.declared.params.Params.{Params}
use Rattle.fr_base.specs.declared.actor.Actor.{Actor}
use Rattle.fr_base.specs.declared.query.Query.{Query}
use Rattle.fr_base.specs.declared.query.Query.TheVariants.{Register, Variant as OfVariant, Difference}
use Rattle.fr_base.specs.declared.query.Inventory.{Inventory}
use Rattle.fr_base.specs.declared.report.Report.TheVariants.{Load, Rows}
use Rattle.fr_base.specs.declared.request.Request.{Request}
use Rattle.fr_base.specs.declared.request.Checked.TheVariants as checked

-- A request that is a query changes nothing, whoever asks it.
abbrev pub QueryChangesNothing : Type 0
QueryChangesNothing = (c : Cluster) (b : Book) (actor : Actor) (request : Request)
    (query : Query Name ℕ) →
    check c.params actor request ≡ Ok (checked.Query query) → (step c b actor request).book ≡ b

-- In any book an actor that is known is told what the register holds, as it sees it.
abbrev pub InventoryIsTold : Type 0
InventoryIsTold = (c : Cluster) (b : Book) (actor : Actor) (inventory : Inventory)
    (request : Request) → IsTrue (knows b actor) →
    check c.params actor request ≡ Ok (checked.Query (Register inventory)) →
    step c b actor request
    ≡ record { book = b; answer = Report (is_integrator actor) (held c.params b actor inventory) }

-- what an actor is answered of the newer and the older of two variants
abbrev pub difference_told : Params → Actor → Option Variant → Option Variant → Answer
difference_told p actor (Some new) (Some old) =
    Report (is_integrator actor) (rows.Difference (differences p actor old new))
difference_told p actor _ _ = Refused NoVariant

-- In any book an actor that is known is told the difference of the two variants that it names,
-- or, where one of them is not there, that it is not.
abbrev pub DifferenceIsTold : Type 0
DifferenceIsTold = (c : Cluster) (b : Book) (actor : Actor) (v from : Name) (request : Request) →
    IsTrue (knows b actor) → check c.params actor request ≡ Ok (checked.Query (Difference v from)) →
    step c b actor request
    ≡ record {
      book = b;
      answer = difference_told c.params actor (get b.variants v) (get b.variants from);
    }

-- the load of the grants and the frames that an actor sees of a variant
abbrev pub load_seen : Params → Actor → Variant → List LoadRow
load_seen p actor x = load_of p actor (seen_grants actor x.grants) (seen_frames actor x.frames)

-- what an actor is answered of a variant's load
abbrev pub load_told : Params → Actor → Option Variant → Answer
load_told p actor None = Refused NoVariant
load_told p actor (Some x) = Report (is_integrator actor) (rows.Load (load_seen p actor x))

-- In any book an actor that is known is told the load of the variant that it names.
abbrev pub LoadIsTold : Type 0
LoadIsTold = (c : Cluster) (b : Book) (actor : Actor) (v : Name) (request : Request) →
    IsTrue (knows b actor) → check c.params actor request ≡ Ok (checked.Query (OfVariant v Load)) →
    step c b actor request
    ≡ record { book = b; answer = load_told c.params actor (get b.variants v) }

-- what an actor is answered of a variant's rows
abbrev pub rows_told : Params → Actor → Option Variant → Answer
rows_told p actor None = Refused NoVariant
rows_told p actor (Some x) = Report (is_integrator actor) (rows.Seen (seen_rows p actor x))

-- In any book an actor that is known is told the rows that it sees of the variant that it names.
abbrev pub RowsAreTold : Type 0
RowsAreTold = (c : Cluster) (b : Book) (actor : Actor) (v : Name) (request : Request) →
    IsTrue (knows b actor) → check c.params actor request ≡ Ok (checked.Query (OfVariant v Rows)) →
    step c b actor request
    ≡ record { book = b; answer = rows_told c.params actor (get b.variants v) }

-- the rows of the one list that the other has not are just these
abbrev pub AreThoseOfOne : List SeenRow → List SeenRow → List SeenRow → Type 0
AreThoseOfOne told one other =
    (row : SeenRow) → Contains told row ↔ Contains one row × (¬ Contains other row)

-- Where an actor is told the rows of two variants, it is told in what they differ: gone are just the
-- rows that the older one has and the newer one has not, and new just those that the newer one has
-- and the older one has not.
abbrev pub DifferenceIsOfRows : Type 0
DifferenceIsOfRows = (c : Cluster) (b : Book) (actor : Actor) (v from : Name)
    (of_newer of_older of_both : Request) (newer older : List SeenRow) → IsTrue (knows b actor) →
    check c.params actor of_newer ≡ Ok (checked.Query (OfVariant v Rows)) →
    check c.params actor of_older ≡ Ok (checked.Query (OfVariant from Rows)) →
    check c.params actor of_both ≡ Ok (checked.Query (Difference v from)) →
    (step c b actor of_newer).answer ≡ Report (is_integrator actor) (rows.Seen newer) →
    (step c b actor of_older).answer ≡ Report (is_integrator actor) (rows.Seen older) →
    (told : List DifferenceRow)
    × ((step c b actor of_both).answer ≡ Report (is_integrator actor) (rows.Difference told))
    × AreThoseOfOne (gone_in told) older newer × AreThoseOfOne (new_in told) newer older
