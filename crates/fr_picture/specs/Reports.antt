-- Reports: the answer to a request for a report.
-- The rows that were read are those of the answer; or why they may be refused. The register stands
-- for the same book as before.
use Rattle.std.specs.Prelude.{◌≡◌, ◌⊎◌, ℕ, Bool, List, [], ◌∷◌, Result, MatchResult}
use Rattle.fr_base.specs.Book.{Book}
use Rattle.fr_base.specs.Cluster.{Cluster}
use Rattle.fr_base.specs.Desks.{Standing}
use Rattle.fr_base.specs.Run.{IsRun}
use Rattle.fr_base.specs.Sound.{IsSound}
use Rattle.fr_base.specs.Step.{step}
use Rattle.fr_base.specs.declared.actor.Actor.{Actor}
use Rattle.fr_base.specs.declared.answer.Answer.{Answer}
use Rattle.fr_base.specs.declared.answer.Answer.TheVariants.{Report as Told, Refused}
use Rattle.fr_base.specs.declared.answer.ReportRows.TheVariants as rows
use Rattle.fr_base.specs.declared.answer.DifferenceRow.{DifferenceRow}
use Rattle.fr_base.specs.declared.answer.GrantRow.{GrantRow}
use Rattle.fr_base.specs.declared.answer.FrameRow.{FrameRow}
use Rattle.fr_base.specs.declared.answer.Sending.{Sending}
use Rattle.fr_base.specs.declared.answer.GapRow.{GapRow}
use Rattle.fr_base.specs.declared.answer.SignalRow.{SignalRow}
use Rattle.fr_base.specs.declared.answer.VariantRow.{VariantRow}
use Rattle.fr_base.specs.declared.query.Inventory.TheVariants.{Variants}
use Rattle.fr_base.specs.declared.query.Query.TheVariants.{Register, Variant, Difference}
use Rattle.fr_base.specs.declared.refusal.Refusal.{Refusal}
use Rattle.fr_base.specs.declared.refusal.Refusal.TheVariants.{Unavailable}
use Rattle.fr_base.specs.declared.report.Report.{Report}
use Rattle.fr_base.specs.declared.request.Request.{Request}
use Rattle.fr_base.specs.declared.request.Request.TheVariants.{Query}

-- the answer to a request
abbrev pub answer_to : Cluster → Book → Actor → Request → Answer
answer_to c b actor request = (step c b actor request).answer

-- the request for a report of a variant
abbrev pub asks : List ℕ → Report (List ℕ) ℕ → Request
asks variant report = Query (Variant variant report)

-- the request for the variants
abbrev pub asks_variants : Request
asks_variants = Query (Register Variants)

-- the request for the rows in which a variant differs from another one
abbrev pub asks_difference : List ℕ → List ℕ → Request
asks_difference variant from = Query (Difference variant from)

-- the answer that has these rows, for each report
abbrev pub with_variants : Bool → List VariantRow → Answer
with_variants all variants = Told all (rows.Variants variants)

abbrev pub with_grants : Bool → List GrantRow → Answer
with_grants all grants = Told all (rows.Grants grants)

abbrev pub with_frames : Bool → List FrameRow → Answer
with_frames all frames = Told all (rows.Frames frames)

abbrev pub with_cells : Bool → List Sending → Answer
with_cells all cells = Told all (rows.Schedule cells)

abbrev pub with_gaps : Bool → List GapRow → Answer
with_gaps all gaps = Told all (rows.Gaps gaps)

abbrev pub with_signals : Bool → List SignalRow → Answer
with_signals all signals = Told all (rows.Layout signals)

abbrev pub with_difference : Bool → List DifferenceRow → Answer
with_difference all differences = Told all (rows.Difference differences)

-- An answer without rows is this refusal, or the refusal is Unavailable.
abbrev pub MayRefuse : Answer → Refusal → Type 0
MayRefuse answer refusal = (refusal ≡ Unavailable) ⊎ (answer ≡ Refused refusal)

-- In each sound book for which the register stood, this was read of it, or it is refused for this.
-- The register stands for the same book as before.
abbrev pub Reads : {X : Type 0} → Standing → Standing → Result X Refusal → (Cluster → Book → X → Type 0) → (Cluster → Book → Refusal → Type 0) → Type 0
Reads old new r Is May = (c : Cluster) (b : Book) → old c b → IsSound c b → new c b × MatchResult r (Is c b) (May c b)

-- What was read are the rows of the answer to a request of this kind; or it is the refusal of the
-- request, or Unavailable.
abbrev pub Reports : {X : Type 0} → Standing → Standing → Actor → Request → (Bool → X → Answer) → Result X Refusal → Type 0
Reports old new actor request kind r =
    Reads old new r (λ c b rows. (all : Bool) × (answer_to c b actor request ≡ kind all rows)) (λ c b e. MayRefuse (answer_to c b actor request) e)

-- As long as the register is clean, this was read of it, or it is refused for this.
abbrev pub GivesRead : {X : Type 0} → (Cluster → Book → X → Type 0) → (Cluster → Book → Refusal → Type 0) → Type 0 → Standing → Standing → Result X Refusal → Type 0
GivesRead Is May clean old new r = clean → Reads old new r Is May

-- As long as the register is clean, these are the rows of the answer to a request of this kind, or
-- why there are none.
abbrev pub GivesRows : {X : Type 0} → Actor → Request → (Bool → X → Answer) → Type 0 → Standing → Standing → Result X Refusal → Type 0
GivesRows actor request kind clean old new r = clean → Reports old new actor request kind r

-- In a sound book the request was answered by one step, or it is Unavailable where it may be. The
-- register stands for the book after it.
abbrev pub Answered : Standing → Standing → Actor → Request → Answer → Type 0
Answered old new actor request answer = (c : Cluster) (b : Book) → old c b → IsSound c b
    → (last : Book) × new c last × IsRun c b (record { actor = actor; request = request } ∷ []) (answer ∷ []) last
