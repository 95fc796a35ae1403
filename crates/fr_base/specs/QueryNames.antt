-- Query's names: the word by which a query asks, and the fields that hold its names and numbers. A query whose names and numbers
-- are read, one after another: the first that gives an error gives it to the query. The label of a delivered file is read so too.
use Rattle.std.specs.Prelude.{ℕ, ◌≡◌, List, codes, Option, Some, option_map, Result, Ok, Err, MatchResult}
use Rattle.fr_base.specs.Refusing.{◌>>=◌}
use Rattle.fr_base.specs.declared.delivery.Purpose.{Purpose}
use Rattle.fr_base.specs.declared.delivery.Purpose.TheVariants.{Import, Replacement, Trial, Proposal}
use Rattle.fr_base.specs.declared.field_name.FieldName.{FieldName}
use Rattle.fr_base.specs.declared.field_name.FieldName.TheVariants as field
use Rattle.fr_base.specs.declared.import.Header.TheVariants as header
use Rattle.fr_base.specs.declared.query.Inventory.{Inventory}
use Rattle.fr_base.specs.declared.query.Inventory.TheVariants.{Cluster, Variants, Nodes}
use Rattle.fr_base.specs.declared.query.Query.{Query}
use Rattle.fr_base.specs.declared.query.Query.TheVariants.{Register, Variant, Difference}
use Rattle.fr_base.specs.declared.report.Report.{Report}
use Rattle.fr_base.specs.declared.report.Report.TheVariants.{Grants, Frames, Schedule, Gaps, Layout, Load, Rows, Room, Export}

-- the word by which a report is asked for
abbrev pub word_of : {F M : Type 0} → Report F M → List ℕ
word_of Grants = codes "grants"
word_of Frames = codes "frames"
word_of Schedule = codes "schedule"
word_of Gaps = codes "gaps"
word_of (Layout frame) = codes "layout"
word_of Load = codes "load"
word_of Rows = codes "rows"
word_of (Room frame repetition) = codes "room"
word_of (Export header.Frames part) = codes "export_frames"
word_of (Export header.Placements part) = codes "export_placements"
word_of (Export header.Signals part) = codes "export_signals"

-- the word by which it is asked what the register holds
abbrev pub word_of_inventory : Inventory → List ℕ
word_of_inventory Cluster = codes "cluster"
word_of_inventory Variants = codes "variants"
word_of_inventory Nodes = codes "nodes"

-- the word by which a query asks
abbrev pub word_of_query : {N M : Type 0} → Query N M → List ℕ
word_of_query (Register inventory) = word_of_inventory inventory
word_of_query (Variant variant report) = word_of report
word_of_query (Difference variant from) = codes "diff"

-- the name of a field that holds a name or a number
abbrev pub name_of_field : FieldName → List ℕ
name_of_field field.Variant = codes "variant"
name_of_field field.From = codes "from"
name_of_field field.Frame = codes "frame"
name_of_field field.Repetition = codes "repetition"
name_of_field field.Part = codes "part"

-- what is asked, with a field for each name and number
abbrev pub Question : Type 0
Question = Query FieldName FieldName

-- the result of a report whose names and numbers are read by these two relations
unfoldable pub IsReportRead : {N M A E : Type 0} → (N → Result A E → Type 0) → (M → Result ℕ E → Type 0) → Report N M → Result (Report A ℕ) E → Type 0
IsReportRead reads counts Grants result = result ≡ Ok Grants
IsReportRead reads counts Frames result = result ≡ Ok Frames
IsReportRead reads counts Schedule result = result ≡ Ok Schedule
IsReportRead reads counts Gaps result = result ≡ Ok Gaps
IsReportRead {N} {M} {A} {E} reads counts (Layout frame) result =
    (name : Result A E) × reads frame name × (result ≡ (name >>= (λ f. Ok (Layout f))))
IsReportRead reads counts Load result = result ≡ Ok Load
IsReportRead reads counts Rows result = result ≡ Ok Rows
IsReportRead {N} {M} {A} {E} reads counts (Room frame repetition) result =
    (name : Result A E) × reads frame name × MatchResult name
    (λ f. (number : Result ℕ E) × counts repetition number × (result ≡ (number >>= (λ r. Ok (Room f r)))))
    (λ e. result ≡ Err e)
IsReportRead {N} {M} {A} {E} reads counts (Export header part) result =
    (number : Result ℕ E) × counts part number × (result ≡ (number >>= (λ k. Ok (Export header k))))

-- the result of a query whose names and numbers are read by these two relations
unfoldable pub IsQueryRead : {N M A E : Type 0} → (N → Result A E → Type 0) → (M → Result ℕ E → Type 0) → Query N M → Result (Query A ℕ) E → Type 0
IsQueryRead reads counts (Register inventory) result = result ≡ Ok (Register inventory)
IsQueryRead {N} {M} {A} {E} reads counts (Variant variant report) result =
    (name : Result A E) × reads variant name × MatchResult name
    (λ v. (asked : Result (Report A ℕ) E) × IsReportRead reads counts report asked × (result ≡ (asked >>= (λ r. Ok (Variant v r)))))
    (λ e. result ≡ Err e)
IsQueryRead {N} {M} {A} {E} reads counts (Difference variant from) result =
    (name : Result A E) × reads variant name × MatchResult name
    (λ v. (other : Result A E) × reads from other × (result ≡ (other >>= (λ f. Ok (Difference v f)))))
    (λ e. result ≡ Err e)

-- the result of a purpose whose label is read by this relation
unfoldable pub IsPurposeRead : {N A E : Type 0} → (N → Result A E → Type 0) → Purpose N → Result (Purpose A) E → Type 0
IsPurposeRead {N} {A} {E} reads (Import label) result = (name : Result A E) × reads label name × (result ≡ (name >>= (λ l. Ok (Import l))))
IsPurposeRead reads (Replacement whole) result = result ≡ Ok (Replacement whole)
IsPurposeRead reads (Trial manner) result = result ≡ Ok (Trial manner)
IsPurposeRead reads (Proposal replace) result = result ≡ Ok (Proposal replace)

-- the purpose with the label of an import changed by the function
abbrev pub purpose_with : {N A : Type 0} → (N → A) → Purpose N → Purpose A
purpose_with f (Import label) = Import (f label)
purpose_with f (Replacement whole) = Replacement whole
purpose_with f (Trial manner) = Trial manner
purpose_with f (Proposal replace) = Proposal replace

-- the report whose names and numbers are read by these functions, one after another
abbrev pub report_in : {N M A E : Type 0} → (N → Result A E) → (M → Result ℕ E) → Report N M → Result (Report A ℕ) E
report_in reads counts Grants = Ok Grants
report_in reads counts Frames = Ok Frames
report_in reads counts Schedule = Ok Schedule
report_in reads counts Gaps = Ok Gaps
report_in reads counts (Layout frame) = do
  f ← reads frame
  Ok (Layout f)
report_in reads counts Load = Ok Load
report_in reads counts Rows = Ok Rows
report_in reads counts (Room frame repetition) = do
  f ← reads frame
  r ← counts repetition
  Ok (Room f r)
report_in reads counts (Export header part) = do
  k ← counts part
  Ok (Export header k)

-- the query whose names and numbers are read so
abbrev pub query_in : {N M A E : Type 0} → (N → Result A E) → (M → Result ℕ E) → Query N M → Result (Query A ℕ) E
query_in reads counts (Register inventory) = Ok (Register inventory)
query_in reads counts (Variant variant report) = do
  v ← reads variant
  r ← report_in reads counts report
  Ok (Variant v r)
query_in reads counts (Difference variant from) = do
  v ← reads variant
  f ← reads from
  Ok (Difference v f)

-- the report with its names changed by the first function and its numbers by the second
abbrev pub report_with : {N M A : Type 0} → (N → A) → (M → ℕ) → Report N M → Report A ℕ
report_with f g Grants = Grants
report_with f g Frames = Frames
report_with f g Schedule = Schedule
report_with f g Gaps = Gaps
report_with f g (Layout frame) = Layout (f frame)
report_with f g Load = Load
report_with f g Rows = Rows
report_with f g (Room frame repetition) = Room (f frame) (g repetition)
report_with f g (Export header part) = Export header (g part)

-- the query with its names changed by the first function and its numbers by the second
abbrev pub query_with : {N M A : Type 0} → (N → A) → (M → ℕ) → Query N M → Query A ℕ
query_with f g (Register inventory) = Register inventory
query_with f g (Variant variant report) = Variant (f variant) (report_with f g report)
query_with f g (Difference variant from) = Difference (f variant) (f from)

-- the report with its names changed and its numbers read; none where a number gives none
abbrev pub report_by : {N M A : Type 0} → (N → A) → (M → Option ℕ) → Report N M → Option (Report A ℕ)
report_by f g Grants = Some Grants
report_by f g Frames = Some Frames
report_by f g Schedule = Some Schedule
report_by f g Gaps = Some Gaps
report_by f g (Layout frame) = Some (Layout (f frame))
report_by f g Load = Some Load
report_by f g Rows = Some Rows
report_by f g (Room frame repetition) = option_map (Room (f frame)) (g repetition)
report_by f g (Export header part) = option_map (Export header) (g part)

-- the query with its names changed and its numbers read; none where a number gives none
abbrev pub query_by : {N M A : Type 0} → (N → A) → (M → Option ℕ) → Query N M → Option (Query A ℕ)
query_by f g (Register inventory) = Some (Register inventory)
query_by f g (Variant variant report) = option_map (Variant (f variant)) (report_by f g report)
query_by f g (Difference variant from) = Some (Difference (f variant) (f from))
