-- Program's words: which job the words of the command line name, and which number a word is. When `clap` takes them; and
-- why they are refused: they ask for help, have another fault, or name no job.
use Rattle.std.specs.Prelude.{◌*◌, ◌≡◌, ◌≢◌, ◌≤◌, ◌⊎◌, [], ℕ, Bool, true, false, if◌then◌else◌, List, None, Option, Some, codes, option_and_then, option_map, Result, Ok, MatchResult, ⊤}
use Rattle.std.specs.Option.{option_map_or}
use Rattle.std.specs.Str.{bytes_eq}
use Rattle.std.specs.Borrow.{Bor}
use Rattle.std.specs.Str.Parse.{IsNumeral, digits_value, without_leading_plus}
use Rattle.clap.specs.Walk.{Row, Text, first_of, one_of}
use Rattle.clap.specs.Words.{IsAmong, fault_of, subcommand_of}
use Rattle.clap.specs.declared.error.kind.ErrorKind.{ErrorKind}
use Rattle.clap.specs.declared.error.kind.ErrorKind.TheVariants.{DisplayHelp, DisplayVersion, OutOfMemory, ValueValidation}
use Rattle.fr_base.specs.Forms.{of_variant}
use Rattle.fr_base.specs.QueryNames.{IsQueryRead, Question}
use Rattle.fr_base.specs.declared.field_name.FieldName.{FieldName}
use Rattle.fr_base.specs.declared.field_name.FieldName.TheVariants as field
use Rattle.fr_base.specs.declared.import.Header.{Header}
use Rattle.fr_base.specs.declared.import.Header.TheVariants.{Frames, Placements, Signals}
use Rattle.fr_base.specs.declared.query.Query.{Query}
use Rattle.fr_base.specs.declared.report.Report.TheVariants.{Export}
use Rattle.fr_base.specs.declared.delivery.Manner.{Manner}
use Rattle.fr_base.specs.declared.delivery.Manner.TheVariants.{Import, Replace}
use Rattle.fr_office.specs.declared.page_bytes.TheConstants.{MAX_BYTES}
use Rattle.fr_cli.specs.Commands.{slotplan}
use Rattle.fr_cli.specs.Reports.{argument_name, asked_with}
use Rattle.fr_cli.specs.declared.words.Job.{Job}
use Rattle.fr_cli.specs.declared.words.Job.TheVariants.{Run, Create, Migrate, Serve, Ask, Report as ReportOn, Picture, Deliver, Check, Explain}
use Rattle.fr_cli.specs.declared.words.WordFault.{WordFault}
use Rattle.fr_cli.specs.declared.words.WordFault.TheVariants.{Help, Usage, NoMemory}
use Rattle.fr_cli.specs.declared.words.delivery.Delivery.{Delivery}
use Rattle.fr_base.specs.declared.delivery.Purpose.{Purpose}
use Rattle.fr_base.specs.declared.delivery.Purpose.TheVariants.{Import as ByLabel, Replacement, Trial, Proposal}
use Rattle.fr_cli.specs.declared.words.inquiry.Inquiry.{Inquiry}
use Rattle.fr_cli.specs.declared.words.check_subject.CheckSubject.{CheckSubject}
use Rattle.fr_cli.specs.declared.words.check_subject.CheckSubject.TheVariants as of

-- The word at this place is this text.
abbrev pub Has : Text → List Row → Text → Type 0
Has name rows text = first_of name rows ≡ Some text

-- The word at this place is this number, `least` to `most`, in decimal digits. A plus before them is passed over. So is a minus, but `clap`
-- refuses such a word.
abbrev pub HasNumber : Text → ℕ → ℕ → List Row → ℕ → Type 0
HasNumber name least most rows number = (text : Text) × (one_of name rows ≡ Some text) × IsNumeral 10 (without_leading_plus text)
    × (number ≡ digits_value 10 (without_leading_plus text)) × (least ≤ number) × (number ≤ most)

-- The number is the one at this place. Where none is given, none from `least` to `most` stands there.
abbrev pub IsNumberIn : Option ℕ → Text → ℕ → ℕ → List Row → Type 0
IsNumberIn (Some number) name least most rows = HasNumber name least most rows number
IsNumberIn None name least most rows = (number : ℕ) → HasNumber name least most rows number → ⊥

-- Whether the flag of this name is given: `clap` gives it the text `true` where it is among the words, and else `false`.
abbrev pub is_given : Text → List Row → Bool
is_given name rows = option_map_or (λ text. bytes_eq text (codes "true")) (one_of name rows) false

-- the greatest number that a word may be where no other bound is named
abbrev pub max_number : ℕ
max_number = 4294967295

-- the header of the records that are exported, if the word names one
abbrev pub header_named : Text → Option Header
header_named name =
    if bytes_eq name (codes "frames") then Some Frames
    else (if bytes_eq name (codes "placements") then Some Placements else (if bytes_eq name (codes "signals") then Some Signals else None))

abbrev pub header_in : List Row → Option Header
header_in rows = option_and_then header_named (first_of (codes "ROWS") rows)

-- the query for the records below a header
abbrev pub records : Header → Question
records header = of_variant (Export header field.Part)

-- What is asked with the subcommand of this name and these words. `export` asks for the records that the words name.
abbrev pub asked_by : Text → List Row → Option Question
asked_by name rows = if bytes_eq name (codes "export") then option_map records (header_in rows) else asked_with name

-- The text is the word for this field of what is asked; or there is none.
abbrev pub IsWordAt : Question → List Row → FieldName → Result (Bor (List ℕ)) ⊤ → Type 0
IsWordAt asked rows field result = MatchResult result
    (λ text. Has (argument_name asked field) rows text.now)
    (λ _. first_of (argument_name asked field) rows ≡ None)

-- The number is the word for this field of what is asked; or that is no number, or too great.
abbrev pub IsNumberAt : Question → List Row → FieldName → Result ℕ ⊤ → Type 0
IsNumberAt asked rows field result = MatchResult result
    (λ number. HasNumber (argument_name asked field) 0 max_number rows number)
    (λ _. (number : ℕ) → HasNumber (argument_name asked field) 0 max_number rows number → ⊥)

-- The query is what is asked, with the words for its fields as its names and numbers.
abbrev pub IsAnswerable : Option Question → List Row → Query (Bor (List ℕ)) ℕ → Type 0
IsAnswerable (Some asked) rows query = IsQueryRead (IsWordAt asked rows) (IsNumberAt asked rows) asked (Ok query)
IsAnswerable None rows query = ⊥

-- The supplier is the one that the words name, if they name one.
abbrev pub IsOfSupplier : Option (Bor (List ℕ)) → List Row → Type 0
IsOfSupplier supplier rows = option_map (λ name. name.now) supplier ≡ first_of (codes "supplier") rows

-- The other variant is the one that the words name, if they name one.
abbrev pub IsSince : Option (Bor (List ℕ)) → List Row → Type 0
IsSince since rows = option_map (λ name. name.now) since ≡ first_of (codes "since") rows

-- No word stands at this place.
abbrev pub Lacks : Text → List Row → Type 0
Lacks name rows = first_of name rows ≡ None

-- The file or the path is the one that the words name, and they name no other.
abbrev pub IsFileOf : CheckSubject → List Row → Type 0
IsFileOf (of.Config path) rows = Has (codes "CONFIG") rows path.now × Lacks (codes "requests") rows × Lacks (codes "rows") rows × Lacks (codes "path") rows × Lacks (codes "register") rows
IsFileOf (of.Requests path) rows = Lacks (codes "CONFIG") rows × Has (codes "requests") rows path.now × Lacks (codes "rows") rows × Lacks (codes "path") rows × Lacks (codes "register") rows
IsFileOf (of.Rows path) rows = Lacks (codes "CONFIG") rows × Lacks (codes "requests") rows × Has (codes "rows") rows path.now × Lacks (codes "path") rows × Lacks (codes "register") rows
IsFileOf (of.Target path) rows = Lacks (codes "CONFIG") rows × Lacks (codes "requests") rows × Lacks (codes "rows") rows × Has (codes "path") rows path.now × Lacks (codes "register") rows
IsFileOf (of.Register path) rows = Lacks (codes "CONFIG") rows × Lacks (codes "requests") rows × Lacks (codes "rows") rows × Lacks (codes "path") rows × Has (codes "register") rows path.now

-- The file is that one. Where none is given, the words name none, or several.
abbrev pub IsFileIn : Option CheckSubject → List Row → Type 0
IsFileIn (Some file) rows = IsFileOf file rows
IsFileIn None rows = (file : CheckSubject) → IsFileOf file rows → ⊥

-- how the rows of a file act that is tried: in a replacement where that is said, else in an import; a replacement alone may be whole
abbrev pub manner_by : Bool → Bool → Option Manner
manner_by true whole = Some (Replace whole)
manner_by false true = None
manner_by false false = Some Import

abbrev pub manner_in : List Row → Option Manner
manner_in rows = manner_by (is_given (codes "replace") rows) (is_given (codes "whole") rows)

-- the subcommand that delivers a file of rows, or tries it, or that asks what is proposed for wishes
abbrev pub word_of_delivery : Purpose (Bor (List ℕ)) → Text
word_of_delivery (ByLabel label) = codes "import"
word_of_delivery (Replacement whole) = codes "replace"
word_of_delivery (Trial manner) = codes "try"
word_of_delivery (Proposal replace) = codes "propose"

-- The label of an import is the word at its place. A replacement is whole where that is said. A file is tried in the manner that is said. A proposal
-- replaces where that is said.
abbrev pub HasPurpose : Purpose (Bor (List ℕ)) → List Row → Type 0
HasPurpose (ByLabel label) rows = Has (codes "LABEL") rows label.now
HasPurpose (Replacement whole) rows = whole ≡ is_given (codes "whole") rows
HasPurpose (Trial manner) rows = manner_in rows ≡ Some manner
HasPurpose (Proposal replace) rows = replace ≡ is_given (codes "replace") rows

-- The delivery is of these words.
abbrev pub IsDeliveryIn : List Row → Delivery → Type 0
IsDeliveryIn rows delivery = Has (codes "KEY") rows delivery.key.now × Has (codes "VARIANT") rows delivery.variant.now
    × HasPurpose delivery.how rows × Has (codes "FILE") rows delivery.file.now

-- The job is the subcommand's of this name, with the words that stand at its places.
abbrev pub IsJobOf : Job → Text → List Row → Type 0
IsJobOf (Run numbered) name rows = (name ≡ codes "run") × (numbered ≡ is_given (codes "lines") rows)
IsJobOf (Create db config) name rows = (name ≡ codes "create") × Has (codes "DB") rows db.now × Has (codes "CONFIG") rows config.now
IsJobOf (Migrate db) name rows = (name ≡ codes "migrate") × Has (codes "DB") rows db.now
IsJobOf (Serve db port count seconds memory) name rows = (name ≡ codes "serve") × Has (codes "DB") rows db.now
    × HasNumber (codes "PORT") 1 65535 rows port × HasNumber (codes "count") 1 1000000 rows count
    × HasNumber (codes "seconds") 1 3600 rows seconds × HasNumber (codes "memory") 1 1000000 rows memory
IsJobOf (Ask db numbered) name rows = (name ≡ codes "ask") × Has (codes "DB") rows db.now × (numbered ≡ is_given (codes "lines") rows)
IsJobOf (ReportOn db query) name rows = Has (codes "DB") rows db.now × IsAnswerable (asked_by name rows) rows query.query
    × IsOfSupplier query.supplier rows
IsJobOf (Picture db variant since supplier) name rows = (name ≡ codes "picture") × Has (codes "DB") rows db.now × Has (codes "VARIANT") rows variant.now
    × IsSince since rows × IsOfSupplier supplier rows
IsJobOf (Deliver db delivery) name rows = (name ≡ word_of_delivery delivery.how) × Has (codes "DB") rows db.now × IsDeliveryIn rows delivery
IsJobOf (Check file) name rows = (name ≡ codes "check") × IsFileOf file rows
IsJobOf (Explain word) name rows = (name ≡ codes "explain") × (option_map (λ w. w.now) word ≡ first_of (codes "WORD") rows)

-- how many bytes of pages a job's register may keep on each of its two shelves: a server half of the mebibytes that it is told, each other
-- job as much as where nothing is said
abbrev pub kept_by : Job → ℕ
kept_by (Serve db port count seconds memory) = memory * 524288
kept_by _ = MAX_BYTES

-- The job is that of the subcommand of this name with these words. Where none is given, the subcommand has none with them.
abbrev pub IsJobIn : Option Job → Text → List Row → Type 0
IsJobIn (Some job) name rows = IsJobOf job name rows
IsJobIn None name rows = (job : Job) → IsJobOf job name rows → ⊥

-- The same of the reports alone.
abbrev pub IsReportJobIn : Option Job → Text → List Row → Type 0
IsReportJobIn (Some job) name rows = IsJobOf job name rows
IsReportJobIn None name rows = (db : Bor (List ℕ)) (query : Inquiry) → IsJobOf (ReportOn db query) name rows → ⊥

-- The same of the subcommand that was found, if one was.
abbrev pub IsJobFound : Option Job → Option (Text × List Row) → Type 0
IsJobFound job (Some found) = IsJobIn job found.0 found.1
IsJobFound job None = job ≡ None

-- The words ask for the job: it is that of the subcommand that `clap` finds in them.
abbrev pub AskFor : List Text → Job → Type 0
AskFor words job = IsJobFound (Some job) (subcommand_of slotplan words)

-- The words ask for no job.
abbrev pub AskForNone : List Text → Type 0
AskForNone words = IsJobFound None (subcommand_of slotplan words)

-- The subcommand of this name has no object with these words. `check` names no file, or several. Or `export` names rows that are neither
-- frames nor placements nor signals. Or `try` is to be whole, and names no replacement that could be.
abbrev pub HasNoObject : Text → List Row → Type 0
HasNoObject name rows = ((name ≡ codes "check") × IsFileIn None rows) ⊎ (((name ≡ codes "export") × (header_in rows ≡ None))
    ⊎ ((name ≡ codes "try") × (manner_in rows ≡ None)))

-- A subcommand was found, and has no object.
abbrev pub IsFoundWithoutObject : Option (Text × List Row) → Type 0
IsFoundWithoutObject (Some found) = HasNoObject found.0 found.1
IsFoundWithoutObject None = ⊥

-- The words name a subcommand, but not its object.
abbrev pub LackAnObject : List Text → Type 0
LackAnObject words = IsFoundWithoutObject (subcommand_of slotplan words)

-- `clap` finds no fault in the words.
abbrev pub AreTaken : List Text → Type 0
AreTaken words = fault_of slotplan words ≡ []

-- An error of this kind may refuse the words. Memory ran out; or `clap` finds a fault of this kind in them; or it finds none, and they ask for
-- no job, since they lack an object.
abbrev pub MayRefuse : List Text → ErrorKind → Type 0
MayRefuse words kind = (kind ≡ OutOfMemory) ⊎ (IsAmong kind (fault_of slotplan words)
    ⊎ ((kind ≡ ValueValidation) × AreTaken words × AskForNone words × LackAnObject words))

-- An error of this kind is told as this fault. Help is for help and for the version. The usage is for all other kinds but want of memory.
-- `NoMemory` may be for any, since the text takes memory.
abbrev pub IsOfKind : ErrorKind → WordFault → Type 0
IsOfKind kind (Help text) = (kind ≡ DisplayHelp) ⊎ (kind ≡ DisplayVersion)
IsOfKind kind (Usage text) = (kind ≢ DisplayHelp) × (kind ≢ DisplayVersion) × (kind ≢ OutOfMemory)
IsOfKind kind NoMemory = ⊤

-- The words have this fault: an error tells it that may refuse them.
abbrev pub IsFaultOf : List Text → WordFault → Type 0
IsFaultOf words fault = (kind : ErrorKind) × MayRefuse words kind × IsOfKind kind fault
