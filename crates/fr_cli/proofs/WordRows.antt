-- Words of the command line, computed: their job and their numbers, or the fault for which they are refused.
use Rattle.std.proofs.Common.{◌≡◌, ◌∙◌, [], ◌∷◌, ap, codes, inl, inr, option_map, refl, subst, sym, true, Bor, Global, List, None, ℕ, Some, Ok, String}
use Rattle.clap.proofs.OnLiterals.{clap_on_literals}
use Rattle.clap.specs.Walk.{one_of}
use Rattle.clap.specs.Words.{IsAmong, fault_of, subcommand_of}
use Rattle.clap.specs.declared.error.kind.ErrorKind.TheVariants as kinds
use Rattle.fr_base.proofs.QueryLemmas.{names_open}
use Rattle.fr_base.specs.declared.query.Query.TheVariants.{Variant as OfVariant, Difference as OfTwo}
use Rattle.fr_base.specs.declared.report.Report.TheVariants.{Schedule}
use Rattle.fr_base.specs.declared.delivery.Manner.TheVariants as manner
use Rattle.fr_cli.specs.Commands.{slotplan}
use Rattle.fr_cli.specs.Reports.{asked_with}
use Rattle.fr_cli.specs.Words.{AskFor, IsFaultOf, IsFileOf, LackAnObject, manner_in}
use Rattle.fr_cli.specs.declared.words.check_subject.CheckSubject.{CheckSubject}
use Rattle.fr_cli.specs.declared.words.check_subject.CheckSubject.TheVariants.{Config, Requests, Rows, Target, Register}
use Rattle.fr_cli.specs.declared.words.Job.TheVariants as job
use Rattle.fr_cli.specs.declared.words.WordFault.TheVariants.{Usage}

server_is_taken : fault_of slotplan (codes "serve" ∷ codes "car.db" ∷ codes "8080" ∷ codes "--count" ∷ codes "3" ∷ []) ≡ []
unfolding clap_on_literals
server_is_taken = refl

port_is_read : option_map (λ found. one_of (codes "PORT") found.1)
    (subcommand_of slotplan (codes "serve" ∷ codes "car.db" ∷ codes "8080" ∷ codes "--count" ∷ codes "3" ∷ [])) ≡ Some (Some (codes "8080"))
unfolding clap_on_literals
port_is_read = refl

count_is_read : option_map (λ found. one_of (codes "count") found.1)
    (subcommand_of slotplan (codes "serve" ∷ codes "car.db" ∷ codes "8080" ∷ codes "--count" ∷ codes "3" ∷ [])) ≡ Some (Some (codes "3"))
unfolding clap_on_literals
count_is_read = refl

seconds_are_ten : option_map (λ found. one_of (codes "seconds") found.1)
    (subcommand_of slotplan (codes "serve" ∷ codes "car.db" ∷ codes "8080" ∷ [])) ≡ Some (Some (codes "10"))
unfolding clap_on_literals
seconds_are_ten = refl

memory_is_read : option_map (λ found. one_of (codes "memory") found.1)
    (subcommand_of slotplan (codes "serve" ∷ codes "car.db" ∷ codes "8080" ∷ codes "--memory" ∷ codes "64" ∷ [])) ≡ Some (Some (codes "64"))
unfolding clap_on_literals
memory_is_read = refl

no_memory : fault_of slotplan (codes "serve" ∷ codes "car.db" ∷ codes "8080" ∷ codes "--memory" ∷ codes "0" ∷ []) ≡ kinds.ValueValidation ∷ []
unfolding clap_on_literals
no_memory = refl

port_too_great : fault_of slotplan (codes "serve" ∷ codes "car.db" ∷ codes "65536" ∷ []) ≡ kinds.ValueValidation ∷ []
unfolding clap_on_literals
port_too_great = refl

no_port : fault_of slotplan (codes "serve" ∷ codes "car.db" ∷ codes "0" ∷ []) ≡ kinds.ValueValidation ∷ []
unfolding clap_on_literals
no_port = refl

room_is_taken : fault_of slotplan (codes "room" ∷ codes "car.db" ∷ codes "v1" ∷ codes "f1" ∷ codes "4294967295" ∷ codes "--supplier" ∷ codes "s1" ∷ []) ≡ []
unfolding clap_on_literals
room_is_taken = refl

room_lacks_a_supplier : fault_of slotplan (codes "room" ∷ codes "car.db" ∷ codes "v1" ∷ codes "f1" ∷ codes "4" ∷ []) ≡ kinds.MissingRequiredArgument ∷ []
unfolding clap_on_literals
room_lacks_a_supplier = refl

repetition_too_great : fault_of slotplan (codes "room" ∷ codes "car.db" ∷ codes "v1" ∷ codes "f1" ∷ codes "4294967296" ∷ codes "--supplier" ∷ codes "s1" ∷ [])
    ≡ kinds.ValueValidation ∷ []
unfolding clap_on_literals
repetition_too_great = refl

part_is_the_first : option_map (λ found. one_of (codes "part") found.1)
    (subcommand_of slotplan (codes "export" ∷ codes "car.db" ∷ codes "v1" ∷ codes "frames" ∷ [])) ≡ Some (Some (codes "0"))
unfolding clap_on_literals
part_is_the_first = refl

-- which rows are wanted is no matter of `clap`
other_rows_are_taken : fault_of slotplan (codes "export" ∷ codes "car.db" ∷ codes "v1" ∷ codes "nodes" ∷ []) ≡ []
unfolding clap_on_literals
other_rows_are_taken = refl

-- a file is tried as a replacement where that is said, and else as an import
try_is_taken : fault_of slotplan (codes "try" ∷ codes "car.db" ∷ codes "supplier01" ∷ codes "v1" ∷ codes "rows.csv" ∷ codes "--replace" ∷ []) ≡ []
unfolding clap_on_literals
try_is_taken = refl

flag_is_set : option_map (λ found. one_of (codes "replace") found.1)
    (subcommand_of slotplan (codes "try" ∷ codes "--replace" ∷ codes "car.db" ∷ codes "supplier01" ∷ codes "v1" ∷ codes "rows.csv" ∷ [])) ≡ Some (Some (codes "true"))
unfolding clap_on_literals
flag_is_set = refl

flag_is_not_set : option_map (λ found. one_of (codes "replace") found.1)
    (subcommand_of slotplan (codes "try" ∷ codes "car.db" ∷ codes "supplier01" ∷ codes "v1" ∷ codes "rows.csv" ∷ [])) ≡ Some (Some (codes "false"))
unfolding clap_on_literals
flag_is_not_set = refl

-- what is tried as a replacement may be whole, and so may a replacement
whole_is_taken : fault_of slotplan (codes "replace" ∷ codes "car.db" ∷ codes "supplier01" ∷ codes "v1" ∷ codes "rows.csv" ∷ codes "--whole" ∷ []) ≡ []
unfolding clap_on_literals
whole_is_taken = refl

whole_is_tried : option_map (λ found. manner_in found.1)
    (subcommand_of slotplan (codes "try" ∷ codes "car.db" ∷ codes "supplier01" ∷ codes "v1" ∷ codes "rows.csv" ∷ codes "--whole" ∷ codes "--replace" ∷ []))
    ≡ Some (Some (manner.Replace true))
unfolding clap_on_literals
whole_is_tried = refl

flag_has_no_word : fault_of slotplan (codes "try" ∷ codes "car.db" ∷ codes "supplier01" ∷ codes "v1" ∷ codes "rows.csv" ∷ codes "--replace=true" ∷ []) ≡ kinds.TooManyValues ∷ []
unfolding clap_on_literals
flag_has_no_word = refl

wants_help : fault_of slotplan (codes "--help" ∷ []) ≡ kinds.DisplayHelp ∷ []
unfolding clap_on_literals
wants_help = refl

wants_help_of_job : fault_of slotplan (codes "schedule" ∷ codes "-h" ∷ []) ≡ kinds.DisplayHelp ∷ []
unfolding clap_on_literals
wants_help_of_job = refl

wants_version : fault_of slotplan (codes "--version" ∷ []) ≡ kinds.DisplayVersion ∷ []
unfolding clap_on_literals
wants_version = refl

says_nothing : fault_of slotplan [] ≡ kinds.DisplayHelpOnMissingArgumentOrSubcommand ∷ []
unfolding clap_on_literals
says_nothing = refl

lacks_a_word : fault_of slotplan (codes "schedule" ∷ codes "car.db" ∷ []) ≡ kinds.MissingRequiredArgument ∷ []
unfolding clap_on_literals
lacks_a_word = refl

has_a_word_more : fault_of slotplan (codes "ask" ∷ codes "car.db" ∷ codes "v1" ∷ []) ≡ kinds.UnknownArgument ∷ []
unfolding clap_on_literals
has_a_word_more = refl

plus_is_passed_over : fault_of slotplan (codes "serve" ∷ codes "car.db" ∷ codes "+8080" ∷ []) ≡ []
unfolding clap_on_literals
plus_is_passed_over = refl

minus_is_refused : fault_of slotplan (codes "serve" ∷ codes "car.db" ∷ codes "--" ∷ codes "-8080" ∷ []) ≡ kinds.ValueValidation ∷ []
unfolding clap_on_literals
minus_is_refused = refl

is_no_job : fault_of slotplan (codes "draw" ∷ codes "car.db" ∷ []) ≡ kinds.UnknownArgument ∷ kinds.InvalidSubcommand ∷ []
unfolding clap_on_literals
is_no_job = refl

schedule_is_asked : (db variant : Bor (List ℕ)) → db.now ≡ codes "car.db" → variant.now ≡ codes "v1"
    → AskFor (codes "schedule" ∷ codes "car.db" ∷ codes "v1" ∷ []) (job.Report db (record { query = OfVariant variant Schedule; supplier = None }))
unfolding clap_on_literals asked_with names_open
schedule_is_asked db variant is of =
    (ap (λ (t : List ℕ). Some t) (sym is), (Ok variant, ap (λ (t : List ℕ). Some t) (sym of), (Ok Schedule, refl, refl)), refl)

-- what is compared is the second variant, with the first
difference_is_asked : (db variant from : Bor (List ℕ)) → db.now ≡ codes "car.db" → variant.now ≡ codes "v2" → from.now ≡ codes "v1"
    → AskFor (codes "diff" ∷ codes "car.db" ∷ codes "v1" ∷ codes "v2" ∷ []) (job.Report db (record { query = OfTwo variant from; supplier = None }))
unfolding clap_on_literals asked_with names_open
difference_is_asked db variant from is of since =
    (ap (λ (t : List ℕ). Some t) (sym is), (Ok variant, ap (λ (t : List ℕ). Some t) (sym of), (Ok from, ap (λ (t : List ℕ). Some t) (sym since), refl)), refl)

-- a request for help is no mistake
help_is_no_usage : (text : String Global) → IsFaultOf (codes "--help" ∷ []) (Usage text) → ⊥
help_is_no_usage text (kind, inl memory, is) = is.2 memory
help_is_no_usage text (kind, inr (inl among), is) = elim (subst (IsAmong kind) wants_help among) [
  | inl help ↦ is.0 help
  | inr none ↦ none
]
help_is_no_usage text (kind, inr (inr none), is) = let no : [] ≡ kinds.DisplayHelp ∷ [] = sym none.1 ∙ wants_help in cc

rows_are_lacking : LackAnObject (codes "export" ∷ codes "car.db" ∷ codes "v1" ∷ codes "nodes" ∷ [])
unfolding clap_on_literals
rows_are_lacking = inr (inl (refl, refl))

-- a whole import is none
replacement_is_lacking : LackAnObject (codes "try" ∷ codes "car.db" ∷ codes "supplier01" ∷ codes "v1" ∷ codes "rows.csv" ∷ codes "--whole" ∷ [])
unfolding clap_on_literals
replacement_is_lacking = inr (inr (refl, refl))

no_file : (file : CheckSubject) → IsFileOf file [] → ⊥
no_file (Config path) is = let no : None ≡ Some path.now = is.0 in cc
no_file (Requests path) is = let no : None ≡ Some path.now = is.1 in cc
no_file (Rows path) is = let no : None ≡ Some path.now = is.2 in cc
no_file (Target path) is = let no : None ≡ Some path.now = is.3 in cc
no_file (Register path) is = let no : None ≡ Some path.now = is.4 in cc

file_is_lacking : LackAnObject (codes "check" ∷ [])
unfolding clap_on_literals
file_is_lacking = inl (refl, no_file)

-- a job's words lack nothing
file_is_named : LackAnObject (codes "check" ∷ codes "car.toml" ∷ []) → ⊥
unfolding clap_on_literals
file_is_named (inl lacks) = lacks.1 (Config (record { ref_ptr = (0, 0); now = codes "car.toml" })) (refl, refl, refl, refl, refl)
file_is_named (inr (inl lacks)) = let no : codes "check" ≡ codes "export" = lacks.0 in cc
file_is_named (inr (inr lacks)) = let no : codes "check" ≡ codes "try" = lacks.0 in cc

schedule_lacks_nothing : LackAnObject (codes "schedule" ∷ codes "car.db" ∷ codes "v1" ∷ []) → ⊥
unfolding clap_on_literals
schedule_lacks_nothing (inl lacks) = let no : codes "schedule" ≡ codes "check" = lacks.0 in cc
schedule_lacks_nothing (inr (inl lacks)) = let no : codes "schedule" ≡ codes "export" = lacks.0 in cc
schedule_lacks_nothing (inr (inr lacks)) = let no : codes "schedule" ≡ codes "try" = lacks.0 in cc
