-- A command grows by an argument or a subcommand as its definition says.
use Rattle.std.proofs.Common.{◌≡◌, ◌∙◌, ◌||◌, ◌<◌, ◌+◌, ap, ap₂, false, refl, filter_map, get_or, length, map, subst, sym, take, Bool, List, [], ◌∷◌, Option, ℕ}
use Rattle.std.proofs.lemmas.Grind.{fold-append}
use Rattle.std.proofs.lemmas.List.{map-append, take_more}
use Rattle.std.proofs.lemmas.List.Elements.{filter_map-append}
use Rattle.std.specs.List.{cons_option, fold}
use Rattle.std.specs.Prelude.{option_map}
use Rattle.clap.specs.Words.{AddsArg, AddsSubcommand, App, Rule, Text, rule_of, with_rule, with_subcommand}
use Rattle.clap.specs.declared.builder.arg.Arg.{Arg}
use Rattle.clap.specs.declared.builder.command.Command.{Command}
use Rattle.fr_base.specs.Forms.{FormData, form_data, form_in, forms}
use Rattle.fr_base.specs.QueryNames.{Question}
use Rattle.fr_base.specs.declared.forms.Form.{Form}
use Rattle.fr_cli.specs.Commands.{IsReadAs, with_report}
use Rattle.fr_cli.specs.Reports.{asked_in, report_row, reports}

pub with_arg : (a : App) (r : Rule) (old new : Command) (arg : Arg) → AddsArg old arg new → IsReadAs a old
    → (rule_of arg ≡ r) × (arg.global ≡ false) → IsReadAs (with_rule a r) new
with_arg a r old new arg adds is plain =
    (adds.shape plain.1 ∙ ap₂ with_rule is.0 plain.0, adds.globals ∙ ap₂ (λ (x y : Bool). x || y) is.1 plain.1)

pub with_job : (a b : App) (old sub new : Command) → AddsSubcommand old sub new → IsReadAs a old → IsReadAs b sub
    → IsReadAs (with_subcommand a b.top) new
with_job a b old sub new adds is job =
    (adds.shape job.1 ∙ ap₂ with_subcommand is.0 (ap (λ (x : App). x.top) job.0), adds.globals ∙ ap₂ (λ (x y : Bool). x || y) is.1 job.1)

-- the subcommands of the reports among these forms
abbrev pub rows_of : List Form → List (Text × Question)
rows_of forms = filter_map report_row (map form_in forms)

-- the program with a subcommand called by the form's word, if a report is asked with it
abbrev grown : App → Form → Option Question → App
grown program form asked = fold with_report program (cons_option (option_map (λ q. (form.word.now, q)) asked) [])

-- the reports of the forms so far, and that of one more
pub one_more : (old : App) (forms : List Form) (i : ℕ) (form : Form) (asked : Option Question) (new : Command) → i < length forms
    → asked ≡ asked_in (form_data (get_or forms i form))
    → IsReadAs (grown (fold with_report old (rows_of (take i forms))) (get_or forms i form) asked) new
    → IsReadAs (fold with_report old (rows_of (take (i + 1) forms))) new
one_more old forms i form asked new within with_it is =
    let one = get_or forms i form in
    let before = fold with_report old (rows_of (take i forms)) in
    let same : fold with_report old (rows_of (take (i + 1) forms)) ≡ grown before one asked =
    ap (λ taken. fold with_report old (rows_of taken)) (take_more forms i form within)
    ∙ ap (λ (all : List (Text × FormData)). fold with_report old (filter_map report_row all)) (map-append form_in (take i forms) (one ∷ []))
    ∙ ap (fold with_report old) (filter_map-append report_row (map form_in (take i forms)) (form_in one ∷ []))
    ∙ fold-append with_report old (rows_of (take i forms)) (rows_of (one ∷ []))
    ∙ ap (grown before one) (sym with_it) in
    subst (λ (a : App). IsReadAs a new) (sym same) is

-- the subcommands of the reports are those of the forms of all requests
pub rows_of_forms : filter_map report_row forms ≡ reports
unfolding forms
rows_of_forms = refl
