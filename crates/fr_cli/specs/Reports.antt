-- Reports: the subcommand of each, what is asked with it, and its arguments.
use Rattle.std.specs.Prelude.{List, codes, filter_map, map, Option, Some, None, option_and_then, option_map}
use Rattle.clap.specs.Walk.{Text}
use Rattle.fr_base.specs.Forms.{FormData, form_of, forms, questions}
use Rattle.fr_base.specs.QueryNames.{Question, word_of_query}
use Rattle.fr_base.specs.declared.field_name.FieldName.{FieldName}
use Rattle.fr_base.specs.declared.field_name.FieldName.TheVariants as of
use Rattle.fr_base.specs.declared.query.Query.TheVariants.{Variant as OfVariant, Difference as OfTwo}
use Rattle.fr_base.specs.declared.report.Report.TheVariants.{Export}

-- What is asked, if a report's subcommand asks it. Records are exported by one of its own.
abbrev pub report_of : Question → Option Question
report_of (OfVariant _ (Export _ _)) = None
report_of question = Some question

-- the subcommands, each called by the word by which a request asks the same
abbrev pub reports : List (Text × Question)
reports = map (λ question. (word_of_query question, question)) (filter_map report_of questions)

-- what is asked with the subcommand of a form, if that is a report's
abbrev pub asked_in : FormData → Option Question
asked_in form = option_and_then report_of form.asks

-- the subcommand of a form and its word, if that is a report's
abbrev pub report_row : Text × FormData → Option (Text × Question)
report_row form = option_map (λ question. (form.0, question)) (asked_in form.1)

-- what is asked with the subcommand of this name
unfoldable pub asked_with : Text → Option Question
unfolding form_of forms
asked_with name = option_and_then asked_in (form_of name)

-- what the argument for a field of what is asked is called in the help; the part is an option
abbrev pub argument_name : Question → FieldName → Text
argument_name (OfTwo _ _) of.Variant = codes "TO"
argument_name _ of.Variant = codes "VARIANT"
argument_name _ of.From = codes "FROM"
argument_name _ of.Frame = codes "FRAME"
argument_name _ of.Repetition = codes "REPETITION"
argument_name _ of.Part = codes "part"
