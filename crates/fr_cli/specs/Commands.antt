-- Command line: the words that the program takes, as `clap` reads them, a subcommand for each job with its words.
use Rattle.std.specs.List.{fold}
use Rattle.std.specs.Prelude.{◌∷◌, [], ◌≡◌, Some, pos, true, false, codes}
use Rattle.clap.specs.Simple.{new_shape}
use Rattle.clap.specs.Words.{App, Rule, Text, app_of, new_app, new_rule, with_rule, with_subcommand}
use Rattle.clap.specs.declared.builder.action.ArgAction.TheVariants.{Set, SetTrue}
use Rattle.clap.specs.declared.builder.command.Command.{Command}
use Rattle.clap.specs.declared.builder.command.Command.TheViews.{out-Command as fields_of}
use Rattle.clap.specs.declared.builder.value_parser.ValueParser.TheVariants.{Signed}
use Rattle.fr_base.specs.QueryNames.{Question}
use Rattle.fr_base.specs.declared.field_name.FieldName.{FieldName}
use Rattle.fr_base.specs.declared.query.Query.TheVariants.{Register as OfRegister, Variant as OfVariant, Difference as OfTwo}
use Rattle.fr_base.specs.declared.report.Report.{Report}
use Rattle.fr_base.specs.declared.report.Report.TheVariants.{Layout, Room}
use Rattle.fr_cli.specs.Reports.{argument_name, reports}

-- a word that must stand at its place
abbrev pub word : Text → Rule
word name = record (new_rule name) { required = true; action = Some Set }

-- a port's number
abbrev pub port : Rule
port = record (word (codes "PORT")) { parser = Some (Signed (pos 1) (pos 65535)) }

-- how many connections are served
abbrev pub count : Rule
count = record (new_rule (codes "count")) {
  long = Some (codes "count");
  action = Some Set;
  value_names = 1;
  defaults = codes "1000000" ∷ [];
  parser = Some (Signed (pos 1) (pos 1000000));
}

-- how many seconds a connection lasts
abbrev pub seconds : Rule
seconds = record (new_rule (codes "seconds")) {
  long = Some (codes "seconds");
  action = Some Set;
  value_names = 1;
  defaults = codes "10" ∷ [];
  parser = Some (Signed (pos 1) (pos 3600));
}

-- how many mebibytes of pages are kept
abbrev pub memory : Rule
memory = record (new_rule (codes "memory")) {
  long = Some (codes "memory");
  action = Some Set;
  value_names = 1;
  defaults = codes "512" ∷ [];
  parser = Some (Signed (pos 1) (pos 1000000));
}

-- a word that may stand at its place
abbrev pub free_word : Text → Rule
free_word name = record (new_rule name) { action = Some Set }

-- a word that is given or left out
abbrev pub flag : Text → Rule
flag name = record (new_rule name) { long = Some name; action = Some SetTrue }

abbrev pub run : App
run = with_rule (new_app (codes "run")) (flag (codes "lines"))

abbrev pub create : App
create = with_rule (with_rule (new_app (codes "create")) (word (codes "DB"))) (word (codes "CONFIG"))

abbrev pub migrate : App
migrate = with_rule (new_app (codes "migrate")) (word (codes "DB"))

abbrev pub serve : App
serve = with_rule (with_rule (with_rule (with_rule (with_rule (new_app (codes "serve")) (word (codes "DB"))) port) count) seconds) memory

abbrev pub ask : App
ask = with_rule (with_rule (new_app (codes "ask")) (word (codes "DB"))) (flag (codes "lines"))

-- the supplier as which a report is read
abbrev pub supplier : Rule
supplier = record (new_rule (codes "supplier")) { long = Some (codes "supplier"); action = Some Set; value_names = 1 }

-- a word that is a number
abbrev pub numeral : Text → Rule
numeral name = record (word name) { parser = Some (Signed (pos 0) (pos 4294967295)) }

-- the supplier whose frame it is
abbrev pub owner : Rule
owner = record supplier { required = true }

-- the supplier that reads a report: where room is asked for it is the one whose frame it is
abbrev pub reader : Question → Rule
reader (OfVariant _ (Room _ _)) = owner
reader _ = supplier

-- A subcommand with a word for each name and number of a report. The function says what the word for a field is called.
abbrev pub with_more_words : (FieldName → Text) → App → Report FieldName FieldName → App
with_more_words called app (Layout frame) = with_rule app (word (called frame))
with_more_words called app (Room frame repetition) = with_rule (with_rule app (word (called frame))) (numeral (called repetition))
with_more_words called app _ = app

-- The same of what is asked. Of two variants the one that is compared stands behind the other.
abbrev pub with_words : (FieldName → Text) → App → Question → App
with_words called app (OfRegister _) = app
with_words called app (OfVariant variant report) = with_more_words called (with_rule app (word (called variant))) report
with_words called app (OfTwo variant from) = with_rule (with_rule app (word (called from))) (word (called variant))

-- the subcommand of a report
abbrev pub report : Text × Question → App
report row =
    with_rule (with_words (argument_name row.1) (with_rule (new_app row.0) (word (codes "DB"))) row.1) (reader row.1)

-- a text that may be named, as a file, a path or another variant
abbrev pub named : Text → Rule
named name = record (new_rule name) { long = Some name; action = Some Set; value_names = 1 }

-- a variant's plan as a page
abbrev pub picture : App
picture = with_rule (with_rule (with_rule (with_rule (new_app (codes "picture")) (word (codes "DB"))) (word (codes "VARIANT")))
    (named (codes "since"))) supplier

-- which part of the records is printed
abbrev pub part : Rule
part = record (new_rule (codes "part")) {
  long = Some (codes "part");
  action = Some Set;
  value_names = 1;
  defaults = codes "0" ∷ [];
  parser = Some (Signed (pos 0) (pos 4294967295));
}

abbrev pub export : App
export = with_rule (with_rule (with_rule (with_rule (with_rule (new_app (codes "export")) (word (codes "DB"))) (word (codes "VARIANT")))
    (word (codes "ROWS"))) part) supplier

abbrev pub replace_words : App
replace_words = with_rule (with_rule (with_rule (with_rule (with_rule (new_app (codes "replace")) (word (codes "DB"))) (word (codes "KEY")))
    (word (codes "VARIANT"))) (word (codes "FILE"))) (flag (codes "whole"))

abbrev pub import_words : App
import_words = with_rule (with_rule (with_rule (with_rule (with_rule (new_app (codes "import")) (word (codes "DB"))) (word (codes "KEY")))
    (word (codes "VARIANT"))) (word (codes "LABEL"))) (word (codes "FILE"))

abbrev pub try_words : App
try_words = with_rule (with_rule (with_rule (with_rule (with_rule (with_rule (new_app (codes "try")) (word (codes "DB"))) (word (codes "KEY")))
    (word (codes "VARIANT"))) (word (codes "FILE"))) (flag (codes "replace"))) (flag (codes "whole"))

abbrev pub propose_words : App
propose_words = with_rule (with_rule (with_rule (with_rule (with_rule (new_app (codes "propose")) (word (codes "DB"))) (word (codes "KEY")))
    (word (codes "VARIANT"))) (word (codes "FILE"))) (flag (codes "replace"))

-- `check`, with the texts that it may take
abbrev pub check_texts : App
check_texts = with_rule (with_rule (with_rule (with_rule (new_app (codes "check")) (free_word (codes "CONFIG"))) (named (codes "requests")))
    (named (codes "rows"))) (named (codes "path"))

abbrev pub check : App
check = with_rule check_texts (named (codes "register"))

abbrev pub explain : App
explain = with_rule (new_app (codes "explain")) (free_word (codes "WORD"))

-- the program's own word is left out; a subcommand is wanted, and without a word the help is shown
abbrev pub unasked : Text → App
unasked name = record {
  top = record (new_shape name) { no_binary_name = true; has_version = true; subcommand_required = true; arg_required_else_help = true };
  subs = [];
}

-- the program with one more report
abbrev pub with_report : App → Text × Question → App
with_report program row = with_subcommand program (report row).top

-- the program with a subcommand for each report
abbrev pub with_reports : App → App
with_reports program = fold with_report program reports

-- the program, with one subcommand for each job
abbrev pub slotplan : App
slotplan = with_subcommand (with_subcommand (with_subcommand (with_subcommand (with_subcommand (with_subcommand (with_subcommand (with_subcommand
    (with_reports (with_subcommand (with_subcommand (with_subcommand (with_subcommand (with_subcommand (unasked (codes "slotplan"))
    run.top) create.top) migrate.top) serve.top) ask.top))
    export.top) picture.top) import_words.top) replace_words.top) try_words.top) propose_words.top) check.top) explain.top

-- The command is read so, and has no argument that its subcommands have too.
abbrev pub IsReadAs : App → Command → Type 0
IsReadAs app command = (app_of command ≡ app) × ((fields_of command).has_globals ≡ false)
