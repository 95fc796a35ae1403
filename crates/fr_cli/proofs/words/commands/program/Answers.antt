use Rattle.std.proofs.Common.{codes, ap, ◌∙◌, filter_map, subst, List}
use Rattle.std.specs.List.{fold}
use Rattle.clap.specs.Simple.{app_of_fields}
use Rattle.clap.specs.Words.{App, Text, new_app, with_subcommand}
use Rattle.clap.specs.declared.builder.command.Command.{Command}
use Rattle.clap.specs.declared.builder.command.Command.TheOpen.{Command-F}
use Rattle.fr_base.specs.QueryNames.{Question}
use Rattle.fr_cli.proofs.CommandLaws.{rows_of_forms, with_job}
use Rattle.fr_cli.proofs.words.commands.program.Goals as goal
use Rattle.fr_cli.specs.Commands.{IsReadAs, ask, create, migrate, run, serve, unasked, with_report, with_reports}
use Rattle.fr_cli.specs.Reports.{report_row}

pub returns : goal.returns
returns c =
    let new : IsReadAs (new_app (codes "slotplan")) c.in_ok-bin_name.field-0 =
    (ap app_of_fields c.in_ok-bin_name.ensures.0 ∙ c.new.ensures.app, ap (λ (f : Command-F Command). f.has_globals) c.in_ok-bin_name.ensures.0 ∙ c.new.ensures.local) in
    let start : IsReadAs (unasked (codes "slotplan")) c.settings.result = c.settings.ensures (codes "slotplan") new in
    let started = with_job _ _ _ _ _ c.in_ok-subcommand.ensures start c.in_ok-run.ensures in
    let files = with_job _ _ _ _ _ c.in_ok-program.ensures
    (with_job _ _ _ _ _ c.in_ok-subcommand-4.ensures
    (with_job _ _ _ _ _ c.in_ok-subcommand-3.ensures
    (with_job _ _ _ _ _ c.in_ok-subcommand-2.ensures started c.in_ok-create.ensures) c.in_ok-migrate.ensures) c.in_ok-serve.ensures) c.in_ok-ask.ensures in
    let jobs : App = with_subcommand (with_subcommand (with_subcommand (with_subcommand (with_subcommand (unasked (codes "slotplan")) run.top) create.top) migrate.top) serve.top) ask.top in
    let reports : IsReadAs (with_reports jobs) c.in_ok-with_reports.field-0 =
    subst (λ (rows : List (Text × Question)). IsReadAs (fold with_report jobs rows) c.in_ok-with_reports.field-0) (ap (filter_map report_row) c.request_forms.ensures ∙ rows_of_forms)
    (c.in_ok-with_reports.ensures jobs files) in
    let pages = with_job _ _ _ _ _ c.in_ok-subcommand-6.ensures
    (with_job _ _ _ _ _ c.in_ok-subcommand-5.ensures reports c.in_ok-export.ensures) c.in_ok-picture.ensures in
    let changes = with_job _ _ _ _ _ c.in_ok-subcommand-9.ensures
    (with_job _ _ _ _ _ c.in_ok-subcommand-8.ensures
    (with_job _ _ _ _ _ c.in_ok-subcommand-7.ensures pages c.in_ok-import.ensures) c.in_ok-replace.ensures) c.in_ok-trial.ensures in
    let proposals = with_job _ _ _ _ _ c.in_ok-subcommand-10.ensures changes c.in_ok-propose.ensures in
    with_job _ _ _ _ _ c.in_ok-program-2.ensures
    (with_job _ _ _ _ _ c.in_ok-subcommand-11.ensures proposals c.in_ok-check.ensures) c.in_ok-explain.ensures
