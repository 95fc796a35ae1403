use Rattle.std.proofs.Common.{Some, None, subst, sym}
use Rattle.std.proofs.lemmas.List.{take_all}
use Rattle.std.specs.List.{fold}
use Rattle.fr_cli.proofs.CommandLaws.{one_more, rows_of, with_job}
use Rattle.fr_cli.proofs.words.commands.with_reports.Goals as goal
use Rattle.fr_cli.proofs.words.commands.with_reports.Goals.{in-Some+in_ok-report+in_ok-grown, in_default}
use Rattle.fr_cli.specs.Commands.{IsReadAs, with_report}

pub loop-form-init : goal.loop-form-init
loop-form-init c old is = is

pub loop-form-preserved : goal.loop-form-preserved
loop-form-preserved c old is =
    let before = c.loop-form.invariant old is in
    elim c.match-asked_in.branch [
      | in-Some+in_ok-report+in_ok-grown w ↦
          one_more old c.args.forms.now c.loop-form.form-index _ (Some w.in-Some.asked) _ c.loop-form-test.true w.in-Some.ensures
          (subst (IsReadAs _) (sym w.grown-is) (with_job _ _ _ _ _ w.in_ok-grown.ensures before w.in_ok-report.ensures))
      | in_default w ↦
          one_more old c.args.forms.now c.loop-form.form-index _ None _ c.loop-form-test.true w.in_default.ensures
          (subst (IsReadAs _) (sym w.grown-is) before)
    ]

pub returns : goal.returns
returns c old is =
    subst (λ taken. IsReadAs (fold with_report old (rows_of taken)) c.loop-form.grown)
    (take_all c.loop-form.form-index c.args.forms.now c.loop-form-test.false) (c.loop-form.invariant old is)
