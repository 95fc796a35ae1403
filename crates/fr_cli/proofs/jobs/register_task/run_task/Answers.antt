use Rattle.std.proofs.Common.{inl, inr, refl, subst, sym}
use Rattle.fr_office.specs.Crashed.{IsKept}
use Rattle.fr_cli.proofs.RefusedFiles.{not_opened}
use Rattle.fr_cli.proofs.RegisterTaskLaws.{over}
use Rattle.fr_cli.proofs.jobs.register_task.run_task.Goals as goal

pub returns-in-Ok-clause-done : goal.returns-in-Ok-clause-done
returns-in-Ok-clause-done g c =
    let rows = g.G.Records.Records in
    let same = c.into_records.ensures in
    let stood = over (λ kept. subst (λ r. rows.clean r) same (c.close.ensures.clean kept)) c.carry_out-done.ensures.falls c.in-Ok.ensures.found c.in-Ok.ensures.reads
    (λ k b stands. c.close.ensures.book k b (subst (λ r. rows.stands r k b) (sym same) stands.0.0) (subst (λ r. IsKept (rows.leaves r k) k b) (sym same) stands.1)) in
    inr (_, c.in-Ok.office, c.carry_out-done.result.1, stood, c.carry_out-done.ensures.does)

pub returns-in-Ok-clause-files : goal.returns-in-Ok-clause-files
returns-in-Ok-clause-files g c = inr ((_, c.open.ensures.files, c.close.ensures.files), (_, refl))

pub returns-in-Err-clause-done : goal.returns-in-Err-clause-done
returns-in-Err-clause-done g c = inl (_, not_opened _ _ _ c.in-Err.ensures.refused, _, refl, c.from.ensures, refl)

pub returns-in-Err-clause-files : goal.returns-in-Err-clause-files
returns-in-Err-clause-files g c = inl c.open.ensures.files
