use Rattle.std.proofs.Common.{inl, inr}
use Rattle.fr_cli.proofs.NumberLaws.{no_server}
use Rattle.fr_cli.proofs.words.serve_job.Goals as goal

pub returns-in_err-number : goal.returns-in_err-number
returns-in_err-number c = no_server _ _ c.from_residual-in_err-number.ensures (inl c.in_err-number.ensures)

pub returns-in_err-number-2 : goal.returns-in_err-number-2
returns-in_err-number-2 c = no_server _ _ c.from_residual-in_err-number-2.ensures (inr (inl c.in_err-number-2.ensures))

pub returns-in_err-number-3 : goal.returns-in_err-number-3
returns-in_err-number-3 c = no_server _ _ c.from_residual-in_err-number-3.ensures (inr (inr (inl c.in_err-number-3.ensures)))

pub returns-in_err-number-4 : goal.returns-in_err-number-4
returns-in_err-number-4 c = no_server _ _ c.from_residual-in_err-number-4.ensures (inr (inr (inr c.in_err-number-4.ensures)))
