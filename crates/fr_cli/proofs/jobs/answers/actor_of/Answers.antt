use Rattle.std.proofs.Common.{rules, ◌≡◌, None, IsUtf8, ◌∙◌}
use Rattle.fr_http.proofs.KeyLaws.{nobodys}
use Rattle.fr_cli.proofs.jobs.answers.actor_of.Goals as goal

pub returns-in_err-ok : goal.returns-in_err-ok
returns-in_err-ok g c cluster b stands sound =
    let none : IsUtf8 c.args.key.now → ⊥ = search rules in
    let is : c.from_residual.result ≡ None = search rules in
    is ∙ nobodys cluster b c.args.key.now sound none
