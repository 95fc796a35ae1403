use Rattle.std.proofs.Common.{◌≡◌, arith, rules}
use Rattle.fr_office.proofs.ShownReplies.{shows_load}
use Rattle.fr_office.proofs.queries.load.show_load.Goals as goal

pub returns : goal.returns
returns g c = record {
  reads = search rules;
  told = λ clean cl b stood sound. (search rules, λ x there. grind (arith, shows_load));
}
