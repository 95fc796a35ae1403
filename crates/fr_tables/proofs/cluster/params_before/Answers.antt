use Rattle.std.proofs.Common.{rules, ◌≡◌, ◌∙◌, Ok, length}
use Rattle.fr_base.specs.Parameters.{check_params}
use Rattle.fr_tables.proofs.ConfigLemmas.{row_before, same_cycles}
use Rattle.fr_tables.proofs.cluster.params_before.Goals as goal

pub returns-clause-row : goal.returns-clause-row
returns-clause-row c =
    let size : length c.args.row.now ≡ 9 = search rules in
    let checked : check_params c.in_ok-raw.raw ≡ Ok c.in_ok-params.params = search rules in
    row_before c.args.row.now c.in_ok-raw.raw c.in_ok-params.params c.in_ok-key.field-0 size checked c.in_ok-raw.ensures.told c.in_ok-key.ensures.value

pub returns-clause-cycles : goal.returns-clause-cycles
returns-clause-cycles c =
    let checked : check_params c.in_ok-raw.raw ≡ Ok c.in_ok-params.params = search rules in
    same_cycles c.in_ok-raw.raw c.in_ok-params.params checked ∙ c.in_ok-raw.ensures.cycles
