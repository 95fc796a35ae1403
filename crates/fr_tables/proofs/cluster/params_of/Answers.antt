use Rattle.std.proofs.Common.{rules, ◌≡◌, ◌∙◌, Ok, length, pos, ap, sym}
use Rattle.sqlite.specs.declared.types.Value.TheVariants.{Int}
use Rattle.fr_base.specs.Parameters.{check_params}
use Rattle.fr_tables.proofs.ConfigLemmas.{its_row}
use Rattle.fr_tables.proofs.cluster.params_of.Goals as goal

pub returns-clause-row : goal.returns-clause-row
returns-clause-row c =
    let size : length c.args.row.now ≡ 10 = search rules in
    let checked : check_params c.in_ok-raw.raw ≡ Ok c.in_ok-params.params = search rules in
    its_row c.args.row.now c.in_ok-raw.raw c.in_ok-params.params c.in_ok-key.field-0 size checked c.in_ok-raw.ensures.told c.in_ok-key.ensures.value
    (c.in_ok-number_at.ensures ∙ ap (λ n. Int (pos n)) (sym c.in_ok-raw.ensures.cycles))
