use Rattle.std.proofs.Common.{◌∙◌, ap, not, rules, tests}
use Rattle.std.proofs.lemmas.Fn.{filter_same}
use Rattle.fr_world.specs.Occupancies.{is_pair}
use Rattle.fr_world.proofs.RowLaws.{pair_of, pairs, pairs-without}
use Rattle.fr_world.proofs.row_occupancy.RowOccupancyOccupancy.clear.Goals as goal

pub returns : goal.returns
returns c =
    ap pairs (filter_same _ (λ r. not (is_pair c.args.frame c.args.placement.now (pair_of r))) _ (λ x b f' k. search (rules, tests)) _ _ c.retain.ensures.filtered)
    ∙ pairs-without c.args.self.now.rows.items c.args.frame c.args.placement.now
