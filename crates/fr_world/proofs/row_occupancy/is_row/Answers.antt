use Rattle.std.proofs.Common.{◌∙◌, sym}
use Rattle.std.proofs.lemmas.Bool.{not-true}
use Rattle.fr_world.proofs.KeyLaws.{pairs_apart}
use Rattle.fr_world.proofs.row_occupancy.is_row.Goals as goal

pub returns-then-ne : goal.returns-then-ne
returns-then-ne c = sym (pairs_apart c.args.row.now.frame c.args.frame c.args.row.now.placement c.args.placement.now (not-true _ (sym c.ne.ensures ∙ c.if-ne.true)))
