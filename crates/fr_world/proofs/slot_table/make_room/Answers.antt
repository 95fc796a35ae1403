use Rattle.std.proofs.Common.{◌∙◌, ◌++◌, ◌∷◌, ap, get_or, []}
use Rattle.fr_world.proofs.PlaceLaws.{grown}
use Rattle.fr_world.proofs.slot_table.make_room.Goals as goal

pub loop-alloc-preserved : goal.loop-alloc-preserved
loop-alloc-preserved c =
    λ n. (λ i. get_or (c.in_ok-push.ensures.items i) n []) ∙ ap (λ t. get_or (c.loop-alloc.tables.items ++ t ∷ []) n []) c.new.ensures ∙ grown c.loop-alloc.tables.items n ∙ c.loop-alloc.invariant n
