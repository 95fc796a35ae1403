use Rattle.std.proofs.Common.{rules, ◌∙◌, ◌∷◌, map, reverse, take, sym, ap}
use Rattle.fr_base.specs.Keys.{placement_order}
use Rattle.fr_world.specs.Maps.{set_of}
use Rattle.fr_store.specs.Paging.{placement_shown}
use Rattle.fr_store.proofs.TurnLemmas.{turned, placement_in}
use Rattle.fr_store.proofs.page.frames.placements_of.Goals as goal

pub loop-row-preserved : goal.loop-row-preserved
loop-row-preserved c =
    let rows = c.args.rows.now in
    let at = c.loop-row.row-index in
    let more = turned rows at c.row-item.result (search rules) (search rules) in
    placement_in c.loop-row.placements.keys c.insert.new.self.keys (map (placement_shown c.args.count) (reverse (take at rows))) c.in_ok-placement_of.field-0 (search rules) c.loop-row.invariant
    ∙ ap (set_of placement_order (λ q. q)) (ap (λ q. q ∷ map (placement_shown c.args.count) (reverse (take at rows))) c.in_ok-placement_of.ensures ∙ sym (ap (map (placement_shown c.args.count)) more))
