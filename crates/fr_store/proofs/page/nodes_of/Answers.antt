use Rattle.std.proofs.Common.{rules, ◌∙◌, ◌∷◌, map, reverse, take, sym, ap}
use Rattle.fr_base.specs.Keys.{owned}
use Rattle.fr_world.specs.Maps.{set_of}
use Rattle.fr_tables.specs.Rows.{words}
use Rattle.fr_store.specs.Reading.{name_shown}
use Rattle.fr_store.proofs.TurnLemmas.{turned, node_in}
use Rattle.fr_store.proofs.page.nodes_of.Goals as goal

pub loop-row-preserved : goal.loop-row-preserved
loop-row-preserved c s =
    let rows = c.args.rows.now in
    let at = c.loop-row.row-index in
    let name = c.in_ok-name_at.field-0 in
    let more = turned rows at c.row-item.result (search rules) (search rules) in
    node_in s c.loop-row.nodes.keys c.insert.new.self.keys (map name_shown (reverse (take at rows))) name (search rules) (c.loop-row.invariant s)
    ∙ ap (set_of owned (λ n. (s, n))) (ap (λ n. n ∷ map name_shown (reverse (take at rows))) (sym (ap words c.in_ok-name_at.ensures.value)) ∙ sym (ap (map name_shown) more))
