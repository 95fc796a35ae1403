use Rattle.std.proofs.Common.{rules, ◌≡◌, ◌∙◌, ◌∷◌, map, reverse, take, sym, ap, unwrap_or, nat_abs}
use Rattle.fr_base.specs.Keys.{channel_slots}
use Rattle.fr_base.specs.declared.channel.Channel.TheVariants.{A}
use Rattle.fr_world.specs.Maps.{table_of}
use Rattle.fr_world.specs.Pages.{holder_of}
use Rattle.fr_tables.specs.Rows.{words, number}
use Rattle.fr_store.specs.Paging.{grant_shown}
use Rattle.fr_store.proofs.TurnLemmas.{turned, grant_in}
use Rattle.fr_store.proofs.page.grants_of.Goals as goal

pub loop-row-preserved : goal.loop-row-preserved
loop-row-preserved c s =
    let rows = c.args.rows.now in
    let at = c.loop-row.row-index in
    let more = turned rows at c.row-item.result (search rules) (search rules) in
    let slot = ap (λ v. nat_abs (number v)) c.in_ok-slot_at.ensures in
    let channel = ap (λ o. unwrap_or o A) c.in_ok-channel_at.ensures in
    let name = ap words c.in_ok-name_at.ensures.value in
    let is : grant_shown c.row-item.result ≡ (record { slot = c.in_ok-slot_at.field-0; channel = c.in_ok-channel_at.field-0 }, c.in_ok-name_at.field-0) = λ i. (record { slot = slot i; channel = channel i }, name i) in
    grant_in s c.loop-row.grants.entries c.insert.new.self.entries (map grant_shown (reverse (take at rows))) (record { slot = c.in_ok-slot_at.field-0; channel = c.in_ok-channel_at.field-0 }) c.in_ok-name_at.field-0
    c.insert.ensures.was_ordered (search rules) (c.loop-row.invariant s)
    ∙ ap (table_of channel_slots (λ k. (k.slot, k.channel)) (holder_of s)) (ap (λ e. e ∷ map grant_shown (reverse (take at rows))) (sym is) ∙ sym (ap (map grant_shown) more))
