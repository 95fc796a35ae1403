use Rattle.std.proofs.Common.{◌∙◌, option_map, sym, ap}
use Rattle.std.specs.Map.{lookup}
use Rattle.std.specs.BTreeMap.{is_at}
use Rattle.fr_world.specs.Pages.{holder_of}
use Rattle.fr_world.specs.declared.page.ChannelSlot.{ChannelSlot}
use Rattle.fr_world.proofs.DecideRows.{grant_there}
use Rattle.fr_world.proofs.KeyLaws.{slot_cmp}
use Rattle.fr_world.proofs.decision.rows.holder.Goals as goal

pub returns : goal.returns
returns c =
    let key : ChannelSlot = record { slot = c.args.slot; channel = c.args.channel } in
    ap (option_map (holder_of c.args.page.now.supplier)) (c.copied.ensures ∙ c.get.ensures.value ∙ ap (lookup (is_at (slot_cmp key))) c.grants.ensures)
    ∙ sym (grant_there c.args.page.now key)
