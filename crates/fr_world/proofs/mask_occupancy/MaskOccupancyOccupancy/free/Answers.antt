use Rattle.std.proofs.Common.{◌≡◌, ◌∙◌, rules, tests}
use Rattle.std.specs.List.{list_all}
use Rattle.fr_base.specs.Channels.{channels_in}
use Rattle.fr_world.specs.Masks.{is_free_on}
use Rattle.fr_world.proofs.MarkLaws.{free_by_channels}
use Rattle.fr_world.proofs.mask_occupancy.MaskOccupancyOccupancy.free.Goals as goal

pub returns : goal.returns
returns c =
    let ps = c.args.self.now in
    let q = c.args.placement.now in
    let each : c.all.result ≡ list_all (is_free_on ps q) (channels_in q.channels) = search (rules, tests) in
    each ∙ free_by_channels ps q
