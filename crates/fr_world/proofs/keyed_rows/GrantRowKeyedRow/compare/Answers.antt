use Rattle.std.proofs.Common.{◌∙◌}
use Rattle.fr_world.proofs.KeyLaws.{slots_alike}
use Rattle.fr_world.proofs.keyed_rows.GrantRowKeyedRow.compare.Goals as goal

pub returns : goal.returns
returns c =
    c.cmp.ensures
    ∙ slots_alike (record { slot = c.args.self.now.slot; channel = c.args.self.now.channel }) (record { slot = c.args.other.now.slot; channel = c.args.other.now.channel })
