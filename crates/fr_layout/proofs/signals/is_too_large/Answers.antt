use Rattle.std.proofs.Common.{◌^◌}
use Rattle.std.proofs.lemmas.Nat.{pow_pos}
use Rattle.fr_layout.proofs.LayoutLemmas.{above_power}
use Rattle.fr_layout.proofs.signals.is_too_large.Goals as goal

pub returns-then-length-lt64 : goal.returns-then-length-lt64
returns-then-length-lt64 c = above_power c.args.value (2 ^ c.args.length) (pow_pos c.args.length)
