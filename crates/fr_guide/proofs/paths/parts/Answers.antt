use Rattle.std.proofs.Common.{lit<}
use Rattle.std.proofs.lemmas.Iterator.Consumers.{map_from_collect}
use Rattle.std.proofs.lemmas.Iterator.Splits.{YieldsList-from_str_split}
use Rattle.fr_guide.proofs.paths.parts.Goals as goal
use Rattle.fr_guide.specs.Paths.{parts_of}

pub returns : goal.returns
unfolding parts_of
returns c = map_from_collect _ c.collect.ensures.ran (YieldsList-from_str_split 47 c.args.path.now (lit< tt) c.split.ensures.text c.split.ensures.has_more c.split.ensures.pattern)
