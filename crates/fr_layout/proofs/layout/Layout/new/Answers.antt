use Rattle.fr_layout.proofs.LayoutLemmas.{sound_empty}
use Rattle.fr_layout.proofs.layout.Layout.new.Goals as goal

pub invariant_of-result : goal.invariant_of-result
invariant_of-result c = sound_empty c.args.payload_words c.new.result.items c.requires c.new.ensures.items
