use Rattle.fr_base.proofs.FixedTextLemmas.{IsPadded-written}
use Rattle.fr_base.proofs.fixed_text.FixedText.copy.Goals as goal

pub invariant_of-result : goal.invariant_of-result
invariant_of-result g c =
    rw (c.copy_from_slice.ensures.after, c.as_bytes.ensures.value)
    (IsPadded-written g.row.N c.args.text.now c.requires c.utf8.text)
