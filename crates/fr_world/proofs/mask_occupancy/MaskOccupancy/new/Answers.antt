use Rattle.std.proofs.Common.{◌∙◌, is_some, sym, ap}
use Rattle.fr_base.specs.Schedule.{fill}
use Rattle.fr_base.specs.Cycles.{is_bit_set}
use Rattle.fr_world.specs.Masks.{word_on, words_at}
use Rattle.fr_world.proofs.MaskLaws.{cell_in, no_words}
use Rattle.fr_world.proofs.mask_occupancy.MaskOccupancy.new.Goals as goal

pub invariant_of-result : goal.invariant_of-result
unfolding fill
invariant_of-result c slot x k =
    ap (λ ws. is_bit_set (word_on x (words_at ws slot)) k) c.new-2.ensures ∙ no_words x k ∙ sym (ap (λ ps. is_some (fill ps (cell_in slot x k))) c.new.ensures)
