-- Laws of the loops over signals.
use Rattle.std.proofs.Common.{◌≡◌, ℕ, ◌+◌, ◌<◌, List, take, length, get_or, sym, ◌∙◌, ap, add-one, AllPairs}
use Rattle.fr_base.specs.Signals.{SignalData}
use Rattle.fr_base.specs.Bits.{bits_of, image_bit}
use Rattle.fr_base.specs.Layouts.{AreApart}
use Rattle.fr_layout.proofs.BitsLemmas.{put_over, image_bit-take}

-- one signal's value more is put
pub put_more : (signals : List SignalData) (values : List ℕ) (k p old new v : ℕ) (s : SignalData) → AllPairs AreApart signals → k < length signals → k < length values →
    s ≡ get_or signals k s → v ≡ get_or values k 0 → old ≡ image_bit (take k signals) (take k values) p → new ≡ put_over (bits_of s) v p old →
    new ≡ image_bit (take (k + 1) signals) (take (k + 1) values) p
put_more signals values k p old new v s apart in_signals in_values at value before is =
    is
    ∙ (ap (put_over (bits_of s) v p) before
    ∙ (ap (λ n. put_over (bits_of s) n p (image_bit (take k signals) (take k values) p)) value
    ∙ (ap (λ t. put_over (bits_of t) (get_or values k 0) p (image_bit (take k signals) (take k values) p)) at
    ∙ (sym (image_bit-take signals values k p s apart in_signals in_values)
    ∙ ap (λ n. image_bit (take n signals) (take n values) p) (sym (add-one k))))))
