use Rattle.std.proofs.Common.{◌≡◌, ◌+◌, ◌<◌, ℕ, slice_index, sym, ◌∙◌, ap, arith}
use Rattle.std.proofs.lemmas.Grind.{common_steps}
use Rattle.fr_base.specs.Bits.{bits_of}
use Rattle.fr_base.specs.Signals.{SignalData}
use Rattle.fr_base.specs.declared.signal.Order.{Order}
use Rattle.fr_base.specs.declared.signal.Order.TheVariants.{Little, Big}
use Rattle.fr_layout.proofs.BitsLemmas.{get_or-bits_of, place}
use Rattle.fr_layout.proofs.bits.position.Goals as goal

placed : (s : SignalData) (o : Order) (i : ℕ) → i < s.length → o ≡ s.order → slice_index (bits_of s) i ≡ place o s.start s.length i
placed s o i h e = get_or-bits_of s i h ∙ ap (λ o. place o s.start s.length i) (sym e)

pub returns-in-Little : goal.returns-in-Little
returns-in-Little c = rw (placed c.args.signal Little c.args.index c.requires c.in-Little.ensures) (ap (λ n. n + c.args.index) c.start-start.ensures)

pub returns-in-Big : goal.returns-in-Big
returns-in-Big c = rw (placed c.args.signal Big c.args.index c.requires c.in-Big.ensures) (grind (arith, common_steps))
