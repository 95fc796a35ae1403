-- Masks: filled cycles as the bits of words, one for each slot and channel; and when these are the
-- cycles that a list of placements fills.
use Rattle.std.specs.Prelude.{◌≡◌, ℕ, Bool, List, Option, is_none, is_some, unwrap_or}
use Rattle.std.specs.Ordering.{nat_cmp}
use Rattle.std.specs.List.{find}
use Rattle.std.specs.Map.{lookup}
use Rattle.std.specs.BTreeMap.{is_at}
use Rattle.fr_base.specs.Cycles.{cycles_of, is_bit_set}
use Rattle.fr_base.specs.Schedule.{fill}
use Rattle.fr_base.specs.declared.channel.Channel.{Channel}
use Rattle.fr_base.specs.declared.channel.Channel.TheVariants as channel
use Rattle.fr_base.specs.declared.name.Name.{Name}
use Rattle.fr_base.specs.declared.placement.Placement.{Placement}
use Rattle.fr_world.specs.declared.filled_cycles.FilledCycles.{FilledCycles}

-- the word of a channel
abbrev pub word_on : Channel → FilledCycles → ℕ
word_on channel.A f = f.a
word_on channel.B f = f.b

-- the words of a slot: without any bit where none stand at its number
abbrev pub words_at : List (ℕ × FilledCycles) → ℕ → FilledCycles
words_at words slot = unwrap_or (lookup (is_at (nat_cmp slot)) words) (record { a = 0; b = 0 })

-- whether words stand at the slot's number
abbrev pub has_words : List (ℕ × FilledCycles) → ℕ → Bool
has_words words slot = is_some (lookup (is_at (nat_cmp slot)) words)

-- The bits of the word are the cycles that the pairs fill in the slot on the channel.
abbrev pub AreFilled : List (Name × Placement) → ℕ → Channel → ℕ → Type 0
AreFilled pairs slot x word = (k : ℕ) → is_bit_set word k ≡ is_some (fill pairs (record { cycle = k; slot = slot; channel = x }))

-- The bits of each slot's words are the cycles that the pairs fill there.
abbrev pub ShowFilled : List (Name × Placement) → List (ℕ × FilledCycles) → Type 0
ShowFilled pairs words = (slot : ℕ) (x : Channel) → AreFilled pairs slot x (word_on x (words_at words slot))

-- the first of the placement's cycles in which its slot is filled on the channel
unfoldable pub first_cycle : List (Name × Placement) → Placement → Channel → Option ℕ
first_cycle pairs q x = find (λ k. is_some (fill pairs (record { cycle = k; slot = q.slot; channel = x }))) (cycles_of q.cycles)

-- whether the slot is filled on the channel in none of the placement's cycles
abbrev pub is_free_on : List (Name × Placement) → Placement → Channel → Bool
is_free_on pairs q x = is_none (first_cycle pairs q x)
