-- Cycles: a count of cycles is even and from 8 to 64; the cycle counter goes from 0 to the number
-- before it. A repetition divides the count, and a base is below the repetition. The three together
-- (`Cycles`) select the cycles below the count whose remainder by the repetition is the base. The
-- first cycle that two such sets have in common.
use Rattle.std.specs.Prelude.{ℕ, ◌%◌, ◌==◌, Bool, ◌&&◌, List, filter, find, nat_le, nat_lt, nat_eq, Option}
use Rattle.std.specs.Int.{bit_at}
use Rattle.std.specs.List.{list_any, range_with_len}

-- a base cycle and a cycle repetition, and how many cycles the cycle counter goes through
pub record Cycles : Type 0 where
  pub count : ℕ
  pub base : ℕ
  pub repetition : ℕ

-- whether the cycle counter may go through so many cycles: an even number from 8 to 64
abbrev pub is_cycle_count : ℕ → Bool
is_cycle_count n = (nat_le 8 n && nat_le n 64) && ((n % 2) == 0)

-- whether the number is a repetition: it divides the count of cycles
abbrev pub is_repetition : ℕ → ℕ → Bool
is_repetition count r = nat_le 1 r && ((count % r) == 0)

-- whether base and repetition select cycles: the repetition is one, and the base is below it
abbrev pub is_cycle_set : ℕ → ℕ → ℕ → Bool
is_cycle_set count base repetition = is_repetition count repetition && nat_lt base repetition

-- whether count, base and repetition select cycles
abbrev pub are_cycles : Cycles → Bool
are_cycles s = is_cycle_count s.count && is_cycle_set s.count s.base s.repetition

-- whether base and repetition select the cycle
abbrev pub selects : Cycles → ℕ → Bool
selects s c = (c % s.repetition) == s.base

-- the numbers of so many cycles, from 0
unfoldable pub all_cycles : ℕ → List ℕ
all_cycles count = range_with_len 0 count

-- the cycles that are selected, in order
unfoldable pub cycles_of : Cycles → List ℕ
cycles_of s = filter (selects s) (all_cycles s.count)

-- whether the cycle is among those that are selected
unfoldable pub has_cycle : Cycles → ℕ → Bool
has_cycle s c = list_any (nat_eq c) (cycles_of s)

-- whether the bit of weight 2 ^ c is set in a word
abbrev pub is_bit_set : ℕ → ℕ → Bool
is_bit_set word c = bit_at word c == 1

-- the least cycle that is in both lists
unfoldable pub first_common : Cycles → Cycles → Option ℕ
first_common s t = find (has_cycle t) (cycles_of s)
