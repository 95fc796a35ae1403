use Rattle.std.proofs.Common.{◌≡◌, ℕ, ◌+◌, ◌-◌, Bool, false, get_or, map, vec_len}
use Rattle.std.specs.List.{range_with_len}
use Rattle.fr_picture.specs.Shown.{first_free, shows_at}
use Rattle.fr_picture.proofs.drawing.marks.Marks.shown.Given as goal

-- what is shown at the places up to here, and from which slot on none is used
abbrev pub invariant-loop-slot : goal.invariant-loop-slot
invariant-loop-slot l = record {
  len : vec_len l.shown + 1 ≡ l.slot;
  value : (used : ℕ → Bool) → ((n : ℕ) → get_or l.self.0 n false ≡ used n)
      → (l.shown.items ≡ map (shows_at used l.last) (range_with_len 1 (l.slot - 1))) × (l.free ≡ first_free used (l.slot - 1));
}
