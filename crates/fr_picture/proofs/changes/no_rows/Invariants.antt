use Rattle.std.proofs.Common.{◌≡◌, [], vec_len}
use Rattle.std.specs.List.{All}
use Rattle.fr_picture.proofs.changes.no_rows.Given as goal

-- so many places, and no rows
abbrev pub invariant-loop : goal.invariant-loop
invariant-loop l = record {
  len : vec_len l.slots ≡ l.counter;
  none : All (λ s. s.rows.items ≡ []) l.slots.items;
}
