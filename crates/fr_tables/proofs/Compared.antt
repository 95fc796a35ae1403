-- What the comparisons of WHERE and ORDER BY say of texts and numbers.
use Rattle.std.proofs.Common.{◌≡◌, ℕ, ℤ, List, Bool, true, false, cond, bytes_eq, Some, is_eq, refl, ap, ◌∙◌}
use Rattle.std.specs.Ordering.{int_eq}
use Rattle.std.proofs.lemmas.Map.Text.{is_eq-slice_cmp}
use Rattle.sqlite_sql.specs.declared.ops.BinaryOp.TheVariants.{Compare}
use Rattle.sqlite_sql.specs.declared.ops.CompareOp.TheVariants.{Eq}
use Rattle.sqlite.specs.Collation.TheVariants.{Binary}
use Rattle.sqlite_value.proofs.OrderLemmas.{value_cmp-Int, value_cmp-Text}
use Rattle.sqlite.specs.declared.types.Value.{Value}
use Rattle.sqlite.specs.declared.types.Value.TheVariants.{Null, Int, Text}
use Rattle.sqlite.specs.Order.{value_cmp}
use Rattle.sqlite.specs.Term.{Term, col, op2}
use Rattle.sqlite_value.specs.Keys.{ascending}
use Rattle.sqlite_value.specs.declared.keys.Key.{Key}
use Rattle.sqlite.specs.Ops.{binary, unary, is_true, from_truth}
use Rattle.sqlite.specs.Cast.{cast}
use Rattle.sqlite.specs.Kind.TheVariants.{Integer}

-- WHERE this column is this parameter; columns are counted from 1, and parameters from 0
abbrev pub equals : ℕ → ℕ → Term
equals place given = op2 (Compare Eq Binary) (col 1 place) (col 0 given)

-- ORDER BY this column
abbrev pub rising : ℕ → Term × Key
rising place = (col 1 place, ascending Binary)

pub equal_texts : (s t : List ℕ) → is_true (binary (Compare Eq Binary) (Text s) (Text t)) ≡ bytes_eq s t
unfolding binary
equal_texts s t = elim (is_eq (value_cmp (Text s) (Text t))) as (λ b. is_true (from_truth (Some b)) ≡ b) [ true ↦ refl | false ↦ refl ] ∙ ap is_eq (value_cmp-Text s t) ∙ is_eq-slice_cmp s t

pub equal_integers : (m n : ℤ) → is_true (binary (Compare Eq Binary) (Int m) (Int n)) ≡ int_eq m n
unfolding binary
equal_integers m n = elim (is_eq (value_cmp (Int m) (Int n))) as (λ b. is_true (from_truth (Some b)) ≡ b) [ true ↦ refl | false ↦ refl ] ∙ ap is_eq (value_cmp-Int m n)

either : (b : Bool) (x : Value) → cond b x x ≡ x
either true x = refl
either false x = refl

-- ---- what a column of integers makes of a value

pub cast_null : cast Integer Null ≡ Null
unfolding unary
cast_null = either _ Null

pub cast_integer : (n : ℤ) → cast Integer (Int n) ≡ Int n
unfolding unary
cast_integer n = either _ (Int n)
