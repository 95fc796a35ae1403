-- When a number is the least that has a property. So the code names the first bit of a signal that is used.
use Rattle.std.specs.Prelude.{ℕ, ◌≤◌, Option, IfNone, IfSome}

-- it is the least number of which P holds, or none where P holds of none
pub record IsLeast (P : ℕ → Type 0) (least : Option ℕ) : Type 0 where
  pub none : IfNone least ((p : ℕ) → ¬ P p)
  pub holds : IfSome least P
  pub below : IfSome least (λ p. (q : ℕ) → P q → p ≤ q)
