-- A statement that is compiled, and not run.
use Rattle.std.proofs.Common.{inl, inr, Ok, Err, Result, IfOk, IfErr}
use Rattle.sqlite.specs.Order.{Row}
use Rattle.sqlite.specs.State.{State, IsNotRun, IsUnchanged}
use Rattle.sqlite.specs.declared.error.Error.{Error}
use Rattle.fr_tables.specs.Changes.{Stays}
use Rattle.std.specs.Prelude.{ℕ, List, []}

not_run : (old new : State) (sql : List ℕ) (params : Row) (e : Error) → IsNotRun old new sql params e → Stays old new
unfolding IsNotRun
not_run old new sql params e (inl h) = inl h.1
not_run old new sql params e (inr h) = inr h.3

pub prepared : {X : Type 0} (P : X → Type 0) (old new : State) (sql : List ℕ) (r : Result X Error)
    → IfOk r (λ x. P x × IsUnchanged old new) → IfErr r (λ e. (params : Row) → IsNotRun old new sql params e) → Stays old new
prepared P old new sql (Ok x) h k = inl h.1
prepared P old new sql (Err e) h k = not_run old new sql [] e (k [])
