-- What a transaction of edits commits, and what a crash leaves of it.
use Rattle.std.proofs.Common.{◌≡◌, true, List, IsTrue, ap, arith, subst}
use Rattle.sqlite.specs.Held.{Held, state}
use Rattle.sqlite.specs.State.{State, HasCleanDisk, Survives}
use Rattle.sqlite.specs.Tree.{Trees}
use Rattle.sqlite.proofs.StateLemmas.{survives_then}
use Rattle.sqlite_trees.specs.declared.store.Store.{Ghosts}
use Rattle.fr_base.specs.Cluster.{Cluster}
use Rattle.fr_base.specs.Book.{Book}
use Rattle.fr_world.specs.BookEdits.{all_applied}
use Rattle.fr_world.specs.Fits.{AllFit}
use Rattle.fr_world.specs.declared.edit.Edit.{Edit}
use Rattle.fr_store.specs.Applying.{LeavesAll}
use Rattle.fr_store.specs.Reading.{Stands}
use Rattle.fr_store.specs.Settled.{is_left}
use Rattle.fr_store.proofs.AgainLemmas.{still_stands}

-- a transaction that begins writes nothing
module _ {S : Type 0} (g : Ghosts S) (held begun : Held S) (is : begun ≡ record held { in_transaction = true }) where
  pub begun_stands : (c : Cluster) (b : Book) → Stands (state g held) c b → Stands (state g begun) c b
  begun_stands c b stands = still_stands (state g held) (state g begun) c b (ap (λ h. (state g h).now) is) stands

  pub begun_now : (state g begun).now ≡ (state g held).now
  begun_now = ap (λ h. (state g h).now) is

  pub begun_inside : IsTrue (state g begun).in_transaction
  begun_inside = ap (λ (h : Held S). h.in_transaction) is

  survives_begun : (mid : State) → Survives (state g (record held { in_transaction = true })) mid (λ _. ⊥) → Survives (state g held) mid (λ _. ⊥)
  survives_begun mid s = record { clean = s.clean; shield = s.shield; counts = s.counts; limit = s.limit; closes = s.closes; crash = s.crash }

  -- what a crash leaves is from before, or what is committed
  pub leaves : (Commits : Trees → Type 0) (mid end : State) → (HasCleanDisk mid → (db : Trees) → db ≡ mid.now.trees → Commits db)
      → Survives (state g begun) mid (λ _. ⊥) → Survives mid end (λ db. db ≡ mid.now.trees) → Survives (state g held) end Commits
  leaves Commits mid end committed before commits =
      survives_then (state g held) mid end (λ _. ⊥) (λ db. db ≡ mid.now.trees) Commits (λ clean db none. absurd none)
      (λ clean db is. let late : HasCleanDisk mid = omega (arith, commits.clean, clean) in committed late db is)
      (survives_begun mid (subst (λ h. Survives (state g h) mid (λ _. ⊥)) is before)) commits

  -- of edits that were carried out
  pub crash_leaves : (edits : List Edit) (mid end : State) → (HasCleanDisk mid → (c : Cluster) (b : Book) → Stands (state g begun) c b → AllFit c.params b edits → Stands mid c (all_applied b edits))
      → Survives (state g begun) mid (λ _. ⊥) → Survives mid end (λ db. db ≡ mid.now.trees) → Survives (state g held) end (LeavesAll edits (state g held))
  crash_leaves edits mid end carried =
      leaves (LeavesAll edits (state g held)) mid end (λ clean db is c b stands fit. is_left mid c (all_applied b edits) db is (carried clean c b (begun_stands c b stands) fit))
