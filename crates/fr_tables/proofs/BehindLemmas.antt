-- What stands behind the tables of the schema before sets nothing off, and `cluster2` is among it.
use Rattle.std.proofs.Common.{◌≡◌, ℕ, List, Option, None, Some, refl}
use Rattle.std.specs.List.{AllByRecursion}
use Rattle.sqlite.specs.Order.{Row}
use Rattle.sqlite.specs.Table.{Table}
use Rattle.sqlite_rules.specs.Action.{works}
use Rattle.sqlite_schema.specs.declared.schema.Keys.TheVariants.{Enforced}
use Rattle.sqlite_tied.specs.Compute.{everything}
use Rattle.fr_tables.specs.Schema.{Layout, behind_them, cluster2_at, register_schema, old_schema}

works_by : (tree : ℕ) (index before behind : Option ℕ) (depth at : ℕ) (olds news : List Row)
    → works (register_schema (record { cluster2 = tree; index = index; before = before; behind = behind })) Enforced depth at olds news ≡ works (old_schema None None) Enforced depth at olds news
unfolding everything
works_by tree index None None depth at olds news = refl
works_by tree index None (Some b) depth at olds news = refl
works_by tree index (Some a) None depth at olds news = refl
works_by tree index (Some a) (Some b) depth at olds news = refl

-- an edit sets off what it does where nothing stands behind those tables
pub works_same : (l : Layout) (depth at : ℕ) (olds news : List Row) → works (register_schema l) Enforced depth at olds news ≡ works (old_schema None None) Enforced depth at olds news
works_same l = works_by l.cluster2 l.index l.before l.behind

last_by : (P : Table → Type 0) (tree : ℕ) (index before behind : Option ℕ) → AllByRecursion P (behind_them (record { cluster2 = tree; index = index; before = before; behind = behind })) → P (cluster2_at tree)
last_by P tree index None behind all = all.0
last_by P tree index (Some a) behind all = all.1.0

-- what holds of all that stands there holds of `cluster2`
pub last_of : (P : Table → Type 0) (l : Layout) → AllByRecursion P (behind_them l) → P (cluster2_at l.cluster2)
last_of P l = last_by P l.cluster2 l.index l.before l.behind
