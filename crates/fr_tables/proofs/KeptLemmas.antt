-- What a new row makes of a table.
use Rattle.std.proofs.Common.{◌≡◌, ℤ, pos, ◌+ℤ◌, ◌<ℤ◌, List, [], ◌∷◌, ◌++◌, map, fold, IsTrue, refl, sym, ap, ◌∙◌, append_assoc, append-nil, arith, Less, int_cmp}
use Rattle.std.proofs.lemmas.List.{map-append}
use Rattle.std.proofs.lemmas.Int.{ints}
use Rattle.std.proofs.lemmas.Bool.Decides.{nat_tests}
use Rattle.std.specs.List.{AllByRecursion}
use Rattle.sqlite.specs.declared.types.Value.{Value}
use Rattle.sqlite.specs.declared.types.Value.TheVariants.{Null, Int}
use Rattle.sqlite.specs.Order.{Row, value_cmp}
use Rattle.sqlite.specs.Tree.{IsTable, rowid, put_row}
use Rattle.sqlite_value.proofs.OrderLemmas.{value_cmp-Int}
use Rattle.sqlite_trees.specs.View.{is_int}
use Rattle.sqlite_trees.proofs.ListLemmas.{ascending-append, all-append, all_weaker}
use Rattle.sqlite_rules.specs.Edit.{id_in, next_rowid, numbered, put_all}
use Rattle.sqlite.specs.Rowids.TheVariants.{Chosen}
use Rattle.sqlite_rules.proofs.TableLemmas.{int_is}
use Rattle.fr_tables.specs.Tables.{AreKept}

below_is : (a b : ℤ) → a <ℤ b → value_cmp (Int a) (Int b) ≡ Less
below_is a b h = value_cmp-Int a b ∙ grind (arith, ints, nat_tests)

lower_than : (a b c : ℤ) → int_cmp a b ≡ Less → b <ℤ c → a <ℤ c
lower_than a b c p q = grind (arith, ints, nat_tests)

abbrev step_rowid : ℤ → Row → ℤ
step_rowid n r = id_in (rowid r) +ℤ pos 1

below_next : (x : Row) (rows : List Row) → IsTable (x ∷ rows) → AllByRecursion (λ r. IsTrue (is_int (rowid r))) (x ∷ rows)
    → AllByRecursion (λ r. id_in (rowid r) <ℤ fold step_rowid (step_rowid (pos 1) x) rows) (x ∷ rows)
below_next x [] up keyed = (omega (arith, ints), tt)
below_next x (y ∷ rows) up keyed =
    let later = below_next y rows up.1 keyed.1 in
    let lower = rw (int_is (rowid x) keyed.0, int_is (rowid y) keyed.1.0, value_cmp-Int (id_in (rowid x)) (id_in (rowid y))) at up.0.0 in
    (lower_than (id_in (rowid x)) (id_in (rowid y)) _ lower later.0, later)

all_less : (n : ℤ) (rows : List Row) → AllByRecursion (λ r. IsTrue (is_int (rowid r))) rows → AllByRecursion (λ r. id_in (rowid r) <ℤ n) rows
    → AllByRecursion (λ r. value_cmp (rowid r) (Int n) ≡ Less) rows
all_less n [] keyed below = tt
all_less n (r ∷ rows) keyed below = (rw (int_is (rowid r) keyed.0) (below_is _ n below.0), all_less n rows keyed.1 below.1)

pub all_below : (rows : List Row) → IsTable rows → AllByRecursion (λ r. IsTrue (is_int (rowid r))) rows → AllByRecursion (λ r. value_cmp (rowid r) (Int (next_rowid rows)) ≡ Less) rows
all_below [] up keyed = tt
all_below (x ∷ rows) up keyed = all_less (next_rowid (x ∷ rows)) (x ∷ rows) keyed (below_next x rows up keyed)

pub put_last : (new : Row) (rows : List Row) → AllByRecursion (λ r. value_cmp (rowid r) (rowid new) ≡ Less) rows → put_row new rows ≡ rows ++ new ∷ []
put_last new [] below = refl
put_last new (r ∷ rows) below = rw below.0 (ap (λ rs. r ∷ rs) (put_last new rows below.1))

-- a row with the next rowid is the last
pub put_next : {X : Type 0} (columns : X → Row) (read : Row → X) (rows : List Row) (x : X) → ((id : Value) → read (id ∷ columns x) ≡ x) → AreKept columns read rows
    → AreKept columns read (put_row (Int (next_rowid rows) ∷ columns x) rows) × (map read (put_row (Int (next_rowid rows) ∷ columns x) rows) ≡ map read rows ++ x ∷ [])
put_next columns read rows x reads kept =
    let new = Int (next_rowid rows) ∷ columns x in
    let below = all_below rows kept.rise kept.numbered in
    let last = put_last new rows below in
    let is = reads (Int (next_rowid rows)) in (
      rw last (record {
        rise = ascending-append _ rows (new ∷ []) kept.rise (tt, tt) (all_weaker _ _ (λ r h. (h, tt)) rows below);
        numbered = all-append _ rows (new ∷ []) kept.numbered (refl, tt);
        typed = all-append _ rows (new ∷ []) kept.typed (ap (λ y. Int (next_rowid rows) ∷ columns y) (sym is), tt);
      }),
      rw last (map-append read rows (new ∷ []) ∙ ap (λ y. map read rows ++ y ∷ []) is),
    )

-- rows with the next rowids are the last, in their order
pub put_all_next : {X : Type 0} (columns : X → Row) (read : Row → X) (rows : List Row) (xs : List X) → ((id : Value) (x : X) → read (id ∷ columns x) ≡ x) → AreKept columns read rows
    → AreKept columns read (put_all rows (numbered Chosen rows (map (λ x. Null ∷ columns x) xs))) × (map read (put_all rows (numbered Chosen rows (map (λ x. Null ∷ columns x) xs))) ≡ map read rows ++ xs)
put_all_next columns read rows [] reads kept = (kept, sym (append-nil (map read rows)))
put_all_next columns read rows (x ∷ xs) reads kept =
    let one = put_next columns read rows x (λ id. reads id x) kept in
    let rest = put_all_next columns read (put_row (Int (next_rowid rows) ∷ columns x) rows) xs reads one.0 in
    (rest.0, rest.1 ∙ ap (λ ys. ys ++ xs) one.1 ∙ append_assoc (map read rows) (x ∷ []) xs)
