-- What the statements on the row of `cluster2` do.
use Rattle.std.proofs.Common.{◌<◌, None, Some, ◌≡◌, ◌==◌, false, inl, inr, ℕ, Option, arith, sym, subst, subst₂, List, [], ◌∷◌, codes, refl}
use Rattle.std.proofs.lemmas.Bool.{cases_Bool}
use Rattle.std.proofs.lemmas.Bool.Decides.{nat_tests}
use Rattle.sqlite.specs.declared.types.Value.TheVariants.{Null, Int, Text}
use Rattle.sqlite.specs.Order.{Row}
use Rattle.sqlite.specs.Term.{Term, lit, col}
use Rattle.sqlite.specs.Listing.{understood}
use Rattle.sqlite.specs.Cast.{cast_row}
use Rattle.sqlite_tied.specs.Compute.{everything}
use Rattle.fr_tables.specs.Schema.{IsNear, IsBehind, register_schema, cluster2_at}
use Rattle.fr_tables.specs.Rows.{Cluster2Row, of_cluster2}
use Rattle.fr_tables.specs.Changes.{Changes}
use Rattle.fr_tables.specs.Statements.{with_cluster2, shows_cluster2, every, any_order}
use Rattle.fr_tables.proofs.Compared.{cast_null, cast_integer}
use Rattle.fr_tables.proofs.InsertLemmas.{Adds, Puts, puts}
use Rattle.fr_tables.proofs.TableOf.{Does}
use Rattle.fr_tables.proofs.TheTables.{cluster2_table, place_behind}
use Rattle.fr_tables.proofs.FindLemmas.{Selects}
use Rattle.fr_tables.proofs.ReadLemmas.{Reads}

abbrev insert_text : List ℕ
insert_text = codes "INSERT INTO cluster2 (static_slots, slot_macroticks, dynamic_macroticks, symbol_macroticks, idle_macroticks, macroticks_per_cycle, payload_words, channels, integrator, cycles) VALUES (?1, ?2, ?3, ?4, ?5, ?6, ?7, ?8, ?9, ?10)"

-- the parameters
abbrev pub given : Cluster2Row → Row
given c = Int c.static_slots ∷ Int c.slot_macroticks ∷ Int c.dynamic_macroticks ∷ Int c.symbol_macroticks ∷ Int c.idle_macroticks ∷ Int c.macroticks_per_cycle ∷ Int c.payload_words ∷ Text c.channels ∷ Text c.integrator ∷ Int c.cycles ∷ []

abbrev its_terms : List Term
its_terms = lit Null ∷ lit Null ∷ col 0 0 ∷ col 0 1 ∷ col 0 2 ∷ col 0 3 ∷ col 0 4 ∷ col 0 5 ∷ col 0 6 ∷ col 0 7 ∷ col 0 8 ∷ col 0 9 ∷ []

stores : (c : Cluster2Row) (tree : ℕ) → cast_row (cluster2_at tree) (Null ∷ of_cluster2 c) ≡ Null ∷ of_cluster2 c
unfolding understood everything
stores c tree = rw (cast_null, cast_integer c.static_slots, cast_integer c.slot_macroticks, cast_integer c.dynamic_macroticks, cast_integer c.symbol_macroticks, cast_integer c.idle_macroticks, cast_integer c.macroticks_per_cycle, cast_integer c.payload_words, cast_integer c.cycles)

insert_by : (c : Cluster2Row) (tree : ℕ) (index before behind : Option ℕ) → Adds (register_schema (record { cluster2 = tree; index = index; before = before; behind = behind })) (cluster2_at tree) (place_behind before) insert_text (given c) (of_cluster2 c)
unfolding understood everything
insert_by c tree index None behind = record { terms = its_terms; width = 12; is = refl; plain = (refl, refl); gives = refl; stores = stores c tree }
insert_by c tree index (Some before) behind = record { terms = its_terms; width = 12; is = refl; plain = (refl, refl); gives = refl; stores = stores c tree }

insert_is : (c : Cluster2Row) → Puts cluster2_table insert_text (given c) c
insert_is c l = insert_by c l.cluster2 l.index l.before l.behind

pub inserts : (c : Cluster2Row) → Does insert_text (given c) (Changes (with_cluster2 c))
inserts c = puts cluster2_table c (insert_is c)

abbrev pub select_text : List ℕ
select_text = codes "SELECT static_slots, slot_macroticks, dynamic_macroticks, symbol_macroticks, idle_macroticks, macroticks_per_cycle, payload_words, channels, integrator, cycles FROM cluster2"

abbrev its_columns : List Term
its_columns = col 1 2 ∷ col 1 3 ∷ col 1 4 ∷ col 1 5 ∷ col 1 6 ∷ col 1 7 ∷ col 1 8 ∷ col 1 9 ∷ col 1 10 ∷ col 1 11 ∷ []

abbrev its_names : List (List ℕ)
its_names = codes "static_slots" ∷ codes "slot_macroticks" ∷ codes "dynamic_macroticks" ∷ codes "symbol_macroticks" ∷ codes "idle_macroticks" ∷ codes "macroticks_per_cycle" ∷ codes "payload_words" ∷ codes "channels" ∷ codes "integrator" ∷ codes "cycles" ∷ []

-- what the text means, where the table stands in this tree
abbrev ReadsAt : ℕ → Option ℕ → Option ℕ → Option ℕ → Type 0
ReadsAt tree index before behind = Reads (register_schema (record { cluster2 = tree; index = index; before = before; behind = behind })) select_text tree [] [] its_columns

-- where it may stand
data Place : Type 0 where
  first : Place
  second : Place
  third : Place
  fourth : Place

abbrev tree_at : Place → ℕ
tree_at first = 21
tree_at second = 22
tree_at third = 23
tree_at fourth = 24

fourth_left : (tree : ℕ) → IsNear tree → (tree == 21) ≡ false → (tree == 22) ≡ false → (tree == 23) ≡ false → tree ≡ 24
fourth_left tree (low, high) a b c = grind (arith, nat_tests)

place_of : (tree : ℕ) → IsNear tree → (p : Place) × (tree ≡ tree_at p)
place_of tree near = elim (cases_Bool (tree == 21)) [
  | inl is ↦ (first, grind (arith, nat_tests))
  | inr past ↦ elim (cases_Bool (tree == 22)) [
    | inl is ↦ (second, grind (arith, nat_tests))
    | inr further ↦ elim (cases_Bool (tree == 23)) [ inl is ↦ (third, grind (arith, nat_tests)) | inr last ↦ (fourth, fourth_left tree near past further last) ]
  ]
]

-- with no table of ANALYZE before it
reads_first : (p : Place) (index behind : Option ℕ) → ReadsAt (tree_at p) index None behind
unfolding understood everything
reads_first first index behind = record { names = its_names; is = refl; unlisted = refl; plain = (refl, refl) }
reads_first second index behind = record { names = its_names; is = refl; unlisted = refl; plain = (refl, refl) }
reads_first third index behind = record { names = its_names; is = refl; unlisted = refl; plain = (refl, refl) }
reads_first fourth index behind = record { names = its_names; is = refl; unlisted = refl; plain = (refl, refl) }

-- with that table before it
reads_behind : (p before : Place) → tree_at before < tree_at p → (index behind : Option ℕ) → ReadsAt (tree_at p) index (Some (tree_at before)) behind
unfolding understood everything
reads_behind first first low index behind = absurd (omega (arith, low))
reads_behind first second low index behind = absurd (omega (arith, low))
reads_behind first third low index behind = absurd (omega (arith, low))
reads_behind first fourth low index behind = absurd (omega (arith, low))
reads_behind second first low index behind = record { names = its_names; is = refl; unlisted = refl; plain = (refl, refl) }
reads_behind second second low index behind = absurd (omega (arith, low))
reads_behind second third low index behind = absurd (omega (arith, low))
reads_behind second fourth low index behind = absurd (omega (arith, low))
reads_behind third first low index behind = record { names = its_names; is = refl; unlisted = refl; plain = (refl, refl) }
reads_behind third second low index behind = record { names = its_names; is = refl; unlisted = refl; plain = (refl, refl) }
reads_behind third third low index behind = absurd (omega (arith, low))
reads_behind third fourth low index behind = absurd (omega (arith, low))
reads_behind fourth first low index behind = record { names = its_names; is = refl; unlisted = refl; plain = (refl, refl) }
reads_behind fourth second low index behind = record { names = its_names; is = refl; unlisted = refl; plain = (refl, refl) }
reads_behind fourth third low index behind = record { names = its_names; is = refl; unlisted = refl; plain = (refl, refl) }
reads_behind fourth fourth low index behind = absurd (omega (arith, low))

reads_by : (tree : ℕ) (index before behind : Option ℕ) → IsBehind (record { cluster2 = tree; index = index; before = before; behind = behind }) → ReadsAt tree index before behind
reads_by tree index None behind near = let p = place_of tree near.0 in subst (λ t. ReadsAt t index None behind) (sym p.1) (reads_first p.0 index behind)
reads_by tree index (Some at) behind near =
    let p = place_of tree near.0 in
    let q = place_of at (near.1.0, omega (arith, near.0.1, near.1.1)) in
    subst₂ (λ t a. ReadsAt t index (Some a) behind) (sym p.1) (sym q.1) (reads_behind p.0 q.0 (subst₂ (λ a t. a < t) q.1 p.1 near.1.1) index behind)

pub its_row : Selects cluster2_table shows_cluster2 (every) any_order select_text ([])
unfolding understood everything
its_row l behind = record {
  tests = [];
  order = [];
  project = its_columns;
  is = reads_by l.cluster2 l.index l.before l.behind behind;
  tested = λ p. refl;
  compared = λ a b. refl;
  projected = λ p. refl;
}
