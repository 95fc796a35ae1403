-- What is known of a register whose rows were asked for.
use Rattle.std.proofs.Common.{◌≡◌, ◌∙◌, inl, ℤ, List, [], ◌∷◌, map, filter, Option, Some, None, is_some, IfSome, IsTrue, refl, sym, ap, subst}
use Rattle.std.specs.List.Sorted.{IsPermutation}
use Rattle.std.proofs.lemmas.List.Sorted.{IsPermutation-sym}
use Rattle.sqlite.specs.Order.{Row}
use Rattle.sqlite.specs.Effect.{Database}
use Rattle.sqlite.specs.State.{State, IsUnchanged}
use Rattle.sqlite.proofs.Callers.{one_permutation}
use Rattle.fr_base.specs.Cluster.{ClusterFile, IsWellFormed}
use Rattle.fr_base.specs.declared.config.Supplier.{Supplier}
use Rattle.fr_tables.specs.Rows.{Cluster2Row, SupplierRow}
use Rattle.fr_tables.specs.Tables.{Tables, HasTables, HasSomeTables, tables_in}
use Rattle.fr_tables.specs.Changes.{AreListed, tables_of}
use Rattle.fr_tables.specs.Statements.{cluster2_row, shows_cluster2, shows_supplier, shows_variant, every, any_order, suppliers_cmp, variants_cmp}
use Rattle.fr_tables.specs.Filling.{supplier_row}
use Rattle.fr_store.specs.Reading.{AreOpened, TellsOpened, variant_shown}
use Rattle.fr_base.specs.declared.answer.VariantRow.{VariantRow}
use Rattle.fr_tables.specs.SchemaNumbers.{HasNumber, numbered, our_schema_number}
use Rattle.fr_store.specs.Store.{IsOpenable, IsRegisterOf}
use Rattle.fr_tables.specs.ClusterRows.{shown_supplier}
use Rattle.fr_store.proofs.ChainLemmas.{same_tables}

all_pass : {X : Type 0} (xs : List X) → filter every xs ≡ xs
all_pass [] = refl
all_pass (x ∷ xs) = ap (λ ys. x ∷ ys) (all_pass xs)

only_one : (found : List Cluster2Row) (r : Cluster2Row) → shows_cluster2 r ∷ [] ≡ map shows_cluster2 found → found ≡ r ∷ []
only_one [] r is = absurd cc
only_one (x ∷ []) r is =
    let e0 : x.static_slots ≡ r.static_slots = cc in
    let e1 : x.slot_macroticks ≡ r.slot_macroticks = cc in
    let e2 : x.dynamic_macroticks ≡ r.dynamic_macroticks = cc in
    let e3 : x.symbol_macroticks ≡ r.symbol_macroticks = cc in
    let e4 : x.idle_macroticks ≡ r.idle_macroticks = cc in
    let e5 : x.macroticks_per_cycle ≡ r.macroticks_per_cycle = cc in
    let e6 : x.payload_words ≡ r.payload_words = cc in
    let e7 : x.channels ≡ r.channels = cc in
    let e8 : x.integrator ≡ r.integrator = cc in
    let e9 : x.cycles ≡ r.cycles = cc in
    λ i. record { static_slots = e0 i; slot_macroticks = e1 i; dynamic_macroticks = e2 i; symbol_macroticks = e3 i; idle_macroticks = e4 i; macroticks_per_cycle = e5 i; payload_words = e6 i; channels = e7 i; integrator = e8 i; cycles = e9 i } ∷ []
only_one (x ∷ y ∷ found) r is = absurd cc

-- the row that is read is the one row of the cluster
pub one_cluster : (xs : List Cluster2Row) (rows : List Row) (found : Option ClusterFile) → AreListed shows_cluster2 every any_order xs rows → IfSome found (λ c. rows ≡ shows_cluster2 (cluster2_row c.cluster.params c.cluster.integrator) ∷ [])
    → IfSome found (λ c. xs ≡ cluster2_row c.cluster.params c.cluster.integrator ∷ [])
one_cluster xs rows None listed is = tt
one_cluster xs rows (Some c) listed is =
    let one = only_one listed.found (cluster2_row c.cluster.params c.cluster.integrator) (sym is ∙ listed.shown) in
    one_permutation (cluster2_row c.cluster.params c.cluster.integrator) xs (IsPermutation-sym _ _ (rw (all_pass xs, one) at listed.same))

same_suppliers : (found : List SupplierRow) (list : List Supplier) → map shown_supplier list ≡ map shows_supplier found → found ≡ map supplier_row list
same_suppliers [] [] is = refl
same_suppliers [] (s ∷ list) is = absurd cc
same_suppliers (x ∷ found) [] is = absurd cc
same_suppliers (x ∷ found) (s ∷ list) is =
    let first : shown_supplier s ≡ shows_supplier x = cc in
    let rest : map shown_supplier list ≡ map shows_supplier found = cc in
    let name : s.name ≡ x.name = cc in
    let key : s.key ≡ x.key = cc in
    let both : x ≡ supplier_row s = λ i. record { name = sym name i; key = sym key i } in
    λ i. both i ∷ same_suppliers found list rest i

-- the suppliers that are read are those of the rows
pub all_suppliers : (xs : List SupplierRow) (rows : List Row) (found : Option ClusterFile) → AreListed shows_supplier every suppliers_cmp xs rows → IfSome found (λ c. rows ≡ map shown_supplier c.suppliers)
    → IfSome found (λ c. IsPermutation (map supplier_row c.suppliers) xs)
all_suppliers xs rows None listed is = tt
all_suppliers xs rows (Some c) listed is =
    let same = same_suppliers listed.found c.suppliers (sym is ∙ listed.shown) in
    IsPermutation-sym _ _ (rw (all_pass xs, same) at listed.same)

-- the variants that are read are those of the rows
pub variants_found : {X : Type 0} (old new : Database) (rows : List Row) (items : X → List VariantRow) (found : Option X) → new ≡ old → HasTables new
    → (HasTables old → AreListed shows_variant every variants_cmp (tables_in old.trees).variants rows) → IfSome found (λ f. items f ≡ map variant_shown rows) → IfSome found (λ f. AreOpened (items f)) → IsTrue (is_some found)
    → TellsOpened (tables_in new.trees)
variants_found old new rows items None same has listed shown opened is = absurd cc
variants_found old new rows items (Some f) same has listed shown opened is =
    (rows, subst (λ (d : Database). AreListed shows_variant every variants_cmp (tables_in d.trees).variants rows) (sym same) (listed (subst HasTables same has)), subst AreOpened shown opened)

-- what was read in turn of tables that stayed
pub register_found : (c : ClusterFile) (old mid new : Database) (n : ℤ) → mid ≡ old → new ≡ mid → n ≡ our_schema_number → HasTables new → (HasSomeTables old → HasNumber old n)
    → (HasTables mid → (tables_in mid.trees).cluster2 ≡ cluster2_row c.cluster.params c.cluster.integrator ∷ []) → (HasTables mid → IsPermutation (map supplier_row c.suppliers) (tables_in mid.trees).suppliers) → IsRegisterOf c new
register_found c old mid new n first second ours has number cluster suppliers =
    subst (IsRegisterOf c) (sym second) (record {
      has = has_mid;
      tells = record {
        register = its_number.number;
        cluster2 = cluster has_mid;
        suppliers = suppliers has_mid;
      };
    })
  where
    has_mid : HasTables mid
    has_mid = subst HasTables second has

    its_number : HasNumber mid our_schema_number
    its_number = subst (λ (p : Database × ℤ). HasNumber p.0 p.1) (λ i. (sym first i, ours i)) (number (inl (subst HasTables first has_mid)))

-- what was asked in turn, inside a transaction, of tables that make a register is what an open wants
pub openable : (old a b new : State) (f : ClusterFile) (cluster suppliers variants : List Row) → HasTables old.now → (tables_of old).register ≡ numbered our_schema_number ∷ []
    → AreListed shows_cluster2 every any_order (tables_of old).cluster2 cluster → IsUnchanged old a
    → AreListed shows_supplier every suppliers_cmp (tables_of a).suppliers suppliers → IsUnchanged a b
    → AreListed shows_variant every variants_cmp (tables_of b).variants variants → IsUnchanged b new
    → cluster ≡ shows_cluster2 (cluster2_row f.cluster.params f.cluster.integrator) ∷ [] → suppliers ≡ map shown_supplier f.suppliers
    → AreOpened (map variant_shown variants) → IsWellFormed f → IsOpenable new.now
openable old a b new f cluster suppliers variants has number first same_a second same_b third same_new row list opened formed =
    let at_a = same_tables old a same_a in
    let at_b = same_tables a b same_b ∙ at_a in
    let listed = subst (λ (t : Tables). AreListed shows_supplier every suppliers_cmp t.suppliers suppliers) at_a second in
    let there = subst (λ (t : Tables). AreListed shows_variant every variants_cmp t.variants variants) at_b third in
    let as_then : new.now ≡ old.now = same_new.0.now_is ∙ same_b.0.now_is ∙ same_a.0.now_is in
    subst IsOpenable (sym as_then) (record {
      file = f;
      formed = formed;
      is = record {
        has = has;
        tells = record {
          register = number;
          cluster2 = one_cluster (tables_of old).cluster2 cluster (Some f) first row;
          suppliers = all_suppliers (tables_of old).suppliers suppliers (Some f) listed list;
        };
      };
      variants = (variants, there, opened);
    })
