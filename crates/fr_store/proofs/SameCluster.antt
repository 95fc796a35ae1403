-- Tables tell of one cluster alone.
use Rattle.std.proofs.Common.{◌≡◌, ◌∙◌, suc, zero, Some, List, [], ◌∷◌, map, Ordering, Less, is_lt, arith, add-one, refl, sym, ap, IsPermutation, IsSorted}
use Rattle.std.specs.Ordering.{on, ordering_reverse}
use Rattle.std.specs.Cmp.{IsTotalOrder, on_total}
use Rattle.std.proofs.lemmas.List.Sorted.{IsPermutation-sym, IsPermutation-trans, IsPermutation-map}
use Rattle.sqlite_trees.specs.Tree.{IsAscending}
use Rattle.sqlite_keyed.proofs.SortLemmas.{sorted_unique}
use Rattle.fr_base.specs.Tables.{Order, Table}
use Rattle.fr_base.specs.Keys.{names}
use Rattle.fr_base.specs.Channels.{text_of_channels, channels_of_text}
use Rattle.fr_base.specs.Cluster.{Cluster, ClusterFile, IsWellFormed}
use Rattle.fr_base.specs.Book.{Book, suppliers_of, listed, file_of}
use Rattle.fr_base.specs.declared.channel.Channels.{Channels}
use Rattle.fr_base.specs.declared.channel.Channels.TheVariants as channels
use Rattle.fr_base.specs.declared.config.Supplier.{Supplier}
use Rattle.fr_base.specs.declared.name.Name.{Name}
use Rattle.fr_base.specs.declared.key.Key.{Key}
use Rattle.fr_base.specs.declared.params.RawParams.{RawParams}
use Rattle.fr_base.proofs.SuppliersLaws.{row, supplier_rows}
use Rattle.fr_base.proofs.SoundTables.{same_some}
use Rattle.fr_tables.specs.Rows.{SupplierRow}
use Rattle.fr_tables.specs.Tables.{Tables}
use Rattle.fr_tables.specs.Filling.{supplier_row}
use Rattle.fr_tables.specs.Statements.{cluster2_row}
use Rattle.fr_store.specs.Store.{TellsOf}
use Rattle.fr_store.specs.StandsFor.{StandsFor}
use Rattle.fr_store.proofs.OrderLemmas.{rises}

-- what rises is in order
in_order : {X : Type 0} (cmp : X → X → Ordering) → IsTotalOrder cmp → (xs : List X) → IsAscending (λ a b. cmp a b ≡ Less) xs → IsSorted cmp xs
in_order cmp total [] up k d low high = absurd (omega arith)
in_order cmp total (x ∷ []) up k d low high = absurd (omega arith)
in_order cmp total (x ∷ y ∷ xs) up zero d low high = ap is_lt (total.antisymm y x ∙ ap ordering_reverse up.0.0)
in_order cmp total (x ∷ y ∷ xs) up (suc k) d low high = rw add-one (rw add-one at (in_order cmp total (y ∷ xs) up.1 k d (omega arith) (omega arith)))

-- the rows of a table have one order
one_order : {K V : Type 0} (o : Order K) (s t : Table o V) → IsPermutation s.rows t.rows → s.rows ≡ t.rows
one_order o s t same =
    let total = on_total (λ e. e.0) o.total in
    sym (sorted_unique (on (λ e. e.0) o.compare) total s.rows t.rows (rises o s) same (in_order _ total t.rows (rises o t)))

abbrev entry : SupplierRow → Name × Key
entry r = (r.name, r.key)

entries : (ss : List Supplier) → map entry (map supplier_row ss) ≡ map row ss
entries [] = refl
entries (s ∷ ss) = ap (λ es. row s ∷ es) (entries ss)

entries_of : (es : List (Name × Key)) → map entry (map supplier_row (map listed es)) ≡ es
entries_of [] = refl
entries_of (e ∷ es) = ap (λ rest. e ∷ rest) (entries_of es)

relisted : (ss : List Supplier) → map listed (map row ss) ≡ ss
relisted [] = refl
relisted (s ∷ ss) = ap (λ rest. s ∷ rest) (relisted ss)

-- the suppliers of a cluster file are the book's, where the rows are those of both
same_suppliers : (f : ClusterFile) → IsWellFormed f → (b : Book) (rows : List SupplierRow) → IsPermutation (map supplier_row f.suppliers) rows → IsPermutation (map supplier_row (map listed b.suppliers.rows)) rows → f.suppliers ≡ map listed b.suppliers.rows
same_suppliers f good b rows of_f of_b =
    let same = IsPermutation-map entry _ _ (IsPermutation-trans _ _ _ of_f (IsPermutation-sym _ _ of_b)) in
    let in_rows : IsPermutation (suppliers_of f).rows b.suppliers.rows = rw (supplier_rows f good.cluster) (rw (entries f.suppliers, entries_of b.suppliers.rows) at same) in
    sym (relisted f.suppliers) ∙ ap (map listed) (sym (supplier_rows f good.cluster) ∙ one_order names (suppliers_of f) b.suppliers in_rows)

read_back : (a : Channels) → channels_of_text (text_of_channels a) ≡ Some a
read_back channels.A = refl
read_back channels.AB = refl
read_back channels.B = refl

same_channels : (a b : Channels) → text_of_channels a ≡ text_of_channels b → a ≡ b
same_channels a b is = same_some a b (sym (read_back a) ∙ ap channels_of_text is ∙ read_back b)

same_params : (p q : RawParams) (m n : Key) → cluster2_row p m ≡ cluster2_row q n → p ≡ q
same_params p q m n is =
    let e0 : p.channels ≡ q.channels = same_channels p.channels q.channels (ap (λ r. r.channels) is) in
    let e1 : p.static_slots ≡ q.static_slots = cc (ap (λ r. r.static_slots) is) in
    let e2 : p.slot_macroticks ≡ q.slot_macroticks = cc (ap (λ r. r.slot_macroticks) is) in
    let e3 : p.dynamic_macroticks ≡ q.dynamic_macroticks = cc (ap (λ r. r.dynamic_macroticks) is) in
    let e4 : p.symbol_macroticks ≡ q.symbol_macroticks = cc (ap (λ r. r.symbol_macroticks) is) in
    let e5 : p.idle_macroticks ≡ q.idle_macroticks = cc (ap (λ r. r.idle_macroticks) is) in
    let e6 : p.macroticks_per_cycle ≡ q.macroticks_per_cycle = cc (ap (λ r. r.macroticks_per_cycle) is) in
    let e7 : p.payload_words ≡ q.payload_words = cc (ap (λ r. r.payload_words) is) in
    let e8 : p.cycles ≡ q.cycles = cc (ap (λ r. r.cycles) is) in
    λ i. record {
      channels = e0 i;
      static_slots = e1 i;
      slot_macroticks = e2 i;
      dynamic_macroticks = e3 i;
      symbol_macroticks = e4 i;
      idle_macroticks = e5 i;
      macroticks_per_cycle = e6 i;
      payload_words = e7 i;
      cycles = e8 i;
    }

-- a cluster file of which the tables tell is that of the cluster and the book for which they stand
pub same_file : (f : ClusterFile) (c : Cluster) (b : Book) (t : Tables) → IsWellFormed f → TellsOf f t → StandsFor t c b → f ≡ file_of c b
same_file f c b t good tells stands =
    let one : cluster2_row f.cluster.params f.cluster.integrator ≡ cluster2_row c.params c.integrator = cc (sym tells.cluster2 ∙ stands.heads.params) in
    let params = same_params f.cluster.params c.params f.cluster.integrator c.integrator one in
    let integrator : f.cluster.integrator ≡ c.integrator = ap (λ r. r.integrator) one in
    let suppliers = same_suppliers f good b t.suppliers tells.suppliers stands.rows.suppliers in
    λ i. record { cluster = record { params = params i; integrator = integrator i }; suppliers = suppliers i }
