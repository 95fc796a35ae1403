-- A change of one table's rows is a change of the tables.
use Rattle.std.proofs.Common.{◌≡◌, ◌≢◌, ◌==◌, ◌<◌, ◌≤◌, inl, inr, ℕ, Bool, true, false, List, [], ◌∷◌, map, MatchBool, arith, refl, sym, ap, subst, ◌∙◌, if◌then◌else◌}
use Rattle.std.specs.Bool.{⊤}
use Rattle.std.specs.List.{AllByRecursion}
use Rattle.std.proofs.lemmas.Bool.{cases_Bool}
use Rattle.std.proofs.lemmas.Bool.Decides.{nat_tests}
use Rattle.sqlite.specs.Order.{Row}
use Rattle.sqlite.specs.Table.{Table}
use Rattle.sqlite.specs.Tree.{Trees}
use Rattle.sqlite.specs.State.{State, Shows}
use Rattle.sqlite_catalog.specs.Listing.{IsSound}
use Rattle.fr_tables.specs.Schema.{Layout, IsBehind, register_schema, layout_of}
use Rattle.fr_tables.specs.Rows.{of_register, of_cluster, of_supplier, of_node, of_variant, of_grant, of_frame, of_placement, of_signal, of_import, of_dropped, of_cluster2, register_in, cluster_in, supplier_in, node_in, variant_in, grant_in, frame_in, placement_in, signal_in, import_in, dropped_in, cluster2_in}
use Rattle.fr_tables.specs.Tables.{Tables, HasTables, AreKept, tables_in}
use Rattle.fr_tables.specs.Changes.{Changes, tables_of}
use Rattle.fr_tables.proofs.Written.{IsStill, WritesTo, AreMade}
use Rattle.fr_tables.proofs.LayoutLemmas.{layout_listed}
use Rattle.fr_tables.proofs.BehindLemmas.{last_of}

pub same : {X : Type 0} (columns : X → Row) (read : Row → X) (before after : List Row) → after ≡ before → AreKept columns read before → AreMade columns read after (map read before)
same columns read before after is kept = record { kept = subst (AreKept columns read) (sym is) kept; values_are = ap (map read) is }

-- what stays, as a list of the trees that are written out
pub others : (tree : ℕ) (db next : Trees) (ts : List Table) → AllByRecursion (λ t. t.tree ≢ tree → next t.tree ≡ db t.tree) ts
    → AllByRecursion (λ t. MatchBool (t.tree == tree) ⊤ (next t.tree ≡ db t.tree)) ts
others tree db next [] h = tt
others tree db next (t ∷ ts) h = (
  elim (cases_Bool (t.tree == tree)) [ inl is ↦ rw is tt | inr other ↦ rw other (h.0 (grind (arith, nat_tests))) ],
  others tree db next ts h.1,
)

-- the tree of `cluster2` is none of the others
pub apart : (tree at : ℕ) → 20 < tree → at ≤ 20 → (tree == at) ≡ false
apart tree at after low = grind (arith, nat_tests)

pub apart_back : (tree at : ℕ) → 20 < tree → at ≤ 20 → (at == tree) ≡ false
apart_back tree at after low = grind (arith, nat_tests)

pub itself : (tree : ℕ) → (tree == tree) ≡ true
itself tree = grind (arith, nat_tests)

pub unlike : {b : Bool} {Q : Type 0} (P : Type 0) → b ≡ false → Q → MatchBool b P Q
unlike P is q = rw is q

pub alike : {b : Bool} {P : Type 0} (Q : Type 0) → b ≡ true → P → MatchBool b P Q
alike Q is p = rw is p

-- the tables, where it is known where `cluster2` stands
tables_there : (db : Trees) (l : Layout) → layout_of db ≡ l → tables_in db ≡ record (tables_in db) { cluster2 = map cluster2_in (db l.cluster2) }
tables_there db l is i = record (tables_in db) { cluster2 = map cluster2_in (db (is i).cluster2) }

module _ (old new : State) where
  abbrev next : Trees
  next = new.now.trees

  -- where `cluster2` and the index stand
  abbrev pub stood : Layout
  stood = layout_of old.now.trees

  pub whole : (after : Tables) → HasTables old.now → IsStill (register_schema stood) new.now → Shows old new new.now (if old.in_transaction then old.committed else new.now) old.in_transaction
      → AreMade of_register register_in (next 0) after.register
      → AreMade of_cluster cluster_in (next 1) after.cluster
      → AreMade of_supplier supplier_in (next 2) after.suppliers
      → AreMade of_node node_in (next 5) after.nodes
      → AreMade of_variant variant_in (next 7) after.variants
      → AreMade of_grant grant_in (next 9) after.grants
      → AreMade of_frame frame_in (next 11) after.frames
      → AreMade of_placement placement_in (next 13) after.placements
      → AreMade of_signal signal_in (next 15) after.signals
      → AreMade of_import import_in (next 17) after.imports
      → AreMade of_dropped dropped_in (next 19) after.dropped
      → AreMade of_cluster2 cluster2_in (next stood.cluster2) after.cluster2
      → (change : Tables → Tables) → after ≡ change (tables_of old) → Changes change old new
  whole after was still shown a b c d e f g h i j k l change is =
      let placed : layout_of next ≡ stood = layout_listed next stood (subst (λ s. IsSound s next) still.is still.sound).lists.listed in
      record {
        has = record {
          schema = still.is ∙ ap register_schema (sym placed);
          behind = subst IsBehind (sym placed) was.behind;
          register = a.kept;
          cluster = b.kept;
          suppliers = c.kept;
          nodes = d.kept;
          variants = e.kept;
          grants = f.kept;
          frames = g.kept;
          placements = h.kept;
          signals = i.kept;
          imports = j.kept;
          dropped = k.kept;
          cluster2 = subst (λ (x : Layout). AreKept of_cluster2 cluster2_in (next x.cluster2)) (sym placed) l.kept;
        };
        now = tables_there next stood placed ∙ (λ z. record {
          register = a.values_are z;
          cluster = b.values_are z;
          suppliers = c.values_are z;
          nodes = d.values_are z;
          variants = e.values_are z;
          grants = f.values_are z;
          frames = g.values_are z;
          placements = h.values_are z;
          signals = i.values_are z;
          imports = j.values_are z;
          dropped = k.values_are z;
          cluster2 = l.values_are z;
        }) ∙ is;
        schema = still.is ∙ sym was.schema;
        shown = shown;
      }

  -- ---- only the table of one tree is written

  -- the rows of a table then: of the one that is written those that were made, and of another those of before
  abbrev pub Becomes : ℕ → ℕ → {X : Type 0} → (X → Row) → (Row → X) → List X → Type 0
  Becomes tree at columns read values = MatchBool (at == tree) (AreMade columns read (next at) values) (values ≡ map read (old.now.trees at))

  becomes : (tree at : ℕ) → {X : Type 0} (columns : X → Row) (read : Row → X) (values : List X) → Becomes tree at columns read values → (at ≢ tree → next at ≡ old.now.trees at)
      → AreKept columns read (old.now.trees at) → AreMade columns read (next at) values
  becomes tree at columns read values h stays kept = elim (cases_Bool (at == tree)) [
    | inl is ↦ rw is at h
    | inr other ↦ subst (AreMade columns read (next at)) (sym (rw other at h)) (same columns read (old.now.trees at) (next at) (stays (grind (arith, nat_tests))) kept)
  ]

  pub record BecomeAll (tree : ℕ) (after : Tables) : Type 0 where
    pub register : Becomes tree 0 of_register register_in after.register
    pub cluster : Becomes tree 1 of_cluster cluster_in after.cluster
    pub suppliers : Becomes tree 2 of_supplier supplier_in after.suppliers
    pub nodes : Becomes tree 5 of_node node_in after.nodes
    pub variants : Becomes tree 7 of_variant variant_in after.variants
    pub grants : Becomes tree 9 of_grant grant_in after.grants
    pub frames : Becomes tree 11 of_frame frame_in after.frames
    pub placements : Becomes tree 13 of_placement placement_in after.placements
    pub signals : Becomes tree 15 of_signal signal_in after.signals
    pub imports : Becomes tree 17 of_import import_in after.imports
    pub dropped : Becomes tree 19 of_dropped dropped_in after.dropped
    pub cluster2 : Becomes tree stood.cluster2 of_cluster2 cluster2_in after.cluster2

  module _ (was : HasTables old.now) where
    -- a change of the rows in one tree is a change of the tables
    pub written : (tree : ℕ) → WritesTo (register_schema stood) tree old new → (change : Tables → Tables) → BecomeAll tree (change (tables_of old)) → Changes change old new
    written tree w change b =
        let k = w.others in
        let after = change (tables_of old) in
        whole after was w.still w.shown
        (becomes tree 0 of_register register_in after.register b.register k.0 was.register)
        (becomes tree 1 of_cluster cluster_in after.cluster b.cluster k.1.0 was.cluster)
        (becomes tree 2 of_supplier supplier_in after.suppliers b.suppliers k.1.1.0 was.suppliers)
        (becomes tree 5 of_node node_in after.nodes b.nodes k.1.1.1.0 was.nodes)
        (becomes tree 7 of_variant variant_in after.variants b.variants k.1.1.1.1.0 was.variants)
        (becomes tree 9 of_grant grant_in after.grants b.grants k.1.1.1.1.1.0 was.grants)
        (becomes tree 11 of_frame frame_in after.frames b.frames k.1.1.1.1.1.1.0 was.frames)
        (becomes tree 13 of_placement placement_in after.placements b.placements k.1.1.1.1.1.1.1.0 was.placements)
        (becomes tree 15 of_signal signal_in after.signals b.signals k.1.1.1.1.1.1.1.1.0 was.signals)
        (becomes tree 17 of_import import_in after.imports b.imports k.1.1.1.1.1.1.1.1.1.0 was.imports)
        (becomes tree 19 of_dropped dropped_in after.dropped b.dropped k.1.1.1.1.1.1.1.1.1.1.0 was.dropped)
        (becomes tree stood.cluster2 of_cluster2 cluster2_in after.cluster2 b.cluster2 (last_of _ stood k.1.1.1.1.1.1.1.1.1.1.1) was.cluster2)
        change refl
