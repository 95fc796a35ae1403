-- What a query shows of the register: the cluster with its suppliers, the variants, and the nodes.
use Rattle.std.proofs.Common.{◌≡◌, ℕ, ◌≤◌, Bool, true, false, cond, List, [], ◌∷◌, ◌++◌, length, map, filter, take, Some, Result, Ok, Err, refl, sym, ap, subst, ◌∙◌, inl, inr, append_assoc, append-nil, is_some, IsTrue}
use Rattle.std.specs.List.{flat_map}
use Rattle.std.proofs.lemmas.Grind.{flat_map-append}
use Rattle.std.proofs.lemmas.List.{take_all}
use Rattle.std.specs.Prelude.{⊤, Vec}
use Rattle.std.specs.declared.alloc.Global.{Global}
use Rattle.fr_base.specs.Book.{Book, is_of, listed, file_of, own}
use Rattle.fr_base.specs.Cluster.{Cluster}
use Rattle.fr_base.specs.Keys.{owned}
use Rattle.fr_base.specs.Names.{same_text}
use Rattle.fr_base.specs.Queries.{cluster_of, figures, found, held, node_row, nodes_of, reply, variants_of}
use Rattle.fr_base.specs.Seen.{seen_nodes, seen_suppliers}
use Rattle.fr_base.specs.Checks.{is_integrator}
use Rattle.fr_base.specs.Refusing.{◌>>=◌}
use Rattle.fr_base.specs.Sound.{IsSound}
use Rattle.fr_base.specs.Tables.{get, only}
use Rattle.fr_base.specs.declared.actor.Actor.{Actor}
use Rattle.fr_base.specs.declared.actor.Actor.TheVariants.{Integrator, Supplier}
use Rattle.fr_base.specs.declared.answer.Answer.{Answer}
use Rattle.fr_base.specs.declared.answer.Answer.TheVariants as answer
use Rattle.fr_base.specs.declared.answer.ClusterRow.{ClusterRow}
use Rattle.fr_base.specs.declared.answer.ClusterRow.TheVariants as cluster
use Rattle.fr_base.specs.declared.answer.NodeRow.{NodeRow}
use Rattle.fr_base.specs.declared.answer.ReportRows.{ReportRows}
use Rattle.fr_base.specs.declared.answer.ReportRows.TheVariants as shows
use Rattle.fr_base.specs.declared.answer.VariantRow.{VariantRow}
use Rattle.fr_base.specs.declared.key.Key.{Key}
use Rattle.fr_base.specs.declared.name.Name.{Name}
use Rattle.fr_base.specs.declared.query.Inventory.{Inventory}
use Rattle.fr_base.specs.declared.query.Inventory.TheVariants as asked
use Rattle.fr_base.specs.declared.query.Query.{Query}
use Rattle.fr_base.specs.declared.query.Query.TheVariants.{Register as OfRegister}
use Rattle.fr_base.specs.declared.refusal.Refusal.{Refusal}
use Rattle.fr_base.proofs.SoundRows.{same_text-is}
use Rattle.fr_world.specs.Held.{Standing, Tells}
use Rattle.fr_world.specs.BookEdits.{variants_in}
use Rattle.fr_world.specs.Pages.{nodes_in}
use Rattle.fr_world.proofs.AmongLaws.{In}
use Rattle.fr_world.proofs.ApartLaws.{In-find}
use Rattle.fr_office.specs.Carried.{Replies}
use Rattle.fr_office.specs.Shown.{Sees, cluster_told, node_of, sees, seen_names, supplier_told}
use Rattle.fr_office.proofs.ShownLaws.{flat-map}
use Rattle.fr_office.proofs.SplitLaws.{among_names, map-flat_map, split, supplier_names}

-- ---- the cluster

all_told : (rows : List (Name × Key)) → flat_map (supplier_told Integrator) (map listed rows) ≡ map (λ e. cluster.Supplier e.0) rows
all_told [] = refl
all_told (e ∷ es) = ap (λ rest. cluster.Supplier e.0 ∷ rest) (all_told es)

itself_told : (s : Name) (rows : List (Name × Key)) → flat_map (supplier_told (Supplier s)) (map listed rows) ≡ map (λ e. cluster.Supplier e.0) (filter (λ e. same_text e.0 s) rows)
itself_told s [] = refl
itself_told s (e ∷ es) = by_test (same_text e.0 s) (itself_told s es)
  where
    by_test : (b : Bool) → flat_map (supplier_told (Supplier s)) (map listed es) ≡ map (λ e. cluster.Supplier e.0) (filter (λ e. same_text e.0 s) es)
        → cond b (cluster.Supplier e.0 ∷ []) [] ++ flat_map (supplier_told (Supplier s)) (map listed es)
        ≡ map (λ (e : Name × Key). cluster.Supplier e.0) (cond b (e ∷ filter (λ e. same_text e.0 s) es) (filter (λ e. same_text e.0 s) es))
    by_test true rest = ap (λ more. cluster.Supplier e.0 ∷ more) rest
    by_test false rest = rest

-- what is told by a cluster file that says what the book has
pub cluster-told : (c : Cluster) (b : Book) (actor : Actor) → cluster_told (file_of c b) actor ≡ cluster_of c.params (seen_suppliers actor b.suppliers)
unfolding cluster_of only
cluster-told c b Integrator = ap (λ more. figures c.params ++ more) (all_told b.suppliers.rows)
cluster-told c b (Supplier s) = ap (λ more. figures c.params ++ more) (itself_told s b.suppliers.rows)

-- suppliers so far, and one more
pub told_more : (actor : Actor) (figures rows all : List ClusterRow) (one : List ClusterRow) (before : List _) (s : _) →
    rows ≡ figures ++ flat_map (supplier_told actor) before → all ≡ rows ++ one → one ≡ supplier_told actor s
    → all ≡ figures ++ flat_map (supplier_told actor) (before ++ s ∷ [])
told_more actor figures rows all one before s so more is =
    more ∙ ap (λ r. r ++ one) so ∙ ap (λ o. (figures ++ flat_map (supplier_told actor) before) ++ o) is
    ∙ append_assoc figures (flat_map (supplier_told actor) before) (supplier_told actor s)
    ∙ ap (λ more. figures ++ more)
    (ap (λ last. flat_map (supplier_told actor) before ++ last) (sym (append-nil (supplier_told actor s))) ∙ sym (flat_map-append (supplier_told actor) before (s ∷ [])))

-- ---- the nodes

-- a supplier's own nodes, by their names
nodes-own : (s : Name) (rows : List ((Name × Name) × ⊤)) → map node_row (filter (λ e. is_of s e.0) rows) ≡ map (node_of s) (map (λ e. e.0.1) (filter (λ e. is_of s e.0) rows))
nodes-own s [] = refl
nodes-own s (e ∷ es) = by_test (same_text e.0.0 s) refl (nodes-own s es)
  where
    by_test : (b : Bool) → same_text e.0.0 s ≡ b → map node_row (filter (λ e. is_of s e.0) es) ≡ map (node_of s) (map (λ e. e.0.1) (filter (λ e. is_of s e.0) es))
        → map node_row (cond b (e ∷ filter (λ e. is_of s e.0) es) (filter (λ e. is_of s e.0) es))
        ≡ map (node_of s) (map (λ (e : (Name × Name) × ⊤). e.0.1) (cond b (e ∷ filter (λ e. is_of s e.0) es) (filter (λ e. is_of s e.0) es)))
    by_test true same rest = (λ i. node_of (same_text-is e.0.0 s same i) e.0.1 ∷ rest i)
    by_test false other rest = rest

pub own_nodes : (b : Book) (s : Name) → map (node_of s) (nodes_in b s) ≡ nodes_of (own s b.nodes)
unfolding nodes_in nodes_of only
own_nodes b s = sym (nodes-own s b.nodes.rows)

-- The records stand for the same book as before, and these are the nodes of these suppliers.
abbrev pub AreNodes : Standing → Standing → List NodeRow → List Name → Type 0
AreNodes old now rows suppliers = (c : Cluster) (b : Book) → old c b → now c b × (rows ≡ flat_map (λ s. nodes_of (own s b.nodes)) suppliers)

-- before the first
pub nodes-none : (old : Standing) (rows : List NodeRow) → rows ≡ [] → AreNodes old old rows []
nodes-none old rows none c b stood = (stood, none)

-- one supplier more
pub nodes-more : (old mid new : Standing) (s : Name) (before after : List Name) (rows all : List NodeRow) (told : Vec Name Global) →
    AreNodes old mid rows before → Tells mid new (Ok told) (λ c b told. told.items ≡ nodes_in b s) → all ≡ rows ++ map (node_of s) told.items → after ≡ before ++ s ∷ []
    → AreNodes old new all after
nodes-more old mid new s before after rows all told so tells more is c b stood =
    let first = so c b stood in
    let next = tells c b first.0 in (
      next.0,
      more
          ∙ (λ i. first.1 i ++ map (node_of s) (next.1 i))
          ∙ ap (λ last. flat_map (λ s. nodes_of (own s b.nodes)) before ++ last) (own_nodes b s ∙ sym (append-nil (nodes_of (own s b.nodes))))
          ∙ sym (flat_map-append (λ s. nodes_of (own s b.nodes)) before (s ∷ []))
          ∙ ap (flat_map (λ s. nodes_of (own s b.nodes))) (sym is),
    )

-- after the last
pub nodes-all : (old new : Standing) (i : ℕ) (suppliers : List Name) (rows : List NodeRow) → length suppliers ≤ i → AreNodes old new rows (take i suppliers)
    → Tells old new (Ok rows) (λ c b rows. rows ≡ flat_map (λ s. nodes_of (own s b.nodes)) suppliers)
nodes-all old new i suppliers rows last so c b stood =
    let told = so c b stood in
    (told.0, told.1 ∙ ap (flat_map (λ s. nodes_of (own s b.nodes))) (take_all i suppliers last))

-- in a sound book the nodes are those of the suppliers, one supplier after another
nodes-split : (c : Cluster) (b : Book) → IsSound c b → flat_map (λ s. nodes_of (own s b.nodes)) (supplier_names b) ≡ nodes_of b.nodes
unfolding nodes_of only get
nodes-split c b sound =
    map-flat_map node_row (λ s. (own s b.nodes).rows) (supplier_names b)
    ∙ ap (map node_row) (flat-map (λ s. (own s b.nodes).rows) (λ (e : Name × Key). e.0) b.suppliers.rows
    ∙ split b.nodes.rows b.suppliers.rows b.nodes.sorted b.suppliers.sorted known)
  where
    known : (e : (Name × Name) × ⊤) → In e b.nodes.rows → In e.0.0 (supplier_names b)
    known e i = among_names b e.0.0 (sound.nodes e.0.0 e.0.1 (there e (In-find owned b.nodes.rows e b.nodes.sorted i))).1
      where
        there : (e : (Name × Name) × ⊤) → get b.nodes e.0 ≡ Some e.1 → IsTrue (is_some (get b.nodes e.0))
        there e is = ap is_some is

-- those of the suppliers whom the actor sees are what it sees
nodes-seen : (c : Cluster) (b : Book) → IsSound c b → (actor : Actor) → flat_map (λ s. nodes_of (own s b.nodes)) (seen_names actor b) ≡ nodes_of (seen_nodes actor b.nodes)
unfolding seen_names
nodes-seen c b sound Integrator = nodes-split c b sound
nodes-seen c b sound (Supplier s) = append-nil (nodes_of (own s b.nodes))

pub sees-nodes : (old new : Standing) (actor : Actor) (suppliers : List Name) (r : Result (List NodeRow) Refusal) → ((c : Cluster) (b : Book) → old c b → suppliers ≡ seen_names actor b)
    → Tells old new r (λ c b rows. rows ≡ flat_map (λ s. nodes_of (own s b.nodes)) suppliers)
    → Sees (λ c b rows. rows ≡ nodes_of (seen_nodes actor b.nodes)) old new r
sees-nodes old new actor suppliers (Ok rows) known tells c b stood sound =
    let told = tells c b stood in
    (told.0, told.1 ∙ ap (flat_map (λ s. nodes_of (own s b.nodes))) (known c b stood) ∙ nodes-seen c b sound actor)
sees-nodes old new actor suppliers (Err e) known tells c b stood sound = tells c b stood

-- ---- the rows of the answer

module _ (old new : Standing) (actor : Actor) where
  pub holds-cluster : (rows : List ClusterRow) → ((c : Cluster) (b : Book) → old c b → new c b × (rows ≡ cluster_told (file_of c b) actor))
      → Replies (λ c b. Ok (held c.params b actor asked.Cluster)) old new (Ok (shows.Cluster rows))
  unfolding held
  holds-cluster rows told c b stood sound =
      let is = told c b stood in
      (is.0, ap (λ rs. Ok (shows.Cluster rs)) (sym (is.1 ∙ cluster-told c b actor)))

  pub holds-variants : (rows : List VariantRow) → Tells {X = List VariantRow} old new (Ok rows) (λ c b rows. rows ≡ variants_in b)
      → Replies (λ c b. Ok (held c.params b actor asked.Variants)) old new (Ok (shows.Variants rows))
  unfolding held variants_of variants_in
  holds-variants rows tells c b stood sound =
      let told = tells c b stood in
      (told.0, ap (λ rs. Ok (shows.Variants rs)) (sym told.1))

  pub holds-nodes : (rows : List NodeRow) → Sees (λ c b rows. rows ≡ nodes_of (seen_nodes actor b.nodes)) old new (Ok rows)
      → Replies (λ c b. Ok (held c.params b actor asked.Nodes)) old new (Ok (shows.Nodes rows))
  unfolding held
  holds-nodes rows sees c b stood sound =
      let told = sees c b stood sound in
      (told.0, ap (λ rs. Ok (shows.Nodes rs)) (sym told.1))

-- ---- the answer

module _ (old new : Standing) (actor : Actor) where
  pub found-held : (inventory : Inventory) (r : Result ReportRows Refusal) → Replies (λ c b. Ok (held c.params b actor inventory)) old new r
      → Replies (λ c b. found c.params b actor (OfRegister inventory)) old new r
  unfolding found
  found-held inventory r replies = replies

  pub reply-found : (query : Query Name ℕ) (rows : ReportRows) → Replies (λ c b. found c.params b actor query) old new (Ok rows)
      → Replies (λ c b. reply c.params b actor query) old new (Ok (answer.Report (is_integrator actor) rows))
  unfolding reply ◌>>=◌
  reply-found query rows replies c b stood sound =
      let told = replies c b stood sound in
      (told.0, ap (λ r. r >>= (λ rows. Ok (answer.Report (is_integrator actor) rows))) told.1)

  pub reply-refused : (query : Query Name ℕ) (e : Refusal) (r : Result Answer Refusal) → r ≡ Err e → Replies {A = ReportRows} (λ c b. found c.params b actor query) old new (Err e)
      → Replies (λ c b. reply c.params b actor query) old new r
  unfolding reply ◌>>=◌
  reply-refused query e r is replies = subst (λ r. Replies (λ c b. reply c.params b actor query) old new r) (sym is) (λ c b stood sound.
      let told = replies c b stood sound in (
        told.0,
        elim told.1 [
          | inl lacks ↦ inl lacks
          | inr said ↦ inr (ap (λ r. r >>= (λ rows. Ok (answer.Report (is_integrator actor) rows))) said)
        ],
      ))
