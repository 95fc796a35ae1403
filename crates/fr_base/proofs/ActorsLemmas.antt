-- Where a list is the book's suppliers, who asks with a key is found in it.
use Rattle.std.proofs.Common.{◌≡◌, ℕ, Bool, true, false, cond, List, [], ◌∷◌, map, find, Option, Some, None, is_some, IsTrue, IfSome, refl, sym, ap, ◌∙◌}
use Rattle.std.specs.Ordering.{nat_cmp, is_eq}
use Rattle.std.specs.Option.{option_map}
use Rattle.std.specs.Cmp.Lexicographic.{slice_cmp, nat_list_cmp_total}
use Rattle.std.specs.FinMap.Entries as entries
use Rattle.std.specs.Cmp.{tied_itself}
use Rattle.fr_base.specs.Keys.{names}
use Rattle.fr_base.specs.Cluster.{Cluster, ClusterFile}
use Rattle.fr_base.specs.Names.{same_text}
use Rattle.fr_base.specs.Book.{Book, listed, file_of}
use Rattle.fr_base.specs.Actors.{actor_of}
use Rattle.fr_base.specs.Step.{knows}
use Rattle.fr_base.specs.Tables.{get}
use Rattle.fr_base.specs.declared.actor.Actor.TheVariants as actor
use Rattle.fr_base.specs.declared.config.Supplier.{Supplier}
use Rattle.fr_base.specs.declared.key.Key.{Key}
use Rattle.fr_base.specs.declared.name.Name.{Name}
use Rattle.fr_base.proofs.SoundTables.{same_some}

abbrev pub has_key : List ℕ → Supplier → Bool
has_key key s = same_text s.key key

-- who is found by key among the rows is found in the list of them
found_row : {A : Type 0} (f : Name → A) (key : List ℕ) (rows : List (Name × Key)) → option_map (λ s. f s.name) (find (has_key key) (map listed rows)) ≡ option_map (λ r. f r.0) (find (λ r. same_text r.1 key) rows)
found_row f key [] = refl
found_row f key (r ∷ rs) =
    elim (same_text r.1 key) as (λ b. option_map (λ t. f t.name) (cond b (Some (listed r)) (find (has_key key) (map listed rs))) ≡ option_map (λ r. f r.0) (cond b (Some r) (find (λ r. same_text r.1 key) rs))) [
      | true ↦ refl
      | false ↦ found_row f key rs
    ]

-- so who asks with a key that is not the integrator's is the supplier of the list that has it
pub listed_now : (c : Cluster) (b : Book) (f : ClusterFile) (key : List ℕ) → f ≡ file_of c b → same_text f.cluster.integrator key ≡ false →
    option_map (λ s. actor.Supplier s.name) (find (has_key key) f.suppliers) ≡ actor_of c b key
unfolding actor_of
listed_now c b f key same other =
    ap (λ (g : ClusterFile). option_map (λ s. actor.Supplier s.name) (find (has_key key) g.suppliers)) same
    ∙ found_row actor.Supplier key b.suppliers.rows
    ∙ sym (ap (λ t. cond t (Some actor.Integrator) (option_map (λ r. actor.Supplier r.0) (find (λ r. same_text r.1 key) b.suppliers.rows))) (sym (ap (λ (g : ClusterFile). same_text g.cluster.integrator key) same) ∙ other))

-- ---- who asks is there

-- what is there behind a first row is there
behind : {A : Type 0} (b : Bool) (x : A) (o : Option A) → IsTrue (is_some o) → IsTrue (is_some (cond b (Some x) o))
behind true x o h = refl
behind false x o h = h

-- a row that is found has its key among the rows
has_row : (p : Name × Key → Bool) (es : List (Name × Key)) (e : Name × Key) → find p es ≡ Some e → IsTrue (is_some (entries.find (slice_cmp nat_cmp) e.0 es))
has_row p [] e h = cc
has_row p (d ∷ ds) e h =
    elim (p d) as (λ b. cond b (Some d) (find p ds) ≡ Some e → IsTrue (is_some (cond (is_eq (slice_cmp nat_cmp e.0 d.0)) (Some d.1) (entries.find (slice_cmp nat_cmp) e.0 ds)))) [
      | true ↦ λ same. ap (λ r. is_some (cond (is_eq r) (Some d.1) (entries.find (slice_cmp nat_cmp) e.0 ds))) (ap (λ (x : Name × Key). slice_cmp nat_cmp e.0 x.0) (same_some d e same) ∙ tied_itself nat_list_cmp_total e.0)
      | false ↦ λ later. behind _ _ _ (has_row p ds e later)
    ] h

pub known : (c : Cluster) (b : Book) (key : List ℕ) → IfSome (actor_of c b key) (λ a. IsTrue (knows b a))
unfolding actor_of get names
known c b key =
    elim (same_text c.integrator key) as (λ t. IfSome (cond t (Some actor.Integrator) (option_map (λ r. actor.Supplier r.0) (find (λ r. same_text r.1 key) b.suppliers.rows))) (λ a. IsTrue (knows b a))) [
      | true ↦ refl
      | false ↦
          elim (find (λ r. same_text r.1 key) b.suppliers.rows) as (λ o. find (λ r. same_text r.1 key) b.suppliers.rows ≡ o → IfSome (option_map (λ r. actor.Supplier r.0) o) (λ a. IsTrue (knows b a))) [
            | None ↦ λ _. tt
            | Some r ↦ λ e. has_row (λ r. same_text r.1 key) b.suppliers.rows r e
          ] refl
    ]
