-- Whose a key is, it stays, until a SetKey that names its owner is done.
use Rattle.std.proofs.Common.{◌≡◌, ℕ, Bool, true, false, cond, ◌&&◌, List, [], ◌∷◌, find, Option, Some, None, is_some, refl, sym, ap, subst, ◌∙◌, Less, Equal, Greater, inl, inr, true≢false}
use Rattle.std.specs.Option.{option_map}
use Rattle.std.specs.Ordering.{is_eq}
use Rattle.std.specs.Cmp.{tied_itself}
use Rattle.std.specs.Cmp.Lexicographic.{nat_list_cmp_total}
use Rattle.std.specs.FinMap.Entries as entries
use Rattle.std.specs.FinMap.Entries.{put, by_order}
use Rattle.std.proofs.lemmas.Bool.{cases_Bool, or_parts}
use Rattle.fr_base.specs.Keys.{names}
use Rattle.fr_base.specs.Names.{same_text}
use Rattle.fr_base.specs.Tables.{get, contains, insert}
use Rattle.fr_base.specs.Cluster.{Cluster}
use Rattle.fr_base.specs.Book.{Book}
use Rattle.fr_base.specs.Actors.{actor_of}
use Rattle.fr_base.specs.Step.{has_key, step}
use Rattle.fr_base.specs.Alone.{is_done}
use Rattle.fr_base.specs.KeyLaws.{sets_key_of, KeyStays}
use Rattle.fr_base.specs.declared.key.Key.{Key}
use Rattle.fr_base.specs.declared.name.Name.{Name}
use Rattle.fr_base.specs.declared.actor.Actor.{Actor}
use Rattle.fr_base.specs.declared.actor.Actor.TheVariants.{Integrator, Supplier}
use Rattle.fr_base.specs.declared.request.Request.{Request}
use Rattle.fr_base.specs.declared.request.Request.TheVariants as request
use Rattle.fr_base.proofs.SoundTables.{same_some}
use Rattle.fr_base.proofs.SoundRows.{same_text-is}
use Rattle.fr_base.proofs.SuppliersLaws.{Row, R}
use Rattle.fr_base.proofs.AloneCells.{same_text-itself}
use Rattle.fr_base.proofs.SetKeyLaws.{has_key-owner}
use Rattle.fr_base.proofs.KnownSteps.{keyed_by, step-becomes}

-- ---- the row with a key, after another supplier has another key

-- the first row with the key
abbrev row_of : List ℕ → List Row → Option Row
row_of key es = find (λ row. same_text row.1 key) es

module _ (key : List ℕ) (row : Row) where
  -- its supplier is found by its name
  row-there : (es : List Row) → row_of key es ≡ Some row → is_some (entries.find R row.0 es) ≡ true
  row-there [] found = cc
  row-there (e ∷ es) found = elim (cases_Bool (same_text e.1 key)) [
    | inl here ↦
        let is : e ≡ row = same_some e row (sym (ap (λ t. cond t (Some e) (row_of key es)) here) ∙ found) in
        subst (λ (x : Row). is_some (entries.find R x.0 (e ∷ es)) ≡ true) is
        (ap (λ r. is_some (cond (is_eq r) (Some e.1) (entries.find R e.0 es))) (tied_itself nat_list_cmp_total e.0))
    | inr later ↦
        let rest = row-there es (sym (ap (λ t. cond t (Some e) (row_of key es)) later) ∙ found) in
        elim (is_eq (R row.0 e.0)) as (λ t. is_some (cond t (Some e.1) (entries.find R row.0 es)) ≡ true) [ true ↦ refl | false ↦ rest ]
  ]

  -- it stays where another supplier has another key
  row-stays : (t : Name) (k : Key) → (row.0 ≡ t → ⊥) → same_text k key ≡ false → (es : List Row) → row_of key es ≡ Some row → row_of key (put R t k es) ≡ Some row
  unfolding names
  row-stays t k other new [] found = cc
  row-stays t k other new (e ∷ es) found =
      elim (R t e.0) as (λ r. R t e.0 ≡ r → row_of key (by_order r ((t, k) ∷ e ∷ es) ((e.0, k) ∷ es) (e ∷ put R t k es)) ≡ Some row) [
        | Less ↦ λ is. ap (λ b. cond b (Some (t, k)) (row_of key (e ∷ es))) new ∙ found
        | Equal ↦ λ is. elim (cases_Bool (same_text e.1 key)) [
          | inl here ↦ absurd (other (sym (ap (λ (x : Row). x.0) (first_is here)) ∙ sym (names.exact t e.0 is)))
          | inr later ↦ ap (λ b. cond b (Some (e.0, k)) (row_of key es)) new ∙ further later
        ]
        | Greater ↦ λ is. elim (cases_Bool (same_text e.1 key)) [
          | inl here ↦ ap (λ b. cond b (Some e) (row_of key (put R t k es))) here ∙ ap Some (first_is here)
          | inr later ↦ ap (λ b. cond b (Some e) (row_of key (put R t k es))) later ∙ row-stays t k other new es (further later)
        ]
      ] refl
    where
      first_is : same_text e.1 key ≡ true → e ≡ row
      first_is here = same_some e row (sym (ap (λ b. cond b (Some e) (row_of key es)) here) ∙ found)

      further : same_text e.1 key ≡ false → row_of key es ≡ Some row
      further later = sym (ap (λ b. cond b (Some e) (row_of key es)) later) ∙ found

-- ---- whose a key is

-- the owner of a key, by whether it is the integrator's and by the row with it
abbrev owner : Bool → Option Row → Option Actor
owner own found = cond own (Some Integrator) (option_map (λ row. Supplier row.0) found)

-- the same key has the same owner where the row of a supplier stays
owner-stays : (own : Bool) (old new : Option Row) (actor : Actor) → owner own old ≡ Some actor →
    ((row : Row) → old ≡ Some row → actor ≡ Supplier row.0 → new ≡ Some row) → owner own new ≡ Some actor
owner-stays true old new actor is stays = is
owner-stays false None new actor is stays = cc
owner-stays false (Some row) new actor is stays =
    let found : new ≡ Some row = stays row refl (sym (same_some _ _ is)) in
    ap (owner false) found ∙ is

-- a SetKey that names this supplier
is_named : (request : Request) (s : Name) → keyed_by request ≡ Some s → sets_key_of (Supplier s) request ≡ true
is_named (request.SetKey t k) s named = ap (same_text t) (sym (same_some t s named)) ∙ same_text-itself t
is_named _ s named = cc

module _ (c : Cluster) (b : Book) (key : List ℕ) (actor : Actor) (owns : actor_of c b key ≡ Some actor) where
  -- a key that was nobody's is another
  another : (k : Key) → has_key c b k ≡ false → same_text k key ≡ false
  another k free = elim (cases_Bool (same_text k key)) [
    | inl same ↦ absurd (true≢false (
        sym (ap is_some (ap (actor_of c b) (same_text-is k key same) ∙ owns)) ∙ sym (has_key-owner c b k) ∙ free))
    | inr other ↦ other
  ]

  after-stays : (d : Book) → d.suppliers ≡ b.suppliers → actor_of c d key ≡ Some actor
  unfolding actor_of
  after-stays d stays = ap (λ t. owner (same_text c.integrator key) (row_of key t.rows)) stays ∙ owns

  after-new : (d : Book) (t : Name) (k : Key) → has_key c b k ≡ false → (actor ≡ Supplier t → contains b.suppliers t ≡ true → ⊥) → d.suppliers ≡ insert b.suppliers t k → actor_of c d key ≡ Some actor
  unfolding actor_of insert get names
  after-new d t k free other is =
      ap (λ t. owner (same_text c.integrator key) (row_of key t.rows)) is
      ∙ owner-stays (same_text c.integrator key) (row_of key b.suppliers.rows) (row_of key (put R t k b.suppliers.rows)) actor owns
      (λ row found whose. row-stays key row t k
      (λ same. other (whose ∙ ap Supplier same) (subst (λ n. is_some (entries.find R n b.suppliers.rows) ≡ true) same (row-there key row b.suppliers.rows found)))
      (another k free) b.suppliers.rows found)

  after-step : (by : Actor) (request : Request) → (sets_key_of actor request && is_done (step c b by request).answer) ≡ false → actor_of c (step c b by request).book key ≡ Some actor
  after-step by request unset = elim (step-becomes c b by request) [
    | inl stays ↦ after-stays _ stays
    | inr new ↦ after-new _ new.supplier new.key new.free (λ whose there. elim new.whose [
      | inl lacks ↦ true≢false (sym there ∙ lacks)
      | inr named ↦ true≢false (
          sym (λ i. (ap (λ a. sets_key_of a request) whose ∙ is_named request new.supplier named.0) i && named.1 i) ∙ unset)
    ]) new.inserted
  ]

pub run-key : KeyStays
run-key c b last [] [] key actor owns run unset = ap (λ (d : Book). actor_of c d key) run ∙ owns
run-key c b last [] (answer ∷ answers) key actor owns run unset = absurd run
run-key c b last (ask ∷ asks) [] key actor owns run unset = absurd run
run-key c b last (ask ∷ asks) (answer ∷ answers) key actor owns (inl lacking) unset = run-key c b last asks answers key actor owns lacking.2 (or_parts _ _ unset).1
run-key c b last (ask ∷ asks) (answer ∷ answers) key actor owns (inr done) unset =
    let parts = or_parts _ _ unset in
    run-key c (step c b ask.actor ask.request).book last asks answers key actor
    (after-step c b key actor owns ask.actor ask.request (ap (λ a. sets_key_of actor ask.request && is_done a) (sym done.0) ∙ parts.0))
    done.1 parts.1
