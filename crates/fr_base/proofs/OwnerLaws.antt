-- Whose a key is, after a supplier has another.
use Rattle.std.proofs.Common.{◌≡◌, ℕ, Bool, true, false, cond, not, List, [], ◌∷◌, find, Option, Some, None, is_some, Result, Ok, Err, IfOk, IsTrue, refl, sym, ap, subst, ◌∙◌, Less, Equal, Greater}
use Rattle.std.specs.Prelude.{T}
use Rattle.std.specs.List.{list_any}
use Rattle.std.specs.Option.{option_map}
use Rattle.std.specs.Ordering.{is_eq}
use Rattle.std.specs.FinMap.Entries as entries
use Rattle.std.specs.FinMap.Entries.{put, is_sorted, by_order}
use Rattle.std.proofs.lemmas.Bool.{or_parts}
use Rattle.fr_base.specs.TableRows.{first, second}
use Rattle.fr_base.specs.Keys.{names}
use Rattle.fr_base.specs.Names.{same_text}
use Rattle.fr_base.specs.Checks.{is_integrator, key, name, check}
use Rattle.fr_base.specs.Cluster.{Cluster, keys_differ, is_cluster}
use Rattle.fr_base.specs.Book.{Book}
use Rattle.fr_base.specs.Tables.{get, insert}
use Rattle.fr_base.specs.Actors.{actor_of}
use Rattle.fr_base.specs.Step.{Outcome, knows, has_key, set_key, done, perform, act, outcome, step}
use Rattle.fr_base.specs.Sound.{IsSound}
use Rattle.fr_base.specs.declared.key.Key.{Key}
use Rattle.fr_base.specs.declared.name.Name.{Name}
use Rattle.fr_base.specs.declared.answer.Answer.TheVariants as answer
use Rattle.fr_base.specs.declared.actor.Actor.{Actor}
use Rattle.fr_base.specs.declared.actor.Actor.TheVariants.{Integrator, Supplier}
use Rattle.fr_base.specs.declared.refusal.Refusal.{Refusal}
use Rattle.fr_base.specs.declared.request.Request.TheVariants as request
use Rattle.fr_base.proofs.SoundTables.{same_some}
use Rattle.fr_base.proofs.SoundRefusing.{gives_bind, gives_when, gives_unless}
use Rattle.fr_base.proofs.SuppliersLaws.{Row, R, keys, parts, other_way}
use Rattle.fr_base.proofs.KeyLaws.{not_before}
use Rattle.fr_base.proofs.AloneCells.{same_text-itself}
use Rattle.fr_base.proofs.AloneChecks.{name-is, key-is}

-- ---- the rows with another key of a supplier

-- the first row with the key
abbrev row_of : List ℕ → List Row → Option Row
row_of key es = find (λ row. same_text row.1 key) es

not_that : (b : Bool) → IsTrue (not b) → b ≡ false
not_that true h = cc
not_that false h = refl

-- a key that no row has is not that of a row that is found
is_none : (x : Key) (s : Name) (old : Key) (es : List Row) → list_any (same_text x) (keys es) ≡ false → entries.find R s es ≡ Some old → same_text x old ≡ false
is_none x s old [] none found = cc
is_none x s old (e ∷ es) none found =
    let apart = or_parts _ _ none in
    elim (is_eq (R s e.0)) as (λ b. cond b (Some e.1) (entries.find R s es) ≡ Some old → same_text x old ≡ false) [
      | true ↦ λ is. ap (same_text x) (sym (same_some e.1 old is)) ∙ apart.0
      | false ↦ λ later. is_none x s old es apart.1 later
    ] found

-- and by it no row is found
none_found : (key : Key) (es : List Row) → list_any (same_text key) (keys es) ≡ false → row_of key es ≡ None
none_found key [] none = refl
none_found key (e ∷ es) none =
    let apart = or_parts _ _ none in
    ap (λ b. cond b (Some e) (row_of key es)) (other_way key e.1 apart.0) ∙ none_found key es apart.1

module _ (s : Name) (old k : Key) where
  abbrev owner : Option Row → Option Actor
  owner o = option_map (λ row. Supplier row.0) o

  own_row : (n : Name) (es : List Row) → n ≡ s → owner (cond (same_text k k) (Some (n, k)) (row_of k es)) ≡ Some (Supplier s)
  own_row n es is = ap (λ b. owner (cond b (Some (n, k)) (row_of k es))) (same_text-itself k) ∙ ap (λ m. Some (Supplier m)) is

  -- the new key is the supplier's
  new_owner : (es : List Row) → list_any (same_text k) (keys es) ≡ false → owner (row_of k (put R s k es)) ≡ Some (Supplier s)
  unfolding names
  new_owner [] free = own_row s [] refl
  new_owner (e ∷ es) free =
      let apart = or_parts _ _ free in
      elim (R s e.0) as (λ r. R s e.0 ≡ r → owner (row_of k (by_order r ((s, k) ∷ e ∷ es) ((e.0, k) ∷ es) (e ∷ put R s k es))) ≡ Some (Supplier s)) [
        | Less ↦ λ is. own_row s (e ∷ es) refl
        | Equal ↦ λ is. own_row e.0 es (sym (names.exact s e.0 is))
        | Greater ↦ λ is. ap (λ b. owner (cond b (Some e) (row_of k (put R s k es)))) (other_way k e.1 apart.0) ∙ new_owner es apart.1
      ] refl

  -- the old one is nobody's
  old_owner : (es : List Row) → T (is_sorted R es) → IsTrue (keys_differ (keys es)) → same_text k old ≡ false → entries.find R s es ≡ Some old → row_of old (put R s k es) ≡ None
  old_owner [] rise differ other found = cc
  old_owner (e ∷ es) rise differ other found =
      let apart = parts _ _ differ in
      elim (R s e.0) as (λ r. R s e.0 ≡ r → cond (is_eq r) (Some e.1) (entries.find R s es) ≡ Some old → row_of old (by_order r ((s, k) ∷ e ∷ es) ((e.0, k) ∷ es) (e ∷ put R s k es)) ≡ None) [
        | Less ↦ λ is later. absurd (not_before s k e es (first _ _ rise) is (ap is_some later))
        | Equal ↦ λ is here.
            let was : e.1 ≡ old = same_some e.1 old here in
            ap (λ b. cond b (Some (e.0, k)) (row_of old es)) other ∙ none_found old es (ap (λ x. list_any (same_text x) (keys es)) (sym was) ∙ not_that _ apart.0)
        | Greater ↦ λ is later.
            ap (λ b. cond b (Some e) (row_of old (put R s k es))) (is_none e.1 s old es (not_that _ apart.0) later)
            ∙ old_owner es (second _ _ rise) apart.1 other later
      ] refl found

  -- any other is whose it was
  other_owner : (key : List ℕ) → same_text k key ≡ false → same_text old key ≡ false → (es : List Row) → entries.find R s es ≡ Some old → row_of key (put R s k es) ≡ row_of key es
  other_owner key new was [] found = cc
  other_owner key new was (e ∷ es) found =
      elim (R s e.0) as (λ r. cond (is_eq r) (Some e.1) (entries.find R s es) ≡ Some old →
      row_of key (by_order r ((s, k) ∷ e ∷ es) ((e.0, k) ∷ es) (e ∷ put R s k es)) ≡ cond (same_text e.1 key) (Some e) (row_of key es)) [
        | Less ↦ λ _. ap (λ b. cond b (Some (s, k)) (row_of key (e ∷ es))) new
        | Equal ↦ λ is.
            let apart : same_text e.1 key ≡ false = ap (λ x. same_text x key) (same_some e.1 old is) ∙ was in
            ap (λ b. cond b (Some (e.0, k)) (row_of key es)) new ∙ sym (ap (λ b. cond b (Some e) (row_of key es)) apart)
        | Greater ↦ λ later. ap (λ o. cond (same_text e.1 key) (Some e) o) (other_owner key new was es later)
      ] found

-- ---- a key is changed

-- the new key is the supplier's and the old one nobody's, and any other is whose it was
abbrev HasOtherKey : Cluster → Book → Name → Key → Key → Book → Type 0
HasOtherKey c b s old k d =
    (actor_of c d k ≡ Some (Supplier s)) × (actor_of c d old ≡ None)
    × ((key : List ℕ) → same_text k key ≡ false → same_text old key ≡ false → actor_of c d key ≡ actor_of c b key)

module _ (c : Cluster) (b : Book) (sound : IsSound c b) (s : Name) (old k : Key) (had : get b.suppliers s ≡ Some old) where
  inserted-changed : has_key c b k ≡ false → HasOtherKey c b s old k (record b { suppliers = insert b.suppliers s k })
  unfolding actor_of has_key insert get names is_cluster
  inserted-changed free =
      let es = b.suppliers.rows in
      let others = or_parts _ _ free in
      let differ = parts _ _ (parts _ _ sound.cluster.cluster).1 in
      let by_key : List ℕ → Book → Option Actor = λ key d. option_map (λ row. Supplier row.0) (find (λ row. same_text row.1 key) d.suppliers.rows) in
      let d : Book = record b { suppliers = insert b.suppliers s k } in (
        ap (λ t. cond t (Some Integrator) (by_key k d)) (other_way k c.integrator others.0) ∙ new_owner s old k es others.1,
        ap (λ t. cond t (Some Integrator) (by_key old d)) (is_none c.integrator s old es (not_that _ differ.0) had)
            ∙ ap (option_map (λ row. Supplier row.0)) (old_owner s old k es b.suppliers.sorted differ.1 (is_none k s old es others.1 had) had),
        λ key new was. ap (λ o. cond (same_text c.integrator key) (Some Integrator) (option_map (λ row. Supplier row.0) o)) (other_owner s old k key new was es had),
      )

  set_key-changed : IfOk (set_key c b s k) (HasOtherKey c b s old k)
  unfolding set_key
  set_key-changed =
      gives_unless _ _ _ _ (λ _.
      gives_when _ _ _ _ (λ free. inserted-changed free))

  performed : IfOk (done (set_key c b s k)) (λ o. HasOtherKey c b s old k o.book)
  unfolding done
  performed = gives_bind _ _ (set_key c b s k) _ set_key-changed (λ after h. h)

  outcome-changed : (r : Result Outcome Refusal) → IfOk r (λ o. HasOtherKey c b s old k o.book) → (outcome b r).answer ≡ answer.Done → HasOtherKey c b s old k (outcome b r).book
  unfolding outcome
  outcome-changed (Ok o) h is = h
  outcome-changed (Err e) h is = cc

  pub key-changed : (actor : Actor) → (step c b actor (request.SetKey s k)).answer ≡ answer.Done → HasOtherKey c b s old k (step c b actor (request.SetKey s k)).book
  unfolding step act perform check
  key-changed actor is = outcome-changed _ (
      gives_unless _ _ (knows b actor) _ (λ _.
      gives_bind _ (λ what. IfOk (act c b actor what) (λ o. HasOtherKey c b s old k o.book)) (check c.params actor (request.SetKey s k)) _ (checked_form actor) (λ what h. h))) is
    where
      checked_form : (actor : Actor) → IfOk (check c.params actor (request.SetKey s k)) (λ what. IfOk (act c b actor what) (λ o. HasOtherKey c b s old k o.book))
      checked_form actor =
          gives_unless _ _ (is_integrator actor) _ (λ _.
          gives_bind _ _ (name s) _ (name-is s) (λ t t_is.
          gives_bind _ _ (key k) _ (key-is k) (λ j j_is.
          subst (λ (z : Name × Key). IfOk (done (set_key c b z.0 z.1)) (λ o. HasOtherKey c b s old k o.book)) (λ i. (sym t_is i, sym j_is i)) performed)))
