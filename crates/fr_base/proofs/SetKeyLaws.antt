-- When a supplier's key is set, and what that changes.
use Rattle.std.proofs.Common.{◌≡◌, ℕ, Bool, true, false, cond, not, List, [], ◌∷◌, map, find, Option, Some, None, is_some, Result, Ok, Err, IfOk, IsTrue, refl, sym, ap, subst, ◌∙◌, inl, inr}
use Rattle.std.specs.Prelude.{◌&&◌, ◌||◌, is_none}
use Rattle.std.specs.List.{list_all, list_any}
use Rattle.std.specs.Option.{option_map}
use Rattle.std.specs.Ordering.{eq_by_cmp}
use Rattle.std.specs.FinMap.Entries as entries
use Rattle.std.proofs.lemmas.Bool.{cases_Bool}
use Rattle.fr_base.specs.Refusing.{◌>>=◌, ◌>>◌, refuse◌when◌}
use Rattle.fr_base.specs.Tables.{get, contains, insert}
use Rattle.fr_base.specs.Keys.{names}
use Rattle.fr_base.specs.Names.{is_name, is_key, same_text}
use Rattle.fr_base.specs.Checks.{is_integrator, key, name, check}
use Rattle.fr_base.specs.Cluster.{Cluster}
use Rattle.fr_base.specs.Book.{Book, listed}
use Rattle.fr_base.specs.Actors.{actor_of}
use Rattle.fr_base.specs.Step.{Outcome, knows, has_key, set_key, done, perform, act, outcome, step}
use Rattle.fr_base.specs.Sound.{IsSound}
use Rattle.fr_base.specs.Alone.{is_done}
use Rattle.fr_base.specs.KeyLaws.{SetKeyIsDone, SetKeyChangesOneKey}
use Rattle.fr_base.specs.declared.key.Key.{Key}
use Rattle.fr_base.specs.declared.name.Name.{Name}
use Rattle.fr_base.specs.declared.answer.Answer.TheVariants as answer
use Rattle.fr_base.specs.declared.actor.Actor.{Actor}
use Rattle.fr_base.specs.declared.actor.Actor.TheVariants.{Integrator, Supplier}
use Rattle.fr_base.specs.declared.refusal.Refusal.{Refusal}
use Rattle.fr_base.specs.declared.request.Request.TheVariants as request
use Rattle.fr_base.proofs.TableLaws.{equal}
use Rattle.fr_base.proofs.SoundRefusing.{gives_bind, gives_when, gives_unless}
use Rattle.fr_base.proofs.SoundRows.{same_text-is}
use Rattle.fr_base.proofs.SuppliersLaws.{Row, R, keys, parts, other_way}
use Rattle.fr_base.proofs.AloneChecks.{name-is, key-is}

-- ---- whose a key is

same_text-turned : (a b : List ℕ) → same_text a b ≡ same_text b a
same_text-turned a b = elim (cases_Bool (same_text a b)) [
  | inl h ↦ let e : a ≡ b = same_text-is a b h in (λ i. same_text (e i) (sym e i))
  | inr h ↦ h ∙ sym (other_way a b h)
]

-- the first row with the key
abbrev row_of : List ℕ → List Row → Option Row
row_of k es = find (λ row. same_text row.1 k) es

any-found : (k : Key) (es : List Row) → list_any (same_text k) (keys es) ≡ is_some (row_of k es)
any-found k [] = refl
any-found k (e ∷ es) = (λ i. same_text-turned k e.1 i || any-found k es i) ∙ by (same_text e.1 k) (row_of k es)
  where
    by : (t : Bool) (o : Option Row) → (t || is_some o) ≡ is_some (cond t (Some e) o)
    by true o = refl
    by false o = refl

module _ (c : Cluster) (b : Book) (k : Key) where
  owner : (t : Bool) (o : Option Row) → (t || is_some o) ≡ is_some {T = Actor} (cond t (Some Integrator) (option_map (λ row. Supplier row.0) o))
  owner true o = refl
  owner false None = refl
  owner false (Some row) = refl

  -- somebody has the key where it is somebody's
  pub has_key-owner : has_key c b k ≡ is_some (actor_of c b k)
  unfolding has_key actor_of
  has_key-owner = (λ i. same_text-turned k c.integrator i || any-found k b.suppliers.rows i) ∙ owner (same_text c.integrator k) (row_of k b.suppliers.rows)

  none-not : (o : Option Actor) → is_none o ≡ not (is_some o)
  none-not None = refl
  none-not (Some x) = refl

  nobody : is_none (actor_of c b k) ≡ not (has_key c b k)
  nobody = none-not (actor_of c b k) ∙ ap not (sym has_key-owner)

-- ---- a supplier that is there has a name

named-there : (s : Name) (es : List Row) → IsTrue (list_all (λ t. is_name t.name) (map listed es)) → is_some (entries.find R s es) ≡ true → is_name s ≡ true
unfolding names
named-there s [] named there = cc
named-there s (e ∷ es) named there = elim (cases_Bool (eq_by_cmp R s e.0)) [
  | inl tie ↦ ap is_name (names.exact s e.0 (equal _ tie)) ∙ (parts _ _ named).0
  | inr other ↦ named-there s es (parts _ _ named).1 (sym (ap (λ t. is_some (cond t (Some e.1) (entries.find R s es))) other) ∙ there)
]

module _ (c : Cluster) (b : Book) (sound : IsSound c b) (s k : List ℕ) where
  is_named : contains b.suppliers s ≡ true → is_name s ≡ true
  unfolding get names
  is_named there = named-there s b.suppliers.rows sound.cluster.names there

  -- ---- when it is done

  integrator-done : is_done (step c b Integrator (request.SetKey s k)).answer ≡ (contains b.suppliers s && (is_key k && not (has_key c b k)))
  unfolding step act perform done set_key check name key outcome ◌>>=◌ ◌>>◌ refuse◌when◌
  integrator-done = elim (cases_Bool (contains b.suppliers s)) [
    | inl there ↦ let named = is_named there in elim (cases_Bool (is_key k)) [
      | inl formed ↦ elim (cases_Bool (has_key c b k)) [
        | inl taken ↦ rw (named, formed, there, taken) refl
        | inr free ↦ rw (named, formed, there, free) refl
      ]
      | inr unformed ↦ rw (named, unformed, there) refl
    ]
    | inr gone ↦ elim (cases_Bool (is_name s)) [
      | inl named ↦ elim (cases_Bool (is_key k)) [
        | inl formed ↦ rw (named, formed, gone) refl
        | inr unformed ↦ rw (named, unformed, gone) refl
      ]
      | inr unnamed ↦ rw (unnamed, gone) refl
    ]
  ]

  supplier-done : (t : Name) → is_done (step c b (Supplier t) (request.SetKey s k)).answer ≡ false
  unfolding step check outcome ◌>>=◌ ◌>>◌ refuse◌when◌
  supplier-done t = elim (cases_Bool (contains b.suppliers t)) [
    | inl known ↦ rw known refl
    | inr unknown ↦ rw unknown refl
  ]

  actor-done : (actor : Actor) → is_done (step c b actor (request.SetKey s k)).answer ≡ (is_integrator actor && (contains b.suppliers s && (is_key k && is_none (actor_of c b k))))
  actor-done Integrator = integrator-done ∙ ap (λ t. contains b.suppliers s && (is_key k && t)) (sym (nobody c b k))
  actor-done (Supplier t) = supplier-done t

pub set_key-done : SetKeyIsDone
set_key-done c b actor s k sound = actor-done c b sound s k actor

-- ---- what it changes

module _ (c : Cluster) (b : Book) (s k : List ℕ) where
  abbrev HasKey : Book → Type 0
  HasKey d = d ≡ record b { suppliers = insert b.suppliers s k }

  inserted : IfOk (set_key c b s k) HasKey
  unfolding set_key
  inserted =
      gives_unless _ _ _ _ (λ _.
      gives_when _ _ _ _ (λ _. refl))

  performed : IfOk (done (set_key c b s k)) (λ o. HasKey o.book)
  unfolding done
  performed = gives_bind _ _ (set_key c b s k) _ inserted (λ after h. h)

  outcome-has : (r : Result Outcome Refusal) → IfOk r (λ o. HasKey o.book) → (outcome b r).answer ≡ answer.Done → HasKey (outcome b r).book
  unfolding outcome
  outcome-has (Ok o) h is = h
  outcome-has (Err e) h is = cc

  checked_key : (actor : Actor) → IfOk (check c.params actor (request.SetKey s k)) (λ what. IfOk (act c b actor what) (λ o. HasKey o.book))
  unfolding act perform check
  checked_key actor =
      gives_unless _ _ (is_integrator actor) _ (λ _.
      gives_bind _ _ (name s) _ (name-is s) (λ t t_is.
      gives_bind _ _ (key k) _ (key-is k) (λ j j_is.
      subst (λ (z : Name × Key). IfOk (done (set_key c b z.0 z.1)) (λ o. HasKey o.book)) (λ i. (sym t_is i, sym j_is i)) performed)))

  key-set : (actor : Actor) → (step c b actor (request.SetKey s k)).answer ≡ answer.Done → HasKey (step c b actor (request.SetKey s k)).book
  unfolding step
  key-set actor is = outcome-has _ (
      gives_unless _ _ (knows b actor) _ (λ _.
      gives_bind _ (λ what. IfOk (act c b actor what) (λ o. HasKey o.book)) (check c.params actor (request.SetKey s k)) _ (checked_key actor) (λ what h. h))) is

pub set_key-changes : SetKeyChangesOneKey
set_key-changes c b actor s k is = key-set c b s k actor is
