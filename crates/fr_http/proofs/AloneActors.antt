-- Who has which key in the register of one supplier alone.
use Rattle.std.proofs.Common.{◌≡◌, ℕ, Bool, true, false, cond, ◌&&◌, List, [], ◌∷◌, find, filter, Option, Some, None, Result, refl, inl, inr}
use Rattle.std.specs.Option.{option_map}
use Rattle.std.proofs.lemmas.Bool.{cases_Bool}
use Rattle.fr_base.specs.Actors.{actor_of}
use Rattle.fr_base.specs.Alone.{is_mine, rows_of}
use Rattle.fr_base.specs.Book.{Book}
use Rattle.fr_base.specs.Cluster.{Cluster}
use Rattle.fr_base.specs.Names.{same_text}
use Rattle.fr_base.specs.Tables.{only}
use Rattle.fr_base.specs.declared.actor.Actor.{Actor}
use Rattle.fr_base.specs.declared.actor.Actor.TheVariants.{Integrator, Supplier}
use Rattle.fr_base.specs.declared.answer.Answer.{Answer}
use Rattle.fr_base.specs.declared.answer.Answer.TheVariants.{Refused}
use Rattle.fr_base.specs.declared.key.Key.{Key}
use Rattle.fr_base.specs.declared.name.Name.{Name}
use Rattle.fr_base.specs.declared.refusal.Refusal.{Refusal}
use Rattle.fr_base.specs.declared.refusal.Refusal.TheVariants.{Unavailable}
use Rattle.fr_base.specs.declared.request.Request.{Request}
use Rattle.fr_picture.specs.declared.plan.Plan.{Plan}
use Rattle.fr_http.specs.Exchanges.{is_own_advice, is_own_picture}

-- whether it is the integrator or the supplier
abbrev pub is_heard : Name → Option Actor → Bool
is_heard s None = false
is_heard s (Some Integrator) = true
is_heard s (Some (Supplier t)) = same_text t s

and_left : (x y : Bool) → x && y ≡ true → x ≡ true
and_left true y h = refl
and_left false y h = h

and_false : (x : Bool) → x && false ≡ false
and_false true = refl
and_false false = refl

module _ (s : Name) where
  -- what is answered Unavailable is nobody's
  pub not_lacked : (actor : Actor) (request : Request) → is_mine s actor request (Refused Unavailable) ≡ false
  not_lacked Integrator request = refl
  not_lacked (Supplier t) request = and_false (same_text t s)

  -- whose request is the supplier's is heard
  pub mine-heard : (actor : Actor) (request : Request) (answer : Answer) → is_mine s actor request answer ≡ true → is_heard s (Some actor) ≡ true
  mine-heard Integrator request answer mine = refl
  mine-heard (Supplier t) request answer mine = and_left _ _ mine

  -- whose picture is the supplier's is heard
  pub picture-heard : (reader : Actor) (drawn : Result Plan Refusal) → is_own_picture s reader drawn ≡ true → is_heard s (Some reader) ≡ true
  picture-heard Integrator drawn own = cc
  picture-heard (Supplier t) drawn own = and_left _ _ own

  -- whose advice is the supplier's is heard
  pub advice-heard : (reader : Actor) → is_own_advice s reader ≡ true → is_heard s (Some reader) ≡ true
  advice-heard Integrator own = cc
  advice-heard (Supplier t) own = own

  abbrev sending : Option (Name × Key) → Option Actor
  sending row = option_map (λ r. Supplier r.0) row

  -- a row of the supplier's that is found is found among its rows
  found-own : (key : List ℕ) (rows : List (Name × Key)) → is_heard s (sending (find (λ r. same_text r.1 key) rows)) ≡ true →
      sending (find (λ r. same_text r.1 key) (filter (λ r. same_text r.0 s) rows)) ≡ sending (find (λ r. same_text r.1 key) rows)
  found-own key [] = λ heard. refl
  found-own key (r ∷ rs) = elim (cases_Bool (same_text r.1 key)) [
    | inl has ↦ rw has (λ heard. rw (heard, has) refl)
    | inr other ↦ rw other (λ heard. elim (cases_Bool (same_text r.0 s)) [
      | inl its ↦ rw (its, other) (found-own key rs heard)
      | inr anothers ↦ rw anothers (found-own key rs heard)
    ])
  ]

  -- the integrator's key and the supplier's are so in that register
  pub actor-alone : (c : Cluster) (b : Book) (key : List ℕ) → is_heard s (actor_of c b key) ≡ true → actor_of c (rows_of s b) key ≡ actor_of c b key
  unfolding actor_of rows_of only
  actor-alone c b key =
      elim (same_text c.integrator key) as (λ t. is_heard s (cond t (Some Integrator) (sending (find (λ r. same_text r.1 key) b.suppliers.rows))) ≡ true →
      cond t (Some Integrator) (sending (find (λ r. same_text r.1 key) (filter (λ r. same_text r.0 s) b.suppliers.rows))) ≡ cond t (Some Integrator) (sending (find (λ r. same_text r.1 key) b.suppliers.rows))) [
        | true ↦ λ heard. refl
        | false ↦ found-own key b.suppliers.rows
      ]

  -- a key that is none of the suppliers' is not the supplier's
  none-own : (key : List ℕ) (rows : List (Name × Key)) → sending (find (λ r. same_text r.1 key) rows) ≡ None →
      sending (find (λ r. same_text r.1 key) (filter (λ r. same_text r.0 s) rows)) ≡ None
  none-own key [] = λ none. refl
  none-own key (r ∷ rs) = elim (cases_Bool (same_text r.1 key)) [
    | inl has ↦ rw has (λ none. absurd cc)
    | inr other ↦ rw other (λ none. elim (cases_Bool (same_text r.0 s)) [
      | inl its ↦ rw (its, other) (none-own key rs none)
      | inr anothers ↦ rw anothers (none-own key rs none)
    ])
  ]

  -- a key that is nobody's is nobody's in that register
  pub nobody-alone : (c : Cluster) (b : Book) (key : List ℕ) → actor_of c b key ≡ None → actor_of c (rows_of s b) key ≡ None
  unfolding actor_of rows_of only
  nobody-alone c b key =
      elim (same_text c.integrator key) as (λ t. cond t (Some Integrator) (sending (find (λ r. same_text r.1 key) b.suppliers.rows)) ≡ None →
      cond t (Some Integrator) (sending (find (λ r. same_text r.1 key) (filter (λ r. same_text r.0 s) b.suppliers.rows))) ≡ None) [
        | true ↦ λ none. absurd cc
        | false ↦ none-own key b.suppliers.rows
      ]
