-- Exchanges that are a supplier's, with the register of the supplier alone; and what asks nothing.
use Rattle.std.proofs.Common.{◌≡◌, ◌≢◌, inl, inr, ℕ, zero, suc, take, drop, true, false, true≢false, List, [], ◌∷◌, Option, Some, None, Result, Ok, Err, refl, sym, ap, ◌∙◌, subst}
use Rattle.std.proofs.lemmas.Bool.{cases_Bool}
use Rattle.fr_base.specs.Actors.{actor_of}
use Rattle.fr_base.specs.Alone.{is_mine, rows_of}
use Rattle.fr_base.specs.Book.{Book}
use Rattle.fr_base.specs.Cluster.{Cluster}
use Rattle.fr_base.specs.Refusing.{◌>>=◌, ◌or◌}
use Rattle.fr_base.specs.Run.{IsRun}
use Rattle.fr_base.specs.Sound.{IsSound}
use Rattle.fr_base.specs.declared.actor.Actor.{Actor}
use Rattle.fr_base.specs.declared.answer.Answer.{Answer}
use Rattle.fr_base.specs.declared.name.Name.{Name}
use Rattle.fr_base.specs.declared.refusal.Refusal.TheVariants.{BadText, UnknownKey}
use Rattle.fr_base.specs.declared.request.Ask.{Ask}
use Rattle.fr_base.proofs.SoundSteps.{step-sound}
use Rattle.fr_base.proofs.AloneSteps.{step-alone, step-not_mine}
use Rattle.fr_http.specs.Exchanges.{Advised, AreExchanged, Answered, Asks, Deals, Dealing, Drawn, Exchanged, IsReplied, IsUnasked, asked_in, is_own, own_exchanges}
use Rattle.fr_http.specs.Head.{HeadData, key_of, said}
use Rattle.fr_http.specs.Outcome.{IsOutcome, asked_by, by_engine, front, holder, outcome_of, plan_of}
use Rattle.fr_http.specs.Routes.{method_of, operation_by, path_of}
use Rattle.fr_http.specs.declared.exchange.Exchange.{Exchange}
use Rattle.fr_http.specs.declared.exchange.Exchange.TheVariants as exchange
use Rattle.fr_http.specs.declared.exchange.Operation.{Operation}
use Rattle.fr_http.specs.declared.exchange.Operation.TheVariants as operation
use Rattle.fr_http.specs.declared.fault.Unasked.{Unasked}
use Rattle.fr_http.specs.declared.fault.Unasked.TheVariants.{Refused, Fault}
use Rattle.fr_http.specs.declared.fault.LinkFault.{LinkFault}
use Rattle.fr_http.specs.declared.fault.LinkFault.TheVariants.{NoMemory, ReadFailed, TooManyReads, Truncated, WriteFailed}
use Rattle.fr_http.specs.declared.method.Method.{Method}
use Rattle.fr_http.specs.declared.serve.Served.{Served}
use Rattle.fr_http.proofs.AloneActors.{actor-alone, advice-heard, is_heard, mine-heard, nobody-alone, not_lacked, picture-heard}
use Rattle.fr_http.proofs.AlonePictures.{picture-alone}

-- ---- what bytes ask, where the key of who asks has the same holder

-- two chains that go the same way to their last line have the same outcome
bind_alike : {A B E : Type 0} (r : Result A E) (f g : A → Result B E) (v : B) → ((x : A) → f x ≡ Ok v → g x ≡ Ok v) → r >>= f ≡ Ok v → r >>= g ≡ Ok v
unfolding ◌>>=◌
bind_alike (Ok x) f g v same is = same x is
bind_alike (Err e) f g v same is = absurd cc

-- who asks
abbrev sender : Exchange → Actor
sender (exchange.Request ask method) = ask.actor
sender (exchange.Picture reader variant since) = reader
sender (exchange.Advice reader subject text) = reader

actor_in : Actor → Result Exchange Unasked → Actor
actor_in other (Ok exchange) = sender exchange
actor_in other (Err unasked) = other

-- the last line: who asks, if there is someone
abbrev asks_found : Option Actor → Operation → Method → Result Exchange Unasked
asks_found found what method = (found or Refused UnknownKey) >>= λ actor. Ok (asked_by actor method what)

module _ (who alone : List ℕ → Option Actor) (exchange : Exchange) (heard : (key : List ℕ) → who key ≡ Some (sender exchange) → alone key ≡ Some (sender exchange)) where
  is_found : (found : Option Actor) (what : Operation) (method : Method) → asks_found found what method ≡ Ok exchange → found ≡ Some (sender exchange)
  unfolding ◌>>=◌ ◌or◌ actor_in
  is_found None what method is = absurd cc
  is_found (Some actor) (operation.Request request) method is = ap Some (ap (actor_in actor) is)
  is_found (Some actor) (operation.Picture variant since) method is = ap Some (ap (actor_in actor) is)
  is_found (Some actor) (operation.Advice subject text) method is = ap Some (ap (actor_in actor) is)

  held_alike : (key : Option (List ℕ)) (what : Operation) (method : Method) → asks_found (holder who key) what method ≡ Ok exchange → asks_found (holder alone key) what method ≡ Ok exchange
  held_alike None what method is = is
  held_alike (Some key) what method is =
      let found = is_found (who key) what method is in
      ap (λ o. asks_found o what method) (heard key found ∙ sym found) ∙ is

  asks_alike : (head : HeadData) (rest : List ℕ) → outcome_of who head rest ≡ Ok exchange → outcome_of alone head rest ≡ Ok exchange
  unfolding outcome_of
  asks_alike head rest =
      bind_alike (by_engine (plan_of head)) _ _ exchange (λ plan.
      bind_alike (front plan.length rest or Fault Truncated) _ _ exchange (λ body.
      bind_alike (operation_by plan.route (path_of head.target) head.fields body) _ _ exchange (λ what.
      held_alike (key_of head) what (method_of plan.route))))

  outcome_alike : (bytes before : List ℕ) → IsOutcome who bytes before (Ok exchange) → IsOutcome alone bytes before (Ok exchange)
  outcome_alike bytes before (inl by_head) = inl (record {
    head = by_head.head;
    rest = by_head.rest;
    begins = by_head.begins;
    asks = sym (asks_alike (said by_head.head) by_head.rest (sym by_head.asks));
    interim = by_head.interim;
  })
  outcome_alike bytes before (inr without) = let none : Ok exchange ≡ Err without.unasked = without.asks in absurd cc

-- ---- what bytes do not ask

-- two chains that go the same way to their last line have the same refusal
bind_refused_alike : {A B E : Type 0} (r : Result A E) (f g : A → Result B E) (e : E) → ((x : A) → f x ≡ Err e → g x ≡ Err e) → r >>= f ≡ Err e → r >>= g ≡ Err e
unfolding ◌>>=◌
bind_refused_alike (Ok x) f g e same is = same x is
bind_refused_alike (Err d) f g e same is = is

cause_in : Unasked → Result Exchange Unasked → Unasked
cause_in other (Ok exchange) = other
cause_in other (Err unasked) = unasked

-- a key that is nobody's for the one is nobody's for the other, where that is why nothing is asked
module _ (who alone : List ℕ → Option Actor) (unasked : Unasked) (nobodys : (key : List ℕ) → unasked ≡ Refused UnknownKey → who key ≡ None → alone key ≡ None) where
  not_found : (found : Option Actor) (what : Operation) (method : Method) → asks_found found what method ≡ Err unasked → (unasked ≡ Refused UnknownKey) × (found ≡ None)
  unfolding ◌>>=◌ ◌or◌ cause_in
  not_found None what method is = (sym (ap (cause_in unasked) is), refl)
  not_found (Some actor) what method is = absurd cc

  refused_alike : (key : Option (List ℕ)) (what : Operation) (method : Method) → asks_found (holder who key) what method ≡ Err unasked → asks_found (holder alone key) what method ≡ Err unasked
  refused_alike None what method is = is
  refused_alike (Some key) what method is =
      let none = not_found (who key) what method is in
      ap (λ o. asks_found o what method) (nobodys key none.0 none.1 ∙ sym none.1) ∙ is

  unasked_alike : (head : HeadData) (rest : List ℕ) → outcome_of who head rest ≡ Err unasked → outcome_of alone head rest ≡ Err unasked
  unfolding outcome_of
  unasked_alike head rest =
      bind_refused_alike (by_engine (plan_of head)) _ _ unasked (λ plan.
      bind_refused_alike (front plan.length rest or Fault Truncated) _ _ unasked (λ body.
      bind_refused_alike (operation_by plan.route (path_of head.target) head.fields body) _ _ unasked (λ what.
      refused_alike (key_of head) what (method_of plan.route))))

  unasked_outcome_alike : (bytes before : List ℕ) → IsOutcome who bytes before (Err unasked) → IsOutcome alone bytes before (Err unasked)
  unasked_outcome_alike bytes before (inl by_head) = inl (record {
    head = by_head.head;
    rest = by_head.rest;
    begins = by_head.begins;
    asks = sym (unasked_alike (said by_head.head) by_head.rest (sym by_head.asks));
    interim = by_head.interim;
  })
  unasked_outcome_alike bytes before (inr without) = inr without

replied_alike : (c d : Cluster) (b e : Book) (x : Exchanged) (replied : IsReplied c b x)
    → ((key : List ℕ) → replied.unasked ≡ Refused UnknownKey → actor_of c b key ≡ None → actor_of d e key ≡ None) → IsReplied d e x
replied_alike c d b e x replied nobodys = record {
  before = replied.before;
  unasked = replied.unasked;
  outcome = unasked_outcome_alike (actor_of c b) (actor_of d e) replied.unasked nobodys x.read replied.before replied.outcome;
  reply = replied.reply;
  is_reply = replied.is_reply;
  told = replied.told;
}

pub replied-alike : (c d : Cluster) (b e : Book) (x : Exchanged) (replied : IsReplied c b x) → replied.unasked ≢ Refused UnknownKey → IsReplied d e x
replied-alike c d b e x replied known = replied_alike c d b e x replied (λ key unknown none. absurd (known unknown))

-- ---- a connection

module _ (c : Cluster) (b last : Book) where
  step-keeps : IsSound c b → (ask : Ask) (answer : Answer) → IsRun c b (ask ∷ []) (answer ∷ []) last → IsSound c last
  step-keeps sound ask answer (inl lacks) = subst (IsSound c) (sym lacks.2) sound
  step-keeps sound ask answer (inr steps) = subst (IsSound c) (sym steps.1) (step-sound c b sound ask.actor ask.request)

  deals-keep : IsSound c b → (dealing : Dealing) → Deals c b dealing last → IsSound c last
  deals-keep sound (Answered ask method answer) deals = step-keeps sound ask answer deals
  deals-keep sound (Drawn reader variant since drawn) deals = subst (IsSound c) (sym deals.0) sound
  deals-keep sound (Advised reader subject text) deals = subst (IsSound c) (sym deals) sound

  asks-sound : (x : Exchanged) (a : Option Dealing) → IsSound c b → Asks c b x a last → IsSound c last
  asks-sound x None sound so = subst (IsSound c) (sym so.0) sound
  asks-sound x (Some dealing) sound so = deals-keep sound dealing so.deals

module _ (s : Name) (c : Cluster) (b last : Book) where
  step-own : IsSound c b → (ask : Ask) (answer : Answer) → is_mine s ask.actor ask.request answer ≡ true → IsRun c b (ask ∷ []) (answer ∷ []) last →
      IsRun c (rows_of s b) (ask ∷ []) (answer ∷ []) (rows_of s last)
  step-own sound ask answer mine (inl lacks) = absurd (true≢false (sym mine ∙ ap (is_mine s ask.actor ask.request) lacks.1 ∙ not_lacked s ask.actor ask.request))
  step-own sound ask answer mine (inr steps) =
      let same = step-alone c b s ask.actor ask.request sound (ap (is_mine s ask.actor ask.request) (sym steps.0) ∙ mine) in
      inr (steps.0 ∙ sym same.0, ap (rows_of s) steps.1 ∙ sym same.1)

  step-other : (ask : Ask) (answer : Answer) → is_mine s ask.actor ask.request answer ≡ false → IsRun c b (ask ∷ []) (answer ∷ []) last → rows_of s last ≡ rows_of s b
  step-other ask answer other (inl lacks) = ap (rows_of s) lacks.2
  step-other ask answer other (inr steps) =
      ap (rows_of s) steps.1 ∙ step-not_mine c b s ask.actor ask.request (ap (is_mine s ask.actor ask.request) (sym steps.0) ∙ other)

  own-heard : (dealing : Dealing) → is_own s (Some dealing) ≡ true → is_heard s (Some (sender (asked_in dealing))) ≡ true
  own-heard (Answered ask method answer) own = mine-heard s ask.actor ask.request answer own
  own-heard (Drawn reader variant since drawn) own = picture-heard s reader drawn own
  own-heard (Advised reader subject text) own = advice-heard s reader own

  deals-own : IsSound c b → (dealing : Dealing) → is_own s (Some dealing) ≡ true → Deals c b dealing last → Deals c (rows_of s b) dealing (rows_of s last)
  deals-own sound (Answered ask method answer) own deals = step-own sound ask answer own deals
  deals-own sound (Drawn reader variant since drawn) own deals = (ap (rows_of s) deals.0, picture-alone c b s sound reader variant since drawn own deals.1)
  deals-own sound (Advised reader subject text) own deals = ap (rows_of s) deals

  deals-other : (dealing : Dealing) → is_own s (Some dealing) ≡ false → Deals c b dealing last → rows_of s last ≡ rows_of s b
  deals-other (Answered ask method answer) other deals = step-other ask answer other deals
  deals-other (Drawn reader variant since drawn) other deals = ap (rows_of s) deals.0
  deals-other (Advised reader subject text) other deals = ap (rows_of s) deals

  -- what asks nothing has the same reply in that register, since a key that is nobody's is nobody's there
  replied-alone : (x : Exchanged) → IsReplied c b x → IsReplied c (rows_of s b) x
  replied-alone x replied = replied_alike c c b (rows_of s b) x replied (λ key unknown. nobody-alone s c b key)

  unasked-alone : (x : Exchanged) (done : Result Served LinkFault) → IsUnasked c b x done → IsUnasked c (rows_of s b) x done
  unasked-alone x (Ok served) so = replied-alone x so
  unasked-alone x (Err (WriteFailed asked)) (inl replied) = inl (replied-alone x replied)
  unasked-alone x (Err (WriteFailed asked)) (inr before) = inr before
  unasked-alone x (Err (NoMemory asked)) so = so
  unasked-alone x (Err Truncated) so = so
  unasked-alone x (Err ReadFailed) so = so
  unasked-alone x (Err TooManyReads) so = so

  asks-own : (x : Exchanged) (a : Option Dealing) → IsSound c b → is_own s a ≡ true → Asks c b x a last → Asks c (rows_of s b) x a (rows_of s last)
  asks-own x None sound own so = (ap (rows_of s) so.0, unasked-alone x x.done so.1)
  asks-own x (Some dealing) sound own so =
      let exchange = asked_in dealing in
      let heard : (key : List ℕ) → actor_of c b key ≡ Some (sender exchange) → actor_of c (rows_of s b) key ≡ Some (sender exchange) =
      λ key has. actor-alone s c b key (ap (is_heard s) has ∙ own-heard dealing own) ∙ has in
      record {
        before = so.before;
        outcome = outcome_alike (actor_of c b) (actor_of c (rows_of s b)) exchange heard x.read so.before so.outcome;
        deals = deals-own sound dealing own so.deals;
        reply = so.reply;
        is_reply = so.is_reply;
        told = so.told;
      }

  asks-other : (x : Exchanged) (a : Option Dealing) → is_own s a ≡ false → Asks c b x a last → rows_of s last ≡ rows_of s b
  asks-other x None other so = cc
  asks-other x (Some dealing) other so = deals-other dealing other so.deals

-- ---- connections one after another

pub exchanges-alone : (c : Cluster) (b last : Book) (xs : List Exchanged) (s : Name) → IsSound c b → AreExchanged c b xs last →
    AreExchanged c (rows_of s b) (own_exchanges s xs) (rows_of s last)
exchanges-alone c b last [] s sound so = ap (rows_of s) so
exchanges-alone c b last (x ∷ xs) s sound so =
    let next : Book = so.0 in
    let rest = exchanges-alone c next last xs s (asks-sound c b next x x.asked sound so.1.1) so.2 in
    elim (cases_Bool (is_own s x.asked)) [
      | inl own ↦ rw own (rows_of s next, (so.1.0, asks-own s c b next x x.asked sound own so.1.1), rest)
      | inr other ↦ rw other (subst (λ d. AreExchanged c d (own_exchanges s xs) (rows_of s last)) (asks-other s c b next x x.asked other so.1.1) rest)
    ]

-- Exchanges leave a sound book sound.
pub exchanges-sound : (c : Cluster) (b last : Book) (xs : List Exchanged) → IsSound c b → AreExchanged c b xs last → IsSound c last
exchanges-sound c b last [] sound so = subst (IsSound c) (sym so) sound
exchanges-sound c b last (x ∷ xs) sound so = exchanges-sound c so.0 last xs (asks-sound c b so.0 x x.asked sound so.1.1) so.2

-- Exchanges go through sound books.
pub fronts-sound : (c : Cluster) (b last : Book) (xs : List Exchanged) (n : ℕ) → IsSound c b → AreExchanged c b xs last →
    (mid : Book) × IsSound c mid × AreExchanged c b (take n xs) mid × AreExchanged c mid (drop n xs) last
fronts-sound c b last [] zero sound so = (b, sound, refl, so)
fronts-sound c b last [] (suc n) sound so = (b, sound, refl, so)
fronts-sound c b last (x ∷ xs) zero sound so = (b, sound, refl, so)
fronts-sound c b last (x ∷ xs) (suc n) sound so =
    let rest = fronts-sound c so.0 last xs n (asks-sound c b so.0 x x.asked sound so.1.1) so.2 in
    (rest.0, rest.1, (so.0, so.1, rest.2), rest.3)
