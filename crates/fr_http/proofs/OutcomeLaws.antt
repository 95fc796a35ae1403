-- Bytes that begin with a head have one outcome; so two exchanges with them, from one book, have one reply.
use Rattle.std.proofs.Common.{◌≡◌, inl, inr, ℕ, Bool, true, false, true≢false, List, [], ◌∷◌, ◌++◌, Option, Some, None, Result, Ok, Err, MatchResult, refl, sym, ap, ◌∙◌, subst}
use Rattle.std.proofs.lemmas.Bool.{cases_Bool}
use Rattle.httparse.specs.Grammar.{RequestHead}
use Rattle.httparse.proofs.GrammarLemmas.{request_unique}
use Rattle.fr_base.specs.Actors.{actor_of}
use Rattle.fr_base.specs.Book.{Book}
use Rattle.fr_base.specs.Cluster.{Cluster}
use Rattle.fr_base.specs.Run.{IsRun}
use Rattle.fr_base.specs.declared.actor.Actor.{Actor}
use Rattle.fr_base.specs.declared.answer.Answer.{Answer}
use Rattle.fr_base.specs.declared.request.Ask.{Ask}
use Rattle.fr_base.proofs.RunLaws.{runs-one}
use Rattle.fr_http.specs.Exchanges.{Advised, Answered, Asks, Dealing, Drawn, Exchanged, IsBrokenOff, IsExchange, IsReplied, IsReplyWithout, IsTold, IsUnasked, asked_in}
use Rattle.fr_base.specs.Refusing.{◌>>=◌, ◌or◌}
use Rattle.fr_base.specs.declared.refusal.Refusal.TheVariants.{UnknownKey}
use Rattle.fr_base.specs.QueryNames.{purpose_with, query_by}
use Rattle.fr_base.specs.declared.request.Request.{Request}
use Rattle.fr_base.specs.declared.request.Request.TheVariants as request
use Rattle.fr_text.specs.RequestText.{request_of}
use Rattle.std.specs.Option.{option_map}
use Rattle.fr_http.specs.Head.{BeginsWith, HeadData, key_of, said}
use Rattle.fr_http.specs.Outcome.{IsOutcome, Wanted, asked_by, by_engine, front, holder, interim, outcome_of, plan_of}
use Rattle.fr_http.specs.OutcomeLaws.{asks_explanation, is_explanation, is_worded, plans_explanation, was_lacking}
use Rattle.fr_http.specs.Routes.{asked_or_refused, method_of, number_in, operation_by, other_variant, part, path_of}
use Rattle.fr_http.specs.Reply.{Reply, answer_reply, print}
use Rattle.fr_http.specs.declared.exchange.Exchange.{Exchange}
use Rattle.fr_http.specs.declared.exchange.Exchange.TheVariants as asked
use Rattle.fr_http.specs.declared.exchange.Operation.{Operation}
use Rattle.fr_http.specs.declared.exchange.Operation.TheVariants as operation
use Rattle.fr_http.specs.declared.fault.LinkFault.TheVariants.{Truncated}
use Rattle.fr_http.specs.declared.fault.Rejection.{Rejection}
use Rattle.fr_http.specs.declared.fault.Unasked.{Unasked}
use Rattle.fr_http.specs.declared.fault.Unasked.TheVariants.{Engine, Explained, Fault, Page, Refused}
use Rattle.fr_http.specs.declared.path_name.PathName.TheVariants as named
use Rattle.fr_http.specs.declared.routes.Route.{Route}
use Rattle.fr_http.specs.declared.routes.Route.TheVariants.{Advice, Commands, Explanation, Explanations, Deliver, Query, Picture, Page as OwnPage}
use Rattle.fr_http.specs.declared.method.Method.{Method}
use Rattle.fr_http.specs.declared.serve.Served.{Served}

pub outcome-one : (who : List ℕ → Option Actor) (bytes one other : List ℕ) (outcome another : Result Exchange Unasked)
    (head : RequestHead) (rest : List ℕ) → BeginsWith bytes head rest →
    IsOutcome who bytes one outcome → IsOutcome who bytes other another → (outcome ≡ another) × (one ≡ other)
outcome-one who bytes one other outcome another head rest begins (inl a) (inl b) =
    let same = request_unique bytes a.head b.head a.rest b.rest a.begins.reads b.begins.reads in (
      a.asks ∙ ap (λ (z : RequestHead × List ℕ). outcome_of who (said z.0) z.1) (λ i. (same.0 i, same.1 i)) ∙ sym b.asks,
      a.interim ∙ ap (λ h. interim (said h)) same.0 ∙ sym b.interim,
    )
outcome-one who bytes one other outcome another head rest begins (inl a) (inr b) = absurd (b.none head rest begins)
outcome-one who bytes one other outcome another head rest begins (inr a) second = absurd (a.none head rest begins)

-- ---- what outcomes have that are the same

unasked_in : Unasked → Result Exchange Unasked → Unasked
unasked_in other (Ok asked) = other
unasked_in other (Err unasked) = unasked

was_asked : Result Exchange Unasked → Bool
was_asked (Ok asked) = true
was_asked (Err unasked) = false

is_request : Result Exchange Unasked → Bool
is_request (Ok (asked.Request ask method)) = true
is_request _ = false

ask_in : Ask → Result Exchange Unasked → Ask
ask_in other (Ok (asked.Request ask method)) = ask
ask_in other _ = other

method_in : Method → Result Exchange Unasked → Method
method_in other (Ok (asked.Request ask method)) = method
method_in other _ = other

first_of : Answer → List Answer → Answer
first_of other [] = other
first_of other (answer ∷ answers) = answer

-- ---- what is explained is asked for by its route

-- whether it is that something is to be explained
abbrev is_told : Unasked → Bool
is_told (Explained word) = true
is_told _ = false

abbrev tells : {A : Type 0} → Result A Unasked → Bool
tells (Ok x) = false
tells (Err unasked) = is_told unasked

module _ (who : List ℕ → Option Actor) where
  -- the last lines of an outcome
  abbrev found_by : Option Actor → Method → Operation → Result Exchange Unasked
  found_by found method what = (found or Refused UnknownKey) >>= λ actor. Ok (asked_by actor method what)

  found-plain : (found : Option Actor) (method : Method) (what : Operation) → tells (found_by found method what) ≡ false
  unfolding ◌>>=◌ ◌or◌
  found-plain None method what = refl
  found-plain (Some actor) method what = refl

  text-plain : (asked : Option Request) (found : Option Actor) (method : Method) → tells (asked_or_refused asked >>= found_by found method) ≡ false
  unfolding ◌>>=◌
  text-plain (Some request) found method = found-plain found method (operation.Request request)
  text-plain None found method = refl

  by_route : (route : Route) (path : List ℕ) (fields : List (List ℕ × List ℕ)) (body : List ℕ) (found : Option Actor) (method : Method) → is_explanation route ≡ false → tells (operation_by route path fields body >>= found_by found method) ≡ false
  unfolding operation_by ◌>>=◌
  by_route (OwnPage part) path fields body found method plain = refl
  by_route Explanations path fields body found method plain = absurd (true≢false plain)
  by_route Explanation path fields body found method plain = absurd (true≢false plain)
  by_route (Advice subject) path fields body found method plain = found-plain found method (operation.Advice subject body)
  by_route Commands path fields body found method plain = text-plain (request_of body) found method
  by_route (Deliver how) path fields body found method plain = found-plain found method (operation.Request (request.Deliver (part named.Variant path) (purpose_with (λ name. part name path) how) body))
  by_route (Query asked) path fields body found method plain =
      text-plain (option_map request.Query (query_by (λ name. part name path) (λ name. number_in name path) asked)) found method
  by_route (Picture since) path fields body found method plain = found-plain found method (operation.Picture (part named.Variant path) (other_variant since path))

  by_body : (body : Option (List ℕ)) (route : Route) (path : List ℕ) (fields : List (List ℕ × List ℕ)) (found : Option Actor) (method : Method) → is_explanation route ≡ false
      → tells ((body or Fault Truncated) >>= λ body. operation_by route path fields body >>= found_by found method) ≡ false
  unfolding ◌>>=◌ ◌or◌
  by_body None route path fields found method plain = refl
  by_body (Some body) route path fields found method plain = by_route route path fields body found method plain

  by_plan : (head : HeadData) (rest : List ℕ) (plan : Result Wanted Rejection) → plans_explanation plan ≡ false
      → tells (by_engine plan >>= λ plan. (front plan.length rest or Fault Truncated) >>= λ body. operation_by plan.route (path_of head.target) head.fields body >>= found_by (holder who (key_of head)) (method_of plan.route)) ≡ false
  unfolding ◌>>=◌
  by_plan head rest (Ok wanted) plain = by_body (front wanted.length rest) wanted.route (path_of head.target) head.fields (holder who (key_of head)) (method_of wanted.route) plain
  by_plan head rest (Err rejection) plain = refl

  outcome-plain : (head : HeadData) (rest : List ℕ) → asks_explanation head ≡ false → tells (outcome_of who head rest) ≡ false
  unfolding outcome_of
  outcome-plain head rest plain = by_plan head rest (plan_of head) plain

  cause-plain : (bytes before : List ℕ) (unasked : Unasked) (head : RequestHead) (rest : List ℕ) → BeginsWith bytes head rest → IsOutcome who bytes before (Err unasked)
      → asks_explanation (said head) ≡ false → is_told unasked ≡ false
  cause-plain bytes before unasked head rest begins (inl a) plain =
      let same = request_unique bytes a.head head a.rest rest a.begins.reads begins.reads in
      ap tells (a.asks ∙ ap (λ (z : RequestHead × List ℕ). outcome_of who (said z.0) z.1) (λ i. (same.0 i, same.1 i))) ∙ outcome-plain (said head) rest plain
  cause-plain bytes before unasked head rest begins (inr a) plain = absurd (a.none head rest begins)

-- the reply where nothing is asked is one, but for what is explained
same_without : (unasked : Unasked) (one other : Reply) → is_told unasked ≡ false → IsReplyWithout unasked one → IsReplyWithout unasked other → one ≡ other
same_without (Engine rejection) one other plain is too = is ∙ sym too
same_without (Page part held) one other plain is too = is ∙ sym too
same_without (Explained word) one other plain is too = absurd (true≢false plain)
same_without (Refused refusal) one other plain is too = is ∙ sym too
same_without (Fault fault) one other plain is too = absurd is

-- ---- a reply that was told

told_whole : (x : Exchanged) (before : List ℕ) (reply : Reply) (served : Served) → x.done ≡ Ok served → IsTold x before reply →
    (x.written ≡ before ++ print reply) × (served.status ≡ reply.status)
told_whole x before reply served is told =
    subst (λ d. MatchResult d (λ (s : Served). (x.written ≡ before ++ print reply) × (s.status ≡ reply.status)) (λ fault. IsBrokenOff fault x.written before reply)) is told

-- replies that are the same, behind the same interim reply, were written alike
told_alike : (x y : Exchanged) (before early : List ℕ) (reply answer : Reply) (served other : Served) →
    x.done ≡ Ok served → y.done ≡ Ok other → IsTold x before reply → IsTold y early answer → before ≡ early → reply ≡ answer →
    (x.written ≡ y.written) × (served.status ≡ other.status)
told_alike x y before early reply answer served other x_done y_done x_told y_told same_before same_reply =
    let one = told_whole x before reply served x_done x_told in
    let two = told_whole y early answer other y_done y_told in (
      one.0 ∙ ap (λ (z : List ℕ × Reply). z.0 ++ print z.1) (λ i. (same_before i, same_reply i)) ∙ sym two.0,
      one.1 ∙ ap (λ (r : Reply). r.status) same_reply ∙ sym two.1,
    )

module _ (c : Cluster) (b last end : Book) (x y : Exchanged) (head : RequestHead) (rest : List ℕ) (served other : Served)
    (same : x.read ≡ y.read) (begins : BeginsWith x.read head rest) (x_done : x.done ≡ Ok served) (y_done : y.done ≡ Ok other) (plain : asks_explanation (said head) ≡ false) where
  -- the outcomes of both
  alike : (before early : List ℕ) (outcome another : Result Exchange Unasked) →
      IsOutcome (actor_of c b) x.read before outcome → IsOutcome (actor_of c b) y.read early another → (outcome ≡ another) × (before ≡ early)
  alike before early outcome another one two =
      outcome-one (actor_of c b) x.read before early outcome another head rest begins one
      (subst (λ r. IsOutcome (actor_of c b) r early another) (sym same) two)

  replied : IsUnasked c b x x.done → IsReplied c b x
  replied unasked = subst (IsUnasked c b x) x_done unasked

  replied_too : IsUnasked c b y y.done → IsReplied c b y
  replied_too unasked = subst (IsUnasked c b y) y_done unasked

  asks-one : (mine theirs : Option Dealing) → Asks c b x mine last → Asks c b y theirs end →
      is_worded mine ≡ false → was_lacking mine ≡ was_lacking theirs →
      (x.written ≡ y.written) × (served.status ≡ other.status) × (last ≡ end)
  unfolding unasked_in was_asked is_request ask_in method_in first_of
  asks-one None None one two drawn lacking =
      let a = replied one.1 in
      let d = replied_too two.1 in
      let is = alike a.before d.before (Err a.unasked) (Err d.unasked) a.outcome d.outcome in
      let cause : a.unasked ≡ d.unasked = ap (unasked_in a.unasked) is.0 in
      let reply : a.reply ≡ d.reply =
      same_without a.unasked a.reply d.reply (cause-plain (actor_of c b) x.read a.before a.unasked head rest begins a.outcome plain) a.is_reply
      (subst (λ u. IsReplyWithout u d.reply) (sym cause) d.is_reply) in
      let told = told_alike x y a.before d.before a.reply d.reply served other x_done y_done a.told d.told is.1 reply in
      (told.0, told.1, one.0 ∙ sym two.0)
  asks-one None (Some theirs) one two drawn lacking =
      let a = replied one.1 in
      absurd (true≢false (sym (ap was_asked (alike a.before two.before (Err a.unasked) (Ok (asked_in theirs)) a.outcome two.outcome).0)))
  asks-one (Some mine) None one two drawn lacking =
      let d = replied_too two.1 in
      absurd (true≢false (ap was_asked (alike one.before d.before (Ok (asked_in mine)) (Err d.unasked) one.outcome d.outcome).0))
  asks-one (Some (Drawn reader variant since plan)) (Some theirs) one two drawn lacking = absurd (true≢false drawn)
  asks-one (Some (Advised reader subject text)) (Some theirs) one two drawn lacking = absurd (true≢false drawn)
  asks-one (Some (Answered ask method answer)) (Some (Drawn reader variant since plan)) one two drawn lacking =
      absurd (true≢false (ap is_request (alike one.before two.before (Ok (asked.Request ask method)) (Ok (asked.Picture reader variant since)) one.outcome two.outcome).0))
  asks-one (Some (Answered ask method answer)) (Some (Advised reader subject text)) one two drawn lacking =
      absurd (true≢false (ap is_request (alike one.before two.before (Ok (asked.Request ask method)) (Ok (asked.Advice reader subject text)) one.outcome two.outcome).0))
  asks-one (Some (Answered ask method answer)) (Some (Answered ask' method' answer')) one two drawn lacking =
      let is = alike one.before two.before (Ok (asked.Request ask method)) (Ok (asked.Request ask' method')) one.outcome two.outcome in
      let asks : ask ≡ ask' = ap (ask_in ask) is.0 in
      let by : method ≡ method' = ap (method_in method) is.0 in
      let run = runs-one c b last end (ask ∷ []) (answer ∷ []) (answer' ∷ []) one.deals
      (subst (λ (a : Ask). IsRun c b (a ∷ []) (answer' ∷ []) end) (sym asks) two.deals) (ap (λ (t : Bool). t ∷ []) lacking) in
      let answers : answer ≡ answer' = ap (first_of answer) run.0 in
      let reply : one.reply ≡ two.reply = one.is_reply ∙ ap (λ (z : Method × Answer). answer_reply z.0 z.1) (λ i. (by i, answers i)) ∙ sym two.is_reply in
      let told = told_alike x y one.before two.before one.reply two.reply served other x_done y_done one.told two.told is.1 reply in
      (told.0, told.1, run.1)

pub exchange-one : (c : Cluster) (b last end : Book) (x y : Exchanged) (head : RequestHead) (rest : List ℕ) (told other : Served) →
    IsExchange c b x last → IsExchange c b y end → x.read ≡ y.read → BeginsWith x.read head rest →
    x.done ≡ Ok told → y.done ≡ Ok other → is_worded x.asked ≡ false → asks_explanation (said head) ≡ false → was_lacking x.asked ≡ was_lacking y.asked →
    (x.written ≡ y.written) × (told.status ≡ other.status) × (last ≡ end)
exchange-one c b last end x y head rest told other one two same begins x_done y_done worded plain lacking =
    asks-one c b last end x y head rest told other same begins x_done y_done plain x.asked y.asked one.1 two.1 worded lacking
