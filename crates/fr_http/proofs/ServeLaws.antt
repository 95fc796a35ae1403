-- Laws of a connection's outcome.
use Rattle.std.proofs.Common.{◌≡◌, ℕ, Bool, true, false, true≢false, List, [], ◌∷◌, ◌++◌, length, ◌≤◌, ◌-◌, ◌⊎◌, Option, Some, None, Result, Ok, Err, refl, sym, ap, ◌∙◌, subst, append_assoc, length-append, inl, inr, arith}
use Rattle.std.proofs.KnownBytes.{Appends-kept, Appends-nil, Appends-trans, Consumes-trans, Keeps-refl}
use Rattle.std.specs.Io.KnownBytes.{Appends, Consumes, Keeps}
use Rattle.httparse.specs.Grammar.{RequestHead}
use Rattle.fr_base.specs.Actors.{actor_of}
use Rattle.fr_base.specs.Book.{Book}
use Rattle.fr_base.specs.Cluster.{Cluster}
use Rattle.fr_base.specs.Desks.{InSound, Standing}
use Rattle.fr_base.specs.Refusing.{◌>>=◌, ◌>>◌, ◌or◌}
use Rattle.fr_base.specs.Sound.{IsSound}
use Rattle.fr_base.specs.declared.actor.Actor.{Actor}
use Rattle.fr_base.specs.declared.refusal.Refusal.TheVariants.{BadText, UnknownKey}
use Rattle.fr_base.specs.declared.request.Request.{Request}
use Rattle.fr_http.specs.Operations.{FindsActor, MakesOperation}
use Rattle.std.specs.Prelude.{IfOk}
use Rattle.fr_http.specs.Reply.{Reply, print}
use Rattle.fr_http.specs.Replying.{IsReply}
use Rattle.fr_http.specs.declared.reply.ReplyText.{ReplyText}
use Rattle.fr_http.specs.declared.serve.Served.{Served}
use Rattle.fr_http.specs.Connection.{AppendsFront, HasAnswered, HasDealt, HasReplied, HasTaken, IsConnection, ReadsNoMore, Sends, Takes}
use Rattle.fr_http.specs.Exchanges.{Deals, Dealing, IsAnswered, IsBrokenOff, IsExchange, IsFront, IsInterim, IsTold, IsExplanation, IsReplyWithout, IsUnasked, is_asked}
use Rattle.fr_http.specs.Head.{BeginsWith, HeadData, key_of, max_head, said}
use Rattle.fr_http.specs.Outcome.{IsOutcome, Wanted, asked_before, asked_by, continue_if, continue_reply, due, front, holder, interim, is_ask, outcome_of, plan_of}
use Rattle.fr_http.specs.Reading.{HasReceived, LacksBody}
use Rattle.fr_http.specs.Routes.{asked_or_refused, method_of, operation_by, path_of}
use Rattle.fr_http.specs.declared.exchange.Exchange.{Exchange}
use Rattle.fr_http.specs.declared.exchange.Operation.{Operation}
use Rattle.fr_http.specs.declared.fault.LinkFault.{LinkFault}
use Rattle.fr_http.specs.declared.fault.LinkFault.TheVariants.{Truncated, ReadFailed, TooManyReads, WriteFailed, NoMemory}
use Rattle.fr_http.specs.declared.fault.Rejection.{Rejection}
use Rattle.fr_http.specs.declared.fault.Unasked.{Unasked}
use Rattle.fr_http.specs.declared.fault.Unasked.TheVariants.{Engine, Explained, Page, Refused, Fault}
use Rattle.fr_http.specs.declared.routes.Route.{Route}
use Rattle.fr_http.specs.declared.routes.Route.TheVariants.{Advice, Commands, Explanation, Explanations, Deliver, Query, Picture, Page as OwnPage}

-- ---- outcomes, step by step

pub rejected : (who : List ℕ → Option Actor) (head : HeadData) (rest : List ℕ) (r : Rejection) → plan_of head ≡ Err r → outcome_of who head rest ≡ Err (Engine r)
unfolding outcome_of ◌>>=◌ ◌>>◌ ◌or◌
rejected who head rest r h = rw h refl

pub cut : (who : List ℕ → Option Actor) (head : HeadData) (rest : List ℕ) (w : Wanted) → plan_of head ≡ Ok w → front w.length rest ≡ None
    → outcome_of who head rest ≡ Err (Fault Truncated)
unfolding outcome_of ◌>>=◌ ◌>>◌ ◌or◌
cut who head rest w h none = rw h (rw none refl)

no_text : (who : List ℕ → Option Actor) (head : HeadData) (rest body : List ℕ) (w : Wanted) (unasked : Unasked) → plan_of head ≡ Ok w → front w.length rest ≡ Some body
    → operation_by w.route (path_of head.target) head.fields body ≡ Err unasked → outcome_of who head rest ≡ Err unasked
unfolding outcome_of ◌>>=◌ ◌>>◌ ◌or◌
no_text who head rest body w unasked h there none = rw h (rw there (rw none refl))

-- whether it is a fault
abbrev pub is_fault : Unasked → Bool
is_fault (Fault fault) = true
is_fault _ = false

abbrev has_fault : Result Operation Unasked → Bool
has_fault (Ok what) = false
has_fault (Err unasked) = is_fault unasked

text_no_fault : (asked : Option Request) → has_fault (asked_or_refused asked) ≡ false
text_no_fault (Some request) = refl
text_no_fault None = refl

operation_no_fault : (route : Route) (path : List ℕ) (fields : List (List ℕ × List ℕ)) (body : List ℕ) → has_fault (operation_by route path fields body) ≡ false
unfolding operation_by
operation_no_fault (OwnPage part) path fields body = refl
operation_no_fault Explanations path fields body = refl
operation_no_fault Explanation path fields body = refl
operation_no_fault (Advice subject) path fields body = refl
operation_no_fault Commands path fields body = text_no_fault _
operation_no_fault (Deliver how) path fields body = refl
operation_no_fault (Query asked) path fields body = text_no_fault _
operation_no_fault (Picture since) path fields body = refl

-- a route asks nothing for no fault
pub why_not : (route : Route) (path : List ℕ) (fields : List (List ℕ × List ℕ)) (body : List ℕ) (unasked : Unasked) → operation_by route path fields body ≡ Err unasked → is_fault unasked ≡ false
why_not route path fields body unasked is = sym (ap has_fault is) ∙ operation_no_fault route path fields body

nobody : (who : List ℕ → Option Actor) (head : HeadData) (rest body : List ℕ) (w : Wanted) (what : Operation) → plan_of head ≡ Ok w → front w.length rest ≡ Some body
    → operation_by w.route (path_of head.target) head.fields body ≡ Ok what → holder who (key_of head) ≡ None → outcome_of who head rest ≡ Err (Refused UnknownKey)
unfolding outcome_of ◌>>=◌ ◌>>◌ ◌or◌
nobody who head rest body w what h there made none = rw h (rw there (rw made (rw none refl)))

asks : (who : List ℕ → Option Actor) (head : HeadData) (rest body : List ℕ) (w : Wanted) (what : Operation) (actor : Actor) → plan_of head ≡ Ok w
    → front w.length rest ≡ Some body → operation_by w.route (path_of head.target) head.fields body ≡ Ok what → holder who (key_of head) ≡ Some actor
    → outcome_of who head rest ≡ Ok (asked_by actor (method_of w.route) what)
unfolding outcome_of ◌>>=◌ ◌>>◌ ◌or◌
asks who head rest body w what actor h there made found = rw h (rw there (rw made (rw found refl)))

pub interim_none : (head : HeadData) (r : Rejection) → plan_of head ≡ Err r → interim head ≡ []
unfolding interim
interim_none head r h = rw h refl

pub interim_planned : (head : HeadData) (w : Wanted) → plan_of head ≡ Ok w → interim head ≡ continue_if (due w.length head)
unfolding interim
interim_planned head w h = rw h refl

pub begins_more : (bytes more rest : List ℕ) (h : RequestHead) → BeginsWith bytes h rest → BeginsWith (bytes ++ more) h (rest ++ more)
begins_more bytes more rest h begins = record {
  reads = (begins.reads.0, ap (λ b. b ++ more) begins.reads.1 ∙ append_assoc _ rest more);
  size = begins.size;
  lines = begins.lines;
}

-- what is written is the interim reply to this head
only_interim : (bytes written : List ℕ) (h : RequestHead) (rest : List ℕ) → BeginsWith bytes h rest → written ≡ interim (said h) → IsInterim bytes written
only_interim bytes [] h rest begins is = tt
only_interim bytes (w ∷ ws) h rest begins is = (h, rest, begins, is)

-- ---- the ways on which nothing is asked

-- no head was received
pub received_nothing : (stands : Standing) (input left held : Option (List ℕ)) (unasked : Unasked) → HasReceived input left (Err unasked)
    → HasTaken stands input left held held (Err unasked)
received_nothing stands input left held (Engine r) (bytes, consumed, fails, size) = record {
  bytes = bytes;
  written = [];
  consumed = consumed;
  appended = Appends-nil held;
  takes = (tt, λ c b s i. inr (record { none = fails.none; unasked = Engine r; fails = fails.fails; asks = refl; interim = refl }));
  bound = inl size;
}
received_nothing stands input left held (Page part has) (bytes, consumed, fails, size) = absurd fails
received_nothing stands input left held (Explained word) (bytes, consumed, fails, size) = absurd fails
received_nothing stands input left held (Refused refusal) (bytes, consumed, fails, size) = absurd fails
received_nothing stands input left held (Fault Truncated) (bytes, consumed, fails, size) = record {
  bytes = bytes;
  written = [];
  consumed = consumed;
  appended = Appends-nil held;
  takes = (tt, fails.1, λ who. inr (record { none = fails.0.none; unasked = Fault Truncated; fails = fails.0.fails; asks = refl; interim = refl }));
  bound = inl size;
}
received_nothing stands input left held (Fault ReadFailed) (bytes, consumed, fails, size) = record {
  bytes = bytes;
  written = [];
  consumed = consumed;
  appended = Appends-nil held;
  takes = (fails, tt);
  bound = inl size;
}
received_nothing stands input left held (Fault TooManyReads) (bytes, consumed, fails, size) = record {
  bytes = bytes;
  written = [];
  consumed = consumed;
  appended = Appends-nil held;
  takes = (fails, tt);
  bound = inl size;
}
received_nothing stands input left held (Fault (WriteFailed asked)) (bytes, consumed, fails, size) = absurd fails
received_nothing stands input left held (Fault (NoMemory asked)) (bytes, consumed, fails, size) = record {
  bytes = bytes;
  written = [];
  consumed = consumed;
  appended = Appends-nil held;
  takes = (fails, tt);
  bound = inl size;
}

-- the head that was received, by another name
pub seen : (input left : Option (List ℕ)) (head received : HeadData × List ℕ) → head ≡ received → HasReceived input left (Ok received) → HasReceived input left (Ok head)
seen input left head received is has = subst (λ h. HasReceived input left (Ok h)) (sym is) has

-- the engine answers to the head
pub planned_nothing : (stands : Standing) (input left held : Option (List ℕ)) (received : HeadData × List ℕ) (r : Rejection) → HasReceived input left (Ok received)
    → plan_of received.0 ≡ Err r → HasTaken stands input left held held (Err (Engine r))
planned_nothing stands input left held received r (bytes, consumed, (h, begins, head), size) plan = record {
  bytes = bytes;
  written = [];
  consumed = consumed;
  appended = Appends-nil held;
  takes =
      let plan_h : plan_of (said h) ≡ Err r = ap plan_of (sym head) ∙ plan in (
        tt,
        λ c b s i.
            inl (record {
              head = h;
              rest = received.1;
              begins = begins;
              asks = sym (rejected (actor_of c b) (said h) received.1 r plan_h);
              interim = sym (interim_none (said h) r plan_h);
            }),
      );
  bound = inl size;
}

-- the interim reply was not written whole
pub not_invited : (stands : Standing) (input left held now : Option (List ℕ)) (received : HeadData × List ℕ) (w : Wanted) (fault : LinkFault) → HasReceived input left (Ok received)
    → plan_of received.0 ≡ Ok w → fault ≡ WriteFailed false → due w.length received.0 ≡ true → AppendsFront held now continue_reply
    → HasTaken stands input left held now (Err (Fault fault))
not_invited stands input left held now received w fault (bytes, consumed, (h, begins, head), size) plan is is_due (written, front, appended) = record {
  bytes = bytes;
  written = written;
  consumed = consumed;
  appended = appended;
  takes = subst (λ f. Takes stands bytes written left (Err (Fault f))) (sym is) (
    refl,
    (h, received.1, begins, ap interim (sym head) ∙ interim_planned received.0 w plan ∙ ap continue_if is_due, front),
  );
  bound = inl size;
}

-- what is no fault was taken so
takes_so : (stands : Standing) (bytes written : List ℕ) (left : Option (List ℕ)) (unasked : Unasked) → is_fault unasked ≡ false → IsInterim bytes written
    → InSound stands (λ c b. IsOutcome (actor_of c b) bytes written (Err unasked)) → Takes stands bytes written left (Err unasked)
takes_so stands bytes written left (Engine rejection) none only so = (only, so)
takes_so stands bytes written left (Page part held) none only so = (only, so)
takes_so stands bytes written left (Explained word) none only so = (only, so)
takes_so stands bytes written left (Refused refusal) none only so = (only, so)
takes_so stands bytes written left (Fault fault) none only so = absurd (true≢false none)

-- ---- behind the head

-- behind the bytes that came with a head no more was read than the body still wants
no_more : (more bytes : List ℕ) (h : RequestHead) (rest : List ℕ) (w : Wanted) → BeginsWith bytes h rest → plan_of (said h) ≡ Ok w → length bytes ≤ max_head
    → length more ≤ w.length - length rest → ReadsNoMore (bytes ++ more)
no_more [] bytes h rest w begins plan size bound = inl (omega (arith, size, length-append bytes []))
no_more (x ∷ xs) bytes h rest w begins plan size bound =
    inr (h, rest ++ x ∷ xs, w, begins_more bytes (x ∷ xs) rest h begins, plan, omega (arith, bound, length-append rest (x ∷ xs)))

-- what is known once a body is to be read: the head, what it wants, and what was written
pub record Invited (input mid held now : Option (List ℕ)) (received : HeadData × List ℕ) (w : Wanted) : Type 0 where
  pub has : HasReceived input mid (Ok received)
  pub plan : plan_of received.0 ≡ Ok w
  pub written : Appends held now (continue_if (due w.length received.0))

-- what was read behind the head and all that came with it: no more than the body still wants
pub record Behind (mid left : Option (List ℕ)) (received : HeadData × List ℕ) (w : Wanted) (more : List ℕ) : Type 0 where
  pub consumed : Consumes mid left more
  pub bound : length more ≤ w.length - length received.1

module _ (stands : Standing) (input mid left held now : Option (List ℕ)) (received : HeadData × List ℕ) (w : Wanted) (more : List ℕ) where
  reads_no_more : (invited : Invited input mid held now received w) → Behind mid left received w more → ReadsNoMore (invited.has.0 ++ more)
  reads_no_more invited behind =
      let (h, begins, head) = invited.has.2 in
      no_more more invited.has.0 h received.1 w begins (ap plan_of (sym head) ∙ invited.plan) invited.has.3 behind.bound

  -- where the outcome with the head and all that came behind it is this one
  pub by_head : (invited : Invited input mid held now received w) → Behind mid left received w more → (outcome : Result Exchange Unasked)
      → Takes stands (invited.has.0 ++ more) (continue_if (due w.length received.0)) left outcome → HasTaken stands input left held now outcome
  by_head invited behind outcome takes = record {
    bytes = invited.has.0 ++ more;
    written = continue_if (due w.length received.0);
    consumed = Consumes-trans _ _ _ _ _ invited.has.1 behind.consumed;
    appended = invited.written;
    takes = takes;
    bound = reads_no_more invited behind;
  }

  pub outcome_with : (invited : Invited input mid held now received w) (who : List ℕ → Option Actor) (outcome : Result Exchange Unasked)
      → outcome_of who received.0 (received.1 ++ more) ≡ outcome → IsOutcome who (invited.has.0 ++ more) (continue_if (due w.length received.0)) outcome
  outcome_with invited who outcome is =
      let (h, begins, head) = invited.has.2 in
      inl (record {
        head = h;
        rest = received.1 ++ more;
        begins = begins_more invited.has.0 more received.1 h begins;
        asks = sym is ∙ ap (λ d. outcome_of who d (received.1 ++ more)) head;
        interim = sym (interim_planned received.0 w invited.plan) ∙ ap interim head;
      })

  pub is_interim : (invited : Invited input mid held now received w) → IsInterim (invited.has.0 ++ more) (continue_if (due w.length received.0))
  is_interim invited =
      let (h, begins, head) = invited.has.2 in
      only_interim _ _ h (received.1 ++ more) (begins_more invited.has.0 more received.1 h begins) (sym (interim_planned received.0 w invited.plan) ∙ ap interim head)

  -- the body is not whole
  pub no_body : (invited : Invited input mid held now received w) → Behind mid left received w more → (fault : LinkFault) → LacksBody w.length (received.1 ++ more) left fault
      → HasTaken stands input left held now (Err (Fault fault))
  no_body invited behind Truncated (none, end) = by_head invited behind _ (is_interim invited, end, λ who. outcome_with invited who _ (cut who received.0 (received.1 ++ more) w invited.plan none))
  no_body invited behind ReadFailed lacks = by_head invited behind _ (lacks, is_interim invited)
  no_body invited behind TooManyReads lacks = by_head invited behind _ (lacks, is_interim invited)
  no_body invited behind (WriteFailed asked) lacks = absurd lacks
  no_body invited behind (NoMemory asked) lacks = by_head invited behind _ (lacks, is_interim invited)

  -- a request's text is none, or what is asked for is the engine's own, or memory was wanting
  pub no_operation : (invited : Invited input mid held now received w) → Behind mid left received w more → (body : List ℕ) → front w.length (received.1 ++ more) ≡ Some body
      → (unasked : Unasked) → MakesOperation w.route (path_of received.0.target) received.0.fields body (Err unasked) → HasTaken stands input left held now (Err unasked)
  no_operation invited behind body there unasked (inl lacks) =
      subst (λ u. HasTaken stands input left held now (Err u)) (sym lacks) (by_head invited behind _ (refl, is_interim invited))
  no_operation invited behind body there unasked (inr none) =
      by_head invited behind (Err unasked) (takes_so stands _ _ left unasked (why_not w.route (path_of received.0.target) received.0.fields body unasked none) (is_interim invited)
      (λ c b s i. outcome_with invited (actor_of c b) (Err unasked) (no_text (actor_of c b) received.0 (received.1 ++ more) body w unasked invited.plan there none)))

  -- the key is nobody's
  pub no_actor : (invited : Invited input mid held now received w) → Behind mid left received w more → (body : List ℕ) → front w.length (received.1 ++ more) ≡ Some body
      → (what : Operation) → operation_by w.route (path_of received.0.target) received.0.fields body ≡ Ok what → FindsActor stands received.0 None
      → HasTaken stands input left held now (Err (Refused UnknownKey))
  no_actor invited behind body there what made none =
      by_head invited behind _ (
        is_interim invited,
        λ c b s i.
            outcome_with invited (actor_of c b) _ (nobody (actor_of c b) received.0 (received.1 ++ more) body w what invited.plan there made (sym (none c b s i))),
      )

  -- the register is to be asked
  pub to_ask : (invited : Invited input mid held now received w) → Behind mid left received w more → (body : List ℕ) → front w.length (received.1 ++ more) ≡ Some body
      → (what : Operation) → operation_by w.route (path_of received.0.target) received.0.fields body ≡ Ok what → (actor : Actor) → FindsActor stands received.0 (Some actor)
      → HasTaken stands input left held now (Ok (asked_by actor (method_of w.route) what))
  to_ask invited behind body there what made actor found =
      by_head invited behind _ (
        is_interim invited,
        λ c b s i.
            outcome_with invited (actor_of c b) _ (asks (actor_of c b) received.0 (received.1 ++ more) body w what actor invited.plan there made (sym (found c b s i))),
      )

-- ---- replies

pub replied : {E : Type 0} (reply : Result ReplyText E) (expected : Reply) (asked : Bool) (held now : Option (List ℕ)) (done : Result Served LinkFault)
    → IfOk reply (IsReply expected) → Sends reply asked held now done → HasReplied expected asked held now done
replied (Ok r) expected asked held now (Ok served) is sent =
    (subst (Appends held now) is.bytes sent.0, sent.1 ∙ is.status, sent.2)
replied (Ok r) expected asked held now (Err fault) is (failed, front) = inr (failed, subst (AppendsFront held now) is.bytes front)
replied (Err e) expected asked held now done is none =
    subst (HasReplied expected asked held now) (sym none.0) (inl (refl, subst (Keeps held) (sym none.1) (Keeps-refl held)))

-- ---- connections

-- a front of a text is one behind another text
front_behind : (before text front : List ℕ) → IsFront front text → IsFront (before ++ front) (before ++ text)
front_behind before text front (missing, is) = (missing, ap (λ t. before ++ t) is ∙ sym (append_assoc before front missing))

module _ (clean : Type 0) (old new : Standing) (input left held mid now : Option (List ℕ)) where
  -- the register dealt with what the bytes ask, and that was the reply
  answered : {written : List ℕ} {done : Result Served LinkFault} {a : Option Dealing} {reply : Reply} (exchange : Exchange) (dealt : HasDealt clean old new exchange reply)
      (t : HasTaken old input left held mid (Ok exchange)) (c : Cluster) (b last : Book) → old c b → IsSound c b → Deals c b dealt.dealing last
      → IsTold (record { read = t.bytes; written = written; done = done; asked = a }) t.written reply
      → IsAnswered c b (record { read = t.bytes; written = written; done = done; asked = a }) dealt.dealing last
  answered {reply = reply} exchange dealt t c b last stood sound deals told = record {
    before = t.written;
    outcome = subst (λ o. IsOutcome (actor_of c b) t.bytes t.written (Ok o)) (sym dealt.is_asked) (t.takes.1 c b stood sound);
    deals = deals;
    reply = reply;
    is_reply = dealt.is_reply;
    told = told;
  }

  -- the register was asked
  pub served_asked : (exchange : Exchange) (done : Result Served LinkFault) → HasTaken old input left held mid (Ok exchange) → HasAnswered clean old new exchange mid now done
      → IsConnection clean old new input left held now done
  served_asked exchange (Ok served) t h = record {
    bytes = t.bytes;
    written = t.written ++ print h.reply;
    consumed = t.consumed;
    appended = Appends-trans _ _ _ _ _ t.appended h.replied.0;
    exchanged = λ cl c b s i.
        let (last, deals, stands) = h.dealt.deals cl c b s i in
        (Some h.dealt.dealing, last, (h.replied.2 ∙ ap is_ask (sym h.dealt.is_asked), answered exchange h.dealt t c b last s i deals (refl, h.replied.1)), stands);
    truncated = λ e. grind (arith, e);
    silent = tt;
    bound = t.bound;
  }
  served_asked exchange (Err fault) t h = unanswered h.replied
    where
      exchanged : (f : LinkFault) (written : List ℕ) → asked_before f ≡ is_ask exchange → IsBrokenOff f written t.written h.reply → clean → InSound old (λ c b. (a : Option Dealing) × (last : Book)
          × IsExchange c b (record { read = t.bytes; written = written; done = Err f; asked = a }) last × new c last)
      exchanged f written before broken cl c b s i =
          let (last, deals, stands) = h.dealt.deals cl c b s i in
          (Some h.dealt.dealing, last, (before ∙ ap is_ask (sym h.dealt.is_asked), answered exchange h.dealt t c b last s i deals broken), stands)

      unanswered : HasReplied h.reply (is_ask exchange) mid now (Err fault) → IsConnection clean old new input left held now (Err fault)
      unanswered (inl (is, keeps)) = subst (λ f. IsConnection clean old new input left held now (Err f)) (sym is) (record {
        bytes = t.bytes;
        written = t.written;
        consumed = t.consumed;
        appended = Appends-kept _ _ _ _ t.appended keeps;
        exchanged = exchanged (NoMemory (is_ask exchange)) t.written refl refl;
        truncated = λ e. grind (arith, e);
        silent = λ _. t.takes.0;
        bound = t.bound;
      })
      unanswered (inr (is, (w, front, appended))) = subst (λ f. IsConnection clean old new input left held now (Err f)) (sym is) (record {
        bytes = t.bytes;
        written = t.written ++ w;
        consumed = t.consumed;
        appended = Appends-trans _ _ _ _ _ t.appended appended;
        exchanged = exchanged (WriteFailed (is_ask exchange)) (t.written ++ w) refl (front_behind t.written _ w front);
        truncated = λ e. grind (arith, e);
        silent = λ e. grind (arith, e);
        bound = t.bound;
      })

module _ (clean : Type 0) (old : Standing) (input left held mid now : Option (List ℕ)) where
  -- nothing was asked, and no reply was written whole
  not_asked : (bytes written : List ℕ) (fault : LinkFault) → asked_before fault ≡ false
      → InSound old (λ c b. IsUnasked c b (record { read = bytes; written = written; done = Err fault; asked = None }) (Err fault)) → clean
      → InSound old (λ c b. (a : Option Dealing) × (last : Book) × IsExchange c b (record { read = bytes; written = written; done = Err fault; asked = a }) last × old c last)
  not_asked bytes written fault before unasked cl c b s i = (None, b, (before, (refl, unasked c b s i)), s)

  -- a reply was to be written without asking
  pub served_unasked : (unasked : Unasked) (reply : Reply) (done : Result Served LinkFault) (t : HasTaken old input left held mid (Err unasked))
      → IsInterim t.bytes t.written → InSound old (λ c b. IsOutcome (actor_of c b) t.bytes t.written (Err unasked))
      → IsReplyWithout unasked reply → HasReplied reply false mid now done → IsConnection clean old old input left held now done
  served_unasked unasked reply (Ok served) t only outcome is_reply h = record {
    bytes = t.bytes;
    written = t.written ++ print reply;
    consumed = t.consumed;
    appended = Appends-trans _ _ _ _ _ t.appended h.0;
    exchanged = λ _ c b s i.
        (None, b, (h.2, (refl, record { before = t.written; unasked = unasked; outcome = outcome c b s i; reply = reply; is_reply = is_reply; told = (refl, h.1) })), s);
    truncated = λ e. grind (arith, e);
    silent = tt;
    bound = t.bound;
  }
  served_unasked unasked reply (Err fault) t only outcome is_reply (inl (is, keeps)) = subst (λ f. IsConnection clean old old input left held now (Err f)) (sym is) (record {
    bytes = t.bytes;
    written = t.written;
    consumed = t.consumed;
    appended = Appends-kept _ _ _ _ t.appended keeps;
    exchanged = not_asked t.bytes t.written (NoMemory false) refl (λ c b s i. only);
    truncated = λ e. grind (arith, e);
    silent = λ _. only;
    bound = t.bound;
  })
  served_unasked unasked reply (Err fault) t only outcome is_reply (inr (is, (w, front, appended))) = subst (λ f. IsConnection clean old old input left held now (Err f)) (sym is) (record {
    bytes = t.bytes;
    written = t.written ++ w;
    consumed = t.consumed;
    appended = Appends-trans _ _ _ _ _ t.appended appended;
    exchanged = not_asked t.bytes (t.written ++ w) (WriteFailed false) refl (λ c b s i.
        inl (record { before = t.written; unasked = unasked; outcome = outcome c b s i; reply = reply; is_reply = is_reply; told = front_behind t.written _ w front }));
    truncated = λ e. grind (arith, e);
    silent = λ e. grind (arith, e);
    bound = t.bound;
  })

  -- what is explained was to be written, or memory was wanting for it
  pub served_explained : {E : Type 0} (word : Option (List ℕ)) (text : Result ReplyText E) (done : Result Served LinkFault) → HasTaken old input left held mid (Err (Explained word))
      → IfOk text (λ (r : ReplyText). (reply : Reply) × IsExplanation word reply × IsReply reply r) → Sends text false mid now done → IsConnection clean old old input left held now done
  served_explained {E} word (Ok text) done t (reply, says, is) sent =
      served_unasked (Explained word) reply done t t.takes.0 t.takes.1 says (replied {E = E} (Ok text) reply false mid now done is sent)
  served_explained {E} word (Err e) done t none (failed, same) = subst (λ d. IsConnection clean old old input left held now d) (sym failed) (record {
    bytes = t.bytes;
    written = t.written;
    consumed = t.consumed;
    appended = Appends-kept _ _ _ _ t.appended (subst (Keeps mid) (sym same) (Keeps-refl mid));
    exchanged = not_asked t.bytes t.written (NoMemory false) refl (λ c b s i. t.takes.0);
    truncated = λ e. grind (arith, e);
    silent = λ _. t.takes.0;
    bound = t.bound;
  })

  -- a fault came before
  pub served_fault : (fault : LinkFault) → HasTaken old input left held mid (Err (Fault fault)) → IsConnection clean old old input left held mid (Err fault)
  served_fault Truncated t = record {
    bytes = t.bytes;
    written = t.written;
    consumed = t.consumed;
    appended = t.appended;
    exchanged = not_asked t.bytes t.written Truncated refl (λ c b s i. t.takes.0);
    truncated = λ _. (t.takes.1, t.takes.2);
    silent = λ _. t.takes.0;
    bound = t.bound;
  }
  served_fault (WriteFailed asked) t = record {
    bytes = t.bytes;
    written = t.written;
    consumed = t.consumed;
    appended = t.appended;
    exchanged = not_asked t.bytes t.written (WriteFailed asked) t.takes.0 (λ c b s i. inr t.takes.1);
    truncated = λ e. grind (arith, e);
    silent = λ e. grind (arith, e);
    bound = t.bound;
  }
  served_fault ReadFailed t = record {
    bytes = t.bytes;
    written = t.written;
    consumed = t.consumed;
    appended = t.appended;
    exchanged = not_asked t.bytes t.written ReadFailed t.takes.0 (λ c b s i. t.takes.1);
    truncated = λ e. grind (arith, e);
    silent = λ _. t.takes.1;
    bound = t.bound;
  }
  served_fault TooManyReads t = record {
    bytes = t.bytes;
    written = t.written;
    consumed = t.consumed;
    appended = t.appended;
    exchanged = not_asked t.bytes t.written TooManyReads t.takes.0 (λ c b s i. t.takes.1);
    truncated = λ e. grind (arith, e);
    silent = λ _. t.takes.1;
    bound = t.bound;
  }
  served_fault (NoMemory asked) t = record {
    bytes = t.bytes;
    written = t.written;
    consumed = t.consumed;
    appended = t.appended;
    exchanged = not_asked t.bytes t.written (NoMemory asked) t.takes.0 (λ c b s i. t.takes.1);
    truncated = λ e. grind (arith, e);
    silent = λ _. t.takes.1;
    bound = t.bound;
  }
