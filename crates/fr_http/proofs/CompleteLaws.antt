-- Laws of complete requests.
use Rattle.std.proofs.Common.{◌≡◌, ◌≢◌, ℕ, ◌≤◌, ◌<◌, ◌+◌, Bool, true, false, List, [], ◌++◌, length, take, drop, Option, Some, None, Result, Ok, Err, ◌⊎◌, refl, sym, ap, ◌∙◌, subst, append-nil, append_assoc, length-append, arith, inl, inr, true≢false}
use Rattle.std.proofs.Math.Seq.{take-append_seam, take-append-add}
use Rattle.std.proofs.lemmas.List.{length-take, take_all, take-append-drop, take-append-le}
use Rattle.std.proofs.lemmas.Bool.{le-leb, lt-leb}
use Rattle.httparse.proofs.GrammarLemmas.{request_unique}
use Rattle.httparse.specs.Grammar.{EndsInTarget, HasNoRequest, MayBecomeRequest, NeverHasRequest, ReadsRequest, RequestHead, print_request}
use Rattle.httparse.specs.Spans.{IsRequestOf, IsRequestWithin, RequestExceeds, RequestOverflows}
use Rattle.httparse.specs.declared.spans.HeaderSpan.{HeaderSpan}
use Rattle.httparse.specs.declared.spans.RequestSpans.{RequestSpans}
use Rattle.httparse.specs.declared.Error.{Error}
use Rattle.httparse.specs.declared.Error.TheVariants.{HeaderName, HeaderValue, NewLine, Status, Token, TooManyHeaders, Version}
use Rattle.fr_base.specs.Refusing.{◌>>=◌, ◌>>◌, ◌or◌}
use Rattle.fr_base.specs.declared.actor.Actor.{Actor}
use Rattle.fr_base.specs.declared.refusal.Refusal.TheVariants.{UnknownKey}
use Rattle.fr_http.specs.Complete.{IsCut, IsCutOutcome, IsEnough, IsKnown, IsOpen, Needs, needed}
use Rattle.fr_http.specs.Head.{BeginsWith, HasNoHead, HeadData, key_of, max_fields, max_head, said}
use Rattle.fr_http.specs.Outcome.{HeadFails, IsOutcome, Wanted, asked_by, by_engine, continue_if, due, front, holder, interim, outcome_of, plan_of}
use Rattle.fr_http.specs.Received.{shown}
use Rattle.fr_http.specs.Routes.{method_of, operation_by, path_of}
use Rattle.fr_http.specs.declared.exchange.Exchange.{Exchange}
use Rattle.fr_http.specs.declared.exchange.Operation.{Operation}
use Rattle.fr_http.specs.declared.fault.LinkFault.TheVariants.{NoMemory, ReadFailed, TooManyReads, Truncated, WriteFailed}
use Rattle.fr_http.specs.declared.fault.Rejection.{Rejection}
use Rattle.fr_http.specs.declared.fault.Rejection.TheVariants.{BadRequest, HeadTooLarge, LengthRequired, MethodNotAllowed, NotFound, NotImplemented, PayloadTooLarge}
use Rattle.fr_http.specs.declared.fault.Unasked.{Unasked}
use Rattle.fr_http.specs.declared.fault.Unasked.TheVariants.{Engine, Explained, Fault, Page, Refused}
use Rattle.fr_http.specs.declared.method.Method.{Method}
use Rattle.fr_http.proofs.OutcomeLaws.{outcome-one}
use Rattle.fr_http.proofs.ReadingLaws.{never_head, no_head, receives}
use Rattle.fr_http.proofs.ServeLaws.{begins_more, cut, interim_none, interim_planned, is_fault, rejected, why_not}

-- ---- where a head is there

-- the outcome of bytes that begin with a head
by_head : (who : List ℕ → Option Actor) (bytes rest : List ℕ) (h : RequestHead) → BeginsWith bytes h rest → IsOutcome who bytes (interim (said h)) (outcome_of who (said h) rest)
by_head who bytes rest h begins = inl (record { head = h; rest = rest; begins = begins; asks = refl; interim = refl })

-- the same, of which this is another name
by_head_as : (who : List ℕ → Option Actor) (bytes rest written : List ℕ) (outcome : Result Exchange Unasked) (h : RequestHead) → BeginsWith bytes h rest
    → interim (said h) ≡ written → outcome_of who (said h) rest ≡ outcome → IsOutcome who bytes written outcome
by_head_as who bytes rest written outcome h begins told is = inl (record { head = h; rest = rest; begins = begins; asks = sym is; interim = sym told })

-- a head and so many bytes behind it
front_begins : (bytes rest : List ℕ) (h : RequestHead) (n : ℕ) → BeginsWith bytes h rest → BeginsWith (take (length (print_request h) + n) bytes) h (take n rest)
front_begins bytes rest h n begins = record {
  reads = (begins.reads.0, ap (take (length (print_request h) + n)) begins.reads.1 ∙ take-append-add (print_request h) rest n);
  size = begins.size;
  lines = begins.lines;
}

-- the body is the same, whatever follows it
front_of_front : (n : ℕ) (rest : List ℕ) → n ≤ length rest → front n (take n rest) ≡ front n rest
front_of_front n rest enough =
    let size : n ≤ length (take n rest) = omega (arith, enough, length-take n rest) in
    let twice : take n (take n rest) ≡ take n rest = take_all n (take n rest) (omega (arith, length-take n rest)) in
    rw (le-leb n (length (take n rest)) size) (rw (le-leb n (length rest) enough) (ap (λ b. Some b) twice))

front_there : (n : ℕ) (rest : List ℕ) → n ≤ length rest → front n rest ≡ Some (take n rest)
front_there n rest enough = rw (le-leb n (length rest) enough) refl

front_short : (n : ℕ) (rest : List ℕ) → length rest < n → front n rest ≡ None
front_short n rest short = rw (lt-leb n (length rest) short) refl

-- what the body is decides the outcome
same_body : (who : List ℕ → Option Actor) (head : HeadData) (rest other : List ℕ) (w : Wanted) → plan_of head ≡ Ok w → front w.length rest ≡ front w.length other
    → outcome_of who head rest ≡ outcome_of who head other
unfolding outcome_of ◌>>=◌ ◌>>◌ ◌or◌
same_body who head rest other w plan same = rw plan (rw same refl)

-- ---- a whole body is not cut short

-- the last lines of an outcome
abbrev ends : (List ℕ → Option Actor) → HeadData → Method → Result Operation Unasked → Result Exchange Unasked
ends who head method made = do
  what ← made
  actor ← holder who (key_of head) or Refused UnknownKey
  Ok (asked_by actor method what)

found_or_not : (found : Option Actor) (what : Operation) (method : Method) → ((found or Refused UnknownKey) >>= (λ actor. Ok (asked_by actor method what))) ≢ Err (Fault Truncated)
unfolding ◌>>=◌ ◌or◌
found_or_not None what method is = absurd cc
found_or_not (Some actor) what method is = absurd cc

refused : (unasked : Unasked) → is_fault unasked ≡ false → unasked ≢ Fault Truncated
refused unasked none is = true≢false (sym (ap is_fault is) ∙ none)

cause_of : Result Exchange Unasked → Unasked
cause_of (Ok exchange) = Explained None
cause_of (Err unasked) = unasked

made_or_not : (who : List ℕ → Option Actor) (head : HeadData) (method : Method) (made : Result Operation Unasked)
    → ((unasked : Unasked) → made ≡ Err unasked → is_fault unasked ≡ false) → ends who head method made ≢ Err (Fault Truncated)
unfolding ◌>>=◌ cause_of
made_or_not who head method (Ok what) why is = found_or_not (holder who (key_of head)) what method is
made_or_not who head method (Err unasked) why is = refused unasked (why unasked refl) (ap cause_of is)

whole : (who : List ℕ → Option Actor) (head : HeadData) (rest body : List ℕ) (w : Wanted) → plan_of head ≡ Ok w → front w.length rest ≡ Some body
    → outcome_of who head rest ≢ Err (Fault Truncated)
unfolding outcome_of ◌>>=◌ ◌>>◌ ◌or◌
whole who head rest body w plan there is =
    let ended : ends who head (method_of w.route) (operation_by w.route (path_of head.target) head.fields body) ≡ outcome_of who head rest = rw plan (rw there refl) in
    made_or_not who head (method_of w.route) (operation_by w.route (path_of head.target) head.fields body) (why_not w.route (path_of head.target) head.fields body) (ended ∙ is)

-- ---- what is needed behind a head

module _ (bytes rest : List ℕ) (h : RequestHead) (begins : BeginsWith bytes h rest) where
  size : (more : List ℕ) → length (bytes ++ more) ≡ length (print_request h) + length (rest ++ more)
  size more = ap length (begins_more bytes more rest h begins).reads.1 ∙ length-append (print_request h) (rest ++ more)

  -- the engine answers to the head
  known_rejected : (r : Rejection) → plan_of (said h) ≡ Err r → IsKnown bytes (length (print_request h)) false
  known_rejected r plan = record {
    enough = λ who more there. (
      Err (Engine r),
      subst (λ n. IsOutcome who (take n (bytes ++ more)) [] (Err (Engine r))) (omega arith)
          (by_head_as who _ _ [] _ h (front_begins (bytes ++ more) (rest ++ more) h 0 (begins_more bytes more rest h begins)) (interim_none (said h) r plan) (rejected who (said h) _ r plan)),
      by_head_as who _ _ [] _ h (begins_more bytes more rest h begins) (interim_none (said h) r plan) (rejected who (said h) _ r plan),
      (λ is. absurd cc),
    );
    short = λ who more short. absurd (omega (arith, short, size more));
  }

  known_planned : (w : Wanted) → plan_of (said h) ≡ Ok w → IsKnown bytes (length (print_request h) + w.length) (due w.length (said h))
  known_planned w plan = record {
    enough = λ who more there.
        let all = begins_more bytes more rest h begins in
        let body : w.length ≤ length (rest ++ more) = omega (arith, there, size more) in (
          outcome_of who (said h) (rest ++ more),
          by_head_as who _ _ _ _ h (front_begins (bytes ++ more) (rest ++ more) h w.length all) (interim_planned (said h) w plan)
              (same_body who (said h) _ _ w plan (front_of_front w.length (rest ++ more) body)),
          by_head_as who _ _ _ _ h all (interim_planned (said h) w plan) refl,
          whole who (said h) (rest ++ more) _ w plan (front_there w.length (rest ++ more) body),
        );
    short = λ who more short written outcome is.
        let all = begins_more bytes more rest h begins in
        let few : length (rest ++ more) < w.length = omega (arith, short, size more) in
        let other = outcome-one who (bytes ++ more) written (interim (said h)) outcome (outcome_of who (said h) (rest ++ more)) h (rest ++ more) all is (by_head who _ _ h all) in
        (other.0 ∙ cut who (said h) (rest ++ more) w plan (front_short w.length (rest ++ more) few), other.1 ∙ interim_planned (said h) w plan);
  }

  needs_planned : (plan : Result Wanted Rejection) → plan_of (said h) ≡ plan → Needs bytes (needed (length (print_request h)) (said h) plan)
  needs_planned (Ok w) plan = known_planned w plan
  needs_planned (Err r) plan = known_rejected r plan

-- what a request needs that has this head
pub needs_behind : (bytes rest : List ℕ) (h : RequestHead) → BeginsWith bytes h rest → Needs bytes (needed (length (print_request h)) (said h) (plan_of (said h)))
needs_behind bytes rest h begins = needs_planned bytes rest h begins (plan_of (said h)) refl

-- the same of a head whose parts lie at these places
pub needs_at : (bytes : List ℕ) (fields : List HeaderSpan) (spans : RequestSpans) → spans.len ≤ max_head → length fields ≡ max_fields
    → IsRequestWithin bytes fields spans → IsRequestOf bytes fields spans
    → Needs bytes (needed spans.len (shown bytes fields spans).0 (plan_of (shown bytes fields spans).0))
needs_at bytes fields spans short room within (h, at) =
    let (k, begins, head) = receives bytes fields spans short room within (h, at) in
    let same = request_unique bytes h k _ _ at.reads begins.reads in
    let size : spans.len ≡ length (print_request k) = at.len ∙ ap (λ g. length (print_request g)) same.0 in
    subst (λ n. Needs bytes (needed n (shown bytes fields spans).0 (plan_of (shown bytes fields spans).0))) (sym size)
    (subst (λ d. Needs bytes (needed (length (print_request k)) d (plan_of d))) (sym head) (needs_behind bytes _ k begins))

-- ---- where no head can come of the bytes

-- what the bytes fail by they fail by whatever follows
pub known_alone : (bytes : List ℕ) (r : Rejection) → ((more : List ℕ) → HasNoHead (bytes ++ more)) → ((more : List ℕ) → HeadFails (bytes ++ more) (Engine r))
    → IsKnown bytes (length bytes) false
known_alone bytes r none fails =
    let alone : (more : List ℕ) (who : List ℕ → Option Actor) → IsOutcome who (bytes ++ more) [] (Err (Engine r)) = (λ more who.
    inr (record { none = none more; unasked = Engine r; fails = fails more; asks = refl; interim = refl })) in
    record {
      enough = λ who more there. (
        Err (Engine r),
        subst (λ b. IsOutcome who b [] (Err (Engine r))) (append-nil bytes ∙ sym (take-append_seam bytes more)) (alone [] who),
        alone more who,
        (λ is. absurd cc),
      );
      short = λ who more short. absurd (omega (arith, short, length-append bytes more));
    }

-- no bytes that follow make them a head
pub never_known : (bytes : List ℕ) → NeverHasRequest bytes → IsKnown bytes (length bytes) false
never_known bytes never =
    let still : (more : List ℕ) → NeverHasRequest (bytes ++ more) = (λ more further. subst HasNoRequest (sym (append_assoc bytes more further)) (never (more ++ further))) in
    known_alone bytes BadRequest (λ more. never_head (bytes ++ more) (still more)) still

-- they have too many fields
pub crowded_known : (bytes : List ℕ) → RequestOverflows max_fields bytes → RequestExceeds max_fields bytes → IsKnown bytes (length bytes) false
crowded_known bytes over (first, rest, is, head, reads, many) =
    known_alone bytes HeadTooLarge
    (λ more h behind begins. absurd (omega (arith, over more h behind begins.reads, begins.lines)))
    (λ more. inr (first, rest ++ more, ap (λ b. b ++ more) is ∙ append_assoc first rest more, head, reads, many))

-- a head that is a front of all is one of the first bytes, where it is not longer than these
head_of_front : (bytes more rest : List ℕ) (h : RequestHead) → BeginsWith (bytes ++ more) h rest → max_head ≤ length bytes
    → BeginsWith bytes h (drop (length (print_request h)) bytes)
head_of_front bytes more rest h begins long =
    let n = length (print_request h) in
    let fits : n ≤ length bytes = omega (arith, long, begins.size) in
    let first : take n bytes ≡ print_request h =
    sym (take-append-le n bytes more fits) ∙ ap (take n) begins.reads.1 ∙ take-append_seam (print_request h) rest in
    record {
      reads = (begins.reads.0, sym (take-append-drop n bytes) ∙ ap (λ b. b ++ drop n bytes) first);
      size = begins.size;
      lines = begins.lines;
    }

-- they are too long for one
pub long_known : (bytes : List ℕ) → HasNoHead bytes → max_head ≤ length bytes → IsKnown bytes (length bytes) false
long_known bytes none long =
    known_alone bytes HeadTooLarge
    (λ more h rest begins. none h _ (head_of_front bytes more rest h begins long))
    (λ more. inl (omega (arith, long, length-append bytes more)))

-- the head that they begin with is too long
pub long_head : (bytes rest : List ℕ) (h : RequestHead) → ReadsRequest bytes h rest → max_head < length (print_request h) → HasNoHead bytes
long_head bytes rest h reads long k behind begins =
    let same = request_unique bytes h k rest behind reads begins.reads in
    absurd (omega (arith, long, begins.size, ap (λ g. length (print_request g)) same.0))

-- the head at these places is too long
pub long_known_at : (bytes : List ℕ) (fields : List HeaderSpan) (spans : RequestSpans) → max_head < spans.len → IsRequestWithin bytes fields spans → IsRequestOf bytes fields spans
    → IsKnown bytes (length bytes) false
long_known_at bytes fields spans long within (h, at) =
    long_known bytes (long_head bytes _ h at.reads (omega (arith, long, at.len))) (omega (arith, long, within.section.len_fits))

-- why no head came
pub failed_known : (bytes : List ℕ) (e : Error) → (e ≢ TooManyHeaders → NeverHasRequest bytes) → (e ≡ TooManyHeaders → RequestExceeds max_fields bytes) → RequestOverflows max_fields bytes
    → IsKnown bytes (length bytes) false
failed_known bytes TooManyHeaders never many over = crowded_known bytes over (many refl)
failed_known bytes HeaderName never many over = never_known bytes (never (λ is. absurd cc))
failed_known bytes HeaderValue never many over = never_known bytes (never (λ is. absurd cc))
failed_known bytes NewLine never many over = never_known bytes (never (λ is. absurd cc))
failed_known bytes Status never many over = never_known bytes (never (λ is. absurd cc))
failed_known bytes Token never many over = never_known bytes (never (λ is. absurd cc))
failed_known bytes Version never many over = never_known bytes (never (λ is. absurd cc))

-- ---- where more has to come

-- where bytes may follow that make them a head, and none can, they end in a target
in_target : (bytes : List ℕ) → MayBecomeRequest bytes → NeverHasRequest bytes → EndsInTarget bytes
in_target bytes (inl (more, h, reads)) never = absurd (never more h [] reads)
in_target bytes (inr ends) never = ends

-- what may be said of bytes that are no head yet
cut_outcome : (bytes : List ℕ) (unasked : Unasked) → MayBecomeRequest bytes → length bytes < max_head → HeadFails bytes unasked → IsCutOutcome bytes (Err unasked)
cut_outcome bytes (Fault Truncated) may short fails = inl refl
cut_outcome bytes (Engine BadRequest) may short never = inr (inl (refl, in_target bytes may never, never))
cut_outcome bytes (Engine HeadTooLarge) may short (inl long) = absurd (omega (arith, long, short))
cut_outcome bytes (Engine HeadTooLarge) may short (inr many) = inr (inr (refl, many))
cut_outcome bytes (Engine NotFound) may short fails = absurd fails
cut_outcome bytes (Engine (MethodNotAllowed methods)) may short fails = absurd fails
cut_outcome bytes (Engine LengthRequired) may short fails = absurd fails
cut_outcome bytes (Engine PayloadTooLarge) may short fails = absurd fails
cut_outcome bytes (Engine NotImplemented) may short fails = absurd fails
cut_outcome bytes (Page part held) may short fails = absurd fails
cut_outcome bytes (Explained word) may short fails = absurd fails
cut_outcome bytes (Refused refusal) may short fails = absurd fails
cut_outcome bytes (Fault ReadFailed) may short fails = absurd fails
cut_outcome bytes (Fault TooManyReads) may short fails = absurd fails
cut_outcome bytes (Fault (WriteFailed asked)) may short fails = absurd fails
cut_outcome bytes (Fault (NoMemory asked)) may short fails = absurd fails

cut_alone : (bytes : List ℕ) → HasNoHead bytes → MayBecomeRequest bytes → length bytes < max_head → (who : List ℕ → Option Actor) (written : List ℕ)
    (outcome : Result Exchange Unasked) → IsOutcome who bytes written outcome → IsCutOutcome bytes outcome × (written ≡ [])
cut_alone bytes none may short who written outcome (inl o) = absurd (none o.head o.rest o.begins)
cut_alone bytes none may short who written outcome (inr o) = (subst (IsCutOutcome bytes) (sym o.asks) (cut_outcome bytes o.unasked may short o.fails), o.interim)

pub open_bytes : (bytes : List ℕ) → HasNoRequest bytes → MayBecomeRequest bytes → length bytes < max_head → IsOpen bytes
open_bytes bytes none may short = record {
  none = no_head bytes none;
  cut = λ who. inr (record { none = no_head bytes none; unasked = Fault Truncated; fails = (short, may); asks = refl; interim = refl });
  only = cut_alone bytes (no_head bytes none) may short;
}
