use Rattle.std.proofs.Common.{◌≡◌, ◌≤◌, Err, length, arith, rules, sym, subst, ap}
use Rattle.httparse.specs.Grammar.{HasNoRequest}
use Rattle.httparse.specs.Spans.{IsRequestOf, IsRequestWithin}
use Rattle.fr_http.specs.Complete.{Needs, needed}
use Rattle.fr_http.specs.Outcome.{plan_of}
use Rattle.fr_http.proofs.CompleteLaws.{failed_known, long_known, long_known_at, needs_at}
use Rattle.fr_http.proofs.ReadingLaws.{no_head}
use Rattle.fr_http.proofs.engine.Engine.need_of.Goals as goal

pub returns-then-length-gt-MAX_HEAD : goal.returns-then-length-gt-MAX_HEAD
returns-then-length-gt-MAX_HEAD c =
    let bytes = c.args.bytes.now in
    let fields = c.parse_request.new.headers in
    let spans = c.in-Ok-Complete.spans in
    let within : IsRequestWithin bytes fields spans = search (rules, c.in-Ok-Complete.ensures.within) in
    let of : IsRequestOf bytes fields spans = search (rules, c.in-Ok-Complete.ensures.complete) in
    long_known_at bytes fields spans (omega (arith, c.if-length-gt-MAX_HEAD.true)) within of

pub returns-else-length-gt-MAX_HEAD : goal.returns-else-length-gt-MAX_HEAD
returns-else-length-gt-MAX_HEAD c =
    let bytes = c.args.bytes.now in
    let fields = c.parse_request.new.headers in
    let spans = c.in-Ok-Complete.spans in
    let within : IsRequestWithin bytes fields spans = search (rules, c.in-Ok-Complete.ensures.within) in
    let of : IsRequestOf bytes fields spans = search (rules, c.in-Ok-Complete.ensures.complete) in
    let room : length fields ≡ 64 = search rules in
    let short : spans.len ≤ 8192 = omega (arith, c.if-length-gt-MAX_HEAD.false) in
    let is : c.need_behind.result ≡ needed spans.len c.new.result.0 (plan_of c.new.result.0) = c.need_behind.ensures in
    subst (Needs bytes) (sym is)
    (subst (λ d. Needs bytes (needed spans.len d.0 (plan_of d.0))) (sym c.new.ensures) (needs_at bytes fields spans short room within of))

pub returns-else-bytes-lt-MAX_HEAD : goal.returns-else-bytes-lt-MAX_HEAD
returns-else-bytes-lt-MAX_HEAD c =
    let none : HasNoRequest c.args.bytes.now = search (rules, c.in-Ok-Partial.ensures.partial) in
    long_known c.args.bytes.now (no_head c.args.bytes.now none) (omega (arith, c.if-bytes-lt-MAX_HEAD.false))

pub returns-in-Err : goal.returns-in-Err
returns-in-Err c =
    let e = c.in-Err.field-0 in
    failed_known c.args.bytes.now e c.in-Err.ensures.invalid (λ is. c.in-Err.ensures.too_many (ap (λ f. Err f) is)) c.in-Err.ensures.no_room
