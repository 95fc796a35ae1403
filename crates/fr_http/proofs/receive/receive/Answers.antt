use Rattle.std.proofs.Common.{arith, rules, ◌≡◌, ◌≤◌, ◌-◌, ◌++◌, refl, sym, ap, ◌∙◌, subst, take, length, inr}
use Rattle.std.proofs.KnownBytes.{Consumes-trans}
use Rattle.std.proofs.lemmas.List.{take-append-le}
use Rattle.std.specs.Io.KnownBytes.{Consumes}
use Rattle.httparse.specs.Grammar.{HasNoRequest, MayBecomeRequest, NeverHasRequest}
use Rattle.httparse.specs.Spans.{IsRequestOf, IsRequestWithin, RequestExceeds, RequestOverflows}
use Rattle.fr_http.specs.Reading.{Receives}
use Rattle.fr_http.proofs.ReadingLaws.{crowded_head, may_become_at_first, never_head, no_request_at_first, receives, within_room}
use Rattle.fr_http.proofs.ReadsLaws.{spends_more, spends_none}
use Rattle.fr_http.proofs.receive.receive.Goals as goal

pub loop-fields-init : goal.loop-fields-init
loop-fields-init g c = record {
  same = refl;
  room = refl;
  size = search rules;
  consumed = search rules;
  none = subst HasNoRequest (sym c.new-bytes.ensures.items) no_request_at_first;
  unfinished = subst MayBecomeRequest (sym c.new-bytes.ensures.items) may_become_at_first;
  spends = spends_none g.R.Source.reads _ _;
}

pub loop-fields-preserved : goal.loop-fields-preserved
loop-fields-preserved g c =
    let l = c.loop-fields in
    let bytes = c.extend_from_slice.new.self.items in
    let more = take c.in_ok-n.n c.read.new.piece in
    let items : bytes ≡ l.bytes.items ++ more = c.in_ok-extend_from_slice.ensures.items ∙ ap (λ t. l.bytes.items ++ t) (take-append-le c.in_ok-n.n c.read.new.piece _ c.in_ok-n.ensures.piece.does.bound) in
    let before : Consumes (g.R.Read.remaining c.args.input.now.reader.now) (g.R.Read.remaining c.read.new.self.reader.now) (l.bytes.items ++ more) =
    Consumes-trans _ _ _ _ _ l.invariant.consumed c.in_ok-n.ensures.piece.does.bytes in
    record {
      same = c.in_ok-n.ensures.piece.same_reader ∙ l.invariant.same;
      room = search rules;
      size = search rules;
      consumed = subst (Consumes _ _) (sym items) before;
      none = search rules;
      unfinished = search rules;
      spends = spends_more g.R.Source.reads _ _ _ _ _ _ l.invariant.spends c.in_ok-n.ensures.reads.spends;
    }

pub returns-in-Ok-Complete-clause-received : goal.returns-in-Ok-Complete-clause-received
returns-in-Ok-Complete-clause-received g c =
    let l = c.loop-fields in
    let bytes = c.extend_from_slice.new.self.items in
    let more = take c.in_ok-n.n c.read.new.piece in
    let items : bytes ≡ l.bytes.items ++ more = c.in_ok-extend_from_slice.ensures.items ∙ ap (λ t. l.bytes.items ++ t) (take-append-le c.in_ok-n.n c.read.new.piece _ c.in_ok-n.ensures.piece.does.bound) in
    let before : Consumes (g.R.Read.remaining c.args.input.now.reader.now) (g.R.Read.remaining c.read.new.self.reader.now) (l.bytes.items ++ more) =
    Consumes-trans _ _ _ _ _ l.invariant.consumed c.in_ok-n.ensures.piece.does.bytes in
    let fields = c.parse_request.new.headers in
    let spans = c.in-Ok-Complete.spans in
    let seen = c.deref.result.now in
    let same : seen ≡ bytes = c.deref.ensures.value in
    let within : IsRequestWithin seen fields spans = search (rules, c.in-Ok-Complete.ensures.within) in
    let of : IsRequestOf seen fields spans = search (rules, c.in-Ok-Complete.ensures.complete) in
    let size : length bytes ≤ 8192 = search rules in
    let room : length fields ≡ 64 = search rules in
    let inside : IsRequestWithin bytes fields spans = subst (λ b. IsRequestWithin b fields spans) same within in
    let short : spans.len ≤ 8192 = omega (arith, size, inside.section.len_fits) in
    record {
      does = (bytes, subst (Consumes _ _) (sym items) before, subst (Receives bytes) (sym c.new.ensures) (receives bytes fields spans short room inside (subst (λ b. IsRequestOf b fields spans) same of)), size);
      same_reader = search rules;
    }

pub returns-in_err-extend_from_slice-clause-received : goal.returns-in_err-extend_from_slice-clause-received
returns-in_err-extend_from_slice-clause-received g c =
    let l = c.loop-fields in
    let size : length l.bytes.items ≤ 8192 = search rules in
    let room : length c.read.new.piece ≡ 8192 - length l.bytes.items = search rules in
    record {
      does = (
        l.bytes.items ++ take c.in_ok-n.n c.read.new.piece,
        Consumes-trans _ _ _ _ _ l.invariant.consumed c.in_ok-n.ensures.piece.does.bytes,
        search rules,
        within_room 8192 c.in_ok-n.n l.bytes.items c.read.new.piece size room,
      );
      same_reader = search rules;
    }

pub returns-in-Err : goal.returns-in-Err
returns-in-Err g c =
    let l = c.loop-fields in
    let bytes = c.extend_from_slice.new.self.items in
    let more = take c.in_ok-n.n c.read.new.piece in
    let items : bytes ≡ l.bytes.items ++ more = c.in_ok-extend_from_slice.ensures.items ∙ ap (λ t. l.bytes.items ++ t) (take-append-le c.in_ok-n.n c.read.new.piece _ c.in_ok-n.ensures.piece.does.bound) in
    let before : Consumes (g.R.Read.remaining c.args.input.now.reader.now) (g.R.Read.remaining c.read.new.self.reader.now) (l.bytes.items ++ more) =
    Consumes-trans _ _ _ _ _ l.invariant.consumed c.in_ok-n.ensures.piece.does.bytes in
    let seen : NeverHasRequest c.deref.result.now = search rules in
    let never : NeverHasRequest bytes = subst NeverHasRequest c.deref.ensures.value seen in
    let size : length bytes ≤ 8192 = search rules in
    record {
      received = record {
        does = (bytes, subst (Consumes _ _) (sym items) before, record { none = never_head bytes never; fails = never }, size);
        same_reader = c.in_ok-n.ensures.piece.same_reader ∙ l.invariant.same;
      };
      reads = record { spends = spends_more g.R.Source.reads _ _ _ _ _ _ l.invariant.spends c.in_ok-n.ensures.reads.spends; ended = tt };
    }

pub returns-in-Err-TooManyHeaders-clause-received : goal.returns-in-Err-TooManyHeaders-clause-received
returns-in-Err-TooManyHeaders-clause-received g c =
    let l = c.loop-fields in
    let bytes = c.extend_from_slice.new.self.items in
    let more = take c.in_ok-n.n c.read.new.piece in
    let items : bytes ≡ l.bytes.items ++ more = c.in_ok-extend_from_slice.ensures.items ∙ ap (λ t. l.bytes.items ++ t) (take-append-le c.in_ok-n.n c.read.new.piece _ c.in_ok-n.ensures.piece.does.bound) in
    let before : Consumes (g.R.Read.remaining c.args.input.now.reader.now) (g.R.Read.remaining c.read.new.self.reader.now) (l.bytes.items ++ more) =
    Consumes-trans _ _ _ _ _ l.invariant.consumed c.in_ok-n.ensures.piece.does.bytes in
    let same : c.deref.result.now ≡ bytes = c.deref.ensures.value in
    let over : RequestOverflows 64 bytes = subst (λ b. RequestOverflows 64 b) same (subst (λ k. RequestOverflows k c.deref.result.now) l.invariant.room c.in-Err-TooManyHeaders.ensures.no_room) in
    let many : RequestExceeds (length l.fields) c.deref.result.now = search (rules, c.in-Err-TooManyHeaders.ensures.too_many) in
    let exceeds : RequestExceeds 64 bytes = subst (λ b. RequestExceeds 64 b) same (subst (λ k. RequestExceeds k c.deref.result.now) l.invariant.room many) in
    let size : length bytes ≤ 8192 = search rules in
    record {
      does = (bytes, subst (Consumes _ _) (sym items) before, record { none = crowded_head bytes over; fails = inr exceeds }, size);
      same_reader = c.in_ok-n.ensures.piece.same_reader ∙ l.invariant.same;
    }
