-- Laws of what is read of a connection.
use Rattle.std.proofs.Common.{◌≡◌, ℕ, ◌<◌, ◌≤◌, ◌+◌, ◌-◌, List, [], ◌++◌, length, take, map, Some, None, refl, sym, ap, ◌∙◌, subst, arith, append-nil, append_assoc, length-append, inl, lit<, lit≤}
use Rattle.std.specs.Prelude.{codes, slice_index, zero, suc}
use Rattle.std.proofs.lemmas.List.{take_all, length-map, length-take}
use Rattle.std.proofs.lemmas.List.Elements.{All-nil}
use Rattle.std.proofs.lemmas.List.Sums.{AllPass-from_list_all}
use Rattle.std.proofs.lemmas.Str.{IsUtf8-from_ascii}
use Rattle.std.proofs.lemmas.Bool.{le-leb, lt-leb}
use Rattle.httparse.specs.Grammar.{HasNoRequest, IsRequestHead, MayBecomeRequest, NeverHasRequest, RequestHead, crlf, is_token_byte, is_uri_byte, print_request}
use Rattle.httparse.specs.Spans.{IsRequestAt, IsRequestOf, IsRequestWithin, RequestOverflows, header_bytes, name_and_value}
use Rattle.httparse.specs.declared.spans.HeaderSpan.{HeaderSpan}
use Rattle.httparse.specs.declared.spans.RequestSpans.{RequestSpans}
use Rattle.fr_http.specs.Head.{HasNoHead, max_fields, max_head, said}
use Rattle.fr_http.specs.Outcome.{front}
use Rattle.fr_http.specs.Reading.{Receives}
use Rattle.fr_http.specs.Received.{shown}

-- ---- heads

pub no_request_at_first : HasNoRequest []
unfolding print_request
no_request_at_first h rest reads = grind (arith, ap length reads.1, length-append, reads.0.method.0)

-- a short head
short_head : RequestHead
short_head = record { blank = []; method = codes "GET"; target = codes "/"; minor = 1; line_end = crlf; fields = []; last = crlf }

slash_is_ascii : (i : ℕ) → slice_index (codes "/") i < 128
slash_is_ascii zero = lit< tt
slash_is_ascii (suc i) = lit< tt

short_head-is : IsRequestHead short_head
unfolding short_head is_token_byte
short_head-is = record {
  method = (lit< tt, AllPass-from_list_all is_token_byte (codes "GET") refl);
  target = (lit< tt, AllPass-from_list_all is_uri_byte (codes "/") refl);
  target_text = IsUtf8-from_ascii (codes "/") slash_is_ascii;
  minor = lit≤ tt;
  fields = All-nil _;
}

pub may_become_at_first : MayBecomeRequest []
may_become_at_first = inl (print_request short_head, short_head, (short_head-is, sym (append-nil (print_request short_head))))

pub no_head : (bytes : List ℕ) → HasNoRequest bytes → HasNoHead bytes
no_head bytes none h rest begins = none h rest begins.reads

pub never_head : (bytes : List ℕ) → NeverHasRequest bytes → HasNoHead bytes
never_head bytes never h rest begins = never [] h rest (begins.reads.0, append-nil bytes ∙ begins.reads.1)

pub crowded_head : (bytes : List ℕ) → RequestOverflows max_fields bytes → HasNoHead bytes
crowded_head bytes crowded h rest begins = absurd (omega (arith, crowded [] h rest (begins.reads.0, append-nil bytes ∙ begins.reads.1), begins.lines))

received_at : (bytes : List ℕ) (fields : List HeaderSpan) (spans : RequestSpans) (h : RequestHead) → IsRequestAt bytes fields spans h → (shown bytes fields spans).0 ≡ said h
received_at bytes fields spans h at = λ i. record { method = at.method i; target = at.path i; minor = at.version i; fields = at.fields i }

-- the spans of a whole head show it
pub receives : (bytes : List ℕ) (fields : List HeaderSpan) (spans : RequestSpans) → spans.len ≤ max_head → length fields ≡ max_fields
    → IsRequestWithin bytes fields spans → IsRequestOf bytes fields spans → Receives bytes (shown bytes fields spans)
receives bytes fields spans size room within (h, at) =
    let count : length (map (header_bytes bytes) (take spans.headers fields)) ≡ length (map name_and_value h.fields) = ap length at.fields in
    let lines : length h.fields ≤ max_fields = omega (arith, sym (length-map (take spans.headers fields) (header_bytes bytes)) ∙ count ∙ length-map h.fields name_and_value, length-take spans.headers fields, room) in
    (h, record { reads = at.reads; size = omega (arith, at.len, size); lines = lines }, received_at bytes fields spans h at)

-- what is read into the room that is left stays within the bound
pub within_room : (k n : ℕ) (bytes piece : List ℕ) → length bytes ≤ k → length piece ≡ k - length bytes → length (bytes ++ take n piece) ≤ k
within_room k n bytes piece size room = omega (arith, size, room, length-append bytes (take n piece), length-take n piece)

-- ---- bodies

whole : (n : ℕ) (bytes : List ℕ) → length (take n bytes) < n → take n bytes ≡ bytes
whole n bytes short = take_all n bytes (omega (arith, short, length-take n bytes))

-- a body that is still too short is all that came
pub cut_short : (n : ℕ) (bytes body : List ℕ) → body ≡ take n bytes → length body < n → front n bytes ≡ None
cut_short n bytes body is short =
    let size : length bytes < n = omega (arith, short, ap length is, length-take n bytes) in
    rw (lt-leb n (length bytes) size) refl

pub complete : (n : ℕ) (bytes body : List ℕ) → body ≡ take n bytes → n ≤ length body → front n bytes ≡ Some body
complete n bytes body is enough =
    let size : n ≤ length bytes = omega (arith, enough, ap length is, length-take n bytes) in
    rw (le-leb n (length bytes) size) (ap (λ b. Some b) (sym is))

pub longer : (n : ℕ) (begun read more body : List ℕ) → body ≡ take n (begun ++ read) → length body < n → length body + length more ≤ n
    → body ++ more ≡ take n (begun ++ (read ++ more))
longer n begun read more body is short room =
    let all : body ≡ begun ++ read = is ∙ whole n (begun ++ read) (subst (λ b. length b < n) is short) in
    let both : body ++ more ≡ begun ++ (read ++ more) = ap (λ b. b ++ more) all ∙ append_assoc begun read more in
    both ∙ sym (take_all n (begun ++ (read ++ more)) (omega (arith, ap length both, length-append body more, room)))

-- no more came than the body still wanted
pub enough : (n : ℕ) (begun read more body : List ℕ) → body ≡ take n (begun ++ read) → length body < n → length body + length more ≤ n
    → length (read ++ more) ≤ n - length begun
enough n begun read more body is short room =
    let all : body ≡ begun ++ read = is ∙ whole n (begun ++ read) (subst (λ b. length b < n) is short) in
    omega (arith, room, ap length all, length-append begun read, length-append read more)
