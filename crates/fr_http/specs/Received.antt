-- What the bytes say whose head has its parts at these places.
use Rattle.std.specs.Prelude.{ℕ, ◌≡◌, List, drop, length, map, take}
use Rattle.httparse.specs.Spans.{IsRequestWithin, header_bytes, span_bytes}
use Rattle.httparse.specs.declared.spans.HeaderSpan.{HeaderSpan}
use Rattle.httparse.specs.declared.spans.RequestSpans.{RequestSpans}
use Rattle.fr_http.specs.Head.{HeadData, max_fields}

-- what the head says whose parts are at these places, and the bytes behind it
abbrev pub shown : List ℕ → List HeaderSpan → RequestSpans → HeadData × List ℕ
shown bytes fields spans = (
  record {
    method = span_bytes bytes spans.method;
    target = span_bytes bytes spans.path;
    minor = spans.version;
    fields = map (header_bytes bytes) (take spans.headers fields);
  },
  drop spans.len bytes,
)

-- The places lie within the bytes. There is room for as many fields as a head has.
pub record IsPlaced (bytes : List ℕ) (fields : List HeaderSpan) (spans : RequestSpans) : Type 0 where
  pub within : IsRequestWithin bytes fields spans
  pub room : length fields ≡ max_fields
