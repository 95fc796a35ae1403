-- Reply: the bytes of a reply: one that the engine gives itself, what is explained among them, one
-- with a picture's page or with advice, or one to an answer of the register.
use Rattle.std.specs.Prelude.{ℕ, Bool, true, false, ◌==◌, List, [], ◌++◌, length, codes, decimal, unwrap_or, if◌then◌else◌}
use Rattle.http.specs.StatusCode.{reason_phrase}
use Rattle.fr_base.specs.Refusals.{status_of}
use Rattle.fr_base.specs.declared.answer.Answer.{Answer}
use Rattle.fr_base.specs.declared.answer.Answer.TheVariants.{Refused, RefusedRow, Report}
use Rattle.fr_base.specs.declared.answer.ReportRows.TheVariants.{FrameRecords, PlacementRecords, SignalRecords}
use Rattle.fr_text.specs.AnswerText.{report_of, text_of}
use Rattle.fr_http.specs.Routes.{text_of_allowed}
use Rattle.fr_http.specs.declared.fault.Rejection.{Rejection}
use Rattle.fr_http.specs.declared.fault.Rejection.TheVariants.{BadRequest, NotFound, MethodNotAllowed, LengthRequired, PayloadTooLarge, HeadTooLarge, NotImplemented}
use Rattle.fr_http.specs.declared.method.Method.{Method}
use Rattle.fr_http.specs.declared.method.Method.TheVariants.{Get, Post, Put}

-- a reply: its status, the lines of its own fields, and its body
pub record Reply : Type 0 where
  pub status : ℕ
  pub fields : List ℕ
  pub body : List ℕ

-- the end of a line
abbrev pub line_end : List ℕ
line_end = codes "\r\n"

-- the phrase of a status
abbrev pub phrase_of : ℕ → List ℕ
phrase_of status = unwrap_or (reason_phrase status) []

abbrev pub status_line : ℕ → List ℕ
status_line status = codes "HTTP/1.1 " ++ decimal status ++ codes " " ++ phrase_of status ++ line_end

abbrev pub field_line : List ℕ → List ℕ → List ℕ
field_line name value = name ++ codes ": " ++ value ++ line_end

-- the last field of each reply, and the empty line before the body
abbrev pub closing : List ℕ
closing = field_line (codes "connection") (codes "close") ++ line_end

-- the bytes of a reply
unfoldable pub print : Reply → List ℕ
print r = status_line r.status ++ r.fields ++ closing ++ r.body

-- ---- the engine's own answers

abbrev pub status_of_rejection : Rejection → ℕ
status_of_rejection BadRequest = 400
status_of_rejection NotFound = 404
status_of_rejection (MethodNotAllowed _) = 405
status_of_rejection LengthRequired = 411
status_of_rejection PayloadTooLarge = 413
status_of_rejection HeadTooLarge = 431
status_of_rejection NotImplemented = 501

-- the line of the methods that are allowed, where another was used
abbrev pub allow : Rejection → List ℕ
allow (MethodNotAllowed methods) = field_line (codes "allow") (text_of_allowed methods)
allow _ = []

-- the reply that the engine gives itself; it has no body
unfoldable pub engine_reply : Rejection → Reply
engine_reply rejection = record {
  status = status_of_rejection rejection;
  fields = field_line (codes "content-length") (codes "0") ++ allow rejection;
  body = [];
}

-- ---- the register's answers

abbrev pub status_of_answer : Answer → ℕ
status_of_answer (Refused refusal) = status_of refusal
status_of_answer (RefusedRow _ _) = 422
status_of_answer _ = 200

-- whether the body is a report's lines: the answer to a GET, unless it is a refusal
abbrev pub is_report : Method → Answer → Bool
is_report Get (Refused _) = false
is_report Get (RefusedRow _ _) = false
is_report Get _ = true
is_report Post _ = false
is_report Put _ = false

-- whether the answer's lines are records of a file
abbrev pub is_file : Answer → Bool
is_file (Report all (FrameRecords _)) = true
is_file (Report all (PlacementRecords _)) = true
is_file (Report all (SignalRecords _)) = true
is_file _ = false

-- the type of a report's lines, or of an answer's text
abbrev pub type_of : Bool → Answer → List ℕ
type_of true answer = if is_file answer then codes "text/csv; charset=utf-8" else codes "text/plain; charset=us-ascii"
type_of false answer = codes "application/json"

-- the line by which a client learns how to show who it is, where it has no known key
abbrev pub authenticate : ℕ → List ℕ
authenticate status = if status == 401 then field_line (codes "www-authenticate") (codes "Office-Key") else []

-- the fields of a reply with a body of this type and so many bytes
abbrev pub body_fields : ℕ → List ℕ → ℕ → List ℕ
body_fields status type n = field_line (codes "content-type") type ++ field_line (codes "content-length") (decimal n) ++ authenticate status

-- a reply with a body of its type
abbrev pub reply_with : ℕ → List ℕ → List ℕ → Reply
reply_with status type body = record { status = status; fields = body_fields status type (length body); body = body }

-- the body of a reply with an answer: a report's lines, or the answer's text
unfoldable pub body_of : Bool → Answer → List ℕ
body_of true answer = report_of answer
body_of false answer = text_of answer

-- the reply that explains
unfoldable pub explanation_reply : List ℕ → Reply
explanation_reply text = reply_with 200 (codes "text/plain; charset=us-ascii") text

-- the reply that has advice
unfoldable pub advice_reply : List ℕ → Reply
advice_reply lines = reply_with 200 (codes "text/plain; charset=utf-8") lines

-- the reply that has a page
unfoldable pub page_reply : List ℕ → Reply
page_reply page = reply_with 200 (codes "text/html; charset=utf-8") page

-- the reply to a request by this method, with its answer
unfoldable pub answer_reply : Method → Answer → Reply
answer_reply method answer = reply_with (status_of_answer answer) (type_of (is_report method answer) answer) (body_of (is_report method answer) answer)
