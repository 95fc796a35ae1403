-- PageReply: the reply with a part of the planner's page, which is the same for everybody, or to whom holds it as it is.
use Rattle.std.specs.Prelude.{ℕ, Bool, true, false, List, [], ◌++◌, length, codes, decimal}
use Rattle.fr_page.specs.Page.{text_of}
use Rattle.fr_page.specs.declared.Part.{Part}
use Rattle.fr_page.specs.declared.Part.TheVariants.{Document, Style, Program}
use Rattle.fr_http.specs.Conditions.{tag_of}
use Rattle.fr_http.specs.Reply.{Reply, field_line}

-- the type of a part
abbrev pub type_of_part : Part → List ℕ
type_of_part Document = codes "text/html; charset=utf-8"
type_of_part Style = codes "text/css; charset=utf-8"
type_of_part Program = codes "text/javascript; charset=utf-8"

-- What a browser may do with the page: run its program, show its style, and ask the server that it came from. Whom it tells of the page, and that it
-- asks each time whether the page has changed.
unfoldable pub document_guards : List ℕ
document_guards =
    field_line (codes "content-security-policy") (codes "default-src 'none'; script-src 'self'; style-src 'self'; connect-src 'self'; img-src data:; base-uri 'none'; form-action 'none'; frame-ancestors 'none'; require-trusted-types-for 'script'; trusted-types 'none'")
    ++ field_line (codes "x-content-type-options") (codes "nosniff")
    ++ field_line (codes "referrer-policy") (codes "no-referrer")
    ++ field_line (codes "cross-origin-opener-policy") (codes "same-origin")
    ++ field_line (codes "cache-control") (codes "no-cache")

-- the same for a file of the page
unfoldable pub file_guards : List ℕ
file_guards =
    field_line (codes "x-content-type-options") (codes "nosniff")
    ++ field_line (codes "referrer-policy") (codes "no-referrer")
    ++ field_line (codes "cache-control") (codes "no-cache")

abbrev pub guards : Part → List ℕ
guards Document = document_guards
guards Style = file_guards
guards Program = file_guards

-- the fields of a part with so many bytes and this tag
abbrev pub part_fields : Part → ℕ → List ℕ → List ℕ
part_fields part n tag =
    field_line (codes "content-type") (type_of_part part)
    ++ field_line (codes "content-length") (decimal n)
    ++ field_line (codes "etag") tag
    ++ guards part

-- the reply with a part
unfoldable pub part_reply : Part → Reply
part_reply part = record { status = 200; fields = part_fields part (length (text_of part)) (tag_of (text_of part)); body = text_of part }

-- the reply to whom holds what has this tag
unfoldable pub held_reply : List ℕ → Reply
held_reply tag = record { status = 304; fields = field_line (codes "etag") tag; body = [] }

-- the reply to whom asks for a part, and may hold it as it is
abbrev pub planner_reply : Part → Bool → Reply
planner_reply part false = part_reply part
planner_reply part true = held_reply (tag_of (text_of part))
