-- Requests and replies, computed by the definitions.
use Rattle.std.specs.Fmt.{digits}
use Rattle.std.specs.List.{list_all, list_any, slice_split}
use Rattle.std.specs.Prelude.{⊤, ℕ, ◌≡◌, ◌==◌, ◌+◌, ◌&&◌, ◌||◌, not, Bool, false, true, List, [], ◌∷◌, ◌++◌, codes, map, if◌then◌else◌, Option, Some, None, Ok, Err, refl}
use Rattle.matchit.specs.Route.{scan}
use Rattle.matchit.specs.Seek.{seek, param_step}
use Rattle.fr_base.specs.ImportRows.{number}
use Rattle.fr_base.specs.Names.{same_text}
use Rattle.fr_base.specs.Refusing.{◌>>=◌, ◌>>◌, ◌or◌, refuse◌when◌}
use Rattle.fr_base.specs.declared.actor.Actor.{Actor}
use Rattle.fr_base.specs.declared.actor.Actor.TheVariants as actor
use Rattle.fr_base.specs.declared.answer.Answer.TheVariants as answer
use Rattle.fr_base.specs.declared.answer.ReportRows.TheVariants as rows_of
use Rattle.fr_base.specs.declared.channel.Channel.TheVariants as channel
use Rattle.fr_base.specs.declared.refusal.Refusal.TheVariants as refusal
use Rattle.fr_base.specs.declared.delivery.Manner.TheVariants as manner
use Rattle.fr_base.specs.declared.request.Request.TheVariants as request
use Rattle.fr_base.specs.declared.delivery.Purpose.TheVariants as purpose
use Rattle.fr_text.specs.AnswerText.{report_of, text_of, text_of_refusal}
use Rattle.fr_text.specs.Report.{frame_record, header_line, lines_of, lines_of_rows, node_line, schedule_line}
use Rattle.fr_text.specs.Styles.{plain_lines, json_lines}
use Rattle.fr_text.specs.Words.{right_in}
use Rattle.httparse.specs.Grammar.{trim_ows}
use Rattle.fr_page.specs.declared.Part.TheVariants as page
use Rattle.fr_http.specs.Conditions.{elements, none_matches}
use Rattle.fr_http.specs.Head.{HeadData, values}
use Rattle.fr_http.specs.Routes.{method_of, of_variant, operation_by, part, place, report, route_of, router, table, text_of_method, with_route}
use Rattle.fr_http.specs.Outcome.{due, interim, length_in, outcome_of, plan_of}
use Rattle.fr_http.specs.Reply.{answer_reply, body_of, engine_reply, page_reply, print, status_line}
use Rattle.fr_http.specs.declared.exchange.Exchange.TheVariants as exchange
use Rattle.fr_http.specs.declared.exchange.Operation.TheVariants as operation
use Rattle.fr_http.specs.declared.fault.Rejection.TheVariants.{BadRequest, NotFound, MethodNotAllowed, LengthRequired, PayloadTooLarge, HeadTooLarge, NotImplemented}
use Rattle.fr_http.specs.declared.fault.Unasked.TheVariants.{Page, Refused, Fault}
use Rattle.fr_http.specs.declared.fault.LinkFault.TheVariants.{Truncated}
use Rattle.fr_http.specs.declared.method.Allowed.TheVariants.{Only, Either}
use Rattle.fr_http.specs.declared.method.Method.TheVariants.{Get, Post, Put}
use Rattle.fr_base.specs.declared.import.Header.TheVariants as header
use Rattle.fr_base.specs.declared.query.Inventory.TheVariants.{Cluster, Variants, Nodes}
use Rattle.fr_base.specs.declared.query.Query.TheVariants.{Register as OfRegister, Variant as OfVariant}
use Rattle.fr_base.specs.declared.report.Report.TheVariants.{Grants, Frames, Schedule, Gaps, Layout, Load, Rows, Room, Export}
use Rattle.fr_http.specs.declared.path_name.PathName.{PathName}
use Rattle.fr_http.specs.declared.path_name.PathName.TheVariants as named
use Rattle.fr_http.specs.declared.routes.Resource.{Resource}
use Rattle.fr_http.specs.declared.routes.Resource.TheVariants.{One, Two}
use Rattle.fr_http.specs.declared.routes.Route.TheVariants.{Commands, Deliver, Query, Picture, Page as OwnPage}

-- what an answer unfolds to compute these definitions
unfoldable rows : ⊤
unfolding elements none_matches trim_ows seek param_step scan values part operation_by route_of router table with_route interim due length_in outcome_of plan_of answer_reply engine_reply page_reply body_of print ◌>>=◌ ◌>>◌ ◌or◌ refuse◌when◌ report_of text_of text_of_refusal lines_of lines_of_rows frame_record header_line node_line schedule_line number plain_lines json_lines right_in digits
rows = tt

abbrev head : List ℕ → List ℕ → List (List ℕ × List ℕ) → HeadData
head method target fields = record { method = method; target = target; minor = 1; fields = fields }

-- ---- routes

-- the route of each path, and its parts
pub routes :
    map route_of (
    codes "/v1/commands" ∷ codes "/v1/variants/v1/imports/a" ∷ codes "/v1/variants/v1/grants" ∷ codes "/v1/variants/v1/frames"
    ∷ codes "/v1/variants/v1/schedule" ∷ codes "/v1/variants/v1/gaps" ∷ codes "/v1/variants/v1/frames/f1/layout" ∷ codes "/v1/variants/1%20v/gaps"
    ∷ codes "/v1/variants/v1/picture" ∷ codes "/v1/variants/v2/since/v1/picture" ∷ []
    )
    ≡ Some (One Commands) ∷ Some (One (Deliver (purpose.Import named.Label))) ∷ Some (report Grants) ∷ Some (report Frames) ∷ Some (report Schedule) ∷ Some (report Gaps) ∷ Some (report (Layout named.Frame)) ∷ Some (report Gaps)
    ∷ Some (One (Picture false)) ∷ Some (One (Picture true)) ∷ []
unfolding rows
routes = refl

pub routes_of_the_register :
    map route_of (codes "/v1/cluster" ∷ codes "/v1/variants" ∷ codes "/v1/nodes" ∷ codes "/v1/variants/" ∷ [])
    ≡ Some (One (Query (OfRegister Cluster))) ∷ Some (One (Query (OfRegister Variants))) ∷ Some (One (Query (OfRegister Nodes))) ∷ None ∷ []
unfolding rows
routes_of_the_register = refl

pub routes_of_rows :
    map route_of (codes "/v1/variants/v1/load" ∷ codes "/v1/variants/v1/rows" ∷ [])
    ≡ Some (report Load) ∷ Some (Two (of_variant Rows) (Deliver (purpose.Replacement false))) ∷ []
unfolding rows
routes_of_rows = refl

pub routes_of_wholes :
    map route_of (codes "/v1/variants/v1/rows/whole" ∷ codes "/v1/variants/v1/tries/whole" ∷ [])
    ≡ Some (One (Deliver (purpose.Replacement true))) ∷ Some (One (Deliver (purpose.Trial (manner.Replace true)))) ∷ []
unfolding rows
routes_of_wholes = refl

-- the parts of the planner's page stand at three paths, which have no other method, and a `?` behind one changes nothing
pub route_of_the_page :
    map plan_of (
    head (codes "GET") (codes "/") [] ∷ head (codes "GET") (codes "/?x=1") [] ∷ head (codes "POST") (codes "/") [] ∷ head (codes "GET") (codes "//") []
    ∷ head (codes "GET") (codes "/index.html") [] ∷ head (codes "GET") (codes "/slotplan.css") [] ∷ head (codes "GET") (codes "/slotplan.js?x=1") []
    ∷ head (codes "PUT") (codes "/slotplan.js") [] ∷ head (codes "GET") (codes "/slotplan.js/") [] ∷ []
    )
    ≡ Ok (record { route = OwnPage page.Document; length = 0 }) ∷ Ok (record { route = OwnPage page.Document; length = 0 }) ∷ Err (MethodNotAllowed (Only Get))
    ∷ Err NotFound ∷ Err NotFound ∷ Ok (record { route = OwnPage page.Style; length = 0 }) ∷ Ok (record { route = OwnPage page.Program; length = 0 })
    ∷ Err (MethodNotAllowed (Only Get)) ∷ Err NotFound ∷ []
unfolding rows
route_of_the_page = refl

-- whoever has which key, nothing is asked of it
pub page_for_everybody : (who : List ℕ → Option Actor) → outcome_of who (head (codes "GET") (codes "/") []) (codes "x") ≡ Err (Page page.Document false)
unfolding rows
page_for_everybody who = refl

-- who holds any tag holds the part as it is
pub page_that_is_held : (who : List ℕ → Option Actor)
    → outcome_of who (head (codes "GET") (codes "/slotplan.css") ((codes "If-None-Match", codes "*") ∷ [])) [] ≡ Err (Page page.Style true)
unfolding rows
page_that_is_held who = refl

-- ---- conditions

pub elements_of_a_list :
    map elements (codes "\"a\"" ∷ codes " \"a\" ,\t W/\"b\"\t,," ∷ [] ∷ codes "a b , *" ∷ [])
    ≡ (codes "\"a\"" ∷ []) ∷ (codes "\"a\"" ∷ codes "W/\"b\"" ∷ [] ∷ [] ∷ []) ∷ ([] ∷ []) ∷ (codes "a b" ∷ codes "*" ∷ []) ∷ []
unfolding rows
elements_of_a_list = refl

-- a tag that is listed, weak or not, in any of the fields; or `*`; and none that is like it
pub conditions :
    map (none_matches (codes "\"a\"")) (
    [] ∷ (codes "\"a\"" ∷ []) ∷ (codes "W/\"a\"" ∷ []) ∷ (codes "\"b\"" ∷ codes "\"c\" ,\"a\"" ∷ []) ∷ (codes "\"b\", *" ∷ []) ∷ (codes "\"A\"" ∷ [])
    ∷ (codes "a" ∷ []) ∷ (codes "w/\"a\"" ∷ []) ∷ (codes "W/W/\"a\"" ∷ []) ∷ (codes "\"a\"\"b\"" ∷ []) ∷ (codes "W/*" ∷ []) ∷ []
    )
    ≡ true ∷ false ∷ false ∷ false ∷ false ∷ true ∷ true ∷ true ∷ true ∷ true ∷ true ∷ []
unfolding rows
conditions = refl

pub route_of_room : route_of (codes "/v1/variants/v/frames/f/room/4") ≡ Some (report (Room named.Frame named.Repetition))
unfolding rows
route_of_room = refl

-- a part as a pattern spells its name
abbrev braced : PathName → List ℕ
braced named.Variant = codes "{variant}"
braced named.From = codes "{from}"
braced named.Label = codes "{label}"
braced named.Frame = codes "{frame}"
braced named.Repetition = codes "{repetition}"
braced named.Part = codes "{part}"
braced named.Word = codes "{word}"

-- whether the text at this place of a pattern is a part of this place
abbrev stands_at : ℕ → List ℕ → Bool
stands_at n text = list_any (λ name. same_text text (braced name) && (place name == n)) (named.Variant ∷ named.From ∷ named.Label ∷ named.Frame ∷ named.Repetition ∷ named.Part ∷ named.Word ∷ [])

-- whether each part that stands in braces is at its place
abbrev all_stand : ℕ → List (List ℕ) → Bool
all_stand n [] = true
all_stand n ([] ∷ rest) = all_stand (n + 1) rest
all_stand n ((b ∷ text) ∷ rest) = (not (b == 123) || stands_at n (b ∷ text)) && all_stand (n + 1) rest

-- in each pattern each part stands at the place that its name has
pub places : list_all (λ row. all_stand 0 (slice_split (λ b. b == 47) row.0)) table ≡ true
unfolding rows
places = refl

-- and the requests of each path have methods that differ
abbrev differ : Resource → Bool
differ (One route) = true
differ (Two first second) = not (same_text (text_of_method (method_of first)) (text_of_method (method_of second)))

pub methods_differ : list_all (λ row. differ row.1) table ≡ true
unfolding rows
methods_differ = refl

pub no_routes :
    map route_of (
    codes "/v1/nothing" ∷ codes "/v1/commands/" ∷ codes "/V1/commands" ∷ codes "/v1/variants//gaps" ∷ codes "/v1/variants/v1" ∷ (codes "/v1/variants/" ++ 195 ∷ 164 ∷ codes "/gaps") ∷ codes "*" ∷ []
    )
    ≡ None ∷ None ∷ None ∷ None ∷ None ∷ None ∷ None ∷ []
unfolding rows
no_routes = refl

pub operations :
    operation_by (Deliver (purpose.Import named.Label)) (codes "/v1/variants/v1/imports/a") [] (codes "x")
    ∷ operation_by (of_variant Schedule) (codes "/v1/variants/v1/schedule") [] []
    ∷ operation_by (of_variant (Layout named.Frame)) (codes "/v1/variants/v1/frames/f1/layout") [] []
    ∷ operation_by (Picture false) (codes "/v1/variants/v1/picture") [] [] ∷ operation_by (Picture true) (codes "/v1/variants/v2/since/v1/picture") [] []
    ∷ []
    ≡ Ok (operation.Request (request.Deliver (codes "v1") (purpose.Import (codes "a")) (codes "x"))) ∷ Ok (operation.Request (request.Query (OfVariant (codes "v1") Schedule)))
    ∷ Ok (operation.Request (request.Query (OfVariant (codes "v1") (Layout (codes "f1"))))) ∷ Ok (operation.Picture (codes "v1") None)
    ∷ Ok (operation.Picture (codes "v2") (Some (codes "v1"))) ∷ []
unfolding rows
operations = refl

pub operations_of_rows :
    operation_by (Deliver (purpose.Replacement false)) (codes "/v1/variants/v1/rows") [] (codes "x")
    ∷ operation_by (of_variant (Room named.Frame named.Repetition)) (codes "/v1/variants/v1/frames/f1/room/0000000004") [] []
    ∷ operation_by (of_variant (Export header.Signals named.Part)) (codes "/v1/variants/v1/exports/signals/4294967295") [] []
    ∷ []
    ≡ Ok (operation.Request (request.Deliver (codes "v1") (purpose.Replacement false) (codes "x")))
    ∷ Ok (operation.Request (request.Query (OfVariant (codes "v1") (Room (codes "f1") 4))))
    ∷ Ok (operation.Request (request.Query (OfVariant (codes "v1") (Export header.Signals 4294967295))))
    ∷ []
unfolding rows
operations_of_rows = refl

-- where a number is none, the request is refused
pub no_numbers :
    map (λ text. operation_by (of_variant (Export header.Frames named.Part)) (codes "/v1/variants/v1/exports/frames/" ++ text) [] [])
    (codes "x" ∷ codes "-1" ∷ codes "+1" ∷ codes "1.0" ∷ codes "4294967296" ∷ codes "00000000000" ∷ [])
    ≡ Err (Refused refusal.BadText) ∷ Err (Refused refusal.BadText) ∷ Err (Refused refusal.BadText) ∷ Err (Refused refusal.BadText) ∷ Err (Refused refusal.BadText) ∷ Err (Refused refusal.BadText) ∷ []
unfolding rows
no_numbers = refl

-- ---- heads

-- a command with such fields beside its key
abbrev command : List (List ℕ × List ℕ) → HeadData
command fields = head (codes "POST") (codes "/v1/commands") ((codes "X-Office-Key", codes "supplier01") ∷ fields)

abbrev length_field : List ℕ → List ℕ × List ℕ
length_field value = (codes "Content-Length", value)

-- the engine's own answers, in their order
pub rejections :
    map plan_of (
    head (codes "PUT") (codes "/v1/nothing") ((codes "Transfer-Encoding", codes "chunked") ∷ [])
    ∷ head (codes "PUT") (codes "/v1/nothing") [] ∷ head (codes "PUT") (codes "/v1/commands") [] ∷ head (codes "post") (codes "/v1/variants/v1/gaps") []
    ∷ command [] ∷ command (length_field (codes "65537") ∷ length_field (codes "65537") ∷ []) ∷ command (length_field (codes "1a") ∷ [])
    ∷ command (length_field [] ∷ []) ∷ command (length_field (codes "+1") ∷ []) ∷ command (length_field (codes "65537") ∷ [])
    ∷ command (length_field (codes "999999999999999999999999999999") ∷ []) ∷ []
    )
    ≡ Err NotImplemented ∷ Err NotFound ∷ Err (MethodNotAllowed (Only Post)) ∷ Err (MethodNotAllowed (Only Get)) ∷ Err LengthRequired ∷ Err BadRequest ∷ Err BadRequest
    ∷ Err BadRequest ∷ Err BadRequest ∷ Err PayloadTooLarge ∷ Err PayloadTooLarge ∷ []
unfolding rows
rejections = refl

-- what is asked for
pub plans :
    map plan_of (
    command (length_field (codes "65536") ∷ []) ∷ command (length_field (codes "007") ∷ [])
    ∷ head (codes "GET") (codes "/v1/variants/v1/gaps?x=1") (length_field (codes "1a") ∷ []) ∷ []
    )
    ≡ Ok (record { route = Commands; length = 65536 }) ∷ Ok (record { route = Commands; length = 7 }) ∷ Ok (record { route = of_variant Gaps; length = 0 }) ∷ []
unfolding rows
plans = refl

pub puts :
    map plan_of (
    head (codes "PUT") (codes "/v1/variants/v1/rows") (length_field (codes "7") ∷ []) ∷ head (codes "PUT") (codes "/v1/variants/v1/rows") []
    ∷ head (codes "PUT") (codes "/v1/variants/v1/rows") (length_field (codes "65537") ∷ []) ∷ head (codes "POST") (codes "/v1/variants/v1/rows") []
    ∷ head (codes "GET") (codes "/v1/variants/v1/rows") [] ∷ head (codes "PUT") (codes "/v1/variants/v1/load") [] ∷ []
    )
    ≡ Ok (record { route = Deliver (purpose.Replacement false); length = 7 }) ∷ Err LengthRequired ∷ Err PayloadTooLarge ∷ Err (MethodNotAllowed (Either Get Put))
    ∷ Ok (record { route = of_variant Rows; length = 0 }) ∷ Err (MethodNotAllowed (Only Get)) ∷ []
unfolding rows
puts = refl

-- a file to be tried, as an import where it is posted, and as a replacement where it is put
pub tries :
    map plan_of (
    head (codes "POST") (codes "/v1/variants/v1/tries") (length_field (codes "7") ∷ []) ∷ head (codes "PUT") (codes "/v1/variants/v1/tries") (length_field (codes "7") ∷ [])
    ∷ head (codes "PUT") (codes "/v1/variants/v1/tries") [] ∷ head (codes "GET") (codes "/v1/variants/v1/tries") [] ∷ []
    )
    ≡ Ok (record { route = Deliver (purpose.Trial manner.Import); length = 7 }) ∷ Ok (record { route = Deliver (purpose.Trial (manner.Replace false)); length = 7 }) ∷ Err LengthRequired ∷ Err (MethodNotAllowed (Either Post Put)) ∷ []
unfolding rows
tries = refl

pub operations_of_tries :
    operation_by (Deliver (purpose.Trial manner.Import)) (codes "/v1/variants/v1/tries") [] (codes "x") ∷ operation_by (Deliver (purpose.Trial (manner.Replace false))) (codes "/v1/variants/v1/tries") [] (codes "x") ∷ []
    ≡ Ok (operation.Request (request.Deliver (codes "v1") (purpose.Trial manner.Import) (codes "x"))) ∷ Ok (operation.Request (request.Deliver (codes "v1") (purpose.Trial (manner.Replace false)) (codes "x"))) ∷ []
unfolding rows
operations_of_tries = refl

-- a file of wishes: beside what is there where it is posted, and as a replacement where it is put
pub proposals :
    map plan_of (
    head (codes "POST") (codes "/v1/variants/v1/proposals") (length_field (codes "7") ∷ []) ∷ head (codes "PUT") (codes "/v1/variants/v1/proposals") (length_field (codes "7") ∷ [])
    ∷ head (codes "PUT") (codes "/v1/variants/v1/proposals") [] ∷ head (codes "GET") (codes "/v1/variants/v1/proposals") [] ∷ []
    )
    ≡ Ok (record { route = Deliver (purpose.Proposal false); length = 7 }) ∷ Ok (record { route = Deliver (purpose.Proposal true); length = 7 }) ∷ Err LengthRequired ∷ Err (MethodNotAllowed (Either Post Put)) ∷ []
unfolding rows
proposals = refl

pub operations_of_proposals :
    operation_by (Deliver (purpose.Proposal false)) (codes "/v1/variants/v1/proposals") [] (codes "x") ∷ operation_by (Deliver (purpose.Proposal true)) (codes "/v1/variants/v1/proposals") [] (codes "x") ∷ []
    ≡ Ok (operation.Request (request.Deliver (codes "v1") (purpose.Proposal false) (codes "x"))) ∷ Ok (operation.Request (request.Deliver (codes "v1") (purpose.Proposal true) (codes "x"))) ∷ []
unfolding rows
operations_of_proposals = refl

-- a file that is sent, or tried, as the whole: by PUT alone
pub wholes :
    map plan_of (
    head (codes "PUT") (codes "/v1/variants/v1/rows/whole") (length_field (codes "7") ∷ []) ∷ head (codes "PUT") (codes "/v1/variants/v1/tries/whole") (length_field (codes "7") ∷ [])
    ∷ head (codes "POST") (codes "/v1/variants/v1/rows/whole") [] ∷ head (codes "POST") (codes "/v1/variants/v1/tries/whole") [] ∷ head (codes "PUT") (codes "/v1/variants/v1/rows/whole") [] ∷ []
    )
    ≡ Ok (record { route = Deliver (purpose.Replacement true); length = 7 }) ∷ Ok (record { route = Deliver (purpose.Trial (manner.Replace true)); length = 7 }) ∷ Err (MethodNotAllowed (Only Put)) ∷ Err (MethodNotAllowed (Only Put)) ∷ Err LengthRequired ∷ []
unfolding rows
wholes = refl

pub operations_of_wholes :
    operation_by (Deliver (purpose.Replacement true)) (codes "/v1/variants/v1/rows/whole") [] (codes "x") ∷ operation_by (Deliver (purpose.Trial (manner.Replace true))) (codes "/v1/variants/v1/tries/whole") [] (codes "x") ∷ []
    ≡ Ok (operation.Request (request.Deliver (codes "v1") (purpose.Replacement true) (codes "x"))) ∷ Ok (operation.Request (request.Deliver (codes "v1") (purpose.Trial (manner.Replace true)) (codes "x"))) ∷ []
unfolding rows
operations_of_wholes = refl

-- `100 Continue` is due for a body that is to come by HTTP/1.1, and else not
pub continues :
    map interim (
    command (length_field (codes "9") ∷ (codes "Expect", codes "other") ∷ (codes "EXPECT", codes "100-Continue") ∷ [])
    ∷ command (length_field (codes "0") ∷ (codes "expect", codes "100-continue") ∷ [])
    ∷ record (command (length_field (codes "9") ∷ (codes "expect", codes "100-continue") ∷ [])) { minor = 0 }
    ∷ command (length_field (codes "9") ∷ (codes "expect", codes "100") ∷ [])
    ∷ head (codes "GET") (codes "/v1/variants/v1/gaps") (length_field (codes "9") ∷ (codes "expect", codes "100-continue") ∷ []) ∷ []
    )
    ≡ codes "HTTP/1.1 100 Continue\r\n\r\n" ∷ [] ∷ [] ∷ [] ∷ [] ∷ []
unfolding rows
continues = refl

-- ---- outcomes

-- one supplier has a key
abbrev who : List ℕ → Option Actor
who key = if same_text key (codes "supplier01") then Some (actor.Supplier (codes "s1")) else None

pub asks_schedule :
    outcome_of who (head (codes "GET") (codes "/v1/variants/v1/schedule") ((codes "Host", codes "localhost") ∷ (codes "X-Office-Key", codes "supplier01") ∷ [])) []
    ≡ Ok (exchange.Request (record { actor = actor.Supplier (codes "s1"); request = request.Query (OfVariant (codes "v1") Schedule) }) Get)
unfolding rows
asks_schedule = refl

pub asks_picture :
    outcome_of who (head (codes "GET") (codes "/v1/variants/v1/picture") ((codes "X-Office-Key", codes "supplier01") ∷ [])) []
    ≡ Ok (exchange.Picture (actor.Supplier (codes "s1")) (codes "v1") None)
unfolding rows
asks_picture = refl

-- a name that is none is found out when the register is asked; a key that stands twice, or not at all, is nobody's
pub unknown_keys :
    map (λ fields. outcome_of who (head (codes "GET") (codes "/v1/variants/1v/gaps") fields) []) (
    [] ∷ ((codes "x-office-key", codes "supplier02") ∷ []) ∷ ((codes "x-office-key", codes "supplier01") ∷ (codes "X-Office-Key", codes "supplier01") ∷ []) ∷ []
    )
    ≡ Err (Refused refusal.UnknownKey) ∷ Err (Refused refusal.UnknownKey) ∷ Err (Refused refusal.UnknownKey) ∷ []
unfolding rows
unknown_keys = refl

-- what follows the body is ignored; a body that is cut short is no request
pub imports :
    map (λ rest. outcome_of who (head (codes "POST") (codes "/v1/variants/v1/imports/a") ((codes "x-office-key", codes "supplier01") ∷ length_field (codes "2") ∷ [])) rest)
    (codes "xyz" ∷ codes "x" ∷ [])
    ≡ Ok (exchange.Request (record { actor = actor.Supplier (codes "s1"); request = request.Deliver (codes "v1") (purpose.Import (codes "a")) (codes "xy") }) Post)
    ∷ Err (Fault Truncated) ∷ []
unfolding rows
imports = refl

-- ---- replies

pub schedule_reply :
    print (answer_reply Get (answer.Report false (rows_of.Schedule (record { cycle = 0; slot = 1; channel = channel.A; frame = codes "f1"; node = codes "n1"; supplier = codes "s1" } ∷ []))))
    ≡ codes "HTTP/1.1 200 OK\r\ncontent-type: text/plain; charset=us-ascii\r\ncontent-length: 16\r\nconnection: close\r\n\r\n00 0001 A f1 n1\n"
unfolding rows
schedule_reply = refl

pub nodes_reply :
    print (answer_reply Get (answer.Report true (rows_of.Nodes (record { node = codes "n1"; supplier = codes "s1" } ∷ []))))
    ≡ codes "HTTP/1.1 200 OK\r\ncontent-type: text/plain; charset=us-ascii\r\ncontent-length: 6\r\nconnection: close\r\n\r\nn1 s1\n"
unfolding rows
nodes_reply = refl

pub export_reply :
    print (answer_reply Get (answer.Report false (rows_of.FrameRecords (record { frame = codes "f1"; node = codes "n1"; supplier = codes "s1" } ∷ []))))
    ≡ codes "HTTP/1.1 200 OK\r\ncontent-type: text/csv; charset=utf-8\r\ncontent-length: 17\r\nconnection: close\r\n\r\nframe,node\nf1,n1\n"
unfolding rows
export_reply = refl

-- by a request whose body asks so the same is JSON
pub export_in_json :
    print (answer_reply Post (answer.Report true (rows_of.SignalRecords [])))
    ≡ codes "HTTP/1.1 200 OK\r\ncontent-type: application/json\r\ncontent-length: 76\r\nconnection: close\r\n\r\n{\"lines\":[\"frame,signal,start,length,order,supplier\"],\"ok\":\"export_signals\"}"
unfolding rows
export_in_json = refl

pub replaced_reply :
    print (answer_reply Put (answer.Replaced 2))
    ≡ codes "HTTP/1.1 200 OK\r\ncontent-type: application/json\r\ncontent-length: 26\r\nconnection: close\r\n\r\n{\"ok\":\"replaced\",\"rows\":2}"
unfolding rows
replaced_reply = refl

pub empty_reply :
    print (answer_reply Get (answer.Report true (rows_of.Gaps [])))
    ≡ codes "HTTP/1.1 200 OK\r\ncontent-type: text/plain; charset=us-ascii\r\ncontent-length: 0\r\nconnection: close\r\n\r\n"
unfolding rows
empty_reply = refl

pub picture_reply :
    print (page_reply (codes "<p>")) ≡ codes "HTTP/1.1 200 OK\r\ncontent-type: text/html; charset=utf-8\r\ncontent-length: 3\r\nconnection: close\r\n\r\n<p>"
unfolding rows
picture_reply = refl

pub done_reply :
    print (answer_reply Post answer.Done)
    ≡ codes "HTTP/1.1 200 OK\r\ncontent-type: application/json\r\ncontent-length: 13\r\nconnection: close\r\n\r\n{\"ok\":\"done\"}"
unfolding rows
done_reply = refl

pub unknown_key_reply :
    print (answer_reply Get (answer.Refused refusal.UnknownKey))
    ≡ codes "HTTP/1.1 401 Unauthorized\r\ncontent-type: application/json\r\ncontent-length: 31\r\nwww-authenticate: Office-Key\r\nconnection: close\r\n\r\n{\"no\":2,\"refused\":\"UnknownKey\"}"
unfolding rows
unknown_key_reply = refl

pub refused_row_reply :
    print (answer_reply Post (answer.RefusedRow 2 refusal.BadText))
    ≡ codes "HTTP/1.1 422 Unprocessable Entity\r\ncontent-type: application/json\r\ncontent-length: 72\r\nconnection: close\r\n\r\n{\"line\":2,\"no\":29,\"refused\":\"BadRow\",\"row\":{\"no\":1,\"refused\":\"BadText\"}}"
unfolding rows
refused_row_reply = refl

pub too_large_reply : print (engine_reply PayloadTooLarge) ≡ codes "HTTP/1.1 413 Payload Too Large\r\ncontent-length: 0\r\nconnection: close\r\n\r\n"
unfolding rows
too_large_reply = refl

pub not_allowed_reply :
    print (engine_reply (MethodNotAllowed (Only Get))) ≡ codes "HTTP/1.1 405 Method Not Allowed\r\ncontent-length: 0\r\nallow: GET\r\nconnection: close\r\n\r\n"
unfolding rows
not_allowed_reply = refl

pub two_methods_allowed :
    print (engine_reply (MethodNotAllowed (Either Post Put))) ≡ codes "HTTP/1.1 405 Method Not Allowed\r\ncontent-length: 0\r\nallow: POST, PUT\r\nconnection: close\r\n\r\n"
unfolding rows
two_methods_allowed = refl

-- the first line of each of the engine's own answers
pub status_lines :
    map (λ rejection. status_line (engine_reply rejection).status) (BadRequest ∷ NotFound ∷ MethodNotAllowed (Only Post) ∷ LengthRequired ∷ PayloadTooLarge ∷ HeadTooLarge ∷ NotImplemented ∷ [])
    ≡ codes "HTTP/1.1 400 Bad Request\r\n" ∷ codes "HTTP/1.1 404 Not Found\r\n" ∷ codes "HTTP/1.1 405 Method Not Allowed\r\n" ∷ codes "HTTP/1.1 411 Length Required\r\n"
    ∷ codes "HTTP/1.1 413 Payload Too Large\r\n" ∷ codes "HTTP/1.1 431 Request Header Fields Too Large\r\n" ∷ codes "HTTP/1.1 501 Not Implemented\r\n" ∷ []
unfolding rows
status_lines = refl
