-- Route: what a path asks for, by `matchit`, with its names and numbers.
use Rattle.std.specs.Prelude.{ℕ, ◌==◌, not, Bool, true, false, List, [], ◌∷◌, ◌++◌, codes, Option, Some, None, Result, Ok, Err, if◌then◌else◌, unwrap_or}
use Rattle.std.specs.List.{before_first, fold, list_all, slice_get, slice_split}
use Rattle.std.specs.Option.{option_map}
use Rattle.std.specs.Result.{result_ok}
use Rattle.std.specs.Char.{is_ascii}
use Rattle.matchit.specs.Order.{placed}
use Rattle.matchit.specs.Route.{Scan, parse_route}
use Rattle.matchit.specs.Router.{RouteOf, route_from}
use Rattle.matchit.specs.Rows.{RowsOf}
use Rattle.matchit.specs.Seek.{first}
use Rattle.matchit.specs.declared.error.InsertError.{InsertError}
use Rattle.fr_base.specs.ImportRows.{number}
use Rattle.fr_base.specs.Names.{same_text}
use Rattle.fr_base.specs.QueryNames.{purpose_with, query_by}
use Rattle.fr_base.specs.declared.import.Header.{Header}
use Rattle.fr_base.specs.declared.import.Header.TheVariants as header
use Rattle.fr_base.specs.declared.query.Inventory.{Inventory}
use Rattle.fr_base.specs.declared.query.Inventory.TheVariants.{Cluster, Variants, Nodes}
use Rattle.fr_base.specs.declared.query.Query.TheVariants.{Register as OfRegister, Variant as OfVariant, Difference as OfTwo}
use Rattle.fr_base.specs.declared.report.Report.{Report}
use Rattle.fr_base.specs.declared.report.Report.TheVariants.{Grants, Frames, Schedule, Gaps, Layout, Load, Rows, Room, Export}
use Rattle.fr_base.specs.declared.refusal.Refusal.TheVariants.{BadText}
use Rattle.fr_base.specs.declared.delivery.Manner.TheVariants as manner
use Rattle.fr_base.specs.declared.request.Request.{Request}
use Rattle.fr_base.specs.declared.request.Request.TheVariants as request
use Rattle.fr_base.specs.declared.delivery.Purpose.{Purpose}
use Rattle.fr_base.specs.declared.delivery.Purpose.TheVariants as purpose
use Rattle.fr_text.specs.RequestText.{request_of}
use Rattle.fr_guide.specs.RefusalNumbers.{meant_word}
use Rattle.fr_guide.specs.Topics.{is_explained}
use Rattle.fr_guide.specs.declared.advice.Subject.TheVariants as subject
use Rattle.fr_page.specs.Page.{text_of}
use Rattle.fr_page.specs.declared.Part.{Part}
use Rattle.fr_page.specs.declared.Part.TheVariants as page
use Rattle.fr_http.specs.Conditions.{none_matches, tag_of}
use Rattle.fr_http.specs.Head.{values}
use Rattle.fr_http.specs.declared.exchange.Operation.{Operation}
use Rattle.fr_http.specs.declared.exchange.Operation.TheVariants as operation
use Rattle.fr_http.specs.declared.fault.Unasked.{Unasked}
use Rattle.fr_http.specs.declared.fault.Unasked.TheVariants.{Explained, Refused, Page as OwnPage}
use Rattle.fr_http.specs.declared.method.Allowed.{Allowed}
use Rattle.fr_http.specs.declared.method.Allowed.TheVariants.{Only, Either}
use Rattle.fr_http.specs.declared.method.Method.{Method}
use Rattle.fr_http.specs.declared.method.Method.TheVariants.{Get, Post, Put}
use Rattle.fr_http.specs.declared.path_name.PathName.{PathName}
use Rattle.fr_http.specs.declared.path_name.PathName.TheVariants as named
use Rattle.fr_http.specs.declared.routes.Resource.{Resource}
use Rattle.fr_http.specs.declared.routes.Resource.TheVariants.{One, Two}
use Rattle.fr_http.specs.declared.routes.Route.{Route}
use Rattle.fr_http.specs.declared.routes.Route.TheVariants.{Page, Explanations, Explanation, Advice, Commands, Deliver, Query, Picture}

-- a method as a request spells it
abbrev pub text_of_method : Method → List ℕ
text_of_method Get = codes "GET"
text_of_method Post = codes "POST"
text_of_method Put = codes "PUT"

-- the method of a route
abbrev pub method_of_delivery : {N : Type 0} → Purpose N → Method
method_of_delivery (purpose.Import label) = Post
method_of_delivery (purpose.Replacement whole) = Put
method_of_delivery (purpose.Trial (manner.Replace whole)) = Put
method_of_delivery (purpose.Trial manner.Import) = Post
method_of_delivery (purpose.Proposal true) = Put
method_of_delivery (purpose.Proposal false) = Post

abbrev pub method_of : Route → Method
method_of Commands = Post
method_of (Deliver how) = method_of_delivery how
method_of (Query asked) = Get
method_of (Picture since) = Get
method_of (Page part) = Get
method_of Explanations = Get
method_of Explanation = Get
method_of (Advice on) = Post

-- the methods that a path allows, as a reply lists them
abbrev pub text_of_allowed : Allowed → List ℕ
text_of_allowed (Only method) = text_of_method method
text_of_allowed (Either first second) = text_of_method first ++ codes ", " ++ text_of_method second

-- the methods that a path allows, by what it leads to
abbrev pub allowed : Resource → Allowed
allowed (One route) = Only (method_of route)
allowed (Two first second) = Either (method_of first) (method_of second)

-- whether the route's requests are by this method
abbrev pub is_by : List ℕ → Route → Bool
is_by method route = same_text method (text_of_method (method_of route))

-- the route by the method of the request, if the path allows it
abbrev pub chosen : List ℕ → Resource → Option Route
chosen method (One route) = if is_by method route then Some route else None
chosen method (Two first second) = if is_by method first then Some first else (if is_by method second then Some second else None)

-- the route for what the register holds
abbrev pub of_register : Inventory → Resource
of_register inventory = One (Query (OfRegister inventory))

-- the route for a report of the path's variant
abbrev pub of_variant : Report PathName PathName → Route
of_variant report = Query (OfVariant named.Variant report)

-- what the path of such a report alone leads to
abbrev pub report : Report PathName PathName → Resource
report asked = One (of_variant asked)

-- the route for the difference of the path's two variants
abbrev pub of_two : Resource
of_two = One (Query (OfTwo named.Variant named.From))

-- the route for the records of the path's variant below a header
abbrev pub export : Header → Resource
export header = report (Export header named.Part)

-- what each path leads to, by the pattern that it matches
unfoldable pub table : List (List ℕ × Resource)
table =
    (codes "/", One (Page page.Document))
    ∷ (codes "/slotplan.css", One (Page page.Style))
    ∷ (codes "/slotplan.js", One (Page page.Program))
    ∷ (codes "/v1/explanations", One Explanations)
    ∷ (codes "/v1/explanations/{word}", One Explanation)
    ∷ (codes "/v1/checks/rows", One (Advice subject.Rows))
    ∷ (codes "/v1/checks/requests", One (Advice subject.Requests))
    ∷ (codes "/v1/commands", One Commands)
    ∷ (codes "/v1/cluster", of_register Cluster)
    ∷ (codes "/v1/variants", of_register Variants)
    ∷ (codes "/v1/nodes", of_register Nodes)
    ∷ (codes "/v1/variants/{variant}/imports/{label}", One (Deliver (purpose.Import named.Label)))
    ∷ (codes "/v1/variants/{variant}/since/{from}", of_two)
    ∷ (codes "/v1/variants/{variant}/grants", report Grants)
    ∷ (codes "/v1/variants/{variant}/frames", report Frames)
    ∷ (codes "/v1/variants/{variant}/schedule", report Schedule)
    ∷ (codes "/v1/variants/{variant}/gaps", report Gaps)
    ∷ (codes "/v1/variants/{variant}/frames/{frame}/layout", report (Layout named.Frame))
    ∷ (codes "/v1/variants/{variant}/load", report Load)
    ∷ (codes "/v1/variants/{variant}/frames/{frame}/room/{repetition}", report (Room named.Frame named.Repetition))
    ∷ (codes "/v1/variants/{variant}/exports/frames/{part}", export header.Frames)
    ∷ (codes "/v1/variants/{variant}/exports/placements/{part}", export header.Placements)
    ∷ (codes "/v1/variants/{variant}/exports/signals/{part}", export header.Signals)
    ∷ (codes "/v1/variants/{variant}/rows", Two (of_variant Rows) (Deliver (purpose.Replacement false)))
    ∷ (codes "/v1/variants/{variant}/rows/whole", One (Deliver (purpose.Replacement true)))
    ∷ (codes "/v1/variants/{variant}/tries", Two (Deliver (purpose.Trial manner.Import)) (Deliver (purpose.Trial (manner.Replace false))))
    ∷ (codes "/v1/variants/{variant}/tries/whole", One (Deliver (purpose.Trial (manner.Replace true))))
    ∷ (codes "/v1/variants/{variant}/proposals", Two (Deliver (purpose.Proposal false)) (Deliver (purpose.Proposal true)))
    ∷ (codes "/v1/variants/{variant}/picture", One (Picture false))
    ∷ (codes "/v1/variants/{variant}/since/{from}/picture", One (Picture true))
    ∷ []

-- the router with one more pattern, as `matchit` reads its text and keeps it
abbrev pub with_read : RowsOf (RouteOf Resource) → Resource → Result Scan InsertError → RowsOf (RouteOf Resource)
with_read rows resource (Ok s) = placed (s.pattern, route_from s resource) rows
with_read rows resource (Err _) = rows

unfoldable pub with_route : RowsOf (RouteOf Resource) → List ℕ × Resource → RowsOf (RouteOf Resource)
with_route rows r = with_read rows r.1 (parse_route r.0)

-- the router that has all of them
unfoldable pub router : RowsOf (RouteOf Resource)
router = fold with_route [] table

-- the path is the target up to the first `?`
abbrev pub path_of : List ℕ → List ℕ
path_of target = before_first (λ b. b == 63) target

-- the text, if it is ASCII
abbrev pub ascii_text : List ℕ → Option (List ℕ)
ascii_text text = if list_all is_ascii text then Some text else None

-- How many slashes of a path stand before the part that its pattern calls so. It is the same in each path that has the part.
abbrev pub place : PathName → ℕ
place named.Variant = 3
place named.From = 5
place named.Label = 5
place named.Frame = 5
place named.Repetition = 7
place named.Part = 6
place named.Word = 3

-- the part of the path that its pattern calls so: what stands between slashes at its place
unfoldable pub part : PathName → List ℕ → List ℕ
part name path = unwrap_or (slice_get (slice_split (λ b. b == 47) path) (place name)) []

-- whether a path that matches leads to it: none leads to the explanation of a word that is not explained
abbrev pub leads : List ℕ → Resource → Bool
leads path (One Explanation) = is_explained (meant_word (part named.Word path))
leads path _ = true

-- what the path leads to, if it does
abbrev pub led : List ℕ → Option Resource → Option Resource
led path None = None
led path (Some resource) = if leads path resource then Some resource else None

-- what the path leads to, by the pattern that it matches
abbrev pub matched : List ℕ → Option Resource
matched path = led path (option_map (λ r. r.value) (first router path))

-- what a path leads to; one that is not ASCII leads to nothing
unfoldable pub route_of : List ℕ → Option Resource
route_of path = if list_all is_ascii path then matched path else None

-- the number that the part of the path is, if it has the form of a number in an import's file
abbrev pub number_in : PathName → List ℕ → Option ℕ
number_in name path = result_ok (number (part name path))

-- what a text asks for; one that is no request is refused
abbrev pub asked_or_refused : Option Request → Result Operation Unasked
asked_or_refused (Some asked) = Ok (operation.Request asked)
asked_or_refused None = Err (Refused BadText)

-- the other variant of a path that names one
abbrev pub other_variant : Bool → List ℕ → Option (List ℕ)
other_variant since path = if since then Some (part named.From path) else None

-- whether whoever sends these fields holds the part of the page as it is
abbrev pub is_held : Part → List (List ℕ × List ℕ) → Bool
is_held part fields = not (none_matches (tag_of (text_of part)) (values (codes "if-none-match") fields))

-- What a route asks for, or why it asks nothing: the planner's page and what is explained are the engine's own. Its names
-- and numbers are parts of the path, and the body is a command's text or a file. Where a part is not
-- a number, the route asks for nothing.
unfoldable pub operation_by : Route → List ℕ → List (List ℕ × List ℕ) → List ℕ → Result Operation Unasked
operation_by (Page part) path fields body = Err (OwnPage part (is_held part fields))
operation_by Explanations path fields body = Err (Explained None)
operation_by Explanation path fields body = Err (Explained (Some (part named.Word path)))
operation_by (Advice on) path fields body = Ok (operation.Advice on body)
operation_by Commands path fields body = asked_or_refused (request_of body)
operation_by (Deliver how) path fields body = Ok (operation.Request (request.Deliver (part named.Variant path) (purpose_with (λ name. part name path) how) body))
operation_by (Query asked) path fields body =
    asked_or_refused (option_map request.Query (query_by (λ name. part name path) (λ name. number_in name path) asked))
operation_by (Picture since) path fields body = Ok (operation.Picture (part named.Variant path) (other_variant since path))
