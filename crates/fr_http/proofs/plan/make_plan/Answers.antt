use Rattle.std.proofs.Common.{rules, sym, ap, ◌∙◌, ◌≡◌, Some, None, Err}
use Rattle.fr_http.specs.Outcome.{body_length}
use Rattle.fr_http.specs.Routes.{ascii_text, chosen, method_of, path_of, route_of}
use Rattle.fr_http.specs.declared.fault.Rejection.TheVariants.{MethodNotAllowed}
use Rattle.fr_http.proofs.PlanLaws.{Plain, ascii_path, bad_body, coded, none_left, not_allowed, not_ascii, planned, route_found, some_first, unrouted}
use Rattle.fr_http.proofs.plan.make_plan.Goals as goal

pub returns-then-is_some : goal.returns-then-is_some
returns-then-is_some c =
    let first = some_first c.next.result c.values.result c.next.new.self (sym c.if-is_some.ensures) c.next.ensures.steps in
    coded c.args.head.now.0 first.0 c.next.new.self (sym c.values.ensures ∙ first.1)

pub returns-in_default : goal.returns-in_default
returns-in_default c =
    let head = c.args.head.now.0 in
    let plain : Plain head = sym c.values.ensures ∙ none_left c.next.result c.values.result c.next.new.self (sym c.is_some.ensures ∙ c.if-is_some.false) c.next.ensures.steps in
    let path : c.path_of.result.now ≡ path_of head.target = c.path_of.ensures ∙ ap path_of c.target.ensures in
    let none : None ≡ ascii_text c.path_of.result.now = search rules in
    unrouted head plain (not_ascii (path_of head.target) (none ∙ ap ascii_text path))

pub returns-in_default-find : goal.returns-in_default-find
returns-in_default-find c =
    let head = c.args.head.now.0 in
    let plain : Plain head = sym c.values.ensures ∙ none_left c.next.result c.values.result c.next.new.self (sym c.is_some.ensures ∙ c.if-is_some.false) c.next.ensures.steps in
    let path : c.path_of.result.now ≡ path_of head.target = c.path_of.ensures ∙ ap path_of c.target.ensures in
    let some : Some c.in-Some.path.now ≡ ascii_text c.path_of.result.now = search rules in
    unrouted head plain (route_found (path_of head.target) c.in-Some.path.now None (some ∙ ap ascii_text path) (search rules))

pub returns-in_default-by : goal.returns-in_default-by
returns-in_default-by c =
    let head = c.args.head.now.0 in
    let resource = c.in-Some-find.resource in
    let plain : Plain head = sym c.values.ensures ∙ none_left c.next.result c.values.result c.next.new.self (sym c.is_some.ensures ∙ c.if-is_some.false) c.next.ensures.steps in
    let path : c.path_of.result.now ≡ path_of head.target = c.path_of.ensures ∙ ap path_of c.target.ensures in
    let some : Some c.in-Some.path.now ≡ ascii_text c.path_of.result.now = search rules in
    let found : route_of (path_of head.target) ≡ Some resource = route_found (path_of head.target) c.in-Some.path.now (Some resource) (some ∙ ap ascii_text path) (search rules) in
    let none : c.by.result ≡ None = search rules in
    let other : chosen head.method resource ≡ None = ap (λ m. chosen m resource) (sym c.method.ensures) ∙ (sym c.by.ensures ∙ none) in
    not_allowed head resource plain found other ∙ ap (λ m. Err (MethodNotAllowed m)) (sym c.allowed.ensures)

pub returns-in-Err : goal.returns-in-Err
returns-in-Err c =
    let head = c.args.head.now.0 in
    let resource = c.in-Some-find.resource in
    let route = c.in-Some-by.route in
    let plain : Plain head = sym c.values.ensures ∙ none_left c.next.result c.values.result c.next.new.self (sym c.is_some.ensures ∙ c.if-is_some.false) c.next.ensures.steps in
    let path : c.path_of.result.now ≡ path_of head.target = c.path_of.ensures ∙ ap path_of c.target.ensures in
    let some : Some c.in-Some.path.now ≡ ascii_text c.path_of.result.now = search rules in
    let found : route_of (path_of head.target) ≡ Some resource = route_found (path_of head.target) c.in-Some.path.now (Some resource) (some ∙ ap ascii_text path) (search rules) in
    let is : c.by.result ≡ Some route = search rules in
    let by : chosen head.method resource ≡ Some route = ap (λ m. chosen m resource) (sym c.method.ensures) ∙ (sym c.by.ensures ∙ is) in
    let bad : body_length (method_of route) head ≡ Err c.in-Err.rejection = search rules in
    bad_body head resource route c.in-Err.rejection plain found by bad

pub returns-in-Ok : goal.returns-in-Ok
returns-in-Ok c =
    let head = c.args.head.now.0 in
    let resource = c.in-Some-find.resource in
    let route = c.in-Some-by.route in
    let plain : Plain head = sym c.values.ensures ∙ none_left c.next.result c.values.result c.next.new.self (sym c.is_some.ensures ∙ c.if-is_some.false) c.next.ensures.steps in
    let path : c.path_of.result.now ≡ path_of head.target = c.path_of.ensures ∙ ap path_of c.target.ensures in
    let some : Some c.in-Some.path.now ≡ ascii_text c.path_of.result.now = search rules in
    let found : route_of (path_of head.target) ≡ Some resource = route_found (path_of head.target) c.in-Some.path.now (Some resource) (some ∙ ap ascii_text path) (search rules) in
    let is : c.by.result ≡ Some route = search rules in
    let by : chosen head.method resource ≡ Some route = ap (λ m. chosen m resource) (sym c.method.ensures) ∙ (sym c.by.ensures ∙ is) in
    (planned head resource route c.in-Ok.length plain found by (search rules), ascii_path c.path_of.result.now c.in-Some.path.now some ∙ path)
