-- Laws of what a head asks for.
use Rattle.std.proofs.Common.{◌≡◌, ℕ, ◌<◌, ◌≤◌, ◌+◌, ◌*◌, ◌-◌, Bool, true, false, List, [], ◌∷◌, length, take, get_or, Option, Some, None, Ok, Err, IfOk, nat_lt, refl, sym, ap, ◌∙◌, arith, inl, inr, Bor, if◌then◌else◌}
use Rattle.std.proofs.lemmas.Bool.{cases_Bool, lt-ltb, le-ltb, ltb-false, and_parts}
use Rattle.std.proofs.lemmas.Int.Digits.{digits_value_more}
use Rattle.std.proofs.lemmas.List.{take_all}
use Rattle.std.proofs.lemmas.List.Folds.{list_all_at}
use Rattle.std.proofs.lemmas.Str.Parse.{digits_value-take-le}
use Rattle.std.proofs.lemmas.Bool.Decides.{nat_tests}
use Rattle.std.specs.Char.{digit_value, is_ascii, is_ascii_digit}
use Rattle.std.specs.Iterator.{YieldsFirstRef}
use Rattle.std.specs.Option.{is_some}
use Rattle.std.specs.List.{list_all}
use Rattle.std.specs.Prelude.{codes}
use Rattle.std.specs.Str.Parse.{digits_value}
use Rattle.fr_base.proofs.SoundRefusing.{gives_bind, gives_or, gives_unless, gives_when}
use Rattle.fr_base.specs.Refusing.{◌>>=◌, ◌>>◌, ◌or◌, refuse◌when◌}
use Rattle.fr_http.specs.Head.{HeadData, values}
use Rattle.fr_http.specs.Outcome.{body_length, is_decimal, length_in, max_body, plan_of}
use Rattle.fr_http.specs.Routes.{allowed, ascii_text, chosen, matched, method_of, path_of, route_of}
use Rattle.fr_http.specs.declared.fault.Rejection.{Rejection}
use Rattle.fr_http.specs.declared.fault.Rejection.TheVariants.{BadRequest, NotFound, MethodNotAllowed, LengthRequired, PayloadTooLarge, NotImplemented}
use Rattle.fr_http.specs.declared.method.Method.{Method}
use Rattle.fr_http.specs.declared.method.Method.TheVariants.{Get, Post, Put}
use Rattle.fr_http.specs.declared.routes.Resource.{Resource}
use Rattle.fr_http.specs.declared.routes.Route.{Route}

-- ---- the length of a body

pub no_length : length_in [] ≡ Err LengthRequired
unfolding length_in
no_length = refl

pub two_lengths : (a b : List ℕ) (more : List (List ℕ)) → length_in (a ∷ b ∷ more) ≡ Err BadRequest
unfolding length_in
two_lengths a b more = refl

pub bad_length : (text : List ℕ) → is_decimal text ≡ false → length_in (text ∷ []) ≡ Err BadRequest
unfolding length_in ◌>>=◌ ◌>>◌ refuse◌when◌
bad_length text h = rw h refl

pub long_length : (text : List ℕ) → is_decimal text ≡ true → max_body < digits_value 10 text → length_in (text ∷ []) ≡ Err PayloadTooLarge
unfolding length_in ◌>>=◌ ◌>>◌ refuse◌when◌
long_length text h long = rw h (rw (lt-ltb max_body (digits_value 10 text) long) refl)

pub fine_length : (text : List ℕ) → is_decimal text ≡ true → digits_value 10 text ≤ max_body → length_in (text ∷ []) ≡ Ok (digits_value 10 text)
unfolding length_in ◌>>=◌ ◌>>◌ refuse◌when◌
fine_length text h fits = rw h (rw (le-ltb max_body (digits_value 10 text) fits) refl)

is_digit_at : (text : List ℕ) (i : ℕ) → i < length text → is_decimal text ≡ true → is_ascii_digit (get_or text i 0) ≡ true
is_digit_at text i within is =
    let all : list_all is_ascii_digit text ≡ true = (and_parts _ _ is).1 in
    elim (cases_Bool (is_ascii_digit (get_or text i 0))) [
      | inl digit ↦ digit
      | inr other ↦
          let none : list_all is_ascii_digit text ≡ false = list_all_at is_ascii_digit text i 0 within other in
          grind (arith, all, none)
    ]

digit_is : (c : ℕ) → is_ascii_digit c ≡ true → digit_value c ≡ c - 48
digit_is c h = grind (arith, nat_tests)

-- one more digit of a number
pub next_digit : (text : List ℕ) (i n x : ℕ) → is_decimal text ≡ true → i < length text → n ≡ digits_value 10 (take i text) → x ≡ get_or text i 0 - 48
    → n * 10 + x ≡ digits_value 10 (take (i + 1) text)
next_digit text i n x is within before digit =
    let d : digit_value (get_or text i 0) ≡ get_or text i 0 - 48 = digit_is (get_or text i 0) (is_digit_at text i within is) in
    ap (λ m. m * 10 + x) before ∙ ap (λ y. digits_value 10 (take i text) * 10 + y) (digit ∙ sym d) ∙ sym (digits_value_more 10 text i within)

-- a front of the digits is above the bound, and so are all
pub already_long : (text : List ℕ) (i n : ℕ) → is_decimal text ≡ true → n ≡ digits_value 10 (take (i + 1) text) → max_body < n → length_in (text ∷ []) ≡ Err PayloadTooLarge
already_long text i n is so_far long = long_length text is (omega (arith, digits_value-take-le 10 text (i + 1) (omega arith), so_far, long))

pub all_digits : (text : List ℕ) (i n : ℕ) → is_decimal text ≡ true → length text ≤ i → n ≡ digits_value 10 (take i text) → n ≤ max_body → Ok n ≡ length_in (text ∷ [])
all_digits text i n is end so_far fits =
    let all : n ≡ digits_value 10 text = so_far ∙ ap (digits_value 10) (take_all i text end) in
    ap (λ m. Ok m) all ∙ sym (fine_length text is (omega (arith, sym all, fits)))

pub needs_length : (values : List (List ℕ)) → values ≡ [] → Err LengthRequired ≡ length_in values
needs_length values none = sym (ap length_in none ∙ no_length)

pub has_two : (values rest left : List (List ℕ)) (a b : List ℕ) → values ≡ a ∷ rest → rest ≡ b ∷ left → Err BadRequest ≡ length_in values
has_two values rest left a b first second = sym (ap length_in (first ∙ ap (λ r. a ∷ r) second) ∙ two_lengths a b left)

pub has_one : (values rest : List (List ℕ)) (a : List ℕ) → values ≡ a ∷ rest → rest ≡ [] → length_in (a ∷ []) ≡ length_in values
has_one values rest a first none = sym (ap length_in (first ∙ ap (λ r. a ∷ r) none))

-- ---- the steps of a plan, in their order

-- the head has no transfer coding
abbrev pub Plain : HeadData → Type 0
Plain head = values (codes "transfer-encoding") head.fields ≡ []

pub coded : (head : HeadData) (value : List ℕ) (more : List (List ℕ)) → values (codes "transfer-encoding") head.fields ≡ value ∷ more → plan_of head ≡ Err NotImplemented
unfolding plan_of ◌>>=◌ ◌>>◌ ◌or◌ refuse◌when◌
coded head value more h = rw h (rw (lt-ltb 0 (length (value ∷ more)) (omega arith)) refl)

pub unrouted : (head : HeadData) → Plain head → route_of (path_of head.target) ≡ None → plan_of head ≡ Err NotFound
unfolding plan_of ◌>>=◌ ◌>>◌ ◌or◌ refuse◌when◌
unrouted head plain none = rw plain (rw none refl)

pub not_allowed : (head : HeadData) (resource : Resource) → Plain head → route_of (path_of head.target) ≡ Some resource
    → chosen head.method resource ≡ None → plan_of head ≡ Err (MethodNotAllowed (allowed resource))
unfolding plan_of ◌>>=◌ ◌>>◌ ◌or◌ refuse◌when◌
not_allowed head resource plain found other = rw plain (rw found (rw other refl))

pub bad_body : (head : HeadData) (resource : Resource) (route : Route) (rejection : Rejection) → Plain head → route_of (path_of head.target) ≡ Some resource
    → chosen head.method resource ≡ Some route → body_length (method_of route) head ≡ Err rejection → plan_of head ≡ Err rejection
unfolding plan_of ◌>>=◌ ◌>>◌ ◌or◌ refuse◌when◌
bad_body head resource route rejection plain found by bad = rw plain (rw found (rw by (rw bad refl)))

pub planned : (head : HeadData) (resource : Resource) (route : Route) (n : ℕ) → Plain head → route_of (path_of head.target) ≡ Some resource
    → chosen head.method resource ≡ Some route → body_length (method_of route) head ≡ Ok n
    → plan_of head ≡ Ok (record { route = route; length = n })
unfolding plan_of ◌>>=◌ ◌>>◌ ◌or◌ refuse◌when◌
planned head resource route n plain found by fits = rw plain (rw found (rw by (rw fits refl)))

-- ---- a body that is read keeps the bound

length_fits : (values : List (List ℕ)) → IfOk (length_in values) (λ n. n ≤ max_body)
unfolding length_in
length_fits [] = tt
length_fits (value ∷ []) =
    gives_unless _ _ (is_decimal value) _ (λ is.
    gives_when _ _ (nat_lt max_body (digits_value 10 value)) _ (λ fits. ltb-false max_body (digits_value 10 value) fits))
length_fits (a ∷ b ∷ more) = tt

body_fits : (method : Method) (head : HeadData) → IfOk (body_length method head) (λ n. n ≤ max_body)
body_fits Get head = omega arith
body_fits Post head = length_fits (values (codes "content-length") head.fields)
body_fits Put head = length_fits (values (codes "content-length") head.fields)

-- where a head wants a body, it is no longer than a body may be
pub wanted_fits : (head : HeadData) → IfOk (plan_of head) (λ w. w.length ≤ max_body)
unfolding plan_of
wanted_fits head =
    gives_when _ _ (nat_lt 0 (length (values (codes "transfer-encoding") head.fields))) _ (λ _.
    gives_or _ (route_of (path_of head.target)) _ _ (λ resource _.
    gives_or _ (chosen head.method resource) _ _ (λ route _.
    gives_bind _ (λ n. n ≤ max_body) (body_length (method_of route) head) _ (body_fits (method_of route) head) (λ n fits. fits))))

-- ---- the first of what is left

pub some_first : (r : Option (Bor (List ℕ))) (s t : List (List ℕ)) → is_some r ≡ true → YieldsFirstRef (λ l. l) s r t → (x : List ℕ) × (s ≡ x ∷ t)
some_first (Some x) s t is steps = (x.now, steps)
some_first None s t is steps = grind (arith, is)

pub none_left : (r : Option (Bor (List ℕ))) (s t : List (List ℕ)) → is_some r ≡ false → YieldsFirstRef (λ l. l) s r t → s ≡ []
none_left (Some x) s t is steps = grind (arith, is)
none_left None s t is steps = steps.0

-- ---- the route of a path

routed : (b : Bool) (path p : List ℕ) (r : Option Resource) → Some p ≡ (if b then Some path else None) → r ≡ matched p → (if b then matched path else None) ≡ r
routed true path p r is found = sym (found ∙ ap matched (injective is))
  where
    injective : {a b : List ℕ} → Some a ≡ Some b → a ≡ b
    injective e = grind (arith, e)
routed false path p r is found = grind (arith, is)

path_is : (b : Bool) (path p : List ℕ) → Some p ≡ (if b then Some path else None) → p ≡ path
path_is true path p is = grind (arith, is)
path_is false path p is = grind (arith, is)

unroutable : (b : Bool) (path : List ℕ) → None ≡ (if b then Some path else None) → (if b then matched path else None) ≡ None
unroutable true path is = grind (arith, is)
unroutable false path is = refl

pub route_found : (path p : List ℕ) (r : Option Resource) → Some p ≡ ascii_text path → r ≡ matched p → route_of path ≡ r
unfolding route_of
route_found path p r is found = routed (list_all is_ascii path) path p r is found

pub ascii_path : (path p : List ℕ) → Some p ≡ ascii_text path → p ≡ path
ascii_path path p is = path_is (list_all is_ascii path) path p is

pub not_ascii : (path : List ℕ) → None ≡ ascii_text path → route_of path ≡ None
unfolding route_of
not_ascii path is = unroutable (list_all is_ascii path) path is
