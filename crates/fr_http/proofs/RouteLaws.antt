-- Laws of paths and routes.
use Rattle.std.proofs.Common.{◌≡◌, ℕ, ◌<◌, Bool, true, false, cond, List, [], ◌∷◌, take, length, map, get_or, ◌≤◌, ◌+◌, refl, sym, ap, ◌∙◌, arith, Option, Some, None, Result, Ok, Err, IsUtf8, Bor}
use Rattle.std.proofs.lemmas.Bool.{ltb-false}
use Rattle.std.proofs.lemmas.List.{map-append, take_all, take_more}
use Rattle.std.proofs.lemmas.Grind.{fold-append}
use Rattle.std.proofs.lemmas.Str.{IsUtf8-from_ascii}
use Rattle.std.proofs.lemmas.Str.Ascii.{IsAscii-nil, IsAscii-cons}
use Rattle.std.proofs.lemmas.Bool.{and_parts}
use Rattle.std.proofs.lemmas.Bool.Decides.{nat_tests}
use Rattle.std.specs.Char.{is_ascii}
use Rattle.std.specs.List.{before_first, fold, list_all, position, position_or_len, slice_get, slice_split}
use Rattle.std.specs.Option.{option_map, unwrap_or}
use Rattle.std.specs.Prelude.{◌==◌, is_err}
use Rattle.std.specs.Str.{IsAscii}
use Rattle.matchit.specs.Route.{parse_route}
use Rattle.matchit.specs.Router.{InsertsRead, RouteOf}
use Rattle.matchit.specs.Rows.{RowsOf}
use Rattle.matchit.specs.declared.error.InsertError.{InsertError}
use Rattle.matchit.specs.Route.{Scan}
use Rattle.fr_http.specs.Routes.{part, place, router, table, with_read, with_route}
use Rattle.fr_http.specs.declared.path_name.PathName.{PathName}
use Rattle.fr_http.specs.declared.routes.Resource.{Resource}

place_of : (b : Bool) (k at : ℕ) → cond {A = Option ℕ} b (Some k) None ≡ Some at → k ≡ at
place_of true k at e = grind (arith, e)
place_of false k at e = grind (arith, e)

none_of : (b : Bool) (k : ℕ) → cond {A = Option ℕ} b (Some k) None ≡ None → b ≡ false
none_of true k e = grind (arith, e)
none_of false k e = refl

-- what stands before the first that passes, by its place
pub before_place : (p : ℕ → Bool) (bytes : List ℕ) (at : ℕ) → position p bytes ≡ Some at → take at bytes ≡ before_first p bytes
before_place p bytes at found = ap (λ n. take n bytes) (sym (place_of _ _ at found))

pub before_none : (p : ℕ → Bool) (bytes : List ℕ) → position p bytes ≡ None → bytes ≡ before_first p bytes
before_none p bytes none = sym (take_all (position_or_len p bytes) bytes (omega (arith, ltb-false (position_or_len p bytes) (length bytes) (none_of _ _ none))))

ascii_byte : (b : ℕ) → is_ascii b ≡ true → b < 128
ascii_byte b h = grind (arith, nat_tests)

ascii_bytes : (bytes : List ℕ) → list_all is_ascii bytes ≡ true → IsAscii bytes
ascii_bytes [] h = IsAscii-nil
ascii_bytes (b ∷ bytes) h = IsAscii-cons b bytes (ascii_byte b (and_parts _ _ h).0) (ascii_bytes bytes (and_parts _ _ h).1)

pub ascii_is_text : (bytes : List ℕ) → list_all is_ascii bytes ≡ true → IsUtf8 bytes
ascii_is_text bytes h = IsUtf8-from_ascii bytes (ascii_bytes bytes h)

inserted_read : (read : Result Scan InsertError) (resource : Resource) (old new : RowsOf (RouteOf Resource)) → InsertsRead read resource old new (Ok tt) → new ≡ with_read old resource read
inserted_read (Ok s) resource old new h = h.1
inserted_read (Err e) resource old new h = h.0

-- a pattern that went in is in its place
pub inserted : (text : List ℕ) (resource : Resource) (old new : RowsOf (RouteOf Resource)) (r : Result (Unit {0}) InsertError) → is_err r ≡ false
    → InsertsRead (parse_route text) resource old new r → new ≡ with_route old (text, resource)
unfolding with_route
inserted text resource old new (Ok u) fine h = inserted_read (parse_route text) resource old new h
inserted text resource old new (Err e) fine h = grind (arith, fine)

-- what a path leads to as the code has it, behind its pattern
abbrev pub entry_of : Bor (List ℕ) × Resource → List ℕ × Resource
entry_of entry = (entry.0.now, entry.1)

-- the patterns so far, and one more
pub one_more : (entries : List (Bor (List ℕ) × Resource)) (i : ℕ) (entry : Bor (List ℕ) × Resource) (old new : RowsOf (RouteOf Resource)) → i < length entries
    → old ≡ fold with_route [] (map entry_of (take i entries)) → new ≡ with_route old (entry_of (get_or entries i entry))
    → new ≡ fold with_route [] (map entry_of (take (i + 1) entries))
one_more entries i entry old new more were is =
    is ∙ ap (λ r. with_route r (entry_of (get_or entries i entry))) were
    ∙ sym (fold-append with_route [] (map entry_of (take i entries)) (entry_of (get_or entries i entry) ∷ []))
    ∙ ap (fold with_route []) (sym (map-append entry_of (take i entries) (get_or entries i entry ∷ [])) ∙ ap (map entry_of) (sym (take_more entries i entry more)))

-- all of them are the router's
pub all_routes : (entries : List (Bor (List ℕ) × Resource)) (i : ℕ) (router_now : RowsOf (RouteOf Resource)) → length entries ≤ i
    → map entry_of entries ≡ table → router_now ≡ fold with_route [] (map entry_of (take i entries)) → router_now ≡ router
unfolding router
all_routes entries i router_now all are is = is ∙ ap (λ es. fold with_route [] (map entry_of es)) (take_all i entries all) ∙ ap (fold with_route []) are

now_of : (r : Option (Bor (List ℕ))) (d : Bor (List ℕ)) → (unwrap_or r d).now ≡ unwrap_or (option_map (λ x. x.now) r) d.now
now_of None d = refl
now_of (Some x) d = refl

-- the part that an iterator over the parts found, or none
pub part_found : (name : PathName) (path : List ℕ) (found : Option (Bor (List ℕ))) (d result : Bor (List ℕ)) → d.now ≡ [] → result ≡ unwrap_or found d
    → option_map (λ x. x.now) found ≡ slice_get (slice_split (λ b. b == 47) path) (place name) → result.now ≡ part name path
unfolding part
part_found name path found d result empty is there =
    ap (λ r. r.now) is ∙ now_of found d ∙ ap (λ e. unwrap_or (option_map (λ x. x.now) found) e) empty ∙ ap (λ o. unwrap_or o []) there
