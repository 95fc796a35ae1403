-- How a script's bytes fall into lines.
use Rattle.std.proofs.Common.{◌≡◌, ℕ, suc, ◌+◌, ◌-◌, ◌<◌, Bool, true, false, ◌||◌, cond, List, [], ◌∷◌, ◌++◌, length, take, drop, refl, sym, ap, ◌∙◌, arith, subst, Option, Some, None, one-add, add-one, append_assoc, append-nil, inl, inr, length-append, is_some}
use Rattle.std.proofs.Math.Seq.{take-append_seam}
use Rattle.std.proofs.lemmas.Bool.{cases_Bool, eqb-true, lt-ltb, ltb-true, ltb-false, le-ltb, ne_eqb}
use Rattle.std.specs.Borrow.{Bor}
use Rattle.std.specs.List.{list_any, concat, before_first, after_first, slice_split, position, position_or_len, filter}
use Rattle.std.specs.Option.{option_map}
use Rattle.std.specs.Str.{bytes_eq}
use Rattle.std.specs.Str.Lines.{lines, lines_of_parts, strip_carriage_return}
use Rattle.std.proofs.lemmas.List.Splits.{slice_split_at, slice_split_none, length-slice_split}
use Rattle.std.proofs.lemmas.List.Elements.{All-from_recursion}
use Rattle.std.specs.Prelude.{nat_lt, ◌==◌, codes}
use Rattle.fr_text.specs.Script.{HasNo, IsFirstLine, onto_first_line, ended_lines, is_separator, parts_of, request_lines, parts_around}

-- ---- the first line

onto_first_line-feed : (lines : List (List ℕ)) → onto_first_line 10 lines ≡ (10 ∷ []) ∷ lines
onto_first_line-feed [] = refl
onto_first_line-feed (line ∷ more) = refl

-- a line that ends with a line feed stands first
pub ended_at : (line after : List ℕ) → HasNo 10 line → ended_lines (line ++ 10 ∷ after) ≡ (line ++ 10 ∷ []) ∷ ended_lines after
ended_at [] after h = onto_first_line-feed (ended_lines after)
ended_at (b ∷ line) after h = rw (ended_at line after h.1) (rw h.0 refl)

-- a line without an end is the last
pub ended_last : (b : ℕ) (line : List ℕ) → HasNo 10 (b ∷ line) → ended_lines (b ∷ line) ≡ (b ∷ line) ∷ []
ended_last b [] h = refl
ended_last b (c ∷ line) h = rw (ended_last c line h.1) (rw h.0 refl)

onto_first_line-concat : (b : ℕ) (lines : List (List ℕ)) → concat (onto_first_line b lines) ≡ b ∷ concat lines
onto_first_line-concat b [] = refl
onto_first_line-concat b (line ∷ more) = elim (b == 10) as (λ v. concat (cond v ((b ∷ []) ∷ line ∷ more) ((b ∷ line) ∷ more)) ≡ b ∷ (line ++ concat more)) [ true ↦ refl | false ↦ refl ]

-- the lines with their ends are the bytes
pub concat_ended : (bytes : List ℕ) → concat (ended_lines bytes) ≡ bytes
concat_ended [] = refl
concat_ended (b ∷ bytes) = onto_first_line-concat b (ended_lines bytes) ∙ ap (λ l. b ∷ l) (concat_ended bytes)

-- ---- what stands before the separator

-- the parts, with these bytes in front of the first
abbrev pub with_front : List ℕ → Option (List ℕ × List ℕ) → Option (List ℕ × List ℕ)
with_front front = option_map (λ parts. (front ++ parts.0, parts.1))

-- the parts of these lines before and after the first that passes
abbrev pub parts_by : (List ℕ → Bool) → List (List ℕ) → Option (List ℕ × List ℕ)
parts_by p all = cond (list_any p all) (Some (concat (before_first p all), concat (after_first p all))) None

parts_by-here : (p : List ℕ → Bool) (line : List ℕ) (more : List (List ℕ)) → p line ≡ true → parts_by p (line ∷ more) ≡ Some ([], concat more)
parts_by-here p line more h = rw h refl

with_front-cond : (b : Bool) (line front rest : List ℕ) → cond b (Some (line ++ front, rest)) None ≡ with_front line (cond b (Some (front, rest)) None)
with_front-cond true line front rest = refl
with_front-cond false line front rest = refl

parts_by-later : (p : List ℕ → Bool) (line : List ℕ) (more : List (List ℕ)) → p line ≡ false → parts_by p (line ∷ more) ≡ with_front line (parts_by p more)
parts_by-later p line more h =
    let k : ℕ = position_or_len p more in
    rw h (rw (one-add k) (rw (add-one (suc k)) (rw (add-one k) (with_front-cond (list_any p more) line (concat (take k more)) (concat (drop (suc k) more))))))

parts_of_bytes : (bytes : List ℕ) → parts_of bytes ≡ parts_by is_separator (ended_lines bytes)
unfolding parts_of
parts_of_bytes bytes = refl

-- the first line is the separator
pub parts_of_here : (bytes line after : List ℕ) → ended_lines bytes ≡ line ∷ ended_lines after → is_separator line ≡ true → parts_of bytes ≡ Some ([], after)
parts_of_here bytes line after e h =
    parts_of_bytes bytes ∙ ap (parts_by is_separator) e ∙ parts_by-here is_separator line (ended_lines after) h ∙ ap (λ l. Some ([], l)) (concat_ended after)

-- the first line is not the separator
pub parts_of_later : (bytes line after : List ℕ) → ended_lines bytes ≡ line ∷ ended_lines after → is_separator line ≡ false → parts_of bytes ≡ with_front line (parts_of after)
parts_of_later bytes line after e h =
    parts_of_bytes bytes ∙ ap (parts_by is_separator) e ∙ parts_by-later is_separator line (ended_lines after) h ∙ ap (with_front line) (sym (parts_of_bytes after))

-- what stands in front of the parts, in two steps
pub with_front-append : (front line : List ℕ) (parts : Option (List ℕ × List ℕ)) → with_front front (with_front line parts) ≡ with_front (front ++ line) parts
with_front-append front line None = refl
with_front-append front line (Some parts) = ap (λ l. Some (l, parts.1)) (sym (append_assoc front line parts.0))

-- ---- the bytes round a first byte

-- the bytes round the first c, or none where there is no c
abbrev pub Around : ℕ → List ℕ → Option (List ℕ × List ℕ) → Type 0
Around c bytes None = HasNo c bytes
Around c bytes (Some parts) = (bytes ≡ parts.0 ++ c ∷ parts.1) × HasNo c parts.0

parts_around-here : (c b : ℕ) (bytes : List ℕ) → (b == c) ≡ true → parts_around c (b ∷ bytes) ≡ Some ([], bytes)
parts_around-here c b bytes h = rw h refl

with_front-one : (found : Bool) (b : ℕ) (front rest : List ℕ) → cond found (Some (b ∷ front, rest)) None ≡ with_front (b ∷ []) (cond found (Some (front, rest)) None)
with_front-one true b front rest = refl
with_front-one false b front rest = refl

parts_around-later : (c b : ℕ) (bytes : List ℕ) → (b == c) ≡ false → parts_around c (b ∷ bytes) ≡ with_front (b ∷ []) (parts_around c bytes)
parts_around-later c b bytes h =
    let k : ℕ = position_or_len (λ x. x == c) bytes in
    rw h (rw (one-add k) (rw (add-one (suc k)) (rw (add-one k) (with_front-one (list_any (λ x. x == c) bytes) b (take k bytes) (drop (suc k) bytes)))))

Around-later : (c b : ℕ) (bytes : List ℕ) (parts : Option (List ℕ × List ℕ)) → (b == c) ≡ false → Around c bytes parts → Around c (b ∷ bytes) (with_front (b ∷ []) parts)
Around-later c b bytes None h found = (h, found)
Around-later c b bytes (Some parts) h found = (ap (λ l. b ∷ l) found.0, (h, found.1))

pub around : (c : ℕ) (bytes : List ℕ) → Around c bytes (parts_around c bytes)
around c [] = tt
around c (b ∷ bytes) = elim (cases_Bool (b == c)) [
  | inl h ↦ rw (parts_around-here c b bytes h) (ap (λ x. x ∷ bytes) (eqb-true b c h), tt)
  | inr h ↦ rw (parts_around-later c b bytes h) (Around-later c b bytes (parts_around c bytes) h (around c bytes))
]

nat_lt-suc : (k n : ℕ) → nat_lt (1 + k) (suc n) ≡ nat_lt k n
nat_lt-suc k n = elim (cases_Bool (nat_lt k n)) [
  | inl h ↦ lt-ltb (1 + k) (suc n) (omega (arith, ltb-true k n h)) ∙ sym h
  | inr h ↦ le-ltb (1 + k) (suc n) (omega (arith, ltb-false k n h)) ∙ sym h
]

any_within : (p : ℕ → Bool) (xs : List ℕ) → list_any p xs ≡ nat_lt (position_or_len p xs) (length xs)
any_within p [] = refl
any_within p (x ∷ xs) =
    let k : ℕ = position_or_len p xs in
    elim (cases_Bool (p x)) [
      | inl h ↦ rw h (sym (lt-ltb 0 (suc (length xs)) (omega arith)))
      | inr h ↦ rw h (any_within p xs ∙ sym (nat_lt-suc k (length xs)))
    ]

option_map-cond : (found : Bool) (at : ℕ) (bytes : List ℕ) → cond {A = Option (List ℕ × List ℕ)} found (Some (take at bytes, drop (at + 1) bytes)) None ≡ option_map (λ at. (take at bytes, drop (at + 1) bytes)) (cond found (Some at) None)
option_map-cond true at bytes = refl
option_map-cond false at bytes = refl

-- the parts, by the index of the byte
pub parts_around-position : (c : ℕ) (bytes : List ℕ) → parts_around c bytes ≡ option_map (λ at. (take at bytes, drop (at + 1) bytes)) (position (λ b. b == c) bytes)
parts_around-position c bytes =
    let at : ℕ = position_or_len (λ b. b == c) bytes in
    ap (λ found. cond {A = Option (List ℕ × List ℕ)} found (Some (take at bytes, drop (at + 1) bytes)) None) (any_within (λ b. b == c) bytes) ∙ option_map-cond (nat_lt at (length bytes)) at bytes

-- ---- the first line, as code takes it

lines_of_parts-first : (x : List ℕ) (more : List (List ℕ)) → 0 < length more → lines_of_parts (x ∷ more) ≡ strip_carriage_return x ∷ lines_of_parts more
lines_of_parts-first x [] h = absurd (omega (arith, h))
lines_of_parts-first x (y ∷ more) h = refl

pub lines_at : (line after : List ℕ) → HasNo 10 line → lines (line ++ 10 ∷ after) ≡ strip_carriage_return line ∷ lines after
lines_at line after h =
    ap lines_of_parts (slice_split_at (λ b. b == 10) line 10 after (All-from_recursion (λ b. (b == 10) ≡ false) _ h) refl)
    ∙ lines_of_parts-first line (slice_split (λ b. b == 10) after) (omega (arith, length-slice_split (λ b. b == 10) after))

pub lines_last : (b : ℕ) (line : List ℕ) → HasNo 10 (b ∷ line) → lines (b ∷ line) ≡ (b ∷ line) ∷ []
lines_last b line h =
    ap lines_of_parts (slice_split_none (λ b. b == 10) (b ∷ line) (All-from_recursion (λ b. (b == 10) ≡ false) (b ∷ line) h))
    ∙ ap (λ found. cond {A = List (List ℕ)} found [] ((b ∷ line) ∷ [])) (ne_eqb (suc (length line)) 0 (λ e. omega (arith, e)))

or_false : (b : Bool) → (b || false) ≡ b
or_false true = refl
or_false false = refl

separator_of : (ended text : List ℕ) → lines ended ≡ text ∷ [] → is_separator ended ≡ bytes_eq text (codes "---")
separator_of ended text e = ap (list_any (λ text. bytes_eq text (codes "---"))) e ∙ or_false (bytes_eq text (codes "---"))

-- the first line has an end
pub takes_ended : (bytes line after text : List ℕ) → bytes ≡ line ++ 10 ∷ after → HasNo 10 line → text ≡ strip_carriage_return line → IsFirstLine bytes text after
takes_ended bytes line after text whole clear is = record {
  line = ap lines whole ∙ lines_at line after clear ∙ ap (λ t. t ∷ lines after) (sym is);
  ended = line ++ 10 ∷ [];
  split = whole ∙ sym (append_assoc line (10 ∷ []) after);
  ends = ap ended_lines whole ∙ ended_at line after clear;
  separator = separator_of (line ++ 10 ∷ []) text (lines_at line [] clear ∙ ap (λ t. t ∷ []) (sym is));
}

-- the first line has no end: it is all there is
pub takes_last : (bytes : List ℕ) → 0 < length bytes → HasNo 10 bytes → IsFirstLine bytes bytes []
takes_last [] some clear = absurd (omega (arith, some))
takes_last (b ∷ line) some clear = record {
  line = lines_last b line clear;
  ended = b ∷ line;
  split = sym (append-nil (b ∷ line));
  ends = ended_last b line clear;
  separator = separator_of (b ∷ line) (b ∷ line) (lines_last b line clear);
}

-- ---- the parts and the requests, line by line

front_of : (bytes front rest : List ℕ) → bytes ≡ front ++ rest → take (length bytes - length rest) bytes ≡ front
front_of bytes front rest whole =
    let size : length bytes - length rest ≡ length front = omega (arith, ap length whole, length-append front rest) in
    ap (λ n. take n bytes) size ∙ ap (take (length front)) whole ∙ take-append_seam front rest

-- the separator stands first in what is left
pub parts_of_found : (bytes front rest line after : List ℕ) → bytes ≡ front ++ rest → parts_of bytes ≡ with_front front (parts_of rest) → IsFirstLine rest line after
    → bytes_eq line (codes "---") ≡ true → Some (take (length bytes - length rest) bytes, after) ≡ parts_of bytes
parts_of_found bytes front rest line after whole so takes is =
    let cut : take (length bytes - length rest) bytes ≡ front = front_of bytes front rest whole in
    ap (λ l. Some (l, after)) (cut ∙ sym (append-nil front)) ∙ sym (so ∙ ap (with_front front) (parts_of_here rest takes.ended after takes.ends (takes.separator ∙ is)))

-- another line stands first in what is left
pub parts_of_passed : (bytes front rest line after : List ℕ) → bytes ≡ front ++ rest → parts_of bytes ≡ with_front front (parts_of rest) → IsFirstLine rest line after
    → bytes_eq line (codes "---") ≡ false → (longer : List ℕ) × (bytes ≡ longer ++ after) × (parts_of bytes ≡ with_front longer (parts_of after))
parts_of_passed bytes front rest line after whole so takes is = (
  front ++ takes.ended,
  whole ∙ ap (λ l. front ++ l) takes.split ∙ sym (append_assoc front takes.ended after),
  so ∙ ap (with_front front) (parts_of_later rest takes.ended after takes.ends (takes.separator ∙ is)) ∙ with_front-append front takes.ended (parts_of after),
)

-- nothing is left
pub parts_of_missing : (bytes front rest : List ℕ) → parts_of bytes ≡ with_front front (parts_of rest) → rest ≡ [] → None ≡ parts_of bytes
parts_of_missing bytes front rest so none = sym (so ∙ ap (λ l. with_front front (parts_of l)) none ∙ ap (with_front front) (parts_of_bytes []))

pub request_lines-none : (bytes : List ℕ) → bytes ≡ [] → request_lines bytes ≡ []
unfolding request_lines
request_lines-none bytes e = ap (λ l. filter (λ line. nat_lt 0 (length line)) (lines l)) e

pub request_lines-first : (bytes line after : List ℕ) → lines bytes ≡ line ∷ lines after → request_lines bytes ≡ cond (nat_lt 0 (length line)) (line ∷ request_lines after) (request_lines after)
unfolding request_lines
request_lines-first bytes line after e = ap (filter (λ line. nat_lt 0 (length line))) e

-- a line that is not empty is the first request
pub request_lines-some : (bytes line after : List ℕ) → lines bytes ≡ line ∷ lines after → 0 < length line → request_lines bytes ≡ line ∷ request_lines after
request_lines-some bytes line after e h = request_lines-first bytes line after e ∙ rw (lt-ltb 0 (length line) h) refl

-- an empty line is passed over
pub request_lines-empty : (bytes line after : List ℕ) → lines bytes ≡ line ∷ lines after → length line ≡ 0 → request_lines bytes ≡ request_lines after
request_lines-empty bytes line after e h = request_lines-first bytes line after e ∙ rw (le-ltb 0 (length line) (omega (arith, h))) refl

-- ---- requests that are taken

-- the lemmas by which a request is taken
pub ruleset request_taken = (request_lines-none, request_lines-some, request_lines-empty)

-- ---- a line with its end

split_of : (bytes line after : List ℕ) (parts : Option (List ℕ × List ℕ)) → Around 10 bytes parts → Some (line, after) ≡ parts → bytes ≡ line ++ 10 ∷ after
split_of bytes line after parts found e = (subst (Around 10 bytes) (sym e) found).0

-- a line feed ends it, and what follows it is left
pub split_by : (bytes line after : List ℕ) → Some (line, after) ≡ parts_around 10 bytes → bytes ≡ line ++ 10 ∷ after
split_by bytes line after e = split_of bytes line after (parts_around 10 bytes) (around 10 bytes) e

clear_of : (bytes line after : List ℕ) (parts : Option (List ℕ × List ℕ)) → Around 10 bytes parts → Some (line, after) ≡ parts → HasNo 10 line
clear_of bytes line after parts found e = (subst (Around 10 bytes) (sym e) found).1

-- and there is none before
pub split_clear : (bytes line after : List ℕ) → Some (line, after) ≡ parts_around 10 bytes → HasNo 10 line
split_clear bytes line after e = clear_of bytes line after (parts_around 10 bytes) (around 10 bytes) e

feed_shows : (line after : List ℕ) → HasNo 10 (line ++ 10 ∷ after) → ⊥
feed_shows [] after h = absurd cc
feed_shows (b ∷ line) after h = feed_shows line after h.1

-- so these bytes have a line feed
pub has_feed : (bytes line after : List ℕ) → Some (line, after) ≡ parts_around 10 bytes → HasNo 10 bytes → ⊥
has_feed bytes line after e h = feed_shows line after (subst (HasNo 10) (split_by bytes line after e) h)

-- so where parts were found round one
pub feed_found : (bytes : List ℕ) (found : Option (Bor (List ℕ) × Bor (List ℕ))) → is_some found ≡ true → option_map (λ x. (x.0.now, x.1.now)) found ≡ parts_around 10 bytes
    → HasNo 10 bytes → ⊥
feed_found bytes None some is clear = absurd cc
feed_found bytes (Some x) some is clear = has_feed bytes x.0.now x.1.now is clear

-- no line feed is left
pub no_feed : (bytes : List ℕ) → None ≡ parts_around 10 bytes → HasNo 10 bytes
no_feed bytes e = subst (Around 10 bytes) (sym e) (around 10 bytes)

pub has_no-append : (c : ℕ) (xs ys : List ℕ) → HasNo c xs → HasNo c ys → HasNo c (xs ++ ys)
has_no-append c [] ys p q = q
has_no-append c (x ∷ xs) ys p q = (p.0, has_no-append c xs ys p.1 q)
