-- Laws of a head's fields.
use Rattle.std.proofs.Common.{◌≡◌, ℕ, ◌<◌, ◌≤◌, ◌-◌, true, false, List, [], ◌∷◌, length, map, take, drop, get_or, refl, sym, ap, ◌∙◌, subst, arith, inl, inr}
use Rattle.std.proofs.lemmas.List.{take_all}
use Rattle.std.proofs.lemmas.Bool.{cases_Bool}
use Rattle.std.proofs.lemmas.Slice.Eq.{bytes_eq-Decides}
use Rattle.std.specs.Char.{to_ascii_lowercase}
use Rattle.std.specs.List.{list_any}
use Rattle.std.specs.Prelude.{◌||◌, codes}
use Rattle.fr_http.specs.Outcome.{is_continue}
use Rattle.httparse.specs.Spans.{header_bytes}
use Rattle.httparse.specs.declared.spans.HeaderSpan.{HeaderSpan}
use Rattle.fr_http.specs.Head.{same_but_case, values}

-- texts that are the same in lower case are the same but for case
pub same_case : (a b : List ℕ) → map to_ascii_lowercase a ≡ map to_ascii_lowercase b → same_but_case a b ≡ true
same_case a b same = (bytes_eq-Decides (map to_ascii_lowercase a) (map to_ascii_lowercase b)).1 same

pub other_text : (a b : List ℕ) → (map to_ascii_lowercase a ≡ map to_ascii_lowercase b → ⊥) → same_but_case a b ≡ false
other_text a b differ = elim (cases_Bool (same_but_case a b)) [
  | inl same ↦ absurd (differ ((bytes_eq-Decides (map to_ascii_lowercase a) (map to_ascii_lowercase b)).0 same))
  | inr other ↦ other
]

pub values-none : (name : List ℕ) → values name [] ≡ []
unfolding values
values-none name = refl

-- a field of the name stands first
pub values-here : (name : List ℕ) (f : List ℕ × List ℕ) (fields : List (List ℕ × List ℕ)) → same_but_case f.0 name ≡ true → values name (f ∷ fields) ≡ f.1 ∷ values name fields
unfolding values
values-here name f fields h = rw h refl

-- another field stands first
pub values-later : (name : List ℕ) (f : List ℕ × List ℕ) (fields : List (List ℕ × List ℕ)) → same_but_case f.0 name ≡ false → values name (f ∷ fields) ≡ values name fields
unfolding values
values-later name f fields h = rw h refl

tail_whole : (f : HeaderSpan) (fs : List HeaderSpan) → take (length (f ∷ fs) - 1) (drop 1 (f ∷ fs)) ≡ fs
tail_whole f fs = take_all (length (f ∷ fs) - 1) fs (omega arith)

-- the first field's value is the next
pub taken : (bytes name : List ℕ) (fs : List HeaderSpan) (d : HeaderSpan) (n v w : List ℕ) → 1 ≤ length fs → n ≡ (header_bytes bytes (get_or fs 0 d)).0
    → v ≡ (header_bytes bytes (get_or fs 0 d)).1 → w ≡ name → map to_ascii_lowercase n ≡ map to_ascii_lowercase w
    → values name (map (header_bytes bytes) fs) ≡ v ∷ values name (map (header_bytes bytes) (take (length fs - 1) (drop 1 fs)))
taken bytes name [] d n v w some is_name is_value wanted same = absurd (omega (arith, some))
taken bytes name (f ∷ fs) d n v w some is_name is_value wanted same =
    let here : same_but_case (header_bytes bytes f).0 name ≡ true = subst (λ t. same_but_case t name ≡ true) is_name (subst (λ t. same_but_case n t ≡ true) wanted (same_case n w same)) in
    values-here name (header_bytes bytes f) (map (header_bytes bytes) fs) here
    ∙ ap (λ t. t ∷ values name (map (header_bytes bytes) fs)) (sym is_value)
    ∙ ap (λ rest. v ∷ values name (map (header_bytes bytes) rest)) (sym (tail_whole f fs))

-- the first field is passed over
pub passed : (bytes name : List ℕ) (fs : List HeaderSpan) (d : HeaderSpan) (n w : List ℕ) → 1 ≤ length fs → n ≡ (header_bytes bytes (get_or fs 0 d)).0
    → w ≡ name → (map to_ascii_lowercase n ≡ map to_ascii_lowercase w → ⊥)
    → values name (map (header_bytes bytes) fs) ≡ values name (map (header_bytes bytes) (take (length fs - 1) (drop 1 fs)))
passed bytes name [] d n w some is_name wanted differ = absurd (omega (arith, some))
passed bytes name (f ∷ fs) d n w some is_name wanted differ =
    let later : same_but_case (header_bytes bytes f).0 name ≡ false = subst (λ t. same_but_case t name ≡ false) is_name (subst (λ t. same_but_case n t ≡ false) wanted (other_text n w differ)) in
    values-later name (header_bytes bytes f) (map (header_bytes bytes) fs) later
    ∙ ap (λ rest. values name (map (header_bytes bytes) rest)) (sym (tail_whole f fs))

-- no field is left
pub ended : (bytes name : List ℕ) (fs : List HeaderSpan) → length fs < 1 → values name (map (header_bytes bytes) fs) ≡ []
ended bytes name [] none = values-none name
ended bytes name (f ∷ fs) none = absurd (omega (arith, none))

-- ---- fields that ask for `100 Continue`

pub continues_here : (value w : List ℕ) (all left : List (List ℕ)) → all ≡ value ∷ left → w ≡ codes "100-continue" → map to_ascii_lowercase value ≡ map to_ascii_lowercase w
    → list_any is_continue all ≡ true
continues_here value w all left first wanted same =
    ap (list_any is_continue) first ∙ ap (λ found. found || list_any is_continue left) (subst (λ t. same_but_case value t ≡ true) wanted (same_case value w same))

pub continues_later : (value w : List ℕ) (all left : List (List ℕ)) → all ≡ value ∷ left → w ≡ codes "100-continue"
    → (map to_ascii_lowercase value ≡ map to_ascii_lowercase w → ⊥) → list_any is_continue all ≡ list_any is_continue left
continues_later value w all left first wanted differ =
    ap (list_any is_continue) first ∙ ap (λ found. found || list_any is_continue left) (subst (λ t. same_but_case value t ≡ false) wanted (other_text value w differ))

pub ruleset continues = (continues_here, continues_later)
