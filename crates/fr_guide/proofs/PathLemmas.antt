-- The parts of a path and of its form, behind references.
use Rattle.std.proofs.Common.{◌≡◌, ◌∙◌, ap, refl, sym, Bor, ℕ, Bool, true, false, cond, List, [], ◌∷◌, length, map, Option, Some, None, option_map, Result, Ok, Err, IfOk, String}
use Rattle.std.specs.Prelude.{◌&&◌, ◌==◌, find}
use Rattle.std.proofs.lemmas.Bool.{eq-eqb}
use Rattle.std.proofs.lemmas.List.{length-map}
use Rattle.std.specs.List.{list_all, zip}
use Rattle.std.specs.Global.{Global, Vec}
use Rattle.fr_guide.specs.Faults.{are_none}
use Rattle.fr_guide.specs.Paths.{are_fine_parts, forms, has_form, is_fine_part, is_fine_path, parts_of, stands}

-- what is so of pairs behind references
pub behind_references : (test : List ℕ × List ℕ → Bool) (form texts : List (Bor (List ℕ)))
    → list_all (λ both. test (both.0.now, both.1.now)) (zip form texts) ≡ list_all test (zip (map (λ part. part.now) form) (map (λ text. text.now) texts))
behind_references test [] texts = refl
behind_references test (part ∷ form) [] = refl
behind_references test (part ∷ form) (text ∷ texts) = ap (λ b. test (part.now, text.now) && b) (behind_references test form texts)

-- the first that passes a test is found behind what is made of it
found_behind : {A B : Type 0} (make : A → B) (test : B → Bool) (xs : List A) → find test (map make xs) ≡ option_map make (find (λ x. test (make x)) xs)
found_behind make test [] = refl
found_behind make test (x ∷ xs) = here (test (make x)) (found_behind make test xs)
  where
    here : (passes : Bool) → find test (map make xs) ≡ option_map make (find (λ x. test (make x)) xs)
        → cond passes (Some (make x)) (find test (map make xs)) ≡ option_map make (cond passes (Some x) (find (λ x. test (make x)) xs))
    here true others = refl
    here false others = others

-- a form whose parts are as many as the path's, and that they may all stand for, is one that the path has
pub has_form_where : (form texts : List (Bor (List ℕ))) (stand : Bool) → length form ≡ length texts
    → stand ≡ list_all (λ both. stands (both.0.now, both.1.now)) (zip form texts)
    → stand ≡ has_form (map (λ text. text.now) texts) (map (λ part. part.now) form)
has_form_where form texts stand as_many is =
    let many : (length (map (λ part. part.now) form) == length (map (λ text. text.now) texts)) ≡ true =
    eq-eqb _ _ (length-map form (λ part. part.now) ∙ as_many ∙ sym (length-map texts (λ text. text.now))) in
    is ∙ behind_references stands form texts ∙ ap (λ b. b && list_all stands (zip (map (λ part. part.now) form) (map (λ text. text.now) texts))) (sym many)

-- the texts of a form
abbrev pub texts_of : Bor (List (Bor (List ℕ))) → List (List ℕ)
texts_of form = map (λ part. part.now) form.now

-- a path has a form
pub with_form : (path : List ℕ) (texts : List (List ℕ)) (all : List (Bor (List (Bor (List ℕ))))) (found : Option (Bor (List (Bor (List ℕ))))) (form : Bor (List (Bor (List ℕ))))
    → texts ≡ parts_of path → map texts_of all ≡ forms → found ≡ find (λ form. has_form texts (texts_of form)) all → found ≡ Some form
    → list_all is_fine_part (zip (texts_of form) texts) ≡ is_fine_path path
unfolding is_fine_path
with_form path texts all found form parts are is some =
    let there : find (has_form texts) forms ≡ Some (texts_of form) =
    ap (λ l. find (has_form texts) l) (sym are) ∙ found_behind texts_of (has_form texts) all ∙ ap (λ o. option_map texts_of o) (sym is ∙ some) in
    ap (are_fine_parts texts) (sym there) ∙ ap (λ t. are_fine_parts t (find (has_form t) forms)) parts

-- it has none
pub without_form : (path : List ℕ) (texts : List (List ℕ)) (all : List (Bor (List (Bor (List ℕ))))) (found : Option (Bor (List (Bor (List ℕ)))))
    → texts ≡ parts_of path → map texts_of all ≡ forms → found ≡ find (λ form. has_form texts (texts_of form)) all → found ≡ None → false ≡ is_fine_path path
unfolding is_fine_path
without_form path texts all found parts are is none =
    let there : find (has_form texts) forms ≡ None =
    ap (λ l. find (has_form texts) l) (sym are) ∙ found_behind texts_of (has_form texts) all ∙ ap (λ o. option_map texts_of o) (sym is ∙ none) in
    ap (are_fine_parts texts) (sym there) ∙ ap (λ t. are_fine_parts t (find (has_form t) forms)) parts

-- ---- what is told

-- faults that are told where something is found are told where the same is
pub told_as : {E : Type 0} (r : Result (Vec (String Global)) E) (is found : Bool) → IfOk r (λ faults. are_none faults.items ≡ found) → is ≡ found
    → IfOk r (λ faults. are_none faults.items ≡ is)
told_as (Ok faults) is found told same = told ∙ sym same
told_as (Err error) is found told same = tt
