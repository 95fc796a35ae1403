-- What is picked among several lists is picked from the first that has the word.
use Rattle.std.proofs.Common.{◌≡◌, ◌∙◌, refl, sym, ap, ℕ, Bool, true, false, List, [], ◌∷◌, ◌++◌, Option, Some, None, Result, Ok, Err, cond}
use Rattle.std.specs.Prelude.{IfOk}
use Rattle.std.specs.Map.{lookup}
use Rattle.std.specs.Str.{bytes_eq}
use Rattle.serde_json.specs.Data.{Members}
use Rattle.fr_base.specs.declared.request.Request.{Request}
use Rattle.fr_text.specs.Fields.{◌>>=◌}
use Rattle.fr_text.specs.RequestText.{Arms, picked}

-- the first that there is
abbrev pub first_of_two : Option Request → Option Request → Option Request
first_of_two None others = others
first_of_two (Some request) others = Some request

-- one list, and those behind it
pub picked-append : (xs ys : Arms) (word : List ℕ) (fields : Members) → picked (xs ++ ys) word fields ≡ first_of_two (picked xs word fields) (picked ys word fields)
picked-append [] ys word fields = refl
picked-append (x ∷ xs) ys word fields = by (bytes_eq word x.0) (picked-append xs ys word fields)
  where
    by : (b : Bool) → picked (xs ++ ys) word fields ≡ first_of_two (picked xs word fields) (picked ys word fields)
        → (cond b (Some x.1) (lookup (bytes_eq word) (xs ++ ys)) >>= λ arm. Some (arm fields))
        ≡ first_of_two (cond b (Some x.1) (lookup (bytes_eq word) xs) >>= λ arm. Some (arm fields)) (picked ys word fields)
    by true others = refl
    by false others = others

-- it is in the first
pub picked_first : (xs ys : Arms) (word : List ℕ) (fields : Members) (request : Request) → Some request ≡ picked xs word fields → Some request ≡ picked (xs ++ ys) word fields
picked_first xs ys word fields request found = ap (λ o. first_of_two o (picked ys word fields)) found ∙ sym (picked-append xs ys word fields)

-- it is not in the first
pub picked_behind : (xs ys : Arms) (word : List ℕ) (fields : Members) (o : Option Request) → None ≡ picked xs word fields → o ≡ picked ys word fields → o ≡ picked (xs ++ ys) word fields
picked_behind xs ys word fields o none behind = behind ∙ ap (λ first. first_of_two first (picked ys word fields)) none ∙ sym (picked-append xs ys word fields)

-- the last list
pub picked_last : {E : Type 0} (xs ys : Arms) (word : List ℕ) (fields : Members) (r : Result (Option Request) E) → None ≡ picked xs word fields
    → IfOk r (λ request. request ≡ picked ys word fields) → IfOk r (λ request. request ≡ picked (xs ++ ys) word fields)
picked_last xs ys word fields (Ok request) none behind = picked_behind xs ys word fields request none behind
picked_last xs ys word fields (Err error) none behind = tt
