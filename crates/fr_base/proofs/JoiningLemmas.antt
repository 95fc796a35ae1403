-- A supplier that joins a list of suppliers, or has another key there.
use Rattle.std.proofs.Common.{◌≡◌, ◌∙◌, ◌+◌, ◌≤◌, ◌||◌, ℕ, suc, Bool, true, false, cond, not, List, [], ◌∷◌, map, length, Option, Some, None, arith, position, insert, unwrap_or, ltb, refl, ap, ◌-◌, ◌&&◌, take, drop, get_or}
use Rattle.std.specs.Prelude.{⊤}
use Rattle.std.specs.List.{list_any, position_or_len}
use Rattle.std.proofs.lemmas.Bool.Decides.{nat_tests}
use Rattle.std.proofs.lemmas.Grind.{common_steps}
use Rattle.std.proofs.lemmas.List.Sums.{prefix_len-le-length}
use Rattle.fr_base.specs.Cluster.{keys_differ, keys_of}
use Rattle.fr_base.specs.Refusing.{◌>>◌, refuse◌when◌}
use Rattle.fr_base.specs.Joining.{admits_supplier, is_earlier, with_supplier}
use Rattle.fr_base.specs.KeyChanges.{admits_key}
use Rattle.fr_base.specs.Names.{same_text}
use Rattle.fr_base.specs.declared.config.Supplier.{Supplier}
use Rattle.fr_base.specs.declared.key.Key.{Key}

-- what the proofs about a supplier that joins, and about one that has another key, open
unfoldable pub joining_open : ⊤
unfolding admits_supplier admits_key ◌>>◌ refuse◌when◌
joining_open = tt

-- a key among the suppliers' keys is a supplier's
pub any_key : (key : Key) (ss : List Supplier) → list_any (same_text key) (map (λ s. s.key) ss) ≡ list_any (λ s. same_text key s.key) ss
any_key key [] = refl
any_key key (s ∷ ss) = ap (λ t. same_text key s.key || t) (any_key key ss)

-- all but the first supplier, as a pattern takes the list apart
rest_of : (s : Supplier) (ss : List Supplier) → take (length (s ∷ ss) - 1) (drop 1 (s ∷ ss)) ≡ ss
rest_of s ss = grind (arith, common_steps)

-- the keys differ where the first is no other's, and those of the rest differ
pub keys_differ-split : (key : Key) (ss : List Supplier) (next : Supplier) → next ≡ get_or ss 0 next → 1 ≤ length ss
    → keys_differ (keys_of key ss)
    ≡ (not (list_any (λ t. same_text key t.key) ss) && keys_differ (keys_of next.key (take (length ss - 1) (drop 1 ss))))
keys_differ-split key [] next is some = absurd (omega arith)
keys_differ-split key (s ∷ ss) next is some = rw (is, rest_of s ss, any_key key (s ∷ ss)) refl

-- the place at which the supplier is put
with_supplier_at : (s : Supplier) (ss : List Supplier) → insert ss (position_or_len (λ t. is_earlier s.name t.name) ss) s ≡ with_supplier s ss
with_supplier_at s [] = refl
with_supplier_at s (t ∷ ss) = by_test (is_earlier s.name t.name) (with_supplier_at s ss)
  where
    place : ℕ
    place = position_or_len (λ t. is_earlier s.name t.name) ss

    by_test : (b : Bool) → insert ss place s ≡ with_supplier s ss → insert (t ∷ ss) (cond (not b) (1 + place) 0) s ≡ cond b (s ∷ t ∷ ss) (t ∷ with_supplier s ss)
    by_test true later = refl
    by_test false later =
        let next : 1 + place ≡ suc place = omega arith in
        ap (λ n. insert (t ∷ ss) n s) next ∙ ap (λ l. t ∷ l) later

place_of_position : {X : Type 0} (p : X → Bool) (xs : List X) → unwrap_or (position p xs) (length xs) ≡ position_or_len p xs
place_of_position p xs = by_test (ltb (position_or_len p xs) (length xs)) refl (prefix_len-le-length (λ x. not (p x)) xs)
  where
    by_test : (b : Bool) → ltb (position_or_len p xs) (length xs) ≡ b → position_or_len p xs ≤ length xs → unwrap_or (cond b (Some (position_or_len p xs)) None) (length xs) ≡ position_or_len p xs
    by_test true e within = refl
    by_test false e within = grind (arith, nat_tests)

pub inserted : (items seen new : List Supplier) (s : Supplier) (len index : ℕ) (o : Option ℕ) (done : Bool) → seen ≡ items → o ≡ position (λ t. is_earlier s.name t.name) seen → len ≡ length items →
    index ≡ unwrap_or o len → new ≡ cond done (insert items index s) items → done ≡ true → new ≡ with_supplier s items
inserted items seen new s len index o done same found size at is worked =
    let here : ℕ = unwrap_or (position (λ (t : Supplier). is_earlier s.name t.name) items) (length items) in
    let place : index ≡ here = at ∙ ap (λ o. unwrap_or o len) (found ∙ ap (position (λ (t : Supplier). is_earlier s.name t.name)) same) ∙ ap (unwrap_or (position (λ (t : Supplier). is_earlier s.name t.name) items)) size in
    is ∙ ap (λ b. cond b (insert items index s) items) worked ∙ ap (λ n. insert items n s) (place ∙ place_of_position (λ t. is_earlier s.name t.name) items) ∙ with_supplier_at s items
