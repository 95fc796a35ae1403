-- The name of a number: that of the row which is found. Each refusal's number has its name.
use Rattle.std.proofs.Common.{◌≡◌, ℕ, List, [], ◌∷◌, true, false, cond, Some, None, refl, ap}
use Rattle.std.specs.Prelude.{decimal, find}
use Rattle.std.specs.Fmt.{digits}
use Rattle.std.specs.Borrow.{Bor}
use Rattle.std.specs.Str.{bytes_eq}
use Rattle.fr_base.specs.Refusals.{name_of, number_of}
use Rattle.fr_base.specs.declared.refusal.Refusal.{Refusal}
use Rattle.fr_base.specs.declared.refusal.Refusal.TheVariants as refusal
use Rattle.fr_guide.specs.RefusalNumbers.{meant_word, named_in, numbered, pairs_of}

-- the row that is found has the name
pub named_found : (word : List ℕ) (rows : List (Bor (List ℕ) × Bor (List ℕ))) (row : Bor (List ℕ) × Bor (List ℕ)) → find (λ r. bytes_eq r.0.now word) rows ≡ Some row → named_in (pairs_of rows) word ≡ row.1.now
named_found word [] row found = absurd cc
named_found word (r ∷ rs) row found =
    elim (bytes_eq r.0.now word) as (λ b. cond b (Some r) (find (λ r. bytes_eq r.0.now word) rs) ≡ Some row → cond b r.1.now (named_in (pairs_of rs) word) ≡ row.1.now) [
      | true ↦ λ is.
          let same : r ≡ row = cc in
          ap (λ (x : Bor (List ℕ) × Bor (List ℕ)). x.1.now) same
      | false ↦ λ is. named_found word rs row is
    ] found

-- where none is found the word is meant itself
pub named_missing : (word : List ℕ) (rows : List (Bor (List ℕ) × Bor (List ℕ))) → find (λ r. bytes_eq r.0.now word) rows ≡ None → named_in (pairs_of rows) word ≡ word
named_missing word [] found = refl
named_missing word (r ∷ rs) found =
    elim (bytes_eq r.0.now word) as (λ b. cond b (Some r) (find (λ r. bytes_eq r.0.now word) rs) ≡ None → cond b r.1.now (named_in (pairs_of rs) word) ≡ word) [
      | true ↦ λ is. absurd cc
      | false ↦ λ is. named_missing word rs is
    ] found

pub numbers : (r : Refusal) → meant_word (decimal (number_of r)) ≡ name_of r
unfolding numbered digits
numbers refusal.BadText = refl
numbers refusal.UnknownKey = refl
numbers refusal.NotYours = refl
numbers refusal.BadName = refl
numbers refusal.BadCycles = refl
numbers refusal.BadSlot = refl
numbers refusal.BadChannel = refl
numbers refusal.BadSignal = refl
numbers refusal.LabelUsed = refl
numbers refusal.NoVariant = refl
numbers refusal.Released = refl
numbers refusal.NotReleased = refl
numbers refusal.TooDeep = refl
numbers refusal.NoSupplier = refl
numbers refusal.NoNode = refl
numbers refusal.NoFrame = refl
numbers refusal.NoSignal = refl
numbers refusal.NoPlacement = refl
numbers refusal.Exists = refl
numbers refusal.NodeDiffers = refl
numbers refusal.NotGranted = refl
numbers refusal.InUse = refl
numbers refusal.Limit = refl
numbers refusal.Taken = refl
numbers (refusal.CellTaken cycle channel frame) = refl
numbers refusal.OutOfPayload = refl
numbers (refusal.BitTaken bit signal) = refl
numbers refusal.Unavailable = refl
numbers refusal.BadKey = refl
numbers refusal.KeyTaken = refl
numbers refusal.NoRoom = refl
