-- The entry of a cell's frame, among entries that stand by their names.
use Rattle.std.proofs.Common.{◌≡◌, ℕ, suc, zero, ◌<◌, ◌≤◌, Bool, true, false, ◌&&◌, cond, List, [], ◌∷◌, drop, length, get_or, Some, Ordering, Less, Equal, Greater, refl, sym, ap, ◌∙◌, arith, true≢false}
use Rattle.std.specs.Ordering.{is_lt, nat_cmp, ordering_index}
use Rattle.std.specs.Cmp.{tied_itself}
use Rattle.std.specs.Cmp.Lexicographic.{nat_list_cmp_total, slice_cmp}
use Rattle.std.specs.List.{find}
use Rattle.std.specs.List.Sorted.{IsNonDecreasingBy, IsPartitionedBy}
use Rattle.std.proofs.lemmas.List.Sorted.{searchable_from_sorted}
use Rattle.fr_base.proofs.SoundRows.{same_text-is}
use Rattle.fr_base.specs.Names.{same_text}
use Rattle.fr_base.specs.declared.answer.Sending.{Sending}
use Rattle.fr_picture.specs.declared.frame_index.Entry.{Entry}
use Rattle.fr_picture.specs.FrameIndexes.{AreByName, is_entry_of}

less_below : (a b : Ordering) → ordering_index a ≤ ordering_index b → is_lt b ≡ true → is_lt a ≡ true
less_below Less b up h = refl
less_below Equal Less up h = absurd (omega arith)
less_below Equal Equal up h = absurd cc
less_below Equal Greater up h = absurd cc
less_below Greater Less up h = absurd (omega arith)
less_below Greater Equal up h = absurd cc
less_below Greater Greater up h = absurd cc

-- what stands before the first that may pass is passed over
find_behind : {X : Type 0} (p : X → Bool) (xs : List X) (n : ℕ) → ((k : ℕ) (d : X) → k < n → k < length xs → p (get_or xs k d) ≡ false) → find p (drop n xs) ≡ find p xs
find_behind p [] zero h = refl
find_behind p [] (suc n) h = refl
find_behind p (x ∷ xs) zero h = refl
find_behind p (x ∷ xs) (suc n) h =
    let first : p x ≡ false = h 0 x (omega arith) (omega arith) in
    find_behind p xs n (λ k d low small. h (suc k) d (omega arith) (omega arith)) ∙ sym (ap (λ b. cond b (Some x) (find p xs)) first)

module _ (s : Sending) where
  abbrev pub stands : Entry → Ordering
  stands e = slice_cmp nat_cmp e.frame s.frame

  and_first : (a b c : Bool) → (a && b && c) ≡ true → a ≡ true
  and_first true b c h = refl
  and_first false b c h = h

  same_name : (e : Entry) → is_entry_of s e ≡ true → stands e ≡ Equal
  unfolding is_entry_of
  same_name e is =
      let named : same_text e.frame s.frame ≡ true = and_first (same_text e.frame s.frame) (same_text e.node s.node) (same_text e.supplier s.supplier) is in
      ap (λ m. slice_cmp nat_cmp m s.frame) (same_text-is e.frame s.frame named) ∙ tied_itself nat_list_cmp_total s.frame

  before_not : (e : Entry) → is_lt (stands e) ≡ true → is_entry_of s e ≡ false
  before_not e h = by_test (is_entry_of s e) refl
    where
      by_test : (b : Bool) → is_entry_of s e ≡ b → b ≡ false
      by_test false is = refl
      by_test true is = absurd (true≢false (sym h ∙ ap is_lt (same_name e is)))

  -- those before the frame's name stand first
  pub lesser_first : (index : List Entry) → AreByName index → IsPartitionedBy (λ e. is_lt (stands e)) index
  lesser_first index sorted i j d up low h =
      let rise : IsNonDecreasingBy (λ e. ordering_index (stands e)) index = searchable_from_sorted nat_list_cmp_total (λ (e : Entry). e.frame) index s.frame sorted in
      less_below (stands (get_or index i d)) (stands (get_or index j d)) (rise i j d up low) h

  -- and none of them is the frame's
  pub found_behind : (index : List Entry) (from : ℕ) → ((k : ℕ) (d : Entry) → 0 ≤ k → k < from → is_lt (stands (get_or index k d)) ≡ true)
      → find (is_entry_of s) (drop from index) ≡ find (is_entry_of s) index
  found_behind index from before = find_behind (is_entry_of s) index from (λ k d low small. before_not (get_or index k d) (before k d (omega arith) low))
