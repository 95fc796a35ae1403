-- What refuses a wish, and what counts behind it.
use Rattle.std.proofs.Common.{◌≡◌, ℕ, ◌+◌, Bool, true, false, cond, List, [], ◌∷◌, ◌++◌, drop, nat_le, Option, Some, None, is_some, option_map, Result, Ok, Err, refl, sym, ap, subst, ◌∙◌, append_assoc, append-nil}
use Rattle.std.specs.List.{list_any}
use Rattle.fr_base.specs.Refusing.{◌>>=◌, ◌>>◌, refuse◌when◌}
use Rattle.fr_base.specs.Cells.{slots_of}
use Rattle.fr_base.specs.Keys.{owned}
use Rattle.fr_base.specs.OwnRows.{OwnRows}
use Rattle.fr_base.specs.RefusedWishes.{Counted, admits_wish, count_wish, has_another_node, holds, is_full, judge, judged}
use Rattle.fr_base.specs.Tables.{Table, contains, get, len}
use Rattle.fr_base.specs.declared.limits.TheConstants.{MAX_FRAMES}
use Rattle.fr_base.specs.declared.refusal.Refusal.{Refusal}
use Rattle.fr_base.specs.declared.refusal.Refusal.TheVariants.{NoNode, NodeDiffers, NotGranted, Limit}
use Rattle.fr_base.specs.declared.wish.Wish.{Wish}
use Rattle.fr_base.specs.declared.wish.WishRead.{WishRead}
use Rattle.fr_world.specs.Counts.{count_of, is_full_at}
use Rattle.fr_world.specs.Pages.{FrameData, frame_of}

-- what counts of a frame that is not freed
pub count-left : (freed : Bool) (f : FrameData) (n : ℕ) → freed ≡ false → n ≡ len (frame_of f).placements → ◌≡◌ {A = Counted} (record { node = f.node; placements = n }) (count_of freed (frame_of f))
count-left freed f n not_freed is = λ i. record { node = f.node; placements = (is ∙ sym (ap (λ b. cond b 0 (len (frame_of f).placements)) not_freed)) i }

-- ---- what refuses a wish

module _ (own : OwnRows) (counted : Table owned Counted) (wish : Wish) where
  pub no-node : contains own.nodes (own.supplier, wish.node) ≡ false → admits_wish own counted wish ≡ Err NoNode
  unfolding admits_wish refuse◌when◌ ◌>>◌
  no-node none = rw none refl

  pub node-differs : contains own.nodes (own.supplier, wish.node) ≡ true → has_another_node wish.node (get counted (own.supplier, wish.frame)) ≡ true → admits_wish own counted wish ≡ Err NodeDiffers
  unfolding admits_wish refuse◌when◌ ◌>>◌
  node-differs there another = rw (there, another) refl

  pub not-granted : contains own.nodes (own.supplier, wish.node) ≡ true → has_another_node wish.node (get counted (own.supplier, wish.frame)) ≡ false → list_any (holds own wish.node wish.channels) (slots_of own.params) ≡ false →
      admits_wish own counted wish ≡ Err NotGranted
  unfolding admits_wish refuse◌when◌ ◌>>◌
  not-granted there same none = rw (there, same, none) refl

  pub by-limit : contains own.nodes (own.supplier, wish.node) ≡ true → has_another_node wish.node (get counted (own.supplier, wish.frame)) ≡ false → list_any (holds own wish.node wish.channels) (slots_of own.params) ≡ true →
      is_full counted (get counted (own.supplier, wish.frame)) ≡ true → admits_wish own counted wish ≡ Err Limit
  unfolding admits_wish refuse◌when◌ ◌>>◌
  by-limit there same held full = rw (there, same, held, full) refl

  pub by-none : contains own.nodes (own.supplier, wish.node) ≡ true → has_another_node wish.node (get counted (own.supplier, wish.frame)) ≡ false → list_any (holds own wish.node wish.channels) (slots_of own.params) ≡ true →
      is_full counted (get counted (own.supplier, wish.frame)) ≡ false → admits_wish own counted wish ≡ Ok tt
  unfolding admits_wish refuse◌when◌ ◌>>◌
  by-none there same held room = rw (there, same, held, room) refl

-- whether so much is full, where so many frames count
pub full-at : (counted : Table owned Counted) (frames : ℕ) (there : Option Counted) → len counted ≡ frames → is_full counted there ≡ is_full_at frames there
full-at counted frames None same = ap (nat_le MAX_FRAMES) same
full-at counted frames (Some one) same = refl

-- ---- a wish and what it leaves

-- a wish that its text refuses
pub judged-unread : (own : OwnRows) (counted : Table owned Counted) (read : Result Wish Refusal) → ((wish : Wish) → read ≡ Ok wish → ⊥) → (judged own counted read ≡ read) × (count_wish own.supplier counted (judged own counted read) ≡ counted)
unfolding judged ◌>>=◌
judged-unread own counted (Ok wish) none = absurd (none wish refl)
judged-unread own counted (Err refusal) none = (refl, refl)

-- one that the rows refuse, and one that they do not
pub judged-refused : (own : OwnRows) (counted : Table owned Counted) (read : Result Wish Refusal) (wish : Wish) (refusal : Refusal) → read ≡ Ok wish → admits_wish own counted wish ≡ Err refusal → judged own counted read ≡ Err refusal
unfolding judged ◌>>=◌ ◌>>◌
judged-refused own counted read wish refusal is refused = ap (judged own counted) is ∙ rw refused refl

pub judged-passed : (own : OwnRows) (counted : Table owned Counted) (read : Result Wish Refusal) (wish : Wish) → read ≡ Ok wish → admits_wish own counted wish ≡ Ok tt → judged own counted read ≡ Ok wish
unfolding judged ◌>>=◌ ◌>>◌
judged-passed own counted read wish is passed = ap (judged own counted) is ∙ rw passed refl

some-map : {X Y : Type 0} (f : X → Y) (r : Option X) → is_some (option_map f r) ≡ is_some r
some-map f None = refl
some-map f (Some x) = refl

-- how many frames count, whatever is said of the one that is there
pub frames-with : {X Y : Type 0} (f : X → Y) (r : Option X) (n : ℕ) → cond (is_some r) n (n + 1) ≡ cond (is_some (option_map f r)) n (n + 1)
frames-with f r n = ap (λ b. cond b n (n + 1)) (sym (some-map f r))

-- ---- wishes in turn

-- one more judged
pub judge-more : (own : OwnRows) (counted : Table owned Counted) (before : List WishRead) (read one : WishRead) (rest left : List WishRead) → left ≡ read ∷ rest → one ≡ record { line = read.line; wish = judged own counted read.wish } →
    (before ++ one ∷ []) ++ judge own (count_wish own.supplier counted (judged own counted read.wish)) rest ≡ before ++ judge own counted left
unfolding judge
judge-more own counted before read one rest left e is =
    append_assoc before (one ∷ []) (judge own (count_wish own.supplier counted (judged own counted read.wish)) rest)
    ∙ ap (λ x. before ++ x ∷ judge own (count_wish own.supplier counted (judged own counted read.wish)) rest) is
    ∙ ap (λ l. before ++ judge own counted l) (sym e)

pub judge-end : (own : OwnRows) (counted : Table owned Counted) (before left : List WishRead) → left ≡ [] → before ++ judge own counted left ≡ before
unfolding judge
judge-end own counted before left e = ap (λ l. before ++ judge own counted l) e ∙ append-nil before
