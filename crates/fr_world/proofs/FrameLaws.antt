-- A frame's placements, copied into an array one by one.
use Rattle.std.proofs.Common.{◌≡◌, ℕ, suc, refl, true, false, ◌+◌, ◌≤◌, ◌<◌, List, [], ◌∷◌, ◌++◌, length, take, None, slice_set, sym, ap, subst, ◌∙◌, arith, append_assoc, append-nil}
use Rattle.std.specs.List.Sorted.{IsStrictlySortedBy}
use Rattle.std.proofs.lemmas.List.{length-set, length-append, length-take-le, take_more_set}
use Rattle.fr_base.specs.Keys.{placement_order}
use Rattle.fr_base.specs.declared.limits.TheConstants.{MAX_PLACEMENTS}
use Rattle.fr_base.specs.Moments.{greatest_gap}
use Rattle.fr_base.specs.Queries.{placements_in}
use Rattle.fr_base.specs.Tables.{len}
use Rattle.fr_base.specs.declared.params.Params.{Params}
use Rattle.fr_base.specs.declared.placement.Placement.{Placement}
use Rattle.fr_world.specs.Pages.{FrameData, frame_of}
use Rattle.fr_world.proofs.KeyLaws.{placement_cmp, placements_alike}
use Rattle.fr_world.proofs.MapLaws.{len-set_of}
use Rattle.fr_world.proofs.WalkLaws.{greatest_gap-nil}
use Rattle.fr_world.proofs.TriggeringLaws.{placements_in-keys}

-- there are no more keys than placements
few_keys : (f : FrameData) → IsStrictlySortedBy placement_cmp f.placements → len (frame_of f).placements ≤ MAX_PLACEMENTS → length f.placements ≤ 8
few_keys f h l = subst (λ n. n ≤ 8) (len-set_of placement_cmp placement_order (λ q. q) placements_alike f.placements h) l

-- there is room for one more
pub room-below : (f : FrameData) (left rest room : List Placement) (n : ℕ) (q : Placement) → IsStrictlySortedBy placement_cmp f.placements → len (frame_of f).placements ≤ MAX_PLACEMENTS
    → length room ≡ 8 → n ≤ 8 → left ≡ q ∷ rest → take n room ++ left ≡ f.placements → n < 8
room-below f left rest room n q o few size l e h =
    let front : length (take n room) ≡ n = length-take-le n room (omega (arith, size, l)) in
    let all : n + suc (length rest) ≡ length f.placements =
    ap (λ m. m + suc (length rest)) (sym front) ∙ sym (length-append (take n room) (q ∷ rest)) ∙ ap (λ qs. length (take n room ++ qs)) (sym e) ∙ ap length h in
    omega (arith, all, few_keys f o few)

-- one more is in the front of the room
pub room-more : (keys left rest room : List Placement) (n : ℕ) (q : Placement) → length room ≡ 8 → n < 8 → left ≡ q ∷ rest → take n room ++ left ≡ keys → take (n + 1) (slice_set room n q) ++ rest ≡ keys
room-more keys left rest room n q size l e h =
    ap (λ front. front ++ rest) (take_more_set room n q (omega (arith, size, l))) ∙ append_assoc (take n room) (q ∷ []) rest ∙ ap (λ qs. take n room ++ qs) (sym e) ∙ h

-- when none is left, all are there
pub room-all : (f : FrameData) (rest front : List Placement) → IsStrictlySortedBy placement_cmp f.placements → rest ≡ [] → front ++ rest ≡ f.placements → front ≡ placements_in (frame_of f)
room-all f rest front o e h = sym (append-nil front) ∙ ap (λ qs. front ++ qs) (sym e) ∙ h ∙ sym (placements_in-keys f o)

pub room-size : (room : List Placement) (n : ℕ) (q : Placement) → length room ≡ 8 → length (slice_set room n q) ≡ 8
room-size room n q size = length-set room n q ∙ size

false_is_not : false ≡ true → ⊥
false_is_not e = cc

-- where there is no first key, there is none
pub no_keys : (keys : List Placement) → (0 < length keys → false ≡ true) → keys ≡ []
no_keys [] h = refl
no_keys (q ∷ qs) h = absurd (false_is_not (h (omega arith)))

placements_in-none : (f : FrameData) → f.placements ≡ [] → placements_in (frame_of f) ≡ []
unfolding IsStrictlySortedBy
placements_in-none f e = placements_in-keys f (subst (IsStrictlySortedBy placement_cmp) (sym e) tt) ∙ e

-- what is not placed has no gap
pub gap-none : (p : Params) (f : FrameData) → f.placements ≡ [] → greatest_gap p (placements_in (frame_of f)) ≡ None
gap-none p f e = ap (greatest_gap p) (placements_in-none f e) ∙ greatest_gap-nil p [] refl
