-- Lanes of which one is changed.
use Rattle.std.proofs.Common.{◌≡◌, ◌≢◌, ◌⊎◌, inl, inr, cond, true, false, ℕ, ◌+◌, ◌-◌, ◌<◌, ◌≤◌, filter, map, zero, suc, List, [], ◌∷◌, ◌++◌, length, get_or, take, refl, sym, ap, ◌∙◌, append_assoc, append-nil, arith, subst, zero-add}
use Rattle.std.proofs.Math.ListN.{set}
use Rattle.std.specs.List.{flat_map, All}
use Rattle.std.specs.Vec.{vec_len}
use Rattle.std.proofs.lemmas.List.{take_more, get_or_default, get_or-set_same, get_or-set_other}
use Rattle.std.proofs.lemmas.Bool.{cases_eq}
use Rattle.std.proofs.lemmas.Bool.Decides.{eqb_tells}
use Rattle.std.proofs.lemmas.List.Elements.{filter-append}
use Rattle.std.proofs.Math.Dec.{eqb}
use Rattle.std.proofs.lemmas.List.Elements.{All-nil, All-push}
use Rattle.fr_picture.specs.Places.{AreAt, AreHome, AreInOrder, IsHome, IsNamed, IsWide, OpensFirst, lane_width, shift_of, lane_of, place_on_a, place_on_b}
use Rattle.fr_picture.specs.Shown.{is_used, shown_of}
use Rattle.fr_picture.specs.declared.drawing.marks.Shows.{Shows}
use Rattle.fr_picture.specs.declared.drawing.columns.Place.{Place}
use Rattle.fr_picture.specs.declared.drawing.rectangle.Rectangle.{Rectangle}
use Rattle.std.proofs.lemmas.Grind.{flat_map-append}
use Rattle.fr_picture.specs.Rectangles.{AreApart, AreFilled, cells_in, cells_of}
use Rattle.std.specs.List.Sorted.{IsPermutation}
use Rattle.std.proofs.lemmas.List.Sorted.{IsPermutation-refl, IsPermutation-trans, IsPermutation-append_left, IsPermutation-append_right, IsPermutation-append_comm}
use Rattle.fr_base.specs.declared.answer.DifferenceRow.{DifferenceRow}
use Rattle.fr_base.specs.declared.answer.GrantRow.{GrantRow}
use Rattle.fr_base.specs.declared.answer.Sending.{Sending}
use Rattle.fr_base.specs.declared.channel.Channels.{Channels}
use Rattle.fr_base.specs.declared.channel.Channels.TheVariants.{AB}
use Rattle.fr_base.specs.declared.params.Params.{Params}
use Rattle.fr_picture.specs.declared.drawing.Drawing.{Drawing}
use Rattle.fr_picture.specs.declared.drawing.lane.Lane.{Lane}
use Rattle.fr_picture.specs.Lanes.{HaveMore, HaveStill, HoldMore, HoldStill, IsApart, IsDrawing, IsFilled, held_in, sent_in, lane_cells, lane_grants, drawn_cells, drawn_grants}

same : {X : Type 0} (xs ys : List X) → xs ≡ ys → IsPermutation xs ys
same xs ys e = subst (λ zs. IsPermutation xs zs) e (IsPermutation-refl xs)

-- what one element has more, all have more
pub one_more : {L X : Type 0} (f : L → List X) (ls : List L) (k : ℕ) (l d : L) (x : X) → k < length ls → f l ≡ f (get_or ls k d) ++ x ∷ []
    → IsPermutation (flat_map f (set ls k l)) (flat_map f ls ++ x ∷ [])
one_more f [] k l d x small e = absurd (omega (arith, small))
one_more f (m ∷ ms) zero l d x small e =
    let rest = flat_map f ms in
    IsPermutation-trans (f l ++ rest) ((f m ++ x ∷ []) ++ rest) ((f m ++ rest) ++ x ∷ [])
    (same (f l ++ rest) ((f m ++ x ∷ []) ++ rest) (ap (λ t. t ++ rest) e))
    (IsPermutation-trans ((f m ++ x ∷ []) ++ rest) (f m ++ (x ∷ [] ++ rest)) ((f m ++ rest) ++ x ∷ [])
    (same ((f m ++ x ∷ []) ++ rest) (f m ++ (x ∷ [] ++ rest)) (append_assoc (f m) (x ∷ []) rest))
    (IsPermutation-trans (f m ++ (x ∷ [] ++ rest)) (f m ++ (rest ++ x ∷ [])) ((f m ++ rest) ++ x ∷ [])
    (IsPermutation-append_right (f m) (x ∷ [] ++ rest) (rest ++ x ∷ []) (IsPermutation-append_comm (x ∷ []) rest))
    (same (f m ++ (rest ++ x ∷ [])) ((f m ++ rest) ++ x ∷ []) (sym (append_assoc (f m) rest (x ∷ []))))))
one_more f (m ∷ ms) (suc k) l d x small e =
    let within : k < length ms = omega (arith, small) in
    IsPermutation-trans (f m ++ flat_map f (set ms k l)) (f m ++ (flat_map f ms ++ x ∷ [])) ((f m ++ flat_map f ms) ++ x ∷ [])
    (IsPermutation-append_right (f m) (flat_map f (set ms k l)) (flat_map f ms ++ x ∷ []) (one_more f ms k l d x within e))
    (same (f m ++ (flat_map f ms ++ x ∷ [])) ((f m ++ flat_map f ms) ++ x ∷ []) (sym (append_assoc (f m) (flat_map f ms) (x ∷ []))))

-- what one element has still, all have still
pub none_more : {L X : Type 0} (f : L → List X) (ls : List L) (k : ℕ) (l d : L) → k < length ls → f l ≡ f (get_or ls k d)
    → flat_map f (set ls k l) ≡ flat_map f ls
none_more f [] k l d small e = absurd (omega (arith, small))
none_more f (m ∷ ms) zero l d small e = ap (λ t. t ++ flat_map f ms) e
none_more f (m ∷ ms) (suc k) l d small e = ap (λ t. f m ++ t) (none_more f ms k l d (omega (arith, small)) e)

pub cell_more : (ls : List Lane) (k : ℕ) (l d : Lane) (x : Sending) → k < length ls → lane_cells l ≡ lane_cells (get_or ls k d) ++ x ∷ []
    → IsPermutation (drawn_cells (set ls k l)) (drawn_cells ls ++ x ∷ [])
unfolding drawn_cells
cell_more ls k l d x small e = one_more lane_cells ls k l d x small e

pub grants_stay : (ls : List Lane) (k : ℕ) (l d : Lane) → k < length ls → l.grants ≡ (get_or ls k d).grants
    → drawn_grants (set ls k l) ≡ drawn_grants ls
unfolding drawn_grants
grants_stay ls k l d small e = none_more lane_grants ls k l d small (ap (λ g. g.items) e)

pub drawn_grants-none : drawn_grants [] ≡ []
unfolding drawn_grants
drawn_grants-none = refl

pub drawn_cells-none : drawn_cells [] ≡ []
unfolding drawn_cells
drawn_cells-none = refl

-- a lane more, in which nothing is drawn
pub drawn_grants-more : (ls new : List Lane) (l : Lane) → new ≡ ls ++ l ∷ [] → l.grants.items ≡ [] → drawn_grants new ≡ drawn_grants ls
unfolding drawn_grants
drawn_grants-more ls new l after empty =
    ap (λ ms. flat_map lane_grants ms) after ∙ flat_map-append lane_grants ls (l ∷ [])
    ∙ ap (λ t. flat_map lane_grants ls ++ t) (append-nil l.grants.items ∙ empty) ∙ append-nil (flat_map lane_grants ls)

nothing : (rs : List Rectangle) → rs ≡ [] → cells_in rs ≡ []
unfolding cells_in
nothing rs empty = ap (λ ss. flat_map cells_of ss) empty

pub drawn_cells-more : (ls new : List Lane) (l : Lane) → new ≡ ls ++ l ∷ [] → l.rectangles.items ≡ [] → drawn_cells new ≡ drawn_cells ls
unfolding drawn_cells
drawn_cells-more ls new l after empty =
    ap (λ ms. flat_map lane_cells ms) after ∙ flat_map-append lane_cells ls (l ∷ [])
    ∙ ap (λ t. flat_map lane_cells ls ++ t) (append-nil (lane_cells l) ∙ nothing l.rectangles.items empty) ∙ append-nil (flat_map lane_cells ls)

pub apart-more : (ls new : List Lane) (l : Lane) → new ≡ ls ++ l ∷ [] → l.rectangles.items ≡ [] → All IsApart ls → All IsApart new
apart-more ls new l after empty apart =
    let alone : IsApart l = subst AreApart (sym empty) tt in
    subst (λ ms. All IsApart ms) (sym after) (All-push IsApart ls l apart alone)

pub filled-more : (ls new : List Lane) (l : Lane) → new ≡ ls ++ l ∷ [] → l.rectangles.items ≡ [] → All IsFilled ls → All IsFilled new
filled-more ls new l after empty filled =
    let alone : IsFilled l = subst AreFilled (sym empty) (All-nil (λ r. 1 ≤ r.cycles)) in
    subst (λ ms. All IsFilled ms) (sym after) (All-push IsFilled ls l filled alone)

-- ---- each where its column stands

pub at_stays : (channels : Channels) (shift : ℕ) (columns : List Place) (ls : List Lane) (k : ℕ) (l d : Lane) → k < length ls → l.place ≡ (get_or ls k d).place
    → AreAt channels shift columns ls → AreAt channels shift columns (set ls k l)
at_stays channels shift [] [] k l d small e h = absurd (omega (arith, small))
at_stays channels shift [] (m ∷ ls) k l d small e h = absurd h
at_stays channels shift (p ∷ ps) [] k l d small e h = absurd h
at_stays channels shift (p ∷ ps) (m ∷ []) k l d small e h = absurd h
at_stays channels shift (p ∷ ps) (m ∷ n ∷ ls) zero l d small e h = (e ∙ h.0, h.1, h.2)
at_stays channels shift (p ∷ ps) (m ∷ n ∷ ls) (suc zero) l d small e h = (h.0, e ∙ h.1, h.2)
at_stays channels shift (p ∷ ps) (m ∷ n ∷ ls) (suc (suc k)) l d small e h = (h.0, h.1, at_stays channels shift ps ls k l d (omega (arith, small)) e h.2)

at-push : (channels : Channels) (shift : ℕ) (columns : List Place) (ls : List Lane) (p : Place) (a b : Lane) → a.place ≡ place_on_a channels p → b.place ≡ place_on_b channels shift p
    → AreAt channels shift columns ls → AreAt channels shift (columns ++ p ∷ []) (ls ++ a ∷ b ∷ [])
at-push channels shift [] [] p a b ea eb h = (ea, eb, tt)
at-push channels shift [] (m ∷ ls) p a b ea eb h = absurd h
at-push channels shift (q ∷ qs) [] p a b ea eb h = absurd h
at-push channels shift (q ∷ qs) (m ∷ []) p a b ea eb h = absurd h
at-push channels shift (q ∷ qs) (m ∷ n ∷ ls) p a b ea eb h = (h.0, h.1, at-push channels shift qs ls p a b ea eb h.2)

pub at-more : (channels : Channels) (shift : ℕ) (columns : List Place) (ls mid new : List Lane) (p : Place) (a b : Lane) → mid ≡ ls ++ a ∷ [] → new ≡ mid ++ b ∷ []
    → a.place ≡ place_on_a channels p → b.place ≡ place_on_b channels shift p → AreAt channels shift columns ls → AreAt channels shift (columns ++ p ∷ []) new
at-more channels shift columns ls mid new p a b e1 e2 ea eb h =
    subst (AreAt channels shift (columns ++ p ∷ [])) (sym (e2 ∙ ap (λ xs. xs ++ b ∷ []) e1 ∙ append_assoc ls (a ∷ []) (b ∷ []))) (at-push channels shift columns ls p a b ea eb h)

-- a loop's step: the columns so far, and one more
pub at_step : (channels : Channels) (shift : ℕ) (columns : List Place) (i : ℕ) (d : Place) (ls : List Lane) → i < length columns
    → AreAt channels shift (take i columns ++ get_or columns i d ∷ []) ls → AreAt channels shift (take (i + 1) columns) ls
at_step channels shift columns i d ls small h = subst (λ ps. AreAt channels shift ps ls) (sym (take_more columns i d small)) h

pub at-none : (channels : Channels) (shift : ℕ) → AreAt channels shift [] []
at-none channels shift = tt

pub home-none : AreHome 0 []
home-none = tt

pub ruleset empty_lanes = (drawn_grants-none, drawn_cells-none, home-none, at-none)

-- a loop's step: what was done of the rows so far, and one more
pub perm_none : {X : Type 0} (xs rows : List X) → IsPermutation xs (xs ++ take 0 rows)
perm_none xs rows = same xs (xs ++ []) (sym (append-nil xs))

pub perm_more : {X : Type 0} (xs ys zs rows : List X) (i : ℕ) (x : X) → i < length rows → x ≡ get_or rows i x
    → IsPermutation ys (xs ++ take i rows) → IsPermutation zs (ys ++ x ∷ []) → IsPermutation zs (xs ++ take (i + 1) rows)
perm_more xs ys zs rows i x small read before now =
    IsPermutation-trans zs (ys ++ x ∷ []) (xs ++ take (i + 1) rows) now
    (IsPermutation-trans (ys ++ x ∷ []) ((xs ++ take i rows) ++ x ∷ []) (xs ++ take (i + 1) rows)
    (IsPermutation-append_left (x ∷ []) ys (xs ++ take i rows) before)
    (same ((xs ++ take i rows) ++ x ∷ []) (xs ++ take (i + 1) rows)
    (append_assoc xs (take i rows) (x ∷ []) ∙ ap (λ t. xs ++ t) (sym (take_more rows i x small ∙ ap (λ y. take i rows ++ y ∷ []) (sym read))))))

pub grant_more : (ls : List Lane) (k : ℕ) (l d : Lane) (x : GrantRow) → k < length ls → l.grants.items ≡ (get_or ls k d).grants.items ++ x ∷ []
    → IsPermutation (drawn_grants (set ls k l)) (drawn_grants ls ++ x ∷ [])
unfolding drawn_grants
grant_more ls k l d x small e = one_more lane_grants ls k l d x small e

pub cells_stay : (ls : List Lane) (k : ℕ) (l d : Lane) → k < length ls → l.rectangles ≡ (get_or ls k d).rectangles
    → drawn_cells (set ls k l) ≡ drawn_cells ls
unfolding drawn_cells
cells_stay ls k l d small e = none_more lane_cells ls k l d small (ap (λ g. cells_in g.items) e)

-- ---- what each lane has, in order

module _ {L X : Type 0} (has : L → List X) where
  stays_case : (ls : List L) (i k : ℕ) (l d e : L) → i < length ls → has l ≡ has (get_or ls i d) → (k ≡ i) ⊎ (k ≡ i → ⊥) → has (get_or (set ls i l) k e) ≡ has (get_or ls k e)
  stays_case ls i k l d e small same (inl here) =
      ap (λ j. has (get_or (set ls i l) j e)) here ∙ ap has (get_or-set_same ls i l e small) ∙ same ∙ ap has (get_or_default ls i d e small) ∙ ap (λ j. has (get_or ls j e)) (sym here)
  stays_case ls i k l d e small same (inr other) = ap has (get_or-set_other ls i k l e other)

  stays_one : (ls : List L) (i k : ℕ) (l d e : L) → i < length ls → has l ≡ has (get_or ls i d) → has (get_or (set ls i l) k e) ≡ has (get_or ls k e)
  stays_one ls i k l d e small same = stays_case ls i k l d e small same (cases_eq k i)

  module _ (at : X → ℕ) where
    -- of these rows those of lane k
    abbrev OfLane : ℕ → List X → List X
    OfLane k rows = filter (λ x. eqb (at x) k) rows

    more_case : (ls : List L) (i k : ℕ) (l d e : L) (x : X) → i < length ls → i ≡ at x → has l ≡ has (get_or ls i d) ++ x ∷ []
        → ((eqb (at x) k ≡ true) × (at x ≡ k)) ⊎ ((eqb (at x) k ≡ false) × (at x ≢ k)) → has (get_or (set ls i l) k e) ≡ has (get_or ls k e) ++ OfLane k (x ∷ [])
    more_case ls i k l d e x small here more (inl own) =
        let there : k ≡ i = sym (here ∙ own.1) in
        ap (λ j. has (get_or (set ls i l) j e)) there ∙ ap has (get_or-set_same ls i l e small) ∙ more
        ∙ ap (λ m. has m ++ x ∷ []) (get_or_default ls i d e small ∙ ap (λ j. get_or ls j e) (sym there))
        ∙ ap (λ b. has (get_or ls k e) ++ cond b (x ∷ []) []) (sym own.0)
    more_case ls i k l d e x small here more (inr other) =
        ap has (get_or-set_other ls i k l e (λ there. other.1 (sym (there ∙ here)))) ∙ sym (append-nil (has (get_or ls k e)))
        ∙ ap (λ b. has (get_or ls k e) ++ cond b (x ∷ []) []) (sym other.0)

    pub more_one : (ls : List L) (i k : ℕ) (l d e : L) (x : X) → i < length ls → i ≡ at x → has l ≡ has (get_or ls i d) ++ x ∷ []
        → has (get_or (set ls i l) k e) ≡ has (get_or ls k e) ++ OfLane k (x ∷ [])
    more_one ls i k l d e x small here more = more_case ls i k l d e x small here more (eqb_tells (at x) k)

    -- of the rows so far, and of one more
    more_rows : (rows : List X) (i k : ℕ) (x : X) (old mid new : List X) → i < length rows → x ≡ get_or rows i x → mid ≡ old ++ OfLane k (take i rows) → new ≡ mid ++ OfLane k (x ∷ [])
        → new ≡ old ++ OfLane k (take (i + 1) rows)
    more_rows rows i k x old mid new small read before now =
        now ∙ ap (λ t. t ++ OfLane k (x ∷ [])) before ∙ append_assoc old (OfLane k (take i rows)) (OfLane k (x ∷ []))
        ∙ ap (λ t. old ++ t) (sym (filter-append (λ y. eqb (at y) k) (take i rows) (x ∷ [])))
        ∙ ap (λ t. old ++ OfLane k t) (sym (take_more rows i x small ∙ ap (λ y. take i rows ++ y ∷ []) (sym read)))

pub still_one : (ls : List Lane) (i k : ℕ) (l d e : Lane) → i < length ls → l.rectangles ≡ (get_or ls i d).rectangles
    → lane_cells (get_or (set ls i l) k e) ≡ lane_cells (get_or ls k e)
still_one ls i k l d e small same = stays_one lane_cells ls i k l d e small (ap (λ rs. cells_in rs.items) same)

pub held_still_one : (ls : List Lane) (i k : ℕ) (l d e : Lane) → i < length ls → l.grants ≡ (get_or ls i d).grants
    → lane_grants (get_or (set ls i l) k e) ≡ lane_grants (get_or ls k e)
held_still_one ls i k l d e small same = stays_one lane_grants ls i k l d e small (ap (λ gs. gs.items) same)

pub turn_one : (ls : List Lane) (i k : ℕ) (l d e : Lane) (x : Sending) → i < length ls → i ≡ lane_of x.slot x.channel → lane_cells l ≡ lane_cells (get_or ls i d) ++ x ∷ []
    → lane_cells (get_or (set ls i l) k e) ≡ lane_cells (get_or ls k e) ++ sent_in k (x ∷ [])
unfolding sent_in
turn_one ls i k l d e x small here more = more_one lane_cells (λ s. lane_of s.slot s.channel) ls i k l d e x small here more

pub held_one : (ls : List Lane) (i k : ℕ) (l d e : Lane) (x : GrantRow) → i < length ls → i ≡ lane_of x.slot x.channel → l.grants.items ≡ (get_or ls i d).grants.items ++ x ∷ []
    → lane_grants (get_or (set ls i l) k e) ≡ lane_grants (get_or ls k e) ++ held_in k (x ∷ [])
unfolding held_in
held_one ls i k l d e x small here more = more_one lane_grants (λ g. lane_of g.slot g.channel) ls i k l d e x small here more

-- a loop's step: the rows so far, and one more
pub turn_none : (ls : List Lane) (rows : List Sending) → HaveMore ls (take 0 rows) ls
unfolding sent_in
turn_none ls rows = λ k l small. sym (append-nil (lane_cells (get_or ls k l)))

pub turn_more : (old ls new : List Lane) (rows : List Sending) (i : ℕ) (x : Sending) → i < length rows → x ≡ get_or rows i x → HaveMore old (take i rows) ls → HaveMore ls (x ∷ []) new
    → HaveMore old (take (i + 1) rows) new
unfolding sent_in
turn_more old ls new rows i x small read before now = λ k l within.
    more_rows lane_cells (λ s. lane_of s.slot s.channel) rows i k x _ _ _ small read (before k l within) (now k l within)

pub held_none : (ls : List Lane) (rows : List GrantRow) → HoldMore ls (take 0 rows) ls
unfolding held_in
held_none ls rows = λ k l small. sym (append-nil (lane_grants (get_or ls k l)))

pub held_more : (old ls new : List Lane) (rows : List GrantRow) (i : ℕ) (x : GrantRow) → i < length rows → x ≡ get_or rows i x → HoldMore old (take i rows) ls → HoldMore ls (x ∷ []) new
    → HoldMore old (take (i + 1) rows) new
unfolding held_in
held_more old ls new rows i x small read before now = λ k l within.
    more_rows lane_grants (λ g. lane_of g.slot g.channel) rows i k x _ _ _ small read (before k l within) (now k l within)

pub ruleset perms = (perm_none, perm_more, turn_none, turn_more, held_none, held_more)

-- what all have none of, each has none of
left_none : {X : Type 0} (xs ys : List X) → xs ++ ys ≡ [] → xs ≡ []
left_none [] ys e = refl
left_none (x ∷ xs) ys e = absurd (omega (arith, ap length e))

right_none : {X : Type 0} (xs ys : List X) → xs ++ ys ≡ [] → ys ≡ []
right_none [] ys e = e
right_none (x ∷ xs) ys e = absurd (omega (arith, ap length e))

each_none : {L X : Type 0} (f : L → List X) (ls : List L) (k : ℕ) (d : L) → k < length ls → flat_map f ls ≡ [] → f (get_or ls k d) ≡ []
each_none f [] k d small e = absurd (omega (arith, small))
each_none f (m ∷ ms) zero d small e = left_none (f m) (flat_map f ms) e
each_none f (m ∷ ms) (suc k) d small e = each_none f ms k d (omega (arith, small)) (right_none (f m) (flat_map f ms) e)

in_turn_of : (empty held full : List Lane) (sendings : List Sending) → length empty ≡ 2046 → length full ≡ 2046 → drawn_cells empty ≡ [] → HaveStill empty held → HaveMore held sendings full
    → (k : ℕ) (l : Lane) → k < length full → lane_cells (get_or full k l) ≡ sent_in k sendings
unfolding drawn_cells
in_turn_of empty held full sendings len0 len2 none still more k l small =
    more k l (omega (arith, small, len2)) ∙ ap (λ t. t ++ sent_in k sendings) (still k l ∙ each_none lane_cells empty k l (omega (arith, small, len0, len2)) none)

held_in_turn_of : (empty held full : List Lane) (holds : List GrantRow) → length empty ≡ 2046 → length full ≡ 2046 → drawn_grants empty ≡ [] → HoldMore empty holds held → HoldStill held full
    → (k : ℕ) (l : Lane) → k < length full → lane_grants (get_or full k l) ≡ held_in k holds
unfolding drawn_grants
held_in_turn_of empty held full holds len0 len2 none more still k l small =
    still k l ∙ more k l (omega (arith, small, len2)) ∙ ap (λ t. t ++ held_in k holds) (each_none lane_grants empty k l (omega (arith, small, len0, len2)) none)

-- ---- each in the lane of its slot and channel

set_home : (ls : List Lane) (i j m : ℕ) (l d : Lane) → m ≡ j + i → i < length ls → (IsHome m (get_or ls i d) → IsHome m l) → AreHome j ls → AreHome j (set ls i l)
set_home [] i j m l d at small f h = absurd (omega (arith, small))
set_home (n ∷ ls) zero j m l d at small f h =
    let here : m ≡ j = omega (arith, at) in
    (subst (λ k. IsHome k l) here (f (subst (λ k. IsHome k n) (sym here) h.0)), h.1)
set_home (n ∷ ls) (suc i) j m l d at small f h = (h.0, set_home ls i (suc j) m l d (omega (arith, at)) (omega (arith, small)) f h.1)

home_grant : (m : ℕ) (old new : Lane) (x : GrantRow) → lane_of x.slot x.channel ≡ m → new.grants.items ≡ old.grants.items ++ x ∷ [] → new.rectangles ≡ old.rectangles
    → IsHome m old → IsHome m new
home_grant m old new x here more same_rectangles h = (
  subst (All (λ g. lane_of g.slot g.channel ≡ m)) (sym more) (All-push (λ g. lane_of g.slot g.channel ≡ m) old.grants.items x h.0 here),
  subst (λ rs. All (λ s. lane_of s.slot s.channel ≡ m) (cells_in rs.items)) (sym same_rectangles) h.1,
)

home_cell : (m : ℕ) (old new : Lane) (x : Sending) → lane_of x.slot x.channel ≡ m → lane_cells new ≡ lane_cells old ++ x ∷ [] → new.grants ≡ old.grants
    → IsHome m old → IsHome m new
home_cell m old new x here more same_grants h = (
  subst (λ gs. All (λ g. lane_of g.slot g.channel ≡ m) gs.items) (sym same_grants) h.0,
  subst (All (λ s. lane_of s.slot s.channel ≡ m)) (sym more) (All-push (λ s. lane_of s.slot s.channel ≡ m) (lane_cells old) x h.1 here),
)

pub grant_home : (ls : List Lane) (k : ℕ) (l d : Lane) (x : GrantRow) → k < length ls → k ≡ lane_of x.slot x.channel → l.grants.items ≡ (get_or ls k d).grants.items ++ x ∷ []
    → l.rectangles ≡ (get_or ls k d).rectangles → AreHome 0 ls → AreHome 0 (set ls k l)
grant_home ls k l d x small here more same_rectangles h =
    set_home ls k 0 k l d (sym (zero-add k)) small (home_grant k (get_or ls k d) l x (sym here) more same_rectangles) h

pub cell_home : (ls : List Lane) (k : ℕ) (l d : Lane) (x : Sending) → k < length ls → k ≡ lane_of x.slot x.channel → lane_cells l ≡ lane_cells (get_or ls k d) ++ x ∷ []
    → l.grants ≡ (get_or ls k d).grants → AreHome 0 ls → AreHome 0 (set ls k l)
cell_home ls k l d x small here more same_grants h =
    set_home ls k 0 k l d (sym (zero-add k)) small (home_cell k (get_or ls k d) l x (sym here) more same_grants) h

home-push : (ls : List Lane) (j : ℕ) (l : Lane) → ((k : ℕ) → IsHome k l) → AreHome j ls → AreHome j (ls ++ l ∷ [])
home-push [] j l at h = (at j, tt)
home-push (n ∷ ls) j l at h = (h.0, home-push ls (suc j) l at h.1)

pub home-more : (ls new : List Lane) (l : Lane) → new ≡ ls ++ l ∷ [] → l.grants.items ≡ [] → l.rectangles.items ≡ [] → AreHome 0 ls → AreHome 0 new
home-more ls new l after no_grants no_rectangles h =
    let alone : (k : ℕ) → IsHome k l = λ k. (
      subst (All (λ g. lane_of g.slot g.channel ≡ k)) (sym no_grants) (All-nil (λ g. lane_of g.slot g.channel ≡ k)),
      subst (All (λ s. lane_of s.slot s.channel ≡ k)) (sym (nothing l.rectangles.items no_rectangles)) (All-nil (λ s. lane_of s.slot s.channel ≡ k)),
    ) in
    subst (AreHome 0) (sym after) (home-push ls 0 l alone h)

pub drawing_of : (p : Params) (d : Drawing) (columns listed : List Place) (channels : Channels) (shift end width : ℕ) (shown : List Shows) (holds : List GrantRow) (cells : List Sending) (changes : List DifferenceRow) (empty held : List Lane)
    → channels ≡ p.channels → shift ≡ shift_of p.channels → end + shift ≡ 136 → (p.channels ≡ AB → shift ≡ end) → d.scale ≡ record { cycles = p.cycles; height = p.cycles + 5; width = width }
    → shown ≡ shown_of (is_used holds cells changes) p.static_slots → width ≡ lane_width (end - 4) shown
    → map (λ q. q.shows) columns ≡ shown → AreInOrder end end columns → OpensFirst columns → All IsNamed columns → All (IsWide width) columns → All (λ q. 4 ≤ q.x) columns → All (λ q. q.x + q.width ≤ end) columns
    → listed ≡ columns → length empty ≡ 2046 → drawn_grants empty ≡ [] → drawn_cells empty ≡ [] → All IsApart empty → All IsFilled empty → AreHome 0 empty → AreAt channels shift listed empty
    → IsPermutation (drawn_grants held) (drawn_grants empty ++ holds) → drawn_cells held ≡ drawn_cells empty → HoldMore empty holds held → HaveStill empty held → (All IsApart empty → All IsApart held)
    → (All IsFilled empty → All IsFilled held) → (AreHome 0 empty → AreHome 0 held) → ((cs : Channels) (n : ℕ) (ps : List Place) → AreAt cs n ps empty → AreAt cs n ps held)
    → vec_len d.lanes ≡ 2046 → IsPermutation (drawn_cells d.lanes.items) (drawn_cells held ++ cells) → drawn_grants d.lanes.items ≡ drawn_grants held → HaveMore held cells d.lanes.items
    → HoldStill held d.lanes.items → (All IsApart held → All IsApart d.lanes.items) → (All IsFilled held → All IsFilled d.lanes.items) → (AreHome 0 held → AreHome 0 d.lanes.items)
    → ((cs : Channels) (n : ℕ) (ps : List Place) → AreAt cs n ps held → AreAt cs n ps d.lanes.items) → IsDrawing p holds cells changes d
drawing_of p d columns listed channels shift end width shown holds cells changes empty held own by whole both scaled used least this o0 s0 l0 wide from ends e0 n0 g0 c0 a0 f0 h0 p0 g1 c1 t1 k1 a1 f1 h1 p1 n2 c2 g2 t2 k2 a2 f2 h2 p2 =
    let last : end ≡ 136 - shift = omega (arith, whole) in
    let space : end - 4 ≡ 132 - shift = omega (arith, whole) in
    let size : length d.lanes.items ≡ 2046 = omega (arith, d.lanes.ok, n2) in
    record {
      grants = subst (λ xs. IsPermutation xs holds) (sym g2) (subst (λ xs. IsPermutation (drawn_grants held) (xs ++ holds)) g0 g1);
      cells = subst (λ xs. IsPermutation (drawn_cells d.lanes.items) (xs ++ cells)) (c1 ∙ c0) c2;
      held_in_turn = held_in_turn_of empty held d.lanes.items holds n0 size g0 t1 k2;
      in_turn = in_turn_of empty held d.lanes.items cells n0 size c0 k1 t2;
      apart = a2 (a1 a0);
      filled = f2 (f1 f0);
      home = h2 (h1 h0);
      columns = columns;
      shift = shift;
      shifted = by;
      shown = this ∙ used;
      order = subst (λ n. AreInOrder n n columns) last o0;
      opened = s0;
      named = l0;
      at = subst (λ cs. AreAt cs shift columns d.lanes.items) own (subst (λ ps. AreAt channels shift ps d.lanes.items) e0 (p2 channels shift listed (p1 channels shift listed p0)));
      beside = λ ab. subst (λ n. All (λ q. q.x + q.width ≤ n) columns) (sym (both ab)) ends;
      from = from;
      within = λ k q small. omega (arith, ends k q small, whole);
      wide = subst (λ n. All (IsWide n) columns) (sym (ap (λ s. s.width) scaled)) wide;
      room = ap (λ s. s.width) scaled ∙ least ∙ ap (λ n. lane_width n shown) space ∙ ap (lane_width (132 - shift)) used;
      high = (ap (λ s. s.cycles) scaled, ap (λ s. s.height) scaled);
    }
