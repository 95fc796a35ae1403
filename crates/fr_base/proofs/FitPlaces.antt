-- Wishes of one node for the same channels fit beside what is filled exactly where places fit in its slots. So it does not matter where the first of them
-- goes, if its repetition divides those of the others.
use Rattle.std.proofs.Common.{◌≡◌, ◌<◌, ◌≤◌, ◌+◌, ◌*◌, ◌%◌, ◌∙◌, ℕ, suc, true, ◌&&◌, List, [], ◌∷◌, ◌++◌, map, None, nat_le, nat_lt, IsTrue, refl, sym, ap, subst, inl, inr, arith, true≢false}
use Rattle.std.specs.List.{list_all}
use Rattle.std.proofs.lemmas.Bool.{and_parts, cases_Bool, cases_lt}
use Rattle.std.proofs.lemmas.Bool.Decides.{nat_tests}
use Rattle.std.proofs.lemmas.Nat.{mod-mul-add}
use Rattle.fr_base.specs.Cells.{has_cell}
use Rattle.fr_base.specs.Channels.{channels_in, has_channel}
use Rattle.fr_base.specs.Cycles.{are_cycles, is_cycle_count, is_repetition}
use Rattle.fr_base.specs.Schedule.{fill}
use Rattle.fr_base.specs.Room.{placed}
use Rattle.fr_base.specs.Book.{granted}
use Rattle.fr_base.specs.OwnRows.{OwnRows}
use Rattle.fr_base.specs.RefusedWishes.{holds}
use Rattle.fr_base.specs.Fits.{MayStand, FitBeside, Fit}
use Rattle.fr_base.specs.declared.channel.Channel.{Channel}
use Rattle.fr_base.specs.declared.channel.Channel.TheVariants as channel
use Rattle.fr_base.specs.declared.channel.Channels.{Channels}
use Rattle.fr_base.specs.declared.channel.Channels.TheVariants as channels
use Rattle.fr_base.specs.declared.name.Name.{Name}
use Rattle.fr_base.specs.declared.placement.Placement.{Placement}
use Rattle.fr_base.specs.declared.wish.Wish.{Wish}
use Rattle.fr_base.proofs.ClassSwaps.{DividesEach}
use Rattle.fr_base.proofs.SlotSwaps.{HasGoodCycles, BesidePlace, FitsIn, ArePositive, other_place}
use Rattle.fr_base.proofs.FreeCells.{cell, cell-is_in, is_in-cell, free-empty, empty-free, empty-both, both-empty, one-empty, one-lacks}

-- with more good cycles it fits too
pub fits-alike : (w n : ℕ) (G H : ℕ → ℕ → Type 0) → ((s c : ℕ) → c < n → G s c → H s c) → (rs : List ℕ) (ps : List (ℕ × ℕ)) → FitsIn w n G rs ps → FitsIn w n H rs ps
fits-alike w n G H f [] [] h = tt
fits-alike w n G H f [] (p ∷ ps) h = h
fits-alike w n G H f (r ∷ rs) [] h = h
fits-alike w n G H f (r ∷ rs) (p ∷ ps) h = (
  h.0,
  h.1,
  (λ c less k. f p.0 c less (h.2 c less k)),
  fits-alike w n (BesidePlace G r p) (BesidePlace H r p) (λ s c less x. (f s c less x.0, x.1)) rs ps h.3,
)

-- each of the wishes is of this node, for these channels
abbrev pub AreOf : Name → Channels → List Wish → Type 0
AreOf m cs [] = Unit {0}
AreOf m cs (wish ∷ wishes) = ((wish.node ≡ m) × (wish.channels ≡ cs)) × AreOf m cs wishes

abbrev pub repetitions : List Wish → List ℕ
repetitions wishes = map (λ wish. wish.repetition) wishes

abbrev pub seat : Placement → ℕ × ℕ
seat q = (q.slot, q.cycles.base)

some_channel : (cs : Channels) → (x : Channel) × (has_channel cs x ≡ true)
some_channel channels.A = (channel.A, refl)
some_channel channels.AB = (channel.A, refl)
some_channel channels.B = (channel.B, refl)

pub base_below : (q : Placement) → IsTrue (are_cycles q.cycles) → q.cycles.base < q.cycles.repetition
base_below q h =
    let t : nat_lt q.cycles.base q.cycles.repetition ≡ true = (and_parts (is_repetition q.cycles.count q.cycles.repetition) _ (and_parts (is_cycle_count q.cycles.count) _ h).1).1 in
    grind (arith, nat_tests)

pub set_of : (n b r : ℕ) → is_cycle_count n ≡ true → 0 < r → n % r ≡ 0 → b < r → IsTrue (are_cycles (record { count = n; base = b; repetition = r }))
set_of n b r count above divides below = rw count (rw divides (grind (arith, nat_tests)))

add_none : (b r : ℕ) → b ≡ 0 * r + b
add_none b r = omega arith

mod-small : (b r : ℕ) → b < r → b % r ≡ b
mod-small b r h = ap (λ k. k % r) (add_none b r) ∙ mod-mul-add 0 r b h

module _ (own : OwnRows) (m : Name) (cs : Channels) (count : is_cycle_count own.params.cycles ≡ true) (has : IsTrue (list_all (has_channel own.params.channels) (channels_in cs))) where
  -- how many cycles there are, and a number above all slots
  abbrev n : ℕ
  n = own.params.cycles

  abbrev w : ℕ
  w = suc own.params.static_slots

  -- a cycle of a slot that the node holds on these channels, on all of which it is empty
  pub record IsGood (filled : List (Name × Placement)) (s c : ℕ) : Type 0 where
    pub from_one : 1 ≤ s
    pub to_last : s ≤ own.params.static_slots
    pub held : holds own m cs s ≡ true
    pub vacant : (x : Channel) → has_channel cs x ≡ true → fill filled (cell c s x) ≡ None

  -- a placement on these channels, of so many cycles
  pub record IsKind (q : Placement) : Type 0 where
    pub channels : q.channels ≡ cs
    pub cycles : q.cycles.count ≡ n

  good-more : (filled : List (Name × Placement)) (f : Name) (q : Placement) → IsKind q → (s c : ℕ) → c < n → IsGood (filled ++ (f, q) ∷ []) s c → BesidePlace (IsGood filled) q.cycles.repetition (seat q) s c
  good-more filled f q kind s c less good = (
    record { from_one = good.from_one; to_last = good.to_last; held = good.held; vacant = λ x on. (empty-both filled ((f, q) ∷ []) (cell c s x) (good.vacant x on)).0 },
    λ same.
        let x = some_channel cs in
        let lacks = one-lacks f q (cell c s x.0) (empty-both filled ((f, q) ∷ []) (cell c s x.0) (good.vacant x.0 x.1)).1 in
        let has = is_in-cell q (cell c s x.0) (record { slot = same.0; channel = ap (λ k. has_channel k x.0) kind.channels ∙ x.1; cycle = subst (λ k. c < k) (sym kind.cycles) less; selected = same.1 }) in
        true≢false (sym has ∙ lacks),
  )

  good-less : (filled : List (Name × Placement)) (f : Name) (q : Placement) → IsKind q → (s c : ℕ) → c < n → BesidePlace (IsGood filled) q.cycles.repetition (seat q) s c → IsGood (filled ++ (f, q) ∷ []) s c
  good-less filled f q kind s c less good = record {
    from_one = good.0.from_one;
    to_last = good.0.to_last;
    held = good.0.held;
    vacant = λ x on. both-empty filled ((f, q) ∷ []) (cell c s x) (good.0.vacant x on) (one-empty f q (cell c s x) (elim (cases_Bool (has_cell q (cell c s x))) [
      | inl clash ↦ let at = cell-is_in q (cell c s x) clash in absurd (good.1 (at.slot, at.selected))
      | inr lacks ↦ lacks
    ]));
  }

  -- a placement that may stand has good cycles
  seat-good : (filled : List (Name × Placement)) (wish : Wish) (q : Placement) → (wish.node ≡ m) × (wish.channels ≡ cs) → MayStand own filled wish q → HasGoodCycles n (IsGood filled) q.cycles.repetition (seat q)
  unfolding granted
  seat-good filled wish q of may c less k =
      let on : q.channels ≡ cs = may.channels ∙ of.1 in record {
        from_one = may.fits.from_one;
        to_last = may.fits.to_last;
        held = subst (λ (z : Name × Channels). holds own z.0 z.1 q.slot ≡ true) (λ i. (of.0 i, on i)) may.granted;
        vacant = λ x h. free-empty filled q may.free (cell c q.slot x)
            (is_in-cell q (cell c q.slot x) (record { slot = refl; channel = ap (λ k. has_channel k x) on ∙ h; cycle = subst (λ k. c < k) (sym may.fits.count) less; selected = k }));
      }

  kind-of : (filled : List (Name × Placement)) (wish : Wish) (q : Placement) → (wish.node ≡ m) × (wish.channels ≡ cs) → MayStand own filled wish q → IsKind q
  kind-of filled wish q of may = record { channels = may.channels ∙ of.1; cycles = may.fits.count }

  -- and the other way round
  good-seat : (filled : List (Name × Placement)) (wish : Wish) (p : ℕ × ℕ) → (wish.node ≡ m) × (wish.channels ≡ cs) → 0 < wish.repetition → n % wish.repetition ≡ 0 → p.1 < wish.repetition → p.1 < n →
      HasGoodCycles n (IsGood filled) wish.repetition p → MayStand own filled wish (placed own.params wish.repetition p.0 cs p.1)
  unfolding granted
  good-seat filled wish p of above divides below within good =
      let q = placed own.params wish.repetition p.0 cs p.1 in
      let first = good p.1 within (mod-small p.1 wish.repetition below) in record {
        fits = record { from_one = first.from_one; to_last = first.to_last; channels = has; count = refl; cycles = set_of n p.1 wish.repetition count above divides below };
        channels = sym of.1;
        repetition = refl;
        granted = subst (λ k. holds own k cs p.0 ≡ true) (sym of.0) first.held;
        free = empty-free filled q (λ c h.
            let at = cell-is_in q c h in
            let good_here = good c.cycle at.cycle at.selected in
            subst (λ s. fill filled (record { cycle = c.cycle; slot = s; channel = c.channel }) ≡ None) (sym at.slot) (good_here.vacant c.channel at.channel));
      }

  -- wishes that fit have places that fit
  fits-seats : (filled : List (Name × Placement)) (wishes : List Wish) → AreOf m cs wishes → (qs : List Placement) → FitBeside own filled wishes qs → FitsIn w n (IsGood filled) (repetitions wishes) (map seat qs)
  fits-seats filled [] of [] fits = tt
  fits-seats filled [] of (q ∷ qs) fits = fits
  fits-seats filled (wish ∷ wishes) of [] fits = fits
  fits-seats filled (wish ∷ wishes) of (q ∷ qs) fits =
      let may = fits.0 in
      let less : q.slot < w = omega (arith, may.fits.to_last) in
      let rest = fits-alike w n (IsGood (filled ++ (wish.frame, q) ∷ [])) (BesidePlace (IsGood filled) q.cycles.repetition (seat q))
      (good-more filled wish.frame q (kind-of filled wish q of.0 may)) (repetitions wishes) (map seat qs) (fits-seats (filled ++ (wish.frame, q) ∷ []) wishes of.1 qs fits.1) in
      subst (λ r. FitsIn w n (IsGood filled) (r ∷ repetitions wishes) (map seat (q ∷ qs))) may.repetition
      (less, base_below q may.fits.cycles, seat-good filled wish q of.0 may, rest)

  -- each repetition divides the count
  abbrev pub AreDivisors : List ℕ → Type 0
  AreDivisors [] = Unit {0}
  AreDivisors (r ∷ rs) = ((0 < r) × (n % r ≡ 0)) × AreDivisors rs

  pub some_cycle : 0 < n
  some_cycle = let h : nat_le 8 own.params.cycles ≡ true = (and_parts (nat_le 8 own.params.cycles) (nat_le own.params.cycles 64) (and_parts (nat_le 8 own.params.cycles && nat_le own.params.cycles 64) _ count).0).0 in grind (arith, nat_tests)

  pub divisor_within : (r b : ℕ) → n % r ≡ 0 → b < r → b < n
  divisor_within r b divides below = elim (cases_lt b n) [
    | inl less ↦ less
    | inr more ↦
        let none : n ≡ 0 = sym (mod-small n r (omega (arith, more, below))) ∙ divides in
        absurd (omega (arith, none, some_cycle))
  ]

  -- places that fit are wishes that fit
  seats-fit : (filled : List (Name × Placement)) (wishes : List Wish) → AreOf m cs wishes → AreDivisors (repetitions wishes) → (ps : List (ℕ × ℕ)) → FitsIn w n (IsGood filled) (repetitions wishes) ps → Fit own filled wishes
  seats-fit filled [] of divide [] fits = ([], tt)
  seats-fit filled [] of divide (p ∷ ps) fits = absurd fits
  seats-fit filled (wish ∷ wishes) of divide [] fits = absurd fits
  seats-fit filled (wish ∷ wishes) of divide (p ∷ ps) fits =
      let q = placed own.params wish.repetition p.0 cs p.1 in
      let may = good-seat filled wish p of.0 divide.0.0 divide.0.1 fits.1 (divisor_within wish.repetition p.1 divide.0.1 fits.1) fits.2 in
      let rest = seats-fit (filled ++ (wish.frame, q) ∷ []) wishes of.1 divide.1 ps
      (fits-alike w n (BesidePlace (IsGood filled) wish.repetition p) (IsGood (filled ++ (wish.frame, q) ∷ [])) (good-less filled wish.frame q (record { channels = refl; cycles = refl })) (repetitions wishes) ps fits.3) in
      (q ∷ rest.0, (may, rest.1))

  positive : (rs : List ℕ) → AreDivisors rs → ArePositive rs
  positive [] h = tt
  positive (r ∷ rs) h = (h.0.0, positive rs h.1)

  -- wherever the first of the wishes goes, the others fit if they all did
  pub others-fit : (filled : List (Name × Placement)) (wish : Wish) (q : Placement) (wishes : List Wish) → AreOf m cs (wish ∷ wishes) → AreDivisors (repetitions (wish ∷ wishes)) → DividesEach wish.repetition (repetitions wishes) →
      MayStand own filled wish q → Fit own filled (wish ∷ wishes) → Fit own (filled ++ (wish.frame, q) ∷ []) wishes
  others-fit filled wish q wishes of divide each may fit =
      let r = wish.repetition in
      let good = subst (λ k. HasGoodCycles n (IsGood filled) k (seat q)) may.repetition (seat-good filled wish q of.0 may) in
      let base : q.cycles.base < r = subst (λ k. q.cycles.base < k) may.repetition (base_below q may.fits.cycles) in
      let moved = other_place w n (omega arith) (IsGood filled) r divide.0.0 divide.0.1 (seat q) (omega (arith, may.fits.to_last)) base good
      (repetitions wishes) (positive (repetitions wishes) divide.1) each (map seat fit.0) (fits-seats filled (wish ∷ wishes) of fit.0 fit.1) in
      seats-fit (filled ++ (wish.frame, q) ∷ []) wishes of.1 divide.1 moved.0
      (fits-alike w n (BesidePlace (IsGood filled) r (seat q)) (IsGood (filled ++ (wish.frame, q) ∷ []))
      (λ s c less h. good-less filled wish.frame q (kind-of filled wish q of.0 may) s c less (subst (λ k. BesidePlace (IsGood filled) k (seat q) s c) (sym may.repetition) h)) (repetitions wishes) moved.0 moved.1)
