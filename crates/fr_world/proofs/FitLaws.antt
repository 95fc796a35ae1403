-- The fittest place in a slot, by words of filled cycles.
use Rattle.std.proofs.Common.{◌≡◌, ℕ, zero, suc, ◌+◌, ◌-◌, ◌*◌, ◌%◌, ◌<◌, ◌≤◌, Bool, true, false, not, ◌&&◌, ◌||◌, cond, eqb, leb, ltb, List, [], ◌∷◌, ◌++◌, length, map, filter, Option, Some, None, is_some, option_map, IsTrue, refl, sym, ap, subst, ◌∙◌, ◌⊎◌, inl, inr, arith, true≢false, bit_and, bit_or, Ordering, Less, Equal, Greater, Result, Ok, Err, add-zero, zero-add}
use Rattle.std.specs.Prelude.{is_none, nat_lt}
use Rattle.std.specs.List.{count_by, find, flat_map, list_all, list_any, range_with_len, sum_by}
use Rattle.std.specs.Cmp.{IsTotalOrder, nat_cmp_total, on_total, then_total}
use Rattle.std.specs.Ordering.{is_lt, is_some_and, min_by_ordering, ordering_reverse, partial_lt}
use Rattle.std.specs.Result.{result_ok}
use Rattle.std.proofs.lemmas.Bool.{and_from, and_parts, cases_Bool, eqb-true, le-leb, leb-true, cases_order, eq-eqb, le-ltb, lt-ltb, ne_eqb}
use Rattle.std.proofs.lemmas.Nat.Gcd.{dvd_of_mod-eq-zero, dvd_trans, mod-eq-zero_of_dvd}
use Rattle.std.proofs.lemmas.List.FromFn.{length-range_with_len, map-range_with_len_more}
use Rattle.std.proofs.lemmas.List.Sums.{count_by-le-length, length-filter, sum_by-append}
use Rattle.std.proofs.lemmas.List.Elements.{filter-append}
use Rattle.std.proofs.lemmas.List.{map-append}
use Rattle.fr_base.specs.Cells.{cells_of}
use Rattle.fr_base.specs.Channels.{channels_in, has_channel}
use Rattle.fr_base.specs.Cycles.{Cycles, cycles_of, has_cycle, is_bit_set, is_cycle_set, is_repetition, selects}
use Rattle.fr_base.specs.Fittest.{Rated, alone, broken, coarser, divisors_below, is_free, least, lesser, on_channel, rated, rated_cmp}
use Rattle.fr_base.specs.Room.{placed, places_on}
use Rattle.fr_base.specs.Schedule.{fill, first_taken}
use Rattle.fr_base.specs.declared.channel.Channel.{Channel}
use Rattle.fr_base.specs.declared.channel.Channel.TheVariants as channel
use Rattle.fr_base.specs.declared.channel.Channels.{Channels}
use Rattle.fr_base.specs.declared.channel.Channels.TheVariants as channels
use Rattle.fr_base.specs.declared.name.Name.{Name}
use Rattle.fr_base.specs.declared.params.Params.{Params}
use Rattle.fr_base.specs.declared.placement.Placement.{Placement}
use Rattle.fr_world.specs.Masks.{AreFilled, first_cycle, is_free_on, word_on}
use Rattle.fr_world.specs.Occupancies as occupancies
use Rattle.fr_base.specs.declared.cycles.BadCycles.{BadCycles}
use Rattle.fr_base.proofs.CycleLemmas.{has_cycle-in, in_range}
use Rattle.fr_world.specs.Proposals.{broken_by, cycles_with, is_empty, rated_of}
use Rattle.fr_world.specs.contracts.proposal.fit.BreaksOrd.TheImpl as by_parts
use Rattle.fr_world.specs.contracts.proposal.fit.BreaksOrd.TheImpl.Laws.{matches_partial_cmp-law}
use Rattle.fr_world.specs.contracts.proposal.fit.BreaksPartialOrd.TheImpl as by_some_parts
use Rattle.fr_world.specs.declared.proposal.fit.Breaks.{Breaks}
use Rattle.fr_world.specs.declared.proposal.fit.RatedPlace.{RatedPlace}
use Rattle.fr_world.specs.declared.filled_cycles.FilledCycles.{FilledCycles}
use Rattle.fr_world.proofs.MarkLaws.{free_by_channels}
use Rattle.fr_world.proofs.MaskLaws.{cell_in, is_set-none, is_set-or}
use Rattle.fr_world.proofs.ScheduleLaws.{range-more}

-- ---- what is free, by words

pub same_free : (ps : List (Name × Placement)) (q : Placement) → occupancies.is_free ps q ≡ is_free ps q
unfolding is_free occupancies.is_free
same_free ps q = refl

abbrev pub filled_at : List (Name × Placement) → ℕ → Channel → ℕ → Bool
filled_at ps slot x k = is_some (fill ps (cell_in slot x k))

-- on one channel a placement is free where none of its cycles is among the filled ones
on-word : (ps : List (Name × Placement)) (q : Placement) (x : Channel) (word : ℕ) → ((k : ℕ) → is_bit_set word k ≡ filled_at ps q.slot x k) → is_free_on ps q x ≡ is_empty word q.cycles
unfolding first_cycle
on-word ps q x word shows = λ i. is_none (find (λ k. sym (shows k) i) (cycles_of q.cycles))

none-either : (f g : ℕ → Bool) (ks : List ℕ) → is_none (find (λ k. f k || (g k || false)) ks) ≡ (is_none (find f ks) && (is_none (find g ks) && true))
none-either f g [] = refl
none-either f g (k ∷ ks) = elim (cases_Bool (f k)) [
  | inl t ↦ rw t refl
  | inr e ↦ elim (cases_Bool (g k)) [
    | inl u ↦ rw (e, u) (no-more (is_none (find f ks)))
    | inr d ↦ rw (e, d) (none-either f g ks)
  ]
]
  where
    no-more : (b : Bool) → false ≡ (b && false)
    no-more true = refl
    no-more false = refl

none-one : (f : ℕ → Bool) (ks : List ℕ) → is_none (find (λ k. f k || false) ks) ≡ (is_none (find f ks) && true)
none-one f [] = refl
none-one f (k ∷ ks) = elim (cases_Bool (f k)) [ inl t ↦ rw t refl | inr e ↦ rw e (none-one f ks) ]

-- on several channels by the word of the cycles that are filled on one of them or more
by_channels : (w : Channel → ℕ → Bool) (cs : Channels) (ks : List ℕ) → is_none (find (λ k. list_any (λ x. w x k) (channels_in cs)) ks) ≡ list_all (λ x. is_none (find (w x) ks)) (channels_in cs)
by_channels w channels.A ks = none-one (w channel.A) ks
by_channels w channels.AB ks = none-either (w channel.A) (w channel.B) ks
by_channels w channels.B ks = none-one (w channel.B) ks

or_false : (b : Bool) → (b || false) ≡ b
or_false true = refl
or_false false = refl

-- the cycles that are filled on A or on B
pub any-of_both : (f : FilledCycles) (k : ℕ) → is_bit_set (bit_or f.a f.b) k ≡ list_any (λ x. is_bit_set (word_on x f) k) (channels_in channels.AB)
any-of_both f k = is_set-or f.a f.b k ∙ ap (λ b. is_bit_set f.a k || b) (sym (or_false (is_bit_set f.b k)))

module _ (ps : List (Name × Placement)) (filled : FilledCycles) (slot : ℕ) (shows : (x : Channel) → AreFilled ps slot x (word_on x filled)) where
  pub free-word : (cs : Channels) (s : Cycles) (word : ℕ) → ((k : ℕ) → is_bit_set word k ≡ list_any (λ x. is_bit_set (word_on x filled) k) (channels_in cs))
      → is_free ps (record { slot = slot; channels = cs; cycles = s }) ≡ is_empty word s
  free-word cs s word any =
      let q : Placement = record { slot = slot; channels = cs; cycles = s } in
      sym (free_by_channels ps q ∙ same_free ps q)
      ∙ (λ i. list_all (λ x. on-word ps q x (word_on x filled) (shows x) i) (channels_in cs))
      ∙ sym (by_channels (λ x k. is_bit_set (word_on x filled) k) cs (cycles_of s))
      ∙ (λ i. is_none (find (λ k. sym (any k) i) (cycles_of s)))

  -- on a channel alone by its own word
  pub free-alone : (x : Channel) (s : Cycles) → is_free ps (record { slot = slot; channels = alone x; cycles = s }) ≡ is_empty (word_on x filled) s
  free-alone channel.A s = free-word channels.A s (word_on channel.A filled) (λ k. sym (or_false (is_bit_set (word_on channel.A filled) k)))
  free-alone channel.B s = free-word channels.B s (word_on channel.B filled) (λ k. sym (or_false (is_bit_set (word_on channel.B filled) k)))

  module _ (p : Params) (cs : Channels) (repetition base : ℕ) (word : ℕ) (any : (k : ℕ) → is_bit_set word k ≡ list_any (λ x. is_bit_set (word_on x filled) k) (channels_in cs)) where
    place : Placement
    place = placed p repetition slot cs base

    -- what a place breaks on its channels together, and on one of them
    broken-together : broken ps (placed p repetition slot cs base) ≡ broken_by p word repetition base
    unfolding broken
    broken-together = λ i. count_by (λ d. free-word cs (cycles_with p (base % d) d) word any i) (divisors_below repetition)

    broken-alone : (x : Channel) → broken ps (on_channel (placed p repetition slot cs base) x) ≡ broken_by p (word_on x filled) repetition base
    unfolding broken
    broken-alone x = λ i. count_by (λ d. free-alone x (cycles_with p (base % d) d) i) (divisors_below repetition)

    apart : (on_a on_b : ℕ) → on_a ≡ cond (has_channel cs channel.A) (broken_by p filled.a repetition base) 0 → on_b ≡ cond (has_channel cs channel.B) (broken_by p filled.b repetition base) 0
        → on_a + on_b ≡ sum_by (λ x. broken ps (on_channel (placed p repetition slot cs base) x)) (channels_in cs)
    apart on_a on_b a b = by_channels_too cs a b
      where
        by_channels_too : (ds : Channels) → on_a ≡ cond (has_channel ds channel.A) (broken_by p filled.a repetition base) 0 → on_b ≡ cond (has_channel ds channel.B) (broken_by p filled.b repetition base) 0
            → on_a + on_b ≡ sum_by (λ x. broken ps (on_channel (placed p repetition slot cs base) x)) (channels_in ds)
        by_channels_too channels.A a b = omega (arith, a, b, broken-alone channel.A)
        by_channels_too channels.AB a b = omega (arith, a, b, broken-alone channel.A, broken-alone channel.B)
        by_channels_too channels.B a b = omega (arith, a, b, broken-alone channel.B)

    -- the place as it is rated
    pub rated-words : (r : Rated) → r.place ≡ placed p repetition slot cs base → (on_a on_b : ℕ) → r.together ≡ broken_by p word repetition base → r.apart ≡ on_a + on_b
        → on_a ≡ cond (has_channel cs channel.A) (broken_by p filled.a repetition base) 0 → on_b ≡ cond (has_channel cs channel.B) (broken_by p filled.b repetition base) 0
        → r ≡ rated ps (placed p repetition slot cs base)
    unfolding rated
    rated-words r at on_a on_b together split a b = λ i. record { place = at i; together = (together ∙ sym broken-together) i; apart = (split ∙ apart on_a on_b a b) i }

-- ---- the least of a list

pub rated_total : IsTotalOrder rated_cmp
rated_total = then_total (on_total (λ x. x.together) nat_cmp_total) (on_total (λ x. x.apart) nat_cmp_total)

module _ {X : Type 0} (cmp : X → X → Ordering) (o : IsTotalOrder cmp) where
  swapped : (x y : X) (r : Ordering) → cmp x y ≡ r → cmp y x ≡ ordering_reverse r
  swapped x y r e = o.antisymm y x ∙ ap ordering_reverse e

  one_of : (x y z : X) (r s : Ordering) → cmp x y ≡ r → cmp y z ≡ s → lesser cmp (Some (min_by_ordering r x y)) (Some z) ≡ lesser cmp (Some x) (Some (min_by_ordering s y z))
  one_of x y z Less Less e f = rw (o.trans x y z e f, e) refl
  one_of x y z Less Equal e f =
      let same : cmp z x ≡ Greater = sym (o.congr y z x f) ∙ swapped x y Less e in
      let before : cmp x z ≡ Less = swapped z x Greater same in
      rw (before, e) refl
  one_of x y z Less Greater e f = refl
  one_of x y z Equal Less e f = rw (o.congr x y z e ∙ f, e) refl
  one_of x y z Equal Equal e f = rw (o.congr x y z e ∙ f, e) refl
  one_of x y z Equal Greater e f = refl
  one_of x y z Greater Less e f = rw (f, e) refl
  one_of x y z Greater Equal e f = rw (f, e) refl
  one_of x y z Greater Greater e f =
      let before : cmp z x ≡ Less = o.trans z y x (swapped y z Greater f) (swapped x y Greater e) in
      let behind : cmp x z ≡ Greater = swapped z x Less before in
      rw (f, behind) refl

  pub lesser-assoc : (a b c : Option X) → lesser cmp (lesser cmp a b) c ≡ lesser cmp a (lesser cmp b c)
  lesser-assoc None b c = refl
  lesser-assoc (Some x) None c = refl
  lesser-assoc (Some x) (Some y) None = refl
  lesser-assoc (Some x) (Some y) (Some z) = one_of x y z (cmp x y) (cmp y z) refl refl

  pub least-append : (xs ys : List X) → least cmp (xs ++ ys) ≡ lesser cmp (least cmp xs) (least cmp ys)
  unfolding least
  least-append [] ys = refl
  least-append (x ∷ xs) ys = ap (lesser cmp (Some x)) (least-append xs ys) ∙ sym (lesser-assoc (Some x) (least cmp xs) (least cmp ys))

pub lesser-none : {X : Type 0} (cmp : X → X → Ordering) (a : Option X) → lesser cmp a None ≡ a
lesser-none cmp None = refl
lesser-none cmp (Some x) = refl

-- ---- one base more

abbrev pub fit_so_far : (ℕ → Placement) → List (Name × Placement) → ℕ → Option Rated
fit_so_far f ps n = least rated_cmp (map (rated ps) (filter (is_free ps) (map f (range_with_len 0 n))))

module _ (f : ℕ → Placement) (ps : List (Name × Placement)) (base n : ℕ) (next : n ≡ base + 1) where
  one-more : fit_so_far f ps n ≡ lesser rated_cmp (fit_so_far f ps base) (least rated_cmp (map (rated ps) (filter (is_free ps) (f base ∷ []))))
  one-more =
      ap (λ m. fit_so_far f ps m) next
      ∙ ap (λ qs. least rated_cmp (map (rated ps) (filter (is_free ps) qs))) (map-range_with_len_more f 0 base base (omega arith))
      ∙ ap (λ qs. least rated_cmp (map (rated ps) qs)) (filter-append (is_free ps) (map f (range_with_len 0 base)) (f base ∷ []))
      ∙ ap (least rated_cmp) (map-append (rated ps) (filter (is_free ps) (map f (range_with_len 0 base))) (filter (is_free ps) (f base ∷ [])))
      ∙ least-append rated_cmp rated_total _ _

  pub free-more : (old new : Option Rated) (r : Rated) → old ≡ fit_so_far f ps base → is_free ps (f base) ≡ true → r ≡ rated ps (f base) → new ≡ lesser rated_cmp old (Some r) → new ≡ fit_so_far f ps n
  unfolding least
  free-more old new r was free is e =
      e ∙ (λ i. lesser rated_cmp (was i) (Some (is i)))
      ∙ ap (λ b. lesser rated_cmp (fit_so_far f ps base) (least rated_cmp (map (rated ps) (cond b (f base ∷ []) [])))) (sym free)
      ∙ sym one-more

  pub taken-more : (old : Option Rated) → old ≡ fit_so_far f ps base → is_free ps (f base) ≡ false → old ≡ fit_so_far f ps n
  unfolding least
  taken-more old was taken =
      was ∙ sym (lesser-none rated_cmp (fit_so_far f ps base))
      ∙ ap (λ b. lesser rated_cmp (fit_so_far f ps base) (least rated_cmp (map (rated ps) (cond b (f base ∷ []) [])))) (sym taken)
      ∙ sym one-more

-- ---- the cycles of sets that are empty

next_below : (m base : ℕ) (e : ℕ → Bool) → (cond (ltb m base) (e m) false || (eqb m base && e base)) ≡ cond (ltb m (base + 1)) (e m) false
next_below m base e = elim (cases_order m base) [
  | inl same ↦
      let not_yet : ltb m base ≡ false = le-ltb m base (omega (arith, same)) in
      let now : ltb m (base + 1) ≡ true = lt-ltb m (base + 1) (omega (arith, same)) in
      rw (not_yet, now, eq-eqb m base same) (ap e (sym same))
  | inr other ↦ elim other [
    | inl l ↦
        let yet : ltb m base ≡ true = lt-ltb m base l in
        let now : ltb m (base + 1) ≡ true = lt-ltb m (base + 1) (omega (arith, l)) in
        rw (yet, now, ne_eqb m base (λ e. omega (arith, l, e))) (or_false (e m))
    | inr g ↦
        let not_yet : ltb m base ≡ false = le-ltb m base (omega (arith, g)) in
        let nor : ltb m (base + 1) ≡ false = le-ltb m (base + 1) (omega (arith, g)) in
        rw (not_yet, nor, ne_eqb m base (λ e. omega (arith, g, e))) refl
  ]
]

-- ---- the fitter of two

abbrev pub breaks_cmp : Breaks → Breaks → Ordering
breaks_cmp = by_parts.cmp-value.it

pub fewer : (x y : Breaks) → partial_lt by_some_parts.partial_cmp-value.it x y ≡ is_lt (breaks_cmp x y)
fewer x y = ap (is_some_and is_lt) (matches_partial_cmp-law x y)

turned : {X : Type 0} (x y : X) (r : Ordering) → is_lt r ≡ true → Some y ≡ Some (min_by_ordering (ordering_reverse r) x y)
turned x y Less e = refl
turned x y Equal e = cc
turned x y Greater e = cc

kept : {X : Type 0} (x y : X) (r : Ordering) → is_lt r ≡ false → Some x ≡ Some (min_by_ordering (ordering_reverse r) x y)
kept x y Less e = cc
kept x y Equal e = refl
kept x y Greater e = refl

back : (x y : RatedPlace) → Some (min_by_ordering (ordering_reverse (breaks_cmp y.breaks x.breaks)) (rated_of x) (rated_of y)) ≡ lesser rated_cmp (Some (rated_of x)) (Some (rated_of y))
back x y = ap (λ r. Some (min_by_ordering r (rated_of x) (rated_of y))) (sym (rated_total.antisymm (rated_of x) (rated_of y)))

pub fitter-latter : (x y : RatedPlace) → is_lt (breaks_cmp y.breaks x.breaks) ≡ true → Some (rated_of y) ≡ lesser rated_cmp (Some (rated_of x)) (Some (rated_of y))
fitter-latter x y l = turned (rated_of x) (rated_of y) (breaks_cmp y.breaks x.breaks) l ∙ back x y

pub fitter-former : (x y : RatedPlace) → is_lt (breaks_cmp y.breaks x.breaks) ≡ false → Some (rated_of x) ≡ lesser rated_cmp (Some (rated_of x)) (Some (rated_of y))
fitter-former x y l = kept (rated_of x) (rated_of y) (breaks_cmp y.breaks x.breaks) l ∙ back x y

-- ---- a set of cycles, if it is free in a word

set_by : (b : Bool) (made : Result Cycles BadCycles) (there s : Cycles) → made ≡ cond b (Ok there) (Err (record {})) → result_ok made ≡ Some s → (b ≡ true) × (s ≡ there)
set_by true made there s e was = let found : Some s ≡ Some there = sym was ∙ ap result_ok e in (refl, cc)
set_by false made there s e was = let none : Some s ≡ None = sym was ∙ ap result_ok e in cc

unset_by : (b : Bool) (made : Result Cycles BadCycles) (there : Cycles) → made ≡ cond b (Ok there) (Err (record {})) → result_ok made ≡ None → b ≡ false
unset_by true made there e was = let none : Some there ≡ None = sym (ap result_ok e) ∙ was in cc
unset_by false made there e was = refl

and_no : (a b : Bool) → b ≡ false → (a && b) ≡ false
and_no true b e = e
and_no false b e = refl

module _ (p : Params) (word base r count : ℕ) (made : Result Cycles BadCycles) (same : count ≡ p.cycles)
    (is : made ≡ cond (is_cycle_set count base r) (Ok (record { count = count; base = base; repetition = r })) (Err (record {}))) where
  made_of : made ≡ cond (is_cycle_set p.cycles base r) (Ok (cycles_with p base r)) (Err (record {}))
  made_of = is ∙ (λ i. cond (is_cycle_set (same i) base r) (Ok (record { count = same i; base = base; repetition = r })) (Err (record {})))

  abbrev answer : Option Cycles
  answer = cond (is_cycle_set p.cycles base r && is_empty word (cycles_with p base r)) (Some (cycles_with p base r)) None

  pub no-set : result_ok made ≡ None → None ≡ answer
  no-set was = ap (λ b. cond (b && is_empty word (cycles_with p base r)) (Some (cycles_with p base r)) None) (sym (unset_by _ made (cycles_with p base r) made_of was))

  module _ (s : Cycles) (was : result_ok made ≡ Some s) where
    pub free-set : None ≡ find (is_bit_set word) (cycles_of s) → Some s ≡ answer
    free-set none =
        let found = set_by _ made (cycles_with p base r) s made_of was in
        ap Some found.1
        ∙ ap (λ b. cond b (Some (cycles_with p base r)) None) (sym (and_from (is_cycle_set p.cycles base r) (is_empty word (cycles_with p base r)) found.0 (ap (λ t. is_empty word t) (sym found.1) ∙ ap is_none (sym none))))

    pub taken-set : (k : ℕ) → Some k ≡ find (is_bit_set word) (cycles_of s) → None ≡ answer
    taken-set k some =
        let found = set_by _ made (cycles_with p base r) s made_of was in
        ap (λ b. cond b (Some (cycles_with p base r)) None) (sym (and_no (is_cycle_set p.cycles base r) (is_empty word (cycles_with p base r)) (ap (λ t. is_empty word t) (sym found.1) ∙ ap is_none (sym some))))

-- what was answered
module _ (set free : Bool) (s : Cycles) (answered : Option Cycles) (is : answered ≡ cond (set && free) (Some s) None) where
  pub answered-some : (t : Cycles) → answered ≡ Some t → (free ≡ true) × (t ≡ s)
  answered-some t was = by set free is
    where
      by : (a b : Bool) → answered ≡ cond (a && b) (Some s) None → (b ≡ true) × (t ≡ s)
      by true true e = let same : Some t ≡ Some s = sym was ∙ e in (refl, cc)
      by true false e = let none : Some t ≡ None = sym was ∙ e in cc
      by false b e = let none : Some t ≡ None = sym was ∙ e in cc

  pub answered-none : set ≡ true → answered ≡ None → free ≡ false
  answered-none there was = by set free there is
    where
      by : (a b : Bool) → a ≡ true → answered ≡ cond (a && b) (Some s) None → b ≡ false
      by true true h e = let none : Some s ≡ None = sym e ∙ was in cc
      by true false h e = refl
      by false b h e = cc

  pub answered-not : set ≡ true → ((t : Cycles) → ¬ (answered ≡ Some t)) → free ≡ false
  answered-not there never = answered-none there (none_of answered never)
    where
      none_of : (o : Option Cycles) → ((t : Cycles) → ¬ (o ≡ Some t)) → o ≡ None
      none_of None h = refl
      none_of (Some t) h = absurd (h t refl)

-- a repetition is one or more, and no more than there are cycles
pub some-repetition : (n r : ℕ) → IsTrue (is_repetition n r) → 0 < r
some-repetition n r divides = leb-true 1 r (and_parts (leb 1 r) _ divides).0

pub repetition-within : (n r : ℕ) → 0 < n → IsTrue (is_repetition n r) → r ≤ n
repetition-within n r some divides = (in_range n r some divides).1

pub few-bases : (n cycles r : ℕ) → cycles ≡ n → (8 ≤ cycles) × (cycles ≤ 64) → IsTrue (is_repetition n r) → r ≤ 64
few-bases n cycles r same range divides =
    let some : 0 < n = omega (arith, same, range.0) in
    omega (arith, repetition-within n r some divides, same, range.1)

pub divides-test : (r d : ℕ) → 0 < d → r % d ≡ 0 → is_repetition r d ≡ true
divides-test r d some e = and_from (leb 1 d) (eqb (r % d) 0) (le-leb 1 d some) (eq-eqb (r % d) 0 e)

pub other-test : (r d : ℕ) → ¬ (r % d ≡ 0) → is_repetition r d ≡ false
other-test r d ne = and_no (leb 1 d) (eqb (r % d) 0) (ne_eqb (r % d) 0 ne)

-- what divides a repetition is one
pub coarser-divides : (n r d : ℕ) → 0 < d → r % d ≡ 0 → IsTrue (is_repetition n r) → IsTrue (is_repetition n d)
coarser-divides n r d some e divides =
    let parts = and_parts (leb 1 r) _ divides in
    let through = dvd_trans d (dvd_of_mod-eq-zero d e) (dvd_of_mod-eq-zero r (eqb-true _ _ parts.1)) in
    and_from (leb 1 d) (eqb (n % d) 0) (le-leb 1 d some) (eq-eqb (n % d) 0 (mod-eq-zero_of_dvd d through))

-- a base below a repetition makes a set of cycles
pub is-set : (n base r : ℕ) → IsTrue (is_repetition n r) → base < r → is_cycle_set n base r ≡ true
is-set n base r divides low = and_from (is_repetition n r) (nat_lt base r) divides (lt-ltb base r low)

-- ---- empty cycles, one base more

-- the bits of the word are the empty cycles of the bases below this one
abbrev pub EmptyBelow : Params → ℕ → ℕ → ℕ → ℕ → Type 0
EmptyBelow p filled r word n = (k : ℕ) → k < p.cycles → is_bit_set word k ≡ cond (ltb (k % r) n) (is_empty filled (cycles_with p (k % r) r)) false

module _ (p : Params) (filled r base : ℕ) (old new : ℕ) where
  pub empty-added : EmptyBelow p filled r old base → (s : Cycles) → s ≡ cycles_with p base r → is_empty filled (cycles_with p base r) ≡ true → (mask : ℕ) → ((k : ℕ) → is_bit_set mask k ≡ has_cycle s k) → new ≡ bit_or old mask → EmptyBelow p filled r new (base + 1)
  empty-added was s at free mask bits e k low =
      ap (λ w. is_bit_set w k) e ∙ is_set-or old mask k
      ∙ (λ i. was k low i || (bits k ∙ ap (λ t. has_cycle t k) at ∙ has_cycle-in (cycles_with p base r) k low ∙ and_yes (eqb (k % r) base)) i)
      ∙ next_below (k % r) base (λ b. is_empty filled (cycles_with p b r))
    where
      and_yes : (b : Bool) → b ≡ (b && is_empty filled (cycles_with p base r))
      and_yes true = sym free
      and_yes false = refl

  pub empty-skipped : EmptyBelow p filled r old base → is_empty filled (cycles_with p base r) ≡ false → EmptyBelow p filled r old (base + 1)
  empty-skipped was taken k low =
      was k low ∙ sym (or_false (cond (ltb (k % r) base) (is_empty filled (cycles_with p (k % r) r)) false))
      ∙ ap (λ b. cond (ltb (k % r) base) (is_empty filled (cycles_with p (k % r) r)) false || b) (sym (and_no (eqb (k % r) base) _ taken))
      ∙ next_below (k % r) base (λ b. is_empty filled (cycles_with p b r))

pub empty-all : (p : Params) (filled r word n : ℕ) → EmptyBelow p filled r word n → 0 < r → r ≤ n → (k : ℕ) → k < p.cycles → is_bit_set word k ≡ is_empty filled (cycles_with p (k % r) r)
empty-all p filled r word n shows some all k low =
    let below : k % r < n = omega (arith, some, all) in
    shows k low ∙ ap (λ b. cond b (is_empty filled (cycles_with p (k % r) r)) false) (lt-ltb (k % r) n below)

pub empty-none : (p : Params) (filled r : ℕ) → EmptyBelow p filled r 0 0
empty-none p filled r k low = is_set-none k ∙ ap (λ b. cond b (is_empty filled (cycles_with p (k % r) r)) false) (sym (le-ltb (k % r) 0 (omega arith)))

-- ---- how many repetitions are broken

-- so far: of the repetitions below this one
abbrev pub broken_so_far : Params → ℕ → ℕ → ℕ → ℕ → ℕ
broken_so_far p word r base n = count_by (λ d. is_empty word (cycles_with p (base % d) d)) (filter (is_repetition r) (range_with_len 1 n))

module _ (p : Params) (word r base : ℕ) (d m n : ℕ) (at : d ≡ 1 + m) (next : n ≡ suc m) where
  one_repetition : broken_so_far p word r base (suc m) ≡ broken_so_far p word r base m + cond (is_repetition r d) (cond (is_empty word (cycles_with p (base % d) d)) 1 0) 0
  one_repetition =
      ap (λ ds. count_by (λ d. is_empty word (cycles_with p (base % d) d)) (filter (is_repetition r) ds)) (range-more 1 m ∙ ap (λ z. range_with_len 1 m ++ z ∷ []) (sym at))
      ∙ ap (count_by (λ d. is_empty word (cycles_with p (base % d) d))) (filter-append (is_repetition r) (range_with_len 1 m) (d ∷ []))
      ∙ sum_by-append _ (filter (is_repetition r) (range_with_len 1 m)) (filter (is_repetition r) (d ∷ []))
      ∙ ap (λ n. broken_so_far p word r base m + n) (by (is_repetition r d))
    where
      by : (b : Bool) → count_by (λ d. is_empty word (cycles_with p (base % d) d)) (cond b (d ∷ []) []) ≡ cond b (cond (is_empty word (cycles_with p (base % d) d)) 1 0) 0
      by true = zero-add _
      by false = refl

  pub broken-more : (old new bit : ℕ) → old ≡ broken_so_far p word r base m → is_repetition r d ≡ true → new ≡ old + bit → bit ≡ cond (is_empty word (cycles_with p (base % d) d)) 1 0 → new ≡ broken_so_far p word r base n
  broken-more old new bit was divides e is = e ∙ (λ i. was i + is i) ∙ ap (λ b. broken_so_far p word r base m + cond b (cond (is_empty word (cycles_with p (base % d) d)) 1 0) 0) (sym divides) ∙ sym one_repetition ∙ ap (broken_so_far p word r base) (sym next)

  pub broken-same : (old : ℕ) → old ≡ broken_so_far p word r base m → is_repetition r d ≡ false → old ≡ broken_so_far p word r base n
  broken-same old was other = was ∙ sym (add-zero _) ∙ ap (λ b. broken_so_far p word r base m + cond b (cond (is_empty word (cycles_with p (base % d) d)) 1 0) 0) (sym other) ∙ sym one_repetition ∙ ap (broken_so_far p word r base) (sym next)

-- what is counted on a channel, if the channel is there, is few
pub few-on : (b : Bool) (n m most : ℕ) → n ≡ cond b m 0 → m ≤ most → n ≤ most
few-on true n m most e few = omega (arith, e, few)
few-on false n m most e few = omega (arith, e)

pub bit-small : (b : Bool) → cond b 1 0 ≤ 1
bit-small true = omega arith
bit-small false = omega arith

-- a repetition breaks few
pub broken-few : (p : Params) (word r base : ℕ) → broken_by p word r base ≤ r
broken-few p word r base =
    let most : broken_by p word r base ≤ length (divisors_below r) = count_by-le-length (λ d. is_empty word (cycles_with p (base % d) d)) (divisors_below r) in
    let fewer : length (divisors_below r) ≤ length (range_with_len 1 (r - 1)) = omega (arith, length-filter (is_repetition r) (range_with_len 1 (r - 1)), count_by-le-length (is_repetition r) (range_with_len 1 (r - 1))) in
    omega (arith, most, fewer, length-range_with_len 1 (r - 1))
