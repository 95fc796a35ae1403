-- Words of filled cycles beside the frames and placements that fill them.
use Rattle.std.proofs.Common.{drop, ◌≡◌, ℕ, zero, suc, ◌+◌, ◌<◌, ◌≤◌, Bool, true, false, ◌&&◌, ◌||◌, cond, eqb, List, [], ◌∷◌, ◌++◌, length, get_or, take, Option, Some, None, is_some, unwrap_or, refl, sym, ap, subst, ◌∙◌, ◌⊎◌, inl, inr, arith, true≢false, take-suc, add-one, bit_and, bit_or}
use Rattle.std.specs.Prelude.{min, max}
use Rattle.std.specs.Int.{bit_at}
use Rattle.std.specs.Option.{option_or}
use Rattle.std.specs.BTreeMap.{is_at}
use Rattle.std.specs.FinMap.{nat_cmp-IsAntisymmetric}
use Rattle.std.specs.Map.{lookup}
use Rattle.std.specs.Ordering.{is_eq, nat_cmp}
use Rattle.std.proofs.lemmas.Bool.{and_parts, cases_Bool, eq-eqb, eqb-true, ne_eqb}
use Rattle.std.proofs.lemmas.Nat.Bits.{bit_at_and, bit_at_or, bit_at-lt, bit_at-zero}
use Rattle.fr_base.specs.Keys.{placement_order}
use Rattle.fr_base.specs.Cells.{Cell, has_cell}
use Rattle.fr_base.specs.Channels.{has_channel}
use Rattle.fr_base.specs.Cycles.{has_cycle, is_bit_set}
use Rattle.fr_base.specs.Names.{same_text}
use Rattle.fr_base.specs.Schedule.{fill}
use Rattle.fr_base.proofs.TableLaws.{equal}
use Rattle.fr_base.specs.declared.channel.Channel.{Channel}
use Rattle.fr_base.specs.declared.channel.Channel.TheVariants as channel
use Rattle.fr_base.specs.declared.name.Name.{Name}
use Rattle.fr_base.specs.declared.placement.Placement.{Placement}
use Rattle.fr_world.specs.Masks.{AreFilled, ShowFilled, has_words, word_on, words_at}
use Rattle.fr_world.specs.Occupancies.{is_pair, without}
use Rattle.fr_world.specs.declared.filled_cycles.FilledCycles.{FilledCycles}
use Rattle.fr_world.specs.declared.row_occupancy.Row.{Row}
use Rattle.fr_world.proofs.RowLaws.{pair_of, pairs}
use Rattle.fr_world.proofs.SharedLaws.{has_cell-parts}
use Rattle.fr_world.proofs.TakenLaws.{fill-append}
use Rattle.std.proofs.lemmas.List.{at_drop_more, drop_all, map-append}

-- ---- bits

greater-one : (m n : ℕ) → m < 2 → n < 2 → eqb (max m n) 1 ≡ (eqb m 1 || eqb n 1)
greater-one zero zero l h = refl
greater-one zero (suc zero) l h = refl
greater-one (suc zero) zero l h = refl
greater-one (suc zero) (suc zero) l h = refl
greater-one (suc (suc m)) n l h = absurd (omega (arith, l))
greater-one zero (suc (suc n)) l h = absurd (omega (arith, h))
greater-one (suc zero) (suc (suc n)) l h = absurd (omega (arith, h))

lesser-one : (m n : ℕ) → m < 2 → n < 2 → eqb (min m n) 1 ≡ (eqb m 1 && eqb n 1)
lesser-one zero zero l h = refl
lesser-one zero (suc zero) l h = refl
lesser-one (suc zero) zero l h = refl
lesser-one (suc zero) (suc zero) l h = refl
lesser-one (suc (suc m)) n l h = absurd (omega (arith, l))
lesser-one zero (suc (suc n)) l h = absurd (omega (arith, h))
lesser-one (suc zero) (suc (suc n)) l h = absurd (omega (arith, h))

-- a bit is set in one word or the other, and in both
pub is_set-or : (a b k : ℕ) → is_bit_set (bit_or a b) k ≡ (is_bit_set a k || is_bit_set b k)
is_set-or a b k = ap (λ n. eqb n 1) (bit_at_or a b k) ∙ greater-one (bit_at a k) (bit_at b k) (bit_at-lt a k) (bit_at-lt b k)

pub is_set-and : (a b k : ℕ) → is_bit_set (bit_and a b) k ≡ (is_bit_set a k && is_bit_set b k)
is_set-and a b k = ap (λ n. eqb n 1) (bit_at_and a b k) ∙ lesser-one (bit_at a k) (bit_at b k) (bit_at-lt a k) (bit_at-lt b k)

pub is_set-none : (k : ℕ) → is_bit_set 0 k ≡ false
is_set-none k = ap (λ n. eqb n 1) (bit_at-zero k)

pub no_words : (x : Channel) (k : ℕ) → is_bit_set (word_on x (record { a = 0; b = 0 })) k ≡ false
no_words channel.A k = is_set-none k
no_words channel.B k = is_set-none k

-- ---- what fills a cell

abbrev pub cell_in : ℕ → Channel → ℕ → Cell
cell_in slot x k = record { cycle = k; slot = slot; channel = x }

some_or : {A : Type 0} (r : Option A) (b : Bool) (a : A) → is_some (option_or r (cond b (Some a) None)) ≡ (is_some r || b)
some_or None true a = refl
some_or None false a = refl
some_or (Some x) b a = refl

-- with one more pair
pub filled-more : (ps : List (Name × Placement)) (f : Name) (q : Placement) (c : Cell) → is_some (fill (ps ++ (f, q) ∷ []) c) ≡ (is_some (fill ps c) || has_cell q c)
unfolding fill
filled-more ps f q c = ap is_some (fill-append ps ((f, q) ∷ []) c) ∙ some_or (fill ps c) (has_cell q c) f

-- of its own slot a placement has the cells of its channels and cycles, and of another slot none
pub has_cell-own : (q : Placement) (x : Channel) (k : ℕ) → has_cell q (cell_in q.slot x k) ≡ (has_channel q.channels x && has_cycle q.cycles k)
has_cell-own q x k = has_cell-parts q (cell_in q.slot x k) ∙ ap (λ b. (b && has_channel q.channels x) && has_cycle q.cycles k) (eq-eqb q.slot q.slot refl)

pub has_cell-other : (q : Placement) (slot : ℕ) (x : Channel) (k : ℕ) → eqb slot q.slot ≡ false → has_cell q (cell_in slot x k) ≡ false
has_cell-other q slot x k other = has_cell-parts q (cell_in slot x k) ∙ ap (λ b. (b && has_channel q.channels x) && has_cycle q.cycles k) other

pub or_none : (a b : Bool) → b ≡ false → (a || b) ≡ a
or_none true b e = refl
or_none false b e = e

pub never : (b : Bool) → false ≡ (b && false)
never true = refl
never false = refl

-- ---- one placement more

module _ (ps : List (Name × Placement)) (f : Name) (q : Placement) (olds news : List (ℕ × FilledCycles)) (filled : FilledCycles) where
  pub shown-more : ShowFilled ps olds → ((s : ℕ) → words_at news s ≡ cond (eqb q.slot s && true) filled (words_at olds s)) → ((x : Channel) (k : ℕ) → is_bit_set (word_on x filled) k ≡ (is_bit_set (word_on x (words_at olds q.slot)) k || (has_channel q.channels x && has_cycle q.cycles k))) → ShowFilled (ps ++ (f, q) ∷ []) news
  shown-more shows put marks slot x k = elim (cases_Bool (eqb q.slot slot)) [
    | inl here ↦
        let e : q.slot ≡ slot = eqb-true q.slot slot here in
        ap (λ w. is_bit_set (word_on x w) k) (put slot ∙ ap (λ b. cond (b && true) filled (words_at olds slot)) here)
        ∙ marks x k
        ∙ (λ i. shows q.slot x k i || sym (has_cell-own q x k) i)
        ∙ sym (filled-more ps f q (cell_in q.slot x k))
        ∙ ap (λ s. is_some (fill (ps ++ (f, q) ∷ []) (cell_in s x k))) e
    | inr other ↦
        let apart : eqb slot q.slot ≡ false = ne_eqb slot q.slot (λ e. true≢false (sym (eq-eqb q.slot slot (sym e)) ∙ other)) in
        ap (λ w. is_bit_set (word_on x w) k) (put slot ∙ ap (λ b. cond (b && true) filled (words_at olds slot)) other)
        ∙ shows slot x k
        ∙ sym (filled-more ps f q (cell_in slot x k) ∙ or_none _ _ (has_cell-other q slot x k apart))
  ]

-- ---- without a pair

is_pair-same : (f : Name) (q : Placement) (p : Name × Placement) → is_pair f q p ≡ true → p.1 ≡ q
is_pair-same f q p e = placement_order.exact p.1 q (equal (placement_order.compare p.1 q) (and_parts (same_text p.0 f) (is_eq (placement_order.compare p.1 q)) e).1)

-- cells that its placement does not have stay
pub without-other : (ps : List (Name × Placement)) (f : Name) (q : Placement) (c : Cell) → has_cell q c ≡ false → fill (without ps f q) c ≡ fill ps c
unfolding fill
without-other [] f q c lacks = refl
without-other (p ∷ ps) f q c lacks = elim (cases_Bool (is_pair f q p)) [
  | inl pair ↦
      let same : has_cell p.1 c ≡ false = ap (λ r. has_cell r c) (is_pair-same f q p pair) ∙ lacks in
      rw (pair, same) (without-other ps f q c lacks)
  | inr other ↦ rw other (ap (cond (has_cell p.1 c) (Some p.0)) (without-other ps f q c lacks))
]

-- and no cell is filled that was not
pub without-none : (ps : List (Name × Placement)) (f : Name) (q : Placement) (c : Cell) → fill ps c ≡ None → fill (without ps f q) c ≡ None
unfolding fill
without-none [] f q c none = refl
without-none (p ∷ ps) f q c none = elim (cases_Bool (has_cell p.1 c)) [
  | inl has ↦ let filled = rw has at none in cc
  | inr lacks ↦
      let rest : fill ps c ≡ None = rw lacks at none in
      elim (cases_Bool (is_pair f q p)) [
        | inl pair ↦ rw pair (without-none ps f q c rest)
        | inr other ↦ rw (other, lacks) (without-none ps f q c rest)
      ]
]

none_is : {A : Type 0} (r : Option A) → is_some r ≡ false → r ≡ None
none_is None e = refl
none_is (Some x) e = cc

no_words_at : (words : List (ℕ × FilledCycles)) (slot : ℕ) → has_words words slot ≡ false → words_at words slot ≡ record { a = 0; b = 0 }
no_words_at words slot none = ap (λ r. unwrap_or r (record { a = 0; b = 0 })) (none_is _ none)

module _ (ps : List (Name × Placement)) (f : Name) (q : Placement) (olds news : List (ℕ × FilledCycles)) (filled : FilledCycles) where
  pub shown-without : ShowFilled ps olds → ((s : ℕ) → words_at news s ≡ cond (eqb q.slot s && has_words olds q.slot) filled (words_at olds s)) → ((x : Channel) → AreFilled (without ps f q) q.slot x (word_on x filled)) → ShowFilled (without ps f q) news
  shown-without shows put are slot x k = elim (cases_Bool (eqb q.slot slot)) [
    | inl here ↦
        let e : q.slot ≡ slot = eqb-true q.slot slot here in
        subst (λ s. is_bit_set (word_on x (words_at news s)) k ≡ is_some (fill (without ps f q) (cell_in s x k))) e (own (cases_Bool (has_words olds q.slot)))
    | inr other ↦
        let apart : eqb slot q.slot ≡ false = ne_eqb slot q.slot (λ e. true≢false (sym (eq-eqb q.slot slot (sym e)) ∙ other)) in
        ap (λ w. is_bit_set (word_on x w) k) (put slot ∙ ap (λ b. cond (b && has_words olds q.slot) filled (words_at olds slot)) other)
        ∙ shows slot x k
        ∙ ap is_some (sym (without-other ps f q (cell_in slot x k) (has_cell-other q slot x k apart)))
  ]
    where
      mine : (b : Bool) → has_words olds q.slot ≡ b → words_at news q.slot ≡ cond b filled (words_at olds q.slot)
      mine b is = put q.slot ∙ (λ i. cond (eq-eqb q.slot q.slot refl i && is i) filled (words_at olds q.slot))

      own : (has_words olds q.slot ≡ true) ⊎ (has_words olds q.slot ≡ false) → is_bit_set (word_on x (words_at news q.slot)) k ≡ is_some (fill (without ps f q) (cell_in q.slot x k))
      own (inl there) = ap (λ w. is_bit_set (word_on x w) k) (mine true there) ∙ are x k
      own (inr none) =
          let free : is_bit_set (word_on x (words_at olds q.slot)) k ≡ false = ap (λ w. is_bit_set (word_on x w) k) (no_words_at olds q.slot none) ∙ no_words x k in
          ap (λ w. is_bit_set (word_on x w) k) (mine false none) ∙ free
          ∙ sym (ap is_some (without-none ps f q (cell_in q.slot x k) (none_is _ (sym (shows q.slot x k) ∙ free))))

-- ---- rows

-- which frame is sent in a cell: none of the first rows, or the next one, or none at all
module _ (c : Cell) (rows : List Row) (i : ℕ) where
  abbrev pub NoneYet : Type 0
  NoneYet = fill (pairs (drop i rows)) c ≡ fill (pairs rows) c

  module _ (row : Row) (low : i < length rows) (is : row ≡ get_or rows i row) (none : NoneYet) where
    from_here : cond (has_cell row.placement c) (Some row.frame) (fill (pairs (drop (i + 1) rows)) c) ≡ fill (pairs rows) c
    unfolding fill
    from_here =
        ap (λ r. cond (has_cell r.placement c) (Some r.frame) (fill (pairs (drop (i + 1) rows)) c)) is
        ∙ sym (at_drop_more (λ rest. fill (pairs rest) c) rows i row low)
        ∙ none

    pub row-sends : has_cell row.placement c ≡ true → Some row.frame ≡ fill (pairs rows) c
    row-sends has = ap (λ b. cond b (Some row.frame) (fill (pairs (drop (i + 1) rows)) c)) (sym has) ∙ from_here

    pub row-lacks : has_cell row.placement c ≡ false → fill (pairs (drop (i + 1) rows)) c ≡ fill (pairs rows) c
    row-lacks lacks = ap (λ b. cond b (Some row.frame) (fill (pairs (drop (i + 1) rows)) c)) (sym lacks) ∙ from_here

  pub no-row : length rows ≤ i → NoneYet → None ≡ fill (pairs rows) c
  unfolding fill
  no-row over none = ap (λ rs. fill (pairs rs) c) (sym (drop_all i rows over)) ∙ none

-- the cycles of a slot, with one row more
module _ (rows : List Row) (i : ℕ) (row : Row) (slot : ℕ) (low : i < length rows) (is : row ≡ get_or rows i row) where
  next_pairs : pairs (take (i + 1) rows) ≡ pairs (take i rows) ++ (row.frame, row.placement) ∷ []
  next_pairs =
      ap (λ n. pairs (take n rows)) (add-one i)
      ∙ ap pairs (take-suc rows i row low ∙ ap (λ r. take i rows ++ r ∷ []) (sym is))
      ∙ map-append pair_of (take i rows) (row ∷ [])

  filled-next : (x : Channel) (k : ℕ) → is_some (fill (pairs (take (i + 1) rows)) (cell_in slot x k)) ≡ (is_some (fill (pairs (take i rows)) (cell_in slot x k)) || has_cell row.placement (cell_in slot x k))
  filled-next x k = ap (λ ps. is_some (fill ps (cell_in slot x k))) next_pairs ∙ filled-more (pairs (take i rows)) row.frame row.placement (cell_in slot x k)

  pub row-marked : (old new : FilledCycles) → eqb row.placement.slot slot ≡ true → ((x : Channel) → AreFilled (pairs (take i rows)) slot x (word_on x old))
      → ((x : Channel) (k : ℕ) → is_bit_set (word_on x new) k ≡ (is_bit_set (word_on x old) k || (has_channel row.placement.channels x && has_cycle row.placement.cycles k)))
      → (x : Channel) → AreFilled (pairs (take (i + 1) rows)) slot x (word_on x new)
  row-marked old new here shows marks x k =
      let e : row.placement.slot ≡ slot = eqb-true row.placement.slot slot here in
      marks x k ∙ (λ j. shows x k j || (sym (has_cell-own row.placement x k) ∙ ap (λ s. has_cell row.placement (cell_in s x k)) e) j) ∙ sym (filled-next x k)

  pub row-elsewhere : (old : FilledCycles) → eqb row.placement.slot slot ≡ false → ((x : Channel) → AreFilled (pairs (take i rows)) slot x (word_on x old)) → (x : Channel) → AreFilled (pairs (take (i + 1) rows)) slot x (word_on x old)
  row-elsewhere old other shows x k =
      let apart : eqb slot row.placement.slot ≡ false = ne_eqb slot row.placement.slot (λ e. true≢false (sym (eq-eqb row.placement.slot slot (sym e)) ∙ other)) in
      shows x k ∙ sym (filled-next x k ∙ or_none _ _ (has_cell-other row.placement slot x k apart))

-- ---- a placement's mask

module _ (q : Placement) (old new : FilledCycles) (mask : ℕ) (bits : (k : ℕ) → is_bit_set mask k ≡ has_cycle q.cycles k) where
  one_marked : (b : Bool) (word k : ℕ) → is_bit_set (cond b (bit_or word mask) word) k ≡ (is_bit_set word k || (b && has_cycle q.cycles k))
  one_marked true word k = is_set-or word mask k ∙ ap (λ b. is_bit_set word k || b) (bits k)
  one_marked false word k = sym (or_none (is_bit_set word k) false refl)

  pub both_marked : new.a ≡ cond (has_channel q.channels channel.A) (bit_or old.a mask) old.a → new.b ≡ cond (has_channel q.channels channel.B) (bit_or old.b mask) old.b
      → (x : Channel) (k : ℕ) → is_bit_set (word_on x new) k ≡ (is_bit_set (word_on x old) k || (has_channel q.channels x && has_cycle q.cycles k))
  both_marked a b channel.A k = ap (λ w. is_bit_set w k) a ∙ one_marked (has_channel q.channels channel.A) old.a k
  both_marked a b channel.B k = ap (λ w. is_bit_set w k) b ∙ one_marked (has_channel q.channels channel.B) old.b k

-- ---- room for the words of one slot more

pub room-same : (olds news : List (ℕ × FilledCycles)) (slot : ℕ) → has_words olds slot ≡ false
    → ((s : ℕ) → lookup (is_at (nat_cmp s)) news ≡ cond (is_at (nat_cmp slot) s) (Some (record { a = 0; b = 0 })) (lookup (is_at (nat_cmp s)) olds)) → (s : ℕ) → words_at news s ≡ words_at olds s
room-same olds news slot none put s = ap at (put s) ∙ by_slot (cases_Bool (is_at (nat_cmp slot) s))
  where
    at : Option FilledCycles → FilledCycles
    at r = unwrap_or r (record { a = 0; b = 0 })

    by_slot : (is_at (nat_cmp slot) s ≡ true) ⊎ (is_at (nat_cmp slot) s ≡ false) → at (cond (is_at (nat_cmp slot) s) (Some (record { a = 0; b = 0 })) (lookup (is_at (nat_cmp s)) olds)) ≡ words_at olds s
    by_slot (inl here) =
        let e : slot ≡ s = nat_cmp-IsAntisymmetric slot s (equal _ here) in
        ap (λ b. at (cond b (Some (record { a = 0; b = 0 })) (lookup (is_at (nat_cmp s)) olds))) here ∙ sym (no_words_at olds s (subst (λ t. has_words olds t ≡ false) e none))
    by_slot (inr other) = ap (λ b. at (cond b (Some (record { a = 0; b = 0 })) (lookup (is_at (nat_cmp s)) olds))) other

-- words that are the same show the same
pub shown-as : (ps : List (Name × Placement)) (olds news : List (ℕ × FilledCycles)) → ((s : ℕ) → words_at news s ≡ words_at olds s) → ShowFilled ps olds → ShowFilled ps news
shown-as ps olds news same shows slot x k = ap (λ f. is_bit_set (word_on x f) k) (same slot) ∙ shows slot x k
