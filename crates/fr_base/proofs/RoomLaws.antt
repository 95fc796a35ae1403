-- The room for a frame: over all rows it is that over the supplier's own, and it has the placements that Place accepts.
use Rattle.std.proofs.Common.{◌≡◌, ◌⊎◌, ◌≤◌, ◌<◌, ◌+◌, ℕ, zero, suc, Bool, true, false, not, cond, List, [], ◌∷◌, ◌++◌, map, filter, Option, Some, None, Result, Ok, Err, IfOk, IsTrue, refl, sym, ap, subst, ◌∙◌, inl, inr, arith}
use Rattle.std.specs.Prelude.{◌&&◌, ◌||◌, nat_le, nat_lt, is_none}
use Rattle.std.specs.Ordering.{is_eq}
use Rattle.std.specs.declared.cmp.Ordering.TheVariants.{Less, Equal, Greater}
use Rattle.std.specs.declared.cmp.Ordering.{Ordering}
use Rattle.std.specs.Cmp.{tied_itself}
use Rattle.std.specs.List.{flat_map, list_all, list_any, range_with_len}
use Rattle.std.proofs.lemmas.Bool.{and_from, cases_Bool, cases_lt}
use Rattle.std.proofs.lemmas.Bool.Decides.{nat_tests}
use Rattle.std.proofs.lemmas.List.Elements.{filter_agree}
use Rattle.fr_base.specs.Refusing.{◌>>=◌, ◌>>◌, ◌or◌, refuse◌when◌}
use Rattle.fr_base.specs.declared.limits.TheConstants.{MAX_PLACEMENTS}
use Rattle.fr_base.specs.Tables.{get, contains, len}
use Rattle.fr_base.specs.Keys.{placement_order}
use Rattle.fr_base.specs.Cells.{Cell, cells_of, slots_of}
use Rattle.fr_base.specs.Channels.{channels_in, has_channel}
use Rattle.fr_base.specs.Changes.{in_rows}
use Rattle.fr_base.specs.Checks.{check}
use Rattle.fr_base.specs.Cycles.{is_cycle_count, is_repetition}
use Rattle.fr_base.specs.Parameters.{check_params}
use Rattle.fr_base.proofs.ParametersLaws.{counted_cycles}
use Rattle.fr_base.specs.Cluster.{Cluster}
use Rattle.fr_base.specs.Schedule.{first_taken}
use Rattle.fr_base.specs.Book.{Frame, Variant, Book, Sender, own, own_grants, granted}
use Rattle.fr_base.specs.Step.{OwnRows, Shared, own_rows, shared_by, with_variant, cell_taken, admits_frame, admits, changed, change_rows, done, perform, act, outcome, knows, step}
use Rattle.fr_base.specs.Room.{channels_within, placed, places_on, places_in, places_with, is_vacant, room, room_in, has_place}
use Rattle.fr_base.specs.Sound.{FitsCluster, IsSound}
use Rattle.fr_base.specs.Alone.{own_variant, rows_of, is_done}
use Rattle.fr_base.specs.declared.channel.Channels.{Channels}
use Rattle.fr_base.specs.declared.channel.Channels.TheVariants as channels
use Rattle.fr_base.specs.declared.name.Name.{Name}
use Rattle.fr_base.specs.declared.params.Params.{Params}
use Rattle.fr_base.specs.declared.placement.Placement.{Placement}
use Rattle.fr_base.specs.declared.answer.Answer.TheVariants.{Refused}
use Rattle.fr_base.specs.declared.refusal.Refusal.{Refusal}
use Rattle.fr_base.specs.declared.refusal.Refusal.TheVariants.{NoVariant, Released, NoSupplier, NoFrame, NotGranted, Limit}
use Rattle.fr_base.specs.declared.actor.Actor.TheVariants.{Supplier}
use Rattle.fr_base.specs.declared.request.Request.{Request}
use Rattle.fr_base.specs.declared.request.Command.TheVariants.{Rows}
use Rattle.fr_base.specs.declared.request.Change.TheVariants as change
use Rattle.fr_base.specs.declared.request.FrameChange.TheVariants.{Place}
use Rattle.fr_base.specs.declared.request.Checked.TheVariants as checked
use Rattle.fr_base.proofs.AloneRefusing.{alike_or, alike_when}
use Rattle.fr_base.proofs.AloneCells.{first_taken-own}
use Rattle.fr_base.proofs.AloneRows.{rows_of-variant, own_rows-own}
use Rattle.fr_base.proofs.AloneChanges.{own-granted, both_or}
use Rattle.fr_base.proofs.SoundChecks.{IsFormed, check-form}

-- where a frame may be placed, and whether a placement is vacant, by what a change is judged by
abbrev vacant_by : OwnRows → Shared → Name → Placement → Bool
vacant_by rows shared n q = is_vacant rows.grants shared.filled rows.supplier n q

abbrev room_by : OwnRows → Shared → Name → ℕ → Result (List Placement) Refusal
room_by rows shared f r = room rows.params rows.grants rows.frames shared.filled rows.supplier f r

-- ---- over all rows, and over the supplier's own

and_same : (t u v : Bool) → (t ≡ true → u ≡ v) → t && u ≡ t && v
and_same true u v k = k refl
and_same false u v k = refl

module _ (c : Cluster) (b : Book) (sound : IsSound c b) (s v : Name) (x : Variant) (found : get b.variants v ≡ Some x) where
  vacant-own : (n : Name) (q : Placement) →
      vacant_by (own_rows c.params b s x) (shared_by (own_grants s x.grants) (own s x.frames)) n q ≡ vacant_by (own_rows c.params b s x) (shared_by x.grants x.frames) n q
  unfolding is_vacant own_rows shared_by
  vacant-own n q = and_same (granted (own_grants s x.grants) s n q) _ _ (λ holds.
      ap is_none (sym (first_taken-own c.params b.nodes x (sound.variants v x found).1 s n q (own-granted x.grants s s n q holds))))

  room-own : (f : Name) (r : ℕ) →
      room_by (own_rows c.params b s x) (shared_by (own_grants s x.grants) (own s x.frames)) f r ≡ room_by (own_rows c.params b s x) (shared_by x.grants x.frames) f r
  unfolding room
  room-own f r =
      both_or (get (own_rows c.params b s x).frames ((own_rows c.params b s x).supplier, f)) NoFrame _ _ (λ frame.
      ap (λ places. (refuse Limit when nat_le MAX_PLACEMENTS (len frame.placements)) >> Ok places)
      (filter_agree _ _ (vacant-own frame.node) (places_with (own_rows c.params b s x).params r)))

  -- so it is judged by the supplier's own rows
  pub room-page : (f : Name) (r : ℕ) →
      ((refuse Released when x.released) >> room_by (own_rows c.params b s x) (shared_by (own_grants s x.grants) (own s x.frames)) f r) ≡ room_in c.params b s v f r
  unfolding room_in own_rows shared_by ◌or◌ ◌>>=◌
  room-page f r = ap (λ places. (refuse Released when x.released) >> places) (room-own f r) ∙ rw found refl

pub room-alone : (c : Cluster) (b : Book) (s v f : Name) (r : ℕ) → IsSound c b → room_in c.params (rows_of s b) s v f r ≡ room_in c.params b s v f r
unfolding room_in own_variant own_rows shared_by
room-alone c b s v f r sound = sym (
    alike_or (λ one alone. one ≡ alone) (λ e. refl) (own_variant s) (get b.variants v) _ (rows_of-variant s b v) NoVariant _ _ (λ x found.
    alike_when (λ one alone. one ≡ alone) (λ e. refl) Released x.released x.released refl _ _ (λ _.
    sym (room-own c b sound s v x found f r)
    ∙ ap (λ rows. room_by rows (shared_by (own_grants s x.grants) (own s x.frames)) f r) (sym (own_rows-own s c.params b x)))))

-- ---- the cluster's placements are all listed

any-append : {X : Type 0} (t : X → Bool) (xs ys : List X) → list_any t (xs ++ ys) ≡ list_any t xs || list_any t ys
any-append t [] ys = refl
any-append t (x ∷ xs) ys = elim (t x) as (λ h. h || list_any t (xs ++ ys) ≡ (h || list_any t xs) || list_any t ys) [
  | true ↦ refl
  | false ↦ any-append t xs ys
]

any-flat : {X Y : Type 0} (t : Y → Bool) (g : X → List Y) (xs : List X) → list_any t (flat_map g xs) ≡ list_any (λ x. list_any t (g x)) xs
any-flat t g [] = refl
any-flat t g (x ∷ xs) = any-append t (g x) (flat_map g xs) ∙ ap (λ rest. list_any t (g x) || rest) (any-flat t g xs)

any-map : {X Y : Type 0} (t : Y → Bool) (g : X → Y) (xs : List X) → list_any t (map g xs) ≡ list_any (λ x. t (g x)) xs
any-map t g [] = refl
any-map t g (x ∷ xs) = ap (λ rest. t (g x) || rest) (any-map t g xs)

or_now : (t u : Bool) → t ≡ true → t || u ≡ true
or_now true u h = refl
or_now false u h = cc

or_later : (t u : Bool) → u ≡ true → t || u ≡ true
or_later true u h = refl
or_later false u h = h

any-range : (t : ℕ → Bool) (a n k : ℕ) → a ≤ k → k < a + n → t k ≡ true → list_any t (range_with_len a n) ≡ true
any-range t a zero k low high h = absurd (omega (arith, low, high))
any-range t a (suc n) k low high h = elim (cases_lt a k) [
  | inl later ↦ or_later (t a) _ (any-range t (a + 1) n k (omega (arith, later)) (omega (arith, high)) h)
  | inr first ↦ let same : k ≡ a = omega (arith, low, first) in or_now (t a) _ (ap t (sym same) ∙ h)
]

any-within : (t : Channels → Bool) (all cs : Channels) → IsTrue (list_all (has_channel all) (channels_in cs)) → t cs ≡ true → list_any t (channels_within all) ≡ true
any-within t channels.A channels.A has h = or_now _ _ h
any-within t channels.A channels.AB has h = cc
any-within t channels.A channels.B has h = cc
any-within t channels.AB channels.A has h = or_now _ _ h
any-within t channels.AB channels.AB has h = or_later _ _ (or_now _ _ h)
any-within t channels.AB channels.B has h = or_later _ _ (or_later _ _ (or_now _ _ h))
any-within t channels.B channels.A has h = cc
any-within t channels.B channels.AB has h = cc
any-within t channels.B channels.B has h = or_now _ _ h

abbrev is_it : Placement → Placement → Bool
is_it q place = is_eq (placement_order.compare q place)

same-it : (q : Placement) → is_it q q ≡ true
same-it q = ap is_eq (tied_itself placement_order.total q)

eq-is : (r : Ordering) → is_eq r ≡ true → r ≡ Equal
eq-is Less h = cc
eq-is Equal h = refl
eq-is Greater h = cc

base-below : (p : Params) (q : Placement) → FitsCluster p q → q.cycles.base < q.cycles.repetition
base-below p q fits = grind (fits.cycles, arith)

pub places-all : (p : Params) (q : Placement) → FitsCluster p q → list_any (is_it q) (places_with p q.cycles.repetition) ≡ true
unfolding places_with places_in places_on
places-all p q fits =
    let r = q.cycles.repetition in
    let here : placed p r q.slot q.channels q.cycles.base ≡ q = λ i. record q { cycles = record q.cycles { count = sym fits.count i } } in
    any-flat (is_it q) (places_in p r) (slots_of p)
    ∙ any-range _ 1 p.static_slots q.slot fits.from_one (omega (arith, fits.to_last))
    (any-flat (is_it q) (places_on p r q.slot) (channels_within p.channels)
    ∙ any-within _ p.channels q.channels fits.channels
    (any-map (is_it q) (placed p r q.slot q.channels) (range_with_len 0 r)
    ∙ any-range _ 0 r q.cycles.base (omega arith) (omega (arith, base-below p q fits)) (ap (is_it q) here ∙ same-it q)))

-- ---- and nothing else is

or_which : (t u : Bool) → t || u ≡ true → (t ≡ true) ⊎ (u ≡ true)
or_which true u h = inl refl
or_which false u h = inr h

and_first : (t u : Bool) → t && u ≡ true → u ≡ true
and_first true u h = h
and_first false u h = cc

-- what is listed passes a test that all of these pass
which : {X : Type 0} (P : Type 0) (t : X → Bool) (xs : List X) → ((x : X) → t x ≡ true → P) → list_any t xs ≡ true → P
which P t [] each h = cc
which P t (x ∷ xs) each h = elim (or_which (t x) (list_any t xs) h) [
  | inl here ↦ each x here
  | inr later ↦ which P t xs each later
]

which-number : (P : Type 0) (t : ℕ → Bool) (a n : ℕ) → ((k : ℕ) → a ≤ k → k < a + n → t k ≡ true → P) → list_any t (range_with_len a n) ≡ true → P
which-number P t a zero each h = cc
which-number P t a (suc n) each h = elim (or_which (t a) (list_any t (range_with_len (a + 1) n)) h) [
  | inl here ↦ each a (omega arith) (omega arith) here
  | inr later ↦ which-number P t (a + 1) n (λ k low high. each k (omega (arith, low)) (omega (arith, high))) later
]

which-channels : (P : Type 0) (t : Channels → Bool) (all : Channels) → ((cs : Channels) → IsTrue (list_all (has_channel all) (channels_in cs)) → t cs ≡ true → P) → list_any t (channels_within all) ≡ true → P
which-channels P t channels.A each h = elim (or_which (t channels.A) false h) [
  | inl a ↦ each channels.A refl a
  | inr none ↦ cc
]
which-channels P t channels.AB each h = elim (or_which (t channels.A) (t channels.AB || (t channels.B || false)) h) [
  | inl a ↦ each channels.A refl a
  | inr rest ↦ elim (or_which (t channels.AB) (t channels.B || false) rest) [
    | inl ab ↦ each channels.AB refl ab
    | inr last ↦ elim (or_which (t channels.B) false last) [
      | inl b ↦ each channels.B refl b
      | inr none ↦ cc
    ]
  ]
]
which-channels P t channels.B each h = elim (or_which (t channels.B) false h) [
  | inl b ↦ each channels.B refl b
  | inr none ↦ cc
]

module _ (p : Params) (r : ℕ) (well : check_params p ≡ Ok p) (divides : IsTrue (is_repetition p.cycles r)) (q : Placement) where
  abbrev Fits : Type 0
  Fits = FitsCluster p q × (q.cycles.repetition ≡ r)

  fits-here : (slot base : ℕ) (cs : Channels) → 1 ≤ slot → slot < 1 + p.static_slots → IsTrue (list_all (has_channel p.channels) (channels_in cs)) → base < r → is_it q (placed p r slot cs base) ≡ true → Fits
  fits-here slot base cs low high has below it =
      let same : q ≡ placed p r slot cs base = placement_order.exact q _ (eq-is _ it) in
      let fits : FitsCluster p (placed p r slot cs base) = record {
        from_one = low;
        to_last = omega (arith, high);
        channels = has;
        count = refl;
        cycles = and_from (is_cycle_count p.cycles) _ (counted_cycles p well) (and_from (is_repetition p.cycles r) (nat_lt base r) divides (grind (arith, nat_tests, below)));
      } in
      (subst (FitsCluster p) (sym same) fits, ap (λ q. q.cycles.repetition) same)

  fits-on : (slot : ℕ) (cs : Channels) → 1 ≤ slot → slot < 1 + p.static_slots → IsTrue (list_all (has_channel p.channels) (channels_in cs)) → list_any (is_it q) (places_on p r slot cs) ≡ true → Fits
  unfolding places_on
  fits-on slot cs low high has h =
      which-number Fits (λ base. is_it q (placed p r slot cs base)) 0 r (λ base _ below it. fits-here slot base cs low high has (omega (arith, below)) it)
      (sym (any-map (is_it q) (placed p r slot cs) (range_with_len 0 r)) ∙ h)

  fits-in : (slot : ℕ) → 1 ≤ slot → slot < 1 + p.static_slots → list_any (is_it q) (places_in p r slot) ≡ true → Fits
  unfolding places_in
  fits-in slot low high h =
      which-channels Fits (λ cs. list_any (is_it q) (places_on p r slot cs)) p.channels (λ cs has on. fits-on slot cs low high has on)
      (sym (any-flat (is_it q) (places_on p r slot) (channels_within p.channels)) ∙ h)

  pub fits-with : list_any (is_it q) (places_with p r) ≡ true → Fits
  unfolding places_with
  fits-with h =
      which-number Fits (λ slot. list_any (is_it q) (places_in p r slot)) 1 p.static_slots (λ slot low high in_slot. fits-in slot low high in_slot)
      (sym (any-flat (is_it q) (places_in p r) (slots_of p)) ∙ h)

-- what passes a test is listed where it passes
any-filter : (q : Placement) (t : Placement → Bool) (xs : List Placement) → list_any (is_it q) (filter t xs) ≡ t q && list_any (is_it q) xs
any-filter q t [] = by (t q)
  where
    by : (h : Bool) → false ≡ h && false
    by true = refl
    by false = refl
any-filter q t (x ∷ xs) = elim (cases_Bool (is_it q x)) [
  | inl it ↦
      let same : q ≡ x = placement_order.exact q x (eq-is _ it) in
      here (t x) (t q) (list_any (is_it q) xs) (ap t same) it (any-filter q t xs)
  | inr other ↦ there (t x) (t q) other (any-filter q t xs)
]
  where
    here : (h g rest : Bool) → g ≡ h → is_it q x ≡ true → list_any (is_it q) (filter t xs) ≡ g && rest → list_any (is_it q) (cond h (x ∷ filter t xs) (filter t xs)) ≡ g && (is_it q x || rest)
    here true true rest e it k = or_now _ _ it ∙ sym (or_now _ rest it)
    here false false rest e it k = k
    here true false rest e it k = cc
    here false true rest e it k = cc

    there : (h g : Bool) → is_it q x ≡ false → list_any (is_it q) (filter t xs) ≡ g && list_any (is_it q) xs → list_any (is_it q) (cond h (x ∷ filter t xs) (filter t xs)) ≡ g && (is_it q x || list_any (is_it q) xs)
    there true g other k = ap (λ b. b || list_any (is_it q) (filter t xs)) other ∙ k ∙ ap (λ b. g && (b || list_any (is_it q) xs)) (sym other)
    there false g other k = k ∙ ap (λ b. g && (b || list_any (is_it q) xs)) (sym other)

-- ---- a Place

-- whether something was given
abbrev given : {A : Type 0} → Result A Refusal → Bool
given (Ok x) = true
given (Err e) = false

module _ (b : Book) where
  given-done : (r : Result Book Refusal) → is_done (outcome b (done r)).answer ≡ given r
  unfolding outcome done ◌>>=◌
  given-done (Ok x) = refl
  given-done (Err e) = refl

  refused-done : (r : Result Book Refusal) (e : Refusal) → r ≡ Err e → (outcome b (done r)).answer ≡ Refused e
  unfolding outcome done ◌>>=◌
  refused-done (Ok x) e h = cc
  refused-done (Err d) e h = ap (λ (r : Result Book Refusal). (outcome b (done r)).answer) h

module _ (c : Cluster) (b : Book) (s v f : Name) (q : Placement) (known : IsTrue (knows b (Supplier s))) where
  stepped : (request : Request) → check c.params (Supplier s) request ≡ Ok (checked.Command (Rows (in_rows s v (change.Frame f (Place q))))) →
      step c b (Supplier s) request ≡ outcome b (done (change_rows c.params b s v (change.Frame f (Place q))))
  unfolding step act perform ◌>>=◌ ◌>>◌ refuse◌when◌
  stepped request valid = rw (known, valid) refl

  module _ (x : Variant) where
    abbrev rows : OwnRows
    rows = own_rows c.params b s x

    abbrev shared : Shared
    shared = shared_by x.grants x.frames

    -- the lines of a Place from the frame on, and the room for it
    abbrev lines : Option Frame → Book → Result Book Refusal
    lines there d = ((there or NoFrame) >>= λ frame. (refuse NotGranted when not (granted rows.grants rows.supplier frame.node q)) >> ((refuse Limit when nat_le MAX_PLACEMENTS (len frame.placements)) >> cell_taken (first_taken shared.filled (cells_of q)))) >> Ok d

    abbrev listed : Option Frame → Result (List Placement) Refusal
    listed there = (there or NoFrame) >>= λ frame. (refuse Limit when nat_le MAX_PLACEMENTS (len frame.placements)) >> Ok (filter (vacant_by rows shared frame.node) (places_with rows.params q.cycles.repetition))

    by_tests : (d : Book) (holds full : Bool) (taken : Option (Cell × Sender)) (places : List Placement) → list_any (is_it q) places ≡ holds && is_none taken →
        given (((refuse NotGranted when not holds) >> ((refuse Limit when full) >> cell_taken taken)) >> Ok d) ≡ has_place q ((refuse Limit when full) >> Ok places)
    unfolding ◌>>◌ refuse◌when◌ cell_taken
    by_tests d true true taken places e = refl
    by_tests d false true taken places e = refl
    by_tests d false false taken places e = sym e
    by_tests d true false None places e = sym e
    by_tests d true false (Some o) places e = sym e

    and_true : (t u : Bool) → u ≡ true → t && u ≡ t
    and_true true u h = h
    and_true false u h = refl

    vacant : FitsCluster c.params q → (n : Name) → list_any (is_it q) (filter (vacant_by rows shared n) (places_with rows.params q.cycles.repetition)) ≡ granted rows.grants rows.supplier n q && is_none (first_taken shared.filled (cells_of q))
    unfolding is_vacant own_rows
    vacant fits n = any-filter q (vacant_by rows shared n) (places_with rows.params q.cycles.repetition) ∙ and_true _ _ (places-all c.params q fits)

    by_frame : FitsCluster c.params q → (d : Book) (there : Option Frame) → given (lines there d) ≡ has_place q (listed there)
    unfolding ◌or◌ ◌>>=◌ ◌>>◌
    by_frame fits d None = refl
    by_frame fits d (Some frame) = by_tests d (granted rows.grants rows.supplier frame.node q) (nat_le MAX_PLACEMENTS (len frame.placements)) (first_taken shared.filled (cells_of q)) _ (vacant fits frame.node)

    refused_frame : (d : Book) (there : Option Frame) (e : Refusal) → listed there ≡ Err e → (e ≡ Limit) ⊎ (lines there d ≡ Err e)
    unfolding ◌or◌ ◌>>=◌ ◌>>◌ refuse◌when◌
    refused_frame d None e h = inr (ap Err cc)
    refused_frame d (Some frame) e h = by_limit (nat_le MAX_PLACEMENTS (len frame.placements)) h
      where
        by_limit : (full : Bool) → ((refuse Limit when full) >> Ok (filter (vacant_by rows shared frame.node) (places_with rows.params q.cycles.repetition))) ≡ Err e → (e ≡ Limit) ⊎ (lines (Some frame) d ≡ Err e)
        by_limit true h = inl cc
        by_limit false h = cc

  -- the lines of a Place, and those of the room for it, by the variant that is there
  placed-lines : FitsCluster c.params q → given (change_rows c.params b s v (change.Frame f (Place q))) ≡ has_place q (room_in c.params b s v f q.cycles.repetition)
  unfolding change_rows room_in room own_rows shared_by admits admits_frame ◌or◌ ◌>>=◌ ◌>>◌ refuse◌when◌
  placed-lines fits = by_variant (get b.variants v)
    where
      by_open : (x : Variant) (d : Book) (released : Bool) →
          given ((refuse Released when released) >> ((refuse NoSupplier when not (contains b.suppliers s)) >> lines x (get (rows x).frames ((rows x).supplier, f)) d))
          ≡ has_place q ((refuse Released when released) >> listed x (get (rows x).frames ((rows x).supplier, f)))
      by_open x d true = refl
      by_open x d false = rw known (by_frame x fits d (get (rows x).frames ((rows x).supplier, f)))

      by_variant : (o : Option Variant) →
          given ((o or NoVariant) >>= λ x. (refuse Released when x.released) >> ((refuse NoSupplier when not (contains b.suppliers s)) >> lines x (get (rows x).frames ((rows x).supplier, f)) (with_variant b v (changed s (change.Frame f (Place q)) x))))
          ≡ has_place q ((o or NoVariant) >>= λ x. (refuse Released when x.released) >> listed x (get (rows x).frames ((rows x).supplier, f)))
      by_variant None = refl
      by_variant (Some x) = by_open x _ x.released

  refused-lines : (e : Refusal) → room_in c.params b s v f q.cycles.repetition ≡ Err e → (e ≡ Limit) ⊎ (change_rows c.params b s v (change.Frame f (Place q)) ≡ Err e)
  unfolding change_rows room_in room own_rows shared_by admits admits_frame ◌or◌ ◌>>=◌ ◌>>◌ refuse◌when◌
  refused-lines e = by_variant (get b.variants v)
    where
      by_open : (x : Variant) (d : Book) (released : Bool) →
          ((refuse Released when released) >> listed x (get (rows x).frames ((rows x).supplier, f))) ≡ Err e →
          (e ≡ Limit) ⊎ (((refuse Released when released) >> ((refuse NoSupplier when not (contains b.suppliers s)) >> lines x (get (rows x).frames ((rows x).supplier, f)) d)) ≡ Err e)
      by_open x d true h = inr (ap Err cc)
      by_open x d false h = rw known (refused_frame x d (get (rows x).frames ((rows x).supplier, f)) e h)

      by_variant : (o : Option Variant) →
          ((o or NoVariant) >>= λ x. (refuse Released when x.released) >> listed x (get (rows x).frames ((rows x).supplier, f))) ≡ Err e →
          (e ≡ Limit) ⊎ (((o or NoVariant) >>= λ x. (refuse Released when x.released) >> ((refuse NoSupplier when not (contains b.suppliers s)) >> lines x (get (rows x).frames ((rows x).supplier, f)) (with_variant b v (changed s (change.Frame f (Place q)) x)))) ≡ Err e)
      by_variant None h = inr (ap Err cc)
      by_variant (Some x) h = by_open x _ x.released h

fits-checked : (c : Cluster) (s v f : Name) (q : Placement) (request : Request) → check c.params (Supplier s) request ≡ Ok (checked.Command (Rows (in_rows s v (change.Frame f (Place q))))) → FitsCluster c.params q
fits-checked c s v f q request valid = subst (λ r. IfOk r (IsFormed c.params (Supplier s))) valid (check-form c.params (Supplier s) request)

pub room-place : (c : Cluster) (b : Book) (s v f : Name) (q : Placement) (request : Request) → IsTrue (knows b (Supplier s)) →
    check c.params (Supplier s) request ≡ Ok (checked.Command (Rows (in_rows s v (change.Frame f (Place q))))) →
    is_done (step c b (Supplier s) request).answer ≡ has_place q (room_in c.params b s v f q.cycles.repetition)
room-place c b s v f q request known valid =
    ap (λ o. is_done o.answer) (stepped c b s v f q known request valid)
    ∙ given-done b (change_rows c.params b s v (change.Frame f (Place q)))
    ∙ placed-lines c b s v f q known (fits-checked c s v f q request valid)

pub room-refused : (c : Cluster) (b : Book) (s v f : Name) (q : Placement) (request : Request) (e : Refusal) → IsTrue (knows b (Supplier s)) →
    check c.params (Supplier s) request ≡ Ok (checked.Command (Rows (in_rows s v (change.Frame f (Place q))))) →
    room_in c.params b s v f q.cycles.repetition ≡ Err e → (e ≡ Limit) ⊎ ((step c b (Supplier s) request).answer ≡ Refused e)
room-refused c b s v f q request e known valid h = elim (refused-lines c b s v f q known e h) [
  | inl full ↦ inl full
  | inr refused ↦ inr (ap (λ o. o.answer) (stepped c b s v f q known request valid) ∙ refused-done b _ e refused)
]

-- what is listed is a placement of the cluster with the repetition
pub room-fits : (c : Cluster) (b : Book) (s v f : Name) (r : ℕ) (q : Placement) → IsSound c b → IsTrue (is_repetition c.params.cycles r) → has_place q (room_in c.params b s v f r) ≡ true → FitsCluster c.params q × (q.cycles.repetition ≡ r)
unfolding room_in room ◌or◌ ◌>>=◌ ◌>>◌ refuse◌when◌ own_rows shared_by
room-fits c b s v f r q sound divides = by_variant (get b.variants v)
  where
    P : Type 0
    P = FitsCluster c.params q × (q.cycles.repetition ≡ r)

    listed : (t : Placement → Bool) → list_any (is_it q) (filter t (places_with c.params r)) ≡ true → P
    listed t h = fits-with c.params r sound.cluster.params divides q (and_first (t q) (list_any (is_it q) (places_with c.params r)) (sym (any-filter q t (places_with c.params r)) ∙ h))

    by_limit : (full : Bool) (t : Placement → Bool) → has_place q ((refuse Limit when full) >> Ok (filter t (places_with c.params r))) ≡ true → P
    by_limit true t h = cc
    by_limit false t h = listed t h

    by_frame : (x : Variant) (there : Option Frame) → has_place q ((there or NoFrame) >>= λ frame. (refuse Limit when nat_le MAX_PLACEMENTS (len frame.placements)) >> Ok (filter (vacant_by (own_rows c.params b s x) (shared_by x.grants x.frames) frame.node) (places_with c.params r))) ≡ true → P
    by_frame x None h = cc
    by_frame x (Some frame) h = by_limit (nat_le MAX_PLACEMENTS (len frame.placements)) (vacant_by (own_rows c.params b s x) (shared_by x.grants x.frames) frame.node) h

    by_open : (x : Variant) (released : Bool) → has_place q ((refuse Released when released) >> room_by (own_rows c.params b s x) (shared_by x.grants x.frames) f r) ≡ true → P
    by_open x true h = cc
    by_open x false h = by_frame x (get (own_rows c.params b s x).frames ((own_rows c.params b s x).supplier, f)) h

    by_variant : (o : Option Variant) → has_place q ((o or NoVariant) >>= λ x. (refuse Released when x.released) >> room_by (own_rows c.params b s x) (shared_by x.grants x.frames) f r) ≡ true → P
    by_variant None h = cc
    by_variant (Some x) h = by_open x x.released h
