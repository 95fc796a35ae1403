-- The room that a supplier is told is in the order of placements.
use Rattle.std.proofs.Common.{◌≡◌, ℕ, zero, suc, ◌+◌, ◌<◌, All, AllPairs, Bool, List, [], ◌∷◌, ◌++◌, Result, Ok, Err, IfOk, Less, Equal, refl, sym, ap, subst, ◌∙◌, inl, inr, arith}
use Rattle.std.specs.Cmp.{nat_cmp_is}
use Rattle.std.specs.Ordering.{nat_cmp}
use Rattle.std.specs.List.{flat_map, range_with_len}
use Rattle.std.proofs.lemmas.List.Concat.{flat_map_single}
use Rattle.std.proofs.lemmas.List.Elements.{All-nil, All-cons, All-append, All-head, All-map, All-tail, All-weaker}
use Rattle.std.proofs.lemmas.List.Kept.{AllPairs-cons, AllPairs-filter}
use Rattle.fr_base.specs.Tables.{get}
use Rattle.fr_base.specs.Keys.{numbers, channels_order, placement_order}
use Rattle.fr_base.specs.Channels.{channels_number}
use Rattle.fr_base.specs.Book.{Book, own}
use Rattle.fr_base.specs.Room.{channels_within, placed, places_on, places_in, places_with, room, room_in}
use Rattle.fr_base.specs.RoomLaws.{room_told, IsBefore, ToldRoomIsInOrder}
use Rattle.fr_base.specs.Step.{Outcome}
use Rattle.fr_base.specs.declared.channel.Channels.{Channels}
use Rattle.fr_base.specs.declared.channel.Channels.TheVariants as channels
use Rattle.fr_base.specs.declared.name.Name.{Name}
use Rattle.fr_base.specs.declared.params.Params.{Params}
use Rattle.fr_base.specs.declared.placement.Placement.{Placement}
use Rattle.fr_base.specs.declared.answer.Answer.TheVariants.{Report, Refused}
use Rattle.fr_base.specs.declared.answer.ReportRows.TheVariants as rows
use Rattle.fr_base.specs.declared.refusal.Refusal.{Refusal}
use Rattle.fr_base.proofs.LayoutLaws.{AllPairs-head, AllPairs-tail}
use Rattle.fr_base.proofs.RoomSteps.{room-asked, told}
use Rattle.fr_base.proofs.SoundRefusing.{gives_or, gives_when}

-- ---- lists of lists

module _ {X : Type 0} (R : X → X → Type 0) where
  pairs-nil : AllPairs R []
  pairs-nil i j d low high = absurd (omega arith)

  -- each of the one list comes before each of the other
  abbrev AreAcross : List X → List X → Type 0
  AreAcross xs ys = All (λ x. All (R x) ys) xs

  pairs-append : (xs ys : List X) → AllPairs R xs → AllPairs R ys → AreAcross xs ys → AllPairs R (xs ++ ys)
  pairs-append [] ys mine its across = its
  pairs-append (x ∷ xs) ys mine its across =
      AllPairs-cons R x (xs ++ ys)
      (All-append (R x) xs ys (AllPairs-head R x xs mine) (All-head (λ x. All (R x) ys) x xs across))
      (pairs-append xs ys (AllPairs-tail R x xs mine) its (All-tail (λ x. All (R x) ys) x xs across))

  across-by : (P Q : X → Type 0) (xs ys : List X) → ((x y : X) → P x → Q y → R x y) → All P xs → All Q ys → AreAcross xs ys
  across-by P Q xs ys before mine its =
      All-weaker P (λ x. All (R x) ys) (λ x p. All-weaker Q (R x) (λ y q. before x y p q) ys its) xs mine

  module _ (g : ℕ → List X) (apart : (j k : ℕ) → j < k → AreAcross (g j) (g k)) where
    across-range : (j a n : ℕ) → j < a → AreAcross (g j) (flat_map g (range_with_len a n))
    across-range j a zero below = λ k d inside. All-nil (R _)
    across-range j a (suc n) below =
        let more = across-range j (a + 1) n (omega (arith, below)) in
        λ k d inside. All-append (R _) (g a) (flat_map g (range_with_len (a + 1) n)) (apart j a below k d inside) (more k d inside)

    -- lists by a number, in the order of the numbers
    pairs-range : ((k : ℕ) → AllPairs R (g k)) → (a n : ℕ) → AllPairs R (flat_map g (range_with_len a n))
    pairs-range within a zero = pairs-nil
    pairs-range within a (suc n) =
        pairs-append (g a) (flat_map g (range_with_len (a + 1) n)) (within a) (pairs-range within (a + 1) n)
        (across-range a (a + 1) n (omega arith))

-- ---- placements

nat-less : (m n : ℕ) → m < n → nat_cmp m n ≡ Less
nat-less m n h = sym (nat_cmp_is m n Less h)

nat-equal : (m n : ℕ) → m ≡ n → nat_cmp m n ≡ Equal
nat-equal m n e = sym (nat_cmp_is m n Equal e)

before-slot : (q r : Placement) → q.slot < r.slot → IsBefore q r
unfolding placement_order numbers channels_order
before-slot q r h = rw (nat-less q.slot r.slot h) refl

before-channels : (q r : Placement) → q.slot ≡ r.slot → channels_number q.channels < channels_number r.channels → IsBefore q r
unfolding placement_order numbers channels_order
before-channels q r e h =
    rw (nat-equal q.slot r.slot e, nat-less (channels_number q.channels) (channels_number r.channels) h) refl

before-base : (q r : Placement) → q.slot ≡ r.slot → q.channels ≡ r.channels → q.cycles.base < r.cycles.base → IsBefore q r
unfolding placement_order numbers channels_order
before-base q r e f h =
    rw (
      nat-equal q.slot r.slot e,
      nat-equal (channels_number q.channels) (channels_number r.channels) (ap channels_number f),
      nat-less q.cycles.base r.cycles.base h,
    ) refl

module _ (p : Params) (r : ℕ) where
  abbrev IsOn : ℕ → Channels → Placement → Type 0
  IsOn slot cs q = (q.slot ≡ slot) × (q.channels ≡ cs)

  all-on : (slot : ℕ) (cs : Channels) → All (IsOn slot cs) (places_on p r slot cs)
  unfolding places_on
  all-on slot cs = All-map (IsOn slot cs) (placed p r slot cs) (range_with_len 0 r) (λ k d inside. (refl, refl))

  pairs-on : (slot : ℕ) (cs : Channels) → AllPairs IsBefore (places_on p r slot cs)
  unfolding places_on
  pairs-on slot cs =
      subst (AllPairs IsBefore) (flat_map_single (placed p r slot cs) (range_with_len 0 r))
      (pairs-range IsBefore one
      (λ j k below.
      All-cons (λ x. All (IsBefore x) (one k)) (place j) []
      (All-cons (IsBefore (place j)) (place k) [] (before-base (place j) (place k) refl refl below) (All-nil _)) (All-nil _))
      (λ k. AllPairs-cons IsBefore (place k) [] (All-nil _) (pairs-nil IsBefore)) 0 r)
    where
      place : ℕ → Placement
      place base = placed p r slot cs base

      one : ℕ → List Placement
      one base = placed p r slot cs base ∷ []

  across-channels : (slot : ℕ) (cs ds : Channels) → channels_number cs < channels_number ds →
      AreAcross IsBefore (places_on p r slot cs) (places_on p r slot ds)
  across-channels slot cs ds below =
      across-by IsBefore (IsOn slot cs) (IsOn slot ds) (places_on p r slot cs) (places_on p r slot ds)
      (λ x y on its. before-channels x y (on.0 ∙ sym its.0) (rw (on.1, its.1) below))
      (all-on slot cs) (all-on slot ds)

  -- those on some channels, and no others
  pairs-last : (slot : ℕ) (cs : Channels) → AllPairs IsBefore (places_on p r slot cs ++ [])
  pairs-last slot cs = pairs-append IsBefore (places_on p r slot cs) [] (pairs-on slot cs) (pairs-nil IsBefore) (λ k d inside. All-nil _)

  across-last : (slot : ℕ) (cs ds : Channels) → channels_number cs < channels_number ds →
      AreAcross IsBefore (places_on p r slot cs) (places_on p r slot ds ++ [])
  across-last slot cs ds below =
      λ k d inside. All-append (IsBefore _) (places_on p r slot ds) [] (across-channels slot cs ds below k d inside) (All-nil _)

  pairs-within : (slot : ℕ) (all : Channels) → AllPairs IsBefore (flat_map (places_on p r slot) (channels_within all))
  pairs-within slot channels.A = pairs-last slot channels.A
  pairs-within slot channels.B = pairs-last slot channels.B
  pairs-within slot channels.AB =
      pairs-append IsBefore (places_on p r slot channels.A) (places_on p r slot channels.AB ++ (places_on p r slot channels.B ++ []))
      (pairs-on slot channels.A)
      (pairs-append IsBefore (places_on p r slot channels.AB) (places_on p r slot channels.B ++ []) (pairs-on slot channels.AB)
      (pairs-last slot channels.B) (across-last slot channels.AB channels.B (omega arith)))
      (λ k d inside. All-append (IsBefore _) (places_on p r slot channels.AB) (places_on p r slot channels.B ++ [])
      (across-channels slot channels.A channels.AB (omega arith) k d inside)
      (across-last slot channels.A channels.B (omega arith) k d inside))

  abbrev IsIn : ℕ → Placement → Type 0
  IsIn slot q = q.slot ≡ slot

  all-within : (slot : ℕ) (list : List Channels) → All (IsIn slot) (flat_map (places_on p r slot) list)
  all-within slot [] = All-nil (IsIn slot)
  all-within slot (cs ∷ list) =
      All-append (IsIn slot) (places_on p r slot cs) (flat_map (places_on p r slot) list)
      (All-weaker (IsOn slot cs) (IsIn slot) (λ q on. on.0) (places_on p r slot cs) (all-on slot cs)) (all-within slot list)

  all-in : (slot : ℕ) → All (IsIn slot) (places_in p r slot)
  unfolding places_in
  all-in slot = all-within slot (channels_within p.channels)

  pairs-in : (slot : ℕ) → AllPairs IsBefore (places_in p r slot)
  unfolding places_in
  pairs-in slot = pairs-within slot p.channels

  pairs-with : AllPairs IsBefore (places_with p r)
  unfolding places_with
  pairs-with =
      pairs-range IsBefore (places_in p r)
      (λ j k below.
      across-by IsBefore (IsIn j) (IsIn k) (places_in p r j) (places_in p r k)
      (λ x y here there. before-slot x y (rw (here, there) below)) (all-in j) (all-in k))
      pairs-in 1 p.static_slots

-- ---- the room

room-pairs : (p : Params) (b : Book) (s v f : Name) (r : ℕ) → IfOk (room_in p b s v f r) (AllPairs IsBefore)
unfolding room_in room
room-pairs p b s v f r =
    gives_or _ (get b.variants v) _ _ (λ x _.
    gives_when _ _ _ _ (λ _.
    gives_or _ (get (own s x.frames) (s, f)) _ _ (λ frame _.
    gives_when _ _ _ _ (λ _. AllPairs-filter IsBefore _ (places_with p r) (pairs-with p r)))))

told-places : (r : Result (List Placement) Refusal) (all : Bool) (places : List Placement) →
    room_told r ≡ Report all (rows.Room places) → r ≡ Ok places
told-places (Ok some) all places h = ap Ok cc
told-places (Err e) all places h = cc

pub told_room_is_in_order : ToldRoomIsInOrder
told_room_is_in_order c b s variant frame r all places sound tells = elim (room-asked c b s variant frame r) [
  | inl (e, room) ↦ let no : Refused e ≡ Report all (rows.Room places) = sym (ap (λ (o : Outcome). o.answer) room) ∙ tells in cc
  | inr asked ↦
      let is = told-places _ all places (sym (told c b s variant frame sound r asked) ∙ tells) in
      subst (λ r. IfOk r (AllPairs IsBefore)) is (room-pairs c.params b s variant frame r)
]
