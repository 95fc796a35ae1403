-- Slots that are opened as wishes need them, kind by kind.
use Rattle.std.proofs.Common.{◌≡◌, ℕ, suc, ◌+◌, ◌<◌, Bool, true, false, ◌&&◌, cond, eqb, List, [], ◌∷◌, ◌++◌, length, map, filter, get_or, take, Option, Some, None, option_map, refl, sym, ap, subst, ◌∙◌, inl, inr, append_assoc, append-nil, true≢false}
use Rattle.std.specs.Prelude.{All, unwrap_or}
use Rattle.std.specs.List.{filter_map, flat_map, range_with_len}
use Rattle.std.proofs.lemmas.Bool.{and_parts, cases_Bool, eq-eqb, eqb-true, ne_eqb}
use Rattle.std.proofs.lemmas.List.{map-append}
use Rattle.std.proofs.lemmas.List.Elements.{All-cons, All-head, All-nil, All-tail}
use Rattle.fr_base.specs.Channels.{channels_number}
use Rattle.fr_base.specs.Fittest.{fittest}
use Rattle.fr_base.specs.Lacks.{is_short, lack_row, open_slots, short_wishes, slots_with}
use Rattle.fr_base.proofs.LackLaws.{lacking-opened}
use Rattle.fr_base.specs.declared.proposal.Given.{Given}
use Rattle.fr_base.specs.declared.proposal.LackRow.{LackRow}
use Rattle.fr_base.specs.Orders.{same_channels}
use Rattle.fr_base.specs.Room.{placed}
use Rattle.fr_base.specs.Turns.{fittest_for, in_turn, is_for, repetitions_of, same_kind, turns_on}
use Rattle.fr_base.specs.declared.channel.Channels.{Channels}
use Rattle.fr_base.specs.declared.channel.Channels.TheVariants as channels
use Rattle.fr_base.specs.declared.name.Name.{Name}
use Rattle.fr_base.specs.declared.params.Params.{Params}
use Rattle.fr_base.specs.declared.placement.Placement.{Placement}
use Rattle.fr_base.specs.declared.wish.Asked.{Asked}
use Rattle.fr_world.specs.Plans.{Opens}
use Rattle.fr_world.proofs.TurnLaws.{kept-next, left-next}

module _ (p : Params) where
  pub opens-none : (n : ℕ) (cells : List (Name × Placement)) → Opens p n cells n cells []
  opens-none n cells rest = refl

  pub opens-more : (a b c : ℕ) (x y z : List (Name × Placement)) (turns more : List Asked) → Opens p a x b y turns → Opens p b y c z more → Opens p a x c z (turns ++ more)
  opens-more a b c x y z turns more first then rest = ap (open_slots p a x) (append_assoc turns more rest) ∙ first (more ++ rest) ∙ then rest

  -- one wish, that takes a place in the slots or the first one of a new slot
  pub opens-one : (asked : Asked) (cs : Channels) (r n m : ℕ) (olds news : List (Name × Placement)) (found : Option Placement) (place : Placement) → is_for cs r asked ≡ true
      → found ≡ fittest p olds (range_with_len 1 n) cs r → place ≡ unwrap_or found (placed p r (suc n) cs 0) → m ≡ slots_with n found → news ≡ olds ++ (asked.wish.frame, place) ∷ [] → Opens p n olds m news (asked ∷ [])
  unfolding open_slots
  opens-one asked cs r n m olds news found place for is at count e rest =
      let parts = and_parts (eqb (channels_number asked.wish.channels) (channels_number cs)) _ for in
      let kind : asked.wish.channels ≡ cs = same_channels asked.wish.channels cs (eqb-true _ _ parts.0) in
      let often : asked.wish.repetition ≡ r = eqb-true asked.wish.repetition r parts.1 in
      let same : fittest_for p (λ cs. range_with_len 1 n) olds asked.wish ≡ found = (λ i. fittest p olds (range_with_len 1 n) (kind i) (often i)) ∙ sym is in
      let taken : unwrap_or (fittest_for p (λ cs. range_with_len 1 n) olds asked.wish) (placed p asked.wish.repetition (suc n) asked.wish.channels 0) ≡ place = (λ i. unwrap_or (same i) (placed p (often i) (suc n) (kind i) 0)) ∙ sym at in
      (λ i. open_slots p (slots_with n (same i)) (olds ++ (asked.wish.frame, taken i) ∷ []) rest)
      ∙ (λ i. open_slots p (sym count i) (sym e i) rest)

-- ---- wishes of one kind of channels

other-none : (p : Params) (cs ds : Channels) (r : ℕ) (wishes : List Asked) → All (λ asked. same_kind asked.wish.channels cs ≡ true) wishes → ((e : Channels) → same_kind e cs ≡ true → same_kind e ds ≡ false) → filter (is_for ds r) wishes ≡ []
other-none p cs ds r [] all apart = refl
other-none p cs ds r (asked ∷ wishes) all apart =
    let first = All-head (λ asked. same_kind asked.wish.channels cs ≡ true) asked wishes all in
    let none : is_for ds r asked ≡ false = ap (λ b. b && eqb asked.wish.repetition r) (apart asked.wish.channels first) in
    rw none (other-none p cs ds r wishes (All-tail (λ asked. same_kind asked.wish.channels cs ≡ true) asked wishes all) apart)

other-turns : (p : Params) (cs ds : Channels) (wishes : List Asked) → All (λ asked. same_kind asked.wish.channels cs ≡ true) wishes → ((e : Channels) → same_kind e cs ≡ true → same_kind e ds ≡ false) → turns_on p wishes ds ≡ []
unfolding turns_on
other-turns p cs ds wishes all apart = each (repetitions_of p)
  where
    each : (rs : List ℕ) → flat_map (λ r. filter (is_for ds r) wishes) rs ≡ []
    each [] = refl
    each (r ∷ rs) = λ i. other-none p cs ds r wishes all apart i ++ each rs i

-- they have their turns, and there are no others
pub turns-alone : (p : Params) (cs : Channels) (wishes : List Asked) → All (λ asked. same_kind asked.wish.channels cs ≡ true) wishes → turns_on p wishes cs ≡ in_turn p wishes
unfolding in_turn
turns-alone p channels.A wishes all = sym (
    (λ i. other-turns p channels.A channels.AB wishes all apart_AB i ++ (turns_on p wishes channels.A ++ (other-turns p channels.A channels.B wishes all apart_B i ++ [])))
    ∙ append-nil (turns_on p wishes channels.A))
  where
    apart_AB : (e : Channels) → same_kind e channels.A ≡ true → same_kind e channels.AB ≡ false
    apart_AB channels.A h = refl
    apart_AB channels.AB h = cc
    apart_AB channels.B h = cc

    apart_B : (e : Channels) → same_kind e channels.A ≡ true → same_kind e channels.B ≡ false
    apart_B channels.A h = refl
    apart_B channels.AB h = cc
    apart_B channels.B h = cc
turns-alone p channels.AB wishes all = sym (
    (λ i. turns_on p wishes channels.AB ++ (other-turns p channels.AB channels.A wishes all apart_A i ++ (other-turns p channels.AB channels.B wishes all apart_B i ++ [])))
    ∙ append-nil (turns_on p wishes channels.AB))
  where
    apart_A : (e : Channels) → same_kind e channels.AB ≡ true → same_kind e channels.A ≡ false
    apart_A channels.A h = cc
    apart_A channels.AB h = refl
    apart_A channels.B h = cc

    apart_B : (e : Channels) → same_kind e channels.AB ≡ true → same_kind e channels.B ≡ false
    apart_B channels.A h = cc
    apart_B channels.AB h = refl
    apart_B channels.B h = cc
turns-alone p channels.B wishes all = sym (
    (λ i. other-turns p channels.B channels.AB wishes all apart_AB i ++ (other-turns p channels.B channels.A wishes all apart_A i ++ (turns_on p wishes channels.B ++ [])))
    ∙ append-nil (turns_on p wishes channels.B))
  where
    apart_AB : (e : Channels) → same_kind e channels.B ≡ true → same_kind e channels.AB ≡ false
    apart_AB channels.A h = cc
    apart_AB channels.AB h = cc
    apart_AB channels.B h = refl

    apart_A : (e : Channels) → same_kind e channels.B ≡ true → same_kind e channels.A ≡ false
    apart_A channels.A h = cc
    apart_A channels.AB h = cc
    apart_A channels.B h = refl

-- ---- the rows of a node

abbrev pub lacks_of : Params → List Given → Name → List LackRow
lacks_of p given n = filter_map (lack_row p given n) (channels.A ∷ channels.AB ∷ channels.B ∷ [])

module _ {X Y : Type 0} (g : X → Y) (t : X → Bool) (xs : List X) (i : ℕ) (x : X) (low : i < length xs) (is : x ≡ get_or xs i x) where
  pub mapped-next : t x ≡ true → map g (filter t (take i xs)) ++ g x ∷ [] ≡ map g (filter t (take (i + 1) xs))
  mapped-next passes = sym (map-append g (filter t (take i xs)) (x ∷ [])) ∙ ap (map g) (kept-next t xs i x low is passes)

  pub mapped-left : t x ≡ false → map g (filter t (take i xs)) ≡ map g (filter t (take (i + 1) xs))
  mapped-left fails = ap (map g) (left-next t xs i x low is fails)

-- the wishes without a placement are for these channels
pub short-kind : (given : List Given) (n : Name) (cs : Channels) → All (λ asked. same_kind asked.wish.channels cs ≡ true) (short_wishes given n cs)
unfolding short_wishes
short-kind [] n cs = All-nil (λ asked. same_kind asked.wish.channels cs ≡ true)
short-kind (one ∷ given) n cs = elim (cases_Bool (is_short n cs one)) [
  | inl short ↦
      let kind : same_kind one.asked.wish.channels cs ≡ true = (and_parts _ _ (and_parts _ _ short).0).1 in
      rw short (All-cons (λ asked. same_kind asked.wish.channels cs ≡ true) one.asked (map (λ g. g.asked) (filter (is_short n cs) given)) kind (short-kind given n cs))
  | inr other ↦ rw other (short-kind given n cs)
]

module _ (p : Params) (given : List Given) (n : Name) (cs : Channels) (slots : ℕ) (is : slots ≡ open_slots p 0 [] (in_turn p (short_wishes given n cs))) where
  row_with : ℕ → LackRow
  row_with slots = record { node = n; channels = cs; slots = slots }

  row_by : lack_row p given n cs ≡ option_map row_with (cond (eqb slots 0) None (Some slots))
  unfolding lack_row row_with
  row_by = ap (option_map row_with) (lacking-opened p (short_wishes given n cs) ∙ (λ i. cond (eqb (sym is i) 0) None (Some (sym is i))))

  pub lacks-none : slots ≡ 0 → lack_row p given n cs ≡ None
  lacks-none zero = row_by ∙ ap (λ b. option_map row_with (cond b None (Some slots))) (eq-eqb slots 0 zero)

  pub lacks-some : ¬ (slots ≡ 0) → lack_row p given n cs ≡ Some (record { node = n; channels = cs; slots = slots })
  unfolding row_with
  lacks-some some = row_by ∙ ap (λ b. option_map row_with (cond b None (Some slots))) (ne_eqb slots 0 some)
