-- A placement takes its cells of a slot's table, cycle by cycle.
use Rattle.std.proofs.Common.{◌≡◌, ℕ, suc, ◌+◌, ◌*◌, ◌/◌, ◌%◌, ◌≤◌, ◌<◌, true, false, ◌&&◌, cond, List, length, get_or, set, Option, Some, None, refl, sym, ap, ◌∙◌, inl, inr, arith}
use Rattle.std.specs.Option.{option_or}
use Rattle.std.proofs.Math.Nat.{add-mod_right, mod-eq_of_lt, mul-le-mul_right, suc-mul}
use Rattle.std.proofs.lemmas.Bool.{and_right, cases_lt, cases_order, eq-eqb, ne_eqb}
use Rattle.std.proofs.lemmas.List.{get_or-set_other, get_or-set_same, length-set}
use Rattle.std.proofs.lemmas.Nat.{div-add-mod'}
use Rattle.fr_base.specs.Channels.{has_channel}
use Rattle.fr_base.specs.Cycles.{Cycles, has_cycle}
use Rattle.fr_base.proofs.CycleLemmas.{has_cycle-in, has_cycle-out}
use Rattle.fr_base.specs.declared.channel.Channel.{Channel}
use Rattle.fr_base.specs.declared.placement.Placement.{Placement}
use Rattle.fr_world.specs.FirstPlaces.{IsClaimed, place_at, place_on}
use Rattle.fr_world.specs.declared.slot_table.FirstPlaces.{FirstPlaces}

-- ---- the cycles of a set are a repetition apart

lacks : (s : Cycles) (k : ℕ) → (k % s.repetition ≡ s.base → ⊥) → has_cycle s k ≡ false
lacks s k apart = elim (cases_lt k s.count) [ inl l ↦ has_cycle-in s k l ∙ ne_eqb _ _ apart | inr l ↦ has_cycle-out s k l ]

-- the same remainders are at least that far apart
apart : (r a b m : ℕ) → a * r + b < m * r + b → m * r + b < a * r + b + r → ⊥
apart r a b m low high = elim (cases_lt a m) [
  | inl l ↦
      let over : suc a * r ≤ m * r = mul-le-mul_right r l in
      let more : suc a * r ≡ a * r + r = suc-mul a r in
      omega (arith, over, more, high)
  | inr l ↦
      let under : m * r ≤ a * r = mul-le-mul_right r l in
      omega (arith, under, low)
]

between : (r c k b : ℕ) → c % r ≡ b → k % r ≡ b → c < k → k < c + r → ⊥
between r c k b e f low high =
    let first : c / r * r + b ≡ c = ap (λ n. c / r * r + n) (sym e) ∙ div-add-mod' c r in
    let second : k / r * r + b ≡ k = ap (λ n. k / r * r + n) (sym f) ∙ div-add-mod' k r in
    apart r (c / r) b (k / r) (omega (arith, first, second, low)) (omega (arith, first, second, high))

-- ---- the cycles before

-- what a placement claims
abbrev pub claim_of : Placement → ℕ → ℕ → Channel → Option ℕ
claim_of q place k x = cond (has_channel q.channels x && has_cycle q.cycles k) (Some place) None

abbrev cycle_at : List FirstPlaces → ℕ → FirstPlaces
cycle_at cycles k = get_or cycles k (record { a = None; b = None })

-- its cycles below this one, which is the next of them, are claimed
pub record IsClaimedBelow (q : Placement) (place : ℕ) (old new : List FirstPlaces) (c : ℕ) : Type 0 where
  pub len : length new ≡ 64
  pub next : c % q.cycles.repetition ≡ q.cycles.base
  pub below : (k : ℕ) (x : Channel) → k < c → place_at new k x ≡ option_or (place_at old k x) (claim_of q place k x)
  pub above : (k : ℕ) → c ≤ k → cycle_at new k ≡ cycle_at old k

pub option_or_none : {A : Type 0} (r : Option A) → r ≡ option_or r None
option_or_none None = refl
option_or_none (Some x) = refl

-- another cycle stays as it is
stays : (q : Placement) (place : ℕ) (k : ℕ) (x : Channel) (r : Option ℕ) → has_cycle q.cycles k ≡ false → r ≡ option_or r (claim_of q place k x)
stays q place k x r lacks = option_or_none r ∙ ap (λ b. option_or r (cond b (Some place) None)) (sym (and_right _ _ lacks))

takes : (q : Placement) (place : ℕ) (k : ℕ) (x : Channel) (r : Option ℕ) → has_cycle q.cycles k ≡ true → option_or r (cond (has_channel q.channels x) (Some place) None) ≡ option_or r (claim_of q place k x)
takes q place k x r has = elim (has_channel q.channels x) as (λ b. option_or r (cond b (Some place) None) ≡ option_or r (cond (b && has_cycle q.cycles k) (Some place) None)) [
  | true ↦ ap (λ b. option_or r (cond b (Some place) None)) (sym has)
  | false ↦ refl
]

module _ (q : Placement) (place : ℕ) (old : List FirstPlaces) where
  -- below the base there is none
  pub claimed-start : length old ≡ 64 → q.cycles.base < q.cycles.repetition → IsClaimedBelow q place old old q.cycles.base
  claimed-start len low = record {
    len = len;
    next = mod-eq_of_lt low;
    below = λ k x l. stays q place k x (place_at old k x) (lacks q.cycles k (λ e. let same : k ≡ q.cycles.base = sym (mod-eq_of_lt (omega (arith, l, low))) ∙ e in omega (arith, same, l)));
    above = λ k l. refl;
  }

  -- one cycle more
  pub claimed-next : (new : List FirstPlaces) (c : ℕ) (v : FirstPlaces) → c < q.cycles.count → q.cycles.count ≤ 64
      → ((x : Channel) → place_on x v ≡ option_or (place_on x (cycle_at new c)) (cond (has_channel q.channels x) (Some place) None))
      → (n : ℕ) → q.cycles.base < q.cycles.repetition → n ≡ c + q.cycles.repetition
      → IsClaimedBelow q place old new c → IsClaimedBelow q place old (set new c v) n
  claimed-next new c v low most marks n some e h = record {
    len = length-set new c v ∙ h.len;
    next = ap (λ n. n % q.cycles.repetition) e ∙ add-mod_right c q.cycles.repetition ∙ h.next;
    below = λ k x l. elim (cases_order k c) [
      | inl same ↦
          ap (λ k. place_at (set new c v) k x) same
          ∙ ap (place_on x) (get_or-set_same new c v (record { a = None; b = None }) (omega (arith, low, most, h.len)))
          ∙ marks x
          ∙ takes q place c x (place_on x (cycle_at new c)) (has_cycle-in q.cycles c low ∙ eq-eqb _ _ h.next)
          ∙ ap (λ f. option_or (place_on x f) (claim_of q place c x)) (h.above c (omega arith))
          ∙ ap (λ k. option_or (place_at old k x) (claim_of q place k x)) (sym same)
      | inr (inl before) ↦ ap (place_on x) (get_or-set_other new c k v (record { a = None; b = None }) (λ f. omega (arith, f, before))) ∙ h.below k x before
      | inr (inr after) ↦
          ap (place_on x) (get_or-set_other new c k v (record { a = None; b = None }) (λ f. omega (arith, f, after)) ∙ h.above k (omega (arith, after)))
          ∙ stays q place k x (place_at old k x) (lacks q.cycles k (λ f. between q.cycles.repetition c k q.cycles.base h.next f after (omega (arith, l, e))))
    ];
    above = λ k l. get_or-set_other new c k v (record { a = None; b = None }) (λ f. omega (arith, f, l, e, some)) ∙ h.above k (omega (arith, l, e));
  }

  -- after the last cycle all are claimed
  pub claimed-all : (new : List FirstPlaces) (c : ℕ) → q.cycles.count ≤ c → IsClaimedBelow q place old new c → IsClaimed q place old new
  claimed-all new c over h k x = elim (cases_lt k c) [
    | inl l ↦ h.below k x l
    | inr l ↦ ap (place_on x) (h.above k l) ∙ stays q place k x (place_at old k x) (has_cycle-out q.cycles k (omega (arith, over, l)))
  ]
