-- A request is refused for its form exactly where one of its names or its key has none.
use Rattle.std.proofs.Common.{◌≡◌, ◌∙◌, ap, refl, sym, ℕ, Bool, true, false, cond, List, Option, Some, None, Result, Ok, Err}
use Rattle.std.specs.Prelude.{not, ◌&&◌, nat_le}
use Rattle.std.specs.List.{list_all}
use Rattle.fr_base.specs.declared.channel.Channels.{Channels}
use Rattle.fr_base.specs.declared.wish.Wish.{Wish}
use Rattle.fr_base.specs.Channels.{channel_of_text, channels_in, channels_of_text, has_channel}
use Rattle.fr_base.specs.Checks.{asking, channel, channels, check, cycles, key, name, beginning, placement, purpose, query, signal, slot}
use Rattle.fr_base.specs.Cycles.{Cycles, are_cycles, is_repetition}
use Rattle.fr_base.specs.Names.{is_key, is_name}
use Rattle.fr_base.specs.Refusing.{◌>>=◌, ◌>>◌, ◌or◌, refuse◌when◌}
use Rattle.fr_base.specs.Signals.{SignalData, is_signal_length, order_of_text}
use Rattle.fr_base.specs.declared.key.Key.{Key}
use Rattle.fr_base.specs.declared.name.Name.{Name}
use Rattle.fr_base.specs.declared.params.Params.{Params}
use Rattle.fr_base.specs.declared.refusal.Refusal.{Refusal}
use Rattle.fr_base.specs.declared.refusal.Refusal.TheVariants.{BadChannel, BadCycles, BadKey, BadName, BadSignal, BadSlot}
use Rattle.fr_base.specs.declared.beginning.Beginning.TheVariants.{Empty, From, Flat}
use Rattle.fr_base.specs.declared.query.Query.TheVariants.{Register as OfRegister, Variant as OfVariant, Difference as OfTwo}
use Rattle.fr_base.specs.declared.report.Report.TheVariants.{Grants, Frames, Schedule, Gaps, Layout, Load, Rows, Room, Export}
use Rattle.fr_base.specs.declared.request.Request.TheVariants as request
use Rattle.fr_base.specs.declared.delivery.Purpose.TheVariants.{Import, Replacement, Trial, Proposal}
use Rattle.fr_base.specs.declared.signal.Order.{Order}
use Rattle.fr_guide.specs.Laws.{MisformedRequestsAreRefused, is_misformed}
use Rattle.fr_guide.specs.Requests.{formed_in}

-- ---- what is never refused for its form

abbrev pub is_formed : {A : Type 0} → Result A Refusal → Bool
is_formed r = not (is_misformed r)

-- a step that is not, before others that are not
pub formed_behind : {A B : Type 0} (r : Result A Refusal) (f : A → Result B Refusal) → is_formed r ≡ true → ((x : A) → is_formed (f x) ≡ true) → is_formed (r >>= f) ≡ true
unfolding ◌>>=◌
formed_behind (Ok x) f first others = others x
formed_behind (Err e) f first others = first

-- a name, before others that are as they are
pub named : {B : Type 0} (text : List ℕ) (f : Name → Result B Refusal) (b : Bool) → is_formed (f text) ≡ b → is_formed (name text >>= f) ≡ (is_name text && b)
unfolding ◌>>=◌ name
named text f b others = by (is_name text)
  where
    by : (is : Bool) → is_formed (cond is (Ok text) (Err BadName) >>= f) ≡ (is && b)
    by true = others
    by false = refl

keyed : {B : Type 0} (text : List ℕ) (f : Key → Result B Refusal) (b : Bool) → is_formed (f text) ≡ b → is_formed (key text >>= f) ≡ (is_key text && b)
unfolding ◌>>=◌ key
keyed text f b others = by (is_key text)
  where
    by : (is : Bool) → is_formed (cond is (Ok text) (Err BadKey) >>= f) ≡ (is && b)
    by true = others
    by false = refl

pub cycles-formed : (p : Params) (base repetition : ℕ) → is_formed (cycles p base repetition) ≡ true
unfolding cycles
cycles-formed p base repetition = by (record { count = p.cycles; base = base; repetition = repetition })
  where
    tested : (c : Cycles) (are : Bool) → is_formed (cond are (Ok c) (Err BadCycles)) ≡ true
    tested c true = refl
    tested c false = refl

    by : (c : Cycles) → is_formed (cond (are_cycles c) (Ok c) (Err BadCycles)) ≡ true
    by c = tested c (are_cycles c)

pub slot-formed : (p : Params) (n : ℕ) → is_formed (slot p n) ≡ true
unfolding slot
slot-formed p n = elim (nat_le 1 n && nat_le n p.static_slots) as (λ is. is_formed (cond is (Ok n) (Err BadSlot)) ≡ true) [ true ↦ refl | false ↦ refl ]

found-formed : {A : Type 0} (o : Option A) (f : A → Result A Refusal) → ((x : A) → is_formed (f x) ≡ true) → is_formed ((o or BadChannel) >>= f) ≡ true
unfolding ◌>>=◌ ◌or◌
found-formed None f others = refl
found-formed (Some x) f others = others x

refused-formed : {A : Type 0} (test : Bool) (x : A) → is_formed ((refuse BadChannel when test) >> (Ok x)) ≡ true
unfolding ◌>>◌ refuse◌when◌
refused-formed true x = refl
refused-formed false x = refl

repeats-formed : {A : Type 0} (test : Bool) (x : A) → is_formed ((refuse BadCycles when test) >> (Ok x)) ≡ true
unfolding ◌>>◌ refuse◌when◌
repeats-formed true x = refl
repeats-formed false x = refl

pub channel-formed : (p : Params) (text : List ℕ) → is_formed (channel p text) ≡ true
unfolding channel
channel-formed p text = found-formed (channel_of_text text) _ (λ c. refused-formed (not (has_channel p.channels c)) c)

pub channels-formed : (p : Params) (text : List ℕ) → is_formed (channels p text) ≡ true
unfolding channels
channels-formed p text = found-formed (channels_of_text text) _ (λ cs. refused-formed (not (list_all (has_channel p.channels) (channels_in cs))) cs)

pub wish-formed : (p : Params) (text : List ℕ) (repetition : ℕ) (make : Channels → Wish)
    → is_formed ((refuse BadCycles when not (is_repetition p.cycles repetition)) >> (channels p text >>= λ cs. Ok (make cs))) ≡ true
unfolding ◌>>◌ refuse◌when◌
wish-formed p text repetition make = by (is_repetition p.cycles repetition)
  where
    by : (is : Bool) → is_formed ((refuse BadCycles when not is) >> (channels p text >>= λ cs. Ok (make cs))) ≡ true
    by true = formed_behind (channels p text) _ (channels-formed p text) (λ cs. refl)
    by false = refl

pub placement-formed : (p : Params) (n : ℕ) (text : List ℕ) (base repetition : ℕ) → is_formed (placement p n text base repetition) ≡ true
unfolding placement
placement-formed p n text base repetition =
    formed_behind (cycles p base repetition) _ (cycles-formed p base repetition) (λ r.
    formed_behind (slot p n) _ (slot-formed p n) (λ k.
    formed_behind (channels p text) _ (channels-formed p text) (λ cs. refl)))

pub signal-formed : (n : Name) (start length : ℕ) (text : List ℕ) → is_formed (signal n start length text) ≡ true
unfolding signal ◌>>=◌ ◌>>◌ ◌or◌ refuse◌when◌
signal-formed n start length text = by (order_of_text text) (is_signal_length length)
  where
    by : (order : Option Order) (fits : Bool)
        → is_formed {A = SignalData} ((order or BadSignal) >>= λ o. (refuse BadSignal when not fits) >> Ok (record { name = n; start = start; length = length; order = o })) ≡ true
    by None fits = refl
    by (Some order) true = refl
    by (Some order) false = refl

-- a name that is part of something, before others that are as they are
named_within : {A B : Type 0} (text : List ℕ) (make : Name → A) (f : A → Result B Refusal) → is_formed (f (make text)) ≡ true
    → is_formed ((name text >>= λ x. Ok (make x)) >>= f) ≡ (is_name text && true)
unfolding ◌>>=◌ name
named_within text make f others = by (is_name text)
  where
    by : (is : Bool) → is_formed ((cond is (Ok text) (Err BadName) >>= λ x. Ok (make x)) >>= f) ≡ (is && true)
    by true = others
    by false = refl

-- three steps in turn
in_turn : {A B C : Type 0} (r : Result A Refusal) (f : A → Result B Refusal) (g : B → Result C Refusal) → ((r >>= f) >>= g) ≡ (r >>= (λ x. f x >>= g))
unfolding ◌>>=◌
in_turn (Ok x) f g = refl
in_turn (Err e) f g = refl

-- ---- requests

pub misformed_requests : MisformedRequestsAreRefused
unfolding check asking formed_in ◌>>=◌ ◌>>◌ refuse◌when◌ beginning purpose query
misformed_requests p s (request.OpenVariant v Empty) = sym (named v _ true refl)
misformed_requests p s (request.OpenVariant v (From parent)) = sym (named v _ (is_name parent && true) (named_within parent _ _ refl))
misformed_requests p s (request.OpenVariant v (Flat from)) = sym (named v _ (is_name from && true) (named_within from _ _ refl))
misformed_requests p s (request.Release v) = sym (named v _ true refl)
misformed_requests p s (request.AddSupplier supplier k) = sym (named supplier _ (is_key k && true) (keyed k _ true refl))
misformed_requests p s (request.SetKey supplier k) = sym (named supplier _ (is_key k && true) (keyed k _ true refl))
misformed_requests p s (request.AddNode supplier node) = sym (named supplier _ (is_name node && true) (named node _ true refl))
misformed_requests p s (request.Grant v n text supplier node) =
    sym (named v _ _ (named supplier _ _ (named node _ true
    (formed_behind (slot p n) _ (slot-formed p n) (λ k. formed_behind (channel p text) _ (channel-formed p text) (λ c. refl))))))
misformed_requests p s (request.Revoke v n text supplier) =
    sym (named v _ _ (named supplier _ true
    (formed_behind (slot p n) _ (slot-formed p n) (λ k. formed_behind (channel p text) _ (channel-formed p text) (λ c. refl)))))
misformed_requests p s (request.AddFrame v frame node) = sym (named v _ _ (named frame _ _ (named node _ true refl)))
misformed_requests p s (request.DropFrame v frame) = sym (named v _ _ (named frame _ true refl))
misformed_requests p s (request.Place v frame n text base repetition) =
    sym (named v _ _ (named frame _ true (formed_behind (placement p n text base repetition) _ (placement-formed p n text base repetition) (λ q. refl))))
misformed_requests p s (request.Unplace v frame n text base repetition) =
    sym (named v _ _ (named frame _ true (formed_behind (placement p n text base repetition) _ (placement-formed p n text base repetition) (λ q. refl))))
misformed_requests p s (request.AddSignal v frame x start length text) =
    sym (named v _ _ (named frame _ _ (named x _ true (formed_behind (signal x start length text) _ (signal-formed x start length text) (λ y. refl)))))
misformed_requests p s (request.DropSignal v frame x) = sym (named v _ _ (named frame _ _ (named x _ true refl)))
misformed_requests p s (request.Deliver v (Import label) body) = sym (named v _ (is_name label && true) (named_within label _ _ refl))
misformed_requests p s (request.Deliver v (Replacement whole) body) = sym (named v _ true refl)
misformed_requests p s (request.Deliver v (Trial how) body) = sym (named v _ true refl)
misformed_requests p s (request.Deliver v (Proposal replace) body) = sym (named v _ true refl)
misformed_requests p s (request.Query (OfRegister inventory)) = refl
misformed_requests p s (request.Query (OfVariant v Grants)) = sym (named_within v _ _ refl)
misformed_requests p s (request.Query (OfVariant v Frames)) = sym (named_within v _ _ refl)
misformed_requests p s (request.Query (OfVariant v Schedule)) = sym (named_within v _ _ refl)
misformed_requests p s (request.Query (OfVariant v Gaps)) = sym (named_within v _ _ refl)
misformed_requests p s (request.Query (OfVariant v (Layout frame))) =
    sym (ap is_formed (in_turn (name v) _ _) ∙ named v _ (is_name frame && true) (ap is_formed (in_turn (name frame >>= (λ f. Ok (Layout f))) _ _) ∙ named_within frame _ _ refl))
misformed_requests p s (request.Query (OfVariant v Load)) = sym (named_within v _ _ refl)
misformed_requests p s (request.Query (OfVariant v Rows)) = sym (named_within v _ _ refl)
misformed_requests p s (request.Query (OfVariant v (Room frame repetition))) =
    sym (ap is_formed (in_turn (name v) _ _) ∙ named v _ (is_name frame && true)
    (ap is_formed (in_turn (name frame >>= (λ f. Ok (Room f repetition))) _ _) ∙ named_within frame _ _ (repeats-formed (not (is_repetition p.cycles repetition)) _)))
misformed_requests p s (request.Query (OfVariant v (Export header part))) = sym (named_within v _ _ refl)
misformed_requests p s (request.Query (OfTwo v from)) = sym (ap is_formed (in_turn (name v) _ _) ∙ named v _ (is_name from && true) (named_within from _ _ refl))
