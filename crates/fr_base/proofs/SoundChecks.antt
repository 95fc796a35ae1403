-- What a request that passed its check has by its own texts and numbers.
use Rattle.std.proofs.Common.{◌≡◌, ℕ, ◌≤◌, ◌&&◌, List, IfOk, IsTrue, nat_le, leb-true, inl, inr, refl}
use Rattle.std.specs.Prelude.{⊤}
use Rattle.std.specs.List.{list_all}
use Rattle.std.proofs.lemmas.Bool.{cases_Bool, and_parts}
use Rattle.fr_base.specs.Names.{is_name, is_key}
use Rattle.fr_base.specs.Cycles.{Cycles, are_cycles}
use Rattle.fr_base.specs.Signals.{is_signal_length, order_of_text}
use Rattle.fr_base.specs.Channels.{channels_in, has_channel, channel_of_text, channels_of_text}
use Rattle.fr_base.specs.Checks.{asking, key, name, cycles, slot, channel, channels, placement, purpose, signal, beginning, query, has_repetition, check}
use Rattle.fr_base.specs.Sound.{HasChannelSlot, FitsCluster}
use Rattle.fr_base.specs.declared.name.Name.{Name}
use Rattle.fr_base.specs.declared.params.Params.{Params}
use Rattle.fr_base.specs.declared.actor.Actor.{Actor}
use Rattle.fr_base.specs.declared.actor.Actor.TheVariants.{Integrator, Supplier}
use Rattle.fr_base.specs.declared.request.Request.{Request}
use Rattle.fr_base.specs.declared.request.Request.TheVariants as request
use Rattle.fr_base.specs.declared.request.Command.{Command}
use Rattle.fr_base.specs.declared.request.Command.TheVariants.{Common, AddSupplier, SetKey, AddNode, Rows}
use Rattle.fr_base.specs.declared.request.CommonCommand.TheVariants.{OpenVariant, Release}
use Rattle.fr_base.specs.declared.request.Change.{Change}
use Rattle.fr_base.specs.declared.request.Change.TheVariants.{Grant, Revoke, Frame}
use Rattle.fr_base.specs.declared.request.FrameChange.{FrameChange}
use Rattle.fr_base.specs.declared.request.FrameChange.TheVariants.{Add, Drop, Place, Unplace, AddSignal, DropSignal}
use Rattle.fr_base.specs.declared.delivery.Delivery.{Delivery}
use Rattle.fr_base.specs.declared.request.Checked.{Checked}
use Rattle.fr_base.specs.declared.request.Checked.TheVariants as checked
use Rattle.fr_base.specs.declared.delivery.Purpose.TheVariants.{Import, Replacement, Trial, Proposal}
use Rattle.fr_base.specs.declared.delivery.Purpose.{Purpose}
use Rattle.fr_base.proofs.SoundRefusing.{gives_or, gives_bind, gives_each, gives_when, gives_unless}

-- a frame that is added has a name, a placement fits the cluster, and a signal has a name and 1 to 64 bits
abbrev pub IsFormedFrame : Params → Name → FrameChange → Type 0
IsFormedFrame p f (Add n) = IsTrue (is_name f)
IsFormedFrame p f Drop = ⊤
IsFormedFrame p f (Place q) = FitsCluster p q
IsFormedFrame p f (Unplace q) = ⊤
IsFormedFrame p f (AddSignal s) = IsTrue (is_name s.name) × IsTrue (is_signal_length s.length)
IsFormedFrame p f (DropSignal n) = ⊤

-- what is granted fits the cluster
abbrev pub IsFormedChange : Params → Change → Type 0
IsFormedChange p (Grant k c n) = HasChannelSlot p (k, c)
IsFormedChange p (Revoke k c) = ⊤
IsFormedChange p (Frame f what) = IsFormedFrame p f what

-- the names and the key that a command brings into the book are names and a key, its slot, channels and cycles fit the cluster, and its signal has 1 to 64 bits
abbrev pub HasForm : Params → Command → Type 0
HasForm p (Common (OpenVariant v beginning)) = IsTrue (is_name v)
HasForm p (Common (Release v)) = ⊤
HasForm p (AddSupplier s k) = IsTrue (is_name s) × IsTrue (is_key k)
HasForm p (SetKey s k) = IsTrue (is_key k)
HasForm p (AddNode s n) = IsTrue (is_name n)
HasForm p (Rows rows) = IsFormedChange p rows.change

-- the label of an import is a name
abbrev pub IsFormedPurpose : Purpose Name → Type 0
IsFormedPurpose (Import label) = IsTrue (is_name label)
IsFormedPurpose _ = ⊤

-- a file is delivered by the supplier that asks, and its variant and its label are names
pub record IsFormedDelivery (actor : Actor) (d : Delivery) : Type 0 where
  pub asks : actor ≡ Supplier d.supplier
  pub variant : IsTrue (is_name d.variant)
  pub how : IsFormedPurpose d.how

abbrev pub IsFormed : Params → Actor → Checked → Type 0
IsFormed p actor (checked.Command command) = HasForm p command
IsFormed p actor (checked.Deliver d) = IsFormedDelivery actor d
IsFormed p actor (checked.Query query) = IsTrue (has_repetition p query)

asking-form : (actor : Actor) → IfOk (asking actor) (λ s. actor ≡ Supplier s)
unfolding asking
asking-form Integrator = tt
asking-form (Supplier s) = refl

pub name-form : (text : List ℕ) → IfOk (name text) (λ v. IsTrue (is_name v))
unfolding name
name-form text = elim (cases_Bool (is_name text)) [ inl h ↦ rw h (h) | inr h ↦ rw h tt ]

purpose-form : (how : Purpose (List ℕ)) → IfOk (purpose how) IsFormedPurpose
unfolding purpose
purpose-form (Import label) = gives_bind _ _ (name label) _ (name-form label) (λ l labelled. labelled)
purpose-form (Replacement whole) = tt
purpose-form (Trial how) = tt
purpose-form (Proposal replace) = tt

key-form : (text : List ℕ) → IfOk (key text) (λ k. IsTrue (is_key k))
unfolding key
key-form text = elim (cases_Bool (is_key text)) [ inl h ↦ rw h (h) | inr h ↦ rw h tt ]

cycles-form : (p : Params) (base repetition : ℕ) → IfOk (cycles p base repetition) (λ r. (r.count ≡ p.cycles) × IsTrue (are_cycles r))
unfolding cycles
cycles-form p base repetition =
    let s : Cycles = record { count = p.cycles; base = base; repetition = repetition } in
    elim (cases_Bool (are_cycles s)) [ inl h ↦ rw h (refl, h) | inr h ↦ rw h tt ]

slot-form : (p : Params) (n : ℕ) → IfOk (slot p n) (λ k. (1 ≤ k) × (k ≤ p.static_slots))
unfolding slot
slot-form p n = elim (cases_Bool (nat_le 1 n && nat_le n p.static_slots)) [
  | inl h ↦ let both = and_parts _ _ h in rw h ((leb-true 1 n both.0, leb-true n p.static_slots both.1))
  | inr h ↦ rw h tt
]

channel-form : (p : Params) (text : List ℕ) → IfOk (channel p text) (λ c. IsTrue (has_channel p.channels c))
unfolding channel
channel-form p text = gives_or _ (channel_of_text text) _ _ (λ c _. gives_unless _ _ (has_channel p.channels c) _ (λ h. h))

channels-form : (p : Params) (text : List ℕ) → IfOk (channels p text) (λ cs. IsTrue (list_all (has_channel p.channels) (channels_in cs)))
unfolding channels
channels-form p text = gives_or _ (channels_of_text text) _ _ (λ cs _. gives_unless _ _ (list_all (has_channel p.channels) (channels_in cs)) _ (λ h. h))

pub placement-form : (p : Params) (number : ℕ) (text : List ℕ) (base repetition : ℕ) → IfOk (placement p number text base repetition) (FitsCluster p)
unfolding placement
placement-form p number text base repetition =
    gives_bind _ _ (cycles p base repetition) _ (cycles-form p base repetition) (λ r selects.
    gives_bind _ _ (slot p number) _ (slot-form p number) (λ k in_range.
    gives_bind _ _ (channels p text) _ (channels-form p text) (λ cs has.
    record { from_one = in_range.0; to_last = in_range.1; channels = has; count = selects.0; cycles = selects.1 })))

pub signal-form : (n : Name) (start length : ℕ) (text : List ℕ) → IsTrue (is_name n) → IfOk (signal n start length text) (λ s. IsTrue (is_name s.name) × IsTrue (is_signal_length s.length))
unfolding signal
signal-form n start length text named = gives_or _ (order_of_text text) _ _ (λ order _. gives_unless _ _ (is_signal_length length) _ (λ h. (named, h)))

-- what passes the check has its form
pub check-form : (p : Params) (actor : Actor) (r : Request) → IfOk (check p actor r) (IsFormed p actor)
unfolding check
check-form p actor (request.OpenVariant variant begins) =
    gives_when _ _ _ _ (λ _.
    gives_bind _ _ (name variant) _ (name-form variant) (λ v h.
    gives_each _ (beginning begins) _ (λ from _. h)))
check-form p actor (request.Release variant) =
    gives_when _ _ _ _ (λ _.
    gives_each _ (name variant) _ (λ v _. tt))
check-form p actor (request.AddSupplier supplier text) =
    gives_when _ _ _ _ (λ _.
    gives_bind _ _ (name supplier) _ (name-form supplier) (λ s named.
    gives_bind _ _ (key text) _ (key-form text) (λ k h. (named, h))))
check-form p actor (request.SetKey supplier text) =
    gives_when _ _ _ _ (λ _.
    gives_each _ (name supplier) _ (λ s _.
    gives_bind _ _ (key text) _ (key-form text) (λ k h. h)))
check-form p actor (request.AddNode supplier node) =
    gives_when _ _ _ _ (λ _.
    gives_each _ (name supplier) _ (λ s _.
    gives_bind _ _ (name node) _ (name-form node) (λ n h. h)))
check-form p actor (request.Grant variant number text supplier node) =
    gives_when _ _ _ _ (λ _.
    gives_each _ (name variant) _ (λ v _.
    gives_each _ (name supplier) _ (λ s _.
    gives_each _ (name node) _ (λ n _.
    gives_bind _ _ (slot p number) _ (slot-form p number) (λ k in_range.
    gives_bind _ _ (channel p text) _ (channel-form p text) (λ c has.
    record { from_one = in_range.0; to_last = in_range.1; channel = has }))))))
check-form p actor (request.Revoke variant number text supplier) =
    gives_when _ _ _ _ (λ _.
    gives_each _ (name variant) _ (λ v _.
    gives_each _ (name supplier) _ (λ s _.
    gives_each _ (slot p number) _ (λ k _.
    gives_each _ (channel p text) _ (λ c _. tt)))))
check-form p actor (request.AddFrame variant frame node) =
    gives_each _ (asking actor) _ (λ _ _.
    gives_each _ (name variant) _ (λ v _.
    gives_bind _ _ (name frame) _ (name-form frame) (λ f h.
    gives_each _ (name node) _ (λ n _. h))))
check-form p actor (request.DropFrame variant frame) =
    gives_each _ (asking actor) _ (λ _ _.
    gives_each _ (name variant) _ (λ v _.
    gives_each _ (name frame) _ (λ f _. tt)))
check-form p actor (request.Place variant frame number text base repetition) =
    gives_each _ (asking actor) _ (λ _ _.
    gives_each _ (name variant) _ (λ v _.
    gives_each _ (name frame) _ (λ f _.
    gives_bind _ _ (placement p number text base repetition) _ (placement-form p number text base repetition) (λ q fits. fits))))
check-form p actor (request.Unplace variant frame number text base repetition) =
    gives_each _ (asking actor) _ (λ _ _.
    gives_each _ (name variant) _ (λ v _.
    gives_each _ (name frame) _ (λ f _.
    gives_each _ (placement p number text base repetition) _ (λ q _. tt))))
check-form p actor (request.AddSignal variant frame named start length text) =
    gives_each _ (asking actor) _ (λ _ _.
    gives_each _ (name variant) _ (λ v _.
    gives_each _ (name frame) _ (λ f _.
    gives_bind _ _ (name named) _ (name-form named) (λ n h.
    gives_bind _ _ (signal n start length text) _ (signal-form n start length text h) (λ s form. form)))))
check-form p actor (request.DropSignal variant frame named) =
    gives_each _ (asking actor) _ (λ _ _.
    gives_each _ (name variant) _ (λ v _.
    gives_each _ (name frame) _ (λ f _.
    gives_each _ (name named) _ (λ n _. tt))))
check-form p actor (request.Deliver variant how body) =
    gives_bind _ _ (asking actor) _ (asking-form actor) (λ s asks.
    gives_bind _ _ (name variant) _ (name-form variant) (λ v named.
    gives_bind _ _ (purpose how) _ (purpose-form how) (λ h formed.
    record { asks = asks; variant = named; how = formed })))
check-form p actor (request.Query asked) =
    gives_when _ _ _ _ (λ _.
    gives_each _ (query asked) _ (λ q _.
    gives_unless _ _ (has_repetition p q) _ (λ h. h)))
