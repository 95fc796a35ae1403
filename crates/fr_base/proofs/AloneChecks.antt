-- What a request says of suppliers, and what its checked form says.
use Rattle.std.proofs.Common.{◌≡◌, ℕ, Bool, true, false, List, Some, Result, Ok, IfOk, refl, sym, ap, subst, ◌∙◌, inl, inr, true≢false}
use Rattle.std.specs.Prelude.{⊤, ◌&&◌, nat_le}
use Rattle.std.specs.Option.{option_and_then}
use Rattle.std.proofs.lemmas.Bool.{cases_Bool}
use Rattle.fr_base.specs.Refusing.{refuse◌when◌}
use Rattle.fr_base.specs.Tables.{get}
use Rattle.fr_base.specs.Names.{is_name, is_key, same_text}
use Rattle.fr_base.specs.Channels.{has_channel, channel_of_text}
use Rattle.fr_base.specs.Changes.{in_rows}
use Rattle.fr_base.specs.Checks.{is_integrator, asking, key, name, slot, channel, placement, purpose, signal, beginning, query, check}
use Rattle.fr_base.specs.Book.{Variant, Book}
use Rattle.fr_base.specs.Alone.{concerns, is_another, holder_at}
use Rattle.fr_base.specs.declared.channel.Channel.{Channel}
use Rattle.fr_base.specs.declared.name.Name.{Name}
use Rattle.fr_base.specs.declared.params.Params.{Params}
use Rattle.fr_base.specs.declared.refusal.Refusal.{Refusal}
use Rattle.fr_base.specs.declared.refusal.Refusal.TheVariants.{Taken}
use Rattle.fr_base.specs.declared.actor.Actor.{Actor}
use Rattle.fr_base.specs.declared.actor.Actor.TheVariants.{Integrator, Supplier}
use Rattle.fr_base.specs.declared.request.Request.{Request}
use Rattle.fr_base.specs.declared.request.Request.TheVariants as request
use Rattle.fr_base.specs.declared.request.Command.{Command}
use Rattle.fr_base.specs.declared.request.Command.TheVariants.{Rows}
use Rattle.fr_base.specs.declared.request.Change.TheVariants as change
use Rattle.fr_base.specs.declared.request.FrameChange.{FrameChange}
use Rattle.fr_base.specs.declared.request.Checked.{Checked}
use Rattle.fr_base.specs.declared.request.Checked.TheVariants as checked
use Rattle.fr_base.proofs.SoundRefusing.{gives_or, gives_bind, gives_each, gives_when, gives_unless}
use Rattle.fr_base.proofs.AloneJoining.{others_refuse}
use Rattle.fr_base.proofs.AloneKeys.{another_refuses}
use Rattle.fr_base.proofs.AloneCommands.{names, of_frame, holder_in, against}

-- whether a request is the supplier's: its own, or the integrator's that is common or names it
abbrev pub asked_of : Name → Actor → Request → Bool
asked_of s Integrator request = concerns s request
asked_of s (Supplier t) request = same_text t s

-- what refuses a request beside other suppliers
abbrev pub refused_beside : Name → Book → Actor → Request → Result ⊤ Refusal
refused_beside s b (Supplier t) request = Ok tt
refused_beside s b Integrator (request.Grant v number text t n) = refuse Taken when is_another s (holder_at b v number text)
refused_beside s b Integrator (request.AddSupplier t key) = others_refuse s b key
refused_beside s b Integrator (request.SetKey t key) = another_refuses s b key
refused_beside s b Integrator request = Ok tt

-- a checked command says of suppliers what the request says, and changes a frame only where a supplier asks
pub record SaysAlike (actor : Actor) (request : Request) (command : Command) : Type 0 where
  pub names : (s : Name) → names s command ≡ asked_of s actor request
  pub against : (s : Name) (b : Book) → against s b command ≡ refused_beside s b actor request
  pub frames : of_frame command ≡ true → is_integrator actor ≡ false

-- a file is delivered by the supplier that asks; and no query of the integrator's concerns a supplier
abbrev pub Says : Actor → Request → Checked → Type 0
Says actor request (checked.Command command) = SaysAlike actor request command
Says actor request (checked.Deliver d) = actor ≡ Supplier d.supplier
Says actor request (checked.Query query) = is_integrator actor ≡ true → (s : Name) → concerns s request ≡ false

by_integrator : (actor : Actor) (request : Request) (command : Command) → is_integrator actor ≡ true →
    ((s : Name) → names s command ≡ concerns s request) → ((s : Name) (b : Book) → against s b command ≡ refused_beside s b Integrator request) → of_frame command ≡ false → SaysAlike actor request command
by_integrator Integrator request command is named same none = record { names = named; against = same; frames = λ frame. absurd (true≢false (sym frame ∙ none)) }
by_integrator (Supplier t) request command is named same none = cc

by_supplier : (actor : Actor) (request : Request) (t v f : Name) (what : FrameChange) → actor ≡ Supplier t → SaysAlike actor request (Rows (in_rows t v (change.Frame f what)))
by_supplier actor request t v f what is =
    subst (λ a. SaysAlike a request (Rows (in_rows t v (change.Frame f what)))) (sym is) (record { names = λ s. refl; against = λ s b. refl; frames = λ _. refl })

asking-is : (actor : Actor) → IfOk (asking actor) (λ t. actor ≡ Supplier t)
unfolding asking
asking-is Integrator = tt
asking-is (Supplier t) = refl

pub name-is : (text : List ℕ) → IfOk (name text) (λ v. v ≡ text)
unfolding name
name-is text = elim (cases_Bool (is_name text)) [ inl h ↦ rw h refl | inr h ↦ rw h tt ]

pub key-is : (text : List ℕ) → IfOk (key text) (λ k. k ≡ text)
unfolding key
key-is text = elim (cases_Bool (is_key text)) [ inl h ↦ rw h refl | inr h ↦ rw h tt ]

slot-is : (p : Params) (n : ℕ) → IfOk (slot p n) (λ k. k ≡ n)
unfolding slot
slot-is p n = elim (cases_Bool (nat_le 1 n && nat_le n p.static_slots)) [ inl h ↦ rw h refl | inr h ↦ rw h tt ]

channel-is : (p : Params) (text : List ℕ) → IfOk (channel p text) (λ c. channel_of_text text ≡ Some c)
unfolding channel
channel-is p text = gives_or _ (channel_of_text text) _ _ (λ c found. gives_unless _ _ (has_channel p.channels c) _ (λ h. found))

holder-says : (b : Book) (v variant : Name) (k number : ℕ) (c : Channel) (text : List ℕ) → v ≡ variant → k ≡ number → channel_of_text text ≡ Some c → holder_in b v (k, c) ≡ holder_at b variant number text
holder-says b v variant k number c text ev ek ec =
    ap (λ (z : Name × ℕ). holder_in b z.0 (z.1, c)) (λ i. (ev i, ek i))
    ∙ sym (ap (λ o. option_and_then (λ (x : Variant). option_and_then (λ d. get x.grants (number, d)) o) (get b.variants variant)) ec)

pub check-says : (p : Params) (actor : Actor) (r : Request) → IfOk (check p actor r) (Says actor r)
unfolding check
check-says p actor (request.OpenVariant variant begins) =
    gives_unless _ _ (is_integrator actor) _ (λ is.
    gives_each _ (name variant) _ (λ v _.
    gives_each _ (beginning begins) _ (λ from _.
    by_integrator actor _ _ is (λ s. refl) (λ s b. refl) refl)))
check-says p actor (request.Release variant) =
    gives_unless _ _ (is_integrator actor) _ (λ is.
    gives_each _ (name variant) _ (λ v _.
    by_integrator actor _ _ is (λ s. refl) (λ s b. refl) refl))
check-says p actor (request.AddSupplier supplier text) =
    gives_unless _ _ (is_integrator actor) _ (λ is.
    gives_bind _ _ (name supplier) _ (name-is supplier) (λ t t_is.
    gives_bind _ _ (key text) _ (key-is text) (λ k k_is.
    by_integrator actor _ _ is (λ s. ap (λ x. same_text x s) t_is) (λ s b. ap (others_refuse s b) k_is) refl)))
check-says p actor (request.SetKey supplier text) =
    gives_unless _ _ (is_integrator actor) _ (λ is.
    gives_bind _ _ (name supplier) _ (name-is supplier) (λ t t_is.
    gives_bind _ _ (key text) _ (key-is text) (λ k k_is.
    by_integrator actor _ _ is (λ s. ap (λ x. same_text x s) t_is) (λ s b. ap (another_refuses s b) k_is) refl)))
check-says p actor (request.AddNode supplier node) =
    gives_unless _ _ (is_integrator actor) _ (λ is.
    gives_bind _ _ (name supplier) _ (name-is supplier) (λ t t_is.
    gives_each _ (name node) _ (λ n _.
    by_integrator actor _ _ is (λ s. ap (λ x. same_text x s) t_is) (λ s b. refl) refl)))
check-says p actor (request.Grant variant number text supplier node) =
    gives_unless _ _ (is_integrator actor) _ (λ is.
    gives_bind _ _ (name variant) _ (name-is variant) (λ v v_is.
    gives_bind _ _ (name supplier) _ (name-is supplier) (λ t t_is.
    gives_each _ (name node) _ (λ n _.
    gives_bind _ _ (slot p number) _ (slot-is p number) (λ k k_is.
    gives_bind _ _ (channel p text) _ (channel-is p text) (λ c c_is.
    by_integrator actor _ _ is (λ s. ap (λ x. same_text x s) t_is) (λ s b. ap (λ o. refuse Taken when is_another s o) (holder-says b v variant k number c text v_is k_is c_is)) refl))))))
check-says p actor (request.Revoke variant number text supplier) =
    gives_unless _ _ (is_integrator actor) _ (λ is.
    gives_each _ (name variant) _ (λ v _.
    gives_bind _ _ (name supplier) _ (name-is supplier) (λ t t_is.
    gives_each _ (slot p number) _ (λ k _.
    gives_each _ (channel p text) _ (λ c _.
    by_integrator actor _ _ is (λ s. ap (λ x. same_text x s) t_is) (λ s b. refl) refl)))))
check-says p actor (request.AddFrame variant frame node) =
    gives_bind _ _ (asking actor) _ (asking-is actor) (λ t is.
    gives_each _ (name variant) _ (λ v _.
    gives_each _ (name frame) _ (λ f _.
    gives_each _ (name node) _ (λ n _. by_supplier actor _ t v f _ is))))
check-says p actor (request.DropFrame variant frame) =
    gives_bind _ _ (asking actor) _ (asking-is actor) (λ t is.
    gives_each _ (name variant) _ (λ v _.
    gives_each _ (name frame) _ (λ f _. by_supplier actor _ t v f _ is)))
check-says p actor (request.Place variant frame number text base repetition) =
    gives_bind _ _ (asking actor) _ (asking-is actor) (λ t is.
    gives_each _ (name variant) _ (λ v _.
    gives_each _ (name frame) _ (λ f _.
    gives_each _ (placement p number text base repetition) _ (λ q _. by_supplier actor _ t v f _ is))))
check-says p actor (request.Unplace variant frame number text base repetition) =
    gives_bind _ _ (asking actor) _ (asking-is actor) (λ t is.
    gives_each _ (name variant) _ (λ v _.
    gives_each _ (name frame) _ (λ f _.
    gives_each _ (placement p number text base repetition) _ (λ q _. by_supplier actor _ t v f _ is))))
check-says p actor (request.AddSignal variant frame named start length text) =
    gives_bind _ _ (asking actor) _ (asking-is actor) (λ t is.
    gives_each _ (name variant) _ (λ v _.
    gives_each _ (name frame) _ (λ f _.
    gives_each _ (name named) _ (λ n _.
    gives_each _ (signal n start length text) _ (λ x _. by_supplier actor _ t v f _ is)))))
check-says p actor (request.DropSignal variant frame named) =
    gives_bind _ _ (asking actor) _ (asking-is actor) (λ t is.
    gives_each _ (name variant) _ (λ v _.
    gives_each _ (name frame) _ (λ f _.
    gives_each _ (name named) _ (λ n _. by_supplier actor _ t v f _ is))))
check-says p actor (request.Deliver variant how body) =
    gives_bind _ _ (asking actor) _ (asking-is actor) (λ t is.
    gives_each _ (name variant) _ (λ v _.
    gives_each _ (purpose how) _ (λ h _. is)))
check-says p actor (request.Query asked) =
    gives_when _ _ _ _ (λ _.
    gives_each _ (query asked) _ (λ q _.
    gives_when _ _ _ _ (λ _ is s. refl)))
