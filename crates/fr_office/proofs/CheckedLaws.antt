-- A command that passed its check has a placement that fits the cluster, or a signal that has a length; and who changes a frame is who
-- asks.
use Rattle.std.proofs.Common.{◌≡◌, Ok, IfOk, refl, subst}
use Rattle.std.specs.Prelude.{⊤}
use Rattle.fr_base.specs.Checks.{asking, channel, check, key, name, beginning, placement, purpose, query, signal, slot}
use Rattle.fr_base.specs.declared.actor.Actor.{Actor}
use Rattle.fr_base.specs.declared.actor.Actor.TheVariants.{Integrator, Supplier}
use Rattle.fr_base.specs.declared.name.Name.{Name}
use Rattle.fr_base.specs.declared.params.Params.{Params}
use Rattle.fr_base.specs.declared.request.Request.{Request}
use Rattle.fr_base.specs.declared.request.Request.TheVariants as request
use Rattle.fr_base.specs.declared.request.Checked.{Checked}
use Rattle.fr_base.specs.declared.request.Checked.TheVariants as checked
use Rattle.fr_base.specs.declared.request.Command.{Command}
use Rattle.fr_base.specs.declared.request.Command.TheVariants.{Common, AddSupplier, SetKey, AddNode, Rows}
use Rattle.fr_base.specs.declared.request.Change.{Change}
use Rattle.fr_base.specs.declared.request.Change.TheVariants.{Grant, Revoke, Frame}
use Rattle.fr_base.specs.declared.request.FrameChange.{FrameChange}
use Rattle.fr_base.specs.declared.request.FrameChange.TheVariants.{Add, Drop, Place, Unplace, AddSignal, DropSignal}
use Rattle.fr_base.proofs.SoundChecks.{HasForm, IsFormed, IsFormedChange, IsFormedFrame, check-form}
use Rattle.fr_world.specs.Decisions.{IsChecked}
use Rattle.fr_base.proofs.SoundRefusing.{gives_bind, gives_each, gives_when}
use Rattle.fr_office.specs.Decided.{IsCheckedCommand, IsOwnCommand}

-- a change of the right form is checked
frame-checked : (p : Params) (f : Name) (change : FrameChange) → IsFormedFrame p f change → IsChecked p (Frame f change)
frame-checked p f (Add n) form = tt
frame-checked p f Drop form = tt
frame-checked p f (Place q) form = form
frame-checked p f (Unplace q) form = tt
frame-checked p f (AddSignal x) form = form.1
frame-checked p f (DropSignal n) form = tt

change-checked : (p : Params) (change : Change) → IsFormedChange p change → IsChecked p change
change-checked p (Grant k c n) form = tt
change-checked p (Revoke k c) form = tt
change-checked p (Frame f change) form = frame-checked p f change form

form-checked : (p : Params) (command : Command) → HasForm p command → IsCheckedCommand p command
form-checked p (Common command) form = tt
form-checked p (AddSupplier s key) form = tt
form-checked p (SetKey s key) form = tt
form-checked p (AddNode s n) form = tt
form-checked p (Rows rows) form = change-checked p rows.change form

pub command-checked : (p : Params) (actor : Actor) (request : Request) (command : Command) → check p actor request ≡ Ok (checked.Command command) → IsCheckedCommand p command
command-checked p actor request command said = form-checked p command (subst (λ r. IfOk r (IsFormed p actor)) said (check-form p actor request))

-- ---- who asks

-- who changes a frame is who asks
abbrev IsOwn : Actor → Checked → Type 0
IsOwn actor (checked.Command command) = IsOwnCommand actor command
IsOwn actor (checked.Deliver d) = ⊤
IsOwn actor (checked.Query query) = ⊤

asking-own : (actor : Actor) → IfOk (asking actor) (λ s. actor ≡ Supplier s)
unfolding asking
asking-own Integrator = tt
asking-own (Supplier s) = refl

check-own : (p : Params) (actor : Actor) (r : Request) → IfOk (check p actor r) (IsOwn actor)
unfolding check
check-own p actor (request.OpenVariant variant begins) =
    gives_when _ _ _ _ (λ _. gives_each _ (name variant) _ (λ v _. gives_each _ (beginning begins) _ (λ from _. tt)))
check-own p actor (request.Release variant) = gives_when _ _ _ _ (λ _. gives_each _ (name variant) _ (λ v _. tt))
check-own p actor (request.AddSupplier supplier text) =
    gives_when _ _ _ _ (λ _. gives_each _ (name supplier) _ (λ s _. gives_each _ (key text) _ (λ k _. tt)))
check-own p actor (request.SetKey supplier text) =
    gives_when _ _ _ _ (λ _. gives_each _ (name supplier) _ (λ s _. gives_each _ (key text) _ (λ k _. tt)))
check-own p actor (request.AddNode supplier node) =
    gives_when _ _ _ _ (λ _. gives_each _ (name supplier) _ (λ s _. gives_each _ (name node) _ (λ n _. tt)))
check-own p actor (request.Grant variant number text supplier node) =
    gives_when _ _ _ _ (λ _.
    gives_each _ (name variant) _ (λ v _.
    gives_each _ (name supplier) _ (λ s _.
    gives_each _ (name node) _ (λ n _.
    gives_each _ (slot p number) _ (λ k _.
    gives_each _ (channel p text) _ (λ c _. tt))))))
check-own p actor (request.Revoke variant number text supplier) =
    gives_when _ _ _ _ (λ _.
    gives_each _ (name variant) _ (λ v _.
    gives_each _ (name supplier) _ (λ s _.
    gives_each _ (slot p number) _ (λ k _.
    gives_each _ (channel p text) _ (λ c _. tt)))))
check-own p actor (request.AddFrame variant frame node) =
    gives_bind _ _ (asking actor) _ (asking-own actor) (λ s own.
    gives_each _ (name variant) _ (λ v _.
    gives_each _ (name frame) _ (λ f _.
    gives_each _ (name node) _ (λ n _. own))))
check-own p actor (request.DropFrame variant frame) =
    gives_bind _ _ (asking actor) _ (asking-own actor) (λ s own.
    gives_each _ (name variant) _ (λ v _.
    gives_each _ (name frame) _ (λ f _. own)))
check-own p actor (request.Place variant frame number text base repetition) =
    gives_bind _ _ (asking actor) _ (asking-own actor) (λ s own.
    gives_each _ (name variant) _ (λ v _.
    gives_each _ (name frame) _ (λ f _.
    gives_each _ (placement p number text base repetition) _ (λ q _. own))))
check-own p actor (request.Unplace variant frame number text base repetition) =
    gives_bind _ _ (asking actor) _ (asking-own actor) (λ s own.
    gives_each _ (name variant) _ (λ v _.
    gives_each _ (name frame) _ (λ f _.
    gives_each _ (placement p number text base repetition) _ (λ q _. own))))
check-own p actor (request.AddSignal variant frame named start length text) =
    gives_bind _ _ (asking actor) _ (asking-own actor) (λ s own.
    gives_each _ (name variant) _ (λ v _.
    gives_each _ (name frame) _ (λ f _.
    gives_each _ (name named) _ (λ n _.
    gives_each _ (signal n start length text) _ (λ x _. own)))))
check-own p actor (request.DropSignal variant frame named) =
    gives_bind _ _ (asking actor) _ (asking-own actor) (λ s own.
    gives_each _ (name variant) _ (λ v _.
    gives_each _ (name frame) _ (λ f _.
    gives_each _ (name named) _ (λ n _. own))))
check-own p actor (request.Deliver variant how body) =
    gives_each _ (asking actor) _ (λ s _.
    gives_each _ (name variant) _ (λ v _.
    gives_each _ (purpose how) _ (λ h _. tt)))
check-own p actor (request.Query asked) = gives_when _ _ _ _ (λ _. gives_each _ (query asked) _ (λ q _. gives_when _ _ _ _ (λ _. tt)))

pub command-own : (p : Params) (actor : Actor) (request : Request) (command : Command) → check p actor request ≡ Ok (checked.Command command) → IsOwnCommand actor command
command-own p actor request command said = subst (λ r. IfOk r (IsOwn actor)) said (check-own p actor request)
