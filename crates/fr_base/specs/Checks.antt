-- Check: what a request says by itself is checked: whose it is to give, its names, key, cycles, slot, channels, and its
-- signal's length and order. They are asked in the order of refusals.
use Rattle.std.specs.Prelude.{ℕ, Bool, true, false, not, ◌&&◌, List, nat_le, Result, Ok, Err, if◌then◌else◌}
use Rattle.std.specs.List.{list_all}
use Rattle.fr_base.specs.QueryNames.{query_in}
use Rattle.fr_base.specs.Refusing.{◌>>=◌, ◌>>◌, ◌or◌, refuse◌when◌}
use Rattle.fr_base.specs.Names.{is_name, is_key}
use Rattle.fr_base.specs.Cycles.{Cycles, are_cycles, is_repetition}
use Rattle.fr_base.specs.Signals.{SignalData, is_signal_length, order_of_text}
use Rattle.fr_base.specs.Channels.{channels_in, has_channel, channel_of_text, channels_of_text}
use Rattle.fr_base.specs.Changes.{in_rows}
use Rattle.fr_base.specs.declared.channel.Channel.{Channel}
use Rattle.fr_base.specs.declared.channel.Channels.{Channels}
use Rattle.fr_base.specs.declared.key.Key.{Key}
use Rattle.fr_base.specs.declared.name.Name.{Name}
use Rattle.fr_base.specs.declared.params.Params.{Params}
use Rattle.fr_base.specs.declared.placement.Placement.{Placement}
use Rattle.fr_base.specs.declared.refusal.Refusal.{Refusal}
use Rattle.fr_base.specs.declared.refusal.Refusal.TheVariants.{NotYours, BadName, BadKey, BadCycles, BadSlot, BadChannel, BadSignal}
use Rattle.fr_base.specs.declared.actor.Actor.{Actor}
use Rattle.fr_base.specs.declared.actor.Actor.TheVariants.{Integrator, Supplier}
use Rattle.fr_base.specs.declared.request.Request.{Request}
use Rattle.fr_base.specs.declared.request.Request.TheVariants as request
use Rattle.fr_base.specs.declared.request.Command.TheVariants.{Common, AddSupplier, SetKey, AddNode, Rows}
use Rattle.fr_base.specs.declared.beginning.Beginning.{Beginning}
use Rattle.fr_base.specs.declared.beginning.Beginning.TheVariants.{Empty, From, Flat}
use Rattle.fr_base.specs.declared.delivery.Purpose.{Purpose}
use Rattle.fr_base.specs.declared.delivery.Purpose.TheVariants.{Import, Replacement, Trial, Proposal}
use Rattle.fr_base.specs.declared.request.CommonCommand.TheVariants.{OpenVariant, Release}
use Rattle.fr_base.specs.declared.request.Change.TheVariants.{Grant, Revoke, Frame}
use Rattle.fr_base.specs.declared.request.FrameChange.TheVariants.{Add, Drop, Place, Unplace, AddSignal, DropSignal}
use Rattle.fr_base.specs.declared.query.Query.{Query}
use Rattle.fr_base.specs.declared.query.Query.TheVariants.{Variant}
use Rattle.fr_base.specs.declared.report.Report.{Report}
use Rattle.fr_base.specs.declared.report.Report.TheVariants.{Room}
use Rattle.fr_base.specs.declared.request.Checked.{Checked}
use Rattle.fr_base.specs.declared.request.Checked.TheVariants as checked

abbrev pub is_integrator : Actor → Bool
is_integrator Integrator = true
is_integrator (Supplier s) = false

-- the supplier that asks; the integrator may not ask this
unfoldable pub asking : Actor → Result Name Refusal
asking Integrator = Err NotYours
asking (Supplier s) = Ok s

-- a text that is a name
unfoldable pub name : List ℕ → Result Name Refusal
name text = if is_name text then Ok text else Err BadName

-- a text that is a key
unfoldable pub key : List ℕ → Result Key Refusal
key text = if is_key text then Ok text else Err BadKey

-- a base and a repetition that select cycles of the cluster
unfoldable pub cycles : Params → ℕ → ℕ → Result Cycles Refusal
cycles p base repetition =
    let s : Cycles = record { count = p.cycles; base = base; repetition = repetition } in
    if are_cycles s then Ok s else Err BadCycles

-- a static slot of the cluster
unfoldable pub slot : Params → ℕ → Result ℕ Refusal
slot p n = if nat_le 1 n && nat_le n p.static_slots then Ok n else Err BadSlot

-- a channel that the cluster has
unfoldable pub channel : Params → List ℕ → Result Channel Refusal
channel p text = do
  c ← channel_of_text text or BadChannel
  refuse BadChannel when not (has_channel p.channels c)
  Ok c

-- channels that the cluster has
unfoldable pub channels : Params → List ℕ → Result Channels Refusal
channels p text = do
  cs ← channels_of_text text or BadChannel
  refuse BadChannel when not (list_all (has_channel p.channels) (channels_in cs))
  Ok cs

-- a placement: its cycles are asked first, then its slot, then its channels
unfoldable pub placement : Params → ℕ → List ℕ → ℕ → ℕ → Result Placement Refusal
placement p number text base repetition = do
  r ← cycles p base repetition
  k ← slot p number
  cs ← channels p text
  Ok (record { slot = k; channels = cs; cycles = r })

-- a signal of 1 to 64 bits in one of the two orders
unfoldable pub signal : Name → ℕ → ℕ → List ℕ → Result SignalData Refusal
signal n start length text = do
  order ← order_of_text text or BadSignal
  refuse BadSignal when not (is_signal_length length)
  Ok (record { name = n; start = start; length = length; order = order })

-- what a new variant begins with: the name of a released variant, or none
unfoldable pub beginning : Beginning (List ℕ) → Result (Beginning Name) Refusal
beginning Empty = Ok Empty
beginning (From text) = do
  parent ← name text
  Ok (From parent)
beginning (Flat text) = do
  from ← name text
  Ok (Flat from)

-- what a file is delivered for: the label of an import is a name
unfoldable pub purpose : Purpose (List ℕ) → Result (Purpose Name) Refusal
purpose (Import label) = do
  l ← name label
  Ok (Import l)
purpose (Replacement whole) = Ok (Replacement whole)
purpose (Trial manner) = Ok (Trial manner)
purpose (Proposal replace) = Ok (Proposal replace)

-- a query whose names are checked
unfoldable pub query : Query (List ℕ) ℕ → Result (Query Name ℕ) Refusal
query = query_in name Ok

-- whether a query is of the room for a frame, which a supplier alone may ask
abbrev pub is_of_room : {N M : Type 0} → Query N M → Bool
is_of_room (Variant variant (Room frame repetition)) = true
is_of_room _ = false

-- whether the repetition of a report, where it has one, divides the count of cycles
abbrev pub divides : {F : Type 0} → Params → Report F ℕ → Bool
divides p (Room frame repetition) = is_repetition p.cycles repetition
divides p _ = true

-- whether the repetition of a query, where it has one, divides the count of cycles
abbrev pub has_repetition : {N : Type 0} → Params → Query N ℕ → Bool
has_repetition p (Variant variant asked) = divides p asked
has_repetition p _ = true

-- the request with checked values
unfoldable pub check : Params → Actor → Request → Result Checked Refusal
check p actor (request.OpenVariant variant begins) = do
  refuse NotYours when not (is_integrator actor)
  v ← name variant
  b ← beginning begins
  Ok (checked.Command (Common (OpenVariant v b)))
check p actor (request.Release variant) = do
  refuse NotYours when not (is_integrator actor)
  v ← name variant
  Ok (checked.Command (Common (Release v)))
check p actor (request.AddSupplier supplier text) = do
  refuse NotYours when not (is_integrator actor)
  s ← name supplier
  k ← key text
  Ok (checked.Command (AddSupplier s k))
check p actor (request.SetKey supplier text) = do
  refuse NotYours when not (is_integrator actor)
  s ← name supplier
  k ← key text
  Ok (checked.Command (SetKey s k))
check p actor (request.AddNode supplier node) = do
  refuse NotYours when not (is_integrator actor)
  s ← name supplier
  n ← name node
  Ok (checked.Command (AddNode s n))
check p actor (request.Grant variant number text supplier node) = do
  refuse NotYours when not (is_integrator actor)
  v ← name variant
  s ← name supplier
  n ← name node
  k ← slot p number
  c ← channel p text
  Ok (checked.Command (Rows (in_rows s v (Grant k c n))))
check p actor (request.Revoke variant number text supplier) = do
  refuse NotYours when not (is_integrator actor)
  v ← name variant
  s ← name supplier
  k ← slot p number
  c ← channel p text
  Ok (checked.Command (Rows (in_rows s v (Revoke k c))))
check p actor (request.AddFrame variant frame node) = do
  s ← asking actor
  v ← name variant
  f ← name frame
  n ← name node
  Ok (checked.Command (Rows (in_rows s v (Frame f (Add n)))))
check p actor (request.DropFrame variant frame) = do
  s ← asking actor
  v ← name variant
  f ← name frame
  Ok (checked.Command (Rows (in_rows s v (Frame f Drop))))
check p actor (request.Place variant frame number text base repetition) = do
  s ← asking actor
  v ← name variant
  f ← name frame
  q ← placement p number text base repetition
  Ok (checked.Command (Rows (in_rows s v (Frame f (Place q)))))
check p actor (request.Unplace variant frame number text base repetition) = do
  s ← asking actor
  v ← name variant
  f ← name frame
  q ← placement p number text base repetition
  Ok (checked.Command (Rows (in_rows s v (Frame f (Unplace q)))))
check p actor (request.AddSignal variant frame named start length text) = do
  s ← asking actor
  v ← name variant
  f ← name frame
  n ← name named
  x ← signal n start length text
  Ok (checked.Command (Rows (in_rows s v (Frame f (AddSignal x)))))
check p actor (request.DropSignal variant frame named) = do
  s ← asking actor
  v ← name variant
  f ← name frame
  n ← name named
  Ok (checked.Command (Rows (in_rows s v (Frame f (DropSignal n)))))
check p actor (request.Deliver variant how body) = do
  s ← asking actor
  v ← name variant
  h ← purpose how
  Ok (checked.Deliver (record { supplier = s; variant = v; how = h; body = body }))
check p actor (request.Query asked) = do
  refuse NotYours when is_integrator actor && is_of_room asked
  q ← query asked
  refuse BadCycles when not (has_repetition p q)
  Ok (checked.Query q)
