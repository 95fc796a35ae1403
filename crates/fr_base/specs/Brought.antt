-- Brought: what the rows of a file bring to a frame that they name: its node, its placements, its signals.
use Rattle.std.specs.Prelude.{List, [], ◌∷◌, map, if◌then◌else◌, Option, Some, None, Result, Ok, Err, ⊤}
use Rattle.std.specs.List.{flat_map}
use Rattle.fr_base.specs.Tables.{Table, empty, from_rows}
use Rattle.fr_base.specs.Keys.{placement_order}
use Rattle.fr_base.specs.Names.{same_text}
use Rattle.fr_base.specs.Signals.{SignalData}
use Rattle.fr_base.specs.Layouts.{with_signal}
use Rattle.fr_base.specs.Book.{Frame}
use Rattle.fr_base.specs.declared.import.Row.{Row}
use Rattle.fr_base.specs.declared.import.Row.TheVariants.{AddFrame, Place, AddSignal}
use Rattle.fr_base.specs.declared.import.RowRead.{RowRead}
use Rattle.fr_base.specs.declared.name.Name.{Name}
use Rattle.fr_base.specs.declared.placement.Placement.{Placement}
use Rattle.fr_base.specs.declared.refusal.Refusal.{Refusal}

-- ---- rows

-- what is brought, if the name is the frame's
abbrev pub if_named : {A : Type 0} → Name → Name → A → List A
if_named f g x = if same_text g f then x ∷ [] else []

-- the node that a row says the frame is of; a row of signals says none
abbrev pub node_for : Name → Result Row Refusal → List Name
node_for f (Ok (AddFrame g n)) = if_named f g n
node_for f (Ok (Place g n q)) = if_named f g n
node_for f (Ok (AddSignal g signal)) = []
node_for f (Err refusal) = []

-- the placement that a row gives the frame
abbrev pub placement_for : Name → Result Row Refusal → List Placement
placement_for f (Ok (AddFrame g n)) = []
placement_for f (Ok (Place g n q)) = if_named f g q
placement_for f (Ok (AddSignal g signal)) = []
placement_for f (Err refusal) = []

-- the signal that a row gives the frame
abbrev pub signal_for : Name → Result Row Refusal → List SignalData
signal_for f (Ok (AddFrame g n)) = []
signal_for f (Ok (Place g n q)) = []
signal_for f (Ok (AddSignal g signal)) = if_named f g signal
signal_for f (Err refusal) = []

-- ---- all rows, in turn

abbrev pub nodes_for : Name → List RowRead → List Name
nodes_for f reads = flat_map (λ read. node_for f read.row) reads

abbrev pub placements_for : Name → List RowRead → List Placement
placements_for f reads = flat_map (λ read. placement_for f read.row) reads

abbrev pub signals_for : Name → List RowRead → List SignalData
signals_for f reads = flat_map (λ read. signal_for f read.row) reads

-- ---- what the frame has in the end

-- the node of the frame that was there, or else the first node that the rows name
abbrev pub node_or : List Name → Option Frame → Option Name
node_or nodes (Some frame) = Some frame.node
node_or (n ∷ nodes) None = Some n
node_or [] None = None

-- the placements that a frame had before; none where no frame was there
abbrev pub had_placements : Option Frame → Table placement_order ⊤
had_placements (Some frame) = frame.placements
had_placements None = empty

-- the signals that a frame had before; none where no frame was there
abbrev pub had_signals : Option Frame → List SignalData
had_signals (Some frame) = frame.signals
had_signals None = []

-- the placements that the rows bring; where they bring none, those that the frame had before
abbrev pub placed_by : List Placement → Table placement_order ⊤ → Table placement_order ⊤
placed_by [] had = had
placed_by (q ∷ qs) had = from_rows (map (λ r. (r, tt)) (q ∷ qs))

-- the signals of the first list with those of the second, each put in by its start
abbrev pub put_in : List SignalData → List SignalData → List SignalData
put_in signals [] = signals
put_in signals (s ∷ more) = put_in (with_signal s signals) more

-- the signals that the rows bring; where they bring none, those that the frame had before
abbrev pub signalled_by : List SignalData → List SignalData → List SignalData
signalled_by [] had = had
signalled_by (s ∷ signals) had = put_in [] (s ∷ signals)
