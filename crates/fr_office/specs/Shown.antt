-- Shown: what is read to answer a query, of the pages of those whose rows the actor sees, and that the
-- report shows what the definition says.
use Rattle.std.specs.List.{flat_map}
use Rattle.std.specs.Prelude.{◌≡◌, ℕ, ◌<◌, ◌⊎◌, Bool, true, List, [], ◌∷◌, ◌++◌, if◌then◌else◌, filter, is_some, length, map, Option, Some, None, Result, Ok, Err, MatchResult, ⊤}
use Rattle.fr_base.specs.Book.{Book, Frame, Variant, own}
use Rattle.fr_base.specs.Cluster.{Cluster, ClusterFile}
use Rattle.fr_base.specs.Queries.{figures, named, shown, signal_rows}
use Rattle.fr_base.specs.Sound.{IsSound}
use Rattle.fr_base.specs.Tables.{get}
use Rattle.fr_base.specs.Names.{same_text}
use Rattle.fr_base.specs.declared.actor.Actor.{Actor}
use Rattle.fr_base.specs.declared.actor.Actor.TheVariants.{Integrator, Supplier}
use Rattle.fr_base.specs.declared.answer.ReportRows.{ReportRows}
use Rattle.fr_base.specs.declared.answer.ClusterRow.{ClusterRow}
use Rattle.fr_base.specs.declared.answer.ClusterRow.TheVariants as cluster
use Rattle.fr_base.specs.declared.answer.LoadRow.{LoadRow}
use Rattle.fr_base.specs.declared.answer.NodeRow.{NodeRow}
use Rattle.fr_base.specs.declared.answer.SignalRow.{SignalRow}
use Rattle.fr_base.specs.declared.config.Supplier.{Supplier as Listed}
use Rattle.fr_base.specs.declared.name.Name.{Name}
use Rattle.fr_base.specs.declared.params.Params.{Params}
use Rattle.fr_base.specs.declared.refusal.Refusal.{Refusal}
use Rattle.fr_base.specs.declared.refusal.Refusal.TheVariants.{NoVariant, Unavailable}
use Rattle.fr_base.specs.declared.report.Report.{Report}
use Rattle.fr_world.specs.Held.{Standing}
use Rattle.fr_world.specs.Pages.{PageData, page_in}

-- the suppliers whose rows the actor sees, by name
unfoldable pub seen_names : Actor → Book → List Name
seen_names Integrator b = map (λ e. e.0) b.suppliers.rows
seen_names (Supplier s) b = s ∷ []

-- whether the actor is told of a supplier: a supplier is told of itself, the integrator of all
abbrev pub sees : Actor → Name → Bool
sees Integrator supplier = true
sees (Supplier asking) supplier = same_text supplier asking

-- the row of a supplier that the actor is told of, if it is
abbrev pub supplier_told : Actor → Listed → List ClusterRow
supplier_told actor supplier = if sees actor supplier.name then cluster.Supplier supplier.name ∷ [] else []

-- what the actor is told of the cluster, by what its file says
abbrev pub cluster_told : ClusterFile → Actor → List ClusterRow
cluster_told file actor = figures file.cluster.params ++ flat_map (supplier_told actor) file.suppliers

-- a node of a supplier
abbrev pub node_of : Name → Name → NodeRow
node_of supplier node = record { node = node; supplier = supplier }

-- What was read of a sound book tells this of it, or the answer is Unavailable. The records stand
-- for the same book as before.
abbrev pub Sees : {X : Type 0} → (Cluster → Book → X → Type 0) → Standing → Standing → Result X Refusal → Type 0
Sees says old new r = (c : Cluster) (b : Book) → old c b → IsSound c b → new c b × MatchResult r (says c b) (λ e. e ≡ Unavailable)

-- The supplier's page of the variant is the one that is lent; or the variant is not there, or the answer is Unavailable. The records
-- stand for the same book as before.
abbrev pub FindsPage : Option PageData → Name → Name → Standing → Standing → Result ⊤ Refusal → Type 0
FindsPage lent s v old new r = (c : Cluster) (b : Book) → old c b → new c b × MatchResult r
    (λ _. (x : Variant) × (get b.variants v ≡ Some x) × (lent ≡ Some (page_in c.params b s v x)))
    (λ e. (e ≡ Unavailable) ⊎ ((e ≡ NoVariant) × (get b.variants v ≡ None)))

-- This was gathered of the variant, if it is there; or it is not there, or the answer is
-- Unavailable. The records stand for the same book as before.
abbrev pub Gathers : {X : Type 0} → Name → (Params → Variant → X → Type 0) → Standing → Standing → Result X Refusal → Type 0
Gathers v says old new r = (c : Cluster) (b : Book) → old c b → new c b × MatchResult r
    (λ found. (x : Variant) → get b.variants v ≡ Some x → says c.params x found)
    (λ e. (e ≡ Unavailable) ⊎ ((e ≡ NoVariant) × (get b.variants v ≡ None)))

-- The report shows the actor what the definition says of the variant, if it is there; or the answer
-- is Unavailable. The records stand for the same book as before.
abbrev pub Shows : Actor → Name → Report Name ℕ → Standing → Standing → Result ReportRows Refusal → Type 0
Shows actor v report old new r = (c : Cluster) (b : Book) → old c b → IsSound c b → new c b × ((x : Variant) → get b.variants v ≡ Some x → MatchResult r
    (λ answer. shown c.params actor x report ≡ Ok answer)
    (λ e. (e ≡ Unavailable) ⊎ (shown c.params actor x report ≡ Err e)))

-- of the rows of all lanes those that the actor is shown: a supplier those of lanes that are held, the
-- integrator all
unfoldable pub lanes_told : Actor → List LoadRow → List LoadRow
lanes_told Integrator lanes = lanes
lanes_told (Supplier s) lanes = filter (λ lane. is_some lane.holder) lanes

-- the frames of this name of these suppliers in the variant, supplier after supplier
abbrev pub frames_named : Name → List Name → Variant → List ((Name × Name) × Frame)
frames_named f ss x = flat_map (λ s. (named f (own s x.frames)).rows) ss

-- The signals in the payloads of these frames. None, where there is no such frame.
abbrev pub AreSignals : Name → List Name → Variant → Option (List SignalRow) → Type 0
AreSignals f ss x None = frames_named f ss x ≡ []
AreSignals f ss x (Some rows) = (0 < length (frames_named f ss x)) × (rows ≡ flat_map signal_rows (frames_named f ss x))
