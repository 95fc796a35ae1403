-- One supplier's: a supplier's rows of a book. Which requests are its own, or concern it, and what of a list of
-- requests is the supplier's. The register that holds it alone: that is the same step, on a book with its rows and the
-- variants alone, and it begins with the cluster file's entry of this supplier, if there is one. What may differ beside
-- other suppliers.
use Rattle.std.specs.Prelude.{ℕ, Bool, true, false, not, ◌&&◌, nat_le, List, [], ◌∷◌, filter, Option, Some, None, if◌then◌else◌}
use Rattle.std.specs.List.{list_any}
use Rattle.std.specs.Option.{option_and_then}
use Rattle.fr_base.specs.Tables.{get, len, only, each}
use Rattle.fr_base.specs.Channels.{channel_of_text}
use Rattle.fr_base.specs.Cluster.{Cluster, ClusterFile}
use Rattle.fr_base.specs.Names.{same_text}
use Rattle.fr_base.specs.Book.{Holder, Variant, Book, Sender, own, own_grants}
use Rattle.fr_base.specs.Step.{step}
use Rattle.fr_base.specs.declared.limits.TheConstants.{MAX_SUPPLIERS}
use Rattle.fr_base.specs.declared.name.Name.{Name}
use Rattle.fr_base.specs.declared.answer.Answer.{Answer}
use Rattle.fr_base.specs.declared.answer.Answer.TheVariants.{Done, Refused, RefusedRow}
use Rattle.fr_base.specs.declared.refusal.Refusal.{Refusal}
use Rattle.fr_base.specs.declared.refusal.Refusal.TheVariants.{Limit, Taken, Unavailable, KeyTaken}
use Rattle.fr_base.specs.declared.actor.Actor.{Actor}
use Rattle.fr_base.specs.declared.actor.Actor.TheVariants.{Integrator, Supplier}
use Rattle.fr_base.specs.declared.request.Ask.{Ask}
use Rattle.fr_base.specs.declared.request.Request.{Request}
use Rattle.fr_base.specs.declared.request.Request.TheVariants.{OpenVariant, Release, AddSupplier, SetKey, AddNode, Grant, Revoke}

-- ---- rows

-- a variant with the supplier's grants and frames alone; its parent, its depth and whether it is released are common to all
unfoldable pub own_variant : Name → Variant → Variant
own_variant s v = record v { grants = own_grants s v.grants; frames = own s v.frames }

-- a supplier's rows of a book: itself with its key, its nodes, all variants with its grants and frames, and its imports
unfoldable pub rows_of : Name → Book → Book
rows_of s b = record {
  suppliers = only (λ t _. same_text t s) b.suppliers;
  nodes = own s b.nodes;
  variants = each (own_variant s) b.variants;
  imports = own s b.imports;
}

-- who sends in a cell, where it is the supplier
abbrev pub own_sender : Name → Option Sender → Option Sender
own_sender s None = None
own_sender s (Some o) = if same_text o.supplier s then Some o else None

-- ---- requests

-- whether an integrator's command is common to all suppliers, or names this one; a supplier's requests and queries are none
abbrev pub concerns : Name → Request → Bool
concerns s (OpenVariant v beginning) = true
concerns s (Release v) = true
concerns s (AddSupplier t key) = same_text t s
concerns s (SetKey t key) = same_text t s
concerns s (AddNode t n) = same_text t s
concerns s (Grant v k c t n) = same_text t s
concerns s (Revoke v k c t) = same_text t s
concerns s _ = false

abbrev pub is_done : Answer → Bool
is_done Done = true
is_done _ = false

-- whether the refusal is Unavailable
abbrev pub lacked : Refusal → Bool
lacked Unavailable = true
lacked _ = false

abbrev pub is_unavailable : Answer → Bool
is_unavailable (Refused r) = lacked r
is_unavailable _ = false

-- whether the answer is a refusal, of the request or of an import's row
abbrev pub is_refused : Answer → Bool
is_refused (Refused r) = true
is_refused (RefusedRow line r) = true
is_refused _ = false

-- Whether a request that was answered so is the supplier's: its own, unless it was answered Unavailable; and of the
-- integrator's commands those that were done and are common or name the supplier.
abbrev pub is_mine : Name → Actor → Request → Answer → Bool
is_mine s (Supplier t) request answer = same_text t s && not (is_unavailable answer)
is_mine s Integrator request answer = is_done answer && concerns s request

-- what of some requests and their answers is the supplier's, in order: the requests
abbrev pub asks_of : Name → List Ask → List Answer → List Ask
asks_of s (ask ∷ asks) (answer ∷ answers) =
    if is_mine s ask.actor ask.request answer then ask ∷ asks_of s asks answers else asks_of s asks answers
asks_of s _ _ = []

-- and their answers
abbrev pub answers_of : Name → List Ask → List Answer → List Answer
answers_of s (ask ∷ asks) (answer ∷ answers) =
    if is_mine s ask.actor ask.request answer then answer ∷ answers_of s asks answers else answers_of s asks answers
answers_of s _ _ = []

-- ---- a supplier alone

-- the cluster file with this supplier alone, or with none where it does not name the supplier
abbrev pub alone : Name → ClusterFile → ClusterFile
alone s f = record f { suppliers = filter (λ t. same_text t.name s) f.suppliers }

-- the answers to some requests, one step after another: those of the run in which none is Unavailable
abbrev pub answers_to : Cluster → Book → List Ask → List Answer
answers_to c b [] = []
answers_to c b (ask ∷ asks) =
    (step c b ask.actor ask.request).answer ∷ answers_to c (step c b ask.actor ask.request).book asks

-- the book after them
abbrev pub book_after : Cluster → Book → List Ask → Book
book_after c b [] = b
book_after c b (ask ∷ asks) = book_after c (step c b ask.actor ask.request).book asks

-- ---- beside other suppliers

-- who holds the slot and channel of that text in the variant
abbrev pub holder_at : Book → Name → ℕ → List ℕ → Option Holder
holder_at b v k channel =
    option_and_then (λ variant. option_and_then (λ c. get variant.grants (k, c)) (channel_of_text channel)) (get b.variants v)

-- whether that is another supplier
abbrev pub is_another : Name → Option Holder → Bool
is_another s None = false
is_another s (Some h) = not (same_text h.supplier s)

-- whether another supplier has the key
abbrev pub another_has : Name → Book → List ℕ → Bool
another_has s b key = list_any (λ row. not (same_text row.0 s) && same_text key row.1) b.suppliers.rows

-- whether 64 suppliers are there
abbrev pub is_full : Book → Bool
is_full b = nat_le MAX_SUPPLIERS (len b.suppliers)

-- The answer beside other suppliers, from the answer in the register of the supplier alone: a Grant that is done there is
-- Taken where another supplier holds slot and channel; an AddSupplier that is done there is KeyTaken where another supplier has the
-- key, else Limit where no more may join; a SetKey that is done there is KeyTaken where another supplier has the key; all
-- else is answered alike.
abbrev pub beside : Name → Book → Request → Answer → Answer
beside s b (Grant v slot channel t n) Done = if is_another s (holder_at b v slot channel) then Refused Taken else Done
beside s b (AddSupplier t key) Done = if another_has s b key then Refused KeyTaken else if is_full b then Refused Limit else Done
beside s b (SetKey t key) Done = if another_has s b key then Refused KeyTaken else Done
beside s b request answer = answer
