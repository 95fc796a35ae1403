-- Commands that are common, or name the supplier, over all rows and over the supplier's own; and those that name another.
use Rattle.std.proofs.Common.{◌≡◌, ℕ, Bool, true, false, not, cond, Option, Some, None, is_some, Result, Ok, Err, IfOk, refl, sym, ap, subst, ◌∙◌}
use Rattle.std.specs.Prelude.{⊤, nat_le}
use Rattle.std.specs.Option.{option_and_then}
use Rattle.fr_base.specs.Refusing.{◌>>=◌, ◌>>◌, refuse◌when◌}
use Rattle.fr_base.specs.Changes.{in_rows}
use Rattle.fr_base.specs.declared.limits.TheConstants.{MAX_DEPTH, MAX_VARIANTS, MAX_NODES}
use Rattle.fr_base.specs.Tables.{get, contains, len}
use Rattle.fr_base.specs.Keys.{owned, channel_slots}
use Rattle.fr_base.specs.Names.{same_text}
use Rattle.fr_base.specs.Cluster.{Cluster}
use Rattle.fr_base.specs.Book.{Holder, Variant, Book, empty_variant, held_by, is_of, own, own_grants}
use Rattle.fr_base.specs.Step.{own_rows, shared_by, admits, begun, common, add_supplier, set_key, add_node, change_rows, done, perform}
use Rattle.fr_base.specs.Sound.{IsSound}
use Rattle.fr_base.specs.Alone.{own_variant, rows_of, is_another}
use Rattle.fr_base.specs.declared.channel.Channel.{Channel}
use Rattle.fr_base.specs.declared.name.Name.{Name}
use Rattle.fr_base.specs.declared.refusal.Refusal.{Refusal}
use Rattle.fr_base.specs.declared.refusal.Refusal.TheVariants.{NoVariant, Released, NotReleased, TooDeep, NoSupplier, Exists, Limit, Taken}
use Rattle.fr_base.specs.declared.request.Command.{Command}
use Rattle.fr_base.specs.declared.request.Command.TheVariants.{Common, AddSupplier, SetKey, AddNode, Rows}
use Rattle.fr_base.specs.declared.request.CommonCommand.{CommonCommand}
use Rattle.fr_base.specs.declared.beginning.Beginning.{Beginning}
use Rattle.fr_base.specs.declared.beginning.Beginning.TheVariants.{Empty, From, Flat}
use Rattle.fr_base.specs.declared.request.CommonCommand.TheVariants.{OpenVariant, Release}
use Rattle.fr_base.specs.declared.request.Change.{Change}
use Rattle.fr_base.specs.declared.request.Change.TheVariants as change
use Rattle.fr_base.proofs.TableLaws.{get-only, kept}
use Rattle.fr_base.proofs.SoundRows.{same_text-is}
use Rattle.fr_base.proofs.SoundRefusing.{gives_bind, gives_when, gives_unless}
use Rattle.fr_base.proofs.AloneTables.{only-empty}
use Rattle.fr_base.proofs.AloneRefusing.{map_ok, alike_or, alike_when, alike_map}
use Rattle.fr_base.proofs.AloneRows.{rows_of-variant, rows_of-has, rows_of-count, rows_of-supplier, rows_of-node, rows_of-nodes, rows_of-with, rows_of-more_nodes, rows_of-more_nodes_other}
use Rattle.fr_base.proofs.AloneChanges.{unless, unless_none, admits-own, grant-last, change_rows-own, change_rows-other}
use Rattle.fr_base.proofs.AloneJoining.{others_refuse, add_supplier-own, add_supplier-other}
use Rattle.fr_base.proofs.AloneKeys.{another_refuses, set_key-own, set_key-other}
use Rattle.fr_base.proofs.AloneOutcomes.{seen, done-own}

-- ---- commands that change no rows of a variant

own-empty : (s : Name) → own_variant s empty_variant ≡ empty_variant
unfolding own_variant empty_variant
own-empty s = λ i. record empty_variant { grants = only-empty channel_slots (λ _ h. held_by s (Some h)) i; frames = only-empty owned (λ k _. is_of s k) i }

module _ (s : Name) (b : Book) where
  abbrev LikeVariant : Result Variant Refusal → Result Variant Refusal → Type 0
  LikeVariant r u = map_ok (own_variant s) r ≡ u

  abbrev Like : Result Book Refusal → Result Book Refusal → Type 0
  Like r u = map_ok (rows_of s) r ≡ u

  begun-own : (beginning : Beginning Name) → map_ok (own_variant s) (begun b beginning) ≡ begun (rows_of s b) beginning
  unfolding begun own_variant
  begun-own Empty = ap Ok (own-empty s)
  begun-own (Flat from) =
      alike_or LikeVariant (λ e. refl) (own_variant s) (get b.variants from) _ (rows_of-variant s b from) NoVariant _ _ (λ x found.
      alike_when LikeVariant (λ e. refl) NotReleased (not x.released) (not x.released) refl _ _ (λ _. refl))
  begun-own (From parent) =
      alike_or LikeVariant (λ e. refl) (own_variant s) (get b.variants parent) _ (rows_of-variant s b parent) NoVariant _ _ (λ x found.
      alike_when LikeVariant (λ e. refl) NotReleased (not x.released) (not x.released) refl _ _ (λ _.
      alike_when LikeVariant (λ e. refl) TooDeep (nat_le MAX_DEPTH x.depth) (nat_le MAX_DEPTH x.depth) refl _ _ (λ _. refl)))

  common-own : (command : CommonCommand) → map_ok (rows_of s) (common b command) ≡ common (rows_of s b) command
  unfolding common own_variant
  common-own (OpenVariant v beginning) =
      alike_map Like (λ e. refl) (own_variant s) (begun b beginning) _ (sym (begun-own beginning)) _ _ (λ x _.
      alike_when Like (λ e. refl) Exists (contains b.variants v) _ (rows_of-has s b v) _ _ (λ _.
      alike_when Like (λ e. refl) Limit (nat_le MAX_VARIANTS (len b.variants)) _ (ap (nat_le MAX_VARIANTS) (rows_of-count s b)) _ _ (λ _.
      ap Ok (rows_of-with s b v x))))
  common-own (Release v) =
      alike_or Like (λ e. refl) (own_variant s) (get b.variants v) _ (rows_of-variant s b v) NoVariant _ _ (λ x found.
      alike_when Like (λ e. refl) Released x.released x.released refl _ _ (λ _.
      ap Ok (rows_of-with s b v (record x { released = true }))))

  add_node-own : (n : Name) → map_ok (rows_of s) (add_node b s n) ≡ add_node (rows_of s b) s n
  unfolding add_node
  add_node-own n =
      alike_when Like (λ e. refl) NoSupplier (not (contains b.suppliers s)) _ (ap not (rows_of-supplier s b)) _ _ (λ _.
      alike_when Like (λ e. refl) Exists (contains b.nodes (s, n)) _ (rows_of-node s b n) _ _ (λ _.
      alike_when Like (λ e. refl) Limit (nat_le MAX_NODES (len (own s b.nodes))) _ (ap (λ t. nat_le MAX_NODES (len t)) (rows_of-nodes s b)) _ _ (λ _.
      ap Ok (rows_of-more_nodes s b n))))

  add_node-other : (t n : Name) → same_text t s ≡ false → IfOk (add_node b t n) (λ d. rows_of s d ≡ rows_of s b)
  unfolding add_node
  add_node-other t n other =
      gives_unless _ _ _ _ (λ _.
      gives_when _ _ _ _ (λ _.
      gives_when _ _ _ _ (λ _. rows_of-more_nodes_other s b t n other)))

-- ---- all commands

-- whether a command is common to all suppliers, or names this one
abbrev pub names : Name → Command → Bool
names s (Common command) = true
names s (AddSupplier t key) = same_text t s
names s (SetKey t key) = same_text t s
names s (AddNode t n) = same_text t s
names s (Rows rows) = same_text rows.supplier s

-- whether a change is that of a frame
abbrev pub is_of_frame : Change → Bool
is_of_frame (change.Frame f what) = true
is_of_frame _ = false

-- whether a command changes a frame
abbrev pub of_frame : Command → Bool
of_frame (Rows rows) = is_of_frame rows.change
of_frame _ = false

-- who holds slot and channel in the variant
abbrev pub holder_in : Book → Name → ℕ × Channel → Option Holder
holder_in b v at = option_and_then (λ (variant : Variant). get variant.grants at) (get b.variants v)

-- what refuses a change of rows in the variant beside other suppliers
abbrev pub against_change : Name → Book → Name → Change → Result ⊤ Refusal
against_change s b v (change.Grant slot channel node) = refuse Taken when is_another s (holder_in b v (slot, channel))
against_change s b v _ = Ok tt

-- what refuses a command beside other suppliers
abbrev pub against : Name → Book → Command → Result ⊤ Refusal
against s b (Rows rows) = against_change s b rows.variant rows.change
against s b (AddSupplier t key) = others_refuse s b key
against s b (SetKey t key) = another_refuses s b key
against s b _ = Ok tt

-- where the supplier does not hold slot and channel, they are held where another does
held-by_another : (s : Name) (at : ℕ × Channel) (o : Option Holder) → is_some (kept (λ _ h. held_by s (Some h)) at o) ≡ false → is_some o ≡ is_another s o
held-by_another s at None free = refl
held-by_another s at (Some h) free = elim (same_text h.supplier s) as (λ b. is_some (cond b (Some h) None) ≡ false → true ≡ not b) [ true ↦ λ e. cc | false ↦ λ e. refl ] free

then_none : (r : Result ⊤ Refusal) → r ≡ (r >> Ok tt)
unfolding ◌>>◌
then_none (Ok tt) = refl
then_none (Err e) = refl

module _ (c : Cluster) (b : Book) (s : Name) where
  pub admits-beside : (v : Name) (what : Change) → (of_frame (Rows (in_rows s v what)) ≡ true → IsSound c b) → (x : Variant) → get b.variants v ≡ Some x →
      admits (own_rows c.params b s x) (shared_by x.grants x.frames) what
      ≡ (admits (own_rows c.params b s x) (shared_by (own_grants s x.grants) (own s x.frames)) what >> against s b (Rows (in_rows s v what)))
  unfolding admits shared_by
  admits-beside v (change.Grant slot channel node) sound x found =
      let at : ℕ × Channel = (slot, channel) in
      grant-last c.params b s x slot channel node (is_another s (holder_in b v at)) (λ free.
      held-by_another s at (get x.grants at) (sym (ap is_some (get-only channel_slots (λ _ h. held_by s (Some h)) x.grants at)) ∙ free)
      ∙ sym (ap (λ o. is_another s (option_and_then (λ (y : Variant). get y.grants at) o)) found))
  admits-beside v (change.Revoke slot channel) sound x found = then_none _
  admits-beside v (change.Frame f what) sound x found = admits-own c b (sound refl) s v x found f what ∙ then_none _

  -- a command that is common or names the supplier is refused as alone, and then by what is against it, and does the same to the supplier's rows
  pub perform-own : (command : Command) → (of_frame command ≡ true → IsSound c b) → names s command ≡ true → map_ok (seen s) (perform c b command) ≡ (perform c (rows_of s b) command >>= unless (against s b command))
  unfolding perform
  perform-own (Common command) sound h = done-own s (Ok tt) (common b command) _ (common-own s b command ∙ sym (unless_none _))
  perform-own (AddSupplier t key) sound h =
      subst (λ u. map_ok (seen s) (done (add_supplier c b u key)) ≡ (done (add_supplier c (rows_of s b) u key) >>= unless (others_refuse s b key))) (sym (same_text-is t s h))
      (done-own s (others_refuse s b key) (add_supplier c b s key) _ (add_supplier-own c b s key))
  perform-own (SetKey t key) sound h =
      subst (λ u. map_ok (seen s) (done (set_key c b u key)) ≡ (done (set_key c (rows_of s b) u key) >>= unless (another_refuses s b key))) (sym (same_text-is t s h))
      (done-own s (another_refuses s b key) (set_key c b s key) _ (set_key-own c b s key))
  perform-own (AddNode t n) sound h =
      subst (λ u. map_ok (seen s) (done (add_node b u n)) ≡ (done (add_node (rows_of s b) u n) >>= unless (Ok tt))) (sym (same_text-is t s h))
      (done-own s (Ok tt) (add_node b s n) _ (add_node-own s b n ∙ sym (unless_none _)))
  perform-own (Rows rows) sound h =
      subst (λ u. map_ok (seen s) (done (change_rows c.params b u rows.variant rows.change)) ≡ (done (change_rows c.params (rows_of s b) u rows.variant rows.change) >>= unless (against s b (Rows (in_rows u rows.variant rows.change))))) (sym (same_text-is rows.supplier s h))
      (done-own s (against s b (Rows (in_rows s rows.variant rows.change))) (change_rows c.params b s rows.variant rows.change) _
      (change_rows-own c.params b rows.variant rows.change s (against s b (Rows (in_rows s rows.variant rows.change))) (admits-beside rows.variant rows.change sound)))

  -- a command that names another leaves the supplier's rows as they were
  pub perform-other : (command : Command) → names s command ≡ false → IfOk (perform c b command) (λ o. rows_of s o.book ≡ rows_of s b)
  unfolding perform done
  perform-other (Common command) h = cc
  perform-other (AddSupplier t key) h = gives_bind _ _ (add_supplier c b t key) _ (add_supplier-other c b s t key h) (λ after still. still)
  perform-other (SetKey t key) h = gives_bind _ _ (set_key c b t key) _ (set_key-other c b s t key h) (λ after still. still)
  perform-other (AddNode t n) h = gives_bind _ _ (add_node b t n) _ (add_node-other s b t n h) (λ after still. still)
  perform-other (Rows rows) h = gives_bind _ _ (change_rows c.params b rows.supplier rows.variant rows.change) _ (change_rows-other c.params b rows.variant rows.change s rows.supplier h) (λ after still. still)
