-- Each command leaves a sound book sound.
use Rattle.std.proofs.Common.{◌≡◌, ℕ, suc, ◌≤◌, true, false, List, Option, Some, None, is_some, Ok, IfOk, IsTrue, refl, sym, ap, subst, ◌∙◌, inr, leb-false, true≢false, arith}
use Rattle.std.specs.Prelude.{⊤}
use Rattle.std.proofs.lemmas.Slice.Eq.{bytes_eq-Decides}
use Rattle.fr_base.specs.Tables.{Table, get, contains, insert, settle}
use Rattle.fr_base.specs.Keys.{owned, channel_slots}
use Rattle.fr_base.specs.Channels.{channels_in}
use Rattle.fr_base.specs.Cells.{Cell}
use Rattle.fr_base.specs.Cluster.{Cluster}
use Rattle.fr_base.specs.Names.{is_name, is_key, same_text}
use Rattle.fr_base.specs.Book.{Holder, Frame, Variant, Book, Sender, empty_variant, held_by_node, is_of, own, own_grants, granted}
use Rattle.fr_base.specs.Signals.{SignalData}
use Rattle.fr_base.specs.Layouts.{admits_signal, with_signal, without_signal}
use Rattle.fr_base.specs.Step.{own_rows, shared_by, cell_taken, layout_of, begun, common, add_supplier, set_key, add_node, admits_frame, admits, grants_after, frame_after, frames_after, changed, change_rows, done, perform, with_variant}
use Rattle.fr_base.specs.Sound.{IsSoundVariant, IsOpenedFrom, IsSound}
use Rattle.fr_base.specs.declared.key.Key.{Key}
use Rattle.fr_base.specs.declared.name.Name.{Name}
use Rattle.fr_base.specs.declared.placement.Placement.{Placement}
use Rattle.fr_base.specs.declared.channel.Channel.{Channel}
use Rattle.fr_base.specs.declared.request.Command.{Command}
use Rattle.fr_base.specs.declared.request.Command.TheVariants.{Common, AddSupplier, SetKey, AddNode, Rows}
use Rattle.fr_base.specs.declared.request.CommonCommand.{CommonCommand}
use Rattle.fr_base.specs.declared.beginning.Beginning.{Beginning}
use Rattle.fr_base.specs.declared.beginning.Beginning.TheVariants.{Empty, From, Flat}
use Rattle.fr_base.specs.declared.request.CommonCommand.TheVariants.{OpenVariant, Release}
use Rattle.fr_base.specs.declared.request.Change.{Change}
use Rattle.fr_base.specs.declared.request.Change.TheVariants as change
use Rattle.fr_base.specs.declared.request.FrameChange.{FrameChange}
use Rattle.fr_base.specs.declared.request.FrameChange.TheVariants.{Add, Drop, Place, Unplace, AddSignal, DropSignal}
use Rattle.fr_base.proofs.LayoutLaws.{IsLayoutOf, admits_signal-layout, without_signal-layout}
use Rattle.fr_base.proofs.ParametersLaws.{few_words}
use Rattle.fr_base.proofs.SoundTables.{only-stood, get-passing}
use Rattle.fr_base.proofs.SoundRows.{holder-is, all_more, more_grants-sound, empty_variant-sound, marked-sound, revoked-sound, dropped-sound, with_variant-sound, changed-sound, more_nodes-sound}
use Rattle.fr_base.proofs.SoundSuppliers.{joined-sound, rekeyed-sound}
use Rattle.fr_base.proofs.SoundFrames.{added_variant-sound, placed_variant-sound, unplaced_variant-sound, signals_variant-sound}
use Rattle.fr_base.proofs.SoundRefusing.{gives_or, gives_bind, gives_next, gives_last, gives_bind_last, gives_when, gives_when_last, gives_unless, gives_unless_last}
use Rattle.fr_base.proofs.SoundChecks.{HasForm, IsFormedChange, IsFormedFrame}

-- ---- a supplier's own rows

-- a supplier's names are its own
is_own : (s n : Name) → IsTrue (is_of s (s, n))
is_own s n = (bytes_eq-Decides s s).1 refl

-- what is granted among a supplier's own grants is granted
own-granted : (grants : Table channel_slots Holder) (t s n : Name) (q : Placement) → IsTrue (granted (own_grants t grants) s n q) → IsTrue (granted grants s n q)
unfolding granted
own-granted grants t s n q =
    all_more _ _ (channels_in q.channels) (λ c h.
    let key : ℕ × Channel = (q.slot, c) in
    let mine : Table channel_slots Holder = own_grants t grants in
    let found = holder-is s n (get mine key) h in
    ap (held_by_node s n) (only-stood channel_slots (λ _ h. same_text h.supplier t) grants key _ found ∙ sym found) ∙ h)

-- a placement that is not refused has no taken cell
not_taken : (r : Option (Cell × Sender)) (x : ⊤) → cell_taken r ≡ Ok x → r ≡ None
unfolding cell_taken
not_taken None x e = refl
not_taken (Some taken) x e = cc

abbrev HasName : SignalData → Type 0
HasName s = IsTrue (is_name s.name)

-- ---- changes of one supplier's rows

module _ (c : Cluster) (b : Book) (sound : IsSound c b) (s : Name) (x : Variant) (fine : IsSoundVariant c.params b.nodes x) where
  abbrev IsFine : Variant → Type 0
  IsFine = IsSoundVariant c.params b.nodes

  -- a frame that is there, changed
  with_frame : (f : Name) (what : FrameChange) (frame : Frame) → get (own s x.frames) (s, f) ≡ Some frame →
      IsFine (record x { frames = settle x.frames (s, f) (frame_after what (Some frame)) }) → IsFine (record x { frames = settle x.frames (s, f) (frame_after what (get x.frames (s, f))) })
  with_frame f what frame there h = subst (λ o. IsFine (record x { frames = settle x.frames (s, f) (frame_after what o) })) (sym (only-stood owned (λ k _. is_of s k) x.frames (s, f) frame there)) h

  -- other signals of a frame
  with_signals : (f : Name) (frame : Frame) → get (own s x.frames) (s, f) ≡ Some frame → (signals : List SignalData) → IsLayoutOf HasName (layout_of c.params frame) signals →
      IsFine (record x { frames = insert x.frames (s, f) (record frame { signals = signals }) })
  with_signals f frame there signals both =
      signals_variant-sound c.params b.nodes x fine (s, f) frame (only-stood owned (λ k _. is_of s k) x.frames (s, f) frame there) signals both.0 both.1

  -- its own signals make a layout
  has_layout : (f : Name) (frame : Frame) → get (own s x.frames) (s, f) ≡ Some frame → IsLayoutOf HasName (layout_of c.params frame) frame.signals
  has_layout f frame there = let old = fine.frames (s, f) frame (only-stood owned (λ k _. is_of s k) x.frames (s, f) frame there) in (old.layout, old.signal_names)

  frame-sound : (f : Name) (what : FrameChange) → c.params.payload_words ≤ 127 → IsFormedFrame c.params f what →
      IfOk (admits_frame (own_rows c.params b s x) (shared_by x.grants x.frames) (get (own s x.frames) (s, f)) what) (λ _. IsFine (record x { frames = settle x.frames (s, f) (frame_after what (get x.frames (s, f))) }))
  unfolding admits_frame own_rows shared_by frame_after settle
  frame-sound f (Add n) few named =
      gives_unless _ _ (contains (own s b.nodes) (s, n)) _ (λ has.
      gives_when _ _ _ _ (λ _.
      gives_when_last _ _ _ (λ room.
      added_variant-sound c.params b.nodes x fine (s, f) n few named (sym (ap is_some (get-passing owned (is_of s) b.nodes (s, n) (is_own s n))) ∙ has) (leb-false _ _ room))))
  frame-sound f Drop few h = gives_unless_last _ _ _ (λ _. dropped-sound c.params b.nodes x fine (s, f))
  frame-sound f (Place q) few fits =
      gives_or _ (get (own s x.frames) (s, f)) _ _ (λ frame there.
      gives_unless _ _ _ _ (λ holds.
      gives_when _ _ _ _ (λ room.
      gives_last _ _ (λ y free.
      with_frame f (Place q) frame there
      (placed_variant-sound c.params b.nodes x fine (s, f) frame (only-stood owned (λ k _. is_of s k) x.frames (s, f) frame there) q fits
      (own-granted x.grants s s frame.node q holds) (leb-false _ _ room) (not_taken _ y free))))))
  frame-sound f (Unplace q) few h =
      gives_or _ (get (own s x.frames) (s, f)) _ _ (λ frame there.
      gives_unless_last _ _ _ (λ _.
      with_frame f (Unplace q) frame there (unplaced_variant-sound c.params b.nodes x fine (s, f) frame (only-stood owned (λ k _. is_of s k) x.frames (s, f) frame there) q)))
  frame-sound f (AddSignal signal) few h =
      gives_or _ (get (own s x.frames) (s, f)) _ _ (λ frame there.
      gives_bind_last _ _ (admits_signal (layout_of c.params frame) signal) (admits_signal-layout HasName (layout_of c.params frame) signal (has_layout f frame there) h.1 h.0) (λ y both.
      with_frame f (AddSignal signal) frame there (with_signals f frame there (with_signal signal frame.signals) both)))
  frame-sound f (DropSignal name) few h =
      gives_or _ (get (own s x.frames) (s, f)) _ _ (λ frame there.
      gives_unless_last _ _ _ (λ _.
      with_frame f (DropSignal name) frame there (with_signals f frame there (without_signal name frame.signals) (without_signal-layout HasName (layout_of c.params frame) name (has_layout f frame there)))))

  changed_variant-sound : (what : Change) → c.params.payload_words ≤ 127 → IsFormedChange c.params what →
      IfOk (admits (own_rows c.params b s x) (shared_by x.grants x.frames) what) (λ _. IsFine (changed s what x))
  unfolding admits own_rows shared_by changed grants_after frames_after
  changed_variant-sound (change.Grant k d n) few fits =
      gives_unless _ _ (contains (own s b.nodes) (s, n)) _ (λ has.
      gives_when _ _ _ _ (λ _.
      gives_when _ _ _ _ (λ _.
      gives_when_last _ _ _ (λ free.
      more_grants-sound c.params b.nodes x fine (k, d) (record { supplier = s; node = n }) free fits (sym (ap is_some (get-passing owned (is_of s) b.nodes (s, n) (is_own s n))) ∙ has)))))
  changed_variant-sound (change.Revoke k d) few h =
      gives_unless _ _ _ _ (λ holds.
      gives_when_last _ _ _ (λ free.
      revoked-sound c.params b.nodes x fine (k, d) s holds free))
  changed_variant-sound (change.Frame f what) few h = frame-sound f what few h

-- ---- each command

module _ (c : Cluster) (b : Book) (sound : IsSound c b) where
  pub begun-sound : (beginning : Beginning Name) → IfOk (begun b beginning) (λ x. IsSoundVariant c.params b.nodes x × IsOpenedFrom b.variants x.parent x.depth)
  unfolding begun empty_variant
  begun-sound Empty = (empty_variant-sound c.params b.nodes, refl)
  begun-sound (Flat from) =
      gives_or _ (get b.variants from) _ _ (λ x found.
      gives_unless _ _ _ _ (λ released.
      (marked-sound c.params b.nodes x (sound.variants from x found).1 None 1 false (omega arith), refl)))
  begun-sound (From parent) =
      gives_or _ (get b.variants parent) _ _ (λ x found.
      gives_unless _ _ _ _ (λ released.
      gives_when _ _ _ _ (λ shallow.
      (marked-sound c.params b.nodes x (sound.variants parent x found).1 (Some parent) (suc x.depth) false (leb-false _ _ shallow), (x, found, released, refl)))))

  none_there : {A : Type 0} (o : Option A) (x : A) → is_some o ≡ false → o ≡ Some x → ⊥
  none_there o x none found = true≢false (sym (ap is_some found) ∙ none)

  pub common-sound : (command : CommonCommand) → HasForm c.params (Common command) → IfOk (common b command) (IsSound c)
  unfolding common
  common-sound (OpenVariant v beginning) named =
      gives_bind _ _ (begun b beginning) _ (begun-sound beginning) (λ x fine.
      gives_when _ _ _ _ (λ fresh.
      gives_when _ _ _ _ (λ room.
      with_variant-sound c b sound v x named fine.0 fine.1 (λ old found _. absurd (none_there _ old fresh found)) (inr (leb-false _ _ room)))))
  common-sound (Release v) h =
      gives_or _ (get b.variants v) _ _ (λ x found.
      gives_when _ _ _ _ (λ _.
      let fine = (sound.variants v x found).1 in
      changed-sound c b sound v x _ found (marked-sound c.params b.nodes x fine x.parent x.depth true fine.depth) refl refl (λ _. refl)))

  pub add_supplier-sound : (s : Name) (k : Key) → IsTrue (is_name s) → IsTrue (is_key k) → IfOk (add_supplier c b s k) (IsSound c)
  unfolding add_supplier
  add_supplier-sound s k named formed =
      gives_when _ _ _ _ (λ free.
      gives_when _ _ _ _ (λ new.
      gives_when _ _ _ _ (λ room.
      joined-sound c b sound s k named formed free new (leb-false _ _ room))))

  pub set_key-sound : (s : Name) (k : Key) → IsTrue (is_key k) → IfOk (set_key c b s k) (IsSound c)
  unfolding set_key
  set_key-sound s k formed =
      gives_unless _ _ _ _ (λ there.
      gives_when _ _ _ _ (λ new.
      rekeyed-sound c b sound s k formed there new))

  pub add_node-sound : (s n : Name) → IsTrue (is_name n) → IfOk (add_node b s n) (IsSound c)
  unfolding add_node
  add_node-sound s n named =
      gives_unless _ _ _ _ (λ known.
      gives_when _ _ _ _ (λ _.
      gives_when _ _ _ _ (λ room.
      more_nodes-sound c b sound s n named known (leb-false _ _ room))))

  changed-alike : (s v : Name) (what : Change) (x : Variant) → get b.variants v ≡ Some x → IsSoundVariant c.params b.nodes (changed s what x) → IsSound c (with_variant b v (changed s what x))
  unfolding changed
  changed-alike s v what x found after = changed-sound c b sound v x (changed s what x) found after refl refl (λ was. was)

  pub change_rows-sound : (s v : Name) (what : Change) → IsFormedChange c.params what → IfOk (change_rows c.params b s v what) (IsSound c)
  unfolding change_rows
  change_rows-sound s v what h =
      gives_or _ (get b.variants v) _ _ (λ x found.
      gives_when _ _ _ _ (λ _.
      gives_unless _ _ _ _ (λ _.
      let fine = (sound.variants v x found).1 in
      gives_next _ _ (admits (own_rows c.params b s x) (shared_by x.grants x.frames) what) _ (changed_variant-sound c b sound s x fine what (few_words c.params sound.cluster.params) h) (λ y after.
      changed-alike s v what x found after))))

  pub perform-sound : (command : Command) → HasForm c.params command → IfOk (perform c b command) (λ o. IsSound c o.book)
  unfolding perform done
  perform-sound (Common command) h = gives_bind _ _ (common b command) _ (common-sound command h) (λ after fine. fine)
  perform-sound (AddSupplier s k) h = gives_bind _ _ (add_supplier c b s k) _ (add_supplier-sound s k h.0 h.1) (λ after fine. fine)
  perform-sound (SetKey s k) h = gives_bind _ _ (set_key c b s k) _ (set_key-sound s k h) (λ after fine. fine)
  perform-sound (AddNode s n) h = gives_bind _ _ (add_node b s n) _ (add_node-sound s n h) (λ after fine. fine)
  perform-sound (Rows rows) h = gives_bind _ _ (change_rows c.params b rows.supplier rows.variant rows.change) _ (change_rows-sound rows.supplier rows.variant rows.change h) (λ after fine. fine)
