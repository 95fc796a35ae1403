-- A change of a supplier's rows in a variant, over all rows and over the supplier's own.
use Rattle.std.proofs.Common.{◌≡◌, ℕ, Bool, true, false, not, cond, Option, Some, None, is_some, Result, Ok, Err, IfOk, IsTrue, refl, sym, ap, ◌∙◌}
use Rattle.std.specs.Prelude.{⊤, nat_le}
use Rattle.fr_base.specs.Refusing.{◌>>=◌, ◌>>◌, ◌or◌, refuse◌when◌}
use Rattle.fr_base.specs.declared.limits.TheConstants.{MAX_PLACEMENTS}
use Rattle.fr_base.specs.Tables.{Table, get, contains, len, settle}
use Rattle.fr_base.specs.Keys.{owned, channel_slots}
use Rattle.fr_base.specs.Channels.{channels_in}
use Rattle.fr_base.specs.Cluster.{Cluster}
use Rattle.fr_base.specs.Names.{same_text}
use Rattle.fr_base.specs.Book.{Holder, Frame, Variant, Book, held_by, held_by_node, is_of, own, own_grants, granted}
use Rattle.fr_base.specs.Step.{with_variant, own_rows, shared_by, cell_taken, admits_frame, admits, grants_after, frame_after, frames_after, changed, change_rows}
use Rattle.fr_base.specs.Sound.{IsSound}
use Rattle.fr_base.specs.Alone.{own_variant, rows_of}
use Rattle.fr_base.specs.declared.channel.Channel.{Channel}
use Rattle.fr_base.specs.declared.name.Name.{Name}
use Rattle.fr_base.specs.declared.params.Params.{Params}
use Rattle.fr_base.specs.declared.placement.Placement.{Placement}
use Rattle.fr_base.specs.declared.refusal.Refusal.{Refusal}
use Rattle.fr_base.specs.declared.refusal.Refusal.TheVariants.{NoVariant, Released, NoSupplier, NoNode, NoFrame, Exists, NodeDiffers, NotGranted, Limit, Taken}
use Rattle.fr_base.specs.declared.request.Change.{Change}
use Rattle.fr_base.specs.declared.request.Change.TheVariants as change
use Rattle.fr_base.specs.declared.request.FrameChange.{FrameChange}
use Rattle.fr_base.specs.declared.request.FrameChange.TheVariants.{Add, Drop, Place, Unplace, AddSignal, DropSignal}
use Rattle.fr_base.proofs.TableLaws.{kept}
use Rattle.fr_base.proofs.SoundTables.{only-stood}
use Rattle.fr_base.proofs.SoundRows.{same_text-is, holder-is, all_more, own-held}
use Rattle.fr_base.proofs.SoundRefusing.{gives_or, gives_next, gives_when, gives_unless, gives_bind_last, gives_last, gives_when_last}
use Rattle.fr_base.proofs.AloneTables.{get-own, only-put, only-put_other, only-remove, only-remove_other, only-settle, only-settle_other}
use Rattle.fr_base.proofs.AloneRefusing.{map_ok, alike_or, alike_when}
use Rattle.fr_base.proofs.AloneCells.{same_text-itself, first_taken-own}
use Rattle.fr_base.proofs.AloneRows.{rows_of-variant, rows_of-supplier, own_rows-own, rows_of-with, rows_of-still}

-- ---- what refuses a change of a frame, where all suppliers' rows are shared and where the supplier's own are

-- what is granted by the supplier's own grants is granted
pub own-granted : (grants : Table channel_slots Holder) (t s n : Name) (q : Placement) → IsTrue (granted (own_grants t grants) s n q) → IsTrue (granted grants s n q)
unfolding granted
own-granted grants t s n q =
    all_more _ _ (channels_in q.channels) (λ c h.
    let key : ℕ × Channel = (q.slot, c) in
    let found = holder-is s n (get (own_grants t grants) key) h in
    ap (held_by_node s n) (only-stood channel_slots (λ _ h. held_by t (Some h)) grants key _ found ∙ sym found) ∙ h)

pub both_or : {A B E : Type 0} (o : Option A) (e : E) (f g : A → Result B E) → ((x : A) → f x ≡ g x) → ((o or e) >>= f) ≡ ((o or e) >>= g)
unfolding ◌or◌ ◌>>=◌
both_or None e f g k = refl
both_or (Some x) e f g k = k x

both_unless : {B E : Type 0} (e : E) (t : Bool) (r s : Result B E) → (t ≡ true → r ≡ s) → ((refuse e when not t) >> r) ≡ ((refuse e when not t) >> s)
unfolding refuse◌when◌ ◌>>◌
both_unless e true r s k = k refl
both_unless e false r s k = refl

module _ (c : Cluster) (b : Book) (sound : IsSound c b) (s v : Name) (x : Variant) (found : get b.variants v ≡ Some x) where
  -- in a sound book a change of a frame is refused alike
  pub admits-own : (f : Name) (what : FrameChange) →
      admits (own_rows c.params b s x) (shared_by x.grants x.frames) (change.Frame f what) ≡ admits (own_rows c.params b s x) (shared_by (own_grants s x.grants) (own s x.frames)) (change.Frame f what)
  unfolding admits admits_frame own_rows shared_by
  admits-own f (Add node) = refl
  admits-own f Drop = refl
  admits-own f (Place q) =
      both_or (get (own s x.frames) (s, f)) NoFrame _ _ (λ frame.
      both_unless NotGranted (granted (own_grants s x.grants) s frame.node q) _ _ (λ holds.
      let first = first_taken-own c.params b.nodes x (sound.variants v x found).1 s frame.node q (own-granted x.grants s s frame.node q holds) in
      ap (λ t. (refuse Limit when nat_le MAX_PLACEMENTS (len frame.placements)) >> cell_taken t) first))
  admits-own f (Unplace q) = refl
  admits-own f (AddSignal signal) = refl
  admits-own f (DropSignal name) = refl

-- ---- and a grant, which another supplier's may stand against

none_there : {A : Type 0} (o : Option A) → is_some o ≡ false → o ≡ None
none_there None h = refl
none_there (Some x) h = cc

taken-last : (mine all last : Bool) → mine ≡ false → all ≡ last → (refuse Taken when all) ≡ ((refuse Taken when mine) >> refuse Taken when last)
unfolding refuse◌when◌ ◌>>◌
taken-last true all last free is = cc
taken-last false all last free is = ap (λ t. refuse Taken when t) is

module _ (p : Params) (b : Book) (s : Name) (x : Variant) (slot : ℕ) (channel : Channel) (node : Name) where
  -- after the refusals of a grant over the supplier's own rows, this is the last
  pub grant-last : (last : Bool) → (contains (own_grants s x.grants) (slot, channel) ≡ false → contains x.grants (slot, channel) ≡ last) →
      admits (own_rows p b s x) (shared_by x.grants x.frames) (change.Grant slot channel node)
      ≡ (admits (own_rows p b s x) (shared_by (own_grants s x.grants) (own s x.frames)) (change.Grant slot channel node) >> refuse Taken when last)
  unfolding admits own_rows shared_by ◌>>◌
  grant-last last is =
      alike_when Beside same NoNode _ _ refl _ _ (λ _.
      alike_when Beside same Exists _ _ refl _ _ (λ _.
      alike_when Beside same NodeDiffers _ _ refl _ _ (λ free. taken-last _ _ last free (is free))))
    where
      Beside : Result ⊤ Refusal → Result ⊤ Refusal → Type 0
      Beside r u = r ≡ (u >> refuse Taken when last)

      same : (e : Refusal) → Beside (Err e) (Err e)
      same e = refl

  -- a grant over all rows is refused as one over the supplier's own, and then where anybody holds slot and channel
  pub grant-own : admits (own_rows p b s x) (shared_by x.grants x.frames) (change.Grant slot channel node)
      ≡ (admits (own_rows p b s x) (shared_by (own_grants s x.grants) (own s x.frames)) (change.Grant slot channel node) >> refuse Taken when contains x.grants (slot, channel))
  grant-own = grant-last (contains x.grants (slot, channel)) (λ _. refl)

-- ---- what a change makes of the supplier's own rows

module _ (s : Name) where
  pub grants_after-own : (what : Change) (grants : Table channel_slots Holder) → own_grants s (grants_after s what grants) ≡ grants_after s what (own_grants s grants)
  unfolding grants_after
  grants_after-own (change.Grant slot channel node) grants = only-put channel_slots (λ _ h. held_by s (Some h)) grants (slot, channel) (record { supplier = s; node = node }) (same_text-itself s)
  grants_after-own (change.Revoke slot channel) grants = only-remove channel_slots (λ _ h. held_by s (Some h)) grants (slot, channel)
  grants_after-own (change.Frame f what) grants = refl

  pub frames_after-own : (what : Change) (frames : Table owned Frame) → own s (frames_after s what frames) ≡ frames_after s what (own s frames)
  unfolding frames_after
  frames_after-own (change.Grant slot channel node) frames = refl
  frames_after-own (change.Revoke slot channel) frames = refl
  frames_after-own (change.Frame f what) frames =
      only-settle owned (is_of s) frames (s, f) (frame_after what (get frames (s, f))) (same_text-itself s)
      ∙ ap (λ there. settle (own s frames) (s, f) (frame_after what there)) (sym (get-own owned (is_of s) frames (s, f) (same_text-itself s)))

  pub changed-own : (what : Change) (x : Variant) → own_variant s (changed s what x) ≡ changed s what (own_variant s x)
  unfolding changed own_variant
  changed-own what x = λ i. record x { grants = grants_after-own what x.grants i; frames = frames_after-own what x.frames i }

  -- and of another supplier's, which it leaves as they were, where it is accepted
  module _ (t : Name) (other : same_text t s ≡ false) where
    pub frames_after-other : (what : Change) (frames : Table owned Frame) → own s (frames_after t what frames) ≡ own s frames
    unfolding frames_after
    frames_after-other (change.Grant slot channel node) frames = refl
    frames_after-other (change.Revoke slot channel) frames = refl
    frames_after-other (change.Frame f what) frames = only-settle_other owned (is_of s) frames (t, f) (frame_after what (get frames (t, f))) other

    not_mine : (at : ℕ × Channel) (o : Option Holder) → IsTrue (held_by t o) → kept (λ _ h. held_by s (Some h)) at o ≡ None
    not_mine at None holds = refl
    not_mine at (Some h) holds = ap (λ b. cond b (Some h) None) (ap (λ u. same_text u s) (same_text-is h.supplier t holds) ∙ other)

    pub grants_after-other : (p : Params) (b : Book) (x : Variant) (what : Change) →
        IfOk (admits (own_rows p b t x) (shared_by x.grants x.frames) what) (λ _. own_grants s (grants_after t what x.grants) ≡ own_grants s x.grants)
    unfolding admits own_rows shared_by grants_after
    grants_after-other p b x (change.Grant slot channel node) =
        gives_unless _ _ _ _ (λ _.
        gives_when _ _ _ _ (λ _.
        gives_when _ _ _ _ (λ _.
        gives_when_last _ _ _ (λ free.
        only-put_other channel_slots (λ _ h. held_by s (Some h)) x.grants (slot, channel) (record { supplier = t; node = node }) other
        (let at : ℕ × Channel = (slot, channel) in ap (kept (λ _ h. held_by s (Some h)) at) (none_there (get x.grants at) free))))))
    grants_after-other p b x (change.Revoke slot channel) =
        gives_unless _ _ _ _ (λ holds.
        gives_when_last _ _ _ (λ _.
        only-remove_other channel_slots (λ _ h. held_by s (Some h)) x.grants (slot, channel) (not_mine (slot, channel) (get x.grants (slot, channel)) (own-held x.grants t (slot, channel) holds))))
    grants_after-other p b x (change.Frame f what) = gives_last (λ _. own_grants s x.grants ≡ own_grants s x.grants) (admits (own_rows p b t x) (shared_by x.grants x.frames) (change.Frame f what)) (λ _ _. refl)

    pub changed-other : (p : Params) (b : Book) (x : Variant) (what : Change) →
        IfOk (admits (own_rows p b t x) (shared_by x.grants x.frames) what) (λ _. own_variant s (changed t what x) ≡ own_variant s x)
    unfolding changed own_variant
    changed-other p b x what = gives_bind_last _ _ (admits (own_rows p b t x) (shared_by x.grants x.frames) what) (grants_after-other p b x what) (λ _ grants.
        λ i. record x { grants = grants i; frames = frames_after-other what x.frames i })

-- ---- a change of a book

-- the value, unless this refuses it
unfoldable pub unless : {A : Type 0} → Result ⊤ Refusal → A → Result A Refusal
unless r x = r >> Ok x

pub unless_none : {A : Type 0} (r : Result A Refusal) → (r >>= unless (Ok tt)) ≡ r
unfolding unless ◌>>=◌ ◌>>◌
unless_none (Ok x) = refl
unless_none (Err e) = refl

module _ (s : Name) (against : Result ⊤ Refusal) where
  -- what becomes of the supplier's rows, over all rows and over its own, where this alone refuses it beside other suppliers
  abbrev pub Beside : Result Book Refusal → Result Book Refusal → Type 0
  Beside r u = map_ok (rows_of s) r ≡ (u >>= unless against)

  pub same : (e : Refusal) → Beside (Err e) (Err e)
  unfolding ◌>>=◌
  same e = refl

  line : (mine : Result ⊤ Refusal) (d : Book) → Beside ((mine >> against) >> Ok d) (mine >> Ok (rows_of s d))
  unfolding ◌>>=◌ ◌>>◌ unless
  line (Err e) d = refl
  line (Ok x) d = after against
    where
      after : (r : Result ⊤ Refusal) → map_ok (rows_of s) (r >> Ok d) ≡ (r >> Ok (rows_of s d))
      after (Ok y) = refl
      after (Err e) = refl

  last_line : (all mine alone : Result ⊤ Refusal) (d e : Book) → all ≡ (mine >> against) → alone ≡ mine → rows_of s d ≡ e → Beside (all >> Ok d) (alone >> Ok e)
  last_line all mine alone d e refused alike rows =
      ap (λ r. map_ok (rows_of s) (r >> Ok d)) refused ∙ line mine d
      ∙ ap (λ (z : Result ⊤ Refusal × Book). (z.0 >> Ok z.1) >>= unless against) (λ i. (sym alike i, rows i))

module _ (p : Params) (b : Book) (v : Name) (what : Change) where
  -- a change over all rows is refused as over the supplier's own, and then by what is against it, and does the same to the supplier's rows
  pub change_rows-own : (s : Name) (against : Result ⊤ Refusal) →
      ((x : Variant) → get b.variants v ≡ Some x → admits (own_rows p b s x) (shared_by x.grants x.frames) what ≡ (admits (own_rows p b s x) (shared_by (own_grants s x.grants) (own s x.frames)) what >> against)) →
      map_ok (rows_of s) (change_rows p b s v what) ≡ (change_rows p (rows_of s b) s v what >>= unless against)
  unfolding change_rows own_variant
  change_rows-own s against alike =
      alike_or (Beside s against) (same s against) (own_variant s) (get b.variants v) _ (rows_of-variant s b v) NoVariant _ _ (λ x found.
      alike_when (Beside s against) (same s against) Released x.released x.released refl _ _ (λ _.
      alike_when (Beside s against) (same s against) NoSupplier (not (contains b.suppliers s)) _ (ap not (rows_of-supplier s b)) _ _ (λ _.
      last_line s against _ _ _ _ _ (alike x found)
      (ap (λ rows. admits rows (shared_by (own_grants s x.grants) (own s x.frames)) what) (own_rows-own s p b x))
      (rows_of-with s b v _ ∙ ap (with_variant (rows_of s b) v) (changed-own s what x)))))

  -- another supplier's change leaves the supplier's rows as they were
  pub change_rows-other : (s t : Name) → same_text t s ≡ false → IfOk (change_rows p b t v what) (λ d. rows_of s d ≡ rows_of s b)
  unfolding change_rows
  change_rows-other s t other =
      gives_or _ (get b.variants v) _ _ (λ x found.
      gives_when _ _ x.released _ (λ _.
      gives_unless _ _ (contains b.suppliers t) _ (λ _.
      gives_next _ _ (admits (own_rows p b t x) (shared_by x.grants x.frames) what) _ (changed-other s t other p b x what) (λ _ still.
      rows_of-still s b v x _ found still))))
