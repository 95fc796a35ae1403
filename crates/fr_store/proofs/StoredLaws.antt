-- What the records of a store are known to hold after a call.
use Rattle.std.proofs.Common.{◌≡◌, ℕ, Option, Some, None, is_some, option_map, List, IsTrue, inl, inr, refl, sym, ap, subst, ◌∙◌, Ok, Err, Result, MatchResult, IfOk, OnOk, OnErr}
use Rattle.sqlite.specs.State.{State, HasCleanDisk}
use Rattle.sqlite_wal.specs.Recovery.{Image}
use Rattle.fr_base.specs.Book.{Book, Variant}
use Rattle.fr_base.specs.Cluster.{Cluster, ClusterFile}
use Rattle.fr_base.specs.Tables.{get}
use Rattle.fr_base.specs.declared.channel.Channel.{Channel}
use Rattle.fr_base.specs.declared.name.Name.{Name}
use Rattle.fr_base.specs.declared.refusal.Refusal.{Refusal}
use Rattle.fr_base.specs.declared.refusal.Refusal.TheVariants.{Unavailable}
use Rattle.fr_world.specs.BookEdits.{all_applied}
use Rattle.fr_world.specs.Fits.{AllFit}
use Rattle.fr_world.specs.declared.edit.Edit.{Edit}
use Rattle.fr_tables.specs.Changes.{Stays}
use Rattle.fr_tables.specs.SchemaNumbers.{AreAsBefore}
use Rattle.fr_store.specs.Joined.{after_edits}
use Rattle.fr_store.specs.Reading.{Leaves, Stands, as_holder, holder_in}
use Rattle.fr_store.specs.Store.{IsRegisterFor}
use Rattle.fr_store.specs.StoreFiles.{HoldsBook, KeepsBook}
use Rattle.fr_store.specs.declared.fault.StoreFault.{StoreFault}
use Rattle.fr_store.specs.declared.slot_holder.Holder as store
use Rattle.fr_store.proofs.AgainLemmas as again
use Rattle.fr_store.proofs.ChainLemmas.{still_stands}
use Rattle.fr_store.proofs.JoinedLemmas.{follows, cluster_after}
use Rattle.fr_world.specs.Held.{held_in}
use Rattle.fr_store.specs.Stored.{StandsStored}

-- what the store tells is answered so
abbrev pub Answers : {X : Type 0} → Result X StoreFault → Result X Refusal → Type 0
Answers told r = MatchResult told (λ x. r ≡ Ok x) (λ _. r ≡ Err Unavailable)

-- what holds of what it tells holds of what is answered
pub answered : {X : Type 0} (P : X → Type 0) (told : Result X StoreFault) (r : Result X Refusal) → Answers told r → IfOk told P → IfOk r P
answered P (Ok x) r is h = subst (λ r. IfOk r P) (sym is) h
answered P (Err e) r is h = subst (λ r. IfOk r P) (sym is) tt

-- what follows wherever it tells anything follows wherever anything is answered
pub opened : {X : Type 0} (P Q : Type 0) → (P → Q) → (told : Result X StoreFault) (r : Result X Refusal) → Answers told r → OnOk told P → OnOk r Q
opened P Q follows (Ok x) r is h = subst (λ r. OnOk r Q) (sym is) (follows h)
opened P Q follows (Err e) r is h = subst (λ r. OnOk r Q) (sym is) tt

was_open : (old new : State) → Stays old new → IsTrue new.is_open → IsTrue old.is_open
was_open old new (inl same) up = same.0.was_open
was_open old new (inr back) up = back.was_open up

module _ (old new : State) (kept found : ClusterFile) (same : found ≡ kept) (clean : HasCleanDisk new) (c : Cluster) (b : Book) (stored : StandsStored kept old c b) where
  -- nothing is changed, or a transaction of which nothing was committed is undone
  pub stays_stored : Stays old new → StandsStored found new c b
  stays_stored stays = record {
    config = same ∙ stored.config;
    rows = λ up. let before = stored.rows (was_open old new stays up) in still_stands old new (λ _ _. stays) clean up before.1 c b before.0;
  }

  pub leaves_stored : IsTrue old.is_open → Leaves old new → StandsStored found new c b
  leaves_stored ready leaves = stays_stored (leaves clean (stored.rows ready).0.has)

  -- what is read of the book
  pub told : {X : Type 0} (says : X → Type 0) (r : Result X StoreFault) (o : Result X Refusal) → Answers r o → IsTrue old.is_open → Leaves old new → IfOk r says
      → StandsStored found new c b × MatchResult o says (λ e. e ≡ Unavailable)
  told says (Ok x) o is ready leaves h = (leaves_stored ready leaves, subst (λ o. MatchResult o says (λ e. e ≡ Unavailable)) (sym is) h)
  told says (Err e) o is ready leaves h = (leaves_stored ready leaves, subst (λ o. MatchResult o says (λ e. e ≡ Unavailable)) (sym is) refl)

-- ---- edits

-- where the tables are as they were, they stand for the same book
stored_as_before : (old new : State) (kept found : ClusterFile) (c : Cluster) (b : Book) → StandsStored kept old c b → found ≡ kept → AreAsBefore old new → StandsStored found new c b
stored_as_before old new kept found c b stored same before = record {
  config = same ∙ stored.config;
  rows = λ up.
      let back = before up in
      let rows = stored.rows back.0 in
      (again.still_stands old new c b back.1 rows.0, back.2 ∙ rows.1 ∙ sym back.1);
}

module _ (old new : State) (kept found : ClusterFile) (edits : List Edit) (c : Cluster) (b : Book) (stored : StandsStored kept old c b) (fit : AllFit c.params b edits) where
  -- all edits were carried out, and the suppliers are those of the book after them; or none was
  pub edits_stored : {X : Type 0} (r : Result X StoreFault) (o : Result X Refusal) → Answers r o
      → OnOk r (Stands new c (all_applied b edits)) → OnOk r (new.committed ≡ new.now) → OnOk r (found ≡ after_edits kept edits)
      → OnErr r (found ≡ kept) → OnErr r (AreAsBefore old new)
      → MatchResult o (λ _. StandsStored found new c (all_applied b edits)) (λ e. (e ≡ Unavailable) × StandsStored found new c b)
  edits_stored (Ok x) o is stands settled listed same before =
      let config = listed ∙ ap (λ f. after_edits f edits) stored.config ∙ sym (follows c b edits fit) in
      subst (λ o. MatchResult o (λ _. StandsStored found new c (all_applied b edits)) (λ e. (e ≡ Unavailable) × StandsStored found new c b)) (sym is)
      (record { config = config; rows = λ up. (stands, settled) })
  edits_stored (Err e) o is stands settled listed same before =
      subst (λ o. MatchResult o (λ _. StandsStored found new c (all_applied b edits)) (λ e. (e ≡ Unavailable) × StandsStored found new c b)) (sym is)
      (refl, stored_as_before old new kept found c b stored same before)

-- the cluster stays in either case
pub cluster_stays : {X : Type 0} (r : Result X StoreFault) (kept found : ClusterFile) (edits : List Edit) → OnOk r (found ≡ after_edits kept edits) → OnErr r (found ≡ kept) → found.cluster ≡ kept.cluster
cluster_stays (Ok x) kept found edits listed same = ap (λ f. f.cluster) listed ∙ cluster_after kept edits
cluster_stays (Err e) kept found edits listed same = ap (λ f. f.cluster) same

-- ---- who holds a slot

some_same : (o : Option store.Holder) → is_some o ≡ is_some (option_map as_holder o)
some_same None = refl
some_same (Some x) = refl

-- whether somebody holds the slot and channel, from who holds them
pub held_as : (b : Book) (v : Name) (at : ℕ × Channel) (o : Option store.Holder) → option_map as_holder o ≡ holder_in b v at → is_some o ≡ held_in b v at
held_as b v at o h = some_same o ∙ ap is_some h ∙ known (get b.variants v) refl
  where
    known : (x : Option Variant) → get b.variants v ≡ x → is_some (holder_in b v at) ≡ held_in b v at
    known None is = rw is refl
    known (Some x) is = rw is refl

-- ---- files

module _ (found : ClusterFile) (s : State) (c : Cluster) (b : Book) (up : IsTrue s.is_open) (stood : StandsStored found s c b) where
  -- what was committed is a register for the book
  committed_for : IsRegisterFor c b s.committed
  committed_for = let rows = stood.rows up in subst (IsRegisterFor c b) (sym rows.1) (record { has = rows.0.has; for = rows.0.for })

  -- files that keep it hold the book
  pub holds_book : (image : Image) → KeepsBook s.committed image → HoldsBook c b image
  holds_book image keeps = keeps c b committed_for

-- what holds of the value under a premise that is met
pub given : {X E : Type 0} (r : Result X E) (P : Type 0) (Q : X → Type 0) → P → IfOk r (λ x. P → Q x) → IfOk r Q
given (Ok x) P Q p h = h p
given (Err e) P Q p h = tt

-- what follows from two facts of what was given
pub if_both : {X E : Type 0} (P Q T : X → Type 0) (r : Result X E) → ((x : X) → P x → Q x → T x) → IfOk r P → IfOk r Q → IfOk r T
if_both P Q T (Ok x) follows p q = follows x p q
if_both P Q T (Err e) follows p q = tt
