-- The way up from a variant to the one that has the frame as its own which it shows.
use Rattle.std.proofs.Common.{◌≡◌, inl, true, false, Some, IsTrue, refl, sym, ap, ◌∙◌, subst, arith, true≢false}
use Rattle.sqlite.specs.Effect.{Database}
use Rattle.sqlite.specs.State.{State, IsUnchanged, KeepsCommit, Survives}
use Rattle.fr_base.specs.Tables.{get}
use Rattle.fr_base.specs.Cluster.{Cluster}
use Rattle.fr_base.specs.Book.{Frame, Variant, Book}
use Rattle.fr_base.specs.declared.name.Name.{Name}
use Rattle.fr_tables.specs.declared.frame_key.FrameKey.{FrameKey}
use Rattle.fr_tables.specs.Changes.{Stays, tables_of}
use Rattle.fr_store.specs.Owning.{TellsOrigin, IsOwner, is_own}
use Rattle.fr_store.specs.Reading.{Stands}
use Rattle.fr_tables.specs.Tables.{HasTables, tables_in}
use Rattle.fr_store.specs.declared.applying.origin.Origin.{Origin}
use Rattle.fr_store.proofs.InsideLemmas.{keeps_stay, keeps_then}
use Rattle.fr_store.proofs.OwningLemmas.{Shown, above_shows}

pub survives_itself : (s : State) → Survives s s (λ _. ⊥)
survives_itself s = record { clean = omega arith; shield = λ h. h; counts = omega arith; limit = refl; closes = λ clean up. inl up; crash = λ clean db left. inl left }

pub has_after : (old new : State) → new.now ≡ old.now → HasTables old.now → HasTables new.now
has_after old new same h = subst HasTables (sym same) h

-- so far the tables are as they were, and this variant shows the frame too; where the first has it as its own, this is the first
pub record HasClimbed (key : FrameKey) (above : Name) (old now : State) : Type 0 where
  pub same : now.now ≡ old.now
  pub inside : IsTrue now.in_transaction
  pub keeps : KeepsCommit old now
  pub shows : (c : Cluster) (b : Book) → Stands old c b → (x : Variant) (frame : Frame) → get b.variants key.variant ≡ Some x → get x.frames (key.supplier, key.frame) ≡ Some frame → Shown key.variant key.supplier key.frame (tables_of old) b.variants above frame
  pub first : is_own key (tables_of old) ≡ true → above ≡ key.variant

module _ (key : FrameKey) (old : State) where
  pub begins : IsTrue old.in_transaction → HasClimbed key key.variant old old
  begins inside = record {
    same = refl;
    inside = inside;
    keeps = record { was_open = λ up. up; committed = λ up. refl };
    shows = λ c b stands x frame there shown. (x, there, shown);
    first = λ own. refl;
  }

  module _ (above : Name) (before : State) (climbed : HasClimbed key above old before) where
    pub has_before : HasTables old.now → HasTables before.now
    has_before h = has_after old before climbed.same h

    pub fails : (new : State) → Stays before new → KeepsCommit old new
    fails new stays = keeps_then old before new climbed.keeps (keeps_stay before new stays)

    same_tables : tables_of before ≡ tables_of old
    same_tables = ap (λ (d : Database). tables_in d.trees) climbed.same

    pub is_owner : (new : State) → IsUnchanged before new → is_own (record key { variant = above }) (tables_of before) ≡ true → IsOwner key above old new
    is_owner new same own = record {
      now = same.0.now_is ∙ climbed.same;
      inside = same.0.mode ∙ climbed.inside;
      of = λ c b stands x frame there shown.
          let here = climbed.shows c b stands x frame there shown in
          record { variant = here.0; there = here.1; shown = here.2; own = ap (is_own (record key { variant = above })) (sym same_tables) ∙ own; nearest = climbed.first };
    }

    pub owner_kept : (new : State) → IsUnchanged before new → KeepsCommit old new
    owner_kept new same = fails new (inl same)

    -- the next is the parent
    pub climbs : (mid new : State) (origin : Origin) (parent : Name) → IsUnchanged before mid → is_own (record key { variant = above }) (tables_of before) ≡ false → TellsOrigin above (tables_of mid) origin → IsUnchanged mid new → origin.parent ≡ Some parent
        → HasClimbed key parent old new
    climbs mid new origin parent same not_own told still is =
        let not_here : is_own (record key { variant = above }) (tables_of old) ≡ false = ap (is_own (record key { variant = above })) (sym same_tables) ∙ not_own in
        let tables_mid : tables_of mid ≡ tables_of old = ap (λ (d : Database). tables_in d.trees) same.0.now_is ∙ same_tables in
        record {
          same = still.0.now_is ∙ same.0.now_is ∙ climbed.same;
          inside = still.0.mode ∙ same.0.mode ∙ climbed.inside;
          keeps = keeps_then old mid new (owner_kept mid same) (keeps_stay mid new (inl still));
          shows = λ c b stands x frame there shown.
              let here = climbed.shows c b stands x frame there shown in
              let its = subst (λ t. TellsOrigin above t origin) tables_mid told in
              above_shows above key.supplier key.frame (tables_of old) c.params.cycles b stands.for.rows here.0 here.1 frame here.2 not_here parent (its.parent c.params.cycles b stands.for.rows here.0 here.1 ∙ is);
          first = λ own. absurd (true≢false (sym own ∙ ap (λ w. is_own (record key { variant = w }) (tables_of old)) (sym (climbed.first own)) ∙ not_here));
        }
