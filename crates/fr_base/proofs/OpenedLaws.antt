-- What is opened from a variant has its grants and frames, so all that is told of these is alike.
use Rattle.std.proofs.Common.{◌≡◌, ℕ, Bool, true, false, cond, List, [], Option, Some, None, is_some, Result, Ok, Err, IfOk, IsTrue, true≢false, refl, sym, ap, subst, ◌∙◌, inl, inr}
use Rattle.std.specs.Ordering.{eq_by_cmp}
use Rattle.std.proofs.lemmas.Bool.{cases_Bool}
use Rattle.fr_base.specs.Tables.{Table, contains, get}
use Rattle.fr_base.specs.Keys.{names, owned, channel_slots}
use Rattle.fr_base.specs.Book.{Holder, Frame, Variant, Book, empty_variant}
use Rattle.fr_base.specs.OpenedLaws.{AreAlike, IsFirst, OpenedIsAlike, FlatIsFirst, origin_of, is_of_places}
use Rattle.fr_base.specs.Differences.{seen_rows}
use Rattle.fr_base.specs.Queries.{shown}
use Rattle.fr_base.specs.Step.{begun, common, with_variant}
use Rattle.fr_base.specs.declared.actor.Actor.{Actor}
use Rattle.fr_base.specs.declared.actor.Actor.TheVariants.{Integrator, Supplier}
use Rattle.fr_base.specs.declared.beginning.Beginning.{Beginning}
use Rattle.fr_base.specs.declared.beginning.Beginning.TheVariants.{Empty, From, Flat}
use Rattle.fr_base.specs.declared.name.Name.{Name}
use Rattle.fr_base.specs.declared.params.Params.{Params}
use Rattle.fr_base.specs.declared.refusal.Refusal.{Refusal}
use Rattle.fr_base.specs.declared.report.Report.{Report}
use Rattle.fr_base.specs.declared.report.Report.TheVariants.{Grants, Frames, Schedule, Gaps, Layout, Load, Rows, Room, Export}
use Rattle.fr_base.specs.declared.request.CommonCommand.TheVariants.{OpenVariant}
use Rattle.fr_base.proofs.DifferenceLaws.{differences-none}
use Rattle.fr_base.proofs.SoundRefusing.{gives_or, gives_bind, gives_when}
use Rattle.fr_base.proofs.SoundTables.{same_key, same_some}
use Rattle.fr_base.proofs.TableLaws.{equal, get-insert}

-- reports tell of a variant's grants and frames alone, but for that of places
abbrev bare : Table channel_slots Holder → Table owned Frame → Variant
bare grants frames = record empty_variant { grants = grants; frames = frames }

shown-bare : (p : Params) (actor : Actor) (x : Variant) (report : Report Name ℕ) → is_of_places report ≡ false → shown p actor x report ≡ shown p actor (bare x.grants x.frames) report
unfolding shown empty_variant seen_rows
shown-bare p actor x Grants other = refl
shown-bare p actor x Frames other = refl
shown-bare p actor x Schedule other = refl
shown-bare p actor x Gaps other = refl
shown-bare p actor x (Layout f) other = refl
shown-bare p actor x Load other = refl
shown-bare p actor x Rows other = refl
shown-bare p actor x (Room f repetition) other = cc
shown-bare p actor x (Export header part) other = refl

are-alike : (p : Params) (old new : Variant) → new.grants ≡ old.grants → new.frames ≡ old.frames → AreAlike p old new
are-alike p old new grants frames = record {
  grants = grants;
  frames = frames;
  shown = λ actor report other. shown-bare p actor new report other ∙ (λ i. shown p actor (bare (grants i) (frames i)) report) ∙ sym (shown-bare p actor old report other);
  differs = λ actor. differences-none p actor old new (sym grants) (sym frames);
}

-- with the same grants and frames as the one from which it is opened
abbrev BeginsAs : Book → Name → Variant → Type 0
BeginsAs b from y = (x : Variant) × (get b.variants from ≡ Some x) × (y.grants ≡ x.grants) × (y.frames ≡ x.frames)

begun-as : (b : Book) (from : Name) (beginning : Beginning Name) → origin_of beginning ≡ Some from → IfOk (begun b beginning) (BeginsAs b from)
unfolding begun
begun-as b from Empty of = cc
begun-as b from (From parent) of =
    subst (λ v. IfOk (begun b (From parent)) (BeginsAs b v)) (same_some parent from of)
    (gives_or _ (get b.variants parent) _ _ (λ x there.
    gives_when _ _ _ _ (λ _.
    gives_when _ _ _ _ (λ _. (x, there, refl, refl)))))
begun-as b from (Flat origin) of =
    subst (λ v. IfOk (begun b (Flat origin)) (BeginsAs b v)) (same_some origin from of)
    (gives_or _ (get b.variants origin) _ _ (λ x there.
    gives_when _ _ _ _ (λ _. (x, there, refl, refl))))

-- what an opening that is done has made
record Opens (b : Book) (v : Name) (beginning : Beginning Name) (after : Book) : Type 0 where
  variant : Variant
  begins : begun b beginning ≡ Ok variant
  free : contains b.variants v ≡ false
  is : with_variant b v variant ≡ after

itself : {A : Type 0} (r : Result A Refusal) → IfOk r (λ x. r ≡ Ok x)
itself (Ok x) = refl
itself (Err e) = tt

opens : (b : Book) (v : Name) (beginning : Beginning Name) → IfOk (common b (OpenVariant v beginning)) (Opens b v beginning)
unfolding common
opens b v beginning =
    gives_bind _ (λ y. begun b beginning ≡ Ok y) (begun b beginning) _ (itself (begun b beginning)) (λ y begins.
    gives_when _ _ (contains b.variants v) _ (λ free.
    gives_when _ _ _ _ (λ _. record { variant = y; begins = begins; free = free; is = refl })))

of_done : {A : Type 0} (P : A → Type 0) (r : Result A Refusal) (x : A) → r ≡ Ok x → IfOk r P → P x
of_done P r x is holds = subst (λ r. IfOk r P) is holds

module _ (b after : Book) (v : Name) (beginning : Beginning Name) (opens : Opens b v beginning after) where
  -- it is the new one
  new-is : (new : Variant) → get after.variants v ≡ Some new → opens.variant ≡ new
  new-is new there =
      same_some opens.variant new (sym (ap (λ t. cond t (Some opens.variant) (get b.variants v)) (same_key names v)) ∙ sym (get-insert b.variants v opens.variant v)
      ∙ ap (λ (a : Book). get a.variants v) opens.is ∙ there)

  -- what was there stays
  old-is : (from : Name) (x old : Variant) → get b.variants from ≡ Some x → get after.variants from ≡ Some old → x ≡ old
  old-is from x old was there =
      let apart : eq_by_cmp names.compare from v ≡ false = elim (cases_Bool (eq_by_cmp names.compare from v)) [
        | inl tie ↦ absurd (true≢false (sym (ap is_some was) ∙ ap (contains b.variants) (names.exact from v (equal _ tie)) ∙ opens.free))
        | inr other ↦ other
      ] in
      same_some x old (sym was ∙ sym (ap (λ t. cond t (Some opens.variant) (get b.variants from)) apart) ∙ sym (get-insert b.variants v opens.variant from)
      ∙ ap (λ (a : Book). get a.variants from) opens.is ∙ there)

pub opened-alike : OpenedIsAlike
opened-alike p b after v from beginning old new of done was is =
    let opened = of_done (Opens b v beginning) (common b (OpenVariant v beginning)) after done (opens b v beginning) in
    let begins = of_done (BeginsAs b from) (begun b beginning) opened.variant opened.begins (begun-as b from beginning of) in
    let new_is = new-is b after v beginning opened new is in
    let old_is = old-is b after v beginning opened from begins.0 old begins.1 was in
    are-alike p old new (ap (λ (x : Variant). x.grants) (sym new_is) ∙ begins.2 ∙ ap (λ (x : Variant). x.grants) old_is)
    (ap (λ (x : Variant). x.frames) (sym new_is) ∙ begins.3 ∙ ap (λ (x : Variant). x.frames) old_is)

-- what is opened flat is a first variant
begun-first : (b : Book) (from : Name) → IfOk (begun b (Flat from)) IsFirst
unfolding begun
begun-first b from =
    gives_or _ (get b.variants from) _ _ (λ x there.
    gives_when _ _ _ _ (λ _. record { parent = refl; depth = refl; unreleased = refl }))

pub flat-first : FlatIsFirst
flat-first b after v from new done is =
    let opened = of_done (Opens b v (Flat from)) (common b (OpenVariant v (Flat from))) after done (opens b v (Flat from)) in
    subst IsFirst (new-is b after v (Flat from) opened new is) (of_done IsFirst (begun b (Flat from)) opened.variant opened.begins (begun-first b from))
