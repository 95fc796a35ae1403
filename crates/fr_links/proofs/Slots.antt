-- The slots of the table: what a call at one key makes of them, and what several calls make.
use Rattle.std.proofs.Common.{◌≡◌, ◌∙◌, ℕ, List, Option, None, Some, IfSome, IsSome, refl, sym, ap, subst, inl, inr}
use Rattle.std.specs.Prelude.{◌≢◌}
use Rattle.std.proofs.lemmas.Bool.{cases_eq}
use Rattle.slab.specs.Slab.{ContainsKey, Slab, get, with_value}
use Rattle.slab.proofs.SlabLemmas.{Updates-with_value}
use Rattle.fr_links.specs.Connection.{Follows, IsAnswered, IsBegun, IsMoved, IsReady, IsUnanswered}
use Rattle.fr_links.proofs.Connecting.{loses_on}
use Rattle.fr_links.specs.Gathering.{IsTold}
use Rattle.fr_links.specs.declared.judge.Judgement.{Judgement}
use Rattle.fr_links.specs.Connections.{AllStay, Goes, IsKnown, OthersStay, Stays, at}
use Rattle.fr_links.specs.declared.held.Held.{Held}
use Rattle.fr_links.specs.declared.link.Link.{Link}
use Rattle.fr_links.specs.declared.stage.Stage.{Stage}
use Rattle.fr_links.specs.declared.stage.Stage.TheVariants.{Asking, Ready, Replying, Resting}
use Rattle.fr_links.specs.declared.table.Table.{Table}

pub Follows-refl : (stage : Stage) → Follows stage stage
Follows-refl Asking = tt
Follows-refl (Ready ending) = refl
Follows-refl (Replying asked) = tt
Follows-refl (Resting asked room) = tt

pub Follows-trans : (a b c : Stage) → Follows a b → Follows b c → Follows a c
Follows-trans Asking Asking c p q = q
Follows-trans Asking (Ready ending) c p q = subst IsUnanswered (sym q) tt
Follows-trans Asking (Replying asked) c p q = absurd p
Follows-trans Asking (Resting asked room) c p q = absurd p
Follows-trans (Ready x) b c p q = subst (λ stage. Follows stage c) p q
Follows-trans (Replying x) Asking c p q = absurd p
Follows-trans (Replying x) (Ready ending) c p q = absurd p
Follows-trans (Replying x) (Replying asked) c p q = q
Follows-trans (Replying x) (Resting asked room) c p q = q
Follows-trans (Resting x y) Asking c p q = absurd p
Follows-trans (Resting x y) (Ready ending) c p q = absurd p
Follows-trans (Resting x y) (Replying asked) c p q = q
Follows-trans (Resting x y) (Resting asked room) c p q = q

not_both : (stage : Stage) → IsAnswered stage → IsUnanswered stage → ⊥
not_both Asking was is = was
not_both (Ready ending) was is = was
not_both (Replying asked) was is = is
not_both (Resting asked room) was is = is

-- what is to be answered was not answered
pub ready_unanswered : (stage : Stage) → IsReady stage → IsUnanswered stage
ready_unanswered Asking ready = absurd ready
ready_unanswered (Ready ending) ready = tt
ready_unanswered (Replying asked) ready = absurd ready
ready_unanswered (Resting asked room) ready = absurd ready

-- what was answered stays so
pub answered : (a b : Stage) → Follows a b → IsAnswered a → IsAnswered b
answered Asking b follows was = absurd was
answered (Ready ending) b follows was = absurd was
answered (Replying asked) b follows was = follows
answered (Resting asked room) b follows was = follows

-- what is not answered was not
pub was_unanswered : (a b : Stage) → Follows a b → IsUnanswered b → IsUnanswered a
was_unanswered Asking b follows is = tt
was_unanswered (Ready ending) b follows is = tt
was_unanswered (Replying asked) Asking follows is = absurd follows
was_unanswered (Replying asked) (Ready ending) follows is = absurd follows
was_unanswered (Replying asked) (Replying again) follows is = absurd is
was_unanswered (Replying asked) (Resting again room) follows is = absurd is
was_unanswered (Resting asked room) Asking follows is = absurd follows
was_unanswered (Resting asked room) (Ready ending) follows is = absurd follows
was_unanswered (Resting asked room) (Replying again) follows is = absurd is
was_unanswered (Resting asked room) (Resting again left) follows is = absurd is

module _ {S : Type 0} where
  pub Stays-refl : (slot : Option (Held S)) → Stays slot slot
  Stays-refl None = tt
  Stays-refl (Some held) = (refl, Follows-refl held.stage)

  -- it is gone
  pub Stays-gone : (slot : Option (Held S)) → Stays slot None
  Stays-gone None = tt
  Stays-gone (Some held) = tt

  pub Stays-trans : (a b c : Option (Held S)) → Stays a b → Stays b c → Stays a c
  Stays-trans None b None p q = tt
  Stays-trans (Some x) b None p q = tt
  Stays-trans None None (Some z) p q = absurd q
  Stays-trans (Some x) None (Some z) p q = absurd q
  Stays-trans None (Some y) (Some z) p q = absurd p
  Stays-trans (Some x) (Some y) (Some z) p q = (q.0 ∙ p.0, Follows-trans x.stage y.stage z.stage p.1 q.1)

  -- what is known of one that stays
  pub known_stays : (tells : List ℕ → Judgement → Type 0) (slot slot' : Option (Held S)) → Stays slot slot' → IsKnown tells slot → IsKnown tells slot'
  known_stays tells slot None stays known = tt
  known_stays tells None (Some new) stays known = absurd stays
  known_stays tells (Some old) (Some new) stays known =
      λ unanswered. subst (λ link. IsTold tells link.inbox.need link.inbox.came.items) (sym stays.0) (known (was_unanswered old.stage new.stage stays.1 unanswered))

  -- a judge heard more of one whose request is awaited
  pub known_heard : (tells : List ℕ → Judgement → Type 0) (slot : Option (Held S)) (held held' : Held S) → slot ≡ Some held → held.stage ≡ Asking
      → (IsTold tells held.link.inbox.need held.link.inbox.came.items → IsTold tells held'.link.inbox.need held'.link.inbox.came.items) → IsKnown tells slot → IsKnown tells (Some held')
  known_heard tells slot held held' there asking told known =
      let before : IsKnown tells (Some held) = subst (IsKnown tells) there known in
      λ _. told (before (subst IsUnanswered (sym asking) tt))

  -- it is written back under its key
  pub put_known : (tells : List ℕ → Judgement → Type 0) (links : Slab (Held S)) (key : ℕ) (held held' : Held S) → get links key ≡ Some held → IsKnown tells (Some held')
      → IsKnown tells (get (with_value links key held') key)
  put_known tells links key held held' there known =
      let present : ContainsKey links key = subst IsSome (sym there) refl in
      subst (IsKnown tells) (sym (Updates-with_value links key held' present).changed) known

  pub AllStay-refl : (table : Table S) → AllStay table table
  AllStay-refl table key = Stays-refl (at table key)

  pub AllStay-trans : (a b c : Table S) → AllStay a b → AllStay b c → AllStay a c
  AllStay-trans a b c p q key = Stays-trans (at a key) (at b key) (at c key) (p key) (q key)

  pub AllStay-links : (a b : Table S) → b.links ≡ a.links → AllStay a b
  AllStay-links a b same key = subst (λ links. Stays (at a key) (get links key)) (sym same) (Stays-refl (at a key))

  -- one stays, and the others are as they were
  pub one_stays : (old new : Table S) (key : ℕ) → OthersStay old new key → Stays (at old key) (at new key) → AllStay old new
  one_stays old new key others own other =
      elim (cases_eq other key) [
        | inl same ↦ subst (λ k. Stays (at old k) (at new k)) (sym same) own
        | inr differs ↦ subst (Stays (at old other)) (sym (others other differs)) (Stays-refl (at old other))
      ]

  -- one is gone, and the others are as they were
  pub one_goes : (old new : Table S) (key : ℕ) → OthersStay old new key → at new key ≡ None → AllStay old new
  one_goes old new key others gone = one_stays old new key others (subst (Stays (at old key)) (sym gone) (Stays-gone (at old key)))

  pub others_trans : (a b c : Table S) (key : ℕ) → OthersStay a b key → OthersStay b c key → OthersStay a c key
  others_trans a b c key p q other differs = q other differs ∙ p other differs

module _ {S : Type 0} (remaining contents : S → Option (List ℕ)) where
  -- what moved did so at a stage that follows
  moved_on : (first old new : Link S) (before stage : Stage) → IsMoved remaining contents first old before → new ≡ old → Follows before stage → IsMoved remaining contents first new stage
  moved_on first old new before stage moved same follows =
      let m : IsMoved remaining contents first new before = subst (λ link. IsMoved remaining contents first link before) (sym same) moved in
      record { kept = m.kept; lost = m.lost; consumed = m.consumed; gathered = m.gathered; none = loses_on before stage m.lost follows m.none; written = m.written }

  pub Goes-gone : (slot : Option (Held S)) → Goes remaining contents slot None
  Goes-gone None = tt
  Goes-gone (Some held) = tt

  -- what is known of one that was answered
  pub known_answered : (tells : List ℕ → Judgement → Type 0) (slot slot' : Option (Held S)) → IfSome slot (λ held. IsAnswered held.stage) → Goes remaining contents slot slot' → IsKnown tells slot'
  known_answered tells slot None was goes = tt
  known_answered tells None (Some new) was goes = absurd goes
  known_answered tells (Some old) (Some new) was goes = λ unanswered. absurd (not_both new.stage (answered old.stage new.stage goes.1 was) unanswered)

  pub Goes-stays : (a b c : Option (Held S)) → Goes remaining contents a b → Stays b c → Goes remaining contents a c
  Goes-stays None b None p q = tt
  Goes-stays (Some x) b None p q = tt
  Goes-stays None None (Some z) p q = absurd q
  Goes-stays (Some x) None (Some z) p q = absurd q
  Goes-stays None (Some y) (Some z) p q = absurd p
  Goes-stays (Some x) (Some y) (Some z) p q =
      (moved_on x.link y.link z.link y.stage z.stage p.0 q.0 q.1, Follows-trans x.stage y.stage z.stage p.1 q.1, λ not. ap (λ link. link.inbox) q.0 ∙ p.2 not)

  -- a connection is written back under its key
  pub put_goes : (links : Slab (Held S)) (key : ℕ) (held held' : Held S) → get links key ≡ Some held → IsMoved remaining contents held.link held'.link held'.stage
      → Follows held.stage held'.stage → (held.stage ≢ Asking → held'.link.inbox ≡ held.link.inbox) → Goes remaining contents (get links key) (get (with_value links key held') key)
  put_goes links key held held' there moved follows whole =
      let present : ContainsKey links key = subst IsSome (sym there) refl in
      let written = (Updates-with_value links key held' present).changed in
      subst (λ slot. Goes remaining contents slot (get (with_value links key held') key)) (sym there)
      (subst (λ slot. Goes remaining contents (Some held) slot) (sym written) (moved, follows, whole))

  -- a connection that began stays
  pub begun_stays : (stream : S) (held : Held S) (slot slot' : Option (Held S)) → slot ≡ Some held → Stays slot slot' → IsBegun remaining contents stream held.link held.stage
      → IfSome slot' (λ back. IsBegun remaining contents stream back.link back.stage)
  begun_stays stream held slot None there stays begun = tt
  begun_stays stream held slot (Some back) there stays begun =
      let both : Stays (Some held) (Some back) = subst (λ s. Stays s (Some back)) there stays in
      record {
        first = begun.first;
        over = begun.over;
        empty = begun.empty;
        none_due = begun.none_due;
        none_early = begun.none_early;
        moved = moved_on begun.first held.link back.link held.stage back.stage begun.moved both.0 both.1;
      }

  -- a connection that was answered stays
  pub answered_stays : (first : Link S) (held : Held S) (slot slot' : Option (Held S)) → slot ≡ Some held → Stays slot slot' → IsMoved remaining contents first held.link held.stage
      → IsAnswered held.stage → IfSome slot' (λ back. IsMoved remaining contents first back.link back.stage × IsAnswered back.stage)
  answered_stays first held slot None there stays moved was = tt
  answered_stays first held slot (Some back) there stays moved was =
      let both : Stays (Some held) (Some back) = subst (λ s. Stays s (Some back)) there stays in
      (moved_on first held.link back.link held.stage back.stage moved both.0 both.1, answered held.stage back.stage both.1 was)
