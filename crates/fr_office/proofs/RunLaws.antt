-- A run goes on by one request; and a run from a sound book is as the register promises.
use Rattle.std.proofs.Common.{◌≡◌, ℕ, true, List, [], ◌∷◌, ◌++◌, refl, subst, sym, inl, inr}
use Rattle.std.proofs.lemmas.Bool.{cases_Bool, and_parts}
use Rattle.fr_base.specs.Alone.{asks_of, answers_of, is_done, is_mine}
use Rattle.fr_base.specs.Book.{Book}
use Rattle.fr_base.specs.Cluster.{Cluster}
use Rattle.fr_base.specs.Run.{IsRun}
use Rattle.fr_base.specs.Sound.{IsSound}
use Rattle.fr_base.specs.Step.{step}
use Rattle.fr_base.specs.declared.actor.Actor.{Actor}
use Rattle.fr_base.specs.declared.actor.Actor.TheVariants.{Integrator, Supplier}
use Rattle.fr_base.specs.declared.answer.Answer.{Answer}
use Rattle.fr_base.specs.declared.answer.Answer.TheVariants.{Done}
use Rattle.fr_base.specs.declared.name.Name.{Name}
use Rattle.fr_base.specs.declared.request.Ask.{Ask}
use Rattle.fr_base.specs.declared.request.Request.{Request}
use Rattle.fr_base.proofs.AloneRuns.{run-alone}
use Rattle.fr_base.proofs.SoundLaws.{fronts, holder, one_frame, run-sound}
use Rattle.fr_office.specs.Headline.{WereAnswered, AreDone, IsCollisionFreeAfter, IsAsIfAlone, IsDoneFor, IsAsPromised, IsCollisionFree}

-- requests of a run, and those of one that goes on from there
pub runs_joined : (c : Cluster) (b mid last : Book) (asks more : List Ask) (answers others : List Answer) →
    IsRun c b asks answers mid → IsRun c mid more others last → IsRun c b (asks ++ more) (answers ++ others) last
runs_joined c b mid last [] more [] others run next = subst (λ x. IsRun c x more others last) run next
runs_joined c b mid last [] more (a ∷ answers) others run next = absurd run
runs_joined c b mid last (x ∷ asks) more [] others run next = absurd run
runs_joined c b mid last (x ∷ asks) more (a ∷ answers) others (inl lacking) next =
    inl (lacking.0, lacking.1, runs_joined c b mid last asks more answers others lacking.2 next)
runs_joined c b mid last (x ∷ asks) more (a ∷ answers) others (inr done) next =
    inr (done.0, runs_joined c (step c b x.actor x.request).book mid last asks more answers others done.1 next)

-- one request more, after the others
pub run_more : (c : Cluster) (b mid last : Book) (asks : List Ask) (ask : Ask) (answers : List Answer) (answer : Answer) →
    IsRun c b asks answers mid → IsRun c mid (ask ∷ []) (answer ∷ []) last → IsRun c b (asks ++ ask ∷ []) (answers ++ answer ∷ []) last
run_more c b mid last asks ask answers answer run next = runs_joined c b mid last asks (ask ∷ []) answers (answer ∷ []) run next

-- ---- the integrator's commands that are the supplier's were done

done-is : (answer : Answer) → is_done answer ≡ true → answer ≡ Done
done-is Done h = refl
done-is _ h = cc

mine-done : (s : Name) (actor : Actor) (request : Request) (answer : Answer) → is_mine s actor request answer ≡ true → IsDoneFor actor answer
mine-done s Integrator request answer h = done-is answer (and_parts _ _ h).0
mine-done s (Supplier t) request answer h = tt

all_done : (s : Name) (asks : List Ask) (answers : List Answer) → AreDone (asks_of s asks answers) (answers_of s asks answers)
all_done s [] answers = tt
all_done s (ask ∷ asks) [] = tt
all_done s (ask ∷ asks) (answer ∷ answers) = elim (cases_Bool (is_mine s ask.actor ask.request answer)) [
  | inl mine ↦ rw mine (mine-done s ask.actor ask.request answer mine, all_done s asks answers)
  | inr other ↦ rw other (all_done s asks answers)
]

-- ---- a run from a sound book

collision_free : (c : Cluster) (b : Book) → IsSound c b → IsCollisionFree b
collision_free c b sound = record {
  one = λ name v k l f g q r cell there x y. one_frame c b sound name v there k l f g q r cell x y;
  holder = λ name v k f q cell there x. holder c b sound name v there k f q cell x;
}

module _ (c : Cluster) (b last : Book) (asks : List Ask) (answers : List Answer) (sound : IsSound c b) (run : IsRun c b asks answers last) where
  as_if_alone : (s : Name) → IsAsIfAlone c s b asks answers last
  as_if_alone s =
      let alike = run-alone c s b last asks answers sound run in
      record {
        same = alike.0;
        done = subst (AreDone (asks_of s asks answers)) (sym alike.0) (all_done s asks answers);
        rows = alike.1;
      }

  free_after : (n : ℕ) → IsCollisionFreeAfter c b asks answers last n
  free_after n =
      let mid = fronts c b last asks answers n sound run in
      record { book = mid.0; before = mid.2; free = collision_free c mid.0 mid.1; after = mid.3 }

  pub run-promised : IsAsPromised c b asks answers last
  run-promised = record { alone = as_if_alone; collision_free = free_after }

-- a run from a sound book to the one for which the rows stand
pub were_answered : (now : Book → Type 0) (c : Cluster) (b : Book) (asks : List Ask) (answers : List Answer) → IsSound c b →
    ((last : Book) × now last × IsRun c b asks answers last) → WereAnswered now c b asks answers
were_answered now c b asks answers sound ran = record {
  last = ran.0;
  stands = ran.1;
  run = ran.2;
  sound = run-sound c b ran.0 asks answers sound ran.2;
  promised = run-promised c b ran.0 asks answers sound ran.2;
}
