-- Laws of keys: whose a key is, it stays; when a supplier has another one, and what that changes.
use Rattle.std.specs.Prelude.{◌≡◌, ℕ, Bool, false, ◌&&◌, ◌||◌, List, ◌∷◌, Some, is_none, IsFalse}
use Rattle.fr_base.specs.Tables.{contains, insert}
use Rattle.fr_base.specs.Names.{is_key, same_text}
use Rattle.fr_base.specs.Checks.{is_integrator}
use Rattle.fr_base.specs.Cluster.{Cluster}
use Rattle.fr_base.specs.Book.{Book}
use Rattle.fr_base.specs.Actors.{actor_of}
use Rattle.fr_base.specs.Step.{step}
use Rattle.fr_base.specs.Run.{IsRun}
use Rattle.fr_base.specs.Sound.{IsSound}
use Rattle.fr_base.specs.Alone.{is_done}
use Rattle.fr_base.specs.declared.answer.Answer.{Answer}
use Rattle.fr_base.specs.declared.answer.Answer.TheVariants.{Done}
use Rattle.fr_base.specs.declared.actor.Actor.{Actor}
use Rattle.fr_base.specs.declared.actor.Actor.TheVariants.{Supplier}
use Rattle.fr_base.specs.declared.request.Ask.{Ask}
use Rattle.fr_base.specs.declared.request.Request.{Request}
use Rattle.fr_base.specs.declared.request.Request.TheVariants.{SetKey}

-- In a sound book a SetKey is answered Done exactly where the integrator asks it, the supplier is
-- there, and the key has its form and is nobody's.
abbrev pub SetKeyIsDone : Type 0
SetKeyIsDone = (c : Cluster) (b : Book) (actor : Actor) (s key : List ℕ) → IsSound c b →
    is_done (step c b actor (SetKey s key)).answer
    ≡ (is_integrator actor
    && (contains b.suppliers s && (is_key key && is_none (actor_of c b key))))

-- After a SetKey that is done the book is as before, but this one supplier has this key.
abbrev pub SetKeyChangesOneKey : Type 0
SetKeyChangesOneKey = (c : Cluster) (b : Book) (actor : Actor) (s key : List ℕ) →
    (step c b actor (SetKey s key)).answer ≡ Done →
    (step c b actor (SetKey s key)).book ≡ record b { suppliers = insert b.suppliers s key }

-- whether the request is a SetKey that names the actor; none names the integrator
abbrev pub sets_key_of : Actor → Request → Bool
sets_key_of (Supplier s) (SetKey t key) = same_text t s
sets_key_of _ _ = false

-- whether such a request is among these, and was answered Done
abbrev pub was_set : Actor → List Ask → List Answer → Bool
was_set actor (ask ∷ asks) (answer ∷ answers) = (sets_key_of actor ask.request && is_done answer) || was_set actor asks answers
was_set actor _ _ = false

-- Whose a key is, it stays, in any book and whatever is asked, until a SetKey that names its owner is done.
abbrev pub KeyStays : Type 0
KeyStays = (c : Cluster) (b last : Book) (asks : List Ask) (answers : List Answer) (key : List ℕ) (actor : Actor) →
    actor_of c b key ≡ Some actor → IsRun c b asks answers last → IsFalse (was_set actor asks answers) →
    actor_of c last key ≡ Some actor
