-- Run: a list of requests, each in turn a step; or answered `Unavailable`, with nothing changed, where its sender is
-- known and the request itself gives no cause for a refusal.
use Rattle.std.specs.Prelude.{◌≡◌, ◌⊎◌, List, [], ◌∷◌, IsTrue, IsOk}
use Rattle.fr_base.specs.Checks.{check}
use Rattle.fr_base.specs.Book.{Book}
use Rattle.fr_base.specs.Step.{knows, step}
use Rattle.fr_base.specs.Cluster.{Cluster}
use Rattle.fr_base.specs.declared.answer.Answer.{Answer}
use Rattle.fr_base.specs.declared.answer.Answer.TheVariants.{Refused}
use Rattle.fr_base.specs.declared.refusal.Refusal.TheVariants.{Unavailable}
use Rattle.fr_base.specs.declared.request.Ask.{Ask}

-- A request may find the store or memory unavailable only where its sender is known and nothing in the request itself
-- refuses it.
pub record MayLack (c : Cluster) (b : Book) (ask : Ask) : Type 0 where
  pub known : IsTrue (knows b ask.actor)
  pub checked : IsOk (check c.params ask.actor ask.request)

-- From this book the requests may be answered so, one after another, and then the book is the last.
-- A request is answered Unavailable, and changes nothing, or it is a step.
abbrev pub IsRun : Cluster → Book → List Ask → List Answer → Book → Type 0
IsRun c b [] [] last = last ≡ b
IsRun c b (ask ∷ asks) (answer ∷ answers) last =
    (MayLack c b ask × (answer ≡ Refused Unavailable) × IsRun c b asks answers last)
    ⊎ ((answer ≡ (step c b ask.actor ask.request).answer) × IsRun c (step c b ask.actor ask.request).book asks answers last)
IsRun c b [] (_ ∷ _) last = ⊥
IsRun c b (_ ∷ _) [] last = ⊥
