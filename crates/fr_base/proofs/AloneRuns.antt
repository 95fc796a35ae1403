-- A run, and the run of the register that holds one supplier alone over what is the supplier's.
use Rattle.std.proofs.Common.{◌≡◌, Bool, true, false, ◌&&◌, List, [], ◌∷◌, refl, sym, ap, subst, ◌∙◌, inl, inr}
use Rattle.std.specs.Prelude.{filter, map}
use Rattle.std.proofs.lemmas.Bool.{cases_Bool}
use Rattle.fr_base.specs.Tables.{only, insert, from_rows}
use Rattle.fr_base.specs.Keys.{names, owned}
use Rattle.fr_base.specs.Cluster.{Cluster, ClusterFile}
use Rattle.fr_base.specs.Names.{same_text}
use Rattle.fr_base.specs.Book.{Book, is_of, suppliers_of, opening}
use Rattle.fr_base.specs.Step.{Outcome, step}
use Rattle.fr_base.specs.Run.{IsRun}
use Rattle.fr_base.specs.Sound.{IsSound}
use Rattle.fr_base.specs.Alone.{own_variant, rows_of, is_mine, asks_of, answers_of, alone, answers_to, book_after}
use Rattle.fr_base.specs.declared.config.Supplier.{Supplier as Listed}
use Rattle.fr_base.specs.declared.key.Key.{Key}
use Rattle.fr_base.specs.declared.name.Name.{Name}
use Rattle.fr_base.specs.declared.answer.Answer.{Answer}
use Rattle.fr_base.specs.declared.answer.Answer.TheVariants.{Refused}
use Rattle.fr_base.specs.declared.refusal.Refusal.TheVariants.{Unavailable}
use Rattle.fr_base.specs.declared.actor.Actor.{Actor}
use Rattle.fr_base.specs.declared.actor.Actor.TheVariants.{Integrator, Supplier}
use Rattle.fr_base.specs.declared.request.Ask.{Ask}
use Rattle.fr_base.specs.declared.request.Request.{Request}
use Rattle.fr_base.proofs.SoundSteps.{step-sound}
use Rattle.fr_base.proofs.SoundTables.{only-insert, only-insert_other}
use Rattle.fr_base.proofs.AloneTables.{only-empty, each-empty}
use Rattle.fr_base.proofs.AloneOutcomes.{seen}
use Rattle.fr_base.proofs.AloneSteps.{step-mine, step-not_mine}

-- ---- a run

-- from this book the requests are answered so, and then the book is the last
abbrev Gives : Cluster → Book → List Ask → List Answer → Book → Type 0
Gives c b asks answers last = (answers_to c b asks ≡ answers) × (book_after c b asks ≡ last)

-- one request more, before the others
gives_first : (c : Cluster) (b : Book) (ask : Ask) (asks : List Ask) (answer : Answer) (answers : List Answer) (d last : Book) →
    step c b ask.actor ask.request ≡ record { book = d; answer = answer } → Gives c d asks answers last → Gives c b (ask ∷ asks) (answer ∷ answers) last
gives_first c b ask asks answer answers d last first rest =
    (ap (λ (o : Outcome). o.answer ∷ answers_to c o.book asks) first ∙ ap (λ more. answer ∷ more) rest.0, ap (λ (o : Outcome). book_after c o.book asks) first ∙ rest.1)

not_lacked : (s : Name) (actor : Actor) (request : Request) → is_mine s actor request (Refused Unavailable) ≡ false
not_lacked s Integrator request = refl
not_lacked s (Supplier t) request = and_none (same_text t s)
  where
    and_none : (x : Bool) → x && false ≡ false
    and_none true = refl
    and_none false = refl

module _ (c : Cluster) (s : Name) where
  seen-step : (b : Book) → IsSound c b → (ask : Ask) → is_mine s ask.actor ask.request (step c b ask.actor ask.request).answer ≡ true →
      step c (rows_of s b) ask.actor ask.request ≡ record { book = rows_of s (step c b ask.actor ask.request).book; answer = (step c b ask.actor ask.request).answer }
  unfolding seen
  seen-step b sound ask mine = step-mine c b s sound ask.actor ask.request mine

  -- what is not the supplier's, before others
  passed_over : (b : Book) (ask : Ask) (asks : List Ask) (answer : Answer) (answers : List Answer) (d last : Book) → is_mine s ask.actor ask.request answer ≡ false → rows_of s d ≡ rows_of s b →
      Gives c (rows_of s d) (asks_of s asks answers) (answers_of s asks answers) (rows_of s last) →
      Gives c (rows_of s b) (asks_of s (ask ∷ asks) (answer ∷ answers)) (answers_of s (ask ∷ asks) (answer ∷ answers)) (rows_of s last)
  passed_over b ask asks answer answers d last other still rest =
      rw other (subst (λ x. Gives c x (asks_of s asks answers) (answers_of s asks answers) (rows_of s last)) still rest)

  -- The register that holds the supplier alone, asked what is the supplier's, gives the same answers and ends with its rows.
  pub run-alone : (b last : Book) (asks : List Ask) (answers : List Answer) → IsSound c b → IsRun c b asks answers last →
      (answers_to c (rows_of s b) (asks_of s asks answers) ≡ answers_of s asks answers) × (book_after c (rows_of s b) (asks_of s asks answers) ≡ rows_of s last)
  run-alone b last [] [] sound run = (refl, ap (rows_of s) (sym run))
  run-alone b last [] (answer ∷ answers) sound run = absurd run
  run-alone b last (ask ∷ asks) [] sound run = absurd run
  run-alone b last (ask ∷ asks) (answer ∷ answers) sound (inl lacking) =
      passed_over b ask asks answer answers b last (ap (is_mine s ask.actor ask.request) lacking.1 ∙ not_lacked s ask.actor ask.request) refl (run-alone b last asks answers sound lacking.2)
  run-alone b last (ask ∷ asks) (answer ∷ answers) sound (inr done) =
      let o : Outcome = step c b ask.actor ask.request in
      let rest = run-alone o.book last asks answers (step-sound c b sound ask.actor ask.request) done.1 in
      elim (cases_Bool (is_mine s ask.actor ask.request answer)) [
        | inl mine ↦ rw mine (gives_first c (rows_of s b) ask (asks_of s asks answers) answer (answers_of s asks answers) (rows_of s o.book) (rows_of s last)
            (seen-step b sound ask (ap (is_mine s ask.actor ask.request) (sym done.0) ∙ mine) ∙ ap (λ a. record { book = rows_of s o.book; answer = a }) (sym done.0)) rest)
        | inr other ↦ passed_over b ask asks answer answers o.book last other (step-not_mine c b s ask.actor ask.request (ap (is_mine s ask.actor ask.request) (sym done.0) ∙ other)) rest
      ]

  -- two runs that begin with the same rows of the supplier, and have the same requests that are the supplier's
  pub runs-alike : (b d last end : Book) (asks others : List Ask) (answers replies : List Answer) → IsSound c b → IsSound c d → IsRun c b asks answers last → IsRun c d others replies end →
      rows_of s b ≡ rows_of s d → asks_of s asks answers ≡ asks_of s others replies →
      (answers_of s asks answers ≡ answers_of s others replies) × (rows_of s last ≡ rows_of s end)
  runs-alike b d last end asks others answers replies sound_b sound_d run_b run_d rows same =
      let one = run-alone b last asks answers sound_b run_b in
      let two = run-alone d end others replies sound_d run_d in (
        sym one.0 ∙ ap (λ (z : Book × List Ask). answers_to c z.0 z.1) (λ i. (rows i, same i)) ∙ two.0,
        sym one.1 ∙ ap (λ (z : Book × List Ask). book_after c z.0 z.1) (λ i. (rows i, same i)) ∙ two.1,
      )

-- ---- a new register

row : Listed → Name × Key
row t = (t.name, t.key)

only-from_rows : (s : Name) (ts : List Listed) → only (λ t _. same_text t s) (from_rows {o = names} (map row ts)) ≡ from_rows {o = names} (map row (filter (λ t. same_text t.name s) ts))
unfolding from_rows row
only-from_rows s [] = only-empty names (λ t _. same_text t s)
only-from_rows s (t ∷ ts) = elim (cases_Bool (same_text t.name s)) [
  | inl own ↦ rw own (only-insert names (λ t. same_text t s) (from_rows (map row ts)) t.name t.key own ∙ ap (λ u. insert u t.name t.key) (only-from_rows s ts))
  | inr other ↦ rw other (only-insert_other names (λ t. same_text t s) (from_rows (map row ts)) t.name t.key other ∙ only-from_rows s ts)
]

-- the supplier's rows of a new register are a new register of the supplier alone
pub opening-alone : (f : ClusterFile) (s : Name) → rows_of s (opening f) ≡ opening (alone s f)
unfolding rows_of opening suppliers_of row
opening-alone f s = λ i. record {
  suppliers = only-from_rows s f.suppliers i;
  nodes = only-empty owned (λ k _. is_of s k) i;
  variants = each-empty names (own_variant s) i;
  imports = only-empty owned (λ k _. is_of s k) i;
}

-- ---- steps one after another are a run

pub steps-run : (c : Cluster) (b : Book) (asks : List Ask) → IsRun c b asks (answers_to c b asks) (book_after c b asks)
steps-run c b [] = refl
steps-run c b (ask ∷ asks) = inr (refl, steps-run c (step c b ask.actor ask.request).book asks)
