-- A new register is sound, each run leaves a sound book sound, and what a sound book says of a cell.
use Rattle.std.proofs.Common.{◌≡◌, ℕ, zero, suc, take, drop, List, [], ◌∷◌, Some, refl, sym, ap, subst, ◌∙◌, inl, inr, arith}
use Rattle.fr_base.specs.Tables.{empty, get, len, only}
use Rattle.fr_base.specs.Cells.{Cell}
use Rattle.fr_base.specs.Cluster.{Cluster}
use Rattle.fr_base.specs.Book.{Frame, Variant, Book, opening, held_by_node, granted}
use Rattle.fr_base.specs.Step.{step}
use Rattle.fr_base.specs.Run.{IsRun}
use Rattle.fr_base.specs.Sound.{IsSent, IsSound}
use Rattle.fr_base.specs.Cluster.{ClusterFile, IsWellFormed}
use Rattle.fr_base.specs.declared.answer.Answer.{Answer}
use Rattle.fr_base.specs.declared.name.Name.{Name}
use Rattle.fr_base.specs.declared.placement.Placement.{Placement}
use Rattle.fr_base.specs.declared.request.Ask.{Ask}
use Rattle.fr_base.proofs.SoundCells.{has_cell-in}
use Rattle.fr_base.proofs.SoundRows.{holder-is}
use Rattle.fr_base.proofs.SuppliersLaws.{file_of-opening}
use Rattle.fr_base.proofs.SoundSteps.{step-sound}

-- ---- a new register

pub opening-sound : (f : ClusterFile) → IsWellFormed f → IsSound f.cluster (opening f)
unfolding opening empty get len only
opening-sound f form = record {
  cluster = subst IsWellFormed (sym (file_of-opening f form.cluster)) form;
  nodes = λ s n h. cc;
  variants = λ v x e. cc;
  parents = λ v x e. cc;
  imports = λ s l kept e. cc;
  node_limit = λ s. omega arith;
  variant_limit = omega arith;
  import_limit = λ s. omega arith;
}

-- ---- runs

pub run-sound : (c : Cluster) (b last : Book) (asks : List Ask) (answers : List Answer) → IsSound c b → IsRun c b asks answers last → IsSound c last
run-sound c b last [] [] sound run = subst (IsSound c) (sym run) sound
run-sound c b last [] (answer ∷ answers) sound run = absurd run
run-sound c b last (ask ∷ asks) [] sound run = absurd run
run-sound c b last (ask ∷ asks) (answer ∷ answers) sound (inl lacking) = run-sound c b last asks answers sound lacking.2
run-sound c b last (ask ∷ asks) (answer ∷ answers) sound (inr done) = run-sound c (step c b ask.actor ask.request).book last asks answers (step-sound c b sound ask.actor ask.request) done.1

-- a run goes through sound books
pub fronts : (c : Cluster) (b last : Book) (asks : List Ask) (answers : List Answer) (n : ℕ) → IsSound c b → IsRun c b asks answers last →
    (mid : Book) × IsSound c mid × IsRun c b (take n asks) (take n answers) mid × IsRun c mid (drop n asks) (drop n answers) last
fronts c b last [] [] zero sound run = (b, sound, refl, run)
fronts c b last [] [] (suc n) sound run = (b, sound, refl, run)
fronts c b last [] (answer ∷ answers) n sound run = absurd run
fronts c b last (ask ∷ asks) [] n sound run = absurd run
fronts c b last (ask ∷ asks) (answer ∷ answers) zero sound run = (b, sound, refl, run)
fronts c b last (ask ∷ asks) (answer ∷ answers) (suc n) sound (inl lacking) =
    let rest = fronts c b last asks answers n sound lacking.2 in
    (rest.0, rest.1, inl (lacking.0, lacking.1, rest.2), rest.3)
fronts c b last (ask ∷ asks) (answer ∷ answers) (suc n) sound (inr done) =
    let rest = fronts c (step c b ask.actor ask.request).book last asks answers n (step-sound c b sound ask.actor ask.request) done.1 in
    (rest.0, rest.1, inr (done.0, rest.2), rest.3)

-- ---- what is sent in a cell

module _ (c : Cluster) (b : Book) (sound : IsSound c b) (name : Name) (v : Variant) (there : get b.variants name ≡ Some v) where
  pub one_frame : (k l : Name × Name) (f g : Frame) (q r : Placement) (cell : Cell) → IsSent v k f q cell → IsSent v l g r cell → (k ≡ l) × (q ≡ r)
  one_frame k l f g q r cell x y = (sound.variants name v there).1.apart k l f g q r cell x y

  pub holder : (k : Name × Name) (f : Frame) (q : Placement) (cell : Cell) → IsSent v k f q cell → get v.grants (cell.slot, cell.channel) ≡ Some (record { supplier = k.0; node = f.node })
  unfolding granted
  holder k f q cell x =
      let frame = (sound.variants name v there).1.frames k f x.frame in
      let in_cell = has_cell-in (λ d. held_by_node k.0 f.node (get v.grants (q.slot, d))) q cell (frame.in_grants q x.placement) x.has in
      ap (λ n. get v.grants (n, cell.channel)) in_cell.0 ∙ holder-is k.0 f.node _ in_cell.1
