-- What becomes of the rows of a supplier's trial on the supplier's page is what becomes of them in the register.
use Rattle.std.proofs.Common.{◌≡◌, ℕ, false, List, [], ◌∷◌, Option, Some, Result, Ok, Err, IfOk, IsTrue, refl, ap, subst}
use Rattle.std.specs.List.{AllByRecursion}
use Rattle.std.proofs.lemmas.List.Elements.{All-from_recursion}
use Rattle.fr_base.specs.Refusing.{◌>>=◌}
use Rattle.fr_base.specs.Tables.{get, contains}
use Rattle.fr_base.specs.Cluster.{Cluster}
use Rattle.fr_base.specs.Book.{Variant, Book}
use Rattle.fr_base.specs.ImportRows.{header_of_body, all_rows_of_body, rows_of_body, up_to_refused}
use Rattle.fr_base.specs.Sound.{IsSound}
use Rattle.fr_base.specs.Step as step
use Rattle.fr_base.specs.Step.{fate_of, whole_of}
use Rattle.fr_base.specs.declared.import.Header.{Header}
use Rattle.fr_base.specs.declared.import.Row.{Row}
use Rattle.fr_base.specs.declared.import.RowRead.{RowRead}
use Rattle.fr_base.specs.declared.name.Name.{Name}
use Rattle.fr_base.specs.declared.params.Params.{Params}
use Rattle.fr_base.specs.declared.refusal.Refusal.{Refusal}
use Rattle.fr_base.specs.declared.delivery.Manner.{Manner}
use Rattle.fr_base.specs.declared.delivery.Manner.TheVariants as manner
use Rattle.fr_base.proofs.ImportForms.{IsFormedRow, IsFormedRead, all_rows-form}
use Rattle.fr_base.proofs.TrialLaws.{body_ends}
use Rattle.fr_world.specs.Pages.{page_in}
use Rattle.fr_world.specs.RowDecisions.{AreChecked, DraftData, draft_of}
use Rattle.fr_world.specs.Trials.{fates_of, read_fate, trial, tried, try_row}
use Rattle.fr_world.proofs.PageLaws.{rows-registers}
use Rattle.fr_world.proofs.RowsDecide.{Draws, Like, all-checked, row-like}
use Rattle.fr_world.proofs.ReplacementsDecide.{begun-drawn, replace_row-like}

module _ (c : Cluster) (start : Book) (s v : Name) where
  abbrev Drawn : Book → DraftData → Type 0
  Drawn = Draws c start s v

  abbrev Alike : {E : Type 0} → Result Book E → Result DraftData E → Type 0
  Alike = Like c start s v

  -- ---- what becomes of a row

  fate_row-like : (b : Book) (d : DraftData) (line : ℕ) (r : Result Book Refusal) (u : Result DraftData Refusal) → Alike r u → (fate_of b line r).1 ≡ (fate_of d line u).1
  unfolding fate_of
  fate_row-like b d line (Ok e) (Ok m) h = refl
  fate_row-like b d line (Ok e) (Err f) h = absurd h
  fate_row-like b d line (Err e) (Ok m) h = absurd h
  fate_row-like b d line (Err e) (Err f) h = ap (λ r. record { line = line; refusal = Some r }) h

  fate-drawn : (b : Book) (d : DraftData) (line : ℕ) (r : Result Book Refusal) (u : Result DraftData Refusal) → Drawn b d → Alike r u → Drawn (fate_of b line r).0 (fate_of d line u).0
  unfolding fate_of
  fate-drawn b d line (Ok e) (Ok m) draws h = h
  fate-drawn b d line (Ok e) (Err f) draws h = absurd h
  fate-drawn b d line (Err e) (Ok m) draws h = absurd h
  fate-drawn b d line (Err e) (Err f) draws h = draws

  try_row-like : (how : Manner) (b : Book) (d : DraftData) → Drawn b d → (r : Row) → IsFormedRow c.params r → Alike (step.try_row c.params how b s v r) (try_row how d r)
  try_row-like (manner.Replace whole) b d draws r form = replace_row-like c start s v b d draws r form
  try_row-like manner.Import b d draws r form = row-like c start s v b d draws r form

  try_read-like : (how : Manner) (b : Book) (d : DraftData) → Drawn b d → (r : Result Row Refusal) → IfOk r (IsFormedRow c.params) → Alike (r >>= step.try_row c.params how b s v) (r >>= try_row how d)
  unfolding ◌>>=◌
  try_read-like how b d draws (Ok r) form = try_row-like how b d draws r form
  try_read-like how b d draws (Err e) form = refl

  fates-like : (how : Manner) (reads : List RowRead) (b : Book) (d : DraftData) → Drawn b d → AllByRecursion (IsFormedRead c.params) reads → step.fates_of c.params how b s v reads ≡ fates_of how d reads
  unfolding step.fates_of fates_of read_fate
  fates-like how [] b d draws forms = refl
  fates-like how (read ∷ rest) b d draws forms =
      let r : Result Book Refusal = read.row >>= step.try_row c.params how b s v in
      let u : Result DraftData Refusal = read.row >>= try_row how d in
      let like : Alike r u = try_read-like how b d draws read.row forms.0 in
      let next = fates-like how rest (fate_of b read.line r).0 (fate_of d read.line u).0 (fate-drawn b d read.line r u draws like) forms.1 in
      λ i. fate_row-like b d read.line r u like i ∷ next i

  -- ---- what the first row acts on

  tried-drawn : (how : Manner) (b : Book) (d : DraftData) (draws : Drawn b d) (header : Option Header) (reads named : List RowRead) → up_to_refused reads ≡ named → Drawn (step.tried how b s v draws.x header named) (tried how d header reads)
  tried-drawn (manner.Replace whole) b d draws header reads named is =
      subst (λ l. Drawn (step.tried (manner.Replace whole) b s v draws.x header l) (tried (manner.Replace whole) d header reads)) is (begun-drawn c start s v (whole_of whole header) (up_to_refused reads) b d draws)
  tried-drawn manner.Import b d draws header reads named is = draws

pub trial-decides : (c : Cluster) (b : Book) (s v : Name) (x : Variant) (body : List ℕ) (how : Manner) → IsSound c b → get b.variants v ≡ Some x → x.released ≡ false → IsTrue (contains b.suppliers s) →
    step.fates_of c.params how (step.tried how b s v x (header_of_body body) (rows_of_body c.params body)) s v (all_rows_of_body c.params body)
    ≡ trial how (page_in c.params b s v x) (header_of_body body) (all_rows_of_body c.params body)
unfolding trial
trial-decides c b s v x body how sound there unreleased known =
    let reads : List RowRead = all_rows_of_body c.params body in
    let d : DraftData = draft_of (page_in c.params b s v x) in
    let draws : Draws c b s v b d =
    record { x = x; there = there; unreleased = unreleased; known = known; sound = sound; variant = refl; page = rows-registers c b s v x; edits = refl } in
    fates-like c b s v how reads _ (tried how d (header_of_body body) reads) (tried-drawn c b s v how b d draws (header_of_body body) reads (rows_of_body c.params body) (body_ends c.params body)) (all_rows-form c.params body)

-- all rows of a file are checked
pub all_rows-checked : (p : Params) (body : List ℕ) → AreChecked p (all_rows_of_body p body)
all_rows-checked p body = All-from_recursion _ (all_rows_of_body p body) (all-checked p (all_rows_of_body p body) (all_rows-form p body))
