-- After a replacement that was carried out, all that its file does not name is as before.
use Rattle.std.proofs.Common.{◌≡◌, ℕ, Bool, true, false, true≢false, ◌||◌, ◌&&◌, List, [], ◌∷◌, Option, Some, None, Result, Ok, Err, IfOk, IsTrue, refl, sym, ap, subst, ◌∙◌, inl, inr}
use Rattle.std.proofs.lemmas.Bool.{cases_Bool}
use Rattle.fr_base.specs.Refusing.{◌>>=◌}
use Rattle.fr_base.specs.Tables.{Table, get, settle}
use Rattle.fr_base.specs.Keys.{owned}
use Rattle.fr_base.specs.Cluster.{Cluster}
use Rattle.fr_base.specs.Names.{is_name, same_text}
use Rattle.fr_base.specs.Checks.{asking, name, purpose, check}
use Rattle.fr_base.specs.Book.{Frame, Variant, Book}
use Rattle.fr_base.specs.ImportRows.{header_of_body, rows_of_body}
use Rattle.fr_base.specs.ReplacingLaws.{IsElsewhereAs, ReplacedLeavesTheRest, is_freed, is_named}
use Rattle.fr_base.specs.Step.{Outcome, RefusedAt, with_variant, own_rows, shared_by, admits, grants_after, frame_after, frames_after, changed, change_rows, frame_at, with_frame, act_row, frame_of_row, free_row, free_rows, clear_all, whole_of, with_freed, replace_row, replace_rows, replaced, replace, act, deliver, outcome, knows, step}
use Rattle.fr_base.specs.declared.answer.Answer.TheVariants.{Replaced}
use Rattle.fr_base.specs.declared.actor.Actor.TheVariants.{Supplier}
use Rattle.fr_base.specs.declared.import.Header.{Header}
use Rattle.fr_base.specs.declared.import.Row.{Row}
use Rattle.fr_base.specs.declared.import.Row.TheVariants as row
use Rattle.fr_base.specs.declared.import.RowRead.{RowRead}
use Rattle.fr_base.specs.declared.name.Name.{Name}
use Rattle.fr_base.specs.declared.params.Params.{Params}
use Rattle.fr_base.specs.declared.refusal.Refusal.{Refusal}
use Rattle.fr_base.specs.declared.request.Change.TheVariants as change
use Rattle.fr_base.specs.declared.request.Checked.{Checked}
use Rattle.fr_base.specs.declared.request.Checked.TheVariants as checked
use Rattle.fr_base.specs.declared.request.FrameChange.{FrameChange}
use Rattle.fr_base.specs.declared.request.FrameChange.TheVariants.{Add, Place, AddSignal}
use Rattle.fr_base.specs.declared.delivery.Delivery.{Delivery}
use Rattle.fr_base.specs.declared.request.Request.TheVariants as request
use Rattle.fr_base.specs.declared.delivery.Purpose.TheVariants as purpose
use Rattle.fr_base.proofs.SoundTables.{get-put, insert-again, same_some}
use Rattle.fr_base.proofs.SoundRefusing.{gives_or, gives_bind, gives_then, gives_unless, gives_when}
use Rattle.fr_base.proofs.SoundImports.{at_line-gives}
use Rattle.fr_base.proofs.AloneCells.{same_text-itself}
use Rattle.fr_base.proofs.SettledRows.{settle-other}
use Rattle.fr_base.proofs.ClearedFrames.{begins}

pub or_later : (a c : Bool) → IsTrue c → IsTrue (a || c)
or_later true c h = refl
or_later false c h = h

-- ---- the rows that a replacement is of

module _ (p : Params) (b : Book) (s v : Name) (whole : Option Header) (all : List RowRead) where
  abbrev Rest : Book → Type 0
  Rest = IsElsewhereAs b s v whole all

  -- the rows are among them
  abbrev AreOf : List RowRead → Type 0
  AreOf reads = (f : Name) → IsTrue (is_named f reads) → IsTrue (is_named f all)

  of-first : (r : Row) (line : ℕ) (rest : List RowRead) → AreOf (record { line = line; row = Ok r } ∷ rest) → IsTrue (is_named (frame_of_row r) all)
  of-first r line rest of = of (frame_of_row r) (ap (λ t. t || is_named (frame_of_row r) rest) (same_text-itself (frame_of_row r)))

  of-rest : (read : RowRead) (rest : List RowRead) → AreOf (read ∷ rest) → AreOf rest
  of-rest read rest of f h = of f (or_later _ (is_named f rest) h)

  -- a frame that is named is not one of the others
  apart : (f : Name) (k : Name × Name) → IsTrue (is_named f all) → is_freed s all k ≡ false → ◌≡◌ {A = Name × Name} (s, f) k → ⊥
  apart f k named other same =
      true≢false (sym (ap (λ t. t && is_named f all) (same_text-itself s) ∙ named) ∙ ap (is_freed s all) same ∙ other)

  -- ---- frames that are freed

  freed-others : (r : Result Row Refusal) (line : ℕ) (rest : List RowRead) → AreOf (record { line = line; row = r } ∷ rest) → (frames : Table owned Frame) (k : Name × Name) → is_freed s all k ≡ false →
      get (free_row s r frames) k ≡ get frames k
  unfolding free_row
  freed-others (Ok r) line rest of frames k other = settle-other frames (s, frame_of_row r) k _ (apart (frame_of_row r) k (of-first r line rest of) other)
  freed-others (Err e) line rest of frames k other = refl

  all_freed-others : (reads : List RowRead) → AreOf reads → (frames : Table owned Frame) (k : Name × Name) → is_freed s all k ≡ false → get (free_rows s reads frames) k ≡ get frames k
  unfolding free_rows
  all_freed-others [] of frames k other = refl
  all_freed-others (read ∷ rest) of frames k other =
      all_freed-others rest (of-rest read rest of) (free_row s read.row frames) k other ∙ freed-others read.row read.line rest of frames k other

  -- ---- a row

  change-leaves : (d : Book) → Rest d → (f : Name) → IsTrue (is_named f all) → (what : FrameChange) → IfOk (change_rows p d s v (change.Frame f what)) Rest
  unfolding change_rows changed grants_after frames_after
  change-leaves d rest f named what =
      gives_or _ (get d.variants v) _ _ (λ y found.
      gives_when _ _ _ _ (λ _.
      gives_unless _ _ _ _ (λ _.
      gives_then _ (admits (own_rows p d s y) (shared_by y.grants y.frames) (change.Frame f what)) _ (λ _ _.
      let now : Variant = record rest.x { frames = rest.frames } in
      let same : y ≡ now = same_some _ _ (sym found ∙ ap (λ (e : Book). get e.variants v) rest.is ∙ get-put b.variants v now) in
      let next : Table owned Frame = settle rest.frames (s, f) (frame_after what (get rest.frames (s, f))) in
      record {
        x = rest.x;
        there = rest.there;
        frames = next;
        is = ap (λ (z : Book × Variant). with_variant z.0 v (changed s (change.Frame f what) z.1)) (λ i. (rest.is i, same i))
            ∙ ap (λ t. record b { variants = t }) (insert-again b.variants v now (record rest.x { frames = next }));
        others = λ k other. settle-other rest.frames (s, f) k _ (apart f k named other) ∙ rest.others k other;
      }))))

  framed-leaves : (d : Book) → Rest d → (f n : Name) → IsTrue (is_named f all) → (there : Option Frame) → IfOk (with_frame p d s v f n there) Rest
  unfolding with_frame
  framed-leaves d rest f n named None = change-leaves d rest f named (Add n)
  framed-leaves d rest f n named (Some frame) = gives_unless _ _ (same_text frame.node n) _ (λ _. rest)

  row-leaves : (d : Book) → Rest d → (r : Row) → IsTrue (is_named (frame_of_row r) all) → IfOk (replace_row p d s v r) Rest
  unfolding replace_row act_row
  row-leaves d rest (row.AddFrame f n) named = gives_unless _ _ _ _ (λ _. framed-leaves d rest f n named (frame_at d s v f))
  row-leaves d rest (row.Place f n q) named =
      gives_unless _ _ _ _ (λ _.
      gives_bind _ Rest (with_frame p d s v f n (frame_at d s v f)) _ (framed-leaves d rest f n named (frame_at d s v f)) (λ e mid.
      change-leaves e mid f named (Place q)))
  row-leaves d rest (row.AddSignal f signal) named = change-leaves d rest f named (AddSignal signal)

  read-leaves : (d : Book) → Rest d → (line : ℕ) (r : Result Row Refusal) (rest : List RowRead) → AreOf (record { line = line; row = r } ∷ rest) → IfOk (r >>= replace_row p d s v) Rest
  unfolding ◌>>=◌
  read-leaves d left line (Ok r) rest of = row-leaves d left r (of-first r line rest of)
  read-leaves d left line (Err e) rest of = tt

  rows-leave : (reads : List RowRead) → AreOf reads → (d : Book) → Rest d → IfOk (replace_rows p d s v reads) Rest
  unfolding replace_rows
  rows-leave [] of d left = left
  rows-leave (read ∷ rest) of d left =
      gives_bind _ Rest _ _ (at_line-gives Rest read.line _ (read-leaves d left read.line read.row rest of)) (λ e mid.
      rows-leave rest (of-rest read rest of) e mid)

-- ---- the replacement

module _ (p : Params) (b : Book) (r : Delivery) (all : Bool) where
  abbrev reads : List RowRead
  reads = rows_of_body p r.body

  abbrev whole : Option Header
  whole = whole_of all (header_of_body r.body)

  -- where it was carried out, all else is as before
  abbrev Told : Outcome → Type 0
  Told o = (rows : ℕ) → o.answer ≡ Replaced rows → IsElsewhereAs b r.supplier r.variant whole reads o.book

  replaced-told : (count : ℕ) (made : Result Book RefusedAt) → IfOk made (IsElsewhereAs b r.supplier r.variant whole reads) → Told (replaced b count made)
  unfolding replaced
  replaced-told count (Ok d) h rows told = h
  replaced-told count (Err fault) h rows told = cc

  replace-told : IfOk (replace p b r all) Told
  unfolding replace
  replace-told =
      gives_or _ (get b.variants r.variant) _ _ (λ x found.
      gives_when _ _ _ _ (λ _.
      gives_when _ _ _ _ (λ _.
      let begun : Table owned Frame = clear_all r.supplier whole reads x.frames in
      replaced-told _ _ (rows-leave p b r.supplier r.variant whole reads reads (λ f h. h) (with_freed b r.supplier r.variant x whole reads) (record {
        x = x;
        there = found;
        frames = free_rows r.supplier reads begun;
        is = refl;
        others = λ k other. all_freed-others p b r.supplier r.variant whole reads reads (λ f h. h) begun k other ∙ begins r.supplier whole reads x.frames k;
      })))))

module _ (c : Cluster) (b : Book) (s : Name) (variant body : List ℕ) (whole : Bool) where
  abbrev pub it : Delivery
  it = record { supplier = s; variant = variant; how = purpose.Replacement whole; body = body }

  pub check-is : IfOk (check c.params (Supplier s) (request.Deliver variant (purpose.Replacement whole) body)) (λ what. what ≡ checked.Deliver it)
  unfolding check purpose asking name ◌>>=◌
  check-is = elim (cases_Bool (is_name variant)) [ inl h ↦ rw h refl | inr h ↦ rw h tt ]

  outcome-told : (r : Result Outcome Refusal) → IfOk r (Told c.params b it whole) → Told c.params b it whole (outcome b r)
  unfolding outcome
  outcome-told (Ok o) h = h
  outcome-told (Err e) h = λ rows told. cc

  act-told : (what : Checked) → what ≡ checked.Deliver it → IfOk (act c b (Supplier s) what) (Told c.params b it whole)
  unfolding act deliver
  act-told what is = subst (λ w. IfOk (act c b (Supplier s) w) (Told c.params b it whole)) (sym is) (replace-told c.params b it whole)

  step-told : Told c.params b it whole (step c b (Supplier s) (request.Deliver variant (purpose.Replacement whole) body))
  unfolding step
  step-told = outcome-told _ (
      gives_unless _ _ (knows b (Supplier s)) _ (λ _.
      gives_bind _ _ (check c.params (Supplier s) (request.Deliver variant (purpose.Replacement whole) body)) _ check-is (λ what is. act-told what is)))

pub leaves_the_rest : ReplacedLeavesTheRest
leaves_the_rest c b s variant body whole rows told = step-told c b s variant body whole rows told
