-- After a replacement that was carried out, each frame that its file names has what the file's rows say.
use Rattle.std.proofs.Common.{◌≡◌, ℕ, Bool, true, false, List, length, Option, Some, Result, Ok, Err, is_err, IfOk, IsTrue, IsFalse, sym, ap, subst, ◌∙◌}
use Rattle.std.specs.List.{list_any}
use Rattle.std.specs.Option.{option_and_then}
use Rattle.fr_base.specs.Tables.{Table, get, contains}
use Rattle.fr_base.specs.Keys.{owned}
use Rattle.fr_base.specs.Cluster.{Cluster}
use Rattle.fr_base.specs.Checks.{check}
use Rattle.fr_base.specs.Book.{Frame, Variant, Book}
use Rattle.fr_base.specs.ImportRows.{header_of_body, rows_of_body}
use Rattle.fr_base.specs.ReplacingLaws.{is_named, begins_as}
use Rattle.fr_base.specs.Brought.{placements_for, signals_for}
use Rattle.fr_base.specs.ReplacedLaws.{IsFiledIn, ReplacedIsFiled}
use Rattle.fr_base.specs.Step.{Outcome, RefusedAt, frame_at, free_rows, clear_all, whole_of, replaced, replace, act, deliver, outcome, knows, step}
use Rattle.fr_base.specs.declared.answer.Answer.TheVariants.{Replaced}
use Rattle.fr_base.specs.declared.actor.Actor.TheVariants.{Supplier}
use Rattle.fr_base.specs.declared.import.Header.{Header}
use Rattle.fr_base.specs.declared.import.RowRead.{RowRead}
use Rattle.fr_base.specs.declared.name.Name.{Name}
use Rattle.fr_base.specs.declared.params.Params.{Params}
use Rattle.fr_base.specs.declared.refusal.Refusal.{Refusal}
use Rattle.fr_base.specs.declared.request.Checked.{Checked}
use Rattle.fr_base.specs.declared.request.Checked.TheVariants as checked
use Rattle.fr_base.specs.declared.delivery.Delivery.{Delivery}
use Rattle.fr_base.specs.declared.request.Request.TheVariants as request
use Rattle.fr_base.specs.declared.delivery.Purpose.TheVariants as purpose
use Rattle.fr_base.proofs.SoundRefusing.{gives_or, gives_bind, gives_unless, gives_when}
use Rattle.fr_base.proofs.ReplacingLaws.{it, check-is}
use Rattle.fr_base.proofs.ClearedFrames.{begins-mine}
use Rattle.fr_base.proofs.FrameRuns.{at, lifted, found_at, replace_rows-lift}
use Rattle.fr_base.proofs.BroughtLemmas.{Frees, RowsMake, rows-make, free_rows-free, filed}

counted : {m n : ℕ} → Replaced m ≡ Replaced n → m ≡ n
counted e = cc

module _ (p : Params) (b : Book) (r : Delivery) (all : Bool) where
  abbrev reads : List RowRead
  reads = rows_of_body p r.body

  abbrev whole : Option Header
  whole = whole_of all (header_of_body r.body)

  -- the frames before the rows act
  abbrev begun : Variant → Table owned Frame
  begun x = clear_all r.supplier whole reads x.frames

  -- where it was carried out, the frames that are named have what the rows say
  abbrev Told : Outcome → Type 0
  Told o = (rows : ℕ) → o.answer ≡ Replaced rows →
      (length reads ≡ rows) × IsFalse (list_any (λ read. is_err read.row) reads) × ((f : Name) → IsTrue (is_named f reads) → IsFiledIn b r.supplier r.variant whole reads o.book f)

  module _ (x : Variant) (found : get b.variants r.variant ≡ Some x) where
    abbrev MadeOf : Table owned Frame → Type 0
    MadeOf u = (list_any (λ read. is_err read.row) reads ≡ false) × ((f : Name) → RowsMake p b r.supplier r.variant x f reads (free_rows r.supplier reads (begun x)) u)

    filed-in : (u : Table owned Frame) → MadeOf u → (f : Name) → IsTrue (is_named f reads) → IsFiledIn b r.supplier r.variant whole reads (at p b r.supplier r.variant x u) f
    filed-in u made f named =
        let was : frame_at b r.supplier r.variant f ≡ get x.frames (r.supplier, f) = ap (option_and_then (λ (y : Variant). get y.frames (r.supplier, f))) found in
        let began : get (begun x) (r.supplier, f) ≡ begins_as whole reads f (frame_at b r.supplier r.variant f) = begins-mine r.supplier whole reads x.frames f ∙ ap (begins_as whole reads f) (sym was) in
        let is = filed reads f (begins_as whole reads f (frame_at b r.supplier r.variant f)) (get (free_rows r.supplier reads (begun x)) (r.supplier, f)) (get u (r.supplier, f)) named
        (subst (λ o. Frees (placements_for f reads) (signals_for f reads) o (get (free_rows r.supplier reads (begun x)) (r.supplier, f))) began (free_rows-free r.supplier f reads (begun x))) (made.1 f) in
        (is.0, found_at p b r.supplier r.variant x u f ∙ is.1, is.2)

    replaced-told : (made : Result (Table owned Frame) RefusedAt) → IfOk made MadeOf → Told (replaced b (length reads) (lifted p b r.supplier r.variant x made))
    unfolding replaced lifted
    replaced-told (Ok u) h rows told = (counted told, h.0, filed-in u h)
    replaced-told (Err fault) h rows told = cc

  replace-told : contains b.suppliers r.supplier ≡ true → IfOk (replace p b r all) Told
  unfolding replace
  replace-told known =
      gives_or _ (get b.variants r.variant) _ _ (λ x found.
      gives_when _ _ _ _ (λ open_now.
      gives_when _ _ _ _ (λ _.
      subst (λ made. Told (replaced b (length reads) made)) (sym (replace_rows-lift p b r.supplier r.variant x open_now known reads (free_rows r.supplier reads (begun x))))
      (replaced-told x found _ (rows-make p b r.supplier r.variant x reads (free_rows r.supplier reads (begun x)))))))

module _ (c : Cluster) (b : Book) (s : Name) (variant body : List ℕ) (whole : Bool) where
  outcome-told : (r : Result Outcome Refusal) → IfOk r (Told c.params b (it c b s variant body whole) whole) → Told c.params b (it c b s variant body whole) whole (outcome b r)
  unfolding outcome
  outcome-told (Ok o) h = h
  outcome-told (Err e) h = λ rows told. cc

  act-told : contains b.suppliers s ≡ true → (what : Checked) → what ≡ checked.Deliver (it c b s variant body whole) → IfOk (act c b (Supplier s) what) (Told c.params b (it c b s variant body whole) whole)
  unfolding act deliver
  act-told known what is = subst (λ w. IfOk (act c b (Supplier s) w) (Told c.params b (it c b s variant body whole) whole)) (sym is) (replace-told c.params b (it c b s variant body whole) whole known)

  step-told : Told c.params b (it c b s variant body whole) whole (step c b (Supplier s) (request.Deliver variant (purpose.Replacement whole) body))
  unfolding step
  step-told = outcome-told _ (
      gives_unless _ _ (knows b (Supplier s)) _ (λ known.
      gives_bind _ _ (check c.params (Supplier s) (request.Deliver variant (purpose.Replacement whole) body)) _ (check-is c b s variant body whole) (λ what is. act-told known what is)))

pub is_filed : ReplacedIsFiled
is_filed c b s variant body whole rows told = step-told c b s variant body whole rows told
