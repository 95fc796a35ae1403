-- A supplier's picture is drawn of the same answers by the register that holds it alone.
use Rattle.std.proofs.Common.{◌≡◌, ℕ, Bool, true, false, ◌&&◌, List, [], ◌∷◌, filter, map, Option, Some, None, Result, Ok, Err, refl, sym, ap, ◌∙◌, subst, inl, inr}
use Rattle.std.specs.Prelude.{not, ⊤, IfOk, if◌then◌else◌}
use Rattle.std.proofs.lemmas.Bool.{cases_Bool}
use Rattle.fr_base.specs.Alone.{is_mine, is_unavailable, lacked, rows_of}
use Rattle.fr_base.specs.Book.{Book, Frame, Variant, is_of}
use Rattle.fr_base.specs.Checks.{check, has_repetition, name, query}
use Rattle.fr_base.specs.Cluster.{Cluster}
use Rattle.fr_base.specs.Names.{is_name, same_text}
use Rattle.fr_base.specs.QueryNames.{report_in}
use Rattle.fr_base.specs.Queries.{found, frame_row, frames_of, reply, shown}
use Rattle.fr_base.specs.Refusing.{◌>>=◌, ◌>>◌, ◌or◌, refuse◌when◌}
use Rattle.fr_base.specs.Sound.{IsSound}
use Rattle.fr_base.specs.Step.{act, knows, outcome, step}
use Rattle.fr_base.specs.Tables.{get, only}
use Rattle.fr_base.specs.declared.actor.Actor.{Actor}
use Rattle.fr_base.specs.declared.actor.Actor.TheVariants.{Integrator, Supplier}
use Rattle.fr_base.specs.declared.answer.Answer.{Answer}
use Rattle.fr_base.specs.declared.answer.Answer.TheVariants.{Refused, Report as Told}
use Rattle.fr_base.specs.declared.answer.FrameRow.{FrameRow}
use Rattle.fr_base.specs.declared.answer.GapRow.{GapRow}
use Rattle.fr_base.specs.declared.answer.ReportRows.TheVariants as rows
use Rattle.fr_base.specs.declared.name.Name.{Name}
use Rattle.fr_base.specs.declared.query.Query.TheVariants.{Variant as OfVariant}
use Rattle.fr_base.specs.declared.refusal.Refusal.{Refusal}
use Rattle.fr_base.specs.declared.refusal.Refusal.TheVariants.{BadCycles, BadName, NotYours, NoVariant, UnknownKey}
use Rattle.fr_base.specs.declared.report.Report.TheVariants.{Frames}
use Rattle.fr_base.specs.declared.request.Checked.TheVariants as checked
use Rattle.fr_base.specs.declared.request.Request.{Request}
use Rattle.fr_base.proofs.AloneCells.{same_text-itself}
use Rattle.fr_base.proofs.AloneSteps.{step-alone}
use Rattle.fr_base.proofs.SoundRows.{same_text-is}
use Rattle.fr_picture.specs.Frames.{AreDrawn, AreFrames}
use Rattle.fr_picture.specs.Plans.{AreChanges, IsPlan, MayRefusePicture}
use Rattle.fr_picture.specs.Reports.{answer_to, asks}
use Rattle.fr_picture.specs.declared.changes.Changes.{Changes}
use Rattle.fr_picture.specs.declared.frame_table.DrawnFrame.{DrawnFrame}
use Rattle.fr_picture.specs.declared.plan.Plan.{Plan}
use Rattle.fr_http.specs.Exchanges.{MayDraw, is_own_picture, lacks_plan}

and_both : (x y : Bool) → x && y ≡ true → (x ≡ true) × (y ≡ true)
and_both true y h = (refl, h)
and_both false y h = cc

not_true : (x : Bool) → not x ≡ true → x ≡ false
not_true true h = cc
not_true false h = refl

module _ (c : Cluster) (b : Book) (s : Name) where
  -- ---- the frames that a supplier is told of are its own

  abbrev AreIts : List FrameRow → Type 0
  AreIts [] = ⊤
  AreIts (row ∷ told) = (same_text row.supplier s ≡ true) × AreIts told

  abbrev HasIts : Answer → Type 0
  HasIts (Told all (rows.Frames told)) = AreIts told
  HasIts _ = ⊤

  its_rows : (es : List ((Name × Name) × Frame)) → AreIts (map frame_row (filter (λ e. is_of s e.0) es))
  its_rows [] = tt
  its_rows (e ∷ es) = elim (cases_Bool (is_of s e.0)) [
    | inl its ↦ rw its (its, its_rows es)
    | inr anothers ↦ rw anothers (its_rows es)
  ]

  its_reply : (o : Option Variant) → IfOk ((o or NoVariant >>= λ variant. shown c.params (Supplier s) variant Frames) >>= λ rows. Ok (Told false rows)) HasIts
  unfolding shown frames_of only ◌>>=◌ ◌or◌
  its_reply None = tt
  its_reply (Some variant) = its_rows variant.frames.rows

  its_told : (r : Result Answer Refusal) → IfOk r HasIts → HasIts (outcome b (r >>= λ told. Ok (record { book = b; answer = told }))).answer
  unfolding outcome ◌>>=◌
  its_told (Ok told) its = its
  its_told (Err refusal) its = tt

  -- the lines of the step, by whether the supplier is known and the variant's name is one
  its_lines : (known named : Bool) (variant : List ℕ) → HasIts (outcome b ((refuse UnknownKey when not known)
      >> (((refuse NotYours when false) >> (((if named then Ok variant else Err BadName) >>= λ v. report_in name Ok Frames >>= λ r. Ok (OfVariant v r))
      >>= λ q. (refuse BadCycles when not (has_repetition c.params q)) >> Ok (checked.Query q))) >>= λ valid. act c b (Supplier s) valid))).answer
  unfolding act reply found outcome ◌>>=◌ ◌>>◌ refuse◌when◌
  its_lines false named variant = tt
  its_lines true false variant = tt
  its_lines true true variant = its_told (reply c.params b (Supplier s) (OfVariant variant Frames)) (its_reply (get b.variants variant))

  its_frames : (variant : List ℕ) → HasIts (answer_to c b (Supplier s) (asks variant Frames))
  unfolding step check query name
  its_frames variant = its_lines (knows b (Supplier s)) (is_name variant) variant

  -- ---- what is told of the supplier's own rows

  module _ (sound : IsSound c b) where
    -- an answer to the supplier is that of its own register
    told_alone : (t : Name) (request : Request) (told : Answer) → same_text t s ≡ true → is_unavailable told ≡ false → answer_to c b (Supplier t) request ≡ told
        → answer_to c (rows_of s b) (Supplier t) request ≡ told
    told_alone t request told its available is =
        let mine : is_mine s (Supplier t) request told ≡ true = rw (its, available) refl in
        (step-alone c b s (Supplier t) request sound (ap (is_mine s (Supplier t) request) is ∙ mine)).0 ∙ is

    drawn_alone : (variant : List ℕ) (told : List FrameRow) (gaps : List GapRow) (frames : List DrawnFrame) → AreIts told
        → AreDrawn c b variant told gaps frames → AreDrawn c (rows_of s b) variant told gaps frames
    drawn_alone variant [] gaps [] its drawn = tt
    drawn_alone variant [] gaps (frame ∷ frames) its drawn = absurd drawn
    drawn_alone variant (row ∷ told) [] frames its drawn = absurd drawn
    drawn_alone variant (row ∷ told) (gap ∷ gaps) [] its drawn = absurd drawn
    drawn_alone variant (row ∷ told) (gap ∷ gaps) (frame ∷ frames) its drawn =
        let (is, same, (all, signals, answered, those, bits)) = drawn.0 in
        ((is, same, (all, signals, told_alone row.supplier _ _ its.0 refl answered, those, bits)), drawn_alone variant told gaps frames its.1 drawn.1)

    frames_alone : (variant : List ℕ) (frames : List DrawnFrame) → AreFrames c b (Supplier s) variant frames → AreFrames c (rows_of s b) (Supplier s) variant frames
    frames_alone variant frames (told, (all, answered), (listed, gaps, same, ordered, ties, (every, gapped), drawn)) =
        let itself = same_text-itself s in
        let its = subst HasIts answered (its_frames variant) in
        (told, (all, told_alone s _ _ itself refl answered), (listed, gaps, same, ordered, ties, (every, told_alone s _ _ itself refl gapped), drawn_alone variant told gaps listed its drawn))

    plan_alone : (variant : List ℕ) (plan : Plan) → IsPlan c b (Supplier s) variant plan → IsPlan c (rows_of s b) (Supplier s) variant plan
    plan_alone variant plan is =
        let itself = same_text-itself s in
        record {
          params = is.params;
          name = is.name;
          row = is.row;
          listed = (is.listed.0, (is.listed.1.0, told_alone s _ _ itself refl is.listed.1.1), is.listed.2);
          same = is.same;
          viewer = is.viewer;
          suppliers = is.suppliers;
          grants = (is.grants.0, told_alone s _ _ itself refl is.grants.1);
          cells = (is.cells.0, told_alone s _ _ itself refl is.cells.1);
          frames = frames_alone variant plan.frames.items is.frames;
        }

    -- what is new since another variant, and what is gone, is told alone as it is told beside others
    changes_alone : (variant : List ℕ) (since : Option (List ℕ)) (changes : Option Changes) → AreChanges c b (Supplier s) variant since changes
        → AreChanges c (rows_of s b) (Supplier s) variant since changes
    changes_alone variant None changes is = is
    changes_alone variant (Some from) None is = absurd is
    changes_alone variant (Some from) (Some changes) (named, (all, answered)) = (named, (all, told_alone s _ _ (same_text-itself s) refl answered))

    refused_alone : (variant : List ℕ) (since : Option (List ℕ)) (refusal : Refusal) → lacked refusal ≡ false → MayRefusePicture c b (Supplier s) variant since refusal
        → MayRefusePicture c (rows_of s b) (Supplier s) variant since refusal
    refused_alone variant since refusal available (inl (inl lacks)) = inl (inl lacks)
    refused_alone variant since refusal available (inl (inr (asked, of, answered))) =
        inl (inr (asked, of, told_alone s asked (Refused refusal) (same_text-itself s) available answered))
    refused_alone variant None refusal available (inr is) = absurd is
    refused_alone variant (Some from) refusal available (inr answered) = inr (told_alone s _ (Refused refusal) (same_text-itself s) available answered)

    own_alone : (variant : List ℕ) (since : Option (List ℕ)) (drawn : Result Plan Refusal) → lacks_plan drawn ≡ false → MayDraw c b (Supplier s) variant since drawn
        → MayDraw c (rows_of s b) (Supplier s) variant since drawn
    own_alone variant since (Ok plan) available is = record {
      is_plan = plan_alone variant plan is.is_plan;
      changes = changes_alone variant since plan.changes is.changes;
    }
    own_alone variant since (Err refusal) available may = refused_alone variant since refusal available may

    -- what may be drawn for the supplier may be drawn for it by the register that holds it alone
    pub picture-alone : (reader : Actor) (variant : List ℕ) (since : Option (List ℕ)) (drawn : Result Plan Refusal) → is_own_picture s reader drawn ≡ true → MayDraw c b reader variant since drawn
        → MayDraw c (rows_of s b) reader variant since drawn
    picture-alone Integrator variant since drawn own may = cc
    picture-alone (Supplier t) variant since drawn own may =
        let both = and_both _ _ own in
        let is : s ≡ t = sym (same_text-is t s both.0) in
        subst (λ u. MayDraw c (rows_of s b) (Supplier u) variant since drawn) is
        (own_alone variant since drawn (not_true _ both.1) (subst (λ u. MayDraw c b (Supplier u) variant since drawn) (sym is) may))
