-- The plans that show a released variant stay the same.
use Rattle.std.proofs.Common.{◌≡◌, ℕ, zero, suc, Bool, true, false, cond, List, [], ◌∷◌, filter, map, Option, Some, None, Result, Ok, Err, IfOk, IsTrue, refl, sym, ap, subst, ◌∙◌, Ordering, inl, inr, arith, true≢false}
use Rattle.std.specs.Prelude.{Contains, ⊤, T, not, ◌||◌, if◌then◌else◌}
use Rattle.std.specs.List.{list_any}
use Rattle.std.specs.FinMap.Entries.{find, below_all, is_sorted}
use Rattle.std.specs.Ordering.{is_eq, is_lt}
use Rattle.std.specs.Cmp.{tied_itself}
use Rattle.std.specs.Cmp.Lexicographic.{nat_list_cmp_total}
use Rattle.std.proofs.lemmas.Bool.{cases_Bool}
use Rattle.fr_base.specs.Book.{Book, Frame, Variant, file_of, is_of}
use Rattle.fr_base.specs.Checks.{check, has_repetition, is_integrator, name, query}
use Rattle.fr_base.specs.Cluster.{Cluster}
use Rattle.fr_base.specs.Keys.{names}
use Rattle.fr_base.specs.Names.{is_name, same_text}
use Rattle.fr_base.specs.QueryNames.{report_in}
use Rattle.fr_base.specs.Queries.{found, frame_row, frames_of, held, reply, shown, variant_row, variants_of}
use Rattle.fr_base.specs.Refusing.{◌>>=◌, ◌>>◌, ◌or◌, refuse◌when◌}
use Rattle.fr_base.specs.Step.{act, knows, outcome, step}
use Rattle.fr_base.specs.TableRows.{first, second}
use Rattle.fr_base.specs.Tables.{get, contains, only}
use Rattle.fr_base.specs.declared.actor.Actor.{Actor}
use Rattle.fr_base.specs.declared.actor.Actor.TheVariants.{Integrator, Supplier}
use Rattle.fr_base.specs.declared.answer.Answer.{Answer}
use Rattle.fr_base.specs.declared.answer.Answer.TheVariants.{Report as Told}
use Rattle.fr_base.specs.declared.answer.FrameRow.{FrameRow}
use Rattle.fr_base.specs.declared.answer.GapRow.{GapRow}
use Rattle.fr_base.specs.declared.answer.ReportRows.{ReportRows}
use Rattle.fr_base.specs.declared.answer.ReportRows.TheVariants as rows
use Rattle.fr_base.specs.declared.answer.VariantRow.{VariantRow}
use Rattle.fr_base.specs.declared.config.Supplier as config
use Rattle.fr_base.specs.declared.name.Name.{Name}
use Rattle.fr_base.specs.declared.query.Query.TheVariants.{Variant as OfVariant}
use Rattle.fr_base.specs.declared.refusal.Refusal.{Refusal}
use Rattle.fr_base.specs.declared.refusal.Refusal.TheVariants.{BadCycles, BadName, NotYours, NoVariant, UnknownKey}
use Rattle.fr_base.specs.declared.report.Report.{Report}
use Rattle.fr_base.specs.declared.report.Report.TheVariants.{Frames, Grants, Schedule, Gaps, Layout}
use Rattle.fr_base.specs.declared.request.Checked.{Checked}
use Rattle.fr_base.specs.declared.request.Checked.TheVariants as checked
use Rattle.fr_base.proofs.AloneChecks.{name-is}
use Rattle.fr_base.proofs.KnownSteps.{run-knows}
use Rattle.fr_base.proofs.ReleasedSteps.{run-keeps_answers, run-keeps_released}
use Rattle.fr_base.proofs.SoundRefusing.{gives_bind, gives_each, gives_unless, gives_when}
use Rattle.fr_base.proofs.SoundRows.{same_text-is}
use Rattle.fr_base.proofs.SoundTables.{same_some}
use Rattle.fr_base.proofs.SuppliersLaws.{contains-listed}
use Rattle.fr_base.proofs.TableLaws.{equal}
use Rattle.fr_picture.specs.Frames.{AreDrawn, AreFrames}
use Rattle.fr_picture.specs.Plans.{IsListed, IsPlan, suppliers_seen}
use Rattle.fr_picture.specs.ReleasedPlans.{ReleasedPlanStays}
use Rattle.fr_picture.specs.Reports.{answer_to, asks, asks_variants, with_variants}
use Rattle.fr_picture.specs.declared.frame_table.DrawnFrame.{DrawnFrame}
use Rattle.fr_picture.specs.declared.plan.Plan.{Plan}

-- ---- a report that is told

-- the rows of a report are told to an actor
abbrev IsTold : Cluster → Book → Actor → Name → Report (List ℕ) ℕ → Bool → ReportRows → Type 0
IsTold c b actor v asked all told = answer_to c b actor (asks v asked) ≡ Told all told

-- a request for a report that passed the check is a query of the variant
abbrev IsQuery : Name → Checked → Type 0
IsQuery v what = (r : Report Name ℕ) × (what ≡ checked.Query (OfVariant v r))

module _ (c : Cluster) (b : Book) (actor : Actor) (v : Name) (asked : Report (List ℕ) ℕ) where
  passed : IfOk (check c.params actor (asks v asked)) (IsQuery v)
  unfolding check query
  passed =
      gives_when _ _ _ _ (λ _.
      gives_bind _ (λ q. (r : Report Name ℕ) × (q ≡ OfVariant v r)) _ _
      (gives_bind _ _ (name v) _ (name-is v) (λ w is.
      gives_each _ (report_in name Ok asked) _ (λ r _. (r, ap (λ n. OfVariant n r) is)))) (λ q is.
      gives_unless _ _ (has_repetition c.params q) _ (λ _. (is.0, ap checked.Query is.1))))

  by_lines : (known : Bool) (r : Result Checked Refusal) (all : Bool) (told : ReportRows) → IfOk r (IsQuery v)
      → (outcome b ((refuse UnknownKey when not known) >> (r >>= λ valid. act c b actor valid))).answer ≡ Told all told
      → (known ≡ true) × ((x : Report Name ℕ) × (r ≡ Ok (checked.Query (OfVariant v x))))
  unfolding outcome ◌>>=◌ ◌>>◌ refuse◌when◌
  by_lines false r all told is answered = cc
  by_lines true (Err e) all told is answered = cc
  by_lines true (Ok what) all told is answered = (refl, (is.0, ap Ok is.1))

  -- who is told a report is known, and the request passes the check
  of_told : (all : Bool) (told : ReportRows) → IsTold c b actor v asked all told
      → IsTrue (knows b actor) × ((x : Report Name ℕ) × (check c.params actor (asks v asked) ≡ Ok (checked.Query (OfVariant v x))))
  unfolding step
  of_told all told answered = by_lines (knows b actor) (check c.params actor (asks v asked)) all told passed answered

-- ---- the variants that are told

variants_told : (c : Cluster) (b : Book) (reader : Actor) → IsTrue (knows b reader) → answer_to c b reader asks_variants ≡ with_variants (is_integrator reader) (variants_of b.variants)
unfolding step check query act reply found held outcome ◌>>=◌ ◌>>◌ refuse◌when◌
variants_told c b Integrator known = refl
variants_told c b (Supplier s) known = rw (known, answer_to) refl

rows_told : Answer → List VariantRow
rows_told (Told all (rows.Variants told)) = told
rows_told _ = []

abbrev R : Name → Name → Ordering
R = names.compare

-- behind the rows of a name stand others
others_above : (k : Name) (es : List (Name × Variant)) → T (below_all R k es) → (row : VariantRow) → Contains (map variant_row es) row → is_lt (R k row.variant) ≡ true
others_above k [] above row (n, low, e) = absurd (omega (arith, low))
others_above k (e ∷ es) above row (zero, low, is) = ap (λ (r : VariantRow). is_lt (R k r.variant)) (sym is) ∙ held (first _ _ above)
  where
    held : {t : Bool} → T t → t ≡ true
    held {t = true} h = refl
    held {t = false} h = absurd h
others_above k (e ∷ es) above row (suc n, low, is) = others_above k es (second _ _ above) row (n, omega (arith, low), is)

module _ (v : Name) (x : Variant) where
  -- the row of the variant that stands there is the one of its name
  row_is : (es : List (Name × Variant)) → T (is_sorted R es) → find R v es ≡ Some x → (row : VariantRow) → Contains (map variant_row es) row → row.variant ≡ v → row ≡ variant_row (v, x)
  unfolding names
  row_is [] rise there row among named = cc
  row_is (e ∷ es) rise there row (zero, low, is) named = elim (cases_Bool (is_eq (R v e.0))) [
    | inl tie ↦
        let same : e.1 ≡ x = same_some e.1 x (sym (ap (λ t. cond t (Some e.1) (find R v es)) tie) ∙ there) in
        sym is ∙ (λ i. variant_row ((ap (λ (r : VariantRow). r.variant) is ∙ named) i, same i))
    | inr other ↦ absurd (true≢false (sym (ap is_eq (tied_itself nat_list_cmp_total v)) ∙ ap (λ n. is_eq (R v n)) (sym named ∙ sym (ap (λ (r : VariantRow). r.variant) is)) ∙ other))
  ]
  row_is (e ∷ es) rise there row (suc n, low, is) named = elim (cases_Bool (is_eq (R v e.0))) [
    | inl tie ↦
        let behind : is_lt (R e.0 v) ≡ true = ap (λ m. is_lt (R e.0 m)) (sym named) ∙ others_above e.0 es (first _ _ rise) row (n, omega (arith, low), is) in
        let here : v ≡ e.0 = names.exact v e.0 (equal _ tie) in
        absurd (true≢false (sym behind ∙ ap (λ m. is_lt (R m v)) (sym here) ∙ ap is_lt (tied_itself nat_list_cmp_total v)))
    | inr other ↦ row_is es (second _ _ rise) (sym (ap (λ t. cond t (Some e.1) (find R v es)) other) ∙ there) row (n, omega (arith, low), is) named
  ]

  -- and it is there
  is_row : (es : List (Name × Variant)) → find R v es ≡ Some x → Contains (map variant_row es) (variant_row (v, x))
  unfolding names
  is_row [] there = cc
  is_row (e ∷ es) there = elim (cases_Bool (is_eq (R v e.0))) [
    | inl tie ↦
        let same : e.1 ≡ x = same_some e.1 x (sym (ap (λ t. cond t (Some e.1) (find R v es)) tie) ∙ there) in
        (zero, omega arith, λ i. variant_row (sym (names.exact v e.0 (equal _ tie)) i, same i))
    | inr other ↦
        let rest = is_row es (sym (ap (λ t. cond t (Some e.1) (find R v es)) other) ∙ there) in
        let low = rest.1 in
        (suc rest.0, omega (arith, low), rest.2)
  ]

-- a variant that stands in two books is told of both alike
module _ (c : Cluster) (b d : Book) (v : Name) (x : Variant) (there : get b.variants v ≡ Some x) (here : get d.variants v ≡ Some x) (reader : Actor) (known : IsTrue (knows b reader)) (known_too : IsTrue (knows d reader)) where
  listed-moves : (row : VariantRow) → row.variant ≡ v → IsListed c b reader row → IsListed c d reader row
  unfolding variants_of get rows_told
  listed-moves row named (told, (all, answered), among) =
      let those : variants_of b.variants ≡ told = ap rows_told (sym (variants_told c b reader known) ∙ answered) in
      let is : row ≡ variant_row (v, x) = row_is v x b.variants.rows b.variants.sorted there row (subst (λ rs. Contains rs row) (sym those) among) named in
      (variants_of d.variants, (is_integrator reader, variants_told c d reader known_too), subst (Contains (variants_of d.variants)) (sym is) (is_row v x d.variants.rows here))

-- ---- whose rows a reader is told

-- the reader may be told rows of this supplier: the integrator of any, a supplier of itself
abbrev IsOf : Actor → Name → Type 0
IsOf Integrator t = ⊤
IsOf (Supplier s) t = t ≡ s

abbrev AreOf : Actor → List FrameRow → Type 0
AreOf reader [] = ⊤
AreOf reader (row ∷ told) = IsOf reader row.supplier × AreOf reader told

abbrev HasOf : Actor → Answer → Type 0
HasOf reader (Told all (rows.Frames told)) = AreOf reader told
HasOf reader _ = ⊤

of_all : (told : List FrameRow) → AreOf Integrator told
of_all [] = tt
of_all (row ∷ told) = (tt, of_all told)

module _ (c : Cluster) (b : Book) (s : Name) where
  its_rows : (es : List ((Name × Name) × Frame)) → AreOf (Supplier s) (map frame_row (filter (λ e. is_of s e.0) es))
  its_rows [] = tt
  its_rows (e ∷ es) = elim (cases_Bool (is_of s e.0)) [
    | inl its ↦ rw its (same_text-is e.0.0 s its, its_rows es)
    | inr anothers ↦ rw anothers (its_rows es)
  ]

  its_reply : (o : Option Variant) → IfOk ((o or NoVariant >>= λ variant. shown c.params (Supplier s) variant Frames) >>= λ rows. Ok (Told false rows)) (HasOf (Supplier s))
  unfolding shown frames_of only ◌>>=◌ ◌or◌
  its_reply None = tt
  its_reply (Some variant) = its_rows variant.frames.rows

  its_told : (r : Result Answer Refusal) → IfOk r (HasOf (Supplier s)) → HasOf (Supplier s) (outcome b (r >>= λ told. Ok (record { book = b; answer = told }))).answer
  unfolding outcome ◌>>=◌
  its_told (Ok told) its = its
  its_told (Err refusal) its = tt

  -- the lines of the step, by whether the supplier is known and the variant's name is one
  its_lines : (known named : Bool) (variant : List ℕ) → HasOf (Supplier s) (outcome b ((refuse UnknownKey when not known)
      >> (((refuse NotYours when false) >> (((if named then Ok variant else Err BadName) >>= λ v. report_in name Ok Frames >>= λ r. Ok (OfVariant v r))
      >>= λ q. (refuse BadCycles when not (has_repetition c.params q)) >> Ok (checked.Query q))) >>= λ valid. act c b (Supplier s) valid))).answer
  unfolding act reply found outcome ◌>>=◌ ◌>>◌ refuse◌when◌
  its_lines false named variant = tt
  its_lines true false variant = tt
  its_lines true true variant = its_told (reply c.params b (Supplier s) (OfVariant variant Frames)) (its_reply (get b.variants variant))

  its_frames : (variant : List ℕ) → HasOf (Supplier s) (answer_to c b (Supplier s) (asks variant Frames))
  unfolding step check query name
  its_frames variant = its_lines (knows b (Supplier s)) (is_name variant) variant

-- the frames that a reader is told of are of those whose rows it may be told
frames_of_reader : (c : Cluster) (b : Book) (reader : Actor) (v : Name) (all : Bool) (told : List FrameRow) → IsTold c b reader v Frames all (rows.Frames told) → AreOf reader told
frames_of_reader c b Integrator v all told answered = of_all told
frames_of_reader c b (Supplier s) v all told answered = subst (HasOf (Supplier s)) answered (its_frames c b s v)

-- ---- a plan is one of another book too, where all that is told of this one is told of that one

abbrev Moves : Cluster → Book → Book → Name → Actor → Type 0
Moves c b d v actor = (asked : Report (List ℕ) ℕ) (all : Bool) (told : ReportRows) → IsTold c b actor v asked all told → IsTold c d actor v asked all told

module _ (c : Cluster) (b d : Book) (v : Name) (reader : Actor) (moves : Moves c b d v reader) (layouts : (t : Name) → IsOf reader t → Moves c b d v (Supplier t)) where
  drawn-move : (told : List FrameRow) (gaps : List GapRow) (frames : List DrawnFrame) → AreOf reader told → AreDrawn c b v told gaps frames → AreDrawn c d v told gaps frames
  drawn-move [] gaps [] of drawn = tt
  drawn-move [] gaps (frame ∷ frames) of drawn = absurd drawn
  drawn-move (row ∷ told) [] frames of drawn = absurd drawn
  drawn-move (row ∷ told) (gap ∷ gaps) [] of drawn = absurd drawn
  drawn-move (row ∷ told) (gap ∷ gaps) (frame ∷ frames) of drawn =
      let (is, same, (all, signals, answered, those, bits)) = drawn.0 in
      ((is, same, (all, signals, layouts row.supplier of.0 (Layout row.frame) all (rows.Layout signals) answered, those, bits)), drawn-move told gaps frames of.1 drawn.1)

  frames-move : (frames : List DrawnFrame) → AreFrames c b reader v frames → AreFrames c d reader v frames
  frames-move frames (told, (all, answered), (listed, gaps, same, ordered, ties, (every, gapped), drawn)) = (
    told,
    (all, moves Frames all (rows.Frames told) answered),
    (listed, gaps, same, ordered, ties, (every, moves Gaps every (rows.Gaps gaps) gapped), drawn-move told gaps listed (frames_of_reader c b reader v all told answered) drawn),
  )

  plan-moves : (plan : Plan) → ((row : VariantRow) → row.variant ≡ v → IsListed c b reader row → IsListed c d reader row)
      → suppliers_seen reader (file_of c b).suppliers ≡ suppliers_seen reader (file_of c d).suppliers → IsPlan c b reader v plan → IsPlan c d reader v plan
  plan-moves plan listed seen is = record {
    params = is.params;
    name = is.name;
    row = is.row;
    listed = listed is.row (is.same.0 ∙ is.name) is.listed;
    same = is.same;
    viewer = is.viewer;
    suppliers = is.suppliers ∙ seen;
    grants = (is.grants.0, moves Grants is.grants.0 (rows.Grants plan.grants) is.grants.1);
    cells = (is.cells.0, moves Schedule is.cells.0 (rows.Schedule plan.cells) is.cells.1);
    frames = frames-move plan.frames.items is.frames;
  }

-- ---- a run

-- where the names are the same, so is who is there
any-named : (s : Name) (ss : List config.Supplier) → list_any (λ t. same_text s t.name) ss ≡ list_any (same_text s) (map (λ t. t.name) ss)
any-named s [] = refl
any-named s (t ∷ ts) = ap (λ b. same_text s t.name || b) (any-named s ts)

there-alike : (c : Cluster) (b d : Book) (s : Name) → suppliers_seen Integrator (file_of c d).suppliers ≡ suppliers_seen Integrator (file_of c b).suppliers → contains d.suppliers s ≡ contains b.suppliers s
there-alike c b d s seen =
    sym (contains-listed d s) ∙ any-named s (file_of c d).suppliers ∙ ap (list_any (same_text s)) seen ∙ sym (any-named s (file_of c b).suppliers) ∙ contains-listed b s

-- who is known behind, and may be told of by the reader, was known before
known-before : (c : Cluster) (b d : Book) (reader : Actor) (t : Name) → IsTrue (knows b reader) → suppliers_seen reader (file_of c d).suppliers ≡ suppliers_seen reader (file_of c b).suppliers
    → IsOf reader t → IsTrue (contains d.suppliers t) → IsTrue (contains b.suppliers t)
known-before c b d Integrator t known seen of there = sym (there-alike c b d t seen) ∙ there
known-before c b d (Supplier s) t known seen of there = ap (contains b.suppliers) of ∙ known

pub plan-stays : ReleasedPlanStays
plan-stays c b last asks answers v x there frozen run reader known seen plan =
    let stays : get last.variants v ≡ Some x = run-keeps_released c b last asks answers v x there frozen run in
    let later : IsTrue (knows last reader) = run-knows c b last asks answers reader known run in (
      plan-moves c b last v reader (forth reader) (λ t of. forth (Supplier t)) plan (listed-moves c b last v x there stays reader known later) (sym seen),
      plan-moves c last b v reader (back reader known) (λ t of asked all told answered.
          back (Supplier t) (known-before c b last reader t known seen of (of_told c last (Supplier t) v asked all told answered).0) asked all told answered)
          plan (listed-moves c last b v x stays there reader later known) seen,
    )
  where
    forth : (actor : Actor) → Moves c b last v actor
    forth actor asked all told answered =
        let (known, (r, passes)) = of_told c b actor v asked all told answered in
        run-keeps_answers c b last asks answers v x there frozen run actor _ r known passes ∙ answered

    back : (actor : Actor) → IsTrue (knows b actor) → Moves c last b v actor
    back actor known asked all told answered =
        let (later, (r, passes)) = of_told c last actor v asked all told answered in
        sym (run-keeps_answers c b last asks answers v x there frozen run actor _ r known passes) ∙ answered
