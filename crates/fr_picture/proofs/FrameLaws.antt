-- Frames that are drawn one after another, their signals, and why there are none.
use Rattle.std.proofs.Common.{◌≡◌, ℕ, List, [], ◌∷◌, ◌++◌, Some, Result, Ok, Err, zero, suc, length, map, refl, sym, subst, arith, inl, inr}
use Rattle.std.specs.List.{All, slice_get}
use Rattle.std.specs.Prelude.{IsPermutation, Vec}
use Rattle.std.specs.declared.alloc.Global.{Global}
use Rattle.fr_base.specs.Book.{Book}
use Rattle.fr_base.specs.Cluster.{Cluster}
use Rattle.fr_base.specs.Desks.{Standing}
use Rattle.fr_base.specs.Sound.{IsSound}
use Rattle.fr_base.specs.declared.actor.Actor.{Actor}
use Rattle.fr_base.specs.declared.actor.Actor.TheVariants.{Supplier}
use Rattle.fr_base.specs.declared.answer.FrameRow.{FrameRow}
use Rattle.fr_base.specs.declared.answer.GapRow.{GapRow}
use Rattle.fr_base.specs.declared.answer.SignalRow.{SignalRow}
use Rattle.fr_base.specs.declared.refusal.Refusal.{Refusal}
use Rattle.fr_base.specs.declared.refusal.Refusal.TheVariants.{Unavailable}
use Rattle.fr_base.specs.declared.request.Request.{Request}
use Rattle.fr_base.specs.declared.report.Report.TheVariants.{Frames, Gaps, Layout}
use Rattle.fr_picture.specs.FrameTables.{AreWorstFirst, KeepTies}
use Rattle.fr_picture.specs.Strips.{HasItsBits}
use Rattle.fr_picture.specs.declared.frame_table.DrawnFrame.{DrawnFrame}
use Rattle.fr_picture.specs.declared.signals.DrawnSignal.{DrawnSignal}
use Rattle.fr_picture.specs.Frames.{AreDrawn, AreDrawnOf, AreFrames, AreSignals, IsDrawn, IsOfPlan, MayRefusePlan}
use Rattle.fr_picture.specs.Reports.{MayRefuse, Reads, Reports, answer_to, asks, with_frames, with_gaps, with_signals}

module _ (c : Cluster) (b : Book) (variant : List ℕ) (row : FrameRow) (gap : GapRow) (frame : DrawnFrame) (is : IsDrawn c b variant row gap.gap frame) where
  -- one frame more
  pub drawn_more : (rows : List FrameRow) (gaps : List GapRow) (frames : List DrawnFrame) (i : ℕ) → i ≡ length rows → slice_get gaps i ≡ Some gap
      → AreDrawn c b variant rows gaps frames → AreDrawn c b variant (rows ++ row ∷ []) gaps (frames ++ frame ∷ [])
  drawn_more [] [] [] i e at so = absurd cc
  drawn_more [] (g ∷ gaps) [] zero e at so = (let same : g ≡ gap = cc in (subst (λ (o : GapRow). IsDrawn c b variant row o.gap frame) (let back : gap ≡ g = cc in back) is, tt))
  drawn_more [] (g ∷ gaps) [] (suc i) e at so = absurd (omega (arith, e))
  drawn_more [] gaps (f ∷ frames) i e at so = absurd so
  drawn_more (r ∷ rows) [] frames i e at so = absurd so
  drawn_more (r ∷ rows) (g ∷ gaps) [] i e at so = absurd so
  drawn_more (r ∷ rows) (g ∷ gaps) (f ∷ frames) zero e at so = absurd (omega (arith, e))
  drawn_more (r ∷ rows) (g ∷ gaps) (f ∷ frames) (suc i) e at so = (so.0, drawn_more rows gaps frames i (omega (arith, e)) at so.1)

-- ---- signals

module _ (old new : Standing) (variant : List ℕ) (row : FrameRow) where
  -- the signals of the answer
  pub signals_read : (rows : List SignalRow) (signals : List DrawnSignal) → Reports old new (Supplier row.supplier) (asks variant (Layout row.frame)) with_signals (Ok rows)
      → map (λ s. s.signal) signals ≡ map (λ r. r.signal) rows → All HasItsBits signals
      → Reads old new (Ok signals) (λ c b signals. AreSignals c b variant row signals) (λ c b e. e ≡ Unavailable)
  signals_read rows signals reports same bits c b stood sound =
      let told = reports c b stood sound in
      (told.0, (told.1.0, rows, told.1.1, same, bits))

  -- or none
  pub no_signals : (told : Result (List SignalRow) Refusal) (r : Result (List DrawnSignal) Refusal) → Reports old new (Supplier row.supplier) (asks variant (Layout row.frame)) with_signals told
      → r ≡ Err Unavailable → Reads old new r (λ c b signals. AreSignals c b variant row signals) (λ c b e. e ≡ Unavailable)
  no_signals told r reports is =
      subst (λ r. Reads old new r (λ c b signals. AreSignals c b variant row signals) (λ c b e. e ≡ Unavailable)) (sym is)
      (λ c b stood sound. ((reports c b stood sound).0, refl))

-- ---- the frames of a plan

-- the reader is refused one of the plan's reports
pub refuses_plan : (c : Cluster) (b : Book) (reader : Actor) (variant : List ℕ) (asked : Request) (e : Refusal) → IsOfPlan variant asked → MayRefuse (answer_to c b reader asked) e → MayRefusePlan c b reader variant e
refuses_plan c b reader variant asked e of may =
    elim may [
      | inl lacked ↦ inl lacked
      | inr is ↦ inr (asked, of, is)
    ]

module _ (old mid new : Standing) (reader : Actor) (variant : List ℕ) where
  -- the rows were reported, and then drawn
  pub frames_read : (rows : List FrameRow) (r : Result (Vec DrawnFrame Global) Refusal) → Reports old mid reader (asks variant Frames) with_frames (Ok rows)
      → Reads mid new r (λ c b frames. AreDrawnOf c b reader variant rows frames.items) (λ c b e. MayRefusePlan c b reader variant e)
      → Reads old new r (λ c b frames. AreFrames c b reader variant frames.items) (λ c b e. MayRefusePlan c b reader variant e)
  frames_read rows (Ok frames) reports reads c b stood sound =
      let told = reports c b stood sound in
      let drawn = reads c b told.0 sound in
      (drawn.0, (rows, told.1, drawn.1))
  frames_read rows (Err e) reports reads c b stood sound = reads c b (reports c b stood sound).0 sound

  -- the gaps were reported, and then the rows drawn with them, and put in order
  pub drawn_of : (rows : List FrameRow) (gaps : List GapRow) (listed frames : List DrawnFrame) → IsPermutation listed frames → AreWorstFirst frames → KeepTies listed frames → Reports old mid reader (asks variant Gaps) with_gaps (Ok gaps)
      → ((c : Cluster) (b : Book) → mid c b → IsSound c b → new c b × AreDrawn c b variant rows gaps listed)
      → (c : Cluster) (b : Book) → old c b → IsSound c b → new c b × AreDrawnOf c b reader variant rows frames
  drawn_of rows gaps listed frames same ordered ties reports reads c b stood sound =
      let told = reports c b stood sound in
      let drawn = reads c b told.0 sound in
      (drawn.0, (listed, gaps, same, ordered, ties, told.1, drawn.1))
