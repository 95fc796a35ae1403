-- A part of a variant's own export changes nothing: its rows fill up again the frames that they freed.
use Rattle.std.proofs.Common.{◌≡◌, ℕ, ◌≤◌, true, false, List, [], ◌∷◌, ◌++◌, map, length, nat_lt, Option, Some, Ok, sym, ap, subst, ◌∙◌, inl, inr, arith, append-nil}
use Rattle.std.specs.Prelude.{⊤, T}
use Rattle.std.specs.List.{AllByRecursion}
use Rattle.std.specs.FinMap.Entries.{is_sorted}
use Rattle.std.proofs.lemmas.Bool.Decides.{nat_tests}
use Rattle.fr_base.specs.Tables.{Table, empty, get}
use Rattle.fr_base.specs.Keys.{owned, placement_order}
use Rattle.fr_base.specs.Cluster.{Cluster}
use Rattle.fr_base.specs.Signals.{SignalData}
use Rattle.fr_base.specs.Book.{Frame, Variant, Book, own}
use Rattle.fr_base.specs.Brought.{placement_for, signal_for, placements_for, signals_for, had_placements, had_signals}
use Rattle.fr_base.specs.Exports.{exported}
use Rattle.fr_base.specs.ExportedLaws.{exported_rows, OwnExportChangesNothing}
use Rattle.fr_base.specs.ImportRows.{rows_of_body}
use Rattle.fr_base.specs.Sound.{IsSound}
use Rattle.fr_base.specs.Step.{clear_all, free_rows, replaced, replace, outcome}
use Rattle.fr_base.specs.declared.limits.TheConstants.{MAX_IMPORT_BYTES}
use Rattle.fr_base.specs.declared.answer.Answer.TheVariants.{Replaced}
use Rattle.fr_base.specs.declared.import.Header.{Header}
use Rattle.fr_base.specs.declared.import.Row.{Row}
use Rattle.fr_base.specs.declared.import.RowRead.{RowRead}
use Rattle.fr_base.specs.declared.name.Name.{Name}
use Rattle.fr_base.specs.declared.placement.Placement.{Placement}
use Rattle.fr_base.proofs.TableLaws.{insert-same}
use Rattle.fr_base.proofs.FrameRuns.{past_or, past_when, lifted, run_in, replace_rows-lift}
use Rattle.fr_base.proofs.BroughtLemmas.{Frees, free_rows-free, unless_brought}
use Rattle.fr_base.proofs.ClearedFrames.{StayOthers, free-others}
use Rattle.fr_base.proofs.SameFileLaws.{step-replace}
use Rattle.fr_base.proofs.Filling.{marked, Fills, Filling, filled, RowFits, rows-fill}
use Rattle.fr_base.proofs.ExportRows.{IsOwn, own-all, all-mid, sorted-mid, rows_of_frames, RowsAreWhole, rows-whole, places_in, signs_in, AllOrNone, places-whole, signals-whole, rows-fit, brought-read, all-read, length-read}

-- ---- frames that were freed

again-placements : (qs : List Placement) (now was : Table placement_order ⊤) → now ≡ unless_brought qs empty was → AllOrNone (marked qs) was.rows → now.rows ++ marked (qs ++ []) ≡ was.rows
unfolding empty
again-placements [] now was e whole = append-nil now.rows ∙ ap (λ (t : Table placement_order ⊤). t.rows) e
again-placements (q ∷ qs) now was e (inl none) = cc
again-placements (q ∷ qs) now was e (inr all) = (λ i. (e i).rows ++ marked (append-nil (q ∷ qs) i)) ∙ all

again-signals : (xs now was : List SignalData) → now ≡ unless_brought xs [] was → AllOrNone xs was → now ++ (xs ++ []) ≡ was
again-signals [] now was e whole = append-nil now ∙ e
again-signals (x ∷ xs) now was e (inl none) = cc
again-signals (x ∷ xs) now was e (inr all) = (λ i. e i ++ append-nil (x ∷ xs) i) ∙ all

-- a frame that lost what rows bring is filled by them
pub again : (qs rs : List Placement) (xs ys : List SignalData) (z o : Option Frame) → qs ≡ rs → xs ≡ ys → Frees qs xs z o → AllOrNone (marked rs) (had_placements z).rows → AllOrNone ys (had_signals z) → Fills (qs ++ []) (xs ++ []) o z
again qs rs xs ys z o e h frees places signs = record {
  node = frees.node;
  placements = again-placements qs (had_placements o) (had_placements z) frees.placements (subst (λ l. AllOrNone (marked l) (had_placements z).rows) (sym e) places);
  signals = again-signals xs (had_signals o) (had_signals z) frees.signals (subst (λ l. AllOrNone l (had_signals z)) (sym h) signs);
}

-- ---- the rows

pub short_enough : (n : ℕ) → n ≤ MAX_IMPORT_BYTES → nat_lt MAX_IMPORT_BYTES n ≡ false
short_enough n h = grind (arith, nat_tests)

module _ (c : Cluster) (b : Book) (sound : IsSound c b) (s v : Name) (x : Variant) (found : get b.variants v ≡ Some x) (header : Header) (part : ℕ) (reads : List RowRead) where
  abbrev rows : List Row
  rows = exported_rows (exported header part (own s x.frames).rows)

  module _ (whole : RowsAreWhole header part (own s x.frames).rows) (are : map (λ read. read.row) reads ≡ map Ok rows) where
    sorted : T (is_sorted owned.compare whole.seg)
    sorted = sorted-mid owned whole.front whole.seg whole.rest (subst (λ es. T (is_sorted owned.compare es)) whole.all (own s x.frames).sorted)

    mine : AllByRecursion (IsOwn s x.frames) whole.seg
    mine = all-mid (IsOwn s x.frames) whole.front whole.seg whole.rest (subst (AllByRecursion (IsOwn s x.frames)) whole.all (own-all s x.frames))

    read_as : map (λ read. read.row) reads ≡ map Ok (rows_of_frames header whole.seg)
    read_as = are ∙ ap (map Ok) whole.rows

    fills : Filling s x.frames (λ f. placements_for f reads ++ []) (λ f. signals_for f reads ++ []) (free_rows s reads x.frames)
    unfolding StayOthers
    fills = record {
      others = free-others s reads x.frames;
      mine = λ f. again (placements_for f reads) (places_in f (rows_of_frames header whole.seg)) (signals_for f reads) (signs_in f (rows_of_frames header whole.seg)) _ _
          (brought-read (placement_for f) reads (rows_of_frames header whole.seg) read_as) (brought-read (signal_for f) reads (rows_of_frames header whole.seg) read_as)
          (free_rows-free s f reads x.frames)
          (places-whole s x.frames whole.seg sorted mine header f) (signals-whole s x.frames whole.seg sorted mine header f);
    }

    -- they give back the frames as they were
    runs_back : run_in c.params b s v x true (free_rows s reads x.frames) reads ≡ Ok x.frames
    runs_back =
        let run = rows-fill s x.frames c.params b v x (sound.variants v x found).1 true reads (free_rows s reads x.frames) (λ f. []) (λ f. [])
        (all-read (RowFits s x.frames) reads (rows_of_frames header whole.seg) read_as (rows-fit s x.frames header whole.seg mine)) fills in
        run.1 ∙ ap Ok (filled s x.frames run.0 run.2)

pub changes_nothing : OwnExportChangesNothing
unfolding replace outcome replaced lifted clear_all
changes_nothing c b s v x header part body sound known found open_now short are =
    let reads : List RowRead = rows_of_body c.params body in
    step-replace c b s v body false known (sound.variants v x found).0
    ∙ ap (outcome b) (
    past_or _ _ x _ found
    ∙ past_when _ x.released _ open_now
    ∙ past_when _ (nat_lt MAX_IMPORT_BYTES (length body)) _ (short_enough (length body) short)
    ∙ ap (λ z. Ok (replaced b (length reads) z)) (
    replace_rows-lift c.params b s v x open_now known reads (free_rows s reads x.frames)
    ∙ ap (lifted c.params b s v x) (runs_back c b sound s v x found header part reads (rows-whole header part (own s x.frames).rows) are)))
    ∙ (λ i. record { book = record b { variants = insert-same b.variants v x found i }; answer = Replaced (length-read reads (rows c b sound s v x found header part reads) are i) })
