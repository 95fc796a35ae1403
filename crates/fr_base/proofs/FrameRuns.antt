-- The rows of a file as they act on the frames of one open variant, and nothing else of the book.
use Rattle.std.proofs.Common.{◌≡◌, ℕ, Bool, true, false, not, nat_le, List, [], ◌∷◌, Option, Some, None, Result, Ok, Err, refl, ap, ◌∙◌}
use Rattle.std.specs.Prelude.{⊤}
use Rattle.std.specs.Option.{option_and_then}
use Rattle.fr_base.specs.Refusing.{◌>>=◌, ◌>>◌, ◌or◌, refuse◌when◌}
use Rattle.fr_base.specs.Tables.{Table, Becomes, get, contains, len, insert, settle}
use Rattle.fr_base.specs.Keys.{owned}
use Rattle.fr_base.specs.Names.{same_text}
use Rattle.fr_base.specs.Book.{Frame, Variant, Book, own, own_grants, granted, is_of, schedule_of}
use Rattle.fr_base.specs.Cells.{cells_of}
use Rattle.fr_base.specs.Schedule.{first_taken}
use Rattle.fr_base.specs.Signals.{SignalData}
use Rattle.fr_base.specs.Layouts.{admits_signal}
use Rattle.fr_base.specs.Step.{RefusedAt, OwnRows, with_variant, own_rows, shared_by, layout_of, cell_taken, admits_frame, admits, grants_after, frame_after, frames_after, changed, change_rows, frame_at, with_frame, act_row, at_line, act_rows, replace_row, replace_rows}
use Rattle.fr_base.specs.declared.import.Row.{Row}
use Rattle.fr_base.specs.declared.import.Row.TheVariants as row
use Rattle.fr_base.specs.declared.import.RowRead.{RowRead}
use Rattle.fr_base.specs.declared.name.Name.{Name}
use Rattle.fr_base.specs.declared.params.Params.{Params}
use Rattle.fr_base.specs.declared.refusal.Refusal.{Refusal}
use Rattle.fr_base.specs.declared.refusal.Refusal.TheVariants.{NoNode, NoFrame, NodeDiffers, NotGranted, Limit}
use Rattle.fr_base.specs.declared.limits.TheConstants.{MAX_PLACEMENTS}
use Rattle.fr_base.specs.declared.placement.Placement.{Placement}
use Rattle.fr_base.specs.declared.request.Change.TheVariants as change
use Rattle.fr_base.specs.declared.request.FrameChange.{FrameChange}
use Rattle.fr_base.specs.declared.request.FrameChange.TheVariants.{Add, Place, AddSignal}
use Rattle.fr_base.proofs.SoundTables.{get-passing, get-put, insert-again}
use Rattle.fr_base.proofs.AloneCells.{same_text-itself}

-- ---- what is not refused goes on

module _ {A B E : Type 0} where
  pub past_or : (o : Option A) (e : E) (x : A) (f : A → Result B E) → o ≡ Some x → ((o or e) >>= f) ≡ f x
  unfolding ◌or◌ ◌>>=◌
  past_or o e x f there = rw there refl

module _ {B E : Type 0} where
  pub past_when : (e : E) (t : Bool) (r : Result B E) → t ≡ false → ((refuse e when t) >> r) ≡ r
  unfolding refuse◌when◌ ◌>>◌
  past_when e t r h = rw h refl

  pub past_unless : (e : E) (t : Bool) (r : Result B E) → t ≡ true → ((refuse e when not t) >> r) ≡ r
  unfolding refuse◌when◌ ◌>>◌
  past_unless e t r h = rw h refl

module _ (p : Params) (b : Book) (s v : Name) (y : Variant) where
  -- ---- on frames

  -- the variant with these frames
  abbrev pub having : Table owned Frame → Variant
  having t = record y { frames = t }

  -- what a change of the supplier's rows is judged by
  abbrev pub rows_at : Table owned Frame → OwnRows
  rows_at t = own_rows p b s (having t)

  unfoldable pub change_in : Table owned Frame → Name → FrameChange → Result (Table owned Frame) Refusal
  change_in t f what = do
    admits_frame (rows_at t) (shared_by y.grants t) (get t (s, f)) what
    Ok (settle t (s, f) (frame_after what (get t (s, f))))

  unfoldable pub framed_in : Table owned Frame → Name → Name → Option Frame → Result (Table owned Frame) Refusal
  framed_in t f n None = change_in t f (Add n)
  framed_in t f n (Some frame) = do
    refuse NodeDiffers when not (same_text frame.node n)
    Ok t

  -- a row, as of a replacement or as of an import
  unfoldable pub act_in : Bool → Table owned Frame → Row → Result (Table owned Frame) Refusal
  act_in true t (row.AddFrame f n) = do
    refuse NoNode when not (contains b.nodes (s, n))
    framed_in t f n (get t (s, f))
  act_in false t (row.AddFrame f n) = change_in t f (Add n)
  act_in replaces t (row.Place f n q) = do
    refuse NoNode when not (contains b.nodes (s, n))
    framed ← framed_in t f n (get t (s, f))
    change_in framed f (Place q)
  act_in replaces t (row.AddSignal f signal) = change_in t f (AddSignal signal)

  unfoldable pub run_in : Bool → Table owned Frame → List RowRead → Result (Table owned Frame) RefusedAt
  run_in replaces t [] = Ok t
  run_in replaces t (read ∷ rest) = do
    after ← at_line read.line (read.row >>= act_in replaces t)
    run_in replaces after rest

  -- the change of a frame that is there
  pub change-is : (t : Table owned Frame) (f : Name) (what : FrameChange) (w after : Frame) → get t (s, f) ≡ Some w → frame_after what (Some w) ≡ Becomes after →
      change_in t f what ≡ (admits_frame (rows_at t) (shared_by y.grants t) (Some w) what >> Ok (insert t (s, f) after))
  unfolding change_in settle
  change-is t f what w after there is =
      ap (λ o. admits_frame (rows_at t) (shared_by y.grants t) o what >> Ok (settle t (s, f) (frame_after what o))) there
      ∙ ap (λ fate. admits_frame (rows_at t) (shared_by y.grants t) (Some w) what >> Ok (settle t (s, f) fate)) is

  pub change-none : (t : Table owned Frame) (f : Name) (x : SignalData) → get t (s, f) ≡ None → change_in t f (AddSignal x) ≡ Err NoFrame
  unfolding change_in admits_frame ◌or◌ ◌>>=◌ ◌>>◌
  change-none t f x free = rw free refl

  -- what a placement of a frame meets
  abbrev pub place_test : Table owned Frame → Frame → Placement → Result ⊤ Refusal
  place_test t w q = do
    refuse NotGranted when not (granted (own_grants s y.grants) s w.node q)
    refuse Limit when nat_le MAX_PLACEMENTS (len w.placements)
    cell_taken (first_taken (schedule_of t) (cells_of q))

  pub place-is : (t : Table owned Frame) (w : Frame) (q : Placement) → admits_frame (rows_at t) (shared_by y.grants t) (Some w) (Place q) ≡ place_test t w q
  unfolding admits_frame own_rows shared_by ◌or◌ ◌>>=◌
  place-is t w q = refl

  pub signal-is : (t : Table owned Frame) (w : Frame) (x : SignalData) → admits_frame (rows_at t) (shared_by y.grants t) (Some w) (AddSignal x) ≡ admits_signal (layout_of p w) x
  unfolding admits_frame own_rows ◌or◌ ◌>>=◌
  signal-is t w x = refl

  -- ---- in the book

  -- the book in which the variant has these frames
  abbrev pub at : Table owned Frame → Book
  at t = with_variant b v (having t)

  unfoldable pub lifted : {E : Type 0} → Result (Table owned Frame) E → Result Book E
  lifted (Ok t) = Ok (at t)
  lifted (Err e) = Err e

  pub variant_at : (t : Table owned Frame) → get (at t).variants v ≡ Some (having t)
  variant_at t = get-put b.variants v (having t)

  pub put_at : (t u : Table owned Frame) → with_variant (at t) v (having u) ≡ at u
  put_at t u = ap (λ vs. record b { variants = vs }) (insert-again b.variants v (having t) (having u))

  pub found_at : (t : Table owned Frame) (f : Name) → frame_at (at t) s v f ≡ get t (s, f)
  found_at t f = ap (option_and_then (λ (x : Variant). get x.frames (s, f))) (variant_at t)

  pub own_at : (t : Table owned Frame) (f : Name) → get (own s t) (s, f) ≡ get t (s, f)
  own_at t f = get-passing owned (is_of s) t (s, f) (same_text-itself s)

  lifts_then : {A E : Type 0} (r : Result A E) (t : Table owned Frame) → (r >> Ok (at t)) ≡ lifted (r >> Ok t)
  unfolding ◌>>◌ lifted
  lifts_then (Ok x) t = refl
  lifts_then (Err e) t = refl

  lifts_past : {A E : Type 0} (r : Result A E) (after : Result (Table owned Frame) E) → (r >> lifted after) ≡ lifted (r >> after)
  unfolding ◌>>◌ lifted
  lifts_past (Ok x) after = refl
  lifts_past (Err e) after = refl

  lifts_on : {E : Type 0} (r : Result (Table owned Frame) E) (f : Book → Result Book E) (g : Table owned Frame → Result (Table owned Frame) E) →
      ((t : Table owned Frame) → f (at t) ≡ lifted (g t)) → (lifted r >>= f) ≡ lifted (r >>= g)
  unfolding ◌>>=◌ lifted
  lifts_on (Ok t) f g same = same t
  lifts_on (Err e) f g same = refl

  lifts_line : (line : ℕ) (r : Result (Table owned Frame) Refusal) → at_line line (lifted r) ≡ lifted (at_line line r)
  unfolding at_line lifted
  lifts_line line (Ok t) = refl
  lifts_line line (Err e) = refl

  lifts_read : (r : Result Row Refusal) (f : Row → Result Book Refusal) (g : Row → Result (Table owned Frame) Refusal) →
      ((x : Row) → f x ≡ lifted (g x)) → (r >>= f) ≡ lifted (r >>= g)
  unfolding ◌>>=◌ lifted
  lifts_read (Ok x) f g same = same x
  lifts_read (Err e) f g same = refl

  module _ (open_now : y.released ≡ false) (known : contains b.suppliers s ≡ true) where
    made : (t : Table owned Frame) (f : Name) (what : FrameChange) (r : Result ⊤ Refusal) →
        (r >> Ok (with_variant (at t) v (having (settle t (s, f) (frame_after what (get t (s, f))))))) ≡ lifted (r >> Ok (settle t (s, f) (frame_after what (get t (s, f)))))
    unfolding ◌>>◌ lifted
    made t f what (Ok x) = ap Ok (put_at t _)
    made t f what (Err e) = refl

    pub change-lifts : (t : Table owned Frame) (f : Name) (what : FrameChange) → change_rows p (at t) s v (change.Frame f what) ≡ lifted (change_in t f what)
    unfolding change_rows change_in admits changed grants_after frames_after own_rows
    change-lifts t f what =
        past_or _ _ (having t) _ (variant_at t)
        ∙ past_when _ y.released _ open_now
        ∙ past_unless _ (contains b.suppliers s) _ known
        ∙ ap (λ o. admits_frame (rows_at t) (shared_by y.grants t) o what >> Ok (with_variant (at t) v (having (settle t (s, f) (frame_after what (get t (s, f))))))) (own_at t f)
        ∙ made t f what (admits_frame (rows_at t) (shared_by y.grants t) (get t (s, f)) what)

    framed-lifts : (t : Table owned Frame) (f n : Name) (there : Option Frame) → with_frame p (at t) s v f n there ≡ lifted (framed_in t f n there)
    unfolding with_frame framed_in
    framed-lifts t f n None = change-lifts t f (Add n)
    framed-lifts t f n (Some frame) = lifts_then (refuse NodeDiffers when not (same_text frame.node n)) t

    act_row-lifts : (t : Table owned Frame) (r : Row) → act_row p (at t) s v r ≡ lifted (act_in false t r)
    unfolding act_row act_in
    act_row-lifts t (row.AddFrame f n) = change-lifts t f (Add n)
    act_row-lifts t (row.Place f n q) =
        ap (λ r. (refuse NoNode when not (contains b.nodes (s, n))) >> r) (
        ap (λ r. r >>= (λ d. change_rows p d s v (change.Frame f (Place q)))) (ap (with_frame p (at t) s v f n) (found_at t f) ∙ framed-lifts t f n (get t (s, f)))
        ∙ lifts_on (framed_in t f n (get t (s, f))) _ (λ u. change_in u f (Place q)) (λ u. change-lifts u f (Place q)))
        ∙ lifts_past (refuse NoNode when not (contains b.nodes (s, n))) (framed_in t f n (get t (s, f)) >>= (λ u. change_in u f (Place q)))
    act_row-lifts t (row.AddSignal f signal) = change-lifts t f (AddSignal signal)

    replace_row-lifts : (t : Table owned Frame) (r : Row) → replace_row p (at t) s v r ≡ lifted (act_in true t r)
    unfolding replace_row act_in
    replace_row-lifts t (row.AddFrame f n) =
        ap (λ r. (refuse NoNode when not (contains b.nodes (s, n))) >> r) (ap (with_frame p (at t) s v f n) (found_at t f) ∙ framed-lifts t f n (get t (s, f)))
        ∙ lifts_past (refuse NoNode when not (contains b.nodes (s, n))) (framed_in t f n (get t (s, f)))
    replace_row-lifts t (row.Place f n q) = act_row-lifts t (row.Place f n q)
    replace_row-lifts t (row.AddSignal f signal) = act_row-lifts t (row.AddSignal f signal)

    pub replace_rows-lift : (reads : List RowRead) (t : Table owned Frame) → replace_rows p (at t) s v reads ≡ lifted (run_in true t reads)
    unfolding replace_rows run_in lifted
    replace_rows-lift [] t = refl
    replace_rows-lift (read ∷ rest) t =
        ap (λ r. r >>= (λ d. replace_rows p d s v rest)) (ap (at_line read.line) (lifts_read read.row _ (act_in true t) (replace_row-lifts t)) ∙ lifts_line read.line (read.row >>= act_in true t))
        ∙ lifts_on (at_line read.line (read.row >>= act_in true t)) _ (λ u. run_in true u rest) (λ u. replace_rows-lift rest u)

    pub act_rows-lift : (reads : List RowRead) (t : Table owned Frame) → act_rows p (at t) s v reads ≡ lifted (run_in false t reads)
    unfolding act_rows run_in lifted
    act_rows-lift [] t = refl
    act_rows-lift (read ∷ rest) t =
        ap (λ r. r >>= (λ d. act_rows p d s v rest)) (ap (at_line read.line) (lifts_read read.row _ (act_in false t) (act_row-lifts t)) ∙ lifts_line read.line (read.row >>= act_in false t))
        ∙ lifts_on (at_line read.line (read.row >>= act_in false t)) _ (λ u. run_in false u rest) (λ u. act_rows-lift rest u)
