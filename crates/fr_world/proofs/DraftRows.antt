-- A draft after rows.
use Rattle.std.proofs.Common.{◌≡◌, true, false, List, ◌∷◌, Option, Some, None, Result, Ok, Err, IfOk, IfErr, refl, subst, ◌∙◌, ◌⊎◌, inl, inr}
use Rattle.fr_base.specs.Refusing.{◌>>=◌, ◌>>◌, refuse◌when◌}
use Rattle.fr_base.specs.Tables.{get, contains}
use Rattle.fr_base.specs.Names.{same_text}
use Rattle.fr_base.specs.Book.{Frame}
use Rattle.fr_base.specs.Step as step
use Rattle.fr_base.specs.Step.{at_line}
use Rattle.fr_base.specs.declared.import.Row.{Row}
use Rattle.fr_base.specs.declared.import.Row.TheVariants as row
use Rattle.fr_base.specs.declared.import.RowRead.{RowRead}
use Rattle.fr_base.specs.declared.name.Name.{Name}
use Rattle.fr_base.specs.declared.placement.Placement.{Placement}
use Rattle.fr_base.specs.declared.refusal.Refusal.{Refusal}
use Rattle.fr_base.specs.declared.refusal.Refusal.TheVariants.{NoNode, NodeDiffers, Unavailable}
use Rattle.fr_base.specs.declared.request.Change.{Change}
use Rattle.fr_base.specs.declared.request.Change.TheVariants as change
use Rattle.fr_base.specs.declared.request.FrameChange.TheVariants.{Add, Place, AddSignal}
use Rattle.fr_base.proofs.SoundRefusing.{gives_bind, gives_bind_last, gives_each, gives_then, gives_unless}
use Rattle.fr_base.proofs.SoundImports.{at_line-gives}
use Rattle.fr_world.specs.Decisions.{admits_alone}
use Rattle.fr_world.specs.RowDecisions.{DraftData, make, make_frame, make_read, make_row, make_rows, with_frame}
use Rattle.fr_world.specs.RowFaults.{IsFault}
use Rattle.fr_world.specs.declared.decision.import_rows.RowFault.{RowFault}
use Rattle.fr_world.specs.declared.decision.import_rows.RowFault.TheVariants as fault

-- want of memory, or this refusal
abbrev pub Refused : Result DraftData Refusal → Refusal → Type 0
Refused r e = (e ≡ Unavailable) ⊎ (r ≡ Err e)

pub if_err : {A : Type 0} (P Q : Refusal → Type 0) (r : Result A Refusal) → ((e : Refusal) → P e → Q e) → IfErr r P → IfErr r Q
if_err P Q (Ok x) f h = tt
if_err P Q (Err e) f h = f e h

pub refused-so : (r s : Result DraftData Refusal) → ((e : Refusal) → r ≡ Err e → s ≡ Err e) → (e : Refusal) → Refused r e → Refused s e
refused-so r s so e (inl lacked) = inl lacked
refused-so r s so e (inr is) = inr (so e is)

module _ (d : DraftData) (f n : Name) where
  abbrev there : Option Frame
  there = get d.page.frames (d.page.supplier, f)

  pub frame-no_node : contains d.page.nodes (d.page.supplier, n) ≡ false → make_frame d f n ≡ Err NoNode
  unfolding make_frame refuse◌when◌ ◌>>◌
  frame-no_node none = rw none refl

  module _ (has : contains d.page.nodes (d.page.supplier, n) ≡ true) where
    pub frame-same : (frame : Frame) → there ≡ Some frame → same_text frame.node n ≡ true → make_frame d f n ≡ Ok d
    unfolding make_frame with_frame refuse◌when◌ ◌>>◌
    frame-same frame found same = rw (has, found, same) refl

    pub frame-differs : (frame : Frame) → there ≡ Some frame → same_text frame.node n ≡ false → make_frame d f n ≡ Err NodeDiffers
    unfolding make_frame with_frame refuse◌when◌ ◌>>◌
    frame-differs frame found other = rw (has, found, other) refl

    pub frame-added : there ≡ None → make_frame d f n ≡ make d (change.Frame f (Add n))
    unfolding make_frame with_frame refuse◌when◌ ◌>>◌
    frame-added none = rw (has, none) refl

  -- ---- a row

  pub place-row : (q : Placement) (m : DraftData) → make_frame d f n ≡ Ok m → make_row d (row.Place f n q) ≡ make m (change.Frame f (Place q))
  unfolding make_row ◌>>=◌
  place-row q m framed = rw framed refl

  pub place-refused : (q : Placement) (e : Refusal) → make_frame d f n ≡ Err e → make_row d (row.Place f n q) ≡ Err e
  unfolding make_row ◌>>=◌
  place-refused q e refused = rw refused refl

-- ---- the parameters stay

abbrev pub Keeps : DraftData → DraftData → Type 0
Keeps d e = e.page.params ≡ d.page.params

make-keeps : (d : DraftData) (what : Change) → IfOk (make d what) (Keeps d)
unfolding make
make-keeps d what = gives_then _ (admits_alone d.page what) _ (λ _ _. refl)

with-keeps : (d : DraftData) (f n : Name) (there : Option Frame) → IfOk (with_frame d f n there) (Keeps d)
unfolding with_frame
with-keeps d f n None = make-keeps d (change.Frame f (Add n))
with-keeps d f n (Some frame) = gives_unless _ _ (same_text frame.node n) _ (λ _. refl)

pub frame-keeps : (d : DraftData) (f n : Name) → IfOk (make_frame d f n) (Keeps d)
unfolding make_frame
frame-keeps d f n = gives_unless _ _ _ _ (λ _. with-keeps d f n (get d.page.frames (d.page.supplier, f)))

pub row-keeps : (d : DraftData) (r : Row) → IfOk (make_row d r) (Keeps d)
unfolding make_row
row-keeps d (row.AddFrame f n) = make-keeps d (change.Frame f (Add n))
row-keeps d (row.Place f n q) =
    gives_bind _ (Keeps d) (make_frame d f n) _ (frame-keeps d f n) (λ m mid.
    gives_bind_last _ (Keeps m) _ (make-keeps m (change.Frame f (Place q))) (λ e last. last ∙ mid))
row-keeps d (row.AddSignal f signal) = make-keeps d (change.Frame f (AddSignal signal))

read-keeps : (d : DraftData) (read : RowRead) → IfOk (make_read d read) (Keeps d)
unfolding make_read
read-keeps d read = at_line-gives (Keeps d) read.line _ (gives_each _ read.row _ (λ r _. row-keeps d r))

pub frame-params : (d e : DraftData) (f n : Name) → make_frame d f n ≡ Ok e → e.page.params ≡ d.page.params
frame-params d e f n is = subst (λ r. IfOk r (Keeps d)) is (frame-keeps d f n)

pub read-params : (d e : DraftData) (read : RowRead) → make_read d read ≡ Ok e → e.page.params ≡ d.page.params
read-params d e read is = subst (λ r. IfOk r (Keeps d)) is (read-keeps d read)

-- ---- a row as it was read

module _ (d : DraftData) (read : RowRead) where
  pub read-refused : (e : Refusal) → read.row ≡ Err e → make_read d read ≡ Err (record { line = read.line; refusal = e })
  unfolding make_read at_line ◌>>=◌
  read-refused e is = rw is refl

  pub read-made : (r : Row) (e : DraftData) → read.row ≡ Ok r → make_row d r ≡ Ok e → make_read d read ≡ Ok e
  unfolding make_read at_line ◌>>=◌
  read-made r e is made = rw (is, made) refl

  pub row-refused : (r : Row) (e : Refusal) → read.row ≡ Ok r → make_row d r ≡ Err e → make_read d read ≡ Err (record { line = read.line; refusal = e })
  unfolding make_read at_line ◌>>=◌
  row-refused r e is refused = rw (is, refused) refl

-- ---- rows

pub fault-on : {A B : Type 0} (r : Result A step.RefusedAt) (f : A → Result B step.RefusedAt) (e : RowFault) → IsFault r e → IsFault (r >>= f) e
unfolding ◌>>=◌
fault-on r f (fault.Row line refusal) is = rw is refl
fault-on r f fault.Unavailable is = tt

pub rows-fault : (d : DraftData) (read : RowRead) (rest : List RowRead) (e : RowFault) → IsFault (make_read d read) e → IsFault (make_rows d (read ∷ rest)) e
unfolding make_rows
rows-fault d read rest e is = fault-on (make_read d read) _ e is

pub rows-next : (d m : DraftData) (read : RowRead) (rest : List RowRead) → make_read d read ≡ Ok m → make_rows d (read ∷ rest) ≡ make_rows m rest
unfolding make_rows ◌>>=◌
rows-next d m read rest made = rw made refl
