-- Frames of which no two placements share a cell, and what keeps them so: a frame put in, changed or gone.
use Rattle.std.proofs.Common.{◌≡◌, ◌≢◌, [], Some, None, IsTrue, sym, subst, ◌∙◌, inl, inr}
use Rattle.fr_base.specs.Tables.{Table, empty, get, contains, insert, remove}
use Rattle.fr_base.specs.Keys.{owned}
use Rattle.fr_base.specs.Cells.{Cell, cells_of, has_cell}
use Rattle.fr_base.specs.Schedule.{first_taken}
use Rattle.fr_base.specs.Book.{Frame, schedule_of}
use Rattle.fr_base.specs.declared.name.Name.{Name}
use Rattle.fr_base.specs.declared.placement.Placement.{Placement}
use Rattle.fr_base.proofs.SoundTables.{insert-cases, contains-cases, remove-stood}
use Rattle.fr_base.proofs.SoundCells.{free_cells}

-- no cell lies in two placements of the frames
abbrev pub NoneShared : Table owned Frame → Type 0
NoneShared frames = (k l : Name × Name) (f g : Frame) (q r : Placement) (c : Cell) →
    get frames k ≡ Some f → get frames l ≡ Some g →
    IsTrue (contains f.placements q) → IsTrue (contains g.placements r) →
    IsTrue (has_cell q c) → IsTrue (has_cell r c) → (k ≡ l) × (q ≡ r)

-- no placement of the frame shares a cell with another of the frame, or with one of another frame
pub record IsApart (frames : Table owned Frame) (k : Name × Name) (g : Frame) : Type 0 where
  pub own : (q r : Placement) (c : Cell) → IsTrue (contains g.placements q) → IsTrue (contains g.placements r) → IsTrue (has_cell q c) → IsTrue (has_cell r c) → q ≡ r
  pub others : (l : Name × Name) (f : Frame) (q r : Placement) (c : Cell) → l ≢ k → get frames l ≡ Some f → IsTrue (contains g.placements q) → IsTrue (contains f.placements r) → IsTrue (has_cell q c) → IsTrue (has_cell r c) → ⊥

-- a frame without placements
pub new_frame-apart : (frames : Table owned Frame) (k : Name × Name) (n : Name) → IsApart frames k (record { node = n; placements = empty; signals = [] })
unfolding empty get
new_frame-apart frames k n = record { own = λ q r d h. cc; others = λ l g q r d e at h. cc }

module _ (frames : Table owned Frame) (none : NoneShared frames) (k : Name × Name) where
  pub insert-none_shared : (g : Frame) → IsApart frames k g → NoneShared (insert frames k g)
  insert-none_shared g apart i j f h q r c at_i at_j in_f in_h has_q has_r = elim (insert-cases frames k g i f at_i) [
    | inl ni ↦ let in_g = subst (λ (x : Frame). IsTrue (contains x.placements q)) (sym ni.1) in_f in
        elim (insert-cases frames k g j h at_j) [
          | inl nj ↦ (ni.0 ∙ sym nj.0, apart.own q r c in_g (subst (λ (x : Frame). IsTrue (contains x.placements r)) (sym nj.1) in_h) has_q has_r)
          | inr oj ↦ absurd (apart.others j h q r c oj.0 oj.1 in_g in_h has_q has_r)
        ]
    | inr oi ↦ elim (insert-cases frames k g j h at_j) [
      | inl nj ↦ absurd (apart.others i f r q c oi.0 oi.1 (subst (λ (x : Frame). IsTrue (contains x.placements r)) (sym nj.1) in_h) in_f has_r has_q)
      | inr oj ↦ none i j f h q r c oi.1 oj.1 in_f in_h has_q has_r
    ]
  ]

  pub remove-none_shared : NoneShared (remove frames k)
  remove-none_shared i j f h q r c at_i at_j = none i j f h q r c (remove-stood owned frames k i f at_i) (remove-stood owned frames k j h at_j)

  module _ (f : Frame) (found : get frames k ≡ Some f) where
    -- a frame in its place, with no placement that it had not
    pub lesser-apart : (g : Frame) → ((q : Placement) → IsTrue (contains g.placements q) → IsTrue (contains f.placements q)) → IsApart frames k g
    lesser-apart g had = record {
      own = λ q r c in_q in_r has_q has_r. (none k k f f q r c found found (had q in_q) (had r in_r) has_q has_r).1;
      others = λ l h q r c other at in_q in_r has_q has_r. other (sym (none k l f h q r c found at (had q in_q) in_r has_q has_r).0);
    }

    -- the frame with a placement more, in cells of which none is filled
    pub placed-apart : (q : Placement) → first_taken (schedule_of frames) (cells_of q) ≡ None → IsApart frames k (record f { placements = insert f.placements q tt })
    placed-apart q free =
        let clash : (l : Name × Name) (g : Frame) (r s : Placement) (c : Cell) → r ≡ q → get frames l ≡ Some g → IsTrue (contains g.placements s) → IsTrue (has_cell r c) → IsTrue (has_cell s c) → ⊥ =
        λ l g r s c e at in_g has_r has_s. free_cells frames q free l g s c at in_g (subst (λ x. IsTrue (has_cell x c)) e has_r) has_s in
        record {
          own = λ r s c in_r in_s has_r has_s. elim (contains-cases f.placements q tt r in_r) [
            | inl r_new ↦ elim (contains-cases f.placements q tt s in_s) [
              | inl s_new ↦ r_new ∙ sym s_new
              | inr s_old ↦ absurd (clash k f r s c r_new found s_old has_r has_s)
            ]
            | inr r_old ↦ elim (contains-cases f.placements q tt s in_s) [
              | inl s_new ↦ absurd (clash k f s r c s_new found r_old has_s has_r)
              | inr s_old ↦ (none k k f f r s c found found r_old s_old has_r has_s).1
            ]
          ];
          others = λ l g r s c other at in_r in_s has_r has_s. elim (contains-cases f.placements q tt r in_r) [
            | inl r_new ↦ clash l g r s c r_new at in_s has_r has_s
            | inr r_old ↦ other (sym (none k l f g r s c found at r_old in_s has_r has_s).0)
          ];
        }
