-- Frames that the rows of an import add, in the order of their names: each is accepted, and in the end they are all there.
use Rattle.std.proofs.Common.{◌≡◌, ℕ, suc, ◌+◌, ◌≤◌, true, false, nat_le, List, [], ◌∷◌, ◌++◌, map, flat_map, length, Some, None, is_some, Result, Ok, refl, sym, ap, subst, ◌∙◌, arith, append_assoc, length-append}
use Rattle.std.specs.Prelude.{T}
use Rattle.std.specs.List.{AllByRecursion}
use Rattle.std.specs.FinMap.Entries.{find, is_sorted}
use Rattle.std.proofs.lemmas.Bool.Decides.{nat_tests}
use Rattle.fr_base.specs.Refusing.{◌>>=◌, ◌>>◌, refuse◌when◌}
use Rattle.fr_base.specs.Tables.{Table, Becomes, empty, get, contains, len, insert, settle}
use Rattle.fr_base.specs.Keys.{owned}
use Rattle.fr_base.specs.Book.{Frame, Variant, Book, is_of, own}
use Rattle.fr_base.specs.Step.{RefusedAt, own_rows, admits_frame, frame_after, at_line}
use Rattle.fr_base.specs.Sound.{IsSoundVariant}
use Rattle.fr_base.specs.declared.import.Row.{Row}
use Rattle.fr_base.specs.declared.import.Row.TheVariants as row
use Rattle.fr_base.specs.declared.import.RowRead.{RowRead}
use Rattle.fr_base.specs.declared.limits.TheConstants.{MAX_FRAMES}
use Rattle.fr_base.specs.declared.name.Name.{Name}
use Rattle.fr_base.specs.declared.params.Params.{Params}
use Rattle.fr_base.specs.declared.request.FrameChange.TheVariants.{Add}
use Rattle.fr_base.proofs.SoundTables.{get-passing, only-insert}
use Rattle.fr_base.proofs.AloneCells.{same_text-itself}
use Rattle.fr_base.proofs.SettledRows.{settle-other}
use Rattle.fr_base.proofs.FrameRuns.{change_in, act_in, run_in, own_at}
use Rattle.fr_base.proofs.BroughtLemmas.{node_of}
use Rattle.fr_base.proofs.SettledRows.{not_mine}
use Rattle.fr_base.proofs.TableFronts.{put-last, not_yet}
use Rattle.fr_base.proofs.Filling.{has_node}
use Rattle.fr_base.proofs.ExportRows.{Entry}

-- a frame as it is added
abbrev pub new_frame : Name → Frame
new_frame n = record { node = n; placements = empty; signals = [] }

module _ (s : Name) where
  -- the frame that a row adds
  abbrev pub new_of : Row → List Entry
  new_of (row.AddFrame f n) = ((s, f), new_frame n) ∷ []
  new_of (row.Place f n q) = []
  new_of (row.AddSignal f x) = []

  abbrev pub news : List Row → List Entry
  news rows = flat_map new_of rows

  -- with the frames of these rows the supplier's frames are those
  pub record Adding (base : Table owned Frame) (goal : List Entry) (rows : List Row) (t : Table owned Frame) : Type 0 where
    pub others : (k : Name × Name) → is_of s k ≡ false → get t k ≡ get base k
    pub mine : (own s t).rows ++ news rows ≡ goal

  -- a row that adds a frame of the full table, of its node
  abbrev pub IsAdding : Table owned Frame → Row → Type 0
  IsAdding full (row.AddFrame f n) = node_of (get full (s, f)) ≡ Some n
  IsAdding full (row.Place f n q) = ⊥
  IsAdding full (row.AddSignal f x) = ⊥

module _ (s : Name) (base full : Table owned Frame) (goal : List Entry) (sorted : T (is_sorted owned.compare goal)) (few : length goal ≤ MAX_FRAMES)
    (p : Params) (b : Book) (v : Name) (y : Variant) (sound : IsSoundVariant p b.nodes (record y { frames = full })) where
  room_left : (m n l : ℕ) → m + suc n ≡ l → l ≤ 256 → nat_le 256 m ≡ false
  room_left m n l e h = grind (arith, nat_tests)

  add-passes : (t : Table owned Frame) (f n : Name) (more : List Entry) → node_of (get full (s, f)) ≡ Some n → (own s t).rows ++ ((s, f), new_frame n) ∷ more ≡ goal →
      change_in p b s v y t f (Add n) ≡ Ok (insert t (s, f) (new_frame n))
  unfolding change_in admits_frame frame_after settle own_rows len get ◌>>◌ refuse◌when◌
  add-passes t f n more of rows =
      let fresh : find owned.compare (s, f) (own s t).rows ≡ None = not_yet owned (s, f) (new_frame n) (own s t).rows more (subst (λ es. T (is_sorted owned.compare es)) (sym rows) sorted) in
      let free : get t (s, f) ≡ None = sym (own_at p b s v y t f) ∙ fresh in
      let has : contains (own s b.nodes) (s, n) ≡ true = ap is_some (get-passing owned (is_of s) b.nodes (s, n) (same_text-itself s)) ∙ has_node s full p b v y sound f n of in
      let room : nat_le MAX_FRAMES (len (own s t)) ≡ false = room_left (length (own s t).rows) (length more) (length goal) (sym (length-append (own s t).rows (((s, f), new_frame n) ∷ more)) ∙ ap length rows) few in
      rw (free, has, room) refl

  added : (t : Table owned Frame) (f n : Name) (rest : List Row) → Adding s base goal (row.AddFrame f n ∷ rest) t → Adding s base goal rest (insert t (s, f) (new_frame n))
  unfolding insert settle
  added t f n rest adding = record {
    others = λ k other. settle-other t (s, f) k (Becomes (new_frame n)) (not_mine s f k other) ∙ adding.others k other;
    mine =
        ap (λ (u : Table owned Frame). u.rows ++ news s rest) (only-insert owned (is_of s) t (s, f) (new_frame n) (same_text-itself s))
        ∙ ap (λ es. es ++ news s rest) (put-last owned (s, f) (new_frame n) (own s t).rows (news s rest) (subst (λ es. T (is_sorted owned.compare es)) (sym adding.mine) sorted))
        ∙ append_assoc (own s t).rows (((s, f), new_frame n) ∷ []) (news s rest)
        ∙ adding.mine;
  }

  abbrev Adds : List Row → Result (Table owned Frame) RefusedAt → Type 0
  Adds more r = (u : Table owned Frame) × (r ≡ Ok u) × Adding s base goal more u

  pub rows-add : (reads : List RowRead) (rows more : List Row) → map (λ read. read.row) reads ≡ map Ok rows → AllByRecursion (IsAdding s full) rows → (t : Table owned Frame) → Adding s base goal (rows ++ more) t →
      Adds more (run_in p b s v y false t reads)
  unfolding run_in act_in at_line ◌>>=◌
  rows-add [] [] more are all t adding = (t, refl, adding)
  rows-add [] (r ∷ rows) more are all t adding = cc
  rows-add (read ∷ reads) [] more are all t adding = cc
  rows-add (read ∷ reads) (row.Place f n q ∷ rows) more are all t adding = absurd all.0
  rows-add (read ∷ reads) (row.AddSignal f x ∷ rows) more are all t adding = absurd all.0
  rows-add (read ∷ reads) (row.AddFrame f n ∷ rows) more are all t adding =
      let here : read.row ≡ Ok (row.AddFrame f n) = cc in
      let rest : map (λ read. read.row) reads ≡ map Ok rows = cc in
      let later = rows-add reads rows more rest all.1 (insert t (s, f) (new_frame n)) (added t f n (rows ++ more) adding) in (
        later.0,
        ap (λ r. at_line read.line (r >>= act_in p b s v y false t) >>= (λ u. run_in p b s v y false u reads)) here
            ∙ ap (λ o. at_line read.line o >>= (λ u. run_in p b s v y false u reads)) (add-passes t f n (news s (rows ++ more)) all.0 adding.mine)
            ∙ later.1,
        later.2,
      )
