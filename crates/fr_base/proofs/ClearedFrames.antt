-- What the supplier's frames have after all of them were cleared.
use Rattle.std.proofs.Common.{◌≡◌, Bool, true, false, ◌||◌, cond, List, [], ◌∷◌, map, Option, Some, None, Result, Ok, Err, refl, sym, ap, ◌∙◌, inl, inr, true≢false}
use Rattle.std.specs.List.{list_any}
use Rattle.std.specs.Ordering.{eq_by_cmp}
use Rattle.std.specs.FinMap.Entries.{find}
use Rattle.std.proofs.lemmas.Bool.{cases_Bool}
use Rattle.fr_base.specs.Tables.{Table, Becomes, Gone, left_by, get, settle}
use Rattle.fr_base.specs.Keys.{owned}
use Rattle.fr_base.specs.Names.{same_text}
use Rattle.fr_base.specs.Book.{Frame, is_of, own}
use Rattle.fr_base.specs.ReplacingLaws.{begins_as, begins_at}
use Rattle.fr_base.specs.Step.{kind_of_row, frame_of_row, freed, free_row, free_rows, names_with, cleared, clear_frames, frame_names, clear_all}
use Rattle.fr_base.specs.declared.import.Header.{Header}
use Rattle.fr_base.specs.declared.import.Header.TheVariants.{Frames, Placements, Signals}
use Rattle.fr_base.specs.declared.import.Row.{Row}
use Rattle.fr_base.specs.declared.import.RowRead.{RowRead}
use Rattle.fr_base.specs.declared.name.Name.{Name}
use Rattle.fr_base.specs.declared.refusal.Refusal.{Refusal}
use Rattle.fr_base.proofs.TableLaws.{equal}
use Rattle.fr_base.proofs.SoundTables.{get-passing}
use Rattle.fr_base.proofs.SoundRows.{same_text-is}
use Rattle.fr_base.proofs.AloneCells.{same_text-itself}
use Rattle.fr_base.proofs.SettledRows.{settle-other, settle-here, other_frame, not_mine}

-- ---- one frame

module _ (reads : List RowRead) where
  -- a frame that was cleared is so
  cleared-again : (kind : Header) (f : Name) (o : Option Frame) → left_by (cleared kind reads f (left_by (cleared kind reads f o))) ≡ left_by (cleared kind reads f o)
  unfolding cleared freed
  cleared-again Frames f None = refl
  cleared-again Frames f (Some w) = by (list_any (λ read. names_with f w.node read.row) reads) refl
    where
      by : (b : Bool) → list_any (λ read. names_with f w.node read.row) reads ≡ b → left_by (cleared Frames reads f (left_by (cond b (Becomes w) Gone))) ≡ left_by (cond b (Becomes w) Gone)
      by true h = ap (λ t. left_by (cond t (Becomes w) Gone)) h
      by false h = refl
  cleared-again Placements f None = refl
  cleared-again Placements f (Some w) = refl
  cleared-again Signals f None = refl
  cleared-again Signals f (Some w) = refl

  pub cleared-none : (kind : Header) (f : Name) → left_by (cleared kind reads f None) ≡ None
  unfolding cleared freed
  cleared-none Frames f = refl
  cleared-none Placements f = refl
  cleared-none Signals f = refl

-- ---- all frames

module _ (s : Name) (kind : Header) (reads : List RowRead) where
  abbrev left : Name → Option Frame → Option Frame
  left f o = left_by (cleared kind reads f o)

  -- the frame's name is among these
  abbrev is_in : Name → List Name → Bool
  is_in f names = list_any (λ g. same_text g f) names

  abbrev cleared_one : Name → Table owned Frame → Table owned Frame
  cleared_one f t = settle t (s, f) (cleared kind reads f (get t (s, f)))

  clear-out : (f : Name) (names : List Name) (t : Table owned Frame) → is_in f names ≡ false → get (clear_frames s kind reads names t) (s, f) ≡ get t (s, f)
  unfolding clear_frames
  clear-out f [] t h = refl
  clear-out f (g ∷ rest) t h = elim (cases_Bool (same_text g f)) [
    | inl same ↦ let no = rw same at h in cc
    | inr other ↦ clear-out f rest (cleared_one g t) (rw other at h) ∙ settle-other t (s, g) (s, f) _ (other_frame s g f other)
  ]

  clear-in : (f : Name) (names : List Name) (t : Table owned Frame) → is_in f names ≡ true → get (clear_frames s kind reads names t) (s, f) ≡ left f (get t (s, f))
  unfolding clear_frames
  clear-in f [] t h = cc
  clear-in f (g ∷ rest) t h = elim (cases_Bool (same_text g f)) [
    | inl same ↦
        let here : get (cleared_one g t) (s, f) ≡ left f (get t (s, f)) = ap (λ n. get (cleared_one n t) (s, f)) (same_text-is g f same) ∙ settle-here t (s, f) _ in
        elim (cases_Bool (is_in f rest)) [
          | inl later ↦ clear-in f rest (cleared_one g t) later ∙ ap (left f) here ∙ cleared-again reads kind f (get t (s, f))
          | inr last ↦ clear-out f rest (cleared_one g t) last ∙ here
        ]
    | inr other ↦ clear-in f rest (cleared_one g t) (rw other at h) ∙ ap (left f) (settle-other t (s, g) (s, f) _ (other_frame s g f other))
  ]

  -- a frame that is there is among the names
  listed : (f : Name) (w : Frame) (rows : List ((Name × Name) × Frame)) → find owned.compare (s, f) rows ≡ Some w → is_in f (map (λ row. row.0.1) rows) ≡ true
  listed f w [] h = cc
  listed f w (e ∷ rows) h = elim (cases_Bool (eq_by_cmp owned.compare (s, f) e.0)) [
    | inl tie ↦
        let same : ◌≡◌ {A = Name × Name} (s, f) e.0 = owned.exact (s, f) e.0 (equal _ tie) in
        ap (λ t. t || is_in f (map (λ row. row.0.1) rows)) (ap (λ (k : Name × Name). same_text k.1 f) (sym same) ∙ same_text-itself f)
    | inr other ↦ or_last (same_text e.0.1 f) _ (listed f w rows (rw other at h))
  ]
    where
      or_last : (a c : Bool) → c ≡ true → (a || c) ≡ true
      or_last true c h = refl
      or_last false c h = h

  -- and so each frame is cleared
  listed_there : (f : Name) (w : Frame) (t : Table owned Frame) → get t (s, f) ≡ Some w → is_in f (frame_names s t) ≡ true
  unfolding get
  listed_there f w t there = listed f w (own s t).rows (get-passing owned (is_of s) t (s, f) (same_text-itself s) ∙ there)

  get-cleared : (f : Name) (t : Table owned Frame) → get (clear_frames s kind reads (frame_names s t) t) (s, f) ≡ left f (get t (s, f))
  get-cleared f t = elim (cases_Bool (is_in f (frame_names s t))) [
    | inl within ↦ clear-in f (frame_names s t) t within
    | inr out ↦ clear-out f (frame_names s t) t out ∙ gone out (get t (s, f)) refl
  ]
    where
      gone : is_in f (frame_names s t) ≡ false → (o : Option Frame) → get t (s, f) ≡ o → o ≡ left f o
      gone out None there = sym (cleared-none reads kind f)
      gone out (Some w) there = absurd (true≢false (sym (listed_there f w t there) ∙ out))

  clear-others : (names : List Name) (t : Table owned Frame) (k : Name × Name) → is_of s k ≡ false → get (clear_frames s kind reads names t) k ≡ get t k
  unfolding clear_frames
  clear-others [] t k other = refl
  clear-others (f ∷ rest) t k other = clear-others rest (cleared_one f t) k other ∙ settle-other t (s, f) k _ (not_mine s f k other)

module _ (s : Name) where
  -- what the supplier's frames begin with
  pub begins-mine : (whole : Option Header) (reads : List RowRead) (t : Table owned Frame) (f : Name) → get (clear_all s whole reads t) (s, f) ≡ begins_as whole reads f (get t (s, f))
  unfolding clear_all
  begins-mine None reads t f = refl
  begins-mine (Some kind) reads t f = get-cleared s kind reads f t

  -- those of others stay
  pub begins-others : (whole : Option Header) (reads : List RowRead) (t : Table owned Frame) (k : Name × Name) → is_of s k ≡ false → get (clear_all s whole reads t) k ≡ get t k
  unfolding clear_all
  begins-others None reads t k other = refl
  begins-others (Some kind) reads t k other = clear-others s kind reads (frame_names s t) t k other

  pub begins : (whole : Option Header) (reads : List RowRead) (t : Table owned Frame) (k : Name × Name) → get (clear_all s whole reads t) k ≡ begins_at s whole reads k (get t k)
  unfolding clear_all
  begins None reads t k = refl
  begins (Some kind) reads t k = elim (cases_Bool (is_of s k)) [
    | inl mine ↦
        let key : k ≡ (s, k.1) = λ i. (same_text-is k.0 s mine i, k.1) in
        ap (get (clear_all s (Some kind) reads t)) key ∙ begins-mine (Some kind) reads t k.1 ∙ ap (λ j. left_by (cleared kind reads k.1 (get t j))) (sym key) ∙ ap (λ b. cond b (left_by (cleared kind reads k.1 (get t k))) (get t k)) (sym mine)
    | inr other ↦ begins-others (Some kind) reads t k other ∙ ap (λ b. cond b (left_by (cleared kind reads k.1 (get t k))) (get t k)) (sym other)
  ]

-- ---- frames of other suppliers

module _ (s : Name) where
  -- they stay
  unfoldable pub StayOthers : Table owned Frame → Table owned Frame → Type 0
  StayOthers t u = (k : Name × Name) → is_of s k ≡ false → get u k ≡ get t k

  pub free-others : (reads : List RowRead) (t : Table owned Frame) → StayOthers t (free_rows s reads t)
  unfolding StayOthers free_rows free_row
  free-others [] t k other = refl
  free-others (read ∷ rest) t k other = free-others rest (free_row s read.row t) k other ∙ one read.row
    where
      one : (r : Result Row Refusal) → get (free_row s r t) k ≡ get t k
      one (Ok r) = settle-other t (s, frame_of_row r) k (freed (kind_of_row r) (get t (s, frame_of_row r))) (not_mine s (frame_of_row r) k other)
      one (Err e) = refl
