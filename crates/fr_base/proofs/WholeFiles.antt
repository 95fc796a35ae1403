-- The rows of a file are all of the kind that its header tells, and so bring nothing of another kind.
use Rattle.std.proofs.Common.{◌≡◌, ℕ, suc, Bool, true, false, ◌||◌, cond, List, [], ◌∷◌, ◌++◌, flat_map, Option, Some, None, Result, Ok, Err, is_err, IfOk, refl, sym, ap, ◌∙◌, inl, inr}
use Rattle.std.specs.List.{AllByRecursion, list_any}
use Rattle.std.proofs.lemmas.Bool.{cases_Bool}
use Rattle.fr_base.specs.Refusing.{◌>>=◌}
use Rattle.fr_base.specs.Checks.{name, placement, signal}
use Rattle.fr_base.specs.Names.{same_text}
use Rattle.fr_base.specs.Signals.{SignalData}
use Rattle.fr_base.specs.Brought.{if_named, node_for, placement_for, signal_for, nodes_for, placements_for, signals_for}
use Rattle.fr_base.specs.ImportRows.{header_of, header_in, header_of_body, text_at, number_at, frame_row, placement_row, signal_row, frame_in, placement_in, signal_in, row_of, row_at, rows_from, rows_below, rows_of_records, records_of, up_to_refused, rows_of_body}
use Rattle.fr_base.specs.ReplacingLaws.{names_frame, is_named}
use Rattle.fr_base.specs.Step.{kind_of_row}
use Rattle.fr_base.specs.declared.import.Header.{Header}
use Rattle.fr_base.specs.declared.import.Header.TheVariants.{Frames, Placements, Signals}
use Rattle.fr_base.specs.declared.import.Row.{Row}
use Rattle.fr_base.specs.declared.import.Row.TheVariants as row
use Rattle.fr_base.specs.declared.import.RowRead.{RowRead}
use Rattle.fr_base.specs.declared.name.Name.{Name}
use Rattle.fr_base.specs.declared.params.Params.{Params}
use Rattle.fr_base.specs.declared.placement.Placement.{Placement}
use Rattle.fr_base.specs.declared.refusal.Refusal.{Refusal}
use Rattle.fr_base.proofs.SoundRefusing.{gives_each, gives_unless, gives_when}

-- ---- the kind of each row

-- a row that was read is of this kind, unless its own text refuses it
abbrev pub IsOfKind : Header → RowRead → Type 0
IsOfKind kind read = IfOk read.row (λ r. kind_of_row r ≡ kind)

module _ (p : Params) where
  row_of-kind : (kind : Header) (fields : List (List ℕ)) → IfOk (row_of p kind fields) (λ r. kind_of_row r ≡ kind)
  unfolding row_of frame_in placement_in signal_in frame_row placement_row signal_row
  row_of-kind Frames fields =
      gives_unless _ _ _ _ (λ _.
      gives_each _ (text_at fields 0) _ (λ frame _.
      gives_each _ (text_at fields 1) _ (λ node _.
      gives_each _ (name frame) _ (λ f _.
      gives_each _ (name node) _ (λ n _. refl)))))
  row_of-kind Placements fields =
      gives_unless _ _ _ _ (λ _.
      gives_each _ (text_at fields 0) _ (λ frame _.
      gives_each _ (text_at fields 1) _ (λ node _.
      gives_each _ (number_at fields 2) _ (λ slot _.
      gives_each _ (text_at fields 3) _ (λ channels _.
      gives_each _ (number_at fields 4) _ (λ base _.
      gives_each _ (number_at fields 5) _ (λ repetition _.
      gives_each _ (name frame) _ (λ f _.
      gives_each _ (name node) _ (λ n _.
      gives_each _ (placement p slot channels base repetition) _ (λ q _. refl))))))))))
  row_of-kind Signals fields =
      gives_unless _ _ _ _ (λ _.
      gives_each _ (text_at fields 0) _ (λ frame _.
      gives_each _ (text_at fields 1) _ (λ named _.
      gives_each _ (number_at fields 2) _ (λ start _.
      gives_each _ (number_at fields 3) _ (λ length _.
      gives_each _ (text_at fields 4) _ (λ order _.
      gives_each _ (name frame) _ (λ f _.
      gives_each _ (name named) _ (λ n _.
      gives_each _ (signal n start length order) _ (λ x _. refl)))))))))

  row_at-kind : (kind : Header) (line : ℕ) (fields : List (List ℕ)) → IfOk (row_at p kind line fields) (λ r. kind_of_row r ≡ kind)
  unfolding row_at
  row_at-kind kind line fields = gives_when _ _ _ _ (λ _. row_of-kind kind fields)

  rows_from-kind : (kind : Header) (line : ℕ) (records : List (List (List ℕ))) → AllByRecursion (IsOfKind kind) (rows_from p kind line records)
  unfolding rows_from
  rows_from-kind kind line [] = tt
  rows_from-kind kind line (fields ∷ rest) = (row_at-kind kind line fields, rows_from-kind kind (suc line) rest)

  up_to-kind : (kind : Header) (reads : List RowRead) → AllByRecursion (IsOfKind kind) reads → AllByRecursion (IsOfKind kind) (up_to_refused reads)
  unfolding up_to_refused
  up_to-kind kind [] all = tt
  up_to-kind kind (read ∷ rest) all = (all.0, elim (is_err read.row) as (λ b. AllByRecursion (IsOfKind kind) (cond b [] (up_to_refused rest))) [ true ↦ tt | false ↦ up_to-kind kind rest all.1 ])

  below-kind : (kind : Header) (header : Option Header) (records : List (List (List ℕ))) → header ≡ Some kind → AllByRecursion (IsOfKind kind) (up_to_refused (rows_below p header records))
  unfolding rows_below
  below-kind kind (Some header) records is = let same : header ≡ kind = cc in rw same (up_to-kind kind (rows_from p kind 2 records) (rows_from-kind kind 2 records))
  below-kind kind None records is = cc

  records-kind : (kind : Header) (records : List (List (List ℕ))) → header_in records ≡ Some kind → AllByRecursion (IsOfKind kind) (up_to_refused (rows_of_records p records))
  unfolding rows_of_records
  records-kind kind [] is = cc
  records-kind kind (first ∷ records) is = below-kind kind (header_of first) records is

  -- the rows below a header are of its kind
  pub body-kind : (kind : Header) (body : List ℕ) → header_of_body body ≡ Some kind → AllByRecursion (IsOfKind kind) (rows_of_body p body)
  unfolding rows_of_body header_of_body
  body-kind kind body is = records-kind kind (records_of body) is

  below-none : (header : Option Header) (records : List (List (List ℕ))) → list_any (λ read. is_err read.row) (up_to_refused (rows_below p header records)) ≡ false → (kind : Header) × (header ≡ Some kind)
  unfolding rows_below up_to_refused
  below-none (Some kind) records all = (kind, refl)
  below-none None records all = cc

  records-none : (records : List (List (List ℕ))) → list_any (λ read. is_err read.row) (up_to_refused (rows_of_records p records)) ≡ false → (kind : Header) × (header_in records ≡ Some kind)
  unfolding rows_of_records
  records-none [] all = let no = below-none None [] all in (no.0, no.1)
  records-none (first ∷ records) all = below-none (header_of first) records all

  -- a file of which no row is refused has a header
  pub body-header : (body : List ℕ) → list_any (λ read. is_err read.row) (rows_of_body p body) ≡ false → (kind : Header) × (header_of_body body ≡ Some kind)
  unfolding rows_of_body header_of_body
  body-header body all = records-none (records_of body) all

-- ---- what rows bring

module _ {A : Type 0} (brings : Result Row Refusal → List A) where
  brings-none : (P : RowRead → Type 0) → ((read : RowRead) → P read → brings read.row ≡ []) → (reads : List RowRead) → AllByRecursion P reads → flat_map (λ read. brings read.row) reads ≡ []
  brings-none P none [] all = refl
  brings-none P none (read ∷ rest) all = ap (λ l. l ++ flat_map (λ read. brings read.row) rest) (none read all.0) ∙ brings-none P none rest all.1

module _ (f : Name) where
  place-none : (kind : Header) → kind ≡ Frames → (r : Result Row Refusal) → IfOk r (λ r. kind_of_row r ≡ kind) → placement_for f r ≡ []
  place-none kind is (Ok (row.AddFrame g n)) h = refl
  place-none kind is (Ok (row.Place g n q)) h = let no : ◌≡◌ {A = Header} Placements Frames = h ∙ is in cc
  place-none kind is (Ok (row.AddSignal g x)) h = refl
  place-none kind is (Err e) h = refl

  place-none_signals : (r : Result Row Refusal) → IfOk r (λ r. kind_of_row r ≡ Signals) → placement_for f r ≡ []
  place-none_signals (Ok (row.AddFrame g n)) h = refl
  place-none_signals (Ok (row.Place g n q)) h = cc
  place-none_signals (Ok (row.AddSignal g x)) h = refl
  place-none_signals (Err e) h = refl

  node-none_signals : (r : Result Row Refusal) → IfOk r (λ r. kind_of_row r ≡ Signals) → node_for f r ≡ []
  node-none_signals (Ok (row.AddFrame g n)) h = cc
  node-none_signals (Ok (row.Place g n q)) h = cc
  node-none_signals (Ok (row.AddSignal g x)) h = refl
  node-none_signals (Err e) h = refl

  sign-none : (kind : Header) → (kind ≡ Signals → ⊥) → (r : Result Row Refusal) → IfOk r (λ r. kind_of_row r ≡ kind) → signal_for f r ≡ []
  sign-none kind other (Ok (row.AddFrame g n)) h = refl
  sign-none kind other (Ok (row.Place g n q)) h = refl
  sign-none kind other (Ok (row.AddSignal g x)) h = absurd (other (sym h))
  sign-none kind other (Err e) h = refl

  pub frames_place_none : (reads : List RowRead) → AllByRecursion (IsOfKind Frames) reads → placements_for f reads ≡ []
  frames_place_none reads all = brings-none (placement_for f) (IsOfKind Frames) (λ read. place-none Frames refl read.row) reads all

  pub frames_sign_none : (reads : List RowRead) → AllByRecursion (IsOfKind Frames) reads → signals_for f reads ≡ []
  frames_sign_none reads all = brings-none (signal_for f) (IsOfKind Frames) (λ read. sign-none Frames (λ no. cc) read.row) reads all

  pub placements_sign_none : (reads : List RowRead) → AllByRecursion (IsOfKind Placements) reads → signals_for f reads ≡ []
  placements_sign_none reads all = brings-none (signal_for f) (IsOfKind Placements) (λ read. sign-none Placements (λ no. cc) read.row) reads all

  pub signals_place_none : (reads : List RowRead) → AllByRecursion (IsOfKind Signals) reads → placements_for f reads ≡ []
  signals_place_none reads all = brings-none (placement_for f) (IsOfKind Signals) (λ read. place-none_signals read.row) reads all

  pub signals_node_none : (reads : List RowRead) → AllByRecursion (IsOfKind Signals) reads → nodes_for f reads ≡ []
  signals_node_none reads all = brings-none (node_for f) (IsOfKind Signals) (λ read. node-none_signals read.row) reads all

  -- ---- rows that do not name the frame bring it nothing

  abbrev brought_none : {A : Type 0} → (Result Row Refusal → List A) → Type 0
  brought_none brings = (r : Result Row Refusal) → names_frame f r ≡ false → brings r ≡ []

  unnamed : {A : Type 0} (brings : Result Row Refusal → List A) → brought_none brings → (reads : List RowRead) → is_named f reads ≡ false → flat_map (λ read. brings read.row) reads ≡ []
  unnamed brings none [] h = refl
  unnamed brings none (read ∷ rest) h = elim (cases_Bool (names_frame f read.row)) [
    | inl names ↦ let no = rw names at h in cc
    | inr not ↦ ap (λ l. l ++ flat_map (λ read. brings read.row) rest) (none read.row not) ∙ unnamed brings none rest (rw not at h)
  ]

  node-other : brought_none (node_for f)
  node-other (Ok (row.AddFrame g n)) h = rw h refl
  node-other (Ok (row.Place g n q)) h = rw h refl
  node-other (Ok (row.AddSignal g x)) h = refl
  node-other (Err e) h = refl

  place-other : brought_none (placement_for f)
  place-other (Ok (row.AddFrame g n)) h = refl
  place-other (Ok (row.Place g n q)) h = rw h refl
  place-other (Ok (row.AddSignal g x)) h = refl
  place-other (Err e) h = refl

  sign-other : brought_none (signal_for f)
  sign-other (Ok (row.AddFrame g n)) h = refl
  sign-other (Ok (row.Place g n q)) h = refl
  sign-other (Ok (row.AddSignal g x)) h = rw h refl
  sign-other (Err e) h = refl

  pub unnamed_nodes : (reads : List RowRead) → is_named f reads ≡ false → nodes_for f reads ≡ []
  unnamed_nodes reads h = unnamed (node_for f) node-other reads h

  pub unnamed_placements : (reads : List RowRead) → is_named f reads ≡ false → placements_for f reads ≡ []
  unnamed_placements reads h = unnamed (placement_for f) place-other reads h

  pub unnamed_signals : (reads : List RowRead) → is_named f reads ≡ false → signals_for f reads ≡ []
  unnamed_signals reads h = unnamed (signal_for f) sign-other reads h

  -- ---- a row of frames that names the frame says its node

  no_more : {A : Type 0} (t : Bool) (x : A) (xs : List A) → t ≡ true → cond t (x ∷ []) [] ++ xs ≡ [] → ⊥
  no_more true x xs h none = cc
  no_more false x xs h none = cc

  no_first : {A : Type 0} (xs ys : List A) → xs ++ ys ≡ [] → ys ≡ []
  no_first [] ys h = h
  no_first (x ∷ xs) ys h = cc

  pub named_nodes : (reads : List RowRead) → AllByRecursion (IsOfKind Frames) reads → is_named f reads ≡ true → nodes_for f reads ≡ [] → ⊥
  named_nodes [] all h none = cc
  named_nodes (read ∷ rest) all h none = one read.row all.0 h none (named_nodes rest all.1)
    where
      one : (r : Result Row Refusal) → IfOk r (λ r. kind_of_row r ≡ Frames) → (names_frame f r || is_named f rest) ≡ true → node_for f r ++ nodes_for f rest ≡ [] → (is_named f rest ≡ true → nodes_for f rest ≡ [] → ⊥) → ⊥
      one (Ok (row.AddFrame g n)) k h none next = elim (cases_Bool (same_text g f)) [
        | inl same ↦ no_more (same_text g f) n (nodes_for f rest) same none
        | inr other ↦ next (rw other at h) (no_first (if_named f g n) (nodes_for f rest) none)
      ]
      one (Ok (row.Place g n q)) k h none next = cc
      one (Ok (row.AddSignal g x)) k h none next = cc
      one (Err e) k h none next = next h none
