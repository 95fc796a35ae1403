-- What the rows of an import's file have by their own texts, and how many there are.
use Rattle.std.proofs.Common.{◌≡◌, ℕ, zero, suc, ◌+◌, ◌≤◌, Bool, true, false, cond, List, [], ◌∷◌, length, take, Option, Some, None, Result, is_err, IfOk, IsTrue, refl, arith}
use Rattle.std.specs.List.{AllByRecursion}
use Rattle.std.proofs.lemmas.Bool.{ltb-false}
use Rattle.fr_base.specs.Names.{is_name}
use Rattle.fr_base.specs.Refusing.{◌>>◌, refuse◌when◌}
use Rattle.fr_base.specs.Signals.{is_signal_length}
use Rattle.fr_base.specs.Checks.{name, placement, signal}
use Rattle.fr_base.specs.ImportRows.{text_at, number_at, frame_row, placement_row, signal_row, frame_in, placement_in, signal_in, row_of, row_at, rows_from, header_of, rows_below, rows_of_records, up_to_refused, records_of, rows_of_body, all_rows_of_body}
use Rattle.fr_base.specs.Sound.{FitsCluster}
use Rattle.fr_base.specs.declared.limits.TheConstants.{MAX_ROWS}
use Rattle.fr_base.specs.declared.import.Header.{Header}
use Rattle.fr_base.specs.declared.import.Header.TheVariants.{Frames, Placements, Signals}
use Rattle.fr_base.specs.declared.import.Row.{Row}
use Rattle.fr_base.specs.declared.import.Row.TheVariants.{AddFrame, Place, AddSignal}
use Rattle.fr_base.specs.declared.import.RowRead.{RowRead}
use Rattle.fr_base.specs.declared.params.Params.{Params}
use Rattle.fr_base.proofs.SoundRefusing.{gives_bind, gives_each, gives_when, gives_unless}
use Rattle.fr_base.proofs.SoundChecks.{name-form, placement-form, signal-form}

-- a row of frames names a frame; a row of placements names a frame, and its placement fits the cluster; a row of signals names a signal of 1 to 64 bits
abbrev pub IsFormedRow : Params → Row → Type 0
IsFormedRow p (AddFrame f n) = IsTrue (is_name f)
IsFormedRow p (Place f n q) = IsTrue (is_name f) × FitsCluster p q
IsFormedRow p (AddSignal f signal) = IsTrue (is_name signal.name) × IsTrue (is_signal_length signal.length)

abbrev pub IsFormedRead : Params → RowRead → Type 0
IsFormedRead p read = IfOk read.row (IsFormedRow p)

-- the row is not refused by its own text
abbrev pub IsRead : RowRead → Type 0
IsRead read = is_err read.row ≡ false

module _ (p : Params) where
  frame_row-form : (frame node : List ℕ) → IfOk (frame_row frame node) (IsFormedRow p)
  unfolding frame_row
  frame_row-form frame node =
      gives_bind _ _ (name frame) _ (name-form frame) (λ f named.
      gives_each _ (name node) _ (λ n _. named))

  placement_row-form : (frame node : List ℕ) (slot : ℕ) (channels : List ℕ) (base repetition : ℕ) → IfOk (placement_row p frame node slot channels base repetition) (IsFormedRow p)
  unfolding placement_row
  placement_row-form frame node slot channels base repetition =
      gives_bind _ _ (name frame) _ (name-form frame) (λ f named.
      gives_each _ (name node) _ (λ n _.
      gives_bind _ _ (placement p slot channels base repetition) _ (placement-form p slot channels base repetition) (λ q fits. (named, fits))))

  signal_row-form : (frame named : List ℕ) (start length : ℕ) (order : List ℕ) → IfOk (signal_row frame named start length order) (IsFormedRow p)
  unfolding signal_row
  signal_row-form frame named start length order =
      gives_each _ (name frame) _ (λ f _.
      gives_bind _ _ (name named) _ (name-form named) (λ n h.
      gives_bind _ _ (signal n start length order) _ (signal-form n start length order h) (λ x form. form)))

  row_of-form : (header : Header) (fields : List (List ℕ)) → IfOk (row_of p header fields) (IsFormedRow p)
  unfolding row_of frame_in placement_in signal_in
  row_of-form Frames fields =
      gives_unless _ _ _ _ (λ _.
      gives_each _ (text_at fields 0) _ (λ frame _.
      gives_each _ (text_at fields 1) _ (λ node _. frame_row-form frame node)))
  row_of-form Placements fields =
      gives_unless _ _ _ _ (λ _.
      gives_each _ (text_at fields 0) _ (λ frame _.
      gives_each _ (text_at fields 1) _ (λ node _.
      gives_each _ (number_at fields 2) _ (λ slot _.
      gives_each _ (text_at fields 3) _ (λ channels _.
      gives_each _ (number_at fields 4) _ (λ base _.
      gives_each _ (number_at fields 5) _ (λ repetition _. placement_row-form frame node slot channels base repetition)))))))
  row_of-form Signals fields =
      gives_unless _ _ _ _ (λ _.
      gives_each _ (text_at fields 0) _ (λ frame _.
      gives_each _ (text_at fields 1) _ (λ named _.
      gives_each _ (number_at fields 2) _ (λ start _.
      gives_each _ (number_at fields 3) _ (λ length _.
      gives_each _ (text_at fields 4) _ (λ order _. signal_row-form frame named start length order))))))

  row_at-form : (header : Header) (line : ℕ) (fields : List (List ℕ)) → IfOk (row_at p header line fields) (IsFormedRow p)
  unfolding row_at
  row_at-form header line fields = gives_when _ _ _ _ (λ _. row_of-form header fields)

  rows_from-form : (header : Header) (line : ℕ) (records : List (List (List ℕ))) → AllByRecursion (IsFormedRead p) (rows_from p header line records)
  unfolding rows_from
  rows_from-form header line [] = tt
  rows_from-form header line (fields ∷ rest) = (row_at-form header line fields, rows_from-form header (suc line) rest)

  up_to-form : (reads : List RowRead) → AllByRecursion (IsFormedRead p) reads → AllByRecursion (IsFormedRead p) (up_to_refused reads)
  unfolding up_to_refused
  up_to-form [] all = tt
  up_to-form (read ∷ rest) all = (all.0, elim (is_err read.row) as (λ b. AllByRecursion (IsFormedRead p) (cond b [] (up_to_refused rest))) [ true ↦ tt | false ↦ up_to-form rest all.1 ])

  below-form : (header : Option Header) (records : List (List (List ℕ))) → AllByRecursion (IsFormedRead p) (rows_below p header records)
  unfolding rows_below
  below-form (Some header) records = rows_from-form header 2 records
  below-form None records = (tt, tt)

  records-form : (records : List (List (List ℕ))) → AllByRecursion (IsFormedRead p) (rows_of_records p records)
  unfolding rows_of_records
  records-form [] = below-form None []
  records-form (first ∷ records) = below-form (header_of first) records

  -- what a row of a file brings has its form
  pub body-form : (body : List ℕ) → AllByRecursion (IsFormedRead p) (rows_of_body p body)
  unfolding rows_of_body
  body-form body = up_to-form (rows_of_records p (records_of body)) (records-form (records_of body))

  take-form : (n : ℕ) (reads : List RowRead) → AllByRecursion (IsFormedRead p) reads → AllByRecursion (IsFormedRead p) (take n reads)
  take-form zero reads all = tt
  take-form (suc n) [] all = tt
  take-form (suc n) (read ∷ rest) all = (all.0, take-form n rest all.1)

  -- and so has what each row brings, up to the file's end
  pub all_rows-form : (body : List ℕ) → AllByRecursion (IsFormedRead p) (all_rows_of_body p body)
  unfolding all_rows_of_body
  all_rows-form body = take-form (MAX_ROWS + 1) (rows_of_records p (records_of body)) (records-form (records_of body))

  -- ---- where no row is refused, there are not too many

  past : {A E : Type 0} (e : E) (t : Bool) (r : Result A E) → is_err ((refuse e when t) >> r) ≡ false → t ≡ false
  unfolding refuse◌when◌ ◌>>◌
  past e true r h = cc
  past e false r h = refl

  within : (header : Header) (line : ℕ) (fields : List (List ℕ)) → is_err (row_at p header line fields) ≡ false → line ≤ MAX_ROWS + 1
  unfolding row_at
  within header line fields read = ltb-false (MAX_ROWS + 1) line (past _ _ _ read)

  one_more : (refused : Bool) (line n : ℕ) (reads : List RowRead) → refused ≡ false → (AllByRecursion IsRead reads → length reads + suc line ≤ n) → AllByRecursion IsRead (cond refused [] reads) →
      suc (length (cond refused [] reads)) + line ≤ n
  one_more true line n reads h rest all = cc
  one_more false line n reads h rest all = omega (arith, rest all)

  few : (header : Header) (line : ℕ) (records : List (List (List ℕ))) → line ≤ MAX_ROWS + 2 → AllByRecursion IsRead (up_to_refused (rows_from p header line records)) →
      length (up_to_refused (rows_from p header line records)) + line ≤ MAX_ROWS + 2
  unfolding rows_from up_to_refused
  few header line [] at all = omega (arith, at)
  few header line (fields ∷ rest) at all =
      let here = within header line fields all.0 in
      one_more (is_err (row_at p header line fields)) line (MAX_ROWS + 2) (up_to_refused (rows_from p header (suc line) rest)) all.0 (few header (suc line) rest (omega (arith, here))) all.1

  few_below : (header : Option Header) (records : List (List (List ℕ))) → AllByRecursion IsRead (up_to_refused (rows_below p header records)) → length (up_to_refused (rows_below p header records)) ≤ MAX_ROWS
  unfolding rows_below up_to_refused
  few_below (Some header) records all = let n = few header 2 records (omega arith) all in omega (arith, n)
  few_below None records all = cc

  few_records : (records : List (List (List ℕ))) → AllByRecursion IsRead (up_to_refused (rows_of_records p records)) → length (up_to_refused (rows_of_records p records)) ≤ MAX_ROWS
  unfolding rows_of_records
  few_records [] all = few_below None [] all
  few_records (first ∷ records) all = few_below (header_of first) records all

  -- a file of which no row is refused has at most 512 rows
  pub few_rows : (body : List ℕ) → AllByRecursion IsRead (rows_of_body p body) → length (rows_of_body p body) ≤ MAX_ROWS
  unfolding rows_of_body
  few_rows body all = few_records (records_of body) all
