-- An import's rows one after the other, and the records that a reader has left.
use Rattle.std.proofs.Common.{◌≡◌, ℕ, zero, suc, ◌+◌, ◌-◌, ◌*◌, ◌<◌, ◌≤◌, Bool, true, false, List, [], ◌∷◌, length, Some, None, Option, Result, Ok, Err, ◌^◌, Bor, refl, sym, ap, ◌∙◌, inl, inr, ◌⊎◌, ◌++◌, add-one, arith, map, take, drop, get_or, append-nil, append_assoc}
use Rattle.std.specs.Prelude.{⊤, IfSome, is_err, option_map, not, ◌&&◌, ◌==◌, if◌then◌else◌}
use Rattle.std.proofs.lemmas.Bool.{le-ltb}
use Rattle.std.specs.List.{list_all}
use Rattle.std.specs.Result.{is_ok}
use Rattle.std.specs.Cmp.Lexicographic.{pointwise}
use Rattle.std.specs.Char.{digit_value}
use Rattle.std.specs.Str.Parse.{digits_value}
use Rattle.std.proofs.lemmas.Bool.Decides.{nat_tests}
use Rattle.std.specs.Str.{IsAscii, is_utf8}
use Rattle.std.proofs.lemmas.Str.{IsUtf8-from_ascii, is_utf8-from_IsUtf8}
use Rattle.std.proofs.lemmas.Str.Ascii.{IsAscii-nil, IsAscii-cons}
use Rattle.std.proofs.lemmas.Int.Digits.{digits_value_more}
use Rattle.std.proofs.lemmas.List.Folds.{list_all_at, list_all_more}
use Rattle.std.proofs.lemmas.Str.Parse.{digits_value-take-le}
use Rattle.csv.specs.Machine.{Read, next_record, step, ends_at_end, is_end, fields_after, field_after}
use Rattle.csv.specs.Reading.{Reached, ReadRecord, default_config, Ready, has_failed, reader_config, reader_state, reader_trim, records_from, records_next, source_of, strip_bom, buffered_of}
use Rattle.csv.specs.declared.parser.Config.{Config}
use Rattle.csv.specs.declared.parser.State.{State}
use Rattle.csv.specs.declared.parser.State.TheVariants as st
use Rattle.csv.specs.declared.error.Error.{Error}
use Rattle.csv.specs.declared.reader.Reader.{Reader}
use Rattle.csv.specs.declared.reader.Trim.TheVariants as trim
use Rattle.csv.specs.Records.{field_at}
use Rattle.csv.proofs.ReadFacts.{rows-end as none-read, rows-more as one-read}
use Rattle.fr_base.specs.Refusing.{◌>>=◌, ◌>>◌, ◌or◌, refuse◌when◌}
use Rattle.fr_base.specs.Names.{same_text, is_digit, is_name}
use Rattle.fr_base.specs.Checks.{name}
use Rattle.fr_base.proofs.NameLemmas.{name_is_text}
use Rattle.fr_base.specs.ImportRows.{records_of, text_at, number, number_at, placement_row, signal_row, frame_in, placement_in, signal_in, row_of, row_at, rows_from, rows_below, rows_of_records, up_to_refused, rows_of_body, all_rows_of_body}
use Rattle.fr_base.specs.declared.import.Header.{Header}
use Rattle.fr_base.specs.declared.import.Row.{Row}
use Rattle.fr_base.specs.declared.import.RowRead.{RowRead}
use Rattle.fr_base.specs.declared.params.Params.{Params}
use Rattle.fr_base.specs.declared.refusal.Refusal.{Refusal}
use Rattle.fr_base.specs.declared.refusal.Refusal.TheVariants.{BadText, BadName, Limit}
use Rattle.fr_text.specs.ImportText.{lines_from, records_left, left_of, IsPlain}

-- what a proof about a row opens
unfoldable pub rows_open : ⊤
unfolding ◌>>=◌ ◌>>◌ ◌or◌ refuse◌when◌ text_at number_at frame_in placement_in signal_in row_of
rows_open = tt

-- what a proof about a record at a line opens
unfoldable pub lines_open : ⊤
unfolding ◌>>◌ refuse◌when◌ row_at
lines_open = tt

-- what a proof about a number opens
unfoldable pub numbers_open : ⊤
unfolding ◌>>=◌ ◌>>◌ ◌or◌ refuse◌when◌ number
numbers_open = tt

-- ---- rows

abbrev pub Records : Type 0
Records = List (List (List ℕ))

-- a row within the limit is what its fields say
row-within : (p : Params) (h : Header) (line : ℕ) (fields : List (List ℕ)) → line ≤ 513 → row_at p h line fields ≡ row_of p h fields
unfolding row_at refuse◌when◌ ◌>>◌
row-within p h line fields within = rw (le-ltb 513 line within) refl

-- the rows from a record on: its own, and unless that is refused those after it
pub rows-next : (p : Params) (h : Header) (line : ℕ) (fields : List (List ℕ)) (rest : Records) → line ≤ 513
    → up_to_refused (rows_from p h line (fields ∷ rest))
    ≡ record { line = line; row = row_of p h fields } ∷ (if is_err (row_of p h fields) then [] else up_to_refused (rows_from p h (line + 1) rest))
unfolding up_to_refused rows_from
rows-next p h line fields rest within = rw (row-within p h line fields within, add-one) refl

module _ (p : Params) (h : Header) (line : ℕ) (rows : List RowRead) (records : Records) (goal : List RowRead) where
  -- with no record left, all rows are read
  pub rows-done : rows ++ up_to_refused (rows_from p h line records) ≡ goal → records ≡ [] → rows ≡ goal
  unfolding up_to_refused rows_from
  rows-done e none = sym (append-nil rows) ∙ rw none at e

  -- after a row that was read, the rows of the records behind it are left
  pub rows-more : (fields : List (List ℕ)) (rest : Records) (row : Result Row Refusal) → rows ++ up_to_refused (rows_from p h line records) ≡ goal → records ≡ fields ∷ rest → line ≤ 513
      → row ≡ row_of p h fields → is_err row ≡ false → (rows ++ record { line = line; row = row } ∷ []) ++ up_to_refused (rows_from p h (line + 1) rest) ≡ goal
  rows-more fields rest row e some within is read =
      append_assoc rows _ _ ∙ ap (λ more. rows ++ more) (rw (is, rows-next p h line fields rest within) (rw (rw is at read) refl)) ∙ rw some at e

  -- after one that is refused, none
  pub rows-refused : (fields : List (List ℕ)) (rest : Records) (row : Result Row Refusal) → rows ++ up_to_refused (rows_from p h line records) ≡ goal → records ≡ fields ∷ rest → line ≤ 513
      → row ≡ row_of p h fields → is_err row ≡ true → rows ++ record { line = line; row = row } ∷ [] ≡ goal
  rows-refused fields rest row e some within is refused =
      ap (λ more. rows ++ more) (rw (is, rows-next p h line fields rest within) (rw (rw is at refused) refl)) ∙ rw some at e

  -- the record behind 512 rows is one too many
  pub rows-over : (fields : List (List ℕ)) (rest : Records) → rows ++ up_to_refused (rows_from p h line records) ≡ goal → records ≡ fields ∷ rest → line ≡ 514
      → rows ++ record { line = 514; row = Err Limit } ∷ [] ≡ goal
  unfolding up_to_refused rows_from row_at refuse◌when◌ ◌>>◌
  rows-over fields rest e some over = rw (some, over) at e

-- a file whose first record, if there is one, is no header
pub body-other : (p : Params) (body : List ℕ) (rest : Records) → rows_of_records p (records_of body) ≡ rows_below p None rest
    → rows_of_body p body ≡ record { line = 1; row = Err BadText } ∷ []
unfolding rows_of_body rows_below up_to_refused
body-other p body rest e = ap up_to_refused e

-- a file whose first record is a header
pub body-rows : (p : Params) (body : List ℕ) (rest : Records) (h : Header) → rows_of_records p (records_of body) ≡ rows_below p (Some h) rest
    → rows_of_body p body ≡ up_to_refused (rows_from p h 2 rest)
unfolding rows_of_body rows_below
body-rows p body rest h e = ap up_to_refused e

-- ---- all rows

pub all-other : (p : Params) (body : List ℕ) (rest : Records) → rows_of_records p (records_of body) ≡ rows_below p None rest
    → all_rows_of_body p body ≡ record { line = 1; row = Err BadText } ∷ []
unfolding all_rows_of_body rows_below
all-other p body rest e = ap (take 513) e

-- the rows are what their records are read as
pub rows-lines : (p : Params) (h : Header) (line : ℕ) (records : Records) → rows_from p h line records ≡ lines_from (λ n fields. record { line = n; row = row_at p h n fields }) line records
unfolding rows_from lines_from
rows-lines p h line [] = refl
rows-lines p h line (fields ∷ rest) = ap (λ rows. record { line = line; row = row_at p h line fields } ∷ rows) (rows-lines p h (suc line) rest)

pub all-rows : (p : Params) (body : List ℕ) (rest : Records) (h : Header) → rows_of_records p (records_of body) ≡ rows_below p (Some h) rest
    → all_rows_of_body p body ≡ take 513 (rows_from p h 2 rest)
unfolding all_rows_of_body rows_below
all-rows p body rest h e = ap (take 513) e

-- ---- records

-- where a record's read leaves a text of n bytes: fewer are left, or the text is at its end
abbrev GoesOn : ℕ → Read → Type 0
GoesOn n q = (length q.2 < n) ⊎ ((q.1 ≡ st.StartRecord) × (q.2 ≡ []))

goes-on-more : (n : ℕ) (o : Option Read) → IfSome o (GoesOn n) → IfSome o (GoesOn (suc n))
goes-on-more n None h = tt
goes-on-more n (Some q) (inl h) = inl (omega arith)
goes-on-more n (Some q) (inr h) = inr h

goes-on : (cfg : Config) (s : State) (fields : List (List ℕ)) (field xs : List ℕ) → IfSome (next_record cfg s fields field xs) (GoesOn (length xs))
unfolding next_record
goes-on cfg s fields field [] = by (ends_at_end s)
  where
    by : (b : Bool) → IfSome (if b then Some (fields ++ (field ∷ []), st.StartRecord, []) else None) (GoesOn 0)
    by true = inr (refl, refl)
    by false = tt
goes-on cfg s fields field (c ∷ rest) =
    by (is_end (step cfg s c).1) _ (goes-on-more _ _ (goes-on cfg (step cfg s c).0 (fields_after (step cfg s c).1 fields field) (field_after (step cfg s c).1 c field) rest))
  where
    by : (b : Bool) (more : Option Read) → IfSome more (GoesOn (suc (length rest)))
        → IfSome (if b then Some (fields_after (step cfg s c).1 fields field, (step cfg s c).0, rest) else more) (GoesOn (suc (length rest)))
    by true more h = inl (omega arith)
    by false more h = h

-- no text has no records
pub at-end : (cfg : Config) (m : ℕ) → records_from cfg m st.StartRecord [] ≡ []
unfolding records_from next_record
at-end cfg zero = refl
at-end cfg (suc m) = refl

-- two counts that give the same records after the next one give the same records
same-next : (cfg : Config) (m n k : ℕ) (o : Option Read) → IfSome o (GoesOn k)
    → ((q : Read) → length q.2 < k → records_from cfg m q.1 q.2 ≡ records_from cfg n q.1 q.2)
    → records_next (records_from cfg m) o ≡ records_next (records_from cfg n) o
same-next cfg m n k None h same = refl
same-next cfg m n k (Some q) (inl h) same = ap (λ rest. q.0 ∷ rest) (same q h)
same-next cfg m n k (Some q) (inr h) same = rw (h.0, h.1, at-end cfg m, at-end cfg n) refl

-- a count above the number of bytes gives all records
all-records : (cfg : Config) (m n : ℕ) (s : State) (xs : List ℕ) → length xs < m → length xs < n → records_from cfg m s xs ≡ records_from cfg n s xs
unfolding records_from
all-records cfg zero n s xs a b = absurd (omega arith)
all-records cfg (suc m) zero s xs a b = absurd (omega arith)
all-records cfg (suc m) (suc n) s xs a b =
    same-next cfg m n (length xs) (next_record cfg s [] [] xs) (goes-on cfg s [] [] xs) (λ q h. all-records cfg m n q.1 q.2 (omega arith) (omega arith))

-- the next record, and those left after it
left-next : (s : State) (xs : List ℕ) (q : Read) → next_record default_config s [] [] xs ≡ Some q → records_left s (Some xs) ≡ q.0 ∷ records_left q.1 (Some q.2)
unfolding records_left records_from
left-next s xs q e =
    let h : IfSome (next_record default_config s [] [] xs) (GoesOn (length xs)) = goes-on default_config s [] [] xs in
    rw (add-one, e) (ap (λ rest. q.0 ∷ rest) (by (rw e at h)))
  where
    by : GoesOn (length xs) q → records_from default_config (length xs) q.1 q.2 ≡ records_from default_config (length q.2 + 1) q.1 q.2
    by (inl h) = all-records default_config (length xs) (length q.2 + 1) q.1 q.2 h (omega arith)
    by (inr h) = rw (h.0, h.1, at-end default_config (length xs), at-end default_config 1) refl

-- no next record, and none left
left-none : (s : State) (xs : List ℕ) → next_record default_config s [] [] xs ≡ None → records_left s (Some xs) ≡ []
unfolding records_left records_from
left-none s xs e = rw (add-one, e) refl

-- ---- a reader over bytes in memory

-- its bytes, each known
abbrev pub in_memory : Bor (List ℕ) → Option (List ℕ)
in_memory bytes = Some bytes.now

known : (a : Reader (Bor (List ℕ))) → has_failed a ≡ false → (xs : List ℕ) × (source_of in_memory a ≡ Some xs)
known a going = rw going (by (not a.bom_checked && (a.at == 0) && (a.filled == 0)))
  where
    by : (b : Bool) → (xs : List ℕ) × ((if b then option_map strip_bom (in_memory a.rdr) else buffered_of (in_memory a.rdr) a) ≡ Some xs)
    by true = (_, refl)
    by false = (_, refl)

-- a reader that failed has nothing left
pub read-failed : (a : Reader (Bor (List ℕ))) → has_failed a ≡ true → left_of in_memory a ≡ []
unfolding records_left
read-failed a failed = rw failed refl

-- a read that found no record found none left
pub read-none : (a b : Reader (Bor (List ℕ))) (fields : List (List ℕ)) → reader_config a ≡ default_config → has_failed a ≡ false
    → ReadRecord in_memory a b false fields → left_of in_memory a ≡ []
read-none a b fields config going r =
    let (xs, e) = known a going in
    ap (records_left a.state) e ∙ left-none a.state xs (none-read in_memory a b fields default_config xs config e r)

same-left : (r fields : List (List ℕ)) (s t : State) (xs ys : List ℕ) (after : Option (List ℕ)) → fields ≡ r → s ≡ t → xs ≡ ys → after ≡ Some ys
    → r ∷ records_left s (Some xs) ≡ fields ∷ records_left t after
same-left r fields s t xs ys after a b c d = rw (a, b, c, d) refl

-- a read that found a record found the next one
pub read-next : (a b : Reader (Bor (List ℕ))) (fields : List (List ℕ)) → reader_config a ≡ default_config → has_failed a ≡ false
    → ReadRecord in_memory a b true fields → left_of in_memory a ≡ fields ∷ left_of in_memory b
unfolding Reached
read-next a b fields config going r =
    let (xs, e) = known a going in
    let m = one-read in_memory a b fields default_config a.state xs xs [] config e (refl, refl) r in
    ap (records_left a.state) e ∙ left-next a.state xs m.2.0 m.2.1
    ∙ same-left m.2.0.0 fields m.2.0.1 b.state m.2.0.2 m.0 (source_of in_memory b) m.2.2 m.2.3.0 m.2.3.1 m.1

-- what was there before a read: the record that it found and those still there, or nothing
pub read-gives : (a b : Reader (Bor (List ℕ))) (fields : List (List ℕ)) (r : Result Bool Error) (found : Bool) → r ≡ Ok found → IsPlain a
    → (has_failed a ≡ true → r ≡ Ok false)
    → (reader_trim a ≡ trim.None → Ready a → ReadRecord in_memory a b found fields)
    → left_of in_memory a ≡ (if found then fields ∷ left_of in_memory b else [])
read-gives a b fields r found is plain failed reads = by (has_failed a) refl found refl
  where
    by : (f : Bool) → has_failed a ≡ f → (g : Bool) → found ≡ g → left_of in_memory a ≡ (if found then fields ∷ left_of in_memory b else [])
    by true e true h = let no : r ≡ Ok false = failed e in cc
    by true e false h = rw h (read-failed a e)
    by false e true h = let p = plain e in rw h (read-next a b fields p.0 e (rw h at (reads p.1 p.2)))
    by false e false h = let p = plain e in rw h (read-none a b fields p.0 e (rw h at (reads p.1 p.2)))

-- the records of a body, where a reader of it begins
pub begins : (a : Reader (Bor (List ℕ))) (body : List ℕ) → reader_state a ≡ st.StartRecord → source_of in_memory a ≡ Some (strip_bom body)
    → left_of in_memory a ≡ records_of body
unfolding records_left records_of
begins a body state source = ap (λ s. records_left s (source_of in_memory a)) state ∙ ap (records_left st.StartRecord) source

-- ---- a number

-- what a test refuses, and what a later one does
refused : {A : Type 0} (b : Bool) (r : Result A Refusal) → b ≡ true → ((refuse BadText when b) >> r) ≡ Err BadText
unfolding refuse◌when◌ ◌>>◌
refused b r e = rw e refl

later : {A : Type 0} (b : Bool) (r : Result A Refusal) → r ≡ Err BadText → ((refuse BadText when b) >> r) ≡ Err BadText
unfolding refuse◌when◌ ◌>>◌
later true r e = refl
later false r e = e

-- no byte, or more than 10, are no number
pub number-size : (text : List ℕ) → (length text ≡ 0) ⊎ (10 < length text) → number text ≡ Err BadText
unfolding number
number-size text (inl e) = refused _ _ (grind arith)
number-size text (inr h) = refused _ _ (grind arith)

-- nor are bytes of which one is no digit
pub number-other : (text : List ℕ) (i : ℕ) → i < length text → is_digit (get_or text i 0) ≡ false → number text ≡ Err BadText
unfolding number
number-other text i within e = later _ _ (refused _ _ (ap (λ b. not b) (list_all_at is_digit text i 0 within e)))

-- nor digits whose value is above that of 32 bits, where it is so before their end
pub number-large : (text : List ℕ) (i : ℕ) → 2 ^ 32 ≤ digits_value 10 (take i text) → number text ≡ Err BadText
unfolding number
number-large text i large =
    let value = digits_value-take-le 10 text i (omega arith) in
    later _ _ (later _ _ (refused _ _ (ap (λ b. not b) (le-ltb (digits_value 10 text) (2 ^ 32) (omega arith)))))

-- other digits are
pub number-read : (text : List ℕ) → (length text == 0) ≡ false → length text ≤ 10 → list_all is_digit text ≡ true → digits_value 10 text < 2 ^ 32
    → number text ≡ Ok (digits_value 10 text)
unfolding numbers_open
number-read [] low high digits small = cc
number-read (c ∷ text) low high digits small = grind arith

-- the value of one digit more
pub value-more : (text : List ℕ) (i : ℕ) → i < length text → is_digit (get_or text i 0) ≡ true
    → digits_value 10 (take (i + 1) text) ≡ digits_value 10 (take i text) * 10 + (get_or text i 0 - 48)
value-more text i within digit =
    let value : digit_value (get_or text i 0) ≡ get_or text i 0 - 48 = grind (arith, nat_tests) in
    digits_value_more 10 text i within ∙ ap (λ d. digits_value 10 (take i text) * 10 + d) value

pub digits-more : (text : List ℕ) (i : ℕ) → i < length text → list_all is_digit (take i text) ≡ true → is_digit (get_or text i 0) ≡ true
    → list_all is_digit (take (i + 1) text) ≡ true
digits-more text i within so_far digit = rw (list_all_more is_digit text i 0 within, so_far, digit) refl

-- ---- texts and bytes

-- digits are a text, so a number is
digits_are_ascii : (text : List ℕ) → list_all is_digit text ≡ true → IsAscii text
digits_are_ascii [] h = IsAscii-nil
digits_are_ascii (c ∷ text) h = IsAscii-cons c text (grind (arith, nat_tests)) (digits_are_ascii text (grind arith))

no_text_no_number : (text : List ℕ) → is_utf8 text ≡ false → number text ≡ Err BadText
unfolding number
no_text_no_number text e = later _ _ (refused _ _ (by (list_all is_digit text) refl))
  where
    by : (b : Bool) → list_all is_digit text ≡ b → not b ≡ true
    by true h = let is : is_utf8 text ≡ true = is_utf8-from_IsUtf8 text (IsUtf8-from_ascii text (digits_are_ascii text h)) in cc
    by false h = refl

-- the number at a place is the number of the bytes there
pub number_at_bytes : (fields : List (List ℕ)) (i : ℕ) (f : List ℕ) → field_at fields i ≡ Some f → number_at fields i ≡ number f
unfolding ◌>>=◌ ◌>>◌ ◌or◌ refuse◌when◌ text_at number_at
number_at_bytes fields i f e = rw e (by (is_utf8 f) refl)
  where
    by : (b : Bool) → is_utf8 f ≡ b → (((refuse BadText when not b) >> Ok f) >>= number) ≡ number f
    by true h = refl
    by false h = sym (no_text_no_number f h)

pub number_at_none : (fields : List (List ℕ)) (i : ℕ) → field_at fields i ≡ None → number_at fields i ≡ Err BadText
unfolding ◌>>=◌ ◌>>◌ ◌or◌ refuse◌when◌ text_at number_at
number_at_none fields i e = rw e refl

-- ---- a row, or its refusal

-- where nothing is refused behind two names, they are texts
names_are_texts : {A : Type 0} (f n : List ℕ) (next : List ℕ → List ℕ → Result A Refusal) → is_err (name f >>= λ f. name n >>= λ n. next f n) ≡ false
    → (is_utf8 f ≡ true) × (is_utf8 n ≡ true)
unfolding name ◌>>=◌
names_are_texts f n next = by (is_name f) (is_name n) refl refl
  where
    is_text : (text : List ℕ) → is_name text ≡ true → is_utf8 text ≡ true
    is_text text named = is_utf8-from_IsUtf8 text (name_is_text text named)

    by : (b c : Bool) → is_name f ≡ b → is_name n ≡ c
        → is_err ((if b then Ok f else Err BadName) >>= λ f. (if c then Ok n else Err BadName) >>= λ n. next f n) ≡ false
        → (is_utf8 f ≡ true) × (is_utf8 n ≡ true)
    by true true ef en e = (is_text f ef, is_text n en)
    by true false ef en e = cc
    by false c ef en e = cc

-- so what is read of the bytes at the places of names is the row
pub placement_read : (p : Params) (fields : List (List ℕ)) (f n channels : List ℕ) (slot base repetition : ℕ) (row : Result Row Refusal)
    → row ≡ placement_row p f n slot channels base repetition → is_err row ≡ false → field_at fields 0 ≡ Some f → field_at fields 1 ≡ Some n
    → number_at fields 2 ≡ Ok slot → text_at fields 3 ≡ Ok channels → number_at fields 4 ≡ Ok base → number_at fields 5 ≡ Ok repetition → row ≡ placement_in p fields
unfolding placement_in placement_row text_at ◌>>=◌ ◌>>◌ ◌or◌ refuse◌when◌
placement_read p fields f n channels slot base repetition row is read e0 e1 e2 e3 e4 e5 =
    let texts = names_are_texts f n _ (rw is at read) in
    rw (e0, e1, texts.0, texts.1, e2, e3, e4, e5) is

pub signal_read : (fields : List (List ℕ)) (f n order : List ℕ) (start size : ℕ) (row : Result Row Refusal)
    → row ≡ signal_row f n start size order → is_err row ≡ false → field_at fields 0 ≡ Some f → field_at fields 1 ≡ Some n
    → number_at fields 2 ≡ Ok start → number_at fields 3 ≡ Ok size → text_at fields 4 ≡ Ok order → row ≡ signal_in fields
unfolding signal_in signal_row text_at ◌>>=◌ ◌>>◌ ◌or◌ refuse◌when◌
signal_read fields f n order start size row is read e0 e1 e2 e3 e4 =
    let texts = names_are_texts f n _ (rw is at read) in
    rw (e0, e1, texts.0, texts.1, e2, e3, e4) is

pub refused-where : {A E : Type 0} (r : Result A E) → is_ok r ≡ false → is_err r ≡ true
refused-where (Ok x) e = cc
refused-where (Err x) e = refl

pub read-where : {A E : Type 0} (r : Result A E) → is_ok r ≡ true → is_err r ≡ false
read-where (Ok x) e = refl
read-where (Err x) e = cc

-- ---- a header

-- whether fields are these names
abbrev pub are_named : List (List ℕ) → List (Bor (List ℕ)) → Bool
are_named fields names = pointwise same_text fields (map (λ name. name.now) names)

-- a field, and those after it
named-next : (fields : List (List ℕ)) (names : List (Bor (List ℕ))) (i : ℕ) (f t : List ℕ) (d : Bor (List ℕ)) → field_at fields i ≡ Some f → i < length names → t ≡ (get_or names i d).now
    → are_named (drop i fields) (drop i names) ≡ (same_text f t && are_named (drop (suc i) fields) (drop (suc i) names))
unfolding field_at
named-next [] names i f t d e h is = cc
named-next (g ∷ fields) [] i f t d e h is = absurd (omega arith)
named-next (g ∷ fields) (m ∷ names) zero f t d e h is = let same : g ≡ f = cc in rw (same, is) refl
named-next (g ∷ fields) (m ∷ names) (suc i) f t d e h is = named-next fields names i f t d e (omega arith) is

-- where the field has its name, those after it decide
pub named-same : (fields : List (List ℕ)) (names : List (Bor (List ℕ))) (i : ℕ) (f t : List ℕ) (d : Bor (List ℕ)) → field_at fields i ≡ Some f → i < length names → t ≡ (get_or names i d).now
    → not (same_text f t) ≡ false → are_named (drop i fields) (drop i names) ≡ are_named (drop (suc i) fields) (drop (suc i) names)
named-same fields names i f t d e h is same = named-next fields names i f t d e h is ∙ by (same_text f t) same
  where
    by : (b : Bool) → not b ≡ false → (b && are_named (drop (suc i) fields) (drop (suc i) names)) ≡ are_named (drop (suc i) fields) (drop (suc i) names)
    by true n = refl
    by false n = cc

-- where it has another, they are not the names
pub named-other : (fields : List (List ℕ)) (names : List (Bor (List ℕ))) (i : ℕ) (f t : List ℕ) (d : Bor (List ℕ)) → field_at fields i ≡ Some f → i < length names → t ≡ (get_or names i d).now
    → not (same_text f t) ≡ true → are_named (drop i fields) (drop i names) ≡ false
named-other fields names i f t d e h is other = named-next fields names i f t d e h is ∙ by (same_text f t) other
  where
    by : (b : Bool) → not b ≡ true → (b && are_named (drop (suc i) fields) (drop (suc i) names)) ≡ false
    by true n = cc
    by false n = refl

-- nor where there is no field for a name
none-left : (names : List (Bor (List ℕ))) (i : ℕ) → i < length names → are_named [] (drop i names) ≡ false
none-left [] i h = absurd (omega arith)
none-left (m ∷ names) zero h = refl
none-left (m ∷ names) (suc i) h = none-left names i (omega arith)

pub named-gone : (fields : List (List ℕ)) (names : List (Bor (List ℕ))) (i : ℕ) → field_at fields i ≡ None → i < length names
    → are_named (drop i fields) (drop i names) ≡ false
unfolding field_at
named-gone fields [] i e h = absurd (omega arith)
named-gone [] (m ∷ names) zero e h = refl
named-gone [] (m ∷ names) (suc i) e h = none-left names i (omega arith)
named-gone (g ∷ fields) (m ∷ names) zero e h = cc
named-gone (g ∷ fields) (m ∷ names) (suc i) e h = named-gone fields names i e (omega arith)
