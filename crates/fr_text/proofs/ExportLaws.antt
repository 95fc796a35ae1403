-- In a sound book the records of an export are words, and each is read as its row.
use Rattle.std.proofs.Common.{◌≡◌, ◌∙◌, ap, refl, subst, ℕ, zero, suc, ◌*◌, ◌^◌, ◌≤◌, ◌<◌, Bool, true, false, eqb, List, [], ◌∷◌, map, length, Option, Some, None, Result, Ok, IfOk, IsTrue, All, arith, is_some}
use Rattle.std.specs.Prelude.{T, ◌||◌, nat_lt, decimal, reverse}
use Rattle.std.specs.List.{AllByRecursion, list_all, list_any}
use Rattle.std.specs.FinMap.Entries.{find, is_sorted}
use Rattle.std.specs.Cmp.{tied_itself}
use Rattle.std.specs.Ordering.{is_eq, eq_by_cmp}
use Rattle.std.proofs.Common.{cond, inl, inr}
use Rattle.std.proofs.lemmas.Bool.{cases_Bool, and_parts, eqb-true, ltb-true, ltb-false, leb-true}
use Rattle.std.proofs.lemmas.Bool.Decides.{nat_tests}
use Rattle.std.proofs.lemmas.Fmt.{length-decimal-le}
use Rattle.std.proofs.lemmas.List.{length-map}
use Rattle.std.proofs.lemmas.List.Elements.{All-head, All-tail}
use Rattle.std.proofs.lemmas.List.Sorted.{IsPermutation-reverse, IsPermutation-sym, list_any-IsPermutation}
use Rattle.fr_base.specs.Bits.{bits_of, run_of, run_big}
use Rattle.fr_base.specs.Book.{Frame, Variant, Book, is_of, own}
use Rattle.fr_base.specs.Channels.{text_of_channels}
use Rattle.fr_base.specs.Cluster.{Cluster}
use Rattle.fr_base.specs.ExportedLaws.{exported_rows}
use Rattle.fr_base.specs.Exports.{exported, frame_records, placement_records, signal_records, part_of}
use Rattle.fr_base.specs.Keys.{owned, placement_order}
use Rattle.fr_base.specs.ImportRows.{header_of_body, row_of, rows_of_body, spelled}
use Rattle.fr_base.specs.Layouts.{lies_inside}
use Rattle.fr_base.specs.Names.{is_name}
use Rattle.fr_base.specs.Parameters.{check_params}
use Rattle.fr_base.specs.Queries.{found, shown}
use Rattle.fr_base.specs.Refusing.{◌>>=◌, ◌or◌}
use Rattle.fr_base.specs.Signals.{SignalData, is_signal_length, text_of_order}
use Rattle.fr_base.specs.Sound.{FitsCluster, IsSoundFrame, IsSoundVariant, IsSound}
use Rattle.fr_base.specs.TableRows.{first, second}
use Rattle.fr_base.specs.Tables.{Order, get, contains}
use Rattle.fr_base.specs.declared.answer.FrameRecord.{FrameRecord}
use Rattle.fr_base.specs.declared.answer.PlacementRecord.{PlacementRecord}
use Rattle.fr_base.specs.declared.answer.SignalRecord.{SignalRecord}
use Rattle.fr_base.specs.declared.answer.ReportRows.{ReportRows}
use Rattle.fr_base.specs.declared.answer.ReportRows.TheVariants.{FrameRecords, PlacementRecords, SignalRecords}
use Rattle.fr_base.specs.declared.actor.Actor.TheVariants.{Supplier}
use Rattle.fr_base.specs.declared.channel.Channels.{Channels}
use Rattle.fr_base.specs.declared.channel.Channels.TheVariants as channels
use Rattle.fr_base.specs.declared.import.Header.{Header}
use Rattle.fr_base.specs.declared.import.Header.TheVariants.{Frames, Placements, Signals}
use Rattle.fr_base.specs.declared.import.Row.{Row}
use Rattle.fr_base.specs.declared.import.Row.TheVariants.{AddFrame, Place, AddSignal}
use Rattle.fr_base.specs.declared.limits.TheConstants.{MAX_ROWS, MAX_IMPORT_BYTES}
use Rattle.fr_base.specs.declared.name.Name.{Name}
use Rattle.fr_base.specs.declared.params.Params.{Params}
use Rattle.fr_base.specs.declared.placement.Placement.{Placement}
use Rattle.fr_base.specs.declared.refusal.Refusal.{Refusal}
use Rattle.fr_base.specs.declared.refusal.Refusal.TheVariants.{NoVariant}
use Rattle.fr_base.specs.declared.report.Report.TheVariants.{Export}
use Rattle.fr_base.specs.declared.signal.Order.{Order as BitOrder}
use Rattle.fr_base.specs.declared.signal.Order.TheVariants.{Little, Big}
use Rattle.fr_base.proofs.CycleLemmas.{within}
use Rattle.fr_base.proofs.ParametersLaws.{few_words}
use Rattle.fr_base.proofs.SoundRefusing.{gives_when}
use Rattle.fr_base.proofs.SoundTables.{only-stood}
use Rattle.fr_base.proofs.TableLaws.{equal, none_above}
use Rattle.fr_text.proofs.ExportLemmas.{IsShort, file_text, file_header, file_read, file_short, part_all, part_few}
use Rattle.fr_text.proofs.FileLemmas.{IsRecord}
use Rattle.fr_text.proofs.RecordLemmas.{AreSmall, IsFineFrame, IsFinePlacement, IsFineSignal, frame_words, frame_read, placement_words, placement_read, signal_words, signal_read}
use Rattle.fr_text.specs.AnswerText.{report_of}
use Rattle.fr_text.specs.ExportLaws.{ExportIsReadBack, ExportIsWithinBytes, IsExport, read_from, sent}
use Rattle.fr_text.specs.Report.{frame_record, header_line, lines_of, lines_of_rows, placement_fields, placement_record, signal_fields, signal_record}
use Rattle.fr_text.specs.Styles.{plain_lines}
use Rattle.fr_text.specs.Words.{comma_line}

-- ---- lists

same_ok : {A : Type 0} (x y : A) (r : Result A Refusal) → r ≡ Ok x → r ≡ Ok y → x ≡ y
same_ok x y r a b = cc

all_more : {X : Type 0} (P Q : X → Type 0) (xs : List X) → ((x : X) → P x → Q x) → AllByRecursion P xs → AllByRecursion Q xs
all_more P Q [] more h = tt
all_more P Q (x ∷ xs) more h = (more x h.0, all_more P Q xs more h.1)

all_mapped : {X Y : Type 0} (P : Y → Type 0) (f : X → Y) (xs : List X) → AllByRecursion (λ x. P (f x)) xs → AllByRecursion P (map f xs)
all_mapped P f [] h = tt
all_mapped P f (x ∷ xs) h = (h.0, all_mapped P f xs h.1)

all_of : {X : Type 0} (P : X → Type 0) (xs : List X) → All P xs → AllByRecursion P xs
all_of P [] h = tt
all_of P (x ∷ xs) h = (All-head P x xs h, all_of P xs (All-tail P x xs h))

both_of : {X : Type 0} (P Q : X → Type 0) (xs : List X) → AllByRecursion P xs → AllByRecursion Q xs → AllByRecursion (λ x. P x × Q x) xs
both_of P Q [] h k = tt
both_of P Q (x ∷ xs) h k = ((h.0, k.0), both_of P Q xs h.1 k.1)

-- each row of a table is found by its key
rows_found : {K V : Type 0} (o : Order K) (es : List (K × V)) → T (is_sorted o.compare es) → AllByRecursion (λ e. find o.compare e.0 es ≡ Some e.1) es
rows_found o [] sorted = tt
rows_found {K} {V} o (x ∷ es) sorted = (here, all_more _ _ es later (rows_found o es (second _ _ sorted)))
  where
    here : find o.compare x.0 (x ∷ es) ≡ Some x.1
    here = ap (λ r. cond (is_eq r) (Some x.1) (find o.compare x.0 es)) (tied_itself o.total x.0)

    later : (e : K × V) → find o.compare e.0 es ≡ Some e.1 → find o.compare e.0 (x ∷ es) ≡ Some e.1
    later e there = elim (cases_Bool (eq_by_cmp o.compare e.0 x.0)) [
      | inl tie ↦ let none = none_above o (λ j w. true) e.0 x.0 es (equal _ tie) (first _ _ sorted) in cc
      | inr other ↦ rw other there
    ]

-- ---- numbers

second_false : (a b : Bool) → (a || b) ≡ false → b ≡ false
second_false true b e = cc
second_false false b e = e

slots_within : (p : Params) → IfOk (check_params p) (λ _. p.static_slots ≤ 1023)
unfolding check_params
slots_within p =
    gives_when _ _ (nat_lt p.static_slots 2 || nat_lt 1023 p.static_slots) _ (λ few.
    gives_when _ _ _ _ (λ _.
    gives_when _ _ _ _ (λ _.
    gives_when _ _ _ _ (λ _.
    gives_when _ _ _ _ (λ _. ltb-false 1023 p.static_slots (second_false _ _ few))))))

-- a cluster has at most 1023 static slots
pub few_slots : (p : Params) → check_params p ≡ Ok p → p.static_slots ≤ 1023
few_slots p form = subst (λ r. IfOk r (λ _. p.static_slots ≤ 1023)) form (slots_within p)

-- so the numbers of its placements are small
pub small : (p : Params) (q : Placement) → p.static_slots ≤ 1023 → FitsCluster p q → AreSmall q
small p q few fits =
    let set = within q.cycles fits.cycles in
    record {
      slot = omega (arith, few, fits.to_last);
      base = omega (arith, set.most, set.repetition, set.base);
      repetition = omega (arith, set.most, set.repetition);
    }

-- what all numbers of a list pass, one of them passes
one_of_all : (f : ℕ → Bool) (k : ℕ) (xs : List ℕ) → list_any (λ q. eqb q k) xs ≡ true → list_all f xs ≡ true → f k ≡ true
one_of_all f k [] there all = cc
one_of_all f k (x ∷ xs) there all = elim (cases_Bool (eqb x k)) [
  | inl same ↦ subst (λ (y : ℕ). f y ≡ true) (eqb-true x k same) (and_parts _ _ all).0
  | inr other ↦ one_of_all f k xs (rw other at there) (and_parts _ _ all).1
]

run_start : (o : BitOrder) (start n : ℕ) → 1 ≤ n → list_any (λ q. eqb q start) (run_of o start n) ≡ true
run_start o start zero h = absurd (omega arith)
run_start Little start (suc n) h = grind (arith, nat_tests)
run_start Big start (suc n) h =
    let run = run_big start (suc n) in
    list_any-IsPermutation (λ q. eqb q start) (reverse run) run (IsPermutation-sym run (reverse run) (IsPermutation-reverse run))
    ∙ grind (arith, nat_tests)

-- a signal starts within the payload
start_small : (s : SignalData) (words : ℕ) → words ≤ 127 → IsTrue (is_signal_length s.length) → IsTrue (lies_inside words s) → s.start < 4096
unfolding bits_of
start_small s words few long inside =
    let some : 1 ≤ s.length = leb-true 1 s.length (and_parts _ _ long).0 in
    let run = run_start s.order s.start s.length some in
    let below : s.start < 16 * words = ltb-true s.start (16 * words) (one_of_all (λ p. nat_lt p (16 * words)) s.start (bits_of s) run inside) in
    omega (arith, few, below)

-- ---- the records of a frame

module _ (p : Params) (s : Name) (f : Name) (frame : Frame) where
  -- of a sound frame each record is fine
  abbrev IsFine : Type 0
  IsFine = IsTrue (is_name f) × IsTrue (is_name frame.node)

  frame-fine : IsFine → AllByRecursion IsFineFrame (frame_records ((s, f), frame))
  frame-fine named = (named, tt)

  placements-fine : IsFine → ((q : Placement) → IsTrue (contains frame.placements q) → FitsCluster p q) → AllByRecursion (IsFinePlacement p) (placement_records ((s, f), frame))
  unfolding get
  placements-fine named fits =
      all_mapped (IsFinePlacement p) (λ q. record { frame = f; node = frame.node; placement = q.0; supplier = s }) frame.placements.rows
      (all_more _ _ frame.placements.rows (λ q there. (named.0, named.1, fits q.0 (ap is_some there))) (rows_found placement_order frame.placements.rows frame.placements.sorted))

  signals-fine : IsFine → p.payload_words ≤ 127 → All (λ x. IsTrue (is_name x.name)) frame.signals → All (λ x. IsTrue (is_signal_length x.length)) frame.signals
      → All (λ x. IsTrue (lies_inside p.payload_words x)) frame.signals → AllByRecursion IsFineSignal (signal_records ((s, f), frame))
  signals-fine named few names lengths inside =
      all_mapped IsFineSignal (λ x. record { frame = f; signal = x; supplier = s }) frame.signals
      (all_more _ _ frame.signals (λ x h. (named.0, h.0, h.1.0, start_small x p.payload_words few h.1.0 h.1.1))
      (both_of _ _ frame.signals (all_of _ frame.signals names) (both_of _ _ frame.signals (all_of _ frame.signals lengths) (all_of _ frame.signals inside))))

-- ---- the frames of a variant

module _ (c : Cluster) (b : Book) (sound : IsSound c b) (v : Name) (variant : Variant) (there : get b.variants v ≡ Some variant) (s : Name) where
  vouched : IsSoundVariant c.params b.nodes variant
  vouched = (sound.variants v variant there).1

  abbrev mine : List ((Name × Name) × Frame)
  mine = (own s variant.frames).rows

  abbrev IsThere : (Name × Name) × Frame → Type 0
  IsThere e = get variant.frames e.0 ≡ Some e.1

  mine_there : AllByRecursion IsThere mine
  unfolding get
  mine_there =
      all_more _ IsThere mine (λ e found. only-stood owned (λ k _. is_of s k) variant.frames e.0 e.1 found)
      (rows_found owned mine (own s variant.frames).sorted)

  frame_sound : (e : (Name × Name) × Frame) → IsThere e → IsSoundFrame c.params b.nodes variant.grants e.0 e.1
  frame_sound e is = vouched.frames e.0 e.1 is

  named : (e : (Name × Name) × Frame) → IsThere e → IsTrue (is_name e.0.1) × IsTrue (is_name e.1.node)
  named e is = let frame = frame_sound e is in (frame.name, (sound.nodes e.0.0 e.1.node frame.node).0)

  words_few : c.params.payload_words ≤ 127
  words_few = few_words c.params sound.cluster.params

  fine_frames : AllByRecursion (AllByRecursion IsFineFrame) (map frame_records mine)
  fine_frames =
      all_mapped (AllByRecursion IsFineFrame) frame_records mine
      (all_more IsThere _ mine (λ e is. frame-fine c.params e.0.0 e.0.1 e.1 (named e is)) mine_there)

  fine_placements : AllByRecursion (AllByRecursion (IsFinePlacement c.params)) (map placement_records mine)
  fine_placements =
      all_mapped (AllByRecursion (IsFinePlacement c.params)) placement_records mine
      (all_more IsThere _ mine (λ e is. placements-fine c.params e.0.0 e.0.1 e.1 (named e is) (frame_sound e is).fits) mine_there)

  fine_signals : AllByRecursion (AllByRecursion IsFineSignal) (map signal_records mine)
  fine_signals =
      all_mapped (AllByRecursion IsFineSignal) signal_records mine
      (all_more IsThere _ mine (λ e is. let frame = frame_sound e is in
      signals-fine c.params e.0.0 e.0.1 e.1 (named e is) words_few frame.signal_names frame.layout.lengths frame.layout.inside) mine_there)

-- ---- bytes

name_short : (text : List ℕ) → IsTrue (is_name text) → length text ≤ 32
unfolding is_name
name_short text h = leb-true (length text) 32 (and_parts _ _ (and_parts _ _ h).0).1

number_short : (n : ℕ) → n < 2 ^ 32 → length (decimal n) ≤ 10
number_short n fits = length-decimal-le 10 n (omega arith) (omega (arith, fits)) (omega (arith, fits))

channels_short : (cs : Channels) → length (text_of_channels cs) ≤ 2
channels_short channels.A = omega arith
channels_short channels.AB = omega arith
channels_short channels.B = omega arith

order_short : (o : BitOrder) → length (text_of_order o) ≤ 6
order_short Little = omega arith
order_short Big = omega arith

frame_short : (r : FrameRecord) → IsFineFrame r → IsShort (r.frame ∷ r.node ∷ [])
frame_short r h =
    let f = name_short r.frame h.0 in
    let n = name_short r.node h.1 in
    omega (arith, f, n)

pub placement_short : (p : Params) (r : PlacementRecord) → AreSmall r.placement → IsFinePlacement p r → IsShort (r.frame ∷ r.node ∷ placement_fields r.placement)
placement_short p r few h =
    let f = name_short r.frame h.0 in
    let n = name_short r.node h.1 in
    let k = number_short r.placement.slot few.slot in
    let cs = channels_short r.placement.channels in
    let base = number_short r.placement.cycles.base few.base in
    let repetition = number_short r.placement.cycles.repetition few.repetition in
    omega (arith, f, n, k, cs, base, repetition)

signal_short : (r : SignalRecord) → IsFineSignal r → IsShort (r.frame ∷ signal_fields r.signal)
signal_short r h =
    let f = name_short r.frame h.0 in
    let x = name_short r.signal.name h.1 in
    let start = number_short r.signal.start (omega (arith, h.3)) in
    let size : r.signal.length ≤ 64 = leb-true r.signal.length 64 (and_parts _ _ h.2).1 in
    let bits = number_short r.signal.length (omega (arith, size)) in
    let order = order_short r.signal.order in
    omega (arith, f, x, start, bits, order)

-- ---- what is sent

-- what the laws say of rows below a header
record IsGood (p : Params) (header : Header) (rows : ReportRows) : Type 0 where
  begins : header_of_body (sent rows) ≡ Some header
  read : rows_of_body p (sent rows) ≡ read_from 2 (exported_rows rows)
  few : length (exported_rows rows) ≤ MAX_ROWS
  short : length (sent rows) ≤ MAX_IMPORT_BYTES

module _ {R : Type 0} (p : Params) (header : Header) (fields : R → List (List ℕ)) (row : R → Row) (line : R → List ℕ) (same : (r : R) → line r ≡ comma_line (fields r)) where
  lines_are : (records : List R) → map line records ≡ map comma_line (map fields records)
  lines_are [] = refl
  lines_are (r ∷ records) = rw (same r, lines_are records) refl

  -- records of words that are read as their rows, and short
  good : (rows : ReportRows) (records : List R) → exported_rows rows ≡ map row records → sent rows ≡ plain_lines (comma_line (spelled header) ∷ map line records)
      → length records ≤ MAX_ROWS → AllByRecursion (λ r. IsRecord (fields r)) records → AllByRecursion (λ r. row_of p header (fields r) ≡ Ok (row r)) records
      → AllByRecursion (λ r. IsShort (fields r)) records → IsGood p header rows
  good rows records are says few words reads shorts =
      let text : sent rows ≡ file_text header (map fields records) = says ∙ ap (λ lines. plain_lines (comma_line (spelled header) ∷ lines)) (lines_are records) in
      let count : length (map row records) ≡ length records = length-map records row in
      let fields_count : length (map fields records) ≡ length records = length-map records fields in
      record {
        begins = rw text (file_header header (map fields records) (all_mapped IsRecord fields records words));
        read = rw (text, are) (file_read p header fields row records few words reads);
        few = rw (are, count) few;
        short = rw text (file_short header (map fields records) (rw fields_count few) (all_mapped IsShort fields records shorts));
      }

export_good : (c : Cluster) (b : Book) → IsSound c b → (v : Name) (variant : Variant) → get b.variants v ≡ Some variant → (s : Name) (header : Header) (part : ℕ)
    → IsGood c.params header (exported header part (own s variant.frames).rows)
unfolding exported report_of lines_of lines_of_rows header_line frame_record placement_record signal_record
export_good c b sound v variant there s Frames part =
    let lists = map frame_records (mine c b sound v variant there s) in
    let fine = part_all IsFineFrame part lists (fine_frames c b sound v variant there s) in
    good c.params Frames (λ r. r.frame ∷ r.node ∷ []) (λ r. AddFrame r.frame r.node) (frame_record false) (λ r. refl) (FrameRecords (part_of part lists)) (part_of part lists) refl refl
    (part_few part lists) (all_more IsFineFrame _ _ (λ r h. frame_words r h) fine) (all_more IsFineFrame _ _ (λ r h. frame_read c.params r h) fine)
    (all_more IsFineFrame _ _ (λ r h. frame_short r h) fine)
export_good c b sound v variant there s Placements part =
    let lists = map placement_records (mine c b sound v variant there s) in
    let fine = part_all (IsFinePlacement c.params) part lists (fine_placements c b sound v variant there s) in
    let slots = few_slots c.params sound.cluster.params in
    let few : (r : PlacementRecord) → IsFinePlacement c.params r → AreSmall r.placement = λ r h. small c.params r.placement slots h.2 in
    good c.params Placements (λ r. r.frame ∷ r.node ∷ placement_fields r.placement) (λ r. Place r.frame r.node r.placement) (placement_record false) (λ r. refl)
    (PlacementRecords (part_of part lists)) (part_of part lists) refl refl (part_few part lists)
    (all_more (IsFinePlacement c.params) _ _ (λ r h. placement_words c.params r (few r h) h) fine)
    (all_more (IsFinePlacement c.params) _ _ (λ r h. placement_read c.params r (few r h) h) fine)
    (all_more (IsFinePlacement c.params) _ _ (λ r h. placement_short c.params r (few r h) h) fine)
export_good c b sound v variant there s Signals part =
    let lists = map signal_records (mine c b sound v variant there s) in
    let fine = part_all IsFineSignal part lists (fine_signals c b sound v variant there s) in
    good c.params Signals (λ r. r.frame ∷ signal_fields r.signal) (λ r. AddSignal r.frame r.signal) (signal_record false) (λ r. refl)
    (SignalRecords (part_of part lists)) (part_of part lists) refl refl (part_few part lists)
    (all_more IsFineSignal _ _ (λ r h. signal_words r h) fine) (all_more IsFineSignal _ _ (λ r h. signal_read c.params r h) fine)
    (all_more IsFineSignal _ _ (λ r h. signal_short r h) fine)

-- the rows of an export, if there is one, are those of a variant that is there
pub record IsExported (c : Cluster) (b : Book) (s v : Name) (header : Header) (part : ℕ) (rows : ReportRows) : Type 0 where
  pub variant : Variant
  pub there : get b.variants v ≡ Some variant
  pub are : exported header part (own s variant.frames).rows ≡ rows

pub is_exported : (c : Cluster) (b : Book) (s v : Name) (header : Header) (part : ℕ) (rows : ReportRows) → IsExport c b s v header part rows → IsExported c b s v header part rows
unfolding found shown ◌>>=◌ ◌or◌
is_exported c b s v header part rows is = by (get b.variants v) refl is
  where
    by : (o : Option Variant) → get b.variants v ≡ o → ((o or NoVariant) >>= λ variant. shown c.params (Supplier s) variant (Export header part)) ≡ Ok rows → IsExported c b s v header part rows
    by None there e = cc
    by (Some variant) there e = record { variant = variant; there = there; are = same_ok _ rows _ refl e }

found_good : (c : Cluster) (b : Book) (s v : Name) (header : Header) (part : ℕ) (rows : ReportRows) → IsSound c b → IsExport c b s v header part rows → IsGood c.params header rows
found_good c b s v header part rows sound is =
    let of = is_exported c b s v header part rows is in
    subst (IsGood c.params header) of.are (export_good c b sound v of.variant of.there s header part)

pub export_is_read_back : ExportIsReadBack
export_is_read_back c b s v header part rows sound is =
    let rows_are = found_good c b s v header part rows sound is in
    (rows_are.read, rows_are.few)

pub export_is_within_bytes : ExportIsWithinBytes
export_is_within_bytes c b s v header part rows sound is = (found_good c b s v header part rows sound is).short

-- what a supplier is sent of an export begins with its header
pub export_begins : (c : Cluster) (b : Book) (s v : Name) (header : Header) (part : ℕ) (rows : ReportRows) → IsSound c b → IsExport c b s v header part rows → header_of_body (sent rows) ≡ Some header
export_begins c b s v header part rows sound is = (found_good c b s v header part rows sound is).begins
