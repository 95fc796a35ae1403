-- The records of an export, of names and of numbers that fit: their fields are words, and each is read as its row.
use Rattle.std.proofs.Common.{◌≡◌, refl, sym, ℕ, ◌^◌, ◌<◌, ◌≤◌, true, List, [], ◌∷◌, length, Ok, IsTrue, arith}
use Rattle.std.specs.Prelude.{decimal, nat_le, nat_lt}
use Rattle.std.specs.List.{list_all}
use Rattle.std.specs.Str.Parse.{AllDigits}
use Rattle.std.proofs.lemmas.Bool.{and_parts}
use Rattle.std.proofs.lemmas.Bool.Decides.{nat_tests}
use Rattle.std.proofs.lemmas.Fmt.{decimal_is_IsNumeral, length-decimal-le}
use Rattle.std.proofs.lemmas.Str.Parse.{digit_from_value}
use Rattle.csv.specs.Records.{field_at}
use Rattle.fr_base.specs.Channels.{channels_in, has_channel, text_of_channels}
use Rattle.fr_base.specs.Checks.{name, cycles, slot, channels, placement, signal}
use Rattle.fr_base.specs.ImportRows.{number, frame_row, placement_row, signal_row, row_of}
use Rattle.fr_base.specs.Names.{is_digit, is_name, is_name_byte}
use Rattle.fr_base.specs.Refusing.{◌>>=◌, ◌>>◌, ◌or◌, refuse◌when◌}
use Rattle.fr_base.specs.Signals.{SignalData, is_signal_length, text_of_order}
use Rattle.fr_base.specs.Sound.{FitsCluster}
use Rattle.fr_base.specs.declared.answer.FrameRecord.{FrameRecord}
use Rattle.fr_base.specs.declared.answer.PlacementRecord.{PlacementRecord}
use Rattle.fr_base.specs.declared.answer.SignalRecord.{SignalRecord}
use Rattle.fr_base.specs.declared.channel.Channels.{Channels}
use Rattle.fr_base.specs.declared.channel.Channels.TheVariants.{A, AB, B}
use Rattle.fr_base.specs.declared.import.Header.TheVariants.{Frames, Placements, Signals}
use Rattle.fr_base.specs.declared.import.Row.TheVariants.{AddFrame, Place, AddSignal}
use Rattle.fr_base.specs.declared.params.Params.{Params}
use Rattle.fr_base.specs.declared.placement.Placement.{Placement}
use Rattle.fr_base.specs.declared.signal.Order.{Order}
use Rattle.fr_base.specs.declared.signal.Order.TheVariants.{Little, Big}
use Rattle.fr_text.proofs.FileLemmas.{IsWord, IsRecord, word_is_text}
use Rattle.fr_text.proofs.ImportTextLemmas.{rows_open}
use Rattle.fr_text.specs.Report.{placement_fields, signal_fields}

-- what the records of a sound book have
abbrev pub IsFineFrame : FrameRecord → Type 0
IsFineFrame r = IsTrue (is_name r.frame) × IsTrue (is_name r.node)

abbrev pub IsFinePlacement : Params → PlacementRecord → Type 0
IsFinePlacement p r = IsTrue (is_name r.frame) × IsTrue (is_name r.node) × FitsCluster p r.placement

abbrev pub IsFineSignal : SignalRecord → Type 0
IsFineSignal r = IsTrue (is_name r.frame) × IsTrue (is_name r.signal.name) × IsTrue (is_signal_length r.signal.length) × (r.signal.start < 4096)

-- ---- the words of a record

pub name_word : (text : List ℕ) → IsTrue (is_name text) → IsWord text
unfolding is_name
name_word text h = (and_parts _ _ h).1

digits_word : (ds : List ℕ) → AllDigits 10 ds → IsWord ds × (list_all is_digit ds ≡ true)
digits_word [] h = (refl, refl)
digits_word (c ∷ ds) h =
    let digit = digit_from_value c h.0 in
    let others = digits_word ds h.1 in
    let low : nat_le 48 c ≡ true = grind (arith, nat_tests, digit.0) in
    let high : nat_le c 57 ≡ true = grind (arith, nat_tests, digit.1) in
    let is : is_digit c ≡ true = rw (low, high) refl in
    let byte : is_name_byte c ≡ true = grind (arith, nat_tests, digit.0, digit.1) in
    (rw (byte, others.0) refl, rw (is, others.1) refl)

pub decimal_word : (n : ℕ) → n < 2 ^ 32 → IsWord (decimal n)
decimal_word n fits = (digits_word (decimal n) (decimal_is_IsNumeral n (omega (arith, fits))).0.1).0

channels_word : (cs : Channels) → IsWord (text_of_channels cs)
channels_word A = refl
channels_word AB = refl
channels_word B = refl

order_word : (o : Order) → IsWord (text_of_order o)
order_word Little = refl
order_word Big = refl

-- ---- the values that words are read as

number_is : (n : ℕ) → n < 2 ^ 32 → number (decimal n) ≡ Ok n
unfolding number ◌>>◌ refuse◌when◌
number_is n fits =
    let numeral = decimal_is_IsNumeral n (omega (arith, fits)) in
    let some : nat_le 1 (length (decimal n)) ≡ true = grind (arith, nat_tests, numeral.0.0) in
    let size : length (decimal n) ≤ 10 = length-decimal-le 10 n (omega arith) (omega (arith, fits)) (omega (arith, fits)) in
    let few : nat_le (length (decimal n)) 10 ≡ true = grind (arith, nat_tests, size) in
    let digits = (digits_word (decimal n) numeral.0.1).1 in
    let below : nat_lt n (2 ^ 32) ≡ true = grind (arith, nat_tests, fits) in
    rw (some, few, digits, numeral.1, below) refl

cycles_are : (p : Params) (q : Placement) → FitsCluster p q → cycles p q.cycles.base q.cycles.repetition ≡ Ok q.cycles
unfolding cycles
cycles_are p q fits = rw (sym fits.count, fits.cycles) refl

slot_is : (p : Params) (n : ℕ) → 1 ≤ n → n ≤ p.static_slots → slot p n ≡ Ok n
unfolding slot
slot_is p n low high =
    let first : nat_le 1 n ≡ true = grind (arith, nat_tests, low) in
    let last : nat_le n p.static_slots ≡ true = grind (arith, nat_tests, high) in
    rw (first, last) refl

channels_are : (p : Params) (cs : Channels) → IsTrue (list_all (has_channel p.channels) (channels_in cs)) → channels p (text_of_channels cs) ≡ Ok cs
unfolding channels ◌>>=◌ ◌>>◌ ◌or◌ refuse◌when◌
channels_are p A h = rw h refl
channels_are p AB h = rw h refl
channels_are p B h = rw h refl

placement_is : (p : Params) (q : Placement) → FitsCluster p q → placement p q.slot (text_of_channels q.channels) q.cycles.base q.cycles.repetition ≡ Ok q
unfolding placement ◌>>=◌
placement_is p q fits = rw (cycles_are p q fits, slot_is p q.slot fits.from_one fits.to_last, channels_are p q.channels fits.channels) refl

signal_is : (s : SignalData) → IsTrue (is_signal_length s.length) → signal s.name s.start s.length (text_of_order s.order) ≡ Ok s
unfolding signal ◌>>=◌ ◌>>◌ ◌or◌ refuse◌when◌
signal_is s h = by s.order
  where
    by : (o : Order) → signal s.name s.start s.length (text_of_order o) ≡ Ok (record { name = s.name; start = s.start; length = s.length; order = o })
    by Little = rw h refl
    by Big = rw h refl

-- ---- records

pub frame_words : (r : FrameRecord) → IsFineFrame r → IsRecord (r.frame ∷ r.node ∷ [])
frame_words r h = (name_word r.frame h.0, (name_word r.node h.1, tt))

pub frame_read : (p : Params) (r : FrameRecord) → IsFineFrame r → row_of p Frames (r.frame ∷ r.node ∷ []) ≡ Ok (AddFrame r.frame r.node)
unfolding rows_open field_at frame_row name
frame_read p r h = rw (word_is_text r.frame (name_word r.frame h.0), word_is_text r.node (name_word r.node h.1), h.0, h.1) refl

-- the numbers of a placement are small
pub record AreSmall (q : Placement) : Type 0 where
  pub slot : q.slot < 2 ^ 32
  pub base : q.cycles.base < 2 ^ 32
  pub repetition : q.cycles.repetition < 2 ^ 32

pub placement_words : (p : Params) (r : PlacementRecord) → AreSmall r.placement → IsFinePlacement p r → IsRecord (r.frame ∷ r.node ∷ placement_fields r.placement)
placement_words p r small h = (
  name_word r.frame h.0,
  (
    name_word r.node h.1,
    (
      decimal_word r.placement.slot small.slot,
      (
        channels_word r.placement.channels,
        (decimal_word r.placement.cycles.base small.base, (decimal_word r.placement.cycles.repetition small.repetition, tt)),
      ),
    ),
  ),
)

pub placement_read : (p : Params) (r : PlacementRecord) → AreSmall r.placement → IsFinePlacement p r
    → row_of p Placements (r.frame ∷ r.node ∷ placement_fields r.placement) ≡ Ok (Place r.frame r.node r.placement)
unfolding rows_open field_at placement_row name
placement_read p r small h =
    let words = placement_words p r small h in
    rw (
      word_is_text r.frame words.0,
      word_is_text r.node words.1.0,
      word_is_text (decimal r.placement.slot) words.1.1.0,
      word_is_text (text_of_channels r.placement.channels) words.1.1.1.0,
      word_is_text (decimal r.placement.cycles.base) words.1.1.1.1.0,
      word_is_text (decimal r.placement.cycles.repetition) words.1.1.1.1.1.0,
      number_is r.placement.slot small.slot,
      number_is r.placement.cycles.base small.base,
      number_is r.placement.cycles.repetition small.repetition,
      h.0,
      h.1,
      placement_is p r.placement h.2,
    ) refl

-- so are those of a signal
small_length : (n : ℕ) → IsTrue (is_signal_length n) → n < 2 ^ 32
small_length n h = grind (arith, nat_tests, h)

pub signal_words : (r : SignalRecord) → IsFineSignal r → IsRecord (r.frame ∷ signal_fields r.signal)
signal_words r h = (
  name_word r.frame h.0,
  (
    name_word r.signal.name h.1,
    (
      decimal_word r.signal.start (omega (arith, h.3)),
      (decimal_word r.signal.length (small_length r.signal.length h.2), (order_word r.signal.order, tt)),
    ),
  ),
)

pub signal_read : (p : Params) (r : SignalRecord) → IsFineSignal r → row_of p Signals (r.frame ∷ signal_fields r.signal) ≡ Ok (AddSignal r.frame r.signal)
unfolding rows_open field_at signal_row name
signal_read p r h =
    let words = signal_words r h in
    rw (
      word_is_text r.frame words.0,
      word_is_text r.signal.name words.1.0,
      word_is_text (decimal r.signal.start) words.1.1.0,
      word_is_text (decimal r.signal.length) words.1.1.1.0,
      word_is_text (text_of_order r.signal.order) words.1.1.1.1.0,
      number_is r.signal.start (omega (arith, h.3)),
      number_is r.signal.length (small_length r.signal.length h.2),
      h.0,
      h.1,
      signal_is r.signal h.2,
    ) refl
