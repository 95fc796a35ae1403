-- A record is fine below a header exactly where some cluster takes its row.
use Rattle.std.proofs.Common.{◌≡◌, ◌∙◌, ap, refl, subst, ℕ, zero, suc, ◌+◌, ◌<◌, ◌≤◌, Bool, true, false, cond, List, [], ◌∷◌, length, Option, Some, None, Result, Ok, Err, IfOk, inl, inr, arith, leb-true}
use Rattle.std.specs.Prelude.{not, ◌&&◌, ◌||◌, ◌==◌, is_some, nat_le, nat_lt}
use Rattle.std.specs.List.{list_all, list_any, range_with_len}
use Rattle.std.specs.Result.{is_ok}
use Rattle.std.proofs.lemmas.Bool.{and_from, and_parts, cases_Bool, cases_lt, le-leb, ltb-false, or_parts, or_right}
use Rattle.fr_base.specs.Channels.{channels_in, channels_of_text, has_channel}
use Rattle.fr_base.specs.Checks.{channels, cycles, name, placement, signal, slot}
use Rattle.fr_base.specs.Cycles.{Cycles, are_cycles, is_cycle_count, is_repetition}
use Rattle.fr_base.specs.ImportRows.{frame_in, frame_row, number_at, placement_in, placement_row, row_of, signal_in, signal_row, spelled, text_at}
use Rattle.fr_base.specs.Names.{is_name}
use Rattle.fr_base.specs.Numbers.{is_slot}
use Rattle.fr_base.specs.Parameters.{check_params}
use Rattle.fr_base.specs.Refusing.{◌>>=◌, ◌>>◌, ◌or◌, refuse◌when◌}
use Rattle.fr_base.specs.Signals.{SignalData, is_signal_length, order_of_text}
use Rattle.fr_base.specs.declared.channel.Channels.{Channels}
use Rattle.fr_base.specs.declared.channel.Channels.TheVariants as both
use Rattle.fr_base.specs.declared.import.Header.{Header}
use Rattle.fr_base.specs.declared.import.Header.TheVariants.{Frames, Placements, Signals}
use Rattle.fr_base.specs.declared.import.Row.{Row}
use Rattle.fr_base.specs.declared.import.Row.TheVariants.{AddFrame, AddSignal, Place}
use Rattle.fr_base.specs.declared.params.Params.{Params}
use Rattle.fr_base.specs.declared.params.RawParams.{RawParams}
use Rattle.fr_base.specs.declared.refusal.Refusal.{Refusal}
use Rattle.fr_base.specs.declared.refusal.Refusal.TheVariants.{BadCycles, BadName, BadText}
use Rattle.fr_base.specs.declared.signal.Order.{Order}
use Rattle.fr_base.proofs.SoundRefusing.{gives_bind, gives_each, gives_or, gives_unless, gives_when}
use Rattle.fr_base.specs.Wishes.{spelled_wishes, wish, wish_in, wish_of}
use Rattle.fr_base.specs.declared.wish.Wish.{Wish}
use Rattle.fr_guide.proofs.FormedRows.{is_formed_record, misformed_records, name_of}
use Rattle.fr_guide.specs.Laws.{FineRowsAreTaken, IsTaken, is_misformed, misforms}
use Rattle.fr_guide.specs.Rows.{is_base_below, is_fine_frame, is_fine_placement, is_fine_row, is_fine_signal, is_fine_wish, is_some_repetition, name_at, passes, repeats_in, writes_channels, writes_order}
use Rattle.fr_guide.specs.declared.rows.file_kind.FileKind.{FileKind}
use Rattle.fr_guide.specs.declared.rows.file_kind.FileKind.TheVariants.{Rows, Wishes}

-- ---- what is read, and passes a test

there : {A : Type 0} (r : Result A Refusal) → is_ok r ≡ true → (x : A) × (r ≡ Ok x)
there (Ok x) is = (x, refl)
there (Err refusal) is = cc

passed : {A : Type 0} (test : A → Bool) (r : Result A Refusal) → passes test r ≡ true → (x : A) × (r ≡ Ok x) × (test x ≡ true)
passed test (Ok x) is = (x, refl, is)
passed test (Err refusal) is = cc

passing : {A : Type 0} (test : A → Bool) (r : Result A Refusal) (x : A) → r ≡ Ok x → test x ≡ true → passes test r ≡ true
passing test r x is passes_it = rw is passes_it

found : {A : Type 0} (o : Option A) → is_some o ≡ true → (x : A) × (o ≡ Some x)
found (Some x) is = (x, refl)
found None is = cc

-- ---- tests in a row

six_parts : (a b c d e f : Bool) → (a && b && c && d && e && f) ≡ true → (a ≡ true) × (b ≡ true) × (c ≡ true) × (d ≡ true) × (e ≡ true) × (f ≡ true)
six_parts true true true true true true is = (refl, refl, refl, refl, refl, refl)
six_parts false b c d e f is = cc
six_parts true false c d e f is = cc
six_parts true true false d e f is = cc
six_parts true true true false e f is = cc
six_parts true true true true false f is = cc
six_parts true true true true true false is = cc

four_parts : (a b c d : Bool) → (a && b && c && d) ≡ true → (a ≡ true) × (b ≡ true) × (c ≡ true) × (d ≡ true)
four_parts true true true true is = (refl, refl, refl, refl)
four_parts false b c d is = cc
four_parts true false c d is = cc
four_parts true true false d is = cc
four_parts true true true false is = cc

five_parts : (a b c d e : Bool) → (a && b && c && d && e) ≡ true → (a ≡ true) × (b ≡ true) × (c ≡ true) × (d ≡ true) × (e ≡ true)
five_parts true true true true true is = (refl, refl, refl, refl, refl)
five_parts false b c d e is = cc
five_parts true false c d e is = cc
five_parts true true false d e is = cc
five_parts true true true false e is = cc
five_parts true true true true false is = cc

six_from : (a b c d e f : Bool) → a ≡ true → b ≡ true → c ≡ true → d ≡ true → e ≡ true → f ≡ true → (a && b && c && d && e && f) ≡ true
six_from a b c d e f ha hb hc hd he hf = rw (ha, hb, hc, hd, he, hf) refl

four_from : (a b c d : Bool) → a ≡ true → b ≡ true → c ≡ true → d ≡ true → (a && b && c && d) ≡ true
four_from a b c d ha hb hc hd = rw (ha, hb, hc, hd) refl

five_from : (a b c d e : Bool) → a ≡ true → b ≡ true → c ≡ true → d ≡ true → e ≡ true → (a && b && c && d && e) ≡ true
five_from a b c d e ha hb hc hd he = rw (ha, hb, hc, hd, he) refl

-- ---- a number in a range of which one passes a test

any_in_range : (test : ℕ → Bool) (n k : ℕ) (count : ℕ) → n ≤ k → k < n + count → test k ≡ true → list_any test (range_with_len n count) ≡ true
any_in_range test n k zero from to is = absurd (omega (arith, from, to))
any_in_range test n k (suc count) from to is = elim (cases_lt n k) [
  | inl above ↦ or_right (test n) _ (any_in_range test (n + 1) k count (omega (arith, above)) (omega (arith, to)) is)
  | inr at ↦
      let same : k ≡ n = omega (arith, from, at) in
      let here : test n ≡ true = subst (λ m. test m ≡ true) same is in
      rw here refl
]

some_in : (test : ℕ → Bool) (numbers : List ℕ) → list_any test numbers ≡ true → (k : ℕ) × (test k ≡ true)
some_in test [] is = cc
some_in test (n ∷ numbers) is = elim (cases_Bool (test n)) [
  | inl here ↦ (n, here)
  | inr other ↦ some_in test numbers (let rest : (false || list_any test numbers) ≡ true = subst (λ b. (b || list_any test numbers) ≡ true) other is in rest)
]

-- a repetition that some cluster has, and its count of cycles
some_count : (repetition : ℕ) → is_some_repetition repetition ≡ true → (count : ℕ) × (repeats_in repetition count ≡ true)
unfolding is_some_repetition
some_count repetition is = some_in (repeats_in repetition) (range_with_len 0 65) is

some_repetition : (repetition count : ℕ) → is_cycle_count count ≡ true → is_repetition count repetition ≡ true → is_some_repetition repetition ≡ true
unfolding is_some_repetition
some_repetition repetition count counted divides =
    let range = and_parts (nat_le 8 count && nat_le count 64) _ counted in
    let most = leb-true count 64 (and_parts (nat_le 8 count) (nat_le count 64) range.0).1 in
    any_in_range (repeats_in repetition) 0 count 65 (omega arith) (omega (arith, most)) (and_from (is_cycle_count count) (is_repetition count repetition) counted divides)

-- ---- a row that a cluster takes is fine

name-told : (text : List ℕ) → IfOk (name text) (λ _. is_name text ≡ true)
unfolding name
name-told text = by (is_name text) refl
  where
    by : (named : Bool) → is_name text ≡ named → IfOk (cond named (Ok text) (Err BadName)) (λ _. is_name text ≡ true)
    by true is = is
    by false is = tt

few_slots : (p : RawParams) → IfOk (check_params p) (λ _. p.static_slots ≤ 1023)
unfolding check_params
few_slots p =
    gives_when _ _ (nat_lt p.static_slots 2 || nat_lt 1023 p.static_slots) _ (λ few.
    gives_when _ _ _ _ (λ _.
    gives_when _ _ _ _ (λ _.
    gives_when _ _ _ _ (λ _.
    gives_when _ _ _ _ (λ _. ltb-false 1023 p.static_slots (or_parts (nat_lt p.static_slots 2) (nat_lt 1023 p.static_slots) few).1)))))

counted_cycles : (p : RawParams) → IfOk (check_params p) (λ _. is_cycle_count p.cycles ≡ true)
unfolding check_params
counted_cycles p =
    gives_when _ _ _ _ (λ _.
    gives_when _ _ _ _ (λ _.
    gives_when _ _ _ _ (λ _.
    gives_when _ _ _ _ (λ _.
    gives_unless _ _ (is_cycle_count p.cycles) _ (λ counted. counted)))))

cycles-told : (p : Params) (base repetition : ℕ) → IfOk (cycles p base repetition) (λ _. (nat_lt base repetition ≡ true) × (is_some_repetition repetition ≡ true))
unfolding cycles
cycles-told p base repetition =
    let s : Cycles = record { count = p.cycles; base = base; repetition = repetition } in
    elim (cases_Bool (are_cycles s)) [
      | inl h ↦
          let parts = and_parts (is_cycle_count p.cycles) (is_repetition p.cycles repetition && nat_lt base repetition) h in
          let both = and_parts (is_repetition p.cycles repetition) (nat_lt base repetition) parts.1 in
          rw h ((both.1, some_repetition repetition p.cycles parts.0 both.0))
      | inr h ↦ rw h tt
    ]

slot-told : (p : Params) (n : ℕ) → p.static_slots ≤ 1023 → IfOk (slot p n) (λ _. is_slot n ≡ true)
unfolding slot
slot-told p n few = elim (cases_Bool (nat_le 1 n && nat_le n p.static_slots)) [
  | inl h ↦
      let parts = and_parts (nat_le 1 n) (nat_le n p.static_slots) h in
      let most = leb-true n p.static_slots parts.1 in
      rw h (and_from (nat_le 1 n) (nat_le n 1023) parts.0 (le-leb n 1023 (omega (arith, most, few))))
  | inr h ↦ rw h tt
]

channels-told : (p : Params) (text : List ℕ) → IfOk (channels p text) (λ _. writes_channels text ≡ true)
unfolding channels
channels-told p text = gives_or _ (channels_of_text text) _ _ (λ cs is. gives_unless _ _ (list_all (has_channel p.channels) (channels_in cs)) _ (λ h. ap is_some is))

-- what the numbers and the text of a placement pass
record IsPlaceable (number : ℕ) (text : List ℕ) (base repetition : ℕ) : Type 0 where
  pub slot : is_slot number ≡ true
  pub channels : writes_channels text ≡ true
  pub below : nat_lt base repetition ≡ true
  pub repeats : is_some_repetition repetition ≡ true

placement-told : (p : Params) (number : ℕ) (text : List ℕ) (base repetition : ℕ) → p.static_slots ≤ 1023
    → IfOk (placement p number text base repetition) (λ _. IsPlaceable number text base repetition)
unfolding placement
placement-told p number text base repetition few =
    gives_bind _ _ (cycles p base repetition) _ (cycles-told p base repetition) (λ r repeats.
    gives_bind _ _ (slot p number) _ (slot-told p number few) (λ k is.
    gives_bind _ _ (channels p text) _ (channels-told p text) (λ cs writes.
    record { slot = is; channels = writes; below = repeats.0; repeats = repeats.1 })))

signal-told : (n : List ℕ) (start length : ℕ) (text : List ℕ)
    → IfOk (signal n start length text) (λ _. (is_signal_length length ≡ true) × (writes_order text ≡ true))
unfolding signal
signal-told n start length text = gives_or _ (order_of_text text) _ _ (λ order is. gives_unless _ _ (is_signal_length length) _ (λ h. (h, ap is_some is)))

-- the name at a place
name_there : (fields : List (List ℕ)) (place : ℕ) (text : List ℕ) → text_at fields place ≡ Ok text → is_name text ≡ true → is_ok (name_at fields place) ≡ true
name_there fields place text is named = name_of fields place text is ∙ named

frame-fine : (fields : List (List ℕ)) → IfOk (frame_in fields) (λ _. is_fine_frame fields ≡ true)
unfolding frame_in frame_row is_fine_frame
frame-fine fields =
    gives_each _ (text_at fields 0) _ (λ frame is0.
    gives_each _ (text_at fields 1) _ (λ node is1.
    gives_bind _ _ (name frame) _ (name-told frame) (λ f named0.
    gives_bind _ _ (name node) _ (name-told node) (λ n named1.
    and_from _ _ (name_there fields 0 frame is0 named0) (name_there fields 1 node is1 named1)))))

placement-fine : (p : Params) (fields : List (List ℕ)) → p.static_slots ≤ 1023 → IfOk (placement_in p fields) (λ _. is_fine_placement fields ≡ true)
unfolding placement_in placement_row is_fine_placement
placement-fine p fields few =
    gives_each _ (text_at fields 0) _ (λ frame is0.
    gives_each _ (text_at fields 1) _ (λ node is1.
    gives_each _ (number_at fields 2) _ (λ number is2.
    gives_each _ (text_at fields 3) _ (λ text is3.
    gives_each _ (number_at fields 4) _ (λ base is4.
    gives_each _ (number_at fields 5) _ (λ repetition is5.
    gives_bind _ _ (name frame) _ (name-told frame) (λ f named0.
    gives_bind _ _ (name node) _ (name-told node) (λ n named1.
    gives_bind _ _ (placement p number text base repetition) _ (placement-told p number text base repetition few) (λ q may.
    six_from _ _ _ _ _ _ (name_there fields 0 frame is0 named0) (name_there fields 1 node is1 named1)
    (passing is_slot _ number is2 may.slot) (passing writes_channels _ text is3 may.channels)
    (below_there (number_at fields 4) (number_at fields 5) base repetition is4 is5 may.below)
    (passing is_some_repetition _ repetition is5 may.repeats))))))))))
  where
    below_there : (b r : Result ℕ Refusal) (base repetition : ℕ) → b ≡ Ok base → r ≡ Ok repetition → nat_lt base repetition ≡ true → is_base_below b r ≡ true
    below_there b r base repetition is4 is5 below = rw is4 (rw is5 below)

signal-fine : (fields : List (List ℕ)) → IfOk (signal_in fields) (λ _. is_fine_signal fields ≡ true)
unfolding signal_in signal_row is_fine_signal
signal-fine fields =
    gives_each _ (text_at fields 0) _ (λ frame is0.
    gives_each _ (text_at fields 1) _ (λ named is1.
    gives_each _ (number_at fields 2) _ (λ start is2.
    gives_each _ (number_at fields 3) _ (λ length is3.
    gives_each _ (text_at fields 4) _ (λ order is4.
    gives_bind _ _ (name frame) _ (name-told frame) (λ f named0.
    gives_bind _ _ (name named) _ (name-told named) (λ n named1.
    gives_bind _ _ (signal n start length order) _ (signal-told n start length order) (λ x may.
    five_from _ _ _ _ _ (name_there fields 0 frame is0 named0) (name_there fields 1 named is1 named1)
    (ap is_ok is2) (passing is_signal_length _ length is3 may.0) (passing writes_order _ order is4 may.1)))))))))

wish-fine : (p : Params) (fields : List (List ℕ)) → is_cycle_count p.cycles ≡ true → IfOk (wish_in p fields) (λ _. is_fine_wish fields ≡ true)
unfolding wish_in wish is_fine_wish
wish-fine p fields counted =
    gives_each _ (text_at fields 0) _ (λ frame is0.
    gives_each _ (text_at fields 1) _ (λ node is1.
    gives_each _ (text_at fields 2) _ (λ text is2.
    gives_each _ (number_at fields 3) _ (λ repetition is3.
    gives_bind _ _ (name frame) _ (name-told frame) (λ f named0.
    gives_bind _ _ (name node) _ (name-told node) (λ n named1.
    gives_unless _ _ (is_repetition p.cycles repetition) _ (λ divides.
    gives_bind _ _ (channels p text) _ (channels-told p text) (λ cs writes.
    four_from _ _ _ _ (name_there fields 0 frame is0 named0) (name_there fields 1 node is1 named1) (passing writes_channels _ text is2 writes)
    (passing is_some_repetition _ repetition is3 (some_repetition repetition p.cycles counted divides))))))))))

-- behind the test of how many fields there are
last : {A : Type 0} (r : Result A Refusal) (fine fits : Bool) → fits ≡ true → IfOk r (λ _. fine ≡ true) → IfOk r (λ _. (fits && fine) ≡ true)
last (Ok x) fine fits is others = and_from fits fine is others
last (Err refusal) fine fits is others = tt

row-fine : (p : Params) (header : Header) (fields : List (List ℕ)) → p.static_slots ≤ 1023 → IfOk (row_of p header fields) (λ _. is_fine_row (Rows header) fields ≡ true)
unfolding row_of is_fine_row
row-fine p Frames fields few =
    gives_unless _ _ (length fields == length (spelled Frames)) _ (λ fits.
    last (frame_in fields) (is_fine_frame fields) (length fields == length (spelled Frames)) fits (frame-fine fields))
row-fine p Placements fields few =
    gives_unless _ _ (length fields == length (spelled Placements)) _ (λ fits.
    last (placement_in p fields) (is_fine_placement fields) (length fields == length (spelled Placements)) fits (placement-fine p fields few))
row-fine p Signals fields few =
    gives_unless _ _ (length fields == length (spelled Signals)) _ (λ fits.
    last (signal_in fields) (is_fine_signal fields) (length fields == length (spelled Signals)) fits (signal-fine fields))

wish_of-fine : (p : Params) (fields : List (List ℕ)) → is_cycle_count p.cycles ≡ true → IfOk (wish_of p fields) (λ _. is_fine_row Wishes fields ≡ true)
unfolding wish_of is_fine_row
wish_of-fine p fields counted =
    gives_unless _ _ (length fields == length spelled_wishes) _ (λ fits.
    last (wish_in p fields) (is_fine_wish fields) (length fields == length spelled_wishes) fits (wish-fine p fields counted))

taken_is_fine : (kind : FileKind) (fields : List (List ℕ)) → IsTaken kind fields → is_fine_row kind fields ≡ true
taken_is_fine (Rows header) fields (p, form, row, is) =
    let few : p.static_slots ≤ 1023 = subst (λ r. IfOk r (λ _. p.static_slots ≤ 1023)) form (few_slots p) in
    subst (λ r. IfOk r (λ _. is_fine_row (Rows header) fields ≡ true)) is (row-fine p header fields few)
taken_is_fine Wishes fields (p, form, wish, is) =
    let counted : is_cycle_count p.cycles ≡ true = subst (λ r. IfOk r (λ _. is_cycle_count p.cycles ≡ true)) form (counted_cycles p) in
    subst (λ r. IfOk r (λ _. is_fine_row Wishes fields ≡ true)) is (wish_of-fine p fields counted)

-- ---- a fine row is taken by a cluster with as many slots as there may be, and both channels

behind : {A B : Type 0} (r : Result A Refusal) (f : A → Result B Refusal) (x : A) (result : Result B Refusal) → r ≡ Ok x → f x ≡ result → (r >>= f) ≡ result
unfolding ◌>>=◌
behind r f x result is others = rw is others

abbrev cluster_of : ℕ → Params
cluster_of count = record {
  channels = both.AB;
  static_slots = 1023;
  slot_macroticks = 1;
  dynamic_macroticks = 0;
  symbol_macroticks = 0;
  idle_macroticks = 1;
  macroticks_per_cycle = 1024;
  payload_words = 0;
  cycles = count;
}

is_cluster : (count : ℕ) → is_cycle_count count ≡ true → check_params (cluster_of count) ≡ Ok (cluster_of count)
unfolding check_params ◌>>◌ refuse◌when◌
is_cluster count counted = rw counted refl

-- what is not refused goes on
unrefused : {B : Type 0} (fits : Bool) (r : Result B Refusal) (result : Result B Refusal) → fits ≡ true → r ≡ result → ((refuse BadCycles when not fits) >> r) ≡ result
unfolding ◌>>◌ refuse◌when◌
unrefused fits r result is others = rw is others

is_a_name : (text : List ℕ) → is_name text ≡ true → name text ≡ Ok text
unfolding name
is_a_name text is = rw is refl

-- a text of which a name is read is one
read_name : (text : List ℕ) → is_ok (name text) ≡ true → is_name text ≡ true
unfolding name
read_name text = by (is_name text)
  where
    by : (named : Bool) → is_ok (cond named (Ok text) (Err BadName)) ≡ true → named ≡ true
    by true is = refl
    by false is = is

-- the text at a place that is a name
named_there : (fields : List (List ℕ)) (place : ℕ) → is_ok (name_at fields place) ≡ true → (text : List ℕ) × (text_at fields place ≡ Ok text) × (is_name text ≡ true)
unfolding name_at ◌>>=◌
named_there fields place = by (text_at fields place) refl
  where
    by : (r : Result (List ℕ) Refusal) → text_at fields place ≡ r → is_ok (r >>= name) ≡ true → (text : List ℕ) × (text_at fields place ≡ Ok text) × (is_name text ≡ true)
    by (Ok text) at is = (text, at, read_name text is)
    by (Err refusal) at is = cc

are_some_cycles : (count base repetition : ℕ) → is_cycle_count count ≡ true → is_repetition count repetition ≡ true → nat_lt base repetition ≡ true
    → cycles (cluster_of count) base repetition ≡ Ok (record { count = count; base = base; repetition = repetition })
unfolding cycles
are_some_cycles count base repetition counted divides below =
    let s : Cycles = record { count = count; base = base; repetition = repetition } in
    let are : are_cycles s ≡ true = and_from (is_cycle_count count) _ counted (and_from (is_repetition count repetition) (nat_lt base repetition) divides below) in
    rw are refl

is_a_slot : (count n : ℕ) → is_slot n ≡ true → slot (cluster_of count) n ≡ Ok n
unfolding slot
is_a_slot count n is = rw is refl

are_channels : (count : ℕ) (text : List ℕ) (cs : Channels) → channels_of_text text ≡ Some cs → channels (cluster_of count) text ≡ Ok cs
unfolding channels ◌>>=◌ ◌>>◌ ◌or◌ refuse◌when◌
are_channels count text both.A is = rw is refl
are_channels count text both.AB is = rw is refl
are_channels count text both.B is = rw is refl

is_a_signal : (n : List ℕ) (start length : ℕ) (text : List ℕ) (order : Order) → order_of_text text ≡ Some order → is_signal_length length ≡ true
    → signal n start length text ≡ Ok (record { name = n; start = start; length = length; order = order })
unfolding signal ◌>>=◌ ◌>>◌ ◌or◌ refuse◌when◌
is_a_signal n start length text order is fits = rw is (rw fits refl)

frame-taken : (fields : List (List ℕ)) → is_fine_frame fields ≡ true → (row : Row) × (frame_in fields ≡ Ok row)
unfolding is_fine_frame frame_in frame_row
frame-taken fields fine =
    let names = and_parts (is_ok (name_at fields 0)) (is_ok (name_at fields 1)) fine in
    let frame = named_there fields 0 names.0 in
    let node = named_there fields 1 names.1 in (
      AddFrame frame.0 node.0,
      behind _ _ frame.0 _ frame.1 (behind _ _ node.0 _ node.1 (behind _ _ frame.0 _ (is_a_name frame.0 frame.2) (behind _ _ node.0 _ (is_a_name node.0 node.2) refl))),
    )

-- a base and a repetition, each a number
cycles_there : (b r : Result ℕ Refusal) → is_base_below b r ≡ true → passes is_some_repetition r ≡ true
    → (base : ℕ) × (repetition : ℕ) × (b ≡ Ok base) × (r ≡ Ok repetition) × (nat_lt base repetition ≡ true) × (is_some_repetition repetition ≡ true)
cycles_there (Ok base) (Ok repetition) below repeats = (base, repetition, refl, refl, below, repeats)
cycles_there (Ok base) (Err refusal) below repeats = cc
cycles_there (Err refusal) r below repeats = cc

placement-taken : (fields : List (List ℕ)) → is_fine_placement fields ≡ true
    → (count : ℕ) × (is_cycle_count count ≡ true) × (row : Row) × (placement_in (cluster_of count) fields ≡ Ok row)
unfolding is_fine_placement placement_in placement_row placement
placement-taken fields fine =
    let parts = six_parts (is_ok (name_at fields 0)) (is_ok (name_at fields 1)) (passes is_slot (number_at fields 2)) (passes writes_channels (text_at fields 3))
    (is_base_below (number_at fields 4) (number_at fields 5)) (passes is_some_repetition (number_at fields 5)) fine in
    let frame = named_there fields 0 parts.0 in
    let node = named_there fields 1 parts.1 in
    let number = passed is_slot (number_at fields 2) parts.2 in
    let text = passed writes_channels (text_at fields 3) parts.3 in
    let cs = found (channels_of_text text.0) text.2 in
    let r = cycles_there (number_at fields 4) (number_at fields 5) parts.4 parts.5 in
    let in_some = some_count r.1 r.5 in
    let count : ℕ = in_some.0 in
    let counted = and_parts (is_cycle_count count) (is_repetition count r.1) in_some.1 in (
      count,
      counted.0,
      Place frame.0 node.0 (record { slot = number.0; channels = cs.0; cycles = record { count = count; base = r.0; repetition = r.1 } }),
      behind _ _ frame.0 _ frame.1 (behind _ _ node.0 _ node.1 (behind _ _ number.0 _ number.1 (behind _ _ text.0 _ text.1 (behind _ _ r.0 _ r.2 (behind _ _ r.1 _ r.3
          (behind _ _ frame.0 _ (is_a_name frame.0 frame.2) (behind _ _ node.0 _ (is_a_name node.0 node.2)
          (behind _ _ (record { slot = number.0; channels = cs.0; cycles = record { count = count; base = r.0; repetition = r.1 } }) _
          (behind _ _ (record { count = count; base = r.0; repetition = r.1 }) _ (are_some_cycles count r.0 r.1 counted.0 counted.1 r.4)
          (behind _ _ number.0 _ (is_a_slot count number.0 number.2) (behind _ _ cs.0 _ (are_channels count text.0 cs.0 cs.1) refl)))
          refl)))))))),
    )

signal-taken : (fields : List (List ℕ)) → is_fine_signal fields ≡ true → (row : Row) × (signal_in fields ≡ Ok row)
unfolding is_fine_signal signal_in signal_row
signal-taken fields fine =
    let parts = five_parts (is_ok (name_at fields 0)) (is_ok (name_at fields 1)) (is_ok (number_at fields 2)) (passes is_signal_length (number_at fields 3))
    (passes writes_order (text_at fields 4)) fine in
    let frame = named_there fields 0 parts.0 in
    let named = named_there fields 1 parts.1 in
    let start = there (number_at fields 2) parts.2 in
    let long = passed is_signal_length (number_at fields 3) parts.3 in
    let text = passed writes_order (text_at fields 4) parts.4 in
    let order = found (order_of_text text.0) text.2 in
    let made : SignalData = record { name = named.0; start = start.0; length = long.0; order = order.0 } in (
      AddSignal frame.0 made,
      behind _ _ frame.0 _ frame.1 (behind _ _ named.0 _ named.1 (behind _ _ start.0 _ start.1 (behind _ _ long.0 _ long.1 (behind _ _ text.0 _ text.1
          (behind _ _ frame.0 _ (is_a_name frame.0 frame.2) (behind _ _ named.0 _ (is_a_name named.0 named.2)
          (behind _ _ made _ (is_a_signal named.0 start.0 long.0 text.0 order.0 order.1 long.2) refl))))))),
    )

wish-taken : (fields : List (List ℕ)) → is_fine_wish fields ≡ true
    → (count : ℕ) × (is_cycle_count count ≡ true) × (wish : Wish) × (wish_in (cluster_of count) fields ≡ Ok wish)
unfolding is_fine_wish wish_in wish
wish-taken fields fine =
    let parts = four_parts (is_ok (name_at fields 0)) (is_ok (name_at fields 1)) (passes writes_channels (text_at fields 2)) (passes is_some_repetition (number_at fields 3)) fine in
    let frame = named_there fields 0 parts.0 in
    let node = named_there fields 1 parts.1 in
    let text = passed writes_channels (text_at fields 2) parts.2 in
    let cs = found (channels_of_text text.0) text.2 in
    let r = passed is_some_repetition (number_at fields 3) parts.3 in
    let in_some = some_count r.0 r.2 in
    let count : ℕ = in_some.0 in
    let counted = and_parts (is_cycle_count count) (is_repetition count r.0) in_some.1 in (
      count,
      counted.0,
      record { frame = frame.0; node = node.0; channels = cs.0; repetition = r.0 },
      behind _ _ frame.0 _ frame.1 (behind _ _ node.0 _ node.1 (behind _ _ text.0 _ text.1 (behind _ _ r.0 _ r.1
          (behind _ _ frame.0 _ (is_a_name frame.0 frame.2) (behind _ _ node.0 _ (is_a_name node.0 node.2)
          (unrefused _ _ _ counted.1 (behind _ _ cs.0 _ (are_channels count text.0 cs.0 cs.1) refl))))))),
    )

-- the fields of a row, of which there are as many as the header has
fitting : {A : Type 0} (fits : Bool) (r : Result A Refusal) (x : A) → fits ≡ true → r ≡ Ok x → ((refuse BadText when not fits) >> r) ≡ Ok x
unfolding ◌>>◌ refuse◌when◌
fitting fits r x is others = rw is others

fine_is_taken : (kind : FileKind) (fields : List (List ℕ)) → is_fine_row kind fields ≡ true → IsTaken kind fields
unfolding is_fine_row row_of wish_of
fine_is_taken (Rows Frames) fields fine =
    let parts = and_parts (length fields == length (spelled Frames)) (is_fine_frame fields) fine in
    let taken = frame-taken fields parts.1 in
    (cluster_of 64, is_cluster 64 refl, taken.0, fitting _ _ taken.0 parts.0 taken.1)
fine_is_taken (Rows Placements) fields fine =
    let parts = and_parts (length fields == length (spelled Placements)) (is_fine_placement fields) fine in
    let taken = placement-taken fields parts.1 in
    (cluster_of taken.0, is_cluster taken.0 taken.1, taken.2, fitting _ _ taken.2 parts.0 taken.3)
fine_is_taken (Rows Signals) fields fine =
    let parts = and_parts (length fields == length (spelled Signals)) (is_fine_signal fields) fine in
    let taken = signal-taken fields parts.1 in
    (cluster_of 64, is_cluster 64 refl, taken.0, fitting _ _ taken.0 parts.0 taken.1)
fine_is_taken Wishes fields fine =
    let parts = and_parts (length fields == length spelled_wishes) (is_fine_wish fields) fine in
    let taken = wish-taken fields parts.1 in
    (cluster_of taken.0, is_cluster taken.0 taken.1, taken.2, fitting _ _ taken.2 parts.0 taken.3)

-- ---- a record that is refused for its text or a name is not fine

taken_is_formed : (kind : FileKind) (fields : List (List ℕ)) → IsTaken kind fields → is_formed_record kind fields ≡ true
taken_is_formed (Rows header) fields (p, form, row, is) = misformed_records p (Rows header) fields ∙ ap (λ r. not (is_misformed r)) is
taken_is_formed Wishes fields (p, form, wish, is) = misformed_records p Wishes fields ∙ ap (λ r. not (is_misformed r)) is

misformed_is_not : (kind : FileKind) (fields : List (List ℕ)) (p : Params) → misforms p kind fields ≡ true → is_fine_row kind fields ≡ false
misformed_is_not kind fields p refused = elim (cases_Bool (is_fine_row kind fields)) [
  | inl fine ↦
      let formed : is_formed_record kind fields ≡ true = taken_is_formed kind fields (fine_is_taken kind fields fine) in
      let none : is_formed_record kind fields ≡ false = misformed_records p kind fields ∙ ap not refused in
      cc
  | inr not_fine ↦ not_fine
]

pub rows_are_taken : FineRowsAreTaken
rows_are_taken kind fields = record { taken = fine_is_taken kind fields; fine = taken_is_fine kind fields; misformed = misformed_is_not kind fields }
