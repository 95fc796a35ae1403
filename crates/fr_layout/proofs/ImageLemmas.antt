-- Laws of the image of values.
use Rattle.std.proofs.Common.{◌≡◌, ◌≢◌, ℕ, ◌+◌, ◌*◌, ◌/◌, ◌%◌, ◌^◌, ◌<◌, ◌≤◌, Bool, true, false, not, List, [], ◌∷◌, length, map, get_or, Option, Some, None, Result, Ok, Err, refl, sym, ◌∙◌, ap, arith, eqb, ltb, leb, subst}
use Rattle.std.specs.List.{range_with_len, zip}
use Rattle.std.specs.Option.{option_map_or}
use Rattle.std.specs.Int.{bit_at}
use Rattle.std.proofs.lemmas.Bool.Decides.{nat_tests, Decides-eqb}
use Rattle.std.proofs.lemmas.Nat.Bits.{bit_at-lt}
use Rattle.std.proofs.lemmas.List.{get_or-map, get_or_past, ext_get_or, length-map}
use Rattle.std.proofs.lemmas.List.FromFn.{get_or-map-range_with_len, length-map-range_with_len, fill_by_all}
use Rattle.std.proofs.lemmas.Slice.Zip.{length-zip, get_or-zip}
use Rattle.fr_base.specs.declared.signal.Order.TheVariants.{Little}
use Rattle.fr_base.specs.Refusing.{◌>>=◌, ◌>>◌, refuse◌when◌}
use Rattle.fr_base.specs.Signals.{SignalData}
use Rattle.fr_base.specs.Bits.{bits_of, entry_of, payload_bit, value_in, image_bit, image_byte, image}
use Rattle.fr_base.specs.Layouts.{LayoutData, IsLayout}
use Rattle.fr_layout.specs.Packing.{first_too_large, too_large, packed, unpacked, FailsAs}
use Rattle.fr_layout.specs.declared.pack_fault.PackFault.{PackFault}
use Rattle.fr_layout.specs.declared.pack_fault.PackFault.TheVariants.{WrongCount, WrongLength, TooLarge}
use Rattle.fr_layout.proofs.BitsLemmas.{image_bit_at, bit_at-from_bits, from_bits_all, length-bits_of}
use Rattle.fr_base.proofs.LayoutLaws.{none_of}
use Rattle.fr_layout.proofs.LayoutLemmas.{inside_below, position_none}

image_bit_below : (signals : List SignalData) (values : List ℕ) (p : ℕ) → image_bit signals values p < 2
image_bit_below [] values p = omega arith
image_bit_below (s ∷ signals) [] p = omega arith
image_bit_below (s ∷ signals) (v ∷ values) p = by_entry (entry_of (bits_of s) p) (image_bit_below signals values p)
  where
    by_entry : (o : Option ℕ) → image_bit signals values p < 2 → option_map_or (bit_at v) o (image_bit signals values p) < 2
    by_entry None below = below
    by_entry (Some i) below = bit_at-lt v i

-- the bits of a byte of the image
byte_bits_below : (signals : List SignalData) (values : List ℕ) (j k : ℕ) → get_or (map (image_bit signals values) (range_with_len (8 * j) 8)) k 0 < 2
byte_bits_below signals values j k = by_test (ltb k 8) refl
  where
    by_test : (b : Bool) → ltb k 8 ≡ b → get_or (map (image_bit signals values) (range_with_len (8 * j) 8)) k 0 < 2
    by_test true h =
        let within : k < 8 = grind (arith, nat_tests) in
        omega (arith, get_or-map-range_with_len (image_bit signals values) (8 * j) 8 k (8 * j + k) 0 within refl, image_bit_below signals values (8 * j + k))
    by_test false h =
        let past : 8 ≤ k = grind (arith, nat_tests) in
        omega (arith, get_or_past (map (image_bit signals values) (range_with_len (8 * j) 8)) k 0 (omega (arith, length-map-range_with_len (image_bit signals values) (8 * j) 8)))

pub payload_bit-image : (words : ℕ) (signals : List SignalData) (values : List ℕ) (p : ℕ) → p < 16 * words → payload_bit (image words signals values) p ≡ image_bit signals values p
unfolding image
payload_bit-image words signals values p below =
    let place : 8 * (p / 8) + p % 8 ≡ p = omega arith in
    ap (λ b. bit_at b (p % 8)) (get_or-map-range_with_len (image_byte signals values) 0 (2 * words) (p / 8) (p / 8) 0 (omega arith) (omega arith))
    ∙ (bit_at-from_bits (map (image_bit signals values) (range_with_len (8 * (p / 8)) 8)) (p % 8) (byte_bits_below signals values (p / 8))
    ∙ get_or-map-range_with_len (image_bit signals values) (8 * (p / 8)) 8 (p % 8) p 0 (omega arith) place)

pub length-image : (words : ℕ) (signals : List SignalData) (values : List ℕ) → length (image words signals values) ≡ 2 * words
unfolding image
length-image words signals values = length-map-range_with_len (image_byte signals values) 0 (2 * words)

-- bytes with the image's bits are the image
pub image_of_bits : (words : ℕ) (signals : List SignalData) (values bytes : List ℕ) → length bytes ≡ 2 * words → ((j : ℕ) → get_or bytes j 0 < 2 ^ 8) →
    ((p : ℕ) → payload_bit bytes p ≡ image_bit signals values p) → bytes ≡ image words signals values
unfolding image
image_of_bits words signals values bytes size small bits = fill_by_all (image_byte signals values) bytes (2 * words) 0 size (λ j h. sym (byte j))
  where
    bit : (j i : ℕ) → i < 8 → get_or (map (image_bit signals values) (range_with_len (8 * j) 8)) i 0 ≡ bit_at (get_or bytes j 0) i
    bit j i h =
        let byte_is : (8 * j + i) / 8 ≡ j = omega arith in
        let bit_is : (8 * j + i) % 8 ≡ i = omega arith in
        get_or-map-range_with_len (image_bit signals values) (8 * j) 8 i (8 * j + i) 0 h refl
        ∙ (sym (bits (8 * j + i)) ∙ (ap (λ n. bit_at (get_or bytes n 0) ((8 * j + i) % 8)) byte_is ∙ ap (bit_at (get_or bytes j 0)) bit_is))

    byte : (j : ℕ) → image_byte signals values j ≡ get_or bytes j 0
    byte j =
        let eight : length (map (image_bit signals values) (range_with_len (8 * j) 8)) ≡ 8 = length-map-range_with_len (image_bit signals values) (8 * j) 8 in
        from_bits_all (map (image_bit signals values) (range_with_len (8 * j) 8)) (get_or bytes j 0) (subst (λ n. get_or bytes j 0 < 2 ^ n) (sym eight) (small j)) (λ i h. bit j i (omega arith))

-- ---- the faults

packing : Bool → Option ℕ → List ℕ → Result (List ℕ) PackFault
packing right_count large bytes = do
  refuse WrongCount when (not right_count)
  too_large large
  Ok bytes

packing_is : (l : LayoutData) (values : List ℕ) → packed l values ≡ packing (eqb (length values) (length l.signals)) (first_too_large l.signals values) (image l.words l.signals values)
unfolding packed packing
packing_is l values = refl

pub packed_count : (l : LayoutData) (values : List ℕ) → length values ≢ length l.signals → packed l values ≡ Err WrongCount
unfolding packing ◌>>=◌ ◌>>◌ refuse◌when◌
packed_count l values other =
    let wrong : eqb (length values) (length l.signals) ≡ false = grind (arith, nat_tests, other) in
    packing_is l values ∙ ap (λ b. packing b (first_too_large l.signals values) (image l.words l.signals values)) wrong

pub packed_large : (l : LayoutData) (values : List ℕ) (i : ℕ) → length values ≡ length l.signals → first_too_large l.signals values ≡ Some i → packed l values ≡ Err (TooLarge i)
unfolding packing ◌>>=◌ ◌>>◌ refuse◌when◌
packed_large l values i count large =
    packing_is l values
    ∙ (ap (λ b. packing b (first_too_large l.signals values) (image l.words l.signals values)) ((Decides-eqb (length values) (length l.signals)).1 count)
    ∙ ap (λ o. packing true o (image l.words l.signals values)) large)

pub packed_ok : (l : LayoutData) (values : List ℕ) → length values ≡ length l.signals → first_too_large l.signals values ≡ None → packed l values ≡ Ok (image l.words l.signals values)
unfolding packing ◌>>=◌ ◌>>◌ refuse◌when◌
packed_ok l values count small =
    packing_is l values
    ∙ (ap (λ b. packing b (first_too_large l.signals values) (image l.words l.signals values)) ((Decides-eqb (length values) (length l.signals)).1 count)
    ∙ ap (λ o. packing true o (image l.words l.signals values)) small)

unpacking : Bool → List ℕ → Result (List ℕ) PackFault
unpacking right_length values = do
  refuse WrongLength when (not right_length)
  Ok values

unpacking_is : (l : LayoutData) (bytes : List ℕ) → unpacked l bytes ≡ unpacking (eqb (length bytes) (2 * l.words)) (map (value_in bytes) l.signals)
unfolding unpacked unpacking
unpacking_is l bytes = refl

pub unpacked_length : (l : LayoutData) (bytes : List ℕ) → length bytes ≢ 2 * l.words → unpacked l bytes ≡ Err WrongLength
unfolding unpacking ◌>>=◌ ◌>>◌ refuse◌when◌
unpacked_length l bytes other =
    let wrong : eqb (length bytes) (2 * l.words) ≡ false = grind (arith, nat_tests, other) in
    unpacking_is l bytes ∙ ap (λ b. unpacking b (map (value_in bytes) l.signals)) wrong

pub unpacked_ok : (l : LayoutData) (bytes : List ℕ) → length bytes ≡ 2 * l.words → unpacked l bytes ≡ Ok (map (value_in bytes) l.signals)
unfolding unpacking ◌>>=◌ ◌>>◌ refuse◌when◌
unpacked_ok l bytes size = unpacking_is l bytes ∙ ap (λ b. unpacking b (map (value_in bytes) l.signals)) ((Decides-eqb (length bytes) (2 * l.words)).1 size)

pub fails_first : {A : Type 0} (r : Result A PackFault) (want first : PackFault) → r ≡ Err first → FailsAs want first r
fails_first {A} r want first e = subst (λ (r : Result A PackFault). FailsAs want first r) (sym e) refl

pub fails_want : {A : Type 0} (r : Result A PackFault) (want : PackFault) (x : A) → r ≡ Ok x → FailsAs want want r
fails_want {A} r want x e = subst (λ (r : Result A PackFault). FailsAs want want r) (sym e) refl

-- ---- unpack undoes pack

packed_facts : (a : Bool) (o : Option ℕ) (image bytes : List ℕ) → packing a o image ≡ Ok bytes → (a ≡ true) × (o ≡ None) × (image ≡ bytes)
unfolding packing ◌>>=◌ ◌>>◌ refuse◌when◌
packed_facts false o image bytes e = cc
packed_facts true (Some i) image bytes e = cc
packed_facts true None image bytes e = (refl, refl, cc)

-- each value fits
value_below : (signals : List SignalData) (values : List ℕ) (k : ℕ) (d : SignalData) → first_too_large signals values ≡ None → k < length signals → k < length values → get_or values k 0 < 2 ^ (get_or signals k d).length
value_below signals values k d none in_signals in_values =
    let within : k < length (zip signals values) = omega (arith, length-zip signals values) in
    let fits : leb (2 ^ (get_or (zip signals values) k (d, 0)).0.length) (get_or (zip signals values) k (d, 0)).1 ≡ false =
    none_of (λ (p : SignalData × ℕ). leb (2 ^ p.0.length) p.1) (zip signals values) (position_none (λ (p : SignalData × ℕ). leb (2 ^ p.0.length) p.1) (zip signals values) (sym none)) k (d, 0) within in
    let pair : get_or (zip signals values) k (d, 0) ≡ (get_or signals k d, get_or values k 0) = get_or-zip signals values k (d, 0) in_signals in_values in
    below (2 ^ (get_or signals k d).length) (get_or values k 0) (sym (ap (λ (p : SignalData × ℕ). leb (2 ^ p.0.length) p.1) pair) ∙ fits)
  where
    below : (a b : ℕ) → leb a b ≡ false → b < a
    below a b h = grind (arith, nat_tests)

value_again : (l : LayoutData) (values : List ℕ) (k : ℕ) (d : SignalData) → IsLayout l → first_too_large l.signals values ≡ None → k < length l.signals → k < length values →
    value_in (image l.words l.signals values) (get_or l.signals k d) ≡ get_or values k 0
unfolding value_in
value_again l values k d sound none in_signals in_values =
    from_bits_all (map (payload_bit (image l.words l.signals values)) (bits_of s)) (get_or values k 0)
    (subst (λ n. get_or values k 0 < 2 ^ n) (sym size) (value_below l.signals values k d none in_signals in_values)) each
  where
    s : SignalData
    s = get_or l.signals k d

    size : length (map (payload_bit (image l.words l.signals values)) (bits_of s)) ≡ s.length
    size = length-map (bits_of s) (payload_bit (image l.words l.signals values)) ∙ length-bits_of s

    each : (i : ℕ) → i < length (map (payload_bit (image l.words l.signals values)) (bits_of s)) → get_or (map (payload_bit (image l.words l.signals values)) (bits_of s)) i 0 ≡ bit_at (get_or values k 0) i
    each i h =
        let within : i < length (bits_of s) = omega (arith, size, length-bits_of s) in
        get_or-map (payload_bit (image l.words l.signals values)) (bits_of s) i 0 0 within
        ∙ (payload_bit-image l.words l.signals values (get_or (bits_of s) i 0) (inside_below s l.words (16 * l.words) (sound.inside k d in_signals) (omega arith) i 0 within)
        ∙ image_bit_at l.signals values k i d sound.apart in_signals in_values (omega (arith, length-bits_of s)))

pub unpack_undoes_pack : (l : LayoutData) (values bytes : List ℕ) → IsLayout l → packed l values ≡ Ok bytes → unpacked l bytes ≡ Ok values
unpack_undoes_pack l values bytes sound e =
    let facts = packed_facts (eqb (length values) (length l.signals)) (first_too_large l.signals values) (image l.words l.signals values) bytes (sym (packing_is l values) ∙ e) in
    let count : length values ≡ length l.signals = (Decides-eqb (length values) (length l.signals)).0 facts.0 in
    unpacked_ok l bytes (sym (ap length facts.2) ∙ length-image l.words l.signals values)
    ∙ ap Ok (ext_get_or 0 (map (value_in bytes) l.signals) values (length-map l.signals (value_in bytes) ∙ sym count) (λ k h.
    let within : k < length l.signals = omega (arith, length-map l.signals (value_in bytes)) in
    get_or-map (value_in bytes) l.signals k (first_of k) 0 within
    ∙ (ap (λ b. value_in b (get_or l.signals k (first_of k))) (sym facts.2) ∙ value_again l values k (first_of k) sound facts.1 within (omega arith))))
  where
    first_of : ℕ → SignalData
    first_of k = record { name = []; start = 0; length = 1; order = Little }
