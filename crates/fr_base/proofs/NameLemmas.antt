-- A name is ASCII, and so a text; and what is a name, byte by byte.
use Rattle.std.proofs.Common.{◌≡◌, ◌∙◌, ap, ◌⊎◌, inl, inr, ℕ, ◌+◌, ◌<◌, ◌≤◌, Bool, true, false, List, [], ◌∷◌, length, take, get_or, IsUtf8, arith, refl}
use Rattle.std.specs.Prelude.{nat_le, ◌&&◌, map}
use Rattle.std.specs.List.{list_all, range_with_len}
use Rattle.std.specs.Str.{IsAscii}
use Rattle.std.proofs.lemmas.Bool.Decides.{nat_tests}
use Rattle.std.proofs.lemmas.Str.{IsUtf8-from_ascii}
use Rattle.std.proofs.lemmas.Str.Ascii.{IsAscii-nil, IsAscii-cons}
use Rattle.std.proofs.lemmas.List.Folds.{list_all_at, list_all_more}
use Rattle.std.proofs.lemmas.List.FromFn.{get_or-map-range_with_len}
use Rattle.fr_base.specs.declared.name.TheConstants.{NAME_BYTES}
use Rattle.fr_base.specs.Names.{is_name, is_name_byte, starts_with_letter}

pub name_byte_is_ascii : (c : ℕ) → is_name_byte c ≡ true → c < 128
name_byte_is_ascii c h = grind (arith, nat_tests)

name_bytes_are_ascii : (text : List ℕ) → list_all is_name_byte text ≡ true → IsAscii text
name_bytes_are_ascii [] h = IsAscii-nil
name_bytes_are_ascii (c ∷ text) h = IsAscii-cons c text (name_byte_is_ascii c (grind arith)) (name_bytes_are_ascii text (grind arith))

-- a name is a text
pub name_is_text : (text : List ℕ) → is_name text ≡ true → IsUtf8 text
unfolding is_name
name_is_text text h = IsUtf8-from_ascii text (name_bytes_are_ascii text (grind arith))

-- no name, for its first byte or its length
pub no_name : (text : List ℕ) → (starts_with_letter text ≡ false) ⊎ (32 < length text) → is_name text ≡ false
unfolding is_name
no_name text (inl e) = rw e refl
no_name text (inr h) = let long : nat_le (length text) 32 ≡ false = grind arith in by (starts_with_letter text) (nat_le (length text) 32) long
  where
    by : (a b : Bool) → b ≡ false → ((a && b) && list_all is_name_byte text) ≡ false
    by a true e = cc
    by true false e = refl
    by false false e = refl

-- nor for one of its bytes
pub no_name_byte : (text : List ℕ) (i : ℕ) → i < length text → is_name_byte (get_or text i 0) ≡ false → is_name text ≡ false
unfolding is_name
no_name_byte text i within e = rw (list_all_at is_name_byte text i 0 within e) (by (starts_with_letter text && nat_le (length text) 32))
  where
    by : (a : Bool) → (a && false) ≡ false
    by true = refl
    by false = refl

-- a name
pub whole_name : (text : List ℕ) → starts_with_letter text ≡ true → length text ≤ 32 → list_all is_name_byte text ≡ true → is_name text ≡ true
unfolding is_name
whole_name text starts short all = let fits : nat_le (length text) 32 ≡ true = grind arith in rw (starts, fits, all) refl

-- one byte more of a name
pub more_name_bytes : (text : List ℕ) (i : ℕ) → i < length text → list_all is_name_byte (take i text) ≡ true → is_name_byte (get_or text i 0) ≡ true
    → list_all is_name_byte (take (i + 1) text) ≡ true
more_name_bytes text i within so_far byte = rw (list_all_more is_name_byte text i 0 within, so_far, byte) refl

-- the table of the bytes of names says what they are
name_bytes : NAME_BYTES.now ≡ map is_name_byte (range_with_len 0 256)
name_bytes = refl

pub name_bytes_at : (c : ℕ) → c < 256 → get_or NAME_BYTES.now c false ≡ is_name_byte c
name_bytes_at c h = ap (λ table. get_or table c false) name_bytes ∙ get_or-map-range_with_len is_name_byte 0 256 c c false h (omega arith)
