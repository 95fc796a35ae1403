-- Name, key, same text: a name is 1 to 32 ASCII letters, digits and underscores, a letter first. A key is 8 to 64 ASCII
-- letters and digits. Two texts are the same where each byte is.
use Rattle.std.specs.Prelude.{ℕ, Bool, false, ◌&&◌, ◌||◌, ◌==◌, List, [], ◌∷◌, length, nat_le}
use Rattle.std.specs.List.{list_all}
use Rattle.std.specs.Str.{bytes_eq}

-- whether the two texts are the same, byte by byte
abbrev pub same_text : List ℕ → List ℕ → Bool
same_text a b = bytes_eq a b

-- `A` to `Z` and `a` to `z`
abbrev pub is_letter : ℕ → Bool
is_letter c = (nat_le 65 c && nat_le c 90) || (nat_le 97 c && nat_le c 122)

-- `0` to `9`
abbrev pub is_digit : ℕ → Bool
is_digit c = nat_le 48 c && nat_le c 57

-- a letter, a digit or `_`
abbrev pub is_name_byte : ℕ → Bool
is_name_byte c = is_letter c || is_digit c || (c == 95)

-- whether the first byte is a letter
abbrev pub starts_with_letter : List ℕ → Bool
starts_with_letter [] = false
starts_with_letter (c ∷ _) = is_letter c

-- 1 to 32 ASCII letters, digits and underscores, of which the first is a letter
unfoldable pub is_name : List ℕ → Bool
is_name text = (starts_with_letter text && nat_le (length text) 32) && list_all is_name_byte text

-- a letter or a digit
abbrev pub is_key_byte : ℕ → Bool
is_key_byte c = is_letter c || is_digit c

-- 8 to 64 ASCII letters and digits
unfoldable pub is_key : List ℕ → Bool
is_key text = (nat_le 8 (length text) && nat_le (length text) 64) && list_all is_key_byte text
