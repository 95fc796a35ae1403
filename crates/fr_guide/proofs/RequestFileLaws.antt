-- What is told of lines, as it grows by a line; how many lines there are; what is a key.
use Rattle.std.proofs.Common.{◌≡◌, ◌∙◌, ap, sym, subst, refl, ℕ, ◌+◌, ◌≤◌, ◌<◌, Bool, true, false, cond, List, [], ◌∷◌, ◌++◌, length, append_assoc, append-nil, arith, Option, Some, None, is_some, IsUtf8}
use Rattle.std.proofs.lemmas.Bool.{and_parts}
use Rattle.std.proofs.lemmas.Bool.Decides.{nat_tests}
use Rattle.std.proofs.lemmas.List.{map-append}
use Rattle.std.proofs.lemmas.List.Splits.{length-slice_split}
use Rattle.std.proofs.lemmas.List.Sums.{count_by-le-length}
use Rattle.std.proofs.lemmas.Str.{IsUtf8-from_ascii}
use Rattle.std.proofs.lemmas.Str.Ascii.{IsAscii-nil, IsAscii-cons}
use Rattle.std.specs.List.{AllByRecursion, list_all, slice_split}
use Rattle.std.specs.Prelude.{◌==◌, if◌then◌else◌}
use Rattle.std.specs.Str.{IsAscii}
use Rattle.std.specs.Str.Lines.{lines, lines_of_parts}
use Rattle.fr_base.specs.Names.{is_key, is_key_byte}
use Rattle.fr_guide.specs.Faults.{is_fine}
use Rattle.fr_guide.specs.RequestFile.{HasFault, bad_lines, is_fine_line}
use Rattle.fr_guide.specs.Rows.{numbers_of}
use Rattle.fr_guide.specs.declared.line_faults.LineFaults.{LineFaults}

-- ---- how many lines bytes have

parts-most : (parts : List (List ℕ)) → length (lines_of_parts parts) ≤ length parts
parts-most [] = omega arith
parts-most (x ∷ []) = elim (length x == 0) as (λ b. length (if b then [] else x ∷ []) ≤ 1) [ true ↦ omega arith | false ↦ omega arith ]
parts-most (x ∷ y ∷ more) = let most = parts-most (y ∷ more) in omega (arith, most)

pub lines-most : (bytes : List ℕ) → length (lines bytes) ≤ length bytes + 1
lines-most bytes =
    let most = parts-most (slice_split (λ b. b == 10) bytes) in
    let parts = length-slice_split (λ b. b == 10) bytes in
    let ends = count_by-le-length (λ b. b == 10) bytes in
    omega (arith, most, parts, ends)

-- ---- what is told

-- each has a fault, and one more has
faults_more : (told : List LineFaults) (one : LineFaults) → AllByRecursion HasFault told → is_fine one ≡ false → AllByRecursion HasFault (told ++ one ∷ [])
faults_more [] one all has = (has, tt)
faults_more (t ∷ told) one all has = (all.0, faults_more told one all.1 has)

-- the first line that is left is no request, and told of
pub line_told : (told new : List LineFaults) (one : LineFaults) (line : List ℕ) (left more : List (List ℕ)) (asked : List ℕ)
    → new ≡ told ++ one ∷ [] → left ≡ line ∷ more → is_fine_line line ≡ false → is_fine one ≡ false
    → numbers_of told ++ bad_lines one.line left ≡ asked → AllByRecursion HasFault told
    → (numbers_of new ++ bad_lines (one.line + 1) more ≡ asked) × AllByRecursion HasFault new
unfolding bad_lines
line_told told new one line left more asked grown is bad has so all = (
  ap (λ t. numbers_of t ++ bad_lines (one.line + 1) more) grown
      ∙ ap (λ l. l ++ bad_lines (one.line + 1) more) (map-append (λ t. t.line) told (one ∷ []))
      ∙ append_assoc (numbers_of told) (one.line ∷ []) (bad_lines (one.line + 1) more)
      ∙ ap (λ b. numbers_of told ++ cond b (bad_lines (one.line + 1) more) (one.line ∷ bad_lines (one.line + 1) more)) (sym bad)
      ∙ ap (λ l. numbers_of told ++ bad_lines one.line l) (sym is) ∙ so,
  subst (AllByRecursion HasFault) (sym grown) (faults_more told one all has),
)

-- it is one, or empty, and is passed over
pub line_fine : (told new : List LineFaults) (line : List ℕ) (left more : List (List ℕ)) (asked : List ℕ) (number : ℕ)
    → new ≡ told → left ≡ line ∷ more → is_fine_line line ≡ true → numbers_of told ++ bad_lines number left ≡ asked → AllByRecursion HasFault told
    → (numbers_of new ++ bad_lines (number + 1) more ≡ asked) × AllByRecursion HasFault new
unfolding bad_lines
line_fine told new line left more asked number same is fine so all = (
  ap (λ t. numbers_of t ++ bad_lines (number + 1) more) same
      ∙ ap (λ b. numbers_of told ++ cond b (bad_lines (number + 1) more) (number ∷ bad_lines (number + 1) more)) (sym fine)
      ∙ ap (λ l. numbers_of told ++ bad_lines number l) (sym is) ∙ so,
  subst (AllByRecursion HasFault) (sym same) all,
)

-- no line is left
pub nothing_left : (told : List LineFaults) (rest : List ℕ) (asked : List ℕ) (number : ℕ) → rest ≡ [] → numbers_of told ++ bad_lines number (lines rest) ≡ asked
    → numbers_of told ≡ asked
unfolding bad_lines
nothing_left told rest asked number none so =
    sym (append-nil (numbers_of told)) ∙ ap (λ r. numbers_of told ++ bad_lines number (lines r)) (sym none) ∙ so

-- ---- keys

key_byte_is_ascii : (c : ℕ) → is_key_byte c ≡ true → c < 128
key_byte_is_ascii c h = grind (arith, nat_tests)

key_bytes_are_ascii : (text : List ℕ) → list_all is_key_byte text ≡ true → IsAscii text
key_bytes_are_ascii [] h = IsAscii-nil
key_bytes_are_ascii (c ∷ text) h = IsAscii-cons c text (key_byte_is_ascii c (and_parts _ _ h).0) (key_bytes_are_ascii text (and_parts _ _ h).1)

pub key_is_text : (text : List ℕ) → is_key text ≡ true → IsUtf8 text
unfolding is_key
key_is_text text h = IsUtf8-from_ascii text (key_bytes_are_ascii text (and_parts _ _ h).1)

-- a key is read of a text exactly where it is one
pub key_read : (is : Bool) (read : Option (List ℕ)) (text bytes : List ℕ) → is ≡ is_some read → read ≡ (if is_key text then Some text else None) → text ≡ bytes
    → is ≡ is_key bytes
key_read is read text bytes some of same = some ∙ ap is_some of ∙ by (is_key text) ∙ ap is_key same
  where
    by : (b : Bool) → is_some (cond b (Some text) None) ≡ b
    by true = refl
    by false = refl

-- what is no text is no key
pub no_key : (bytes : List ℕ) → (IsUtf8 bytes → ⊥) → is_key bytes ≡ false
no_key bytes none = by (is_key bytes) (key_is_text bytes)
  where
    by : (b : Bool) → (b ≡ true → IsUtf8 bytes) → b ≡ false
    by true text = absurd (none (text refl))
    by false text = refl
