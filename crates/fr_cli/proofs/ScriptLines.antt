-- The lines of a script: those of its cluster file, the separator, and those behind it.
use Rattle.std.proofs.Common.{◌≡◌, ◌<◌, ◌≤◌, ℕ, zero, suc, Bool, true, false, ◌||◌, List, [], ◌∷◌, ◌++◌, length, Option, Some, None, codes, refl, sym, ap, ◌∙◌, subst, inl, inr, arith, append_assoc, length-append}
use Rattle.std.proofs.lemmas.Bool.{cases_Bool}
use Rattle.std.proofs.lemmas.Slice.Eq.{bytes_eq-Decides}
use Rattle.std.specs.List.{list_any}
use Rattle.std.specs.Prelude.{⊤}
use Rattle.std.specs.Str.{bytes_eq}
use Rattle.std.specs.Str.Lines.{lines, strip_carriage_return}
use Rattle.fr_text.specs.Script.{HasNo, is_separator, max_script, parts_around, parts_of}
use Rattle.fr_text.proofs.LineLemmas.{Around, around, ended_at, ended_last, lines_at, lines_last, parts_of_here, parts_of_later, with_front}
use Rattle.fr_guide.proofs.RequestFileLaws.{lines-most}

-- These are the lines of parts, if there are any.
abbrev AreOf : List ℕ → Option (List ℕ × List ℕ) → Type 0
AreOf bytes None = ⊤
AreOf bytes (Some parts) = lines bytes ≡ lines parts.0 ++ codes "---" ∷ lines parts.1

either : (b : Bool) → (b || false) ≡ b
either true = refl
either false = refl

-- whether a line is the separator, by its text
separates : (ended text : List ℕ) → lines ended ≡ text ∷ [] → is_separator ended ≡ bytes_eq text (codes "---")
separates ended text is = ap (list_any (λ text. bytes_eq text (codes "---"))) is ∙ either (bytes_eq text (codes "---"))

no_parts : parts_of [] ≡ None
unfolding parts_of
no_parts = refl

-- a line that has an end stands before others
behind : (line after : List ℕ) → HasNo 10 line → (parts : Option (List ℕ × List ℕ)) → AreOf after parts → AreOf (line ++ 10 ∷ after) (with_front (line ++ 10 ∷ []) parts)
behind line after clear None so = tt
behind line after clear (Some parts) so =
    lines_at line after clear ∙ ap (λ l. strip_carriage_return line ∷ l) so
    ∙ ap (λ l. l ++ codes "---" ∷ lines parts.1) (sym (ap lines (append_assoc line (10 ∷ []) parts.0) ∙ lines_at line parts.0 clear))

first_of : (line after : List ℕ) → HasNo 10 line → AreOf after (parts_of after) → AreOf (line ++ 10 ∷ after) (parts_of (line ++ 10 ∷ after))
first_of line after clear so =
    let bytes = line ++ 10 ∷ after in
    let ends = ended_at line after clear in
    let text = strip_carriage_return line in
    let is = separates (line ++ 10 ∷ []) text (lines_at line [] clear) in
    elim (cases_Bool (bytes_eq text (codes "---"))) [
      | inl here ↦
          subst (AreOf bytes) (sym (parts_of_here bytes (line ++ 10 ∷ []) after ends (is ∙ here)))
          (lines_at line after clear ∙ ap (λ t. t ∷ lines after) ((bytes_eq-Decides text (codes "---")).0 here))
      | inr other ↦
          subst (AreOf bytes) (sym (parts_of_later bytes (line ++ 10 ∷ []) after ends (is ∙ other))) (behind line after clear (parts_of after) so)
    ]

-- a line that has no end is the last
last_of : (b : ℕ) (line : List ℕ) → HasNo 10 (b ∷ line) → AreOf (b ∷ line) (parts_of (b ∷ line))
last_of b line clear =
    let ends = ended_last b line clear in
    let these = lines_last b line clear in
    let is = separates (b ∷ line) (b ∷ line) these in
    elim (cases_Bool (bytes_eq (b ∷ line) (codes "---"))) [
      | inl here ↦
          subst (AreOf (b ∷ line)) (sym (parts_of_here (b ∷ line) (b ∷ line) [] ends (is ∙ here)))
          (these ∙ ap (λ (t : List ℕ). t ∷ []) ((bytes_eq-Decides (b ∷ line) (codes "---")).0 here))
      | inr other ↦
          subst (AreOf (b ∷ line)) (sym (parts_of_later (b ∷ line) (b ∷ line) [] ends (is ∙ other) ∙ ap (with_front (b ∷ line)) no_parts)) tt
    ]

-- by its first line, if what follows that has such lines
by_first : (bytes : List ℕ) (parts : Option (List ℕ × List ℕ)) → Around 10 bytes parts → 0 < length bytes
    → ((after : List ℕ) → length after < length bytes → AreOf after (parts_of after)) → AreOf bytes (parts_of bytes)
by_first [] None clear some rest = absurd (omega (arith, some))
by_first (b ∷ bytes) None clear some rest = last_of b bytes clear
by_first bytes (Some parts) found some rest =
    subst (λ x. AreOf x (parts_of x)) (sym found.0)
    (first_of parts.0 parts.1 found.1 (rest parts.1 (omega (arith, ap length found.0, length-append parts.0 (10 ∷ parts.1)))))

all_of : (n : ℕ) (bytes : List ℕ) → length bytes ≤ n → AreOf bytes (parts_of bytes)
all_of n [] fits = subst (AreOf []) (sym no_parts) tt
all_of zero (b ∷ bytes) fits = absurd (omega (arith, fits))
all_of (suc n) (b ∷ bytes) fits =
    by_first (b ∷ bytes) (parts_around 10 (b ∷ bytes)) (around 10 (b ∷ bytes)) (omega arith) (λ after less. all_of n after (omega (arith, fits, less)))

pub script-lines : (script cluster requests : List ℕ) → parts_of script ≡ Some (cluster, requests) → lines script ≡ lines cluster ++ codes "---" ∷ lines requests
script-lines script cluster requests is = subst (AreOf script) is (all_of (length script) script (omega arith))

-- so a cluster file has no more lines than a script may have
pub cluster-most : (script cluster requests : List ℕ) → parts_of script ≡ Some (cluster, requests) → length script ≤ max_script → length (lines cluster) ≤ max_script
cluster-most script cluster requests is fits =
    omega (arith, fits, lines-most script, ap length (script-lines script cluster requests is), length-append (lines cluster) (codes "---" ∷ lines requests))
