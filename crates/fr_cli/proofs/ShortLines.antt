-- Lines of requests that are no longer than they may be.
use Rattle.std.proofs.Common.{◌≡◌, ℕ, ◌+◌, ◌-◌, ◌≤◌, Bool, true, false, cond, List, [], ◌∷◌, ◌++◌, length, take, refl, sym, ap, ◌∙◌, arith, subst, length-take}
use Rattle.std.specs.Prelude.{nat_lt, ◌==◌, slice_index}
use Rattle.std.specs.Str.Lines.{lines, strip_carriage_return}
use Rattle.fr_text.specs.Script.{HasNo, max_line, request_lines}
use Rattle.fr_text.proofs.LineLemmas.{lines_at, lines_last, request_lines-first, request_lines-none}
use Rattle.fr_cli.specs.RequestStream.{AreShort}

strip-short : (n most : ℕ) (b : Bool) (line : List ℕ) → length line ≤ most → length (cond b (take n line) line) ≤ most
strip-short n most true line fits = omega (arith, fits, length-take n line)
strip-short n most false line fits = fits

one-short : (b : Bool) (line : List ℕ) → length line ≤ max_line → AreShort (cond b (line ∷ []) [])
one-short true line fits = (fits, tt)
one-short false line fits = tt

-- the only line there is
requests-one : (bytes line : List ℕ) → lines bytes ≡ line ∷ lines [] → request_lines bytes ≡ cond (nat_lt 0 (length line)) (line ∷ []) []
requests-one bytes line e = request_lines-first bytes line [] e ∙ ap (λ rest. cond (nat_lt 0 (length line)) (line ∷ rest) rest) (request_lines-none [] refl)

-- a line that has an end, and is short without it
pub short_ended : (line : List ℕ) → HasNo 10 line → length line ≤ max_line → AreShort (request_lines (line ++ 10 ∷ []))
short_ended line clear fits =
    subst AreShort (sym (requests-one (line ++ 10 ∷ []) (strip_carriage_return line) (lines_at line [] clear)))
    (one-short (nat_lt 0 (length (strip_carriage_return line))) (strip_carriage_return line)
    (strip-short (length line - 1) max_line (slice_index line (length line - 1) == 13) line fits))

-- a line that has none
pub short_open : (line : List ℕ) → HasNo 10 line → length line ≤ max_line → AreShort (request_lines line)
short_open [] clear fits = subst AreShort (sym (request_lines-none [] refl)) tt
short_open (b ∷ line) clear fits =
    subst AreShort (sym (requests-one (b ∷ line) (b ∷ line) (lines_last b line clear))) (one-short (nat_lt 0 (length (b ∷ line))) (b ∷ line) fits)
