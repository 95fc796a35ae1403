-- What a write adds to what was written before.
use Rattle.std.proofs.Common.{◌≡◌, ℕ, ◌+◌, ◌≤◌, List, length, take, drop, subst, sym, ap, ◌∙◌, arith, length-drop, Option, ◌-◌}
use Rattle.std.proofs.lemmas.List.{drop-drop, take_rest}
use Rattle.std.proofs.Math.Seq.{take-add}
use Rattle.std.proofs.KnownBytes.{Appends-trans}
use Rattle.std.specs.Io.KnownBytes.{Appends}

-- after the first n bytes the next m were written
pub written_more : (a b c : Option (List ℕ)) (bytes rest : List ℕ) (n m : ℕ) → n ≤ length bytes → rest ≡ drop n bytes → m ≤ length rest
    → Appends a b (take n bytes) → Appends b c (take m rest)
    → (n + m ≤ length bytes) × (take (length rest - m) (drop m rest) ≡ drop (n + m) bytes) × Appends a c (take (n + m) bytes)
written_more a b c bytes rest n m fits is more before now =
    let next : Appends b c (take m (drop n bytes)) = subst (λ l. Appends b c (take m l)) is now in
    (omega (arith, length-drop n bytes, ap length is), take_rest rest m ∙ ap (drop m) is ∙ drop-drop m n bytes, subst (Appends a c) (sym (take-add n m bytes)) (Appends-trans a b c _ _ before next))
