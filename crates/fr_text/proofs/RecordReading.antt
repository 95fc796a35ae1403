-- Records that are read one after another, each by its line, up to the one that is too many.
use Rattle.std.proofs.Common.{◌≡◌, ℕ, zero, suc, ◌+◌, ◌-◌, ◌≤◌, List, [], ◌∷◌, ◌++◌, refl, sym, ap, ◌∙◌, add-one, arith, take, append-nil, append_assoc}
use Rattle.std.specs.Prelude.{⊤}
use Rattle.fr_base.specs.Refusing.{refuse◌when◌}
use Rattle.fr_text.specs.ImportText.{lines_from}

-- what a proof about the limit opens
unfoldable pub limit_open : ⊤
unfolding refuse◌when◌
limit_open = tt

take-none : {A : Type 0} (n : ℕ) → take {A = A} n [] ≡ []
take-none zero = refl
take-none (suc n) = refl

module _ {T : Type 0} (reads : ℕ → List (List ℕ) → T) (line : ℕ) (list : List T) (records : List (List (List ℕ))) (goal : List T) (e : list ++ take (515 - line) (lines_from reads line records) ≡ goal) where
  -- with no record left, all are read
  pub lines-done : records ≡ [] → list ≡ goal
  unfolding lines_from
  lines-done none = sym (append-nil list) ∙ ap (λ more. list ++ more) (sym (take-none (515 - line))) ∙ ap (λ rs. list ++ take (515 - line) (lines_from reads line rs)) (sym none) ∙ e

  -- after one, those behind it are left
  pub lines-more : (fields : List (List ℕ)) (rest : List (List (List ℕ))) → records ≡ fields ∷ rest → line ≤ 514
      → (list ++ reads line fields ∷ []) ++ take (515 - (line + 1)) (lines_from reads (line + 1) rest) ≡ goal
  unfolding lines_from
  lines-more fields rest some within =
      let count : suc (515 - (line + 1)) ≡ 515 - line = omega (arith, within) in
      append_assoc list _ _
      ∙ ap (λ next. list ++ reads line fields ∷ take (515 - (line + 1)) (lines_from reads next rest)) (add-one line)
      ∙ ap (λ n. list ++ take n (lines_from reads line (fields ∷ rest))) count
      ∙ ap (λ rs. list ++ take (515 - line) (lines_from reads line rs)) (sym some)
      ∙ e

  -- behind the one that is too many, none is
  pub lines-over : line ≡ 515 → list ≡ goal
  lines-over last = sym (append-nil list) ∙ rw last at e
