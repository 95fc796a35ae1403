-- A file of wishes, and what its records are.
use Rattle.std.proofs.Common.{◌≡◌, ℕ, suc, Bool, true, false, List, [], ◌∷◌, Err, refl, ap, ◌∙◌, take}
use Rattle.std.specs.Prelude.{⊤}
use Rattle.fr_base.specs.ImportRows.{records_of, text_at, number_at}
use Rattle.fr_base.specs.Refusing.{◌>>=◌, ◌>>◌, ◌or◌, refuse◌when◌}
use Rattle.fr_base.specs.Wishes.{wish_at, wish_in, wish_of, wishes_below, wishes_from, wishes_of_body, wishes_of_records}
use Rattle.fr_base.specs.declared.params.Params.{Params}
use Rattle.fr_base.specs.declared.refusal.Refusal.TheVariants.{BadText}
use Rattle.fr_text.specs.ImportText.{lines_from}

-- what a proof about a wish opens
unfoldable pub wishes_open : ⊤
unfolding ◌>>=◌ ◌>>◌ ◌or◌ refuse◌when◌ text_at number_at wish_in wish_of
wishes_open = tt

-- what a proof about a record at a line opens
unfoldable pub lines_open : ⊤
unfolding ◌>>◌ refuse◌when◌ wish_at
lines_open = tt

-- the wishes are what their records are read as
pub wishes-lines : (p : Params) (line : ℕ) (records : List (List (List ℕ))) → wishes_from p line records ≡ lines_from (λ n fields. record { line = n; wish = wish_at p n fields }) line records
unfolding wishes_from lines_from
wishes-lines p line [] = refl
wishes-lines p line (fields ∷ rest) = ap (λ wishes. record { line = line; wish = wish_at p line fields } ∷ wishes) (wishes-lines p (suc line) rest)

-- a file whose first record, if there is one, is another header
pub wishes-other : (p : Params) (body : List ℕ) (rest : List (List (List ℕ))) → wishes_of_records p (records_of body) ≡ wishes_below p false rest
    → wishes_of_body p body ≡ record { line = 1; wish = Err BadText } ∷ []
unfolding wishes_of_body wishes_below
wishes-other p body rest e = ap (take 513) e

-- a file whose first record is the header of wishes
pub wishes-all : (p : Params) (body : List ℕ) (rest : List (List (List ℕ))) → wishes_of_records p (records_of body) ≡ wishes_below p true rest
    → wishes_of_body p body ≡ take 513 (lines_from (λ n fields. record { line = n; wish = wish_at p n fields }) 2 rest)
unfolding wishes_of_body wishes_below
wishes-all p body rest e = ap (take 513) (e ∙ wishes-lines p 2 rest)
