-- The rows of a file up to the first that is refused by its own text: they are checked where all are, and they are all where
-- none of them is refused.
use Rattle.std.proofs.Common.{◌≡◌, true, false, cond, List, [], ◌∷◌, refl, ap}
use Rattle.std.proofs.lemmas.List.Elements.{All-nil, All-cons, All-head, All-tail}
use Rattle.std.specs.List.{AllByRecursion}
use Rattle.std.specs.Prelude.{All, is_err}
use Rattle.fr_base.specs.ImportRows.{up_to_refused}
use Rattle.fr_base.specs.declared.import.RowRead.{RowRead}
use Rattle.fr_base.proofs.ImportForms.{IsRead}

pub readable-all : (P : RowRead → Type 0) (reads : List RowRead) → All P reads → All P (up_to_refused reads)
unfolding up_to_refused
readable-all P [] all = All-nil P
readable-all P (read ∷ rest) all = All-cons P read (cond (is_err read.row) [] (up_to_refused rest)) (All-head P read rest all)
    (elim (is_err read.row) as (λ t. All P (cond t [] (up_to_refused rest))) [
      | true ↦ All-nil P
      | false ↦ readable-all P rest (All-tail P read rest all)
    ])

pub all-readable : (reads : List RowRead) → AllByRecursion IsRead (up_to_refused reads) → up_to_refused reads ≡ reads
unfolding up_to_refused
all-readable [] read = refl
all-readable (one ∷ rest) (fine, read) =
    elim (is_err one.row) as (λ t. t ≡ false → AllByRecursion IsRead (cond t [] (up_to_refused rest)) → (one ∷ cond t [] (up_to_refused rest)) ≡ (one ∷ rest)) [
      | true ↦ λ no _. cc
      | false ↦ λ _ read. ap (λ l. one ∷ l) (all-readable rest read)
    ] fine read
