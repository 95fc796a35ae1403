-- Counts of the imports that suppliers keep: what is looked up, and what edits make of them.
use Rattle.std.proofs.Common.{◌≡◌, ℕ, ◌+◌, Bool, true, false, cond, List, [], ◌∷◌, length, Option, Some, None, is_some, All, refl, sym, ap, subst, ◌∙◌, inl, inr, true≢false}
use Rattle.std.specs.FinMap.Entries.{length-put}
use Rattle.std.specs.Prelude.{find, option_map}
use Rattle.std.proofs.lemmas.Bool.{cases_Bool}
use Rattle.std.proofs.lemmas.List.Elements.{All-cons, All-head, All-nil, All-tail}
use Rattle.fr_base.specs.Book.{Kept, Variant, Book, is_of, own}
use Rattle.fr_base.specs.Keys.{owned}
use Rattle.fr_base.specs.Names.{same_text}
use Rattle.fr_base.specs.Tables.{Order, Table, get, insert, len}
use Rattle.fr_base.specs.declared.name.Name.{Name}
use Rattle.fr_base.specs.declared.params.Params.{Params}
use Rattle.fr_base.proofs.AloneCells.{same_text-itself}
use Rattle.fr_base.proofs.SoundRows.{same_text-is}
use Rattle.fr_base.proofs.SoundTables.{get-passing, only-insert, only-insert_other}
use Rattle.fr_world.specs.BookEdits.{applied, changed_at}
use Rattle.fr_world.specs.Fits.{Fits}
use Rattle.fr_world.specs.declared.edit.Edit.{Edit}
use Rattle.fr_world.specs.declared.edit.Edit.TheVariants.{NewVariant, NewFlat, SetReleased, NewSupplier, SetKey, NewNode, Rows, KeepImport}
use Rattle.fr_office.specs.ImportCounts.{AreCounted, IsCounted, count_of, counts_without, is_count_of}
use Rattle.fr_office.specs.declared.import_counts.ImportCount.{ImportCount}

-- what is found passes, and what holds of all holds of it
pub found_all : {X : Type 0} (p : X → Bool) (P : X → Type 0) (xs : List X) (x : X) → find p xs ≡ Some x → All P xs → (p x ≡ true) × P x
found_all p P [] x found all = cc
found_all p P (y ∷ ys) x found all = elim (p y) as (λ b. p y ≡ b → cond b (Some y) (find p ys) ≡ Some x → (p x ≡ true) × P x) [
  | true ↦ λ passes is. let same : y ≡ x = cc in (subst (λ z. p z ≡ true) same passes, subst P same (All-head P y ys all))
  | false ↦ λ fails is. found_all p P ys x is (All-tail P y ys all)
] refl found

-- a count that is looked up is the supplier's, and right
pub counted_of : (b : Book) (s : Name) (counts : List ImportCount) (n : ℕ) → count_of s counts ≡ Some n → AreCounted b counts → n ≡ len (own s b.imports)
counted_of b s counts n known counted = elim (find (is_count_of s) counts) as (λ o. find (is_count_of s) counts ≡ o → option_map (λ (x : ImportCount). x.imports) o ≡ Some n → n ≡ len (own s b.imports)) [
  | None ↦ λ found is. cc
  | Some x ↦ λ found is.
      let right = found_all (is_count_of s) (IsCounted b) counts x found counted in
      let same : x.imports ≡ n = cc in
      sym same ∙ right.1 ∙ ap (λ t. len (own t b.imports)) (same_text-is x.supplier s right.0)
] refl known

-- one row more
len-more : {K V : Type 0} {o : Order K} (t : Table o V) (k : K) (v : V) → get t k ≡ None → len (insert t k v) ≡ len t + 1
unfolding len get insert
len-more {o = o} t k v none = length-put o.compare o.total k v t.rows t.sorted ∙ ap (λ found. cond (is_some found) (length t.rows) (length t.rows + 1)) none

module _ (imports : Table owned Kept) (s l : Name) (one : Kept) where
  -- a supplier has one import more
  own-more : get imports (s, l) ≡ None → len (own s (insert imports (s, l) one)) ≡ len (own s imports) + 1
  own-more none =
      ap len (only-insert owned (is_of s) imports (s, l) one (same_text-itself s))
      ∙ len-more (own s imports) (s, l) one (get-passing owned (is_of s) imports (s, l) (same_text-itself s) ∙ none)

  -- others have as many as before
  own-still : (t : Name) → same_text s t ≡ false → len (own t (insert imports (s, l) one)) ≡ len (own t imports)
  own-still t other = ap len (only-insert_other owned (is_of t) imports (s, l) one other)

changed-imports : (b : Book) (v : Name) (change : Variant → Variant) (o : Option Variant) → (changed_at b v change o).imports ≡ b.imports
changed-imports b v change None = refl
changed-imports b v change (Some x) = refl

-- what is counted is as it was, where imports stay
still_counted : (b new : Book) (counts : List ImportCount) → new.imports ≡ b.imports → AreCounted b counts → AreCounted new counts
still_counted b new counts same counted = subst (λ i. All (λ (count : ImportCount). count.imports ≡ len (own count.supplier i)) counts) (sym same) counted

-- no import is kept
pub others_counted : (b : Book) (edit : Edit) (counts : List ImportCount) →
    ((s label v : Name) (body : List ℕ) (rows : ℕ) → edit ≡ KeepImport s label v body rows → ⊥) → AreCounted b counts → AreCounted (applied b edit) counts
unfolding applied
others_counted b (NewVariant v parent depth) counts other counted = still_counted b (applied b (NewVariant v parent depth)) counts refl counted
others_counted b (NewFlat v from) counts other counted = still_counted b (applied b (NewFlat v from)) counts refl counted
others_counted b (SetReleased v) counts other counted = still_counted b (applied b (SetReleased v)) counts (changed-imports b v _ (get b.variants v)) counted
others_counted b (NewSupplier s key) counts other counted = still_counted b (applied b (NewSupplier s key)) counts refl counted
others_counted b (SetKey s key) counts other counted = still_counted b (applied b (SetKey s key)) counts refl counted
others_counted b (NewNode s n) counts other counted = still_counted b (applied b (NewNode s n)) counts refl counted
others_counted b (Rows rows) counts other counted = still_counted b (applied b (Rows rows)) counts (changed-imports b rows.variant _ (get b.variants rows.variant)) counted
others_counted b (KeepImport s label v body rows) counts other counted = absurd (other s label v body rows refl)

module _ (p : Params) (b : Book) (s label v : Name) (body : List ℕ) (rows : ℕ) (fits : Fits p b (KeepImport s label v body rows)) where
  -- the counts of other suppliers
  pub without_counted : (counts : List ImportCount) → AreCounted b counts → AreCounted (applied b (KeepImport s label v body rows)) (counts_without s counts)
  unfolding applied
  without_counted [] counted = All-nil (IsCounted (applied b (KeepImport s label v body rows)))
  without_counted (x ∷ xs) counted =
      let rest = without_counted xs (All-tail (IsCounted b) x xs counted) in
      elim (cases_Bool (is_count_of s x)) [
        | inl e ↦ rw e rest
        | inr e ↦ rw e (All-cons (IsCounted (applied b (KeepImport s label v body rows))) x (counts_without s xs)
            (All-head (IsCounted b) x xs counted ∙ sym (own-still b.imports s label (record { variant = v; body = body; rows = rows }) x.supplier (apart e))) rest)
      ]
    where
      apart : same_text x.supplier s ≡ false → same_text s x.supplier ≡ false
      apart e = elim (cases_Bool (same_text s x.supplier)) [
        | inl h ↦ let same = same_text-is s x.supplier h in absurd (true≢false (sym (subst (λ t. same_text t s ≡ true) same (same_text-itself s)) ∙ e))
        | inr h ↦ h
      ]

  -- the supplier has one more
  pub one_counted : (n more : ℕ) → n ≡ len (own s b.imports) → more ≡ n + 1 → more ≡ len (own s (applied b (KeepImport s label v body rows)).imports)
  unfolding applied
  one_counted n more counted is = is ∙ ap (λ m. m + 1) counted ∙ sym (own-more b.imports s label (record { variant = v; body = body; rows = rows }) fits.2)

module _ (p : Params) (b : Book) (s label v : Name) (body : List ℕ) (rows : ℕ) (fits : Fits p b (KeepImport s label v body rows)) (counts : List ImportCount) (counted : AreCounted b counts) where
  -- an import of the supplier is kept, and its count is let go
  pub left_counted : (left : List ImportCount) → left ≡ counts_without s counts → AreCounted (applied b (KeepImport s label v body rows)) left
  left_counted left taken = subst (AreCounted (applied b (KeepImport s label v body rows))) (sym taken) (without_counted p b s label v body rows fits counts counted)

  -- or is one more
  pub more_counted : (n more : ℕ) → count_of s counts ≡ Some n → more ≡ n + 1 → more ≡ len (own s (applied b (KeepImport s label v body rows)).imports)
  more_counted n more known one = one_counted p b s label v body rows fits n more (counted_of b s counts n known counted) one

-- so with an edit that is one to keep an import
pub one_more : (edit : Edit) (s label v : Name) (body : List ℕ) (rows : ℕ) → edit ≡ KeepImport s label v body rows → (counts new : List ImportCount) →
    ((p : Params) (b : Book) (label v : Name) (body : List ℕ) (rows : ℕ) → Fits p b (KeepImport s label v body rows) → AreCounted b counts → AreCounted (applied b (KeepImport s label v body rows)) new) →
    (p : Params) (b : Book) → Fits p b edit → AreCounted b counts → AreCounted (applied b edit) new
one_more edit s label v body rows is counts new more p b fits counted =
    subst (λ e. AreCounted (applied b e) new) (sym is) (more p b label v body rows (subst (Fits p b) is fits) counted)
