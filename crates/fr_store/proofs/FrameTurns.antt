-- How the rows of a frame turn: none, one more, or fewer.
use Rattle.std.proofs.Common.{◌≡◌, Bool, true, false, not, cond, Option, List, [], ◌∷◌, ◌++◌, filter, refl, sym, ap, ap₂, ◌∙◌, subst, IsPermutation, true≢false}
use Rattle.std.proofs.lemmas.List.Elements.{filter-append}
use Rattle.std.proofs.lemmas.List.Sorted.{IsPermutation-sym, IsPermutation-trans, IsPermutation-cons, IsPermutation-append, IsPermutation-append_comm, IsPermutation-append_left, IsPermutation-to_front}
use Rattle.sqlite_keyed.proofs.ListLemmas.{IsPermutation-filter}
use Rattle.fr_base.specs.Book.{Frame}
use Rattle.fr_base.specs.declared.name.Name.{Name}
use Rattle.fr_store.specs.StandsFor.{Entry}
use Rattle.fr_store.proofs.FrameSections.{section}
use Rattle.fr_store.proofs.FrameChanges.{Turns}

module _ {X : Type 0} (rows : Name → Entry → List X) (passes : X → Bool) (v s f : Name) (before after : Option Frame) (all : List X) where
  -- the frame has the same rows
  pub turns_not : section rows v s f before ≡ section rows v s f after → Turns rows passes v s f before after all all
  turns_not same rest none are = subst (λ xs. IsPermutation (xs ++ rest) all) same are

  -- it has one row more
  pub turns_more : (row : X) → IsPermutation (row ∷ section rows v s f before) (section rows v s f after) → Turns rows passes v s f before after all (all ++ row ∷ [])
  turns_more row more rest none are =
      IsPermutation-trans _ _ _ (IsPermutation-append_left rest _ _ (IsPermutation-sym _ _ more))
      (IsPermutation-trans _ _ _ (IsPermutation-cons row _ _ are) (IsPermutation-sym _ _ (IsPermutation-to_front all row)))

  -- it has these rows, and had none
  pub turns_new : (rows_now : List X) → section rows v s f before ≡ [] → IsPermutation (section rows v s f after) rows_now → Turns rows passes v s f before after all (all ++ rows_now)
  turns_new rows_now had_none has rest none are =
      IsPermutation-trans _ _ _ (IsPermutation-append_comm (section rows v s f after) rest) (IsPermutation-append _ _ _ _ (subst (λ xs. IsPermutation (xs ++ rest) all) had_none are) has)

  -- it has those rows no more that pass
  pub turns_fewer : (gone : X → Bool) → ((r : X) → gone r ≡ true → passes r ≡ true) → filter (λ r. not (gone r)) (section rows v s f before) ≡ section rows v s f after
      → Turns rows passes v s f before after all (filter (λ r. not (gone r)) all)
  turns_fewer gone own left rest none are =
      subst (λ xs. IsPermutation xs (filter (λ r. not (gone r)) all)) (filter-append (λ r. not (gone r)) (section rows v s f before) rest ∙ ap₂ ◌++◌ left (still rest none))
      (IsPermutation-filter (λ r. not (gone r)) _ _ are)
    where
      still : (xs : List X) → filter passes xs ≡ [] → filter (λ r. not (gone r)) xs ≡ xs
      still [] none = refl
      still (y ∷ ys) none = by_tests (passes y) (gone y) (own y) none (still ys)
        where
          by_tests : (p g : Bool) → (g ≡ true → p ≡ true) → cond p (y ∷ filter passes ys) (filter passes ys) ≡ [] → (filter passes ys ≡ [] → filter (λ r. not (gone r)) ys ≡ ys)
              → cond (not g) (y ∷ filter (λ r. not (gone r)) ys) (filter (λ r. not (gone r)) ys) ≡ y ∷ ys
          by_tests true g so none more = absurd cc
          by_tests false true so none more = absurd (true≢false (sym (so refl)))
          by_tests false false so none more = ap (λ l. y ∷ l) (more none)
