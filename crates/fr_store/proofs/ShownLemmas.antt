-- The names of the frames that a supplier has in a variant, as they are read level by level.
use Rattle.std.proofs.Common.{◌≡◌, ℕ, suc, ◌+◌, ◌<◌, Bool, true, false, not, ◌||◌, ◌&&◌, cond, None, Some, Option, is_some, List, [], ◌∷◌, ◌++◌, map, filter, take, length, get_or, bytes_eq, if◌then◌else◌, refl, sym, ap, ap₂, ◌∙◌, arith}
use Rattle.std.specs.List.{list_any}
use Rattle.std.specs.Option.{option_or}
use Rattle.std.specs.BTreeMap.{is_at}
use Rattle.std.proofs.lemmas.List.Folds.{list_any-append}
use Rattle.std.proofs.lemmas.List.Sorted.{list_any-IsPermutation, IsPermutation-map}
use Rattle.std.proofs.lemmas.Map.Text.{is_eq-slice_cmp}
use Rattle.std.proofs.Math.Bool.{or-false}
use Rattle.std.proofs.Math.Seq.{take-suc}
use Rattle.sqlite.specs.Order.{Row}
use Rattle.fr_base.specs.Tables.{get, contains}
use Rattle.fr_base.specs.Book.{Book, Variant}
use Rattle.fr_base.specs.declared.name.Name.{Name}
use Rattle.fr_world.proofs.KeyLaws.{name_cmp}
use Rattle.fr_tables.specs.Rows.{FrameRow, key_of}
use Rattle.fr_tables.specs.Tables.{Tables}
use Rattle.fr_tables.specs.Changes.{AreListed}
use Rattle.fr_tables.specs.Statements.{is_frame, is_frame_of, shows_frame, frames_cmp, is_dropped, is_dropped_by, shows_dropped, dropped_cmp}
use Rattle.fr_store.specs.Flat.{LaysNames, TellsNames, has_name}
use Rattle.fr_store.specs.Owning.{TellsOrigin, is_own}
use Rattle.fr_store.specs.Paging.{laid_over}
use Rattle.fr_store.specs.Reading.{name_shown}
use Rattle.fr_store.specs.StandsFor.{HoldsRows, HasItsParent}
use Rattle.fr_store.specs.declared.applying.origin.Origin.{Origin}
use Rattle.fr_store.proofs.OwningLemmas.{own_is, stored_so}
use Rattle.fr_store.proofs.ViewLemmas.{dropped_named, frames_alone, frames_over, is_named}

-- ---- names that go, and names that come

-- one row more
module _ (rows : List Row) (at : ℕ) (row : Row) (m n : Name) (low : at < length rows) (is : get_or rows at row ≡ row) (name : m ≡ name_shown row) where
  next : at + 1 ≡ suc at
  next = omega arith

  more : list_any (is_named n) (take (at + 1) rows) ≡ (list_any (is_named n) (take at rows) || is_at (name_cmp m) n)
  more =
      ap (λ k. list_any (is_named n) (take k rows)) next ∙ ap (list_any (is_named n)) (take-suc rows at row low ∙ ap (λ x. take at rows ++ x ∷ []) is)
      ∙ list_any-append (is_named n) (take at rows) (row ∷ [])
      ∙ ap (λ b. list_any (is_named n) (take at rows) || b) (or-false (is_named n row) ∙ sym (is_eq-slice_cmp m n ∙ ap (λ w. bytes_eq w n) name))

  gone : (t a y : Bool) → cond t false (not a && y) ≡ (not (a || t) && y)
  gone true true y = refl
  gone true false y = refl
  gone false true y = refl
  gone false false y = refl

  come : (t a y : Bool) → cond t true (a || y) ≡ ((a || t) || y)
  come true true y = refl
  come true false y = refl
  come false true y = refl
  come false false y = refl

  pub less_name : (old : Bool) → cond (is_at (name_cmp m) n) false (not (list_any (is_named n) (take at rows)) && old) ≡ (not (list_any (is_named n) (take (at + 1) rows)) && old)
  less_name old = gone (is_at (name_cmp m) n) (list_any (is_named n) (take at rows)) old ∙ ap (λ a. not a && old) (sym more)

  pub more_name : (old : Bool) → cond (is_at (name_cmp m) n) true (list_any (is_named n) (take at rows) || old) ≡ (list_any (is_named n) (take (at + 1) rows) || old)
  more_name old = come (is_at (name_cmp m) n) (list_any (is_named n) (take at rows)) old ∙ ap (λ a. a || old) (sym more)

-- ---- one level over the next

-- the rows of a supplier's own frames have the names of these
module _ (t : Tables) (v s : Name) where
  shown_own : (n : Name) (fs : List FrameRow) → list_any (is_named n) (map shows_frame (filter (is_frame_of v s) fs)) ≡ list_any (is_frame (key_of v s n)) fs
  shown_own n [] = refl
  shown_own n (f ∷ fs) = by_tests (bytes_eq f.variant v) (bytes_eq f.supplier s) (shown_own n fs)
    where
      by_tests : (of_variant of_supplier : Bool) → list_any (is_named n) (map shows_frame (filter (is_frame_of v s) fs)) ≡ list_any (is_frame (key_of v s n)) fs
          → list_any (is_named n) (map shows_frame (cond (of_variant && of_supplier) (f ∷ filter (is_frame_of v s) fs) (filter (is_frame_of v s) fs)))
          ≡ ((of_variant && (of_supplier && bytes_eq f.name n)) || list_any (is_frame (key_of v s n)) fs)
      by_tests true true more = ap (λ b. bytes_eq f.name n || b) more
      by_tests true false more = more
      by_tests false of_supplier more = more

  own_named : (rows : List Row) → AreListed shows_frame (is_frame_of v s) frames_cmp t.frames rows → (n : Name) → list_any (is_named n) rows ≡ is_own (key_of v s n) t
  own_named rows listed n =
      ap (list_any (is_named n)) listed.shown ∙ sym (list_any-IsPermutation (is_named n) _ _ (IsPermutation-map shows_frame _ _ listed.same)) ∙ shown_own n t.frames

  pub names_laid : (inherited all : List Name) (dropped own : List Row) → AreListed shows_dropped (is_dropped_by v s) dropped_cmp t.dropped dropped → AreListed shows_frame (is_frame_of v s) frames_cmp t.frames own
      → ((n : Name) → has_name n all ≡ (list_any (is_named n) own || (not (list_any (is_named n) dropped) && has_name n inherited))) → LaysNames v s inherited t all
  names_laid inherited all dropped own dropped_listed own_listed joined n =
      joined n ∙ ap₂ (λ o d. o || (not d && has_name n inherited)) (own_named own own_listed n) (dropped_named t v s dropped dropped_listed n)

-- ---- what a variant shows

some_or : {X : Type 0} (o p : Option X) (hidden : Bool) → is_some (option_or o (if hidden then None else p)) ≡ (is_some o || (not hidden && is_some p))
some_or (Some x) p hidden = refl
some_or None p true = refl
some_or None p false = refl

module _ (t : Tables) (v s : Name) (origin : Origin) (told : TellsOrigin v t origin) (all : List Name) where
  module _ (count : ℕ) (b : Book) (stands : HoldsRows t count b) (x : Variant) (there : get b.variants v ≡ Some x) where
    same_origin : laid_over (stands.stored v) x ≡ (if origin.overlay then origin.parent else None)
    same_origin = ap₂ (λ is parent. if is then parent else None) (stored_so t count b stands v origin.overlay told.overlay) (told.parent count b stands x there)

    parent_there : (is : Bool) (o : Option Name) (depth : ℕ) (parent : Name) → (if is then o else None) ≡ Some parent → HasItsParent b.variants o depth → (y : Variant) × (get b.variants parent ≡ Some y)
    parent_there false o depth parent laid has = absurd cc
    parent_there true None depth parent laid has = absurd cc
    parent_there true (Some p) depth parent laid has = let same : p ≡ parent = cc in (has.0, ap (get b.variants) (sym same) ∙ has.1)

    laid_names : (parent : Name) (inherited : List Name) (y : Variant) → get b.variants parent ≡ Some y → laid_over (stands.stored v) x ≡ Some parent
        → ((n : Name) → has_name n inherited ≡ contains y.frames (s, n)) → LaysNames v s inherited t all → (n : Name) → has_name n all ≡ contains x.frames (s, n)
    laid_names parent inherited y is laid above lays n =
        lays n ∙ ap₂ (λ o i. o || (not (list_any (is_dropped (key_of v s n)) t.dropped) && i)) (own_is v s n t count b stands x there) (above n)
        ∙ sym (some_or (get (stands.stored v).own (s, n)) (get y.frames (s, n)) (list_any (is_dropped (key_of v s n)) t.dropped))
        ∙ ap is_some (sym (frames_over t count b stands v x there parent y is laid (s, n)))

    no_more : (o d : Bool) → (o || (not d && false)) ≡ o
    no_more true d = refl
    no_more false true = refl
    no_more false false = refl

    own_names : laid_over (stands.stored v) x ≡ None → LaysNames v s [] t all → (n : Name) → has_name n all ≡ contains x.frames (s, n)
    own_names none lays n =
        lays n ∙ no_more (is_own (key_of v s n) t) (list_any (is_dropped (key_of v s n)) t.dropped) ∙ own_is v s n t count b stands x there
        ∙ ap (λ frames. is_some (get frames (s, n))) (frames_alone t count b stands v x there none)

  -- by itself
  pub alone_named : (if origin.overlay then origin.parent else None) ≡ None → LaysNames v s [] t all → TellsNames v s t all
  alone_named none lays count b stands x there = own_names count b stands x there (same_origin count b stands x there ∙ none) lays

  -- over its parent
  pub over_named : (parent : Name) (inherited : List Name) → (if origin.overlay then origin.parent else None) ≡ Some parent → TellsNames parent s t inherited → LaysNames v s inherited t all → TellsNames v s t all
  over_named parent inherited laid above lays count b stands x there =
      let over = same_origin count b stands x there ∙ laid in
      let y = parent_there count b stands x there (stands.stored v).overlay x.parent x.depth parent over (stands.each v x there).parent in
      laid_names count b stands x there parent inherited y.0 y.1 over (above count b stands y.0 y.1) lays
