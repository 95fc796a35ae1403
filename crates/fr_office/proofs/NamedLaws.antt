-- A page's frame of a name, looked up in its map.
use Rattle.std.proofs.Common.{◌≡◌, Bool, true, false, not, cond, List, [], ◌∷◌, map, filter, length, Option, Some, None, refl, sym, ap, subst, ◌∙◌, append-nil, Less}
use Rattle.std.specs.Prelude.{◌==◌}
use Rattle.std.specs.BTreeMap.{is_at}
use Rattle.std.specs.List.{flat_map, AllByRecursion}
use Rattle.std.specs.List.Sorted.{IsStrictlySortedBy}
use Rattle.std.specs.Map.{keys_of, lookup}
use Rattle.std.specs.Ordering.{is_eq}
use Rattle.std.specs.Cmp.Lexicographic.{nat_list_cmp_total}
use Rattle.std.proofs.lemmas.Cmp.{eq_by_cmp_equiv}
use Rattle.std.proofs.lemmas.Map.Text.{is_eq-slice_cmp}
use Rattle.fr_base.specs.Names.{same_text}
use Rattle.fr_base.specs.Queries.{named, signals_of, signal_rows}
use Rattle.fr_base.specs.Tables.{len, only}
use Rattle.fr_base.specs.declared.name.Name.{Name}
use Rattle.fr_base.proofs.SoundRows.{same_text-is}
use Rattle.fr_base.specs.Keys.{names}
use Rattle.fr_world.specs.Pages.{IsKept, PageData, frames_data, own_rows_of}
use Rattle.fr_world.specs.declared.page.PageFrame.{PageFrame}
use Rattle.fr_world.proofs.KeyLaws.{keys-frames_data, name_cmp}
use Rattle.fr_office.proofs.PageRows.{FrameEntry, entry, rows-page}

-- what was found, as the rows of the register
abbrev pub found : Name → Name → Option PageFrame → List FrameEntry
found s n None = []
found s n (Some f) = entry s (n, f) ∷ []

module _ (s n : Name) where
  abbrev is_named : FrameEntry → Bool
  is_named e = same_text e.0.1 n

  -- the rows' test of a name is that of a look-up
  tested : (y : Name) → same_text y n ≡ is_at (name_cmp n) y
  tested y = sym (is_eq-slice_cmp y n) ∙ (eq_by_cmp_equiv nat_list_cmp_total).symm y n

  -- names that are above it are others
  none_above : (es : List (Name × PageFrame)) → AllByRecursion (λ y. name_cmp n y ≡ Less) (keys_of es) → filter is_named (map (entry s) es) ≡ []
  none_above [] h = refl
  none_above (e ∷ es) h = ap (λ b. cond b (entry s e ∷ filter is_named (map (entry s) es)) (filter is_named (map (entry s) es))) (tested e.0 ∙ ap is_eq h.0) ∙ none_above es h.1

  -- the rows of this name are what is found at it
  pub picked : (es : List (Name × PageFrame)) → IsStrictlySortedBy name_cmp (keys_of es) → filter is_named (map (entry s) es) ≡ found s n (lookup (is_at (name_cmp n)) es)
  unfolding IsStrictlySortedBy
  picked [] h = refl
  picked (e ∷ es) h =
      let rest : List FrameEntry = filter is_named (map (entry s) es) in
      ap (λ b. cond b (entry s e ∷ rest) rest) (tested e.0)
      ∙ elim (is_at (name_cmp n) e.0) as (λ b. is_at (name_cmp n) e.0 ≡ b → cond b (entry s e ∷ rest) rest ≡ found s n (cond b (Some e.1) (lookup (is_at (name_cmp n)) es))) [
        | true ↦ λ tie.
            let same : e.0 ≡ n = same_text-is e.0 n (tested e.0 ∙ tie) in
            let above : AllByRecursion (λ y. name_cmp n y ≡ Less) (keys_of es) = subst (λ x. AllByRecursion (λ y. name_cmp x y ≡ Less) (keys_of es)) same h.0 in
            λ i. entry s (same i, e.1) ∷ none_above es above i
        | false ↦ λ other. picked es h.1
      ] refl

-- the names of a page's frames rise in their map
frames-rise : (page : PageData) (es : List (Name × PageFrame)) → frames_data es ≡ page.frames → IsKept page → IsStrictlySortedBy name_cmp (keys_of es)
unfolding names
frames-rise page es e kept = subst (IsStrictlySortedBy name_cmp) (sym (ap keys_of e) ∙ keys-frames_data es) kept.order.frames.names

module _ (page : PageData) (n : Name) (es : List (Name × PageFrame)) (e : frames_data es ≡ page.frames) (kept : IsKept page) where
  h : IsStrictlySortedBy name_cmp (keys_of es)
  h = frames-rise page es e kept

  named-rows : (r : Option PageFrame) → r ≡ lookup (is_at (name_cmp n)) es → (named n (own_rows_of page).frames).rows ≡ found page.supplier n r
  unfolding named only
  named-rows r is = ap (filter (is_named page.supplier n)) (rows-page page es e h) ∙ picked page.supplier n es h ∙ ap (found page.supplier n) (sym is)

  -- where there is one, its signals are shown
  pub signals-found : (f : PageFrame) → Some f ≡ lookup (is_at (name_cmp n)) es → signals_of (named n (own_rows_of page).frames) ≡ signal_rows (entry page.supplier (n, f))
  unfolding signals_of
  signals-found f is = ap (flat_map signal_rows) (named-rows (Some f) is) ∙ append-nil (signal_rows (entry page.supplier (n, f)))

  pub signals-none : None ≡ lookup (is_at (name_cmp n)) es → signals_of (named n (own_rows_of page).frames) ≡ []
  unfolding signals_of
  signals-none is = ap (flat_map signal_rows) (named-rows None is)

  pub there-found : (f : PageFrame) → Some f ≡ lookup (is_at (name_cmp n)) es → not true ≡ (len (named n (own_rows_of page).frames) == 0)
  unfolding len
  there-found f is = ap (λ (rs : List FrameEntry). length rs == 0) (sym (named-rows (Some f) is))

  pub there-none : None ≡ lookup (is_at (name_cmp n)) es → not false ≡ (len (named n (own_rows_of page).frames) == 0)
  unfolding len
  there-none is = ap (λ (rs : List FrameEntry). length rs == 0) (sym (named-rows None is))
