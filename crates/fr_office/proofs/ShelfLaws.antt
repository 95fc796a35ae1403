-- Pages that stand by whose they are: what is found there, what is left and put there, and how many bytes it takes.
use Rattle.std.proofs.Common.{◌≡◌, ℕ, ◌+◌, ◌-◌, ◌≤◌, arith, Bool, true, false, not, cond, List, [], ◌∷◌, filter, sum_by, All, Option, Some, None, Ordering, Less, Equal, Greater, refl, sym, ap, subst, ◌∙◌}
use Rattle.std.specs.Option.{option_map, unwrap_or}
use Rattle.std.specs.BTreeMap.{insert_entry, is_at}
use Rattle.std.specs.Cmp.{IsTotalOrder, on_total, tied_itself}
use Rattle.std.specs.List.{AllByRecursion}
use Rattle.std.specs.List.Sorted.{IsStrictlySortedBy}
use Rattle.std.specs.Map.{keys_of, values_of, lookup, remove_entry}
use Rattle.std.specs.Ordering.{is_eq, match_ordering}
use Rattle.std.proofs.lemmas.List.Elements.{All-cons, All-filter, All-head, All-nil, All-tail}
use Rattle.std.proofs.lemmas.List.Filters.{sum_by-filter_both}
use Rattle.std.proofs.lemmas.Map.Entries.{sum_by-insert_entry, sum_by-remove_entry}
use Rattle.fr_base.specs.Keys.{names, owned}
use Rattle.fr_base.specs.Names.{same_text}
use Rattle.fr_base.specs.declared.name.Name.{Name}
use Rattle.fr_base.proofs.AloneCells.{same_text-itself}
use Rattle.fr_base.proofs.SoundRows.{same_text-is}
use Rattle.fr_world.specs.Pages.{PageData}
use Rattle.fr_office.specs.KeptPages.{bytes_of, is_page_of, others_than, page_at, whose, with_page}
use Rattle.fr_office.specs.Shelves.{IsKeyed, IsShelf, key_of}
use Rattle.fr_office.specs.contracts.shelf.PageKeyOrd.TheImpl as by_owner
use Rattle.fr_office.specs.declared.shelf.PageKey.{PageKey}
use Rattle.fr_office.specs.declared.shelf.TheConstants.{COUNTED_BYTES}
use Rattle.fr_office.proofs.WarmLaws.{both_true}

-- ---- keys

abbrev pub key_cmp : PageKey → PageKey → Ordering
key_cmp = by_owner.cmp-value.it

abbrev names_of : PageKey → Name × Name
names_of k = (k.supplier, k.variant)

key_alike : (x y : PageKey) → key_cmp x y ≡ owned.compare (names_of x) (names_of y)
unfolding owned names
key_alike x y = refl

key_total : IsTotalOrder key_cmp
unfolding owned names
key_total = on_total names_of owned.total

key_exact : (x y : PageKey) → key_cmp x y ≡ Equal → x ≡ y
key_exact x y tie =
    let same = owned.exact (names_of x) (names_of y) (sym (key_alike x y) ∙ tie) in
    λ i. record { supplier = (same i).0; variant = (same i).1 }

module _ (k : PageKey) (page : PageData) where
  named : key_cmp k (key_of page) ≡ Equal → is_page_of k.supplier k.variant page ≡ true
  named tie = subst (λ (j : PageKey). is_page_of j.supplier j.variant page ≡ true) (sym (key_exact k (key_of page) tie)) (rw (same_text-itself page.supplier, same_text-itself page.variant) refl)

  tied : is_page_of k.supplier k.variant page ≡ true → key_cmp k (key_of page) ≡ Equal
  tied h =
      let both = both_true (same_text page.supplier k.supplier) (same_text page.variant k.variant) h in
      let same : key_of page ≡ k = λ i. record { supplier = same_text-is page.supplier k.supplier both.0 i; variant = same_text-is page.variant k.variant both.1 i } in
      subst (λ j. key_cmp k j ≡ Equal) (sym same) (tied_itself key_total k)

  -- a page is looked for by its key
  key_finds : is_at (key_cmp k) (key_of page) ≡ is_page_of k.supplier k.variant page
  key_finds = elim (is_page_of k.supplier k.variant page) as (λ b. is_page_of k.supplier k.variant page ≡ b → is_at (key_cmp k) (key_of page) ≡ b) [
    | true ↦ λ h. ap is_eq (tied h)
    | false ↦ λ h. elim (key_cmp k (key_of page)) as (λ r. key_cmp k (key_of page) ≡ r → is_eq r ≡ false) [
      | Less ↦ λ e. refl
      | Equal ↦ λ e. let yes = named e in cc
      | Greater ↦ λ e. refl
    ] refl
  ] refl

-- ---- pages by their keys

module _ (k : PageKey) where
  -- what is looked up is the page
  pub looked_up : (es : List (PageKey × PageData)) → All IsKeyed es → lookup (is_at (key_cmp k)) es ≡ page_at k.supplier k.variant (values_of es)
  looked_up [] keyed = refl
  looked_up (e ∷ es) keyed =
      let here : is_at (key_cmp k) e.0 ≡ is_page_of k.supplier k.variant e.1 = ap (is_at (key_cmp k)) (All-head IsKeyed e es keyed) ∙ key_finds k e.1 in
      λ i. cond (here i) (Some e.1) (looked_up es (All-tail IsKeyed e es keyed) i)

  -- past its key it does not stand
  past : (first : PageKey) (es : List (PageKey × PageData)) → key_cmp k first ≡ Equal → AllByRecursion (λ y. key_cmp first y ≡ Less) (keys_of es) → All IsKeyed es →
      values_of es ≡ others_than k.supplier k.variant (values_of es)
  past first [] tie above keyed = refl
  past first (e ∷ es) tie above keyed =
      let less : key_cmp k e.0 ≡ Less = subst (λ j. key_cmp j e.0 ≡ Less) (sym (key_exact k first tie)) above.0 in
      let other : is_page_of k.supplier k.variant e.1 ≡ false = sym (key_finds k e.1) ∙ ap (is_at (key_cmp k)) (sym (All-head IsKeyed e es keyed)) ∙ ap is_eq less in
      ap (λ pages. e.1 ∷ pages) (past first es tie above.1 (All-tail IsKeyed e es keyed))
      ∙ ap (λ b. cond (not b) (e.1 ∷ others_than k.supplier k.variant (values_of es)) (others_than k.supplier k.variant (values_of es))) (sym other)

  -- without its key the others are left
  pub left_there : (es : List (PageKey × PageData)) → IsStrictlySortedBy key_cmp (keys_of es) → All IsKeyed es →
      values_of (remove_entry (is_at (key_cmp k)) es) ≡ others_than k.supplier k.variant (values_of es)
  unfolding IsStrictlySortedBy
  left_there [] sorted keyed = refl
  left_there (e ∷ es) sorted keyed =
      let rest = values_of es in
      let others = others_than k.supplier k.variant rest in
      let later = left_there es sorted.1 (All-tail IsKeyed e es keyed) in
      let here : is_at (key_cmp k) e.0 ≡ is_page_of k.supplier k.variant e.1 = ap (is_at (key_cmp k)) (All-head IsKeyed e es keyed) ∙ key_finds k e.1 in
      let by : (r : Ordering) → key_cmp k e.0 ≡ r → values_of (cond (is_eq r) es (e ∷ remove_entry (is_at (key_cmp k)) es)) ≡ cond (not (is_eq r)) (e.1 ∷ others) others = λ r. elim r as (λ r. key_cmp k e.0 ≡ r → values_of (cond (is_eq r) es (e ∷ remove_entry (is_at (key_cmp k)) es)) ≡ cond (not (is_eq r)) (e.1 ∷ others) others) [
        | Less ↦ λ _. ap (λ pages. e.1 ∷ pages) later
        | Equal ↦ λ tie. past e.0 es tie sorted.0 (All-tail IsKeyed e es keyed)
        | Greater ↦ λ _. ap (λ pages. e.1 ∷ pages) later
      ] in
      by (key_cmp k e.0) refl ∙ ap (λ b. cond (not b) (e.1 ∷ others) others) here

module _ (page : PageData) where
  -- it stands in its place
  placed : (es : List (PageKey × PageData)) → All IsKeyed es → values_of (insert_entry key_cmp es (key_of page) page) ≡ with_page page (values_of es)
  placed [] keyed = refl
  placed (e ∷ es) keyed =
      let rest = insert_entry key_cmp es (key_of page) page in
      let later = placed es (All-tail IsKeyed e es keyed) in
      let alike : key_cmp (key_of page) e.0 ≡ owned.compare (whose page) (whose e.1) = ap (key_cmp (key_of page)) (All-head IsKeyed e es keyed) ∙ key_alike (key_of page) (key_of e.1) in
      subst (λ r. values_of (match_ordering (key_cmp (key_of page) e.0) ((key_of page, page) ∷ e ∷ es) ((e.0, page) ∷ es) (e ∷ rest)) ≡ match_ordering r (page ∷ e.1 ∷ values_of es) (page ∷ values_of es) (e.1 ∷ with_page page (values_of es))) alike
      (elim (key_cmp (key_of page) e.0) as (λ r. values_of (match_ordering r ((key_of page, page) ∷ e ∷ es) ((e.0, page) ∷ es) (e ∷ rest)) ≡ match_ordering r (page ∷ e.1 ∷ values_of es) (page ∷ values_of es) (e.1 ∷ with_page page (values_of es))) [
        | Less ↦ refl
        | Equal ↦ refl
        | Greater ↦ ap (λ pages. e.1 ∷ pages) later
      ])

  -- and all by whose they are
  placed-keyed : (es : List (PageKey × PageData)) → All IsKeyed es → All IsKeyed (insert_entry key_cmp es (key_of page) page)
  placed-keyed [] keyed = All-cons IsKeyed (key_of page, page) [] refl (All-nil IsKeyed)
  placed-keyed (e ∷ es) keyed =
      let rest = insert_entry key_cmp es (key_of page) page in
      let later = placed-keyed es (All-tail IsKeyed e es keyed) in
      elim (key_cmp (key_of page) e.0) as (λ r. key_cmp (key_of page) e.0 ≡ r → All IsKeyed (match_ordering r ((key_of page, page) ∷ e ∷ es) ((e.0, page) ∷ es) (e ∷ rest))) [
        | Less ↦ λ _. All-cons IsKeyed (key_of page, page) (e ∷ es) refl keyed
        | Equal ↦ λ tie. All-cons IsKeyed (e.0, page) es (sym (key_exact (key_of page) e.0 tie)) (All-tail IsKeyed e es keyed)
        | Greater ↦ λ _. All-cons IsKeyed e rest (All-head IsKeyed e es keyed) later
      ] refl

removed-keyed : (test : PageKey → Bool) (es : List (PageKey × PageData)) → All IsKeyed es → All IsKeyed (remove_entry test es)
removed-keyed test [] keyed = keyed
removed-keyed test (e ∷ es) keyed =
    let later = removed-keyed test es (All-tail IsKeyed e es keyed) in
    elim (test e.0) as (λ b. All IsKeyed (cond b es (e ∷ remove_entry test es))) [
      | true ↦ All-tail IsKeyed e es keyed
      | false ↦ All-cons IsKeyed e (remove_entry test es) (All-head IsKeyed e es keyed) later
    ]

-- ---- bytes

-- where a page was taken out
pub shelf_taken : (k : PageKey) (es left : List (PageKey × PageData)) (bytes less : ℕ) (page : PageData) → IsShelf es bytes → left ≡ remove_entry (is_at (key_cmp k)) es → lookup (is_at (key_cmp k)) es ≡ Some page → less ≡ bytes_of page →
    (less ≤ bytes) × IsShelf left (bytes - less)
shelf_taken k es left bytes less page shelf taken found is =
    let parts = sum_by-remove_entry bytes_of (is_at (key_cmp k)) es in
    let was = ap (λ o. unwrap_or (option_map bytes_of o) 0) found in
    let now = ap (λ es. sum_by bytes_of (values_of es)) taken in (
      omega (arith, parts, was, is, shelf.counted),
      record {
        keyed = subst (All IsKeyed) (sym taken) (removed-keyed (is_at (key_cmp k)) es shelf.keyed);
        counted = omega (arith, parts, was, now, is, shelf.counted);
        bound = omega (arith, shelf.bound);
      },
    )

module _ (es later : List (PageKey × PageData)) (bytes more : ℕ) (k : PageKey) (page : PageData) (named : k ≡ key_of page) (shelf : IsShelf es bytes) (sorted : IsStrictlySortedBy key_cmp (keys_of es))
    (put : later ≡ insert_entry key_cmp es k page) (is : more ≡ bytes_of page) (fits : sum_by bytes_of (values_of es) + bytes_of page ≤ COUNTED_BYTES) where
  then_keyed : All IsKeyed later
  then_keyed = subst (All IsKeyed) (sym (put ∙ ap (λ j. insert_entry key_cmp es j page) named)) (placed-keyed page es shelf.keyed)

  parts : sum_by bytes_of (values_of later) + unwrap_or (option_map bytes_of (lookup (is_at (key_cmp k)) es)) 0 ≡ sum_by bytes_of (values_of es) + bytes_of page
  parts = subst (λ fs. sum_by bytes_of (values_of fs) + unwrap_or (option_map bytes_of (lookup (is_at (key_cmp k)) es)) 0 ≡ sum_by bytes_of (values_of es) + bytes_of page) (sym put) (sum_by-insert_entry bytes_of key_total es k page sorted)

  -- where a page was put in its place
  pub shelf_put : (former : Option PageData) → former ≡ lookup (is_at (key_cmp k)) es → former ≡ None → IsShelf later (bytes + more)
  shelf_put former found none =
      let was = ap (λ o. unwrap_or (option_map bytes_of o) 0) (sym found ∙ none) in
      record { keyed = then_keyed; counted = omega (arith, parts, was, is, shelf.counted); bound = omega (arith, is, shelf.counted, fits) }

  -- in place of another
  pub shelf_put_over : (former : Option PageData) (less : ℕ) (it : PageData) → former ≡ lookup (is_at (key_cmp k)) es → former ≡ Some it → less ≡ bytes_of it → (less ≤ bytes + more) × IsShelf later (bytes + more - less)
  shelf_put_over former less it found there what =
      let was = ap (λ o. unwrap_or (option_map bytes_of o) 0) (sym found ∙ there) in (
        omega (arith, parts, was, is, what, shelf.counted),
        record {
          keyed = then_keyed;
          counted = omega (arith, parts, was, is, what, shelf.counted);
          bound = omega (arith, is, shelf.counted, fits);
        },
      )

  pub put_there : values_of later ≡ with_page page (values_of es)
  put_there = ap values_of (put ∙ ap (λ j. insert_entry key_cmp es j page) named) ∙ placed page es shelf.keyed

-- pages that are left take no more than all
fewer_bytes : (test : PageData → Bool) (pages : List PageData) → sum_by bytes_of (filter test pages) ≤ sum_by bytes_of pages
fewer_bytes test pages = omega (arith, sum_by-filter_both test (λ page. not (test page)) (λ _. refl) bytes_of pages)

-- the pages whose entries pass a test of pages
values-filter : (test : PageData → Bool) (es : List (PageKey × PageData)) → values_of (filter (λ e. test e.1) es) ≡ filter test (values_of es)
values-filter test [] = refl
values-filter test (e ∷ es) =
    let later = values-filter test es in
    elim (test e.1) as (λ b. values_of (cond b (e ∷ filter (λ e. test e.1) es) (filter (λ e. test e.1) es)) ≡ cond b (e.1 ∷ filter test (values_of es)) (filter test (values_of es))) [
      | true ↦ ap (λ pages. e.1 ∷ pages) later
      | false ↦ later
    ]

-- where pages were let go of
module _ (test : PageData → Bool) (es left : List (PageKey × PageData)) (bytes : ℕ) (shelf : IsShelf es bytes) (kept : left ≡ filter (λ e. test e.1) es) where
  pub left_pages : values_of left ≡ filter test (values_of es)
  left_pages = ap values_of kept ∙ values-filter test es

  pub left_bytes : sum_by bytes_of (values_of left) ≤ COUNTED_BYTES
  left_bytes = omega (arith, ap (sum_by bytes_of) left_pages, fewer_bytes test (values_of es), shelf.counted, shelf.bound)

  pub shelf_left : (less : ℕ) → less ≡ sum_by bytes_of (values_of left) → IsShelf left less
  shelf_left less is = record { keyed = subst (All IsKeyed) (sym kept) (All-filter (λ e. test e.1) IsKeyed es shelf.keyed); counted = is; bound = omega (arith, is, left_bytes) }

-- a test that each passes leaves all
pub all_left : (pages : List PageData) → pages ≡ filter (λ _. true) pages
all_left [] = refl
all_left (page ∷ pages) = ap (λ rest. page ∷ rest) (all_left pages)
