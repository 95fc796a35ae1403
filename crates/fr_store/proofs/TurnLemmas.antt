-- Sets and maps that are filled row by row, and tables of rows in any order.
use Rattle.std.proofs.Common.{◌≡◌, ℕ, suc, ◌+◌, ◌<◌, Bool, true, false, cond, None, Some, Option, List, [], ◌∷◌, ◌++◌, map, filter, reverse, take, length, get_or, Ordering, refl, sym, ap, ◌∙◌, subst, arith, IsPermutation}
use Rattle.std.specs.Prelude.{T}
use Rattle.std.specs.Ordering.{is_eq}
use Rattle.std.specs.Cmp.{tied_itself}
use Rattle.std.specs.List.{AllByRecursion}
use Rattle.std.specs.List.Sorted.{IsStrictlySortedBy}
use Rattle.std.specs.Map.{keys_of}
use Rattle.std.specs.BTreeMap.{insert_entry}
use Rattle.std.specs.BTreeSet.{insert_key}
use Rattle.std.specs.FinMap.Entries.{find, is_sorted, below_all}
use Rattle.std.proofs.lemmas.List.{reverse-append}
use Rattle.sqlite.specs.Order.{Row}
use Rattle.sqlite_keyed.proofs.ListLemmas.{map-map}
use Rattle.fr_tables.specs.Changes.{AreListed}
use Rattle.std.proofs.lemmas.List.Elements.{recursion_from_All, All-from_recursion}
use Rattle.std.proofs.lemmas.List.Sorted.{All-permutation, IsPermutation-sym, IsPermutation-trans, IsPermutation-map, IsPermutation-reverse}
use Rattle.std.proofs.Math.Seq.{take-suc}
use Rattle.fr_base.specs.TableRows.{first, second}
use Rattle.fr_base.specs.Tables.{Order, Table, get, insert, only, from_rows}
use Rattle.fr_base.specs.Keys.{owned, channel_slots, placement_order}
use Rattle.fr_base.specs.declared.name.Name.{Name}
use Rattle.fr_base.specs.declared.placement.Placement.{Placement}
use Rattle.fr_base.proofs.TableLaws.{equal, same_table, get-from_rows, none_above}
use Rattle.fr_world.specs.Maps.{table_of, set_of}
use Rattle.fr_world.specs.Pages.{holder_of}
use Rattle.fr_world.specs.declared.page.ChannelSlot.{ChannelSlot}
use Rattle.fr_world.proofs.KeyLaws.{name_cmp, own_alike, slot_cmp, slots_alike, placement_cmp, placements_alike}
use Rattle.fr_world.proofs.MapLaws.{set_of-insert_key, table_of-insert_entry}

-- one row more, seen from the last
pub turned : {X : Type 0} (rows : List X) (at : ℕ) (row : X) → at < length rows → get_or rows at row ≡ row → reverse (take (at + 1) rows) ≡ row ∷ reverse (take at rows)
turned rows at row low is =
    let next : at + 1 ≡ suc at = omega arith in
    ap (λ n. reverse (take n rows)) next ∙ ap reverse (take-suc rows at row low ∙ ap (λ x. take at rows ++ x ∷ []) is) ∙ reverse-append (take at rows) (row ∷ [])

-- ---- one more

pub node_in : (s : Name) (old new xs : List Name) (n : Name) → new ≡ insert_key name_cmp old n → set_of owned (λ n. (s, n)) old ≡ set_of owned (λ n. (s, n)) xs
    → set_of owned (λ n. (s, n)) new ≡ set_of owned (λ n. (s, n)) (n ∷ xs)
unfolding set_of from_rows
node_in s old new xs n is h =
    ap (set_of owned (λ n. (s, n))) is ∙ set_of-insert_key name_cmp owned (λ n. (s, n)) (own_alike s) old n ∙ ap (λ t. insert t (s, n) tt) h

pub grant_in : (s : Name) (old new xs : List (ChannelSlot × Name)) (k : ChannelSlot) (n : Name) → IsStrictlySortedBy slot_cmp (keys_of old) → new ≡ insert_entry slot_cmp old k n
    → table_of channel_slots (λ k. (k.slot, k.channel)) (holder_of s) old ≡ table_of channel_slots (λ k. (k.slot, k.channel)) (holder_of s) xs
    → table_of channel_slots (λ k. (k.slot, k.channel)) (holder_of s) new ≡ table_of channel_slots (λ k. (k.slot, k.channel)) (holder_of s) ((k, n) ∷ xs)
unfolding table_of from_rows
grant_in s old new xs k n ordered is h =
    ap (table_of channel_slots (λ k. (k.slot, k.channel)) (holder_of s)) is ∙ table_of-insert_entry slot_cmp channel_slots (λ k. (k.slot, k.channel)) (holder_of s) slots_alike old k n ordered
    ∙ ap (λ t. insert t (k.slot, k.channel) (holder_of s n)) h

pub placement_in : (old new xs : List Placement) (q : Placement) → new ≡ insert_key placement_cmp old q → set_of placement_order (λ q. q) old ≡ set_of placement_order (λ q. q) xs
    → set_of placement_order (λ q. q) new ≡ set_of placement_order (λ q. q) (q ∷ xs)
unfolding set_of from_rows
placement_in old new xs q is h =
    ap (set_of placement_order (λ q. q)) is ∙ set_of-insert_key placement_cmp placement_order (λ q. q) placements_alike old q ∙ ap (λ t. insert t q tt) h

-- ---- rows in any order

module _ {K V : Type 0} (o : Order K) where
  abbrev Found : List (K × V) → K × V → Type 0
  Found es e = find o.compare e.0 es ≡ Some e.1

  abbrev Apart : K → K × V → Type 0
  Apart k e = is_eq (o.compare k e.0) ≡ false

  -- a row that is found among the later ones is found
  still_found : (e : K × V) (es fs : List (K × V)) → T (below_all o.compare e.0 es) → T (below_all o.compare e.0 fs) → AllByRecursion (Found es) fs → AllByRecursion (Found (e ∷ es)) fs
  still_found e es [] below lower h = tt
  still_found e es (f ∷ fs) below lower h = (by_test (is_eq (o.compare f.0 e.0)) refl, still_found e es fs below (second _ _ lower) h.1)
    where
      by_test : (b : Bool) → is_eq (o.compare f.0 e.0) ≡ b → cond b (Some e.1) (find o.compare f.0 es) ≡ Some f.1
      by_test false is = h.0
      by_test true is =
          let none = none_above o (λ k v. true) f.0 e.0 es (equal _ is) below in
          absurd (let no : None ≡ Some f.1 = sym none ∙ h.0 in cc)

  -- each row in order is found
  pub each_found : (es : List (K × V)) → T (is_sorted o.compare es) → AllByRecursion (Found es) es
  each_found [] h = tt
  each_found (e ∷ es) h =
      (ap (λ b. cond b (Some e.1) (find o.compare e.0 es)) (ap is_eq (tied_itself o.total e.0)), still_found e es es (first _ _ h) (first _ _ h) (each_found es (second _ _ h)))

  apart_none : (k : K) (es : List (K × V)) → find o.compare k es ≡ None → AllByRecursion (Apart k) es
  apart_none k [] h = tt
  apart_none k (e ∷ es) h = by_test (is_eq (o.compare k e.0)) refl h (apart_none k es)
    where
      by_test : (b : Bool) → is_eq (o.compare k e.0) ≡ b → cond b (Some e.1) (find o.compare k es) ≡ None → (find o.compare k es ≡ None → AllByRecursion (Apart k) es) → Apart k e × AllByRecursion (Apart k) es
      by_test true is h more = absurd cc
      by_test false is h more = (is, more h)

  none_apart : (k : K) (es : List (K × V)) → AllByRecursion (Apart k) es → find o.compare k es ≡ None
  none_apart k [] h = refl
  none_apart k (e ∷ es) h = ap (λ b. cond b (Some e.1) (find o.compare k es)) h.0 ∙ none_apart k es h.1

  -- what is found here, of rows that are found there, is found there
  found_there : (es fs : List (K × V)) → AllByRecursion (Found fs) es → (k : K) (v : V) → find o.compare k es ≡ Some v → find o.compare k fs ≡ Some v
  found_there [] fs h k v is = absurd cc
  found_there (e ∷ es) fs h k v is = by_test (is_eq (o.compare k e.0)) refl is (found_there es fs h.1 k v)
    where
      by_test : (b : Bool) → is_eq (o.compare k e.0) ≡ b → cond b (Some e.1) (find o.compare k es) ≡ Some v → (find o.compare k es ≡ Some v → find o.compare k fs ≡ Some v) → find o.compare k fs ≡ Some v
      by_test true tie is more = ap (λ j. find o.compare j fs) (o.exact k e.0 (equal _ tie)) ∙ h.0 ∙ is
      by_test false tie is more = more is

  -- a table of its rows in any order is the same
  pub rows_any : (t : Table o V) (es : List (K × V)) → IsPermutation t.rows es → from_rows {o = o} es ≡ t
  unfolding get
  rows_any t es same = same_table _ t (λ k. get-from_rows o es k ∙ alike k (find o.compare k es) refl)
    where
      found : AllByRecursion (Found t.rows) es
      found = recursion_from_All (Found t.rows) es (All-permutation (Found t.rows) t.rows es same (All-from_recursion (Found t.rows) t.rows (each_found t.rows t.sorted)))

      alike : (k : K) (v : Option V) → find o.compare k es ≡ v → find o.compare k es ≡ find o.compare k t.rows
      alike k (Some v) is = is ∙ sym (found_there es t.rows found k v is)
      alike k None is =
          is ∙ sym (none_apart k t.rows (recursion_from_All (Apart k) t.rows (All-permutation (Apart k) es t.rows (IsPermutation-sym _ _ same) (All-from_recursion (Apart k) es (apart_none k es is)))))

-- those that pass are the same there and back
back_among : {E : Type 0} (p : E → Bool) (g : E → E) → ((e : E) → p e ≡ true → g e ≡ e) → (es : List E) → map g (filter p es) ≡ filter p es
back_among p g same [] = refl
back_among p g same (e ∷ es) = by_test (p e) refl (back_among p g same es)
  where
    by_test : (b : Bool) → p e ≡ b → map g (filter p es) ≡ filter p es → map g (cond b (e ∷ filter p es) (filter p es)) ≡ cond b (e ∷ filter p es) (filter p es)
    by_test true is more = λ i. same e is i ∷ more i
    by_test false is more = more

-- The rows of a query, in any order, are the rows of the table that pass.
module _ {K V X : Type 0} (o : Order K) (t : Table o V) (p : K → V → Bool) (row : K × V → X) (shows : X → Row) (passes : X → Bool) (cmp : X → X → Ordering) (all : List X) (back : Row → K × V) where
  pub from_listed : IsPermutation (map row (filter (λ e. p e.0 e.1) t.rows)) (filter passes all) → ((e : K × V) → p e.0 e.1 ≡ true → back (shows (row e)) ≡ e) → (rows : List Row) → AreListed shows passes cmp all rows
      → from_rows {o = o} (map back (reverse rows)) ≡ only p t
  unfolding only
  from_listed same again rows h =
      let there : IsPermutation (map row (filter (λ e. p e.0 e.1) t.rows)) h.found = IsPermutation-trans _ _ _ same h.same in
      let shown : IsPermutation (map back (map shows (map row (filter (λ e. p e.0 e.1) t.rows)))) (map back rows) =
      subst (λ rs. IsPermutation (map back (map shows (map row (filter (λ e. p e.0 e.1) t.rows)))) (map back rs)) (sym h.shown) (IsPermutation-map back _ _ (IsPermutation-map shows _ _ there)) in
      let turn : IsPermutation (map back rows) (map back (reverse rows)) = IsPermutation-map back _ _ (IsPermutation-reverse rows) in
      let is : map back (map shows (map row (filter (λ e. p e.0 e.1) t.rows))) ≡ filter (λ e. p e.0 e.1) t.rows =
      map-map back shows _ ∙ map-map (λ x. back (shows x)) row _ ∙ back_among (λ e. p e.0 e.1) (λ e. back (shows (row e))) again t.rows in
      rows_any o (only p t) (map back (reverse rows)) (subst (λ es. IsPermutation es (map back (reverse rows))) is (IsPermutation-trans _ _ _ shown turn))
