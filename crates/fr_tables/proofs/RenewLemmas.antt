-- What an UPDATE of columns that nothing refers to makes of a table's values.
use Rattle.std.proofs.Common.{◌≡◌, ◌==◌, ℕ, ℤ, List, [], ◌∷◌, map, filter, length, cond, Bool, true, false, None, refl, arith, sym, ap, ap₂, subst, ◌∙◌, if◌then◌else◌}
use Rattle.std.proofs.lemmas.Bool.Decides.{nat_tests}
use Rattle.std.specs.List.{AllByRecursion, list_all}
use Rattle.sqlite.specs.declared.types.Value.{Value}
use Rattle.sqlite.specs.declared.types.Value.TheVariants.{Int}
use Rattle.sqlite.specs.Order.{Row, value_cmp}
use Rattle.sqlite.specs.Term.{Term, holds}
use Rattle.sqlite.specs.Tree.{rowid}
use Rattle.sqlite.specs.Edit.{id_in, without_all}
use Rattle.sqlite_rules.specs.Edit.{put_all, are_fresh}
use Rattle.sqlite_rules.specs.Lists.{Has}
use Rattle.sqlite_rules.proofs.ListLemmas.{all_has, all_from, has_filtered}
use Rattle.sqlite_trees.specs.View.{is_int}
use Rattle.sqlite_trees.proofs.ListLemmas.{all_weaker, all-map, ascending-map, ascending_weaker, map-map}
use Rattle.sqlite_rules.specs.Action.{works}
use Rattle.sqlite_rules.proofs.ActionLemmas.{no_works}
use Rattle.sqlite_schema.specs.declared.schema.Keys.TheVariants.{Enforced}
use Rattle.sqlite_tied.specs.Compute.{everything}
use Rattle.fr_tables.specs.Schema.{Layout, layout_of, register_schema, old_schema}
use Rattle.fr_tables.specs.Tables.{AreKept}
use Rattle.fr_tables.specs.Changes.{Changes}
use Rattle.fr_tables.proofs.TableOf.{TableOf, Does, does}
use Rattle.fr_tables.proofs.BehindLemmas.{works_same}
use Rattle.fr_tables.proofs.ReadLemmas.{stored_as}
use Rattle.fr_tables.proofs.DeleteLemmas.{own_id, has_permuted}
use Rattle.fr_tables.proofs.UpdateLemmas.{UpdatesBy, updated, renewed, turned, replaced}

map_on : {X Y : Type 0} (f g : X → Y) (xs : List X) → AllByRecursion (λ x. f x ≡ g x) xs → map f xs ≡ map g xs
map_on f g [] h = refl
map_on f g (x ∷ xs) h = ap₂ (λ y ys. y ∷ ys) h.0 (map_on f g xs h.1)

-- an UPDATE sets nothing off, since each reference has NO ACTION for it
idle_alone : (tree : ℕ) (olds news : List Row) → (length news == 0) ≡ false → works (old_schema None None) Enforced 0 tree olds news ≡ []
unfolding everything
idle_alone tree olds news some = rw some

idle : (l : Layout) (tree : ℕ) (olds news : List Row) → length olds ≡ length news → works (register_schema l) Enforced 0 tree olds news ≡ []
idle l tree [] news h = no_works (register_schema l) Enforced 0 tree news
idle l tree (old ∷ olds) [] h = absurd (omega (arith, h))
idle l tree (old ∷ olds) (new ∷ news) h = works_same l 0 tree (old ∷ olds) (new ∷ news) ∙ idle_alone tree (old ∷ olds) (new ∷ news) (grind (arith, nat_tests))

module _ {X : Type 0} {columns : X → Row} {read : Row → X} (k : TableOf columns read) where
  -- the text puts another value in the place of each row that passes
  pub record Renews (text : List ℕ) (params : Row) (passes : X → Bool) (next : X → X) : Type 0 where
    pub tests : List Term
    pub terms : List Term
    pub is : (l : Layout) → UpdatesBy (register_schema l) (k.table l) (k.at l) text tests terms
    pub tested : (p : Value × X) → list_all (holds (params ∷ stored_as columns p ∷ [])) tests ≡ passes p.1
    pub gives : (l : Layout) (n : ℤ) (x : X) → renewed (k.table l) terms params (Int n ∷ columns x) ≡ Int n ∷ columns (next x)

module _ {X : Type 0} {columns : X → Row} {read : Row → X} (k : TableOf columns read) {text : List ℕ} {params : Row} {passes : X → Bool} {next : X → X} (d : Renews k text params passes next) where
  abbrev test : Row → Bool
  test r = list_all (holds (params ∷ r ∷ [])) d.tests

  -- the row that stands in the place of the row
  abbrev heir : Row → Row
  heir r = rowid r ∷ columns (next (read r))

  abbrev changed : X → X
  changed x = if passes x then next x else x

  heir_of : (l : Layout) (rows : List Row) (r : Row) → AreKept columns read rows → Has rows r → renewed (k.table l) d.terms params r ≡ heir r
  heir_of l rows r kept h =
      let typed : r ≡ rowid r ∷ columns (read r) = all_has _ rows r kept.typed h in
      let own : rowid r ≡ Int (id_in (rowid r)) = own_id rows r kept.numbered h in
      let is : r ≡ Int (id_in (rowid r)) ∷ columns (read r) = typed ∙ ap (λ v. v ∷ columns (read r)) own in
      ap (renewed (k.table l) d.terms params) is ∙ d.gives l (id_in (rowid r)) (read r) ∙ ap (λ v. v ∷ columns (next (read r))) (sym own)

  turned_in : (rows : List Row) (r : Row) → AreKept columns read rows → Has rows r → read (turned test heir r) ≡ changed (read r)
  turned_in rows r kept h =
      let typed : r ≡ rowid r ∷ columns (read r) = all_has _ rows r kept.typed h in
      let is : test r ≡ passes (read r) = ap test typed ∙ d.tested (rowid r, read r) in
      rw is (elim (passes (read r)) as (λ b. read (cond b (heir r) r) ≡ cond b (next (read r)) (read r)) [ true ↦ k.again (rowid r) (next (read r)) | false ↦ refl ])

  turned_typed : (rows : List Row) (r : Row) → AreKept columns read rows → Has rows r → turned test heir r ≡ rowid (turned test heir r) ∷ columns (read (turned test heir r))
  turned_typed rows r kept h =
      let typed : r ≡ rowid r ∷ columns (read r) = all_has _ rows r kept.typed h in
      elim (test r) as (λ b. cond b (heir r) r ≡ rowid (cond b (heir r) r) ∷ columns (read (cond b (heir r) r)))
      [ true ↦ ap (λ x. rowid r ∷ columns x) (sym (k.again (rowid r) (next (read r)))) | false ↦ typed ]

  -- so these rows have that value
  pub renews : Does text params (Changes (λ t. k.put (map changed (k.rows t)) t))
  renews = does text params _ (λ old new count was h.
      let l = layout_of old.now.trees in
      let table = k.table l in
      let kept = k.kept old.now was in
      let rows = old.now.trees table.tree in
      let did = updated (register_schema l) table (k.at l) (k.place l) (idle l table.tree) text d.tests d.terms (d.is l) params old new count was.schema h in
      let all = did.applies in
      let there = λ (r : Row) (k : Has did.found r). let x : Has rows r = (has_filtered test rows r (has_permuted (filter test rows) did.found r did.same k)).0 in x in
      let news : map (renewed table d.terms params) did.found ≡ map heir did.found = map_on _ _ did.found (all_from _ did.found (λ r k. heir_of l rows r kept (there r k))) in
      let fresh = subst (λ rs. are_fresh (without_all rows (map (λ r. id_in (rowid r)) did.found)) rs ≡ true) news all.fresh in
      let rows_are : new.now.trees table.tree ≡ map (turned test heir) rows =
      all.rows ∙ ap (put_all (without_all rows (map (λ r. id_in (rowid r)) did.found))) news ∙ replaced test heir rows did.found kept.rise kept.numbered (λ r. refl) did.same fresh in
      let own = λ (r : Row). let x : rowid (turned test heir r) ≡ rowid r = elim (test r) as (λ b. rowid (cond b (heir r) r) ≡ rowid r) [ true ↦ refl | false ↦ refl ] in x in
      let now_kept : AreKept columns read (map (turned test heir) rows) = record {
        rise = ascending-map _ (turned test heir) rows (ascending_weaker _ _ (λ a b less. ap₂ value_cmp (own a) (own b) ∙ less) rows kept.rise);
        numbered = all-map _ (turned test heir) rows (all_weaker _ _ (λ r h. ap is_int (own r) ∙ h) rows kept.numbered);
        typed = all-map _ (turned test heir) rows (all_from _ rows (λ r k. turned_typed rows r kept k));
      } in
      let values : map read (map (turned test heir) rows) ≡ map changed (map read rows) =
      map-map _ _ rows ∙ map_on _ _ rows (all_from _ rows (λ r k. turned_in rows r kept k)) ∙ sym (map-map changed read rows) in
      k.made old new was (map changed) (record { still = did.still; others = all.tables; shown = did.shown })
      (record { kept = subst (AreKept columns read) (sym rows_are) now_kept; values_are = ap (map read) rows_are ∙ values }))
