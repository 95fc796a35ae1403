-- What the queries show of the book for which the tables stand.
use Rattle.std.proofs.Common.{◌≡◌, ℕ, pos, Bool, true, false, None, Some, Option, List, map, filter, Less, refl, sym, ap, ◌∙◌, subst, IfSome, IfOk, ok_or, Result, Ok, Err, MatchResult, inl}
use Rattle.std.specs.Ordering.{int_eq, ordering_then}
use Rattle.std.specs.Cmp.{tied_itself, on_total}
use Rattle.std.specs.Prelude.{⊤}
use Rattle.sqlite.specs.Order.{Row}
use Rattle.sqlite_trees.specs.Tree.{IsAscending}
use Rattle.sqlite_keyed.proofs.ListLemmas.{map-map, filter-map, filter_all, all_of, ascending-map}
use Rattle.fr_base.specs.Refusing.{◌>>=◌, ◌>>◌, ◌or◌, refuse◌when◌}
use Rattle.fr_base.specs.Tables.{only}
use Rattle.fr_base.specs.Keys.{names, owned}
use Rattle.fr_base.specs.Book.{Book, Variant, is_of}
use Rattle.fr_base.specs.declared.name.Name.{Name}
use Rattle.fr_base.proofs.SoundRows.{same_text-is}
use Rattle.fr_world.specs.BookEdits.{variants_in}
use Rattle.fr_world.specs.Common.{depth_after}
use Rattle.fr_world.specs.Pages.{nodes_in}
use Rattle.fr_base.specs.declared.answer.VariantRow as world
use Rattle.fr_tables.specs.Rows.{VariantRow, maybe_words, of_maybe, flag}
use Rattle.fr_tables.specs.Tables.{Tables}
use Rattle.sqlite.specs.State.{State, IsUnchanged}
use Rattle.fr_tables.specs.Changes.{AreListed, Stays}
use Rattle.fr_tables.specs.Statements.{is_node_of, shows_node, nodes_cmp, shows_variant, variants_cmp, every}
use Rattle.fr_store.specs.StandsFor.{HoldsRows, node_row, variant_row}
use Rattle.fr_store.specs.Reading.{name_shown, variant_shown}
use Rattle.fr_store.proofs.OrderLemmas.{IsBefore, rises, rises_among, are_listed}

-- what a proof about the depth of variants opens
unfoldable pub opened_open : ⊤
unfolding depth_after ◌>>=◌ ◌>>◌ ◌or◌ refuse◌when◌
opened_open = tt

-- what is said of the value, if there is one, is said of the answer
pub told_if : {X E : Type 0} (P Q : X → Type 0) → ((x : X) → P x → Q x) → (r : Option X) (e : E) (o : Result X E) → o ≡ ok_or r e → IfSome r P → IfOk o Q
told_if P Q so None e o is h = subst (λ o. IfOk o Q) (sym is) tt
told_if P Q so (Some x) e o is h = subst (λ o. IfOk o Q) (sym is) (so x h)

-- what is said of what was found is said of the answer
pub told_ok : {X E : Type 0} (P Q : X → Type 0) → ((x : X) → P x → Q x) → (r : Result X E) → IfOk r P → IfOk r Q
told_ok P Q so (Ok x) h = so x h
told_ok P Q so (Err e) h = tt

-- the tables stay; what is said of the value, if there is one, is said of the answer
pub reads_if : {X E : Type 0} (P Q : X → Type 0) (old new : State) → IsUnchanged old new → ((x : X) → P x → Q x) → (r : Option X) (e : E) (o : Result X E) → o ≡ ok_or r e → IfSome r P
    → MatchResult o (λ x. Q x × IsUnchanged old new) (λ _. Stays old new)
reads_if P Q old new same so None e o is h = subst (λ o. MatchResult o (λ x. Q x × IsUnchanged old new) (λ _. Stays old new)) (sym is) (inl same)
reads_if P Q old new same so (Some x) e o is h = subst (λ o. MatchResult o (λ x. Q x × IsUnchanged old new) (λ _. Stays old new)) (sym is) (so x h, same)

-- what is written is read back
pub maybe_back : (o : Option (List ℕ)) → maybe_words (of_maybe o) ≡ o
maybe_back None = refl
maybe_back (Some w) = refl

pub flag_back : (is : Bool) → int_eq (flag is) (pos 1) ≡ is
flag_back true = refl
flag_back false = refl

-- the same of what was found
pub reads_ok : {X E : Type 0} (P Q : X → Type 0) (old new : State) → IsUnchanged old new → ((x : X) → P x → Q x) → (r : Result X E) → IfOk r P → MatchResult r (λ x. Q x × IsUnchanged old new) (λ _. Stays old new)
reads_ok P Q old new same so (Ok x) h = (so x h, same)
reads_ok P Q old new same so (Err e) h = inl same

pub both_if : {X : Type 0} (P Q : X → Type 0) (r : Option X) → IfSome r P → IfSome r Q → IfSome r (λ x. P x × Q x)
both_if P Q None p q = tt
both_if P Q (Some x) p q = (p, q)

module _ (t : Tables) (count : ℕ) (b : Book) (stands : HoldsRows t count b) where
  -- ---- nodes

  module _ (s : Name) where
    abbrev Entry : Type 0
    Entry = (Name × Name) × ⊤

    abbrev is_own : Entry → Bool
    is_own e = is_of s e.0

    -- a supplier's own keys rise by their names
    by_name : (e f : Entry) → is_own e ≡ true → is_own f ≡ true → IsBefore owned e f → nodes_cmp (node_row e) (node_row f) ≡ Less
    unfolding owned names
    by_name e f mine yours before =
        let same : e.0.0 ≡ f.0.0 = same_text-is e.0.0 s mine ∙ sym (same_text-is f.0.0 s yours) in
        sym (ap (λ r. ordering_then r (names.compare e.0.1 f.0.1)) (ap (names.compare e.0.0) (sym same) ∙ tied_itself names.total e.0.0)) ∙ before

    own_rows : filter (is_node_of s) (map node_row b.nodes.rows) ≡ map node_row (filter is_own b.nodes.rows)
    own_rows = filter-map (is_node_of s) node_row b.nodes.rows

    nodes_rise : IsAscending (λ x y. nodes_cmp x y ≡ Less) (filter (is_node_of s) (map node_row b.nodes.rows))
    nodes_rise =
        subst (IsAscending (λ x y. nodes_cmp x y ≡ Less)) (sym own_rows)
        (ascending-map (λ x y. nodes_cmp x y ≡ Less) node_row _ (rises_among is_own (IsBefore owned) (λ e f. nodes_cmp (node_row e) (node_row f) ≡ Less) by_name b.nodes.rows (rises owned b.nodes)))

    pub nodes_told : (rows : List Row) (found : List Name) → AreListed shows_node (is_node_of s) nodes_cmp t.nodes rows → found ≡ map name_shown rows → found ≡ nodes_in b s
    unfolding nodes_in only names
    nodes_told rows found listed read =
        let is = are_listed shows_node (is_node_of s) nodes_cmp (on_total (λ n. n.name) names.total) (map node_row b.nodes.rows) t.nodes rows stands.nodes nodes_rise listed in
        read ∙ ap (map name_shown) (is ∙ ap (map shows_node) own_rows) ∙ map-map name_shown shows_node _ ∙ map-map (λ n. n.name) node_row (filter is_own b.nodes.rows)

  -- ---- variants

  abbrev row_of : Name × Variant → VariantRow
  row_of = variant_row stands.stored

  all_rows : filter every (map row_of b.variants.rows) ≡ map row_of b.variants.rows
  all_rows = filter_all every _ (all_of (λ x. every x ≡ true) (λ x. refl) _)

  variants_rise : IsAscending (λ x y. variants_cmp x y ≡ Less) (filter every (map row_of b.variants.rows))
  unfolding names
  variants_rise =
      subst (IsAscending (λ x y. variants_cmp x y ≡ Less)) (sym all_rows) (ascending-map (λ x y. variants_cmp x y ≡ Less) row_of b.variants.rows (rises names b.variants))

  abbrev entry_of : Name × Variant → world.VariantRow
  entry_of e = record { variant = e.0; parent = e.1.parent; depth = e.1.depth; released = e.1.released }

  shown_back : (e : Name × Variant) → variant_shown (shows_variant (row_of e)) ≡ entry_of e
  shown_back e i = record { variant = e.0; parent = maybe_back e.1.parent i; depth = e.1.depth; released = flag_back e.1.released i }

  pub variants_told : (rows : List Row) (found : List world.VariantRow) → AreListed shows_variant every variants_cmp t.variants rows → found ≡ map variant_shown rows → found ≡ variants_in b
  unfolding variants_in names
  variants_told rows found listed read =
      let is = are_listed shows_variant every variants_cmp (on_total (λ v. v.name) names.total) (map row_of b.variants.rows) t.variants rows stands.variants variants_rise listed in
      read ∙ ap (map variant_shown) (is ∙ ap (map shows_variant) all_rows ∙ map-map shows_variant row_of _) ∙ map-map variant_shown (λ e. shows_variant (row_of e)) b.variants.rows
      ∙ (λ i. map (λ e. shown_back e i) b.variants.rows)
