-- A supplier's nodes and grants, as the queries show them.
use Rattle.std.proofs.Common.{◌≡◌, ℕ, pos, Bool, true, false, ◌&&◌, Some, List, [], map, filter, flat_map, reverse, refl, sym, ap, ◌∙◌, subst, IsPermutation, bytes_eq, unwrap_or, nat_abs}
use Rattle.std.specs.Prelude.{⊤}
use Rattle.std.specs.Ordering.{is_eq}
use Rattle.std.proofs.lemmas.Slice.Eq.{bytes_eq-Decides}
use Rattle.sqlite.specs.Order.{Row, column}
use Rattle.sqlite_keyed.proofs.ListLemmas.{map-map, filter-map, filter_none, filter_same, all_of, IsPermutation-filter}
use Rattle.fr_base.specs.Tables.{get, from_rows}
use Rattle.fr_base.specs.Keys.{names, owned, channel_slots}
use Rattle.fr_base.specs.Channels.{channel_of_text, text_of_channel}
use Rattle.fr_base.specs.Book as book
use Rattle.fr_base.specs.Book.{Book, Variant, is_of, held_by, own}
use Rattle.fr_base.specs.declared.channel.Channel.{Channel}
use Rattle.fr_base.specs.declared.channel.Channel.TheVariants.{A, B}
use Rattle.fr_base.specs.declared.name.Name.{Name}
use Rattle.fr_base.proofs.SoundRows.{same_text-is}
use Rattle.fr_world.specs.Maps.{table_of, set_of}
use Rattle.fr_world.specs.Pages.{holder_of}
use Rattle.fr_world.specs.declared.page.ChannelSlot.{ChannelSlot}
use Rattle.fr_tables.specs.Rows.{GrantRow, words, number}
use Rattle.fr_tables.specs.Tables.{Tables}
use Rattle.fr_tables.specs.Changes.{AreListed}
use Rattle.fr_tables.specs.Statements.{is_node_of, shows_node, nodes_cmp, is_grant_of, shows_grant, any_order}
use Rattle.fr_store.specs.StandsFor.{HoldsRows, node_row, grant_rows}
use Rattle.fr_store.specs.Reading.{name_shown}
use Rattle.fr_store.specs.Paging.{grant_shown}
use Rattle.fr_store.proofs.HolderLemmas.{other_name}
use Rattle.fr_store.proofs.SectionLemmas.{at, only_at}
use Rattle.fr_store.proofs.TurnLemmas.{from_listed}

module _ (t : Tables) (count : ℕ) (b : Book) (stands : HoldsRows t count b) (s : Name) where
  -- ---- nodes

  abbrev node_back : Row → (Name × Name) × ⊤
  node_back r = ((s, name_shown r), tt)

  same_nodes : IsPermutation (map node_row (filter (λ e. is_of s e.0) b.nodes.rows)) (filter (is_node_of s) t.nodes)
  same_nodes = subst (λ xs. IsPermutation xs (filter (is_node_of s) t.nodes)) (filter-map (is_node_of s) node_row b.nodes.rows) (IsPermutation-filter (is_node_of s) _ _ stands.nodes)

  node_again : (e : (Name × Name) × ⊤) → is_of s e.0 ≡ true → node_back (shows_node (node_row e)) ≡ e
  node_again e mine i = ((sym (same_text-is e.0.0 s mine) i, e.0.1), tt)

  pub own_nodes_told : (rows : List Row) (found : List Name) → AreListed shows_node (is_node_of s) nodes_cmp t.nodes rows
      → ((w : Name) → set_of owned (λ n. (w, n)) found ≡ set_of owned (λ n. (w, n)) (map name_shown (reverse rows))) → set_of owned (λ n. (s, n)) found ≡ own s b.nodes
  unfolding set_of
  own_nodes_told rows found listed read =
      read s ∙ ap from_rows (map-map (λ n. ((s, n), tt)) name_shown (reverse rows))
      ∙ from_listed owned b.nodes (λ k _. is_of s k) node_row shows_node (is_node_of s) nodes_cmp t.nodes node_back same_nodes node_again rows listed

  -- ---- grants

  module _ (v : Name) (x : Variant) (there : get b.variants v ≡ Some x) where
    abbrev Held : Type 0
    Held = (ℕ × Channel) × book.Holder

    abbrev row_of : Name → Held → GrantRow
    row_of w g = record { variant = w; slot = pos g.0.0; channel = text_of_channel g.0.1; supplier = g.1.supplier; node = g.1.node }

    abbrev passes : GrantRow → Bool
    passes = is_grant_of v s

    abbrev is_held : Held → Bool
    is_held g = held_by s (Some g.1)

    other_variants : (e : Name × Variant) → is_eq (names.compare v e.0) ≡ false → filter passes (grant_rows e) ≡ []
    other_variants e apart =
        filter-map passes (row_of e.0) e.1.grants.rows
        ∙ ap (map (row_of e.0)) (filter_none (λ g. passes (row_of e.0 g)) e.1.grants.rows
        (all_of (λ g. passes (row_of e.0 g) ≡ false) (λ g. ap (λ b. b && bytes_eq g.1.supplier s) (other_name v e.0 apart)) e.1.grants.rows))

    this_variant : filter passes (grant_rows (v, x)) ≡ map (row_of v) (filter is_held x.grants.rows)
    this_variant =
        filter-map passes (row_of v) x.grants.rows
        ∙ ap (map (row_of v)) (filter_same (λ g. passes (row_of v g)) is_held (λ g. ap (λ b. b && bytes_eq g.1.supplier s) ((bytes_eq-Decides v v).1 refl)) x.grants.rows)

    section : filter passes (flat_map grant_rows b.variants.rows) ≡ map (row_of v) (filter is_held x.grants.rows)
    section = only_at names grant_rows passes v other_variants b.variants ∙ ap (at grant_rows passes v) there ∙ this_variant

    same_grants : IsPermutation (map (row_of v) (filter is_held x.grants.rows)) (filter passes t.grants)
    same_grants = subst (λ xs. IsPermutation xs (filter passes t.grants)) section (IsPermutation-filter passes _ _ stands.grants)

    abbrev grant_back : Row → Held
    grant_back r = ((nat_abs (number (column r 0)), unwrap_or (channel_of_text (words (column r 1))) A), holder_of s (words (column r 2)))

    channel_again : (d : Channel) → unwrap_or (channel_of_text (text_of_channel d)) A ≡ d
    channel_again A = refl
    channel_again B = refl

    grant_again : (e : Held) → is_held e ≡ true → grant_back (shows_grant (row_of v e)) ≡ e
    grant_again e mine i = ((e.0.0, channel_again e.0.1 i), record { supplier = sym (same_text-is e.1.supplier s mine) i; node = e.1.node })

    pub own_grants_told : (rows : List Row) (found : List (ChannelSlot × Name)) → AreListed shows_grant passes any_order t.grants rows
        → ((w : Name) → table_of channel_slots (λ k. (k.slot, k.channel)) (holder_of w) found ≡ table_of channel_slots (λ k. (k.slot, k.channel)) (holder_of w) (map grant_shown (reverse rows)))
        → table_of channel_slots (λ k. (k.slot, k.channel)) (holder_of s) found ≡ book.own_grants s x.grants
    unfolding table_of
    own_grants_told rows found listed read =
        read s ∙ ap from_rows (map-map (λ e. ((e.0.slot, e.0.channel), holder_of s e.1)) grant_shown (reverse rows))
        ∙ from_listed channel_slots x.grants (λ _ h. held_by s (Some h)) (row_of v) shows_grant passes any_order t.grants grant_back same_grants grant_again rows listed
