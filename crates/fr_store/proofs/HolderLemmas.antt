-- Who holds a slot, as the query shows it.
use Rattle.std.proofs.Common.{◌≡◌, ℕ, pos, Bool, true, false, ◌&&◌, None, Some, Option, List, [], ◌∷◌, map, filter, flat_map, Less, refl, sym, ap, ap₂, ◌∙◌, subst, slice_get, option_map, true≢false, bytes_eq, nat_abs}
use Rattle.std.specs.Ordering.{is_eq, int_eq}
use Rattle.std.specs.Cmp.{IsTotalOrder, tied_itself}
use Rattle.sqlite.specs.Order.{Row}
use Rattle.sqlite_trees.specs.Tree.{IsAscending}
use Rattle.sqlite_keyed.proofs.ListLemmas.{filter-map, filter_none, all_of}
use Rattle.fr_base.specs.Tables.{get}
use Rattle.fr_base.specs.Keys.{names, channel_slots}
use Rattle.fr_base.specs.Channels.{text_of_channel}
use Rattle.fr_base.specs.Book as book
use Rattle.fr_base.specs.Book.{Book, Variant}
use Rattle.fr_base.specs.declared.channel.Channel.{Channel}
use Rattle.fr_base.specs.declared.name.Name.{Name}
use Rattle.fr_base.specs.declared.channel.Channel.TheVariants.{A, B}
use Rattle.fr_base.proofs.SoundRows.{same_text-is}
use Rattle.fr_base.proofs.TableLaws.{equal}
use Rattle.std.specs.FinMap.{int_cmp-IsAntisymmetric}
use Rattle.std.specs.Cmp.{int_cmp_total}
use Rattle.std.proofs.lemmas.Bool.{and_parts}
use Rattle.std.proofs.lemmas.Slice.Eq.{bytes_eq-Decides}
use Rattle.fr_tables.specs.Rows.{GrantRow}
use Rattle.fr_tables.specs.Tables.{Tables}
use Rattle.fr_tables.specs.Changes.{AreListed}
use Rattle.fr_tables.specs.Statements.{is_grant_at, shows_holder, any_order}
use Rattle.fr_store.specs.StandsFor.{HoldsRows, grant_rows}
use Rattle.fr_store.specs.Reading.{holder_shown, as_holder, held_in, holder_in}
use Rattle.fr_store.specs.declared.slot_holder.Holder.{Holder}
use Rattle.fr_store.proofs.OrderLemmas.{are_listed}
use Rattle.fr_store.proofs.SectionLemmas.{at, only_at, only_row, row_at}

pub any_order_total : {X : Type 0} → IsTotalOrder {K = X} any_order
any_order_total = record { antisymm = λ x y. refl; trans = λ x y z h k. h; congr = λ x y z h. refl }

-- another name is another text
pub other_name : (v w : Name) → is_eq (names.compare v w) ≡ false → bytes_eq w v ≡ false
other_name v w apart = by_test (bytes_eq w v) refl
  where
    by_test : (b : Bool) → bytes_eq w v ≡ b → b ≡ false
    by_test false e = refl
    by_test true e = absurd (true≢false (sym (ap is_eq (ap (names.compare v) (same_text-is w v e) ∙ tied_itself names.total v)) ∙ apart))

same_slot : (a b : ℕ) → int_eq (pos a) (pos b) ≡ true → a ≡ b
same_slot a b h = ap nat_abs (int_cmp-IsAntisymmetric (pos a) (pos b) (equal _ h))

same_channel : (c d : Channel) → bytes_eq (text_of_channel c) (text_of_channel d) ≡ true → c ≡ d
same_channel A A h = refl
same_channel A B h = cc
same_channel B A h = cc
same_channel B B h = refl

channel_itself : (c : Channel) → bytes_eq (text_of_channel c) (text_of_channel c) ≡ true
channel_itself A = refl
channel_itself B = refl

module _ (v : Name) (slot : ℕ) (channel : Channel) where
  abbrev passes : GrantRow → Bool
  passes = is_grant_at v (pos slot) (text_of_channel channel)

  abbrev Held : Type 0
  Held = (ℕ × Channel) × book.Holder

  abbrev row_of : Name → Held → GrantRow
  row_of w g = record { variant = w; slot = pos g.0.0; channel = text_of_channel g.0.1; supplier = g.1.supplier; node = g.1.node }

  pub other_variants : (e : Name × Variant) → is_eq (names.compare v e.0) ≡ false → filter passes (grant_rows e) ≡ []
  other_variants e apart =
      filter-map passes (row_of e.0) e.1.grants.rows
      ∙ ap (map (row_of e.0)) (filter_none (λ g. passes (row_of e.0 g)) e.1.grants.rows
      (all_of (λ g. passes (row_of e.0 g) ≡ false) (λ g. ap (λ b. b && (int_eq (pos g.0.0) (pos slot) && bytes_eq (text_of_channel g.0.1) (text_of_channel channel))) (other_name v e.0 apart)) e.1.grants.rows))

  pub other_slots : (g : Held) → is_eq (channel_slots.compare (slot, channel) g.0) ≡ false → passes (row_of v g) ≡ false
  other_slots g apart = by_test (passes (row_of v g)) refl
    where
      by_test : (b : Bool) → passes (row_of v g) ≡ b → b ≡ false
      by_test false e = refl
      by_test true e =
          let here = (and_parts _ _ (and_parts _ _ e).1) in
          let same : (slot, channel) ≡ g.0 = λ i. (sym (same_slot g.0.0 slot here.0) i, sym (same_channel g.0.1 channel here.1) i) in
          absurd (true≢false (sym (ap is_eq (ap (channel_slots.compare (slot, channel)) (sym same) ∙ tied_itself channel_slots.total (slot, channel))) ∙ apart))

  pub this_slot : (h : book.Holder) → passes (row_of v ((slot, channel), h)) ≡ true
  this_slot h =
      ap₂ ◌&&◌ ((bytes_eq-Decides v v).1 refl) (ap₂ ◌&&◌ (ap is_eq (tied_itself int_cmp_total (pos slot))) (channel_itself channel))

  -- the row that shows a holder, if there is one
  abbrev shown_row : Option book.Holder → List GrantRow
  shown_row None = []
  shown_row (Some h) = row_of v ((slot, channel), h) ∷ []

  in_rows : (o : Option book.Holder) → map (row_of v) (row_at (slot, channel) o) ≡ shown_row o
  in_rows None = refl
  in_rows (Some h) = refl

  in_variant : (x : Option Variant) → at grant_rows passes v x ≡ shown_row (held_in x (slot, channel))
  in_variant None = refl
  in_variant (Some x) =
      filter-map passes (row_of v) x.grants.rows ∙ ap (map (row_of v)) (only_row channel_slots (λ g. passes (row_of v g)) (slot, channel) other_slots this_slot x.grants)
      ∙ in_rows (get x.grants (slot, channel))

  one_rises : (o : Option book.Holder) → IsAscending (λ x y. any_order {X = GrantRow} x y ≡ Less) (shown_row o)
  one_rises None = tt
  one_rises (Some h) = (tt, tt)

  told_by : (o : Option book.Holder) → option_map (λ r. as_holder (holder_shown r)) (slice_get (map shows_holder (shown_row o)) 0) ≡ o
  told_by None = refl
  told_by (Some h) = refl

  map_twice : (r : Option Row) → option_map as_holder (option_map holder_shown r) ≡ option_map (λ r. as_holder (holder_shown r)) r
  map_twice None = refl
  map_twice (Some r) = refl

  pub holder_told : (t : Tables) (count : ℕ) (b : Book) → HoldsRows t count b → (rows : List Row) (found : Option Holder) → AreListed shows_holder passes any_order t.grants rows
      → found ≡ option_map holder_shown (slice_get rows 0) → option_map as_holder found ≡ holder_in b v (slot, channel)
  holder_told t count b stands rows found listed read =
      let section : filter passes (flat_map grant_rows b.variants.rows) ≡ shown_row (holder_in b v (slot, channel)) = only_at names grant_rows passes v other_variants b.variants ∙ in_variant (get b.variants v) in
      let is = are_listed shows_holder passes any_order any_order_total (flat_map grant_rows b.variants.rows) t.grants rows stands.grants
      (subst (IsAscending (λ x y. any_order x y ≡ Less)) (sym section) (one_rises (holder_in b v (slot, channel)))) listed in
      ap (option_map as_holder) read ∙ map_twice (slice_get rows 0) ∙ ap (λ rs. option_map (λ r. as_holder (holder_shown r)) (slice_get rs 0)) (is ∙ ap (map shows_holder) section) ∙ told_by (holder_in b v (slot, channel))
