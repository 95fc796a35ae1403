-- The rows of a frame's placements, after one is added or ended.
use Rattle.std.proofs.Common.{◌≡◌, ℕ, pos, Bool, true, false, not, None, Some, Option, List, ◌∷◌, map, filter, refl, sym, ap, ◌∙◌, bytes_eq, unwrap_or, nat_abs, is_some, IsPermutation, true≢false}
use Rattle.std.specs.List.{AllByRecursion}
use Rattle.std.specs.Ordering.{is_eq, eq_by_cmp, int_eq}
use Rattle.std.specs.Cmp.{tied_itself, int_cmp_total}
use Rattle.std.specs.FinMap.{int_cmp-IsAntisymmetric}
use Rattle.std.proofs.lemmas.Bool.{and_parts, and_from}
use Rattle.std.proofs.lemmas.List.Sorted.{IsPermutation-map}
use Rattle.std.proofs.lemmas.Slice.Eq.{bytes_eq-Decides}
use Rattle.sqlite_keyed.proofs.ListLemmas.{filter-map}
use Rattle.sqlite_trees.proofs.ListLemmas.{filter_same, all_weaker}
use Rattle.fr_base.specs.Tables.{contains, insert, only, remove}
use Rattle.fr_base.specs.Keys.{placement_order}
use Rattle.fr_base.specs.Channels.{channels_of_text, text_of_channels}
use Rattle.fr_base.specs.Book.{Frame}
use Rattle.fr_base.specs.Queries.{placements_in}
use Rattle.fr_base.specs.declared.channel.Channels.{Channels}
use Rattle.fr_base.specs.declared.channel.Channels.TheVariants.{A, AB, B}
use Rattle.fr_base.specs.declared.name.Name.{Name}
use Rattle.fr_base.specs.declared.placement.Placement.{Placement}
use Rattle.fr_base.proofs.TableLaws.{equal}
use Rattle.fr_tables.specs.Rows.{PlacementRow, key_of}
use Rattle.fr_tables.specs.Statements.{is_placement, is_placement_of, placement_row}
use Rattle.fr_store.specs.StandsFor.{placement_rows}
use Rattle.fr_store.proofs.ApartLemmas.{insert_new}
use Rattle.fr_store.proofs.FrameSections.{section}

pub own_text : (a : List ℕ) → bytes_eq a a ≡ true
own_text a = (bytes_eq-Decides a a).1 refl

-- where nothing is, there is none
pub none_there : {V : Type 0} (o : Option V) → is_some o ≡ false → o ≡ None
none_there None h = refl
none_there (Some x) h = absurd (true≢false h)

channels_again : (chs : Channels) → unwrap_or (channels_of_text (text_of_channels chs)) AB ≡ chs
channels_again A = refl
channels_again AB = refl
channels_again B = refl

same_channels : (a b : Channels) → bytes_eq (text_of_channels a) (text_of_channels b) ≡ true → a ≡ b
same_channels a b h = sym (channels_again a) ∙ ap (λ t. unwrap_or (channels_of_text t) AB) ((bytes_eq-Decides (text_of_channels a) (text_of_channels b)).0 h) ∙ channels_again b

same_number : (a b : ℕ) → int_eq (pos a) (pos b) ≡ true → a ≡ b
same_number a b h = ap nat_abs (int_cmp-IsAntisymmetric (pos a) (pos b) (equal _ h))

own_number : (a : ℕ) → int_eq (pos a) (pos a) ≡ true
own_number a = ap is_eq (tied_itself int_cmp_total (pos a))

-- two tests that follow from one another
same_tests : (a b : Bool) → (a ≡ true → b ≡ true) → (b ≡ true → a ≡ true) → a ≡ b
same_tests true b to from = sym (to refl)
same_tests false true to from = from refl
same_tests false false to from = refl

module _ (v s f : Name) where
  abbrev row_of : Placement → PlacementRow
  row_of = placement_row (key_of v s f)

  row_to : (q r : Placement) → r.cycles.count ≡ q.cycles.count → is_placement (row_of q) (row_of r) ≡ true → eq_by_cmp placement_order.compare q r ≡ true
  row_to q r count h =
      let one = and_parts (bytes_eq v v) _ h in
      let two = and_parts (bytes_eq s s) _ one.1 in
      let three = and_parts (bytes_eq f f) _ two.1 in
      let four = and_parts _ _ three.1 in
      let five = and_parts _ _ four.1 in
      let six = and_parts _ _ five.1 in
      let slot = same_number r.slot q.slot four.0 in
      let channels = same_channels r.channels q.channels five.0 in
      let base = same_number r.cycles.base q.cycles.base six.0 in
      let repetition = same_number r.cycles.repetition q.cycles.repetition six.1 in
      let same : r ≡ q = λ i. record { slot = slot i; channels = channels i; cycles = record { count = count i; base = base i; repetition = repetition i } } in
      ap (λ p. is_eq (placement_order.compare q p)) same ∙ ap is_eq (tied_itself placement_order.total q)

  row_from : (q r : Placement) → eq_by_cmp placement_order.compare q r ≡ true → is_placement (row_of q) (row_of r) ≡ true
  row_from q r h =
      let same : q ≡ r = placement_order.exact q r (equal _ h) in
      ap (λ p. is_placement (row_of q) (row_of p)) (sym same)
      ∙ and_from _ _ (own_text v) (and_from _ _ (own_text s) (and_from _ _ (own_text f) (and_from _ _ (own_number q.slot) (and_from _ _ (own_text (text_of_channels q.channels))
      (and_from _ _ (own_number q.cycles.base) (own_number q.cycles.repetition))))))

  -- among placements of as many cycles a row is another's where the placement is
  row_is : (q r : Placement) → r.cycles.count ≡ q.cycles.count → is_placement (row_of q) (row_of r) ≡ eq_by_cmp placement_order.compare q r
  row_is q r count = same_tests _ _ (row_to q r count) (row_from q r)

  pub of_frame : (q r : PlacementRow) → q.variant ≡ v → q.supplier ≡ s → q.frame ≡ f → is_placement q r ≡ true → is_placement_of (key_of v s f) r ≡ true
  of_frame q r variant supplier frame h =
      let one = and_parts _ _ h in
      let two = and_parts _ _ one.1 in
      let three = and_parts _ _ two.1 in
      and_from _ _ (sym (ap (bytes_eq r.variant) variant) ∙ one.0) (and_from _ _ (sym (ap (bytes_eq r.supplier) supplier) ∙ two.0) (sym (ap (bytes_eq r.frame) frame) ∙ three.0))

  module _ (frame : Frame) (q : Placement) where
    pub place_section : contains frame.placements q ≡ false
        → IsPermutation (row_of q ∷ section placement_rows v s f (Some frame)) (section placement_rows v s f (Some (record frame { placements = insert frame.placements q tt })))
    place_section new = IsPermutation-map row_of _ _ (IsPermutation-map (λ e. e.0) _ _ (insert_new placement_order frame.placements q tt (none_there _ new)))

    pub unplace_section : (count : ℕ) → q.cycles.count ≡ count → AllByRecursion (λ r. r.cycles.count ≡ count) (placements_in frame)
        → filter (λ r. not (is_placement (row_of q) r)) (section placement_rows v s f (Some frame))
        ≡ section placement_rows v s f (Some (record frame { placements = remove frame.placements q }))
    unfolding remove only
    unplace_section count same all =
        filter-map (λ r. not (is_placement (row_of q) r)) row_of (placements_in frame)
        ∙ ap (map row_of) (filter_same (λ r. not (is_placement (row_of q) (row_of r))) (λ r. not (eq_by_cmp placement_order.compare q r)) (placements_in frame)
        (all_weaker (λ r. r.cycles.count ≡ count) (λ r. not (is_placement (row_of q) (row_of r)) ≡ not (eq_by_cmp placement_order.compare q r)) (λ r of. ap not (row_is q r (of ∙ sym same))) (placements_in frame) all)
        ∙ filter-map (λ r. not (eq_by_cmp placement_order.compare q r)) (λ e. e.0) frame.placements.rows)
