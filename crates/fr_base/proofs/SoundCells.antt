-- The cells of a placement, what it means that none of them is filled, and that a test finds each placement.
use Rattle.std.proofs.Common.{◌≡◌, ℕ, Bool, false, List, [], ◌∷◌, ◌++◌, map, flat_map, Option, Some, None, is_some, IsTrue, ◌||◌, true, refl, sym, ap, ◌∙◌, ◌⊎◌, inl, inr, true≢false}
use Rattle.std.specs.Prelude.{⊤}
use Rattle.std.specs.Ordering.{eq_by_cmp}
use Rattle.std.specs.FinMap.{nat_cmp-IsAntisymmetric}
use Rattle.std.specs.FinMap.Entries.{find}
use Rattle.std.specs.List.{list_all, list_any}
use Rattle.std.proofs.lemmas.Bool.{cases_Bool, or_cases, and_parts}
use Rattle.std.proofs.lemmas.List.Folds.{list_any-append}
use Rattle.fr_base.specs.Tables.{Table, get, contains}
use Rattle.fr_base.specs.Keys.{owned, placement_order}
use Rattle.fr_base.specs.Orders.{both_tie, same_channel}
use Rattle.fr_base.specs.Channels.{channels_in}
use Rattle.fr_base.specs.Cells.{Cell, cells_in, cells_of, has_cell, same_cell}
use Rattle.fr_base.specs.Cycles.{cycles_of}
use Rattle.fr_base.specs.Schedule.{fill, first_taken}
use Rattle.fr_base.specs.Book.{Frame, Sender, placements_of, schedule_of}
use Rattle.fr_base.specs.declared.channel.Channel.{Channel}
use Rattle.fr_base.specs.declared.channel.Channel.TheVariants as channel
use Rattle.fr_base.specs.declared.channel.Channels.{Channels}
use Rattle.fr_base.specs.declared.channel.Channels.TheVariants as channels
use Rattle.fr_base.specs.declared.name.Name.{Name}
use Rattle.fr_base.specs.declared.placement.Placement.{Placement}
use Rattle.fr_base.proofs.TableLaws.{equal}
use Rattle.fr_base.proofs.SoundTables.{same_some}

-- cells that compare as equal are the same
pub same_cell-is : (c d : Cell) → IsTrue (same_cell c d) → c ≡ d
same_cell-is c d h =
    let cycle = both_tie _ _ (equal _ h) in
    let rest = both_tie _ _ cycle.1 in
    λ i. record { cycle = nat_cmp-IsAntisymmetric c.cycle d.cycle cycle.0 i; slot = nat_cmp-IsAntisymmetric c.slot d.slot rest.0 i; channel = same_channel c.channel d.channel (nat_cmp-IsAntisymmetric _ _ rest.1) i }

-- ---- a cell of a placement has its slot and one of its channels

-- the cell's slot is this one, and its channel passes the test
abbrev In : (Channel → Bool) → ℕ → Cell → Type 0
In p slot c = (c.slot ≡ slot) × IsTrue (p c.channel)

in_same : (p : Channel → Bool) (slot k : ℕ) (x : Channel) (c : Cell) → IsTrue (p x) → IsTrue (same_cell c (record { cycle = k; slot = slot; channel = x })) → In p slot c
in_same p slot k x c h same =
    let e = same_cell-is c (record { cycle = k; slot = slot; channel = x }) same in
    (ap (λ (d : Cell). d.slot) e, ap (λ (d : Cell). p d.channel) e ∙ h)

in_cells : (p : Channel → Bool) (slot : ℕ) (chs : Channels) (ks : List ℕ) (c : Cell) → IsTrue (list_all p (channels_in chs)) → IsTrue (list_any (same_cell c) (cells_in ks (slot ∷ []) (channels_in chs))) → In p slot c
in_cells p slot chs [] c h e = absurd (true≢false (sym e))
in_cells p slot channels.A (k ∷ ks) c h e = elim (or_cases _ _ e) [
  | inl here ↦ in_same p slot k channel.A c (and_parts _ _ h).0 here
  | inr later ↦ in_cells p slot channels.A ks c h later
]
in_cells p slot channels.B (k ∷ ks) c h e = elim (or_cases _ _ e) [
  | inl here ↦ in_same p slot k channel.B c (and_parts _ _ h).0 here
  | inr later ↦ in_cells p slot channels.B ks c h later
]
in_cells p slot channels.AB (k ∷ ks) c h e =
    let on_b : IsTrue (list_all p (channel.B ∷ [])) = (and_parts _ _ h).1 in
    elim (or_cases _ _ e) [
      | inl here ↦ in_same p slot k channel.A c (and_parts _ _ h).0 here
      | inr later ↦ elim (or_cases _ _ later) [
        | inl here ↦ in_same p slot k channel.B c (and_parts _ _ on_b).0 here
        | inr last ↦ in_cells p slot channels.AB ks c h last
      ]
    ]

pub has_cell-in : (p : Channel → Bool) (q : Placement) (c : Cell) → IsTrue (list_all p (channels_in q.channels)) → IsTrue (has_cell q c) → (c.slot ≡ q.slot) × IsTrue (p c.channel)
unfolding has_cell cells_of
has_cell-in p q c h e = in_cells p q.slot q.channels (cycles_of q.cycles) c h e

-- ---- where no cell of a placement is filled, no placement of a frame has one

option_is : {A : Type 0} (r : Option A) → ((x : A) × (r ≡ Some x)) ⊎ (r ≡ None)
option_is None = inr refl
option_is (Some x) = inl (x, refl)

none_first : {O : Type 0} (filled : Cell → Option O) (d : Cell) (ds : List Cell) → first_taken filled (d ∷ ds) ≡ None → (filled d ≡ None) × (first_taken filled ds ≡ None)
unfolding first_taken
none_first filled d ds e = elim (option_is (filled d)) [
  | inl x ↦ let h = rw x.1 at e in cc
  | inr none ↦ (none, rw none at e)
]

-- none of some cells is filled
none_filled : {O : Type 0} (filled : Cell → Option O) (ds : List Cell) (c : Cell) → first_taken filled ds ≡ None → IsTrue (list_any (same_cell c) ds) → filled c ≡ None
none_filled filled [] c e h = absurd (true≢false (sym h))
none_filled filled (d ∷ ds) c e h =
    let free = none_first filled d ds e in
    elim (or_cases _ _ h) [
      | inl here ↦ ap filled (same_cell-is c d here) ∙ free.0
      | inr later ↦ none_filled filled ds c free.1 later
    ]

-- where nothing fills a cell, no one of those placements has it
fill-append_none : {O : Type 0} (xs ys : List (O × Placement)) (c : Cell) → fill (xs ++ ys) c ≡ None → (fill xs c ≡ None) × (fill ys c ≡ None)
unfolding fill
fill-append_none [] ys c e = (refl, e)
fill-append_none (x ∷ xs) ys c e = elim (cases_Bool (has_cell x.1 c)) [
  | inl h ↦ let taken = rw h at e in cc
  | inr h ↦ let rest = fill-append_none xs ys c (rw h at e) in (rw h (rest.0), rest.1)
]

none_of_one : {O : Type 0} (o : O) (rows : List (Placement × ⊤)) (q : Placement) (c : Cell) → fill (map (λ r. (o, r.0)) rows) c ≡ None → IsTrue (is_some (find placement_order.compare q rows)) → has_cell q c ≡ false
unfolding fill
none_of_one o [] q c e h = absurd (true≢false (sym h))
none_of_one o (r ∷ rs) q c e h = elim (cases_Bool (has_cell r.0 c)) [
  | inl has ↦ let taken = rw has at e in cc
  | inr has ↦ elim (cases_Bool (eq_by_cmp placement_order.compare q r.0)) [
    | inl here ↦ ap (λ x. has_cell x c) (placement_order.exact q r.0 (equal _ here)) ∙ has
    | inr other ↦ none_of_one o rs q c (rw has at e) (rw other at h)
  ]
]

abbrev entries_of : (Name × Name) × Frame → List (Sender × Placement)
entries_of row = map (λ q. (record { supplier = row.0.0; frame = row.0.1; node = row.1.node }, q.0)) row.1.placements.rows

none_of_rows : (rows : List ((Name × Name) × Frame)) (k : Name × Name) (f : Frame) (q : Placement) (c : Cell) → fill (flat_map entries_of rows) c ≡ None → find owned.compare k rows ≡ Some f → IsTrue (contains f.placements q) → has_cell q c ≡ false
unfolding get
none_of_rows [] k f q c e there h = cc
none_of_rows (row ∷ rows) k f q c e there h =
    let free = fill-append_none (entries_of row) (flat_map entries_of rows) c e in
    elim (cases_Bool (eq_by_cmp owned.compare k row.0)) [
      | inl here ↦ let same : row.1 ≡ f = same_some row.1 f (rw here at there) in
          none_of_one _ row.1.placements.rows q c free.0 (ap (λ (g : Frame). contains g.placements q) same ∙ h)
      | inr other ↦ none_of_rows rows k f q c free.1 (rw other at there) h
    ]

-- where none of a placement's cells is filled, no placement of any frame has one of them
pub free_cells : (frames : Table owned Frame) (q : Placement) → first_taken (schedule_of frames) (cells_of q) ≡ None → (k : Name × Name) (f : Frame) (r : Placement) (c : Cell) → get frames k ≡ Some f → IsTrue (contains f.placements r) → IsTrue (has_cell q c) → IsTrue (has_cell r c) → ⊥
unfolding has_cell schedule_of placements_of get
free_cells frames q e k f r c there h has_q has_r =
    true≢false (sym has_r ∙ none_of_rows frames.rows k f r c (none_filled (schedule_of frames) (cells_of q) c e has_q) there h)

-- ---- a test that a placement of a frame passes finds one

or_left : (a b : Bool) → IsTrue a → IsTrue (a || b)
or_left a b h = ap (λ t. t || b) h

or_right : (a b : Bool) → IsTrue b → IsTrue (a || b)
or_right true b h = refl
or_right false b h = h

any_of_one : {O : Type 0} (test : O × Placement → Bool) (o : O) (rows : List (Placement × ⊤)) (q : Placement) → IsTrue (is_some (find placement_order.compare q rows)) → IsTrue (test (o, q)) → IsTrue (list_any test (map (λ r. (o, r.0)) rows))
any_of_one test o [] q there h = absurd (true≢false (sym there))
any_of_one test o (r ∷ rs) q there h = elim (cases_Bool (eq_by_cmp placement_order.compare q r.0)) [
  | inl here ↦ or_left _ _ (ap (λ x. test (o, x)) (sym (placement_order.exact q r.0 (equal _ here))) ∙ h)
  | inr other ↦ or_right _ _ (any_of_one test o rs q (rw other at there) h)
]

any_of_rows : (test : Sender × Placement → Bool) (rows : List ((Name × Name) × Frame)) (k : Name × Name) (f : Frame) (q : Placement) → find owned.compare k rows ≡ Some f → IsTrue (contains f.placements q) → IsTrue (test (record { supplier = k.0; frame = k.1; node = f.node }, q)) → IsTrue (list_any test (flat_map entries_of rows))
unfolding get
any_of_rows test [] k f q there within h = cc
any_of_rows test (row ∷ rows) k f q there within h =
    list_any-append test (entries_of row) (flat_map entries_of rows)
    ∙ elim (cases_Bool (eq_by_cmp owned.compare k row.0)) [
      | inl here ↦
          let same : row.1 ≡ f = same_some row.1 f (rw here at there) in
          let key : k ≡ row.0 = owned.exact k row.0 (equal _ here) in
          or_left _ _ (any_of_one test (record { supplier = row.0.0; frame = row.0.1; node = row.1.node }) row.1.placements.rows q
          (ap (λ (g : Frame). contains g.placements q) same ∙ within)
          (ap (λ (x : (Name × Name) × Name). test (record { supplier = x.0.0; frame = x.0.1; node = x.1 }, q)) (λ i. (sym key i, (same i).node)) ∙ h))
      | inr other ↦ or_right _ _ (any_of_rows test rows k f q (rw other at there) within h)
    ]

pub any_placement : (test : Sender × Placement → Bool) (frames : Table owned Frame) (k : Name × Name) (f : Frame) (q : Placement) → get frames k ≡ Some f → IsTrue (contains f.placements q) → IsTrue (test (record { supplier = k.0; frame = k.1; node = f.node }, q)) → IsTrue (list_any test (placements_of frames))
unfolding placements_of get
any_placement test frames k f q there within h = any_of_rows test frames.rows k f q there within h
