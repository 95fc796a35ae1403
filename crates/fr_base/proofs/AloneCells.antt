-- In a sound variant the cells that are granted to a supplier hold no frame of another: the first taken cell over all rows
-- is that over the supplier's own.
use Rattle.std.proofs.Common.{◌≡◌, Bool, true, false, cond, List, [], ◌∷◌, ◌++◌, map, filter, flat_map, Option, Some, None, is_some, IsTrue, refl, sym, ap, ◌∙◌, ◌⊎◌, inl, inr, true≢false}
use Rattle.std.specs.Prelude.{⊤, T, ◌||◌}
use Rattle.std.specs.Ordering.{is_eq, eq_by_cmp}
use Rattle.std.specs.Cmp.{tied_itself, on_total, then_total, nat_cmp_total}
use Rattle.std.specs.FinMap.Entries.{find, is_sorted}
use Rattle.std.specs.List.{list_any}
use Rattle.std.proofs.lemmas.Bool.{cases_Bool}
use Rattle.std.proofs.lemmas.Slice.Eq.{bytes_eq-Decides}
use Rattle.fr_base.specs.TableRows.{first, second}
use Rattle.fr_base.specs.Tables.{Table, get, contains, only}
use Rattle.fr_base.specs.Keys.{owned, placement_order}
use Rattle.fr_base.specs.Channels.{channel_number}
use Rattle.fr_base.specs.Cells.{Cell, same_cell, cells_of, has_cell}
use Rattle.fr_base.specs.Schedule.{fill, first_taken}
use Rattle.fr_base.specs.Cluster.{Cluster}
use Rattle.fr_base.specs.Names.{same_text}
use Rattle.fr_base.specs.Book.{Holder, Frame, Variant, Book, Sender, held_by_node, is_of, own, granted, placements_of, schedule_of}
use Rattle.fr_base.specs.Sound.{IsSoundVariant, IsSound}
use Rattle.fr_base.specs.Alone.{own_variant}
use Rattle.fr_base.specs.declared.name.Name.{Name}
use Rattle.fr_base.specs.declared.params.Params.{Params}
use Rattle.fr_base.specs.declared.placement.Placement.{Placement}
use Rattle.fr_base.proofs.TableLaws.{equal, none_above}
use Rattle.fr_base.proofs.SoundTables.{same_some}
use Rattle.fr_base.proofs.SoundRows.{holder-is}
use Rattle.fr_base.proofs.SoundCells.{has_cell-in}

-- a text is itself
pub same_text-itself : (s : Name) → same_text s s ≡ true
same_text-itself s = (bytes_eq-Decides s s).1 refl

same_cell-itself : (c : Cell) → same_cell c c ≡ true
same_cell-itself c = ap is_eq (tied_itself (then_total (on_total (λ (d : Cell). d.cycle) nat_cmp_total) (then_total (on_total (λ (d : Cell). d.slot) nat_cmp_total) (on_total (λ (d : Cell). channel_number d.channel) nat_cmp_total))) c)

-- ---- rows that don't have a cell

-- a frame's placements with their sender
abbrev pub entries_of : (Name × Name) × Frame → List (Sender × Placement)
entries_of row = map (λ q. (record { supplier = row.0.0; frame = row.0.1; node = row.1.node }, q.0)) row.1.placements.rows

-- no placement of the frame has the cell
abbrev pub Lacks : Cell → Frame → Type 0
Lacks c f = (q : Placement) → IsTrue (contains f.placements q) → has_cell q c ≡ false

-- what stands further on in a table stands in it
pub later : {V : Type 0} (es : List ((Name × Name) × V)) (e : (Name × Name) × V) → T (is_sorted owned.compare (e ∷ es)) → (k : Name × Name) (v : V) → find owned.compare k es ≡ Some v → find owned.compare k (e ∷ es) ≡ Some v
later es e sorted k v there = elim (cases_Bool (eq_by_cmp owned.compare k e.0)) [
  | inl tie ↦ let none = none_above owned (λ j w. true) k e.0 es (equal _ tie) (first _ _ sorted) in cc
  | inr other ↦ rw other there
]

pub further : (ps : List (Placement × ⊤)) (p : Placement × ⊤) (q : Placement) → is_some (find placement_order.compare q ps) ≡ true → is_some (find placement_order.compare q (p ∷ ps)) ≡ true
further ps p q h = elim (cases_Bool (eq_by_cmp placement_order.compare q p.0)) [ inl e ↦ rw e refl | inr e ↦ rw e h ]

pub found_first : (row : (Name × Name) × Frame) (rows : List ((Name × Name) × Frame)) → find owned.compare row.0 (row ∷ rows) ≡ Some row.1
found_first row rows = ap (λ r. cond r (Some row.1) (find owned.compare row.0 rows)) (ap is_eq (tied_itself owned.total row.0))

pub placement_first : (p : Placement × ⊤) (ps : List (Placement × ⊤)) → is_some (find placement_order.compare p.0 (p ∷ ps)) ≡ true
placement_first p ps = ap (λ r. is_some (cond r (Some p.1) (find placement_order.compare p.0 ps))) (ap is_eq (tied_itself placement_order.total p.0))

pub none_of : (o : Sender) (ps : List (Placement × ⊤)) (c : Cell) (rest : List (Sender × Placement)) → ((q : Placement) → is_some (find placement_order.compare q ps) ≡ true → has_cell q c ≡ false) → fill (map (λ q. (o, q.0)) ps ++ rest) c ≡ fill rest c
unfolding fill
none_of o [] c rest lacks = refl
none_of o (p ∷ ps) c rest lacks =
    let here : has_cell p.0 c ≡ false = lacks p.0 (placement_first p ps) in
    rw here (none_of o ps c rest (λ q h. lacks q (further ps p q h)))

fill-append : (xs ys zs : List (Sender × Placement)) (c : Cell) → fill ys c ≡ fill zs c → fill (xs ++ ys) c ≡ fill (xs ++ zs) c
unfolding fill
fill-append [] ys zs c e = e
fill-append (x ∷ xs) ys zs c e = ap (cond (has_cell x.1 c) (Some x.0)) (fill-append xs ys zs c e)

module _ (s : Name) (c : Cell) where
  kept_rows : (rows : List ((Name × Name) × Frame)) → T (is_sorted owned.compare rows) → ((k : Name × Name) (f : Frame) → find owned.compare k rows ≡ Some f → is_of s k ≡ false → Lacks c f) →
      fill (flat_map entries_of rows) c ≡ fill (flat_map entries_of (filter (λ e. is_of s e.0) rows)) c
  unfolding get
  kept_rows [] sorted lacks = refl
  kept_rows (row ∷ rows) sorted lacks =
      let rest = kept_rows rows (second _ _ sorted) (λ k f there. lacks k f (later rows row sorted k f there)) in
      elim (cases_Bool (is_of s row.0)) [
        | inl own ↦ rw own (fill-append (entries_of row) _ _ c rest)
        | inr other ↦ rw other (none_of _ row.1.placements.rows c _ (lacks row.0 row.1 (found_first row rows) other) ∙ rest)
      ]

  -- where no frame of another supplier has the cell, the one that is sent in it is the supplier's
  pub schedule-own : (frames : Table owned Frame) → ((k : Name × Name) (f : Frame) → get frames k ≡ Some f → is_of s k ≡ false → Lacks c f) → schedule_of frames c ≡ schedule_of (own s frames) c
  unfolding schedule_of placements_of only get
  schedule-own frames lacks = kept_rows frames.rows frames.sorted lacks

-- ---- the first taken cell

option_is : {A : Type 0} (r : Option A) → ((x : A) × (r ≡ Some x)) ⊎ (r ≡ None)
option_is None = inr refl
option_is (Some x) = inl (x, refl)

or_now : (a b : Bool) → a ≡ true → a || b ≡ true
or_now true b h = refl
or_now false b h = cc

or_later : (a b : Bool) → b ≡ true → a || b ≡ true
or_later true b h = refl
or_later false b h = h

pub first_taken-alike : {O : Type 0} (f g : Cell → Option O) (ds : List Cell) → ((c : Cell) → list_any (same_cell c) ds ≡ true → f c ≡ g c) → first_taken f ds ≡ first_taken g ds
unfolding first_taken
first_taken-alike f g [] alike = refl
first_taken-alike f g (d ∷ ds) alike =
    let here : f d ≡ g d = alike d (or_now (same_cell d d) _ (same_cell-itself d)) in
    let rest = first_taken-alike f g ds (λ c h. alike c (or_later (same_cell c d) _ h)) in
    elim (option_is (g d)) [
      | inl x ↦ rw (here, x.1) refl
      | inr none ↦ rw (here, none) rest
    ]

module _ (p : Params) (nodes : Table owned ⊤) (v : Variant) (sound : IsSoundVariant p nodes v) (s n : Name) (q : Placement) (holds : IsTrue (granted v.grants s n q)) where
  -- in a cell that is granted to the supplier no frame of another is sent
  pub others_lack : (c : Cell) → IsTrue (has_cell q c) → (k : Name × Name) (f : Frame) → get v.frames k ≡ Some f → is_of s k ≡ false → Lacks c f
  unfolding granted
  others_lack c has k f there other r in_f = elim (cases_Bool (has_cell r c)) [
    | inl clash ↦
        let mine = has_cell-in (λ d. held_by_node s n (get v.grants (q.slot, d))) q c holds has in
        let theirs = has_cell-in (λ d. held_by_node k.0 f.node (get v.grants (r.slot, d))) r c ((sound.frames k f there).in_grants r in_f) clash in
        let one : get v.grants (c.slot, c.channel) ≡ Some (record { supplier = s; node = n }) = ap (λ x. get v.grants (x, c.channel)) mine.0 ∙ holder-is s n _ mine.1 in
        let two : get v.grants (c.slot, c.channel) ≡ Some (record { supplier = k.0; node = f.node }) = ap (λ x. get v.grants (x, c.channel)) theirs.0 ∙ holder-is k.0 f.node _ theirs.1 in
        let same : s ≡ k.0 = ap (λ (h : Holder). h.supplier) (same_some _ _ (sym one ∙ two)) in
        absurd (true≢false (sym (same_text-itself s) ∙ ap (λ x. same_text x s) same ∙ other))
    | inr free ↦ free
  ]

  pub first_taken-own : first_taken (schedule_of v.frames) (cells_of q) ≡ first_taken (schedule_of (own s v.frames)) (cells_of q)
  unfolding has_cell
  first_taken-own = first_taken-alike _ _ (cells_of q) (λ c has. schedule-own s c v.frames (others_lack c has))

pub first_taken-alone : (c : Cluster) (b : Book) (v : Name) (x : Variant) (s n : Name) (q : Placement) → IsSound c b → get b.variants v ≡ Some x → IsTrue (granted x.grants s n q) →
    first_taken (schedule_of x.frames) (cells_of q) ≡ first_taken (schedule_of (own_variant s x).frames) (cells_of q)
unfolding own_variant
first_taken-alone c b v x s n q sound there holds = first_taken-own c.params b.nodes x (sound.variants v x there).1 s n q holds
