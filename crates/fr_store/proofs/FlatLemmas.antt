-- A flat variant that is filled with the frames of another one: what the tables stand for after each
-- copy, and when all are there.
use Rattle.std.proofs.Common.{◌≡◌, Bool, true, false, cond, ◌||◌, None, Some, Option, is_some, List, [], ◌∷◌, map, filter, refl, sym, ap, ◌∙◌, subst, IsPermutation, IsTrue, All, true≢false, inl, inr}
use Rattle.std.specs.List.{list_any}
use Rattle.std.specs.BTreeMap.{is_at}
use Rattle.std.specs.Cmp.Lexicographic.{slice_cmp, nat_list_cmp_total}
use Rattle.std.specs.FinMap.Entries.{find}
use Rattle.std.specs.Ordering.{eq_by_cmp, nat_cmp}
use Rattle.std.proofs.lemmas.Cmp.{eq_by_cmp_equiv}
use Rattle.std.proofs.lemmas.List.Elements.{All-head, All-tail}
use Rattle.std.proofs.lemmas.List.Sorted.{list_any-IsPermutation}
use Rattle.std.proofs.lemmas.Map.Views.{All-from_any}
use Rattle.sqlite.specs.Effect.{Database}
use Rattle.sqlite.specs.Order.{Row}
use Rattle.sqlite.specs.State.{State, IsUnchanged}
use Rattle.sqlite_keyed.proofs.ListLemmas.{filter_all, all_of}
use Rattle.fr_base.specs.Tables.{Table, get, contains, insert}
use Rattle.fr_base.specs.Keys.{names, owned}
use Rattle.fr_base.specs.Cluster.{Cluster}
use Rattle.fr_base.specs.Book.{Frame, Variant, Book, listed}
use Rattle.fr_base.specs.Step.{with_variant}
use Rattle.fr_base.specs.declared.key.Key.{Key}
use Rattle.fr_base.specs.declared.name.Name.{Name}
use Rattle.fr_base.proofs.SoundTables.{get-put, insert-again, insert-cases, same_some, some_there, value_of}
use Rattle.fr_base.proofs.TableLaws.{equal, get-insert, same_table}
use Rattle.fr_world.specs.BookEdits.{applied, or_empty}
use Rattle.fr_world.specs.Fits.{HasKnownSuppliers, IsCopiable, IsOpen}
use Rattle.fr_world.specs.declared.edit.Edit.TheVariants.{NewFlat}
use Rattle.fr_world.proofs.KeyLaws.{name_cmp}
use Rattle.fr_tables.specs.Changes.{AreListed, tables_of}
use Rattle.fr_tables.specs.Filling.{supplier_row}
use Rattle.fr_tables.specs.Rows.{SupplierRow, key_of}
use Rattle.fr_tables.specs.Statements.{every, frame_copies, placement_copies, shows_supplier, signal_copies, suppliers_cmp}
use Rattle.fr_tables.specs.Tables.{Tables, tables_in}
use Rattle.fr_store.specs.Flat.{HasMore, IsPart, MayOpen, Reaches, TellsSuppliers, filled, flat, has_name}
use Rattle.fr_store.specs.Owning.{CopiesFrame, IsOwner, is_own, with_frame_rows}
use Rattle.fr_store.specs.Reading.{Stands, name_shown}
use Rattle.fr_store.specs.StandsFor.{HoldsRows, StandsFor}
use Rattle.fr_store.proofs.AgainLemmas.{still_stands}
use Rattle.fr_store.proofs.OwnCopies.{added_stands}
use Rattle.fr_store.proofs.OwningLemmas.{own_as_shown, own_is, own_shown}

-- ---- parts of the frames

part_itself : (t : Table owned Frame) → IsPart t t
part_itself t k f there = there

-- a part that reaches every frame is the whole
same_part : (whole part : Table owned Frame) → IsPart part whole → ((k : Name × Name) → Reaches whole part k) → part ≡ whole
same_part whole part within reached = same_table part whole (λ k. by_part k (get part k) (get whole k) refl refl)
  where
    by_part : (k : Name × Name) (p w : Option Frame) → get part k ≡ p → get whole k ≡ w → get part k ≡ get whole k
    by_part k (Some f) w is there = is ∙ sym (within k f is)
    by_part k None (Some f) is there = reached k f there ∙ sym there
    by_part k None None is there = is ∙ sym there

-- one frame more
module _ (whole part : Table owned Frame) (k : Name × Name) (frame : Frame) (there : get whole k ≡ Some frame) (within : IsPart part whole) where
  its_frame : (f : Frame) → get whole k ≡ Some f → frame ≡ f
  its_frame f is = same_some frame f (sym there ∙ is)

  more_within : IsPart (insert part k frame) whole
  more_within j f at = elim (insert-cases part k frame j f at) [
    | inl it ↦ ap (get whole) it.0 ∙ there ∙ ap Some it.1
    | inr other ↦ within j f other.1
  ]

  more_part : IsPart part (insert part k frame)
  more_part j f at = get-insert part k frame j ∙ by_test (eq_by_cmp owned.compare j k) refl
    where
      by_test : (tie : Bool) → eq_by_cmp owned.compare j k ≡ tie → cond tie (Some frame) (get part j) ≡ Some f
      by_test true tie = ap Some (its_frame f (ap (get whole) (sym (owned.exact j k (equal _ tie))) ∙ within j f at))
      by_test false apart = at

  more_reached : Reaches whole (insert part k frame) k
  more_reached f is = get-put part k frame ∙ ap Some (its_frame f is)

-- ---- the book with a variant that is filled

module _ (b : Book) (v from : Name) (x : Variant) (may : MayOpen b v from x) where
  abbrev book : Table owned Frame → Book
  book part = filled b v x part

  pub there_filled : (part : Table owned Frame) → IsOpen (book part) v (flat x part)
  there_filled part = record { there = get-put b.variants v (flat x part); unreleased = refl }

  pub from_filled : (part : Table owned Frame) → get (book part).variants from ≡ Some x
  from_filled part = get-insert b.variants v (flat x part) from ∙ by_test (eq_by_cmp names.compare from v) refl
    where
      by_test : (tie : Bool) → eq_by_cmp names.compare from v ≡ tie → cond tie (Some (flat x part)) (get b.variants from) ≡ Some x
      by_test true tie = let no : None ≡ Some x = sym may.new ∙ ap (get b.variants) (sym (names.exact from v (equal _ tie))) ∙ may.there in absurd cc
      by_test false apart = may.there

  filled-again : (part frames : Table owned Frame) → with_variant (book part) v (record (flat x part) { frames = frames }) ≡ book frames
  filled-again part frames i = record b { variants = insert-again b.variants v (flat x part) (flat x frames) i }

  module _ (c : Cluster) (s f : Name) (frame : Frame) (there : get x.frames (s, f) ≡ Some frame) (part : Table owned Frame) (within : IsPart part x.frames) where
    -- it was copied before
    pub copied_before : (old new : State) → IsUnchanged old new → IsTrue (is_own (key_of v s f) (tables_of old)) → Stands old c (book part) → HasMore b v x part (λ more. Reaches x.frames more (s, f)) new c
    copied_before old new same own stands =
        let is = there_filled part in
        let t = tables_of old in
        let its = value_of _ (sym (own_is v s f t c.params.cycles (book part) stands.for.rows (flat x part) is.there) ∙ own) in
        let has = own_shown v s f t c.params.cycles (book part) stands.for.rows (flat x part) is.there its.0 its.1 in
        record {
          frames = part;
          within = within;
          more = part_itself part;
          reached = λ g at. has ∙ sym (within (s, f) its.0 has) ∙ at;
          stands = still_stands old new c (book part) same.0.now_is stands;
        }

    -- it is copied now
    pub copied_now : (w : Name) (old mid new : State) → IsOwner (key_of from s f) w old mid → is_own (key_of v s f) (tables_of old) ≡ false → CopiesFrame w (key_of v s f) mid new → Stands old c (book part)
        → HasMore b v x part (λ more. Reaches x.frames more (s, f)) new c
    copied_now w old mid new found not_own copies stands =
        let is = there_filled part in
        let t = tables_of old in
        let rows = stands.for.rows in
        let owner = found.of c (book part) stands x frame (from_filled part) there in
        let same : tables_of mid ≡ t = ap (λ (d : Database). tables_in d.trees) found.now in
        let its_own : get (rows.stored w).own (s, f) ≡ Some frame = own_as_shown w s f t c.params.cycles (book part) rows owner.variant owner.there frame owner.shown owner.own in
        let fine = (rows.each from x (from_filled part)).fine (s, f) frame there in
        let made : HoldsRows (with_frame_rows copies.frames copies.placements copies.signals t) c.params.cycles (book (insert part (s, f) frame)) =
        subst (HoldsRows (with_frame_rows copies.frames copies.placements copies.signals t) c.params.cycles) (filled-again part (insert part (s, f) frame))
        (added_stands t c.params.cycles (book part) rows s f frame v (flat x part) is not_own w owner.variant owner.there its_own fine copies.frames copies.placements copies.signals
        (subst (λ t. IsPermutation (frame_copies w (key_of v s f) t) copies.frames) same copies.same_frames)
        (subst (λ t. IsPermutation (placement_copies w (key_of v s f) t) copies.placements) same copies.same_placements)
        (subst (λ t. IsPermutation (signal_copies w (key_of v s f) t) copies.signals) same copies.same_signals)) in
        let now : tables_of new ≡ with_frame_rows copies.frames copies.placements copies.signals t = copies.added.now ∙ ap (with_frame_rows copies.frames copies.placements copies.signals) same in
        record {
          frames = insert part (s, f) frame;
          within = more_within x.frames part (s, f) frame there within;
          more = more_part x.frames part (s, f) frame there within;
          reached = more_reached x.frames part (s, f) frame there within;
          stands = record { has = copies.added.has; for = subst (λ t. StandsFor t c (book (insert part (s, f) frame))) (sym now) (record { heads = stands.for.heads; rows = made }) };
        }

-- ---- names in lists

-- names that tie are one name
pub same_name : (a b : Name) → is_at (name_cmp a) b ≡ true → a ≡ b
unfolding names
same_name a b tie = names.exact a b (equal _ tie)

module _ (P : Name → Type 0) where
  -- what holds of each name holds of one that the list has
  pub of_named : (ks : List Name) (n : Name) → has_name n ks ≡ true → All P ks → P n
  of_named [] n has all = absurd (true≢false (sym has))
  of_named (k ∷ ks) n has all = by_test (is_at (name_cmp n) k) refl has (of_named ks n)
    where
      by_test : (tie : Bool) → is_at (name_cmp n) k ≡ tie → (tie || has_name n ks) ≡ true → (has_name n ks ≡ true → All P ks → P n) → P n
      by_test true tie has more = subst P (sym (same_name n k tie)) (All-head P k ks all)
      by_test false tie has more = more has (All-tail P k ks all)

  -- what holds of each name that the list has holds of each
  pub each_named : (ks : List Name) → ((n : Name) → has_name n ks ≡ true → P n) → All P ks
  each_named ks h = All-from_any (eq_by_cmp_equiv nat_list_cmp_total) P ks h

-- ---- all suppliers

module _ (t : Tables) (rows : List Row) (found : List Name) (listed_rows : AreListed shows_supplier every suppliers_cmp t.suppliers rows) (named : found ≡ map name_shown rows) where
  abbrev has : Name → SupplierRow → Bool
  has s r = is_at (name_cmp s) r.name

  among_rows : (s : Name) (es : List SupplierRow) → has_name s (map name_shown (map shows_supplier es)) ≡ list_any (has s) es
  among_rows s [] = refl
  among_rows s (e ∷ es) = ap (λ b. has s e || b) (among_rows s es)

  every_row : (es : List SupplierRow) → filter every es ≡ es
  every_row es = filter_all every es (all_of _ (λ e. refl) es)

  found_there : (s : Name) (es : List (Name × Key)) → is_some (find names.compare s es) ≡ list_any (has s) (map supplier_row (map listed es))
  unfolding names
  found_there s [] = refl
  found_there s (e ∷ es) =
      elim (is_at (name_cmp s) e.0) as (λ tie. is_some (cond tie (Some e.1) (find (slice_cmp nat_cmp) s es)) ≡ (tie || list_any (has s) (map supplier_row (map listed es)))) [
        | true ↦ refl
        | false ↦ found_there s es
      ]

  all_there : (b : Book) (s : Name) → contains b.suppliers s ≡ list_any (has s) (map supplier_row (map listed b.suppliers.rows))
  unfolding get
  all_there b s = found_there s b.suppliers.rows

  pub suppliers_named : TellsSuppliers t found
  suppliers_named count b stands s known =
      ap (has_name s) named ∙ ap (λ rs. has_name s (map name_shown rs)) listed_rows.shown ∙ among_rows s listed_rows.found
      ∙ sym (list_any-IsPermutation (has s) _ _ listed_rows.same) ∙ ap (list_any (has s)) (every_row t.suppliers) ∙ sym (list_any-IsPermutation (has s) _ _ stands.suppliers)
      ∙ sym (all_there b s) ∙ known

-- ---- all frames

-- where the frames of all suppliers are reached the edit is made
pub all_filled : (s : State) (c : Cluster) (b : Book) (v from : Name) (x : Variant) → MayOpen b v from x → HasKnownSuppliers b x → (part : Table owned Frame) → IsPart part x.frames
    → ((t n : Name) → IsTrue (contains b.suppliers t) → Reaches x.frames part (t, n)) → Stands s c (filled b v x part) → Stands s c (applied b (NewFlat v from))
unfolding applied
all_filled s c b v from x may known part within reached stands =
    let whole : part ≡ x.frames = same_part x.frames part within (λ k f there. reached k.0 k.1 (known k (some_there (get x.frames k) f there)) f there) in
    let made : Stands s c (filled b v x x.frames) = subst (λ fs. Stands s c (filled b v x fs)) whole stands in
    subst (λ o. Stands s c (with_variant b v (record (or_empty o) { parent = None; depth = 1; released = false }))) (sym may.there) made

-- the suppliers stay while the variant is filled
pub may_open : (b : Book) (v from : Name) → get b.variants v ≡ None → (copiable : IsCopiable b from) → MayOpen b v from copiable.0
may_open b v from new copiable = record { new = new; there = copiable.1; released = copiable.2 }
