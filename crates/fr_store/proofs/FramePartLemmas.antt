-- The rows of one frame, as the queries show them.
use Rattle.std.proofs.Common.{◌≡◌, ◌==◌, ℕ, is_some, arith, Bool, true, false, cond, ◌&&◌, Some, List, [], ◌∷◌, ◌++◌, map, filter, flat_map, reverse, refl, sym, ap, ap₂, ◌∙◌, subst, IsPermutation, bytes_eq, unwrap_or, true≢false}
use Rattle.std.specs.Prelude.{⊤}
use Rattle.std.specs.Ordering.{is_eq}
use Rattle.std.specs.Cmp.{tied_itself}
use Rattle.std.specs.List.{AllByRecursion}
use Rattle.std.proofs.lemmas.Bool.Decides.{nat_tests}
use Rattle.std.proofs.lemmas.Bool.{and_parts}
use Rattle.std.proofs.lemmas.List.Elements.{filter-append}
use Rattle.std.proofs.lemmas.Slice.Eq.{bytes_eq-Decides}
use Rattle.sqlite.specs.Order.{Row}
use Rattle.sqlite_keyed.proofs.ListLemmas.{map-map, filter-map, filter_all, all_weaker, IsPermutation-filter}
use Rattle.fr_base.specs.Tables.{Table, get, only, from_rows}
use Rattle.fr_base.specs.Keys.{names, owned, placement_order}
use Rattle.fr_base.specs.Channels.{channels_of_text, text_of_channels}
use Rattle.fr_base.specs.Book.{Book, Variant, Frame}
use Rattle.fr_base.specs.Queries.{placements_in}
use Rattle.fr_base.specs.declared.channel.Channels.{Channels}
use Rattle.fr_base.specs.declared.channel.Channels.TheVariants.{A, AB, B}
use Rattle.fr_base.specs.declared.name.Name.{Name}
use Rattle.fr_base.specs.declared.placement.Placement.{Placement}
use Rattle.fr_base.proofs.SoundRows.{same_text-is}
use Rattle.fr_base.proofs.TableLaws.{same_rows}
use Rattle.fr_world.specs.Maps.{set_of}
use Rattle.fr_tables.specs.Rows.{PlacementRow, key_of}
use Rattle.fr_tables.specs.Tables.{Tables}
use Rattle.fr_tables.specs.Changes.{AreListed}
use Rattle.fr_tables.specs.Statements.{placement_row, is_placement_of, shows_placement, placements_cmp}
use Rattle.fr_store.specs.StandsFor.{HoldsRows, IsFine, Stored, Entry, of_frames, placement_rows}
use Rattle.fr_store.specs.Paging.{placement_shown}
use Rattle.fr_store.proofs.HolderLemmas.{other_name}
use Rattle.fr_store.proofs.SectionLemmas.{at, only_at}
use Rattle.fr_store.proofs.TurnLemmas.{each_found, from_listed}

pub filter_flat_none : {A X : Type 0} (p : X → Bool) (f : A → List X) → ((a : A) → filter p (f a) ≡ []) → (xs : List A) → filter p (flat_map f xs) ≡ []
filter_flat_none p f none [] = refl
filter_flat_none p f none (x ∷ xs) = filter-append p (f x) (flat_map f xs) ∙ ap₂ ◌++◌ (none x) (filter_flat_none p f none xs)

-- all pass, or none
pub all_or_none : {X : Type 0} (b : Bool) (xs : List X) → filter (λ x. b) xs ≡ cond b xs []
all_or_none true [] = refl
all_or_none true (x ∷ xs) = ap (λ l. x ∷ l) (all_or_none true xs)
all_or_none false [] = refl
all_or_none false (x ∷ xs) = all_or_none false xs

module _ (v s f : Name) where
  -- whether these are the variant, the supplier and the frame
  abbrev pub is_it : Name → Name × Name → Bool
  is_it w k = bytes_eq w v && (bytes_eq k.0 s && bytes_eq k.1 f)

  it_is : is_it v (s, f) ≡ true
  it_is = ap₂ ◌&&◌ ((bytes_eq-Decides v v).1 refl) (ap₂ ◌&&◌ ((bytes_eq-Decides s s).1 refl) ((bytes_eq-Decides f f).1 refl))

  other_key : (w : Name) (k : Name × Name) → is_eq (owned.compare (s, f) k) ≡ false → is_it w k ≡ false
  other_key w k apart = by_test (is_it w k) refl
    where
      by_test : (b : Bool) → is_it w k ≡ b → b ≡ false
      by_test false e = refl
      by_test true e =
          let here = and_parts _ _ (and_parts _ _ e).1 in
          let same : (s, f) ≡ k = λ i. (sym (same_text-is k.0 s here.0) i, sym (same_text-is k.1 f here.1) i) in
          absurd (true≢false (sym (ap is_eq (ap (owned.compare (s, f)) (sym same) ∙ tied_itself owned.total (s, f))) ∙ apart))

  module _ {X : Type 0} (rows : Name → Entry → List X) (passes : X → Bool) (test : (w : Name) (e : Entry) → filter passes (rows w e) ≡ cond (is_it w e.0) (rows w e) []) (stored : Name → Stored) (variants : Table names Variant) where
    other_variants : (e : Name × Variant) → is_eq (names.compare v e.0) ≡ false → filter passes (flat_map (rows e.0) (stored e.0).own.rows) ≡ []
    other_variants e apart =
        filter_flat_none passes (rows e.0) (λ g. test e.0 g ∙ ap (λ b. cond b (rows e.0 g) []) (ap (λ b. b && (bytes_eq g.0.0 s && bytes_eq g.0.1 f)) (other_name v e.0 apart))) (stored e.0).own.rows

    other_frames : (e : Entry) → is_eq (owned.compare (s, f) e.0) ≡ false → filter passes (rows v e) ≡ []
    other_frames e apart = test v e ∙ ap (λ b. cond b (rows v e) []) (other_key v e.0 apart)

    -- of all frames' rows those of the one pass
    pub of_one : (x : Variant) (frame : Frame) → get variants v ≡ Some x → get (stored v).own (s, f) ≡ Some frame → filter passes (of_frames rows stored variants) ≡ rows v ((s, f), frame)
    unfolding of_frames
    of_one x frame there own =
        only_at names (λ e. flat_map (rows e.0) (stored e.0).own.rows) passes v other_variants variants
        ∙ ap (at (λ e. flat_map (rows e.0) (stored e.0).own.rows) passes v) there
        ∙ only_at owned (rows v) passes (s, f) other_frames (stored v).own
        ∙ ap (at (rows v) passes (s, f)) own
        ∙ test v ((s, f), frame) ∙ ap (λ b. cond b (rows v ((s, f), frame)) []) it_is

  -- ---- placements

  pub placements_test : (w : Name) (e : Entry) → filter (is_placement_of (key_of v s f)) (placement_rows w e) ≡ cond (is_it w e.0) (placement_rows w e) []
  placements_test w e =
      filter-map (is_placement_of (key_of v s f)) (placement_row (key_of w e.0.0 e.0.1)) (placements_in e.1) ∙ ap (map (placement_row (key_of w e.0.0 e.0.1))) (all_or_none (is_it w e.0) (placements_in e.1)) ∙ inside (is_it w e.0)
    where
      inside : (b : Bool) → map (placement_row (key_of w e.0.0 e.0.1)) (cond b (placements_in e.1) []) ≡ cond b (placement_rows w e) []
      inside true = refl
      inside false = refl

  channels_again : (chs : Channels) → unwrap_or (channels_of_text (text_of_channels chs)) AB ≡ chs
  channels_again A = refl
  channels_again AB = refl
  channels_again B = refl

  abbrev placed : Placement × ⊤ → PlacementRow
  placed q = placement_row (key_of v s f) q.0

  placement_again : (count : ℕ) (q : Placement × ⊤) → q.0.cycles.count ≡ count → (placement_shown count (shows_placement (placed q)), tt) ≡ q
  placement_again count q same i = (record { slot = q.0.slot; channels = channels_again q.0.channels i; cycles = record { count = sym same i; base = q.0.cycles.base; repetition = q.0.cycles.repetition } }, tt)

  -- whether a placement is of so many cycles
  abbrev has_count : ℕ → Placement × ⊤ → Bool
  has_count count e = e.0.cycles.count == count

  all_counted : (count : ℕ) (frame : Frame) → IsFine count frame → AllByRecursion (λ e. has_count count e ≡ true) frame.placements.rows
  unfolding get
  all_counted count frame fine =
      all_weaker _ (λ e. has_count count e ≡ true) (λ e found. grind (arith, nat_tests, fine.counted e.0 (ap is_some found))) frame.placements.rows
      (each_found placement_order frame.placements.rows frame.placements.sorted)

  all_only : (count : ℕ) (frame : Frame) → IsFine count frame → only (λ q u. has_count count (q, u)) frame.placements ≡ frame.placements
  unfolding only
  all_only count frame fine = same_rows _ frame.placements (filter_all (has_count count) frame.placements.rows (all_counted count frame fine))

  module _ (t : Tables) (count : ℕ) (b : Book) (stands : HoldsRows t count b) (x : Variant) (frame : Frame) (there : get b.variants v ≡ Some x) (own : get (stands.stored v).own (s, f) ≡ Some frame)
      (fine : IsFine count frame) where
    same_placements : IsPermutation (map placed (filter (has_count count) frame.placements.rows)) (filter (is_placement_of (key_of v s f)) t.placements)
    same_placements =
        subst (λ xs. IsPermutation xs (filter (is_placement_of (key_of v s f)) t.placements))
        (of_one placement_rows (is_placement_of (key_of v s f)) placements_test stands.stored b.variants x frame there own
        ∙ map-map (placement_row (key_of v s f)) (λ q. q.0) frame.placements.rows
        ∙ ap (map placed) (sym (filter_all (has_count count) frame.placements.rows (all_counted count frame fine))))
        (IsPermutation-filter (is_placement_of (key_of v s f)) _ _ stands.placements)

    pub placements_told : (rows : List Row) (found : List Placement) → AreListed shows_placement (is_placement_of (key_of v s f)) placements_cmp t.placements rows
        → set_of placement_order (λ q. q) found ≡ set_of placement_order (λ q. q) (map (placement_shown count) (reverse rows)) → set_of placement_order (λ q. q) found ≡ frame.placements
    unfolding set_of
    placements_told rows found listed read =
        read ∙ ap from_rows (map-map (λ q. (q, tt)) (placement_shown count) (reverse rows))
        ∙ from_listed placement_order frame.placements (λ q u. has_count count (q, u)) placed shows_placement (is_placement_of (key_of v s f)) placements_cmp t.placements (λ r. (placement_shown count r, tt)) same_placements (λ q is. placement_again count q (grind (arith, nat_tests, is))) rows listed
        ∙ all_only count frame fine
