-- Each row that is told of two variants is seen of the one and not of the other.
use Rattle.std.proofs.Common.{◌≡◌, ℕ, Bool, true, false, cond, not, List, [], ◌∷◌, ◌++◌, map, filter, Option, Some, None, IsTrue, All, refl, arith, sym, ap, subst, ◌∙◌, ◌⊎◌, inl, inr}
use Rattle.std.specs.Prelude.{T, ⊤, ◌↔◌}
use Rattle.std.specs.List.{Contains, flat_map}
use Rattle.std.specs.Ordering.{eq_by_cmp}
use Rattle.std.specs.FinMap.Entries.{find, is_sorted}
use Rattle.std.proofs.lemmas.Bool.{cases_Bool}
use Rattle.std.proofs.lemmas.List.{get_or-map, length-map}
use Rattle.std.proofs.lemmas.List.Elements.{All-nil, All-cons, All-append, All-map, All-weaker, All-filter, All-contains, All-contains_itself, filter_passes, Contains-append_left, Contains-append_right, Contains-append_cases}
use Rattle.fr_base.specs.TableRows.{first, second}
use Rattle.fr_base.specs.Tables.{Order, Table, get, each}
use Rattle.fr_base.specs.Keys.{owned, channel_slots}
use Rattle.fr_base.specs.Book.{Holder, Frame, Variant}
use Rattle.fr_base.specs.Seen.{seen_grants, seen_frames}
use Rattle.fr_base.specs.Signals.{SignalData}
use Rattle.fr_base.specs.Names.{same_text}
use Rattle.fr_base.specs.Differences.{stands, has_row, lacked, placed_frames, starts, all_placements, all_signals, gap_of, grant_seen, frame_seen, placement_seen, signal_seen, gap_seen, same_holder, same_signal, same_gap, rows_of_frames, seen_rows, frames_lacked, missing}
use Rattle.fr_base.specs.DifferenceLaws.{IsSeenOnlyIn, ToldIsWhatDiffers, NothingIsGoneAndNew}
use Rattle.fr_base.specs.declared.channel.Channel.{Channel}
use Rattle.fr_base.specs.declared.name.Name.{Name}
use Rattle.fr_base.specs.declared.params.Params.{Params}
use Rattle.fr_base.specs.declared.placement.Placement.{Placement}
use Rattle.fr_base.specs.declared.actor.Actor.{Actor}
use Rattle.fr_base.specs.declared.answer.SeenRow.{SeenRow}
use Rattle.fr_base.specs.declared.answer.SeenRow.TheVariants as row
use Rattle.fr_base.specs.declared.answer.GrantRow.{GrantRow}
use Rattle.fr_base.specs.declared.answer.FrameRecord.{FrameRecord}
use Rattle.fr_base.specs.declared.answer.SignalRecord.{SignalRecord}
use Rattle.fr_base.specs.declared.answer.GapRow.{GapRow}
use Rattle.fr_base.proofs.TableLaws.{equal, none_above, get-from_rows}
use Rattle.fr_base.proofs.SoundTables.{same_some}
use Rattle.fr_base.proofs.MergeLaws.{found_first}
use Rattle.fr_base.proofs.SoundRows.{same_text-is}
use Rattle.fr_base.proofs.AloneCells.{same_text-itself}
use Rattle.fr_base.proofs.DifferenceLaws.{differences-differ, holders-exact, holder-itself, nothing-exact, signal-exact, signal-itself, gap-exact, gap-itself}

-- ---- what a list has

here : {X : Type 0} (x : X) (xs : List X) → Contains (x ∷ xs) x
here x xs = (0, omega arith, refl)

later : {X : Type 0} (x y : X) (xs : List X) → Contains xs y → Contains (x ∷ xs) y
later x y xs h = Contains-append_right (x ∷ []) xs y h

first_or_later : {X : Type 0} (x y : X) (xs : List X) → Contains (x ∷ xs) y → (x ≡ y) ⊎ Contains xs y
first_or_later x y xs h = elim (Contains-append_cases (x ∷ []) xs y h) [
  | inl one ↦ inl (All-contains (λ z. x ≡ z) (x ∷ []) y (All-cons (λ z. x ≡ z) x [] refl (All-nil (λ z. x ≡ z))) one)
  | inr more ↦ inr more
]

module _ {X Y : Type 0} (f : X → Y) (xs : List X) where
  into_map : (x : X) → Contains xs x → Contains (map f xs) (f x)
  into_map x h = (h.0, omega (arith, length-map xs f, h.1), get_or-map f xs h.0 x (f x) h.1 ∙ ap f h.2)

  abbrev Comes : Y → Type 0
  Comes y = (x : X) × Contains xs x × (f x ≡ y)

  from_map : (y : Y) → Contains (map f xs) y → Comes y
  from_map y =
      All-contains Comes (map f xs) y
      (All-map Comes f xs
      (All-weaker (Contains xs) (λ x. Comes (f x)) (λ x h. (x, h, refl)) xs (All-contains_itself xs)))

module _ {X : Type 0} (p : X → Bool) where
  from_filter : (xs : List X) (x : X) → Contains (filter p xs) x → Contains xs x × (p x ≡ true)
  from_filter xs x h = (
    All-contains (Contains xs) (filter p xs) x (All-filter p (Contains xs) xs (All-contains_itself xs)) h,
    All-contains (λ x. p x ≡ true) (filter p xs) x (filter_passes p xs) h,
  )

  into_filter : (xs : List X) (x : X) → Contains xs x → p x ≡ true → Contains (filter p xs) x
  into_filter [] x h passes = absurd (omega (arith, h.1))
  into_filter (y ∷ xs) x h passes = elim (first_or_later y x xs h) [
    | inl same ↦ rw (ap p same ∙ passes) (subst (Contains (y ∷ filter p xs)) same (here y (filter p xs)))
    | inr more ↦ by (p y) (into_filter xs x more passes)
  ]
    where
      by : (b : Bool) → Contains (filter p xs) x → Contains (cond b (y ∷ filter p xs) (filter p xs)) x
      by true kept = later y x (filter p xs) kept
      by false kept = kept

-- ---- what a table has

module _ {K V : Type 0} (o : Order K) where
  -- what is found at a key stands there
  found-there : (k : K) (v : V) (es : List (K × V)) → find o.compare k es ≡ Some v → Contains es (k, v)
  found-there k v [] h = cc
  found-there k v (e ∷ es) h = by (eq_by_cmp o.compare k e.0) refl h (found-there k v es)
    where
      by : (b : Bool) → eq_by_cmp o.compare k e.0 ≡ b → cond b (Some e.1) (find o.compare k es) ≡ Some v →
          (find o.compare k es ≡ Some v → Contains es (k, v)) → Contains (e ∷ es) (k, v)
      by true tie is behind =
          let same : e ≡ (k, v) = λ i. (sym (o.exact k e.0 (equal _ tie)) i, same_some e.1 v is i) in
          subst (Contains (e ∷ es)) same (here e es)
      by false other is behind = later e (k, v) es (behind is)

  abbrev IsFound : List (K × V) → K × V → Type 0
  IsFound es e = find o.compare e.0 es ≡ Some e.1

  -- each row is found at its key
  pub rows-found : (es : List (K × V)) → T (is_sorted o.compare es) → All (IsFound es) es
  rows-found [] sorted = All-nil _
  rows-found (x ∷ es) sorted =
      All-cons (IsFound (x ∷ es)) x es (found_first o x es)
      (All-weaker (IsFound es) (IsFound (x ∷ es)) behind es (rows-found es (second _ _ sorted)))
    where
      behind : (e : K × V) → IsFound es e → IsFound (x ∷ es) e
      behind e there = elim (cases_Bool (eq_by_cmp o.compare e.0 x.0)) [
        | inl tie ↦ let none = none_above o (λ j w. true) e.0 x.0 es (equal _ tie) (first _ _ sorted) in cc
        | inr other ↦ rw other there
      ]

  row-found : (t : Table o V) (e : K × V) → Contains t.rows e → IsFound t.rows e
  row-found t e h = All-contains (IsFound t.rows) t.rows e (rows-found t.rows t.sorted) h

-- ---- of two tables

module _ {K V : Type 0} (o : Order K) (same : V → V → Bool) (told : K × V → SeenRow) where
  -- the rows that another table has not
  abbrev lacking : Table o V → Table o V → List (K × V)
  lacking t other = filter (λ e. not (has_row same other e)) t.rows

  -- the row is told of the one table, and not of the other
  abbrev IsOnlyIn : Table o V → Table o V → SeenRow → Type 0
  IsOnlyIn t other x = Contains (map told t.rows) x × (¬ Contains (map told other.rows) x)

  module _ (exact : (v w : V) → IsTrue (same v w) → v ≡ w) (itself : (v : V) → same v v ≡ true) (t other : Table o V)
      (one : (e d : K × V) → Contains t.rows e → Contains other.rows d → told e ≡ told d → e ≡ d) where
    into_lacking : (x : SeenRow) → IsOnlyIn t other x → Contains (map told (lacking t other)) x
    unfolding has_row get
    into_lacking x (has, none) =
        let it = from_map told t.rows x has in
        let lacks = by it.0 it.2 (find o.compare it.0.0 other.rows) refl in
        subst (Contains (map told (lacking t other))) it.2
        (into_map told (lacking t other) it.0 (into_filter (λ e. not (has_row same other e)) t.rows it.0 it.1 lacks))
      where
        by : (e : K × V) → told e ≡ x → (there : Option V) → find o.compare e.0 other.rows ≡ there →
            not (stands same e.1 there) ≡ true
        by e is None there = refl
        by e is (Some w) there = elim (cases_Bool (same e.1 w)) [
          | inl equals ↦
              let stood : find o.compare e.0 other.rows ≡ Some e.1 = there ∙ ap Some (sym (exact e.1 w equals)) in
              let its = into_map told other.rows e (found-there o e.0 e.1 other.rows stood) in
              absurd (none (subst (Contains (map told other.rows)) is its))
          | inr differs ↦ ap not differs
        ]

    from_lacking : (x : SeenRow) → Contains (map told (lacking t other)) x → IsOnlyIn t other x
    unfolding has_row get
    from_lacking x h =
        let it = from_map told (lacking t other) x h in
        let passed = from_filter (λ e. not (has_row same other e)) t.rows it.0 it.1 in (
          subst (Contains (map told t.rows)) it.2 (into_map told t.rows it.0 passed.0),
          λ there.
              let twin = from_map told other.rows x there in
              let equals : it.0 ≡ twin.0 = one it.0 twin.0 passed.0 twin.1 (it.2 ∙ sym twin.2) in
              let stood = subst (IsFound o other.rows) (sym equals) (row-found o other twin.0 twin.1) in
              no it.0.1 (ap (λ r. not (stands same it.0.1 r)) (sym stood) ∙ passed.1),
        )
      where
        no : (v : V) → not (same v v) ≡ true → ⊥
        no v h = let is = itself v in let none : not true ≡ true = sym (ap not is) ∙ h in cc

    -- a row is lacked exactly where the one has it and the other has not
    only-in : (x : SeenRow) → Contains (map told (lacking t other)) x ↔ IsOnlyIn t other x
    only-in x = (from_lacking x, into_lacking x)

-- ---- no row is told of two

same_grant : (r q : GrantRow) → row.Grant r ≡ row.Grant q → r ≡ q
same_grant r q h = cc

same_frame : (r q : FrameRecord) → row.Frame r ≡ row.Frame q → r ≡ q
same_frame r q h = cc

same_signal_row : (r q : SignalRecord) → row.Signal r ≡ row.Signal q → r ≡ q
same_signal_row r q h = cc

same_gap_row : (r q : GapRow) → row.Gap r ≡ row.Gap q → r ≡ q
same_gap_row r q h = cc

grant-one : (e d : (ℕ × Channel) × Holder) → grant_seen e ≡ grant_seen d → e ≡ d
grant-one e d h =
    let same = same_grant _ _ h in
    λ i. (((same i).slot, (same i).channel), record { supplier = (same i).supplier; node = (same i).node })

frame-one : (e d : (Name × Name) × Name) → frame_seen e ≡ frame_seen d → e ≡ d
frame-one e d h = let same = same_frame _ _ h in λ i. (((same i).supplier, (same i).frame), (same i).node)

placement-one : (e d : ((Name × Name) × Placement) × ⊤) → placement_seen e ≡ placement_seen d → e ≡ d
placement-one e d h =
    let frame : e.0.0.1 ≡ d.0.0.1 = cc in
    let place : e.0.1 ≡ d.0.1 = cc in
    let supplier : e.0.0.0 ≡ d.0.0.0 = cc in
    λ i. (((supplier i, frame i), place i), tt)

signal-one : (e d : ((Name × Name) × ℕ) × SignalData) → e.0.1 ≡ e.1.start → d.0.1 ≡ d.1.start →
    signal_seen e ≡ signal_seen d → e ≡ d
signal-one e d at there h =
    let same = same_signal_row _ _ h in
    let start : e.0.1 ≡ d.0.1 = at ∙ ap (λ (r : SignalRecord). r.signal.start) same ∙ sym there in
    λ i. ((((same i).supplier, (same i).frame), start i), (same i).signal)

gap-one : (e d : (Name × Name) × Option ℕ) → gap_seen e ≡ gap_seen d → e ≡ d
gap-one e d h = let same = same_gap_row _ _ h in λ i. (((same i).supplier, (same i).frame), (same i).gap)

-- a signal stands at its start
abbrev IsAtStart : ((Name × Name) × ℕ) × SignalData → Type 0
IsAtStart e = e.0.1 ≡ e.1.start

abbrev its_signals : (Name × Name) × Frame → List (((Name × Name) × ℕ) × SignalData)
its_signals e = map (λ s. ((e.0, s.start), s)) e.1.signals

each_starts : (k : Name × Name) (signals : List SignalData) →
    All IsAtStart (map (λ s. ((k, s.start), s)) signals)
each_starts k [] = All-nil IsAtStart
each_starts k (s ∷ signals) =
    All-cons IsAtStart ((k, s.start), s) (map (λ s. ((k, s.start), s)) signals) refl (each_starts k signals)

starting : (rows : List ((Name × Name) × Frame)) → All IsAtStart (flat_map its_signals rows)
starting [] = All-nil IsAtStart
starting (e ∷ rows) =
    All-append IsAtStart (its_signals e) (flat_map its_signals rows) (each_starts e.0 e.1.signals) (starting rows)

at-start : (frames : Table owned Frame) (e : ((Name × Name) × ℕ) × SignalData) →
    Contains (all_signals frames).rows e → IsAtStart e
unfolding all_signals get
at-start frames e h =
    let listed = flat_map its_signals frames.rows in
    let is = sym (get-from_rows starts listed e.0) ∙ row-found starts (all_signals frames) e h in
    All-contains IsAtStart listed e (starting frames.rows) (found-there starts e.0 e.1 listed is)

-- ---- kinds of rows

module _ {R : Type 0} (a b c d e : List R) (x : R) where
  behind_first : Contains (b ++ c ++ d ++ e) x → Contains (a ++ (b ++ c ++ d ++ e)) x
  behind_first h = Contains-append_right a (b ++ c ++ d ++ e) x h

  in_first : Contains a x → Contains (a ++ (b ++ c ++ d ++ e)) x
  in_first h = Contains-append_left a (b ++ c ++ d ++ e) x h

  in_second : Contains b x → Contains (a ++ (b ++ c ++ d ++ e)) x
  in_second h =
      behind_first (Contains-append_left (b ++ c ++ d) e x (Contains-append_left (b ++ c) d x
      (Contains-append_left b c x h)))

  in_third : Contains c x → Contains (a ++ (b ++ c ++ d ++ e)) x
  in_third h =
      behind_first (Contains-append_left (b ++ c ++ d) e x (Contains-append_left (b ++ c) d x
      (Contains-append_right b c x h)))

  in_fourth : Contains d x → Contains (a ++ (b ++ c ++ d ++ e)) x
  in_fourth h = behind_first (Contains-append_left (b ++ c ++ d) e x (Contains-append_right (b ++ c) d x h))

  in_fifth : Contains e x → Contains (a ++ (b ++ c ++ d ++ e)) x
  in_fifth h = behind_first (Contains-append_right (b ++ c ++ d) e x h)

module _ (grants : List ((ℕ × Channel) × Holder)) (nodes : List ((Name × Name) × Name))
    (places : List (((Name × Name) × Placement) × ⊤)) (signals : List (((Name × Name) × ℕ) × SignalData))
    (gaps : List ((Name × Name) × Option ℕ)) where
  abbrev a : List SeenRow
  a = map grant_seen grants

  abbrev b : List SeenRow
  b = map frame_seen nodes

  abbrev c : List SeenRow
  c = map placement_seen places

  abbrev d : List SeenRow
  d = map signal_seen signals

  abbrev e : List SeenRow
  e = map gap_seen gaps

  -- the rows of all kinds
  abbrev of_all_kinds : List SeenRow
  of_all_kinds = a ++ (b ++ c ++ d ++ e)

  -- the row is among those of its kind
  abbrev IsOfKind : SeenRow → Type 0
  IsOfKind (row.Grant r) = Contains a (row.Grant r)
  IsOfKind (row.Frame r) = Contains b (row.Frame r)
  IsOfKind (row.Placement f q s) = Contains c (row.Placement f q s)
  IsOfKind (row.Signal r) = Contains d (row.Signal r)
  IsOfKind (row.Gap r) = Contains e (row.Gap r)

  each_of : {X : Type 0} (told : X → SeenRow) (xs : List X) →
      ((x : X) → Contains xs x → IsOfKind (told x)) → All IsOfKind (map told xs)
  each_of told xs is =
      All-map IsOfKind told xs
      (All-weaker (Contains xs) (λ x. IsOfKind (told x)) is xs (All-contains_itself xs))

  all_of_kinds : All IsOfKind of_all_kinds
  all_of_kinds =
      All-append IsOfKind a (b ++ c ++ d ++ e) (each_of grant_seen grants (into_map grant_seen grants))
      (All-append IsOfKind (b ++ c ++ d) e
      (All-append IsOfKind (b ++ c) d
      (All-append IsOfKind b c (each_of frame_seen nodes (into_map frame_seen nodes))
      (each_of placement_seen places (into_map placement_seen places)))
      (each_of signal_seen signals (into_map signal_seen signals)))
      (each_of gap_seen gaps (into_map gap_seen gaps)))

  into_kind : (x : SeenRow) → Contains of_all_kinds x → IsOfKind x
  into_kind x = All-contains IsOfKind of_all_kinds x all_of_kinds

  from_kind : (x : SeenRow) → IsOfKind x → Contains of_all_kinds x
  from_kind (row.Grant r) h = in_first a b c d e (row.Grant r) h
  from_kind (row.Frame r) h = in_second a b c d e (row.Frame r) h
  from_kind (row.Placement f q s) h = in_third a b c d e (row.Placement f q s) h
  from_kind (row.Signal r) h = in_fourth a b c d e (row.Signal r) h
  from_kind (row.Gap r) h = in_fifth a b c d e (row.Gap r) h

-- ---- of two variants

module _ (p : Params) (actor : Actor) where
  abbrev grants_of : Variant → Table channel_slots Holder
  grants_of x = seen_grants actor x.grants

  abbrev frames_of : Variant → Table owned Frame
  frames_of x = seen_frames actor x.frames

  abbrev nodes_of : Variant → Table owned Name
  nodes_of x = each (λ f. f.node) (frames_of x)

  abbrev places_of : Variant → Table placed_frames ⊤
  places_of x = all_placements (frames_of x)

  abbrev signals_of : Variant → Table starts SignalData
  signals_of x = all_signals (frames_of x)

  abbrev gaps_of : Variant → Table owned (Option ℕ)
  gaps_of x = each (gap_of p) (frames_of x)

  -- the row is seen of the variant, among those of its kind
  abbrev IsSeen : Variant → SeenRow → Type 0
  IsSeen x =
      IsOfKind (grants_of x).rows (nodes_of x).rows (places_of x).rows (signals_of x).rows (gaps_of x).rows

  abbrev IsMissing : Variant → Variant → SeenRow → Type 0
  IsMissing x y =
      IsOfKind
      (lacking channel_slots same_holder grant_seen (grants_of x) (grants_of y))
      (lacking owned same_text frame_seen (nodes_of x) (nodes_of y))
      (lacking placed_frames (λ _ _. true) placement_seen (places_of x) (places_of y))
      (lacking starts same_signal signal_seen (signals_of x) (signals_of y))
      (lacking owned same_gap gap_seen (gaps_of x) (gaps_of y))

  by_kind : (x y : Variant) (r : SeenRow) → IsMissing x y r ↔ (IsSeen x r × (¬ IsSeen y r))
  by_kind x y (row.Grant r) =
      only-in channel_slots same_holder grant_seen holders-exact holder-itself (grants_of x) (grants_of y)
      (λ e d _ _. grant-one e d) (row.Grant r)
  by_kind x y (row.Frame r) =
      only-in owned same_text frame_seen same_text-is same_text-itself (nodes_of x) (nodes_of y)
      (λ e d _ _. frame-one e d) (row.Frame r)
  by_kind x y (row.Placement f q s) =
      only-in placed_frames (λ _ _. true) placement_seen nothing-exact (λ _. refl) (places_of x) (places_of y)
      (λ e d _ _. placement-one e d) (row.Placement f q s)
  by_kind x y (row.Signal r) =
      only-in starts same_signal signal_seen signal-exact signal-itself (signals_of x) (signals_of y)
      (λ e d mine its. signal-one e d (at-start (frames_of x) e mine) (at-start (frames_of y) d its)) (row.Signal r)
  by_kind x y (row.Gap r) =
      only-in owned same_gap gap_seen gap-exact gap-itself (gaps_of x) (gaps_of y) (λ e d _ _. gap-one e d) (row.Gap r)

  seen-kind : (x : Variant) (r : SeenRow) → Contains (seen_rows p actor x) r ↔ IsSeen x r
  unfolding seen_rows rows_of_frames
  seen-kind x r = (into_kind _ _ _ _ _ r, from_kind _ _ _ _ _ r)

  missing-kind : (x y : Variant) (r : SeenRow) → Contains (missing p actor x y) r ↔ IsMissing x y r
  unfolding missing frames_lacked lacked
  missing-kind x y r = (into_kind _ _ _ _ _ r, from_kind _ _ _ _ _ r)

  -- what is missing is seen of the one variant alone
  missing-only : (x y : Variant) (r : SeenRow) → Contains (missing p actor x y) r ↔ IsSeenOnlyIn p actor x y r
  missing-only x y r = (to, from)
    where
      to : Contains (missing p actor x y) r → IsSeenOnlyIn p actor x y r
      to h =
          let only = (by_kind x y r).0 ((missing-kind x y r).0 h) in
          ((seen-kind x r).1 only.0, λ there. only.1 ((seen-kind y r).0 there))

      from : IsSeenOnlyIn p actor x y r → Contains (missing p actor x y) r
      from (has, none) =
          (missing-kind x y r).1
          ((by_kind x y r).1 ((seen-kind x r).0 has, λ there. none ((seen-kind y r).1 there)))

pub what_differs : ToldIsWhatDiffers
what_differs p actor old new r =
    let parts = differences-differ p actor old new in (
      subst (λ rs. Contains rs r ↔ IsSeenOnlyIn p actor old new r) (sym parts.0) (missing-only p actor old new r),
      subst (λ rs. Contains rs r ↔ IsSeenOnlyIn p actor new old r) (sym parts.1) (missing-only p actor new old r),
    )

pub not_gone_and_new : NothingIsGoneAndNew
not_gone_and_new p actor old new r gone new_too =
    let differs = what_differs p actor old new r in
    (differs.0.0 gone).1 (differs.1.0 new_too).0
