-- After a whole replacement in a sound book the export of its kind has the rows of its file and no others, each once.
use Rattle.std.proofs.Common.{◌≡◌, Bool, true, false, ◌||◌, nat_lt, ◌⊎◌, inl, inr, All, AllPairs, List, [], ◌∷◌, ◌++◌, map, flat_map, Option, Some, None, is_some, Result, Ok, Err, IfOk, refl, sym, ap, subst, ◌∙◌, true≢false}
use Rattle.std.specs.Prelude.{T, ⊤}
use Rattle.std.specs.List.{AllByRecursion, list_all, list_any}
use Rattle.std.specs.Option.{option_and_then}
use Rattle.std.specs.Ordering.{eq_by_cmp}
use Rattle.std.specs.FinMap.Entries.{find, is_sorted}
use Rattle.std.proofs.lemmas.Bool.{cases_Bool}
use Rattle.std.proofs.lemmas.List.Elements.{All-head, All-tail}
use Rattle.fr_base.specs.TableRows.{first, second}
use Rattle.fr_base.specs.Tables.{Order, Table, from_rows, get}
use Rattle.fr_base.specs.Keys.{owned, placement_order}
use Rattle.fr_base.specs.Names.{same_text}
use Rattle.fr_base.specs.Signals.{SignalData}
use Rattle.fr_base.specs.Layouts.{with_signal}
use Rattle.fr_base.specs.Book.{Frame, Variant, Book, is_of, own}
use Rattle.fr_base.specs.Brought.{if_named, node_for, nodes_for, placement_for, placements_for, signal_for, signals_for, had_placements, had_signals, put_in}
use Rattle.fr_base.specs.ImportRows.{rows_of_body}
use Rattle.fr_base.specs.ReplacingLaws.{names_frame, is_named}
use Rattle.fr_base.specs.Step.{frame_at, frame_of_row, kind_of_row, step}
use Rattle.fr_base.specs.WholeLaws.{AreTheRows, EachOnce, IsAmong, IsOfItsNode, TakenIsSent, all_records, frame_of_file, made_by_file, placed_by_file, signalled_by_file}
use Rattle.fr_base.specs.declared.actor.Actor.TheVariants.{Supplier}
use Rattle.fr_base.specs.declared.import.Header.{Header}
use Rattle.fr_base.specs.declared.import.Header.TheVariants.{Frames, Placements, Signals}
use Rattle.fr_base.specs.declared.import.Row.{Row}
use Rattle.fr_base.specs.declared.import.Row.TheVariants as row
use Rattle.fr_base.specs.declared.import.RowRead.{RowRead}
use Rattle.fr_base.specs.declared.name.Name.{Name}
use Rattle.fr_base.specs.declared.placement.Placement.{Placement}
use Rattle.fr_base.specs.declared.refusal.Refusal.{Refusal}
use Rattle.fr_base.specs.declared.request.Request.TheVariants.{Deliver}
use Rattle.fr_base.specs.declared.delivery.Purpose.TheVariants as purpose
use Rattle.fr_base.proofs.TableLaws.{equal, get-from_rows, none_above}
use Rattle.fr_base.proofs.SoundTables.{get-passing, same_key, same_some}
use Rattle.fr_base.proofs.SoundRows.{same_text-is}
use Rattle.fr_base.proofs.SoundSteps.{step-sound}
use Rattle.fr_base.proofs.AloneCells.{same_text-itself}
use Rattle.fr_base.proofs.LayoutLaws.{AllPairs-head, AllPairs-tail}
use Rattle.fr_base.proofs.ExportRows.{IsOwn, frames_as_rows, own-all, place_block, placements_as_rows, places_of, rows_found, rows_of_frames, signal_block, signals_as_rows}
use Rattle.fr_base.proofs.ReplacingLaws.{or_later}
use Rattle.fr_base.proofs.WholeFiles.{IsOfKind, body-kind}
use Rattle.fr_base.proofs.WholeFiled.{whole_is_filed}

-- ---- what is among others

module _ {X : Type 0} where
  among-left : (x : X) (xs ys : List X) → IsAmong x xs → IsAmong x (xs ++ ys)
  among-left x [] ys h = absurd h
  among-left x (z ∷ xs) ys (inl is) = inl is
  among-left x (z ∷ xs) ys (inr h) = inr (among-left x xs ys h)

  among-right : (x : X) (xs ys : List X) → IsAmong x ys → IsAmong x (xs ++ ys)
  among-right x [] ys h = h
  among-right x (z ∷ xs) ys h = inr (among-right x xs ys h)

  among-either : (x : X) (xs ys : List X) → IsAmong x (xs ++ ys) → IsAmong x xs ⊎ IsAmong x ys
  among-either x [] ys h = inr h
  among-either x (z ∷ xs) ys (inl is) = inl (inl is)
  among-either x (z ∷ xs) ys (inr h) = elim (among-either x xs ys h) [ inl one ↦ inl (inr one) | inr two ↦ inr two ]

  all-among : (P : X → Type 0) (xs : List X) (x : X) → AllByRecursion P xs → IsAmong x xs → P x
  all-among P [] x all h = absurd h
  all-among P (z ∷ xs) x all (inl is) = subst P is all.0
  all-among P (z ∷ xs) x all (inr h) = all-among P xs x all.1 h

  each-among : (P : X → Type 0) (xs : List X) (x : X) → All P xs → IsAmong x xs → P x
  each-among P [] x all h = absurd h
  each-among P (z ∷ xs) x all (inl is) = subst P is (All-head P z xs all)
  each-among P (z ∷ xs) x all (inr h) = each-among P xs x (All-tail P z xs all) h

  tested-among : (p : X → Bool) (xs : List X) (x : X) → list_all p xs ≡ true → IsAmong x xs → p x ≡ true
  tested-among p [] x all h = absurd h
  tested-among p (z ∷ xs) x all (inl is) = elim (cases_Bool (p z)) [ inl passes ↦ ap p (sym is) ∙ passes | inr fails ↦ let never = rw fails at all in cc ]
  tested-among p (z ∷ xs) x all (inr h) = elim (cases_Bool (p z)) [ inl passes ↦ tested-among p xs x (rw passes at all) h | inr fails ↦ let never = rw fails at all in cc ]

  pub tested-some : (p : X → Bool) (xs : List X) (x : X) → IsAmong x xs → p x ≡ true → list_any p xs ≡ true
  tested-some p [] x h passes = absurd h
  tested-some p (z ∷ xs) x (inl is) passes = ap (λ t. t || list_any p xs) (ap p is ∙ passes)
  tested-some p (z ∷ xs) x (inr h) passes = or_later (p z) (list_any p xs) (tested-some p xs x h passes)

  -- what is among joined lists, each of which has its things once, and none of the other's
  once-append : (xs ys : List X) → EachOnce xs → EachOnce ys → ((x : X) → IsAmong x xs → IsAmong x ys → ⊥) → EachOnce (xs ++ ys)
  once-append [] ys one two apart = two
  once-append (x ∷ xs) ys one two apart = (
    λ h. elim (among-either x xs ys h) [ inl again ↦ one.0 again | inr other ↦ apart x (inl refl) other ],
    once-append xs ys one.1 two (λ z a c. apart z (inr a) c),
  )

  -- things that differ in pairs stand there once
  once-apart : (R : X → X → Type 0) → ((x : X) → R x x → ⊥) → (xs : List X) → AllPairs R xs → EachOnce xs
  once-apart R never [] pairs = tt
  once-apart R never (x ∷ xs) pairs = (
    λ h. never x (each-among (R x) xs x (AllPairs-head R x xs pairs) h),
    once-apart R never xs (AllPairs-tail R x xs pairs),
  )

module _ {X Y : Type 0} (f : X → Y) where
  pub among-map : (x : X) (xs : List X) → IsAmong x xs → IsAmong (f x) (map f xs)
  among-map x [] h = absurd h
  among-map x (z ∷ xs) (inl is) = inl (ap f is)
  among-map x (z ∷ xs) (inr h) = inr (among-map x xs h)

  among-mapped : (y : Y) (xs : List X) → IsAmong y (map f xs) → (x : X) × IsAmong x xs × (f x ≡ y)
  among-mapped y [] h = absurd h
  among-mapped y (z ∷ xs) (inl is) = (z, inl refl, is)
  among-mapped y (z ∷ xs) (inr h) = let k = among-mapped y xs h in (k.0, inr k.1, k.2)

  once-map : ((x z : X) → f x ≡ f z → x ≡ z) → (xs : List X) → EachOnce xs → EachOnce (map f xs)
  once-map same [] once = tt
  once-map same (x ∷ xs) once = (
    λ h. let k = among-mapped (f x) xs h in once.0 (subst (λ z. IsAmong z xs) (same k.0 x k.2) k.1),
    once-map same xs once.1,
  )

module _ {X Y : Type 0} (f : X → List Y) where
  among-flat : (x : X) (y : Y) (xs : List X) → IsAmong x xs → IsAmong y (f x) → IsAmong y (flat_map f xs)
  among-flat x y [] h k = absurd h
  among-flat x y (z ∷ xs) (inl is) k = among-left y (f z) (flat_map f xs) (subst (λ w. IsAmong y (f w)) (sym is) k)
  among-flat x y (z ∷ xs) (inr h) k = among-right y (f z) (flat_map f xs) (among-flat x y xs h k)

  among-flattened : (y : Y) (xs : List X) → IsAmong y (flat_map f xs) → (x : X) × IsAmong x xs × IsAmong y (f x)
  among-flattened y [] h = absurd h
  among-flattened y (z ∷ xs) h = elim (among-either y (f z) (flat_map f xs) h) [
    | inl one ↦ (z, inl refl, one)
    | inr two ↦ let k = among-flattened y xs two in (k.0, inr k.1, k.2)
  ]

-- ---- entries of tables

module _ {K V : Type 0} (o : Order K) where
  -- what is found is an entry
  pub found-among : (k : K) (v : V) (es : List (K × V)) → find o.compare k es ≡ Some v → (e : K × V) × IsAmong e es × (e.0 ≡ k) × (e.1 ≡ v)
  found-among k v [] h = cc
  found-among k v (e ∷ es) h = elim (cases_Bool (eq_by_cmp o.compare k e.0)) [
    | inl tie ↦ (e, inl refl, sym (o.exact k e.0 (equal _ tie)), same_some e.1 v (rw tie at h))
    | inr other ↦ let more = found-among k v es (rw other at h) in (more.0, inr more.1, more.2, more.3)
  ]

  -- an entry's key is not that of one behind it
  behind-other : (e : K × V) (es : List (K × V)) → T (is_sorted o.compare (e ∷ es)) → (d : K × V) → IsAmong d es → d.0 ≡ e.0 → ⊥
  behind-other e es sorted d among same =
      let found : find o.compare d.0 es ≡ Some d.1 = all-among (λ d. find o.compare d.0 es ≡ Some d.1) es d (rows_found o es (second _ _ sorted)) among in
      let none : find o.compare e.0 es ≡ None = none_above o (λ j w. true) e.0 e.0 es (equal _ (same_key o e.0)) (first _ _ sorted) in
      let no : ◌≡◌ {A = Option V} None (Some d.1) = sym none ∙ ap (λ k. find o.compare k es) (sym same) ∙ found in cc

  -- the keys of a table stand there once
  keys-once : (es : List (K × V)) → T (is_sorted o.compare es) → EachOnce (map (λ e. e.0) es)
  keys-once [] sorted = tt
  keys-once (e ∷ es) sorted = (
    λ h. let k = among-mapped (λ d. d.0) e.0 es h in behind-other e es sorted k.0 k.1 k.2,
    keys-once es (second _ _ sorted),
  )

-- ---- placements of rows

-- one of the placements stands in the table of them
there-marked : (q : Placement) (qs : List Placement) → IsAmong q qs → find placement_order.compare q (map {B = Placement × ⊤} (λ r. (r, tt)) qs) ≡ Some tt
there-marked q [] h = absurd h
there-marked q (r ∷ qs) h = elim (cases_Bool (eq_by_cmp placement_order.compare q r)) [
  | inl tie ↦ rw tie refl
  | inr other ↦ rw other (there-marked q qs (later h other))
]
  where
    later : IsAmong q (r ∷ qs) → eq_by_cmp placement_order.compare q r ≡ false → IsAmong q qs
    later (inl is) other = absurd (true≢false (sym (same_key placement_order q) ∙ ap (eq_by_cmp placement_order.compare q) (sym is) ∙ other))
    later (inr h) other = h

-- what a table has at its places
module _ (t : Table placement_order ⊤) where
  held-among : (q : Placement) → get t q ≡ Some tt → IsAmong q (map (λ e. e.0) t.rows)
  unfolding get
  held-among q there =
      let k = found-among placement_order q tt t.rows there in
      subst (λ r. IsAmong r (map (λ e. e.0) t.rows)) k.2 (among-map (λ e. e.0) k.0 t.rows k.1)

  among-held : (q : Placement) → IsAmong q (map (λ e. e.0) t.rows) → get t q ≡ Some tt
  unfolding get
  among-held q h =
      let k = among-mapped (λ e. e.0) q t.rows h in
      ap (λ r. find placement_order.compare r t.rows) (sym k.2) ∙ all-among (λ e. find placement_order.compare e.0 t.rows ≡ Some e.1) t.rows k.0 (rows_found placement_order t.rows t.sorted) k.1

from-among : (q : Placement) (qs : List Placement) → IsAmong q qs → IsAmong q (map (λ e. e.0) (from_rows {o = placement_order} (map {B = Placement × ⊤} (λ r. (r, tt)) qs)).rows)
from-among q qs h = held-among (from_rows (map {B = Placement × ⊤} (λ r. (r, tt)) qs)) q (get-from_rows placement_order (map {B = Placement × ⊤} (λ r. (r, tt)) qs) q ∙ there-marked q qs h)

among-from : (q : Placement) (qs : List Placement) → IsAmong q (map (λ e. e.0) (from_rows {o = placement_order} (map {B = Placement × ⊤} (λ r. (r, tt)) qs)).rows) → IsAmong q qs
among-from q qs h =
    let there = among-held (from_rows (map {B = Placement × ⊤} (λ r. (r, tt)) qs)) q h in
    let k = found-among placement_order q tt (map {B = Placement × ⊤} (λ r. (r, tt)) qs) (sym (get-from_rows placement_order (map {B = Placement × ⊤} (λ r. (r, tt)) qs) q) ∙ there) in
    let m = among-mapped {Y = Placement × ⊤} (λ (r : Placement). (r, tt)) k.0 qs k.1 in
    subst (λ r. IsAmong r qs) (ap (λ (e : Placement × ⊤). e.0) m.2 ∙ k.2) m.1

-- ---- signals of rows

with-among : (x y : SignalData) (l : List SignalData) → IsAmong x (with_signal y l) → (y ≡ x) ⊎ IsAmong x l
with-among x y [] (inl is) = inl is
with-among x y [] (inr h) = absurd h
with-among x y (z ∷ l) h = elim (cases_Bool (nat_lt y.start z.start)) [
  | inl before ↦ first_of (rw before at h)
  | inr behind ↦ later_of (with-among x y l) (rw behind at h)
]
  where
    first_of : IsAmong x (y ∷ z ∷ l) → (y ≡ x) ⊎ IsAmong x (z ∷ l)
    first_of h = h

    later_of : (IsAmong x (with_signal y l) → (y ≡ x) ⊎ IsAmong x l) → IsAmong x (z ∷ with_signal y l) → (y ≡ x) ⊎ IsAmong x (z ∷ l)
    later_of next (inl is) = inr (inl is)
    later_of next (inr h) = elim (next h) [ inl is ↦ inl is | inr k ↦ inr (inr k) ]

with-new : (y : SignalData) (l : List SignalData) → IsAmong y (with_signal y l)
with-new y [] = inl refl
with-new y (z ∷ l) = elim (cases_Bool (nat_lt y.start z.start)) [
  | inl before ↦ rw before (inl refl)
  | inr behind ↦ rw behind (inr (with-new y l))
]

with-old : (x y : SignalData) (l : List SignalData) → IsAmong x l → IsAmong x (with_signal y l)
with-old x y [] h = absurd h
with-old x y (z ∷ l) h = elim (cases_Bool (nat_lt y.start z.start)) [
  | inl before ↦ rw before (inr h)
  | inr behind ↦ rw behind (moved (with-old x y l) h)
]
  where
    moved : (IsAmong x l → IsAmong x (with_signal y l)) → IsAmong x (z ∷ l) → IsAmong x (z ∷ with_signal y l)
    moved next (inl is) = inl is
    moved next (inr h) = inr (next h)

put-among : (x : SignalData) (xs l : List SignalData) → IsAmong x (put_in l xs) → IsAmong x l ⊎ IsAmong x xs
put-among x [] l h = inl h
put-among x (y ∷ xs) l h = elim (put-among x xs (with_signal y l) h) [
  | inl old ↦ elim (with-among x y l old) [ inl is ↦ inr (inl is) | inr k ↦ inl k ]
  | inr new ↦ inr (inr new)
]

put-old : (x : SignalData) (xs l : List SignalData) → IsAmong x l → IsAmong x (put_in l xs)
put-old x [] l h = h
put-old x (y ∷ xs) l h = put-old x xs (with_signal y l) (with-old x y l h)

put-new : (x : SignalData) (xs l : List SignalData) → IsAmong x xs → IsAmong x (put_in l xs)
put-new x [] l h = absurd h
put-new x (y ∷ xs) l (inl is) = put-old x xs (with_signal y l) (subst (λ z. IsAmong z (with_signal y l)) is (with-new y l))
put-new x (y ∷ xs) l (inr h) = put-new x xs (with_signal y l) h

-- ---- what rows bring

-- the rows of a file
abbrev rows_in : List RowRead → List (Result Row Refusal)
rows_in reads = map (λ read. read.row) reads

module _ {A : Type 0} (brings : Result Row Refusal → List A) where
  -- what is brought is brought by a row
  brought-among : (a : A) (reads : List RowRead) → IsAmong a (flat_map (λ read. brings read.row) reads) → (r : Result Row Refusal) × IsAmong r (rows_in reads) × IsAmong a (brings r)
  brought-among a reads h =
      let k = among-flattened (λ (read : RowRead). brings read.row) a reads h in
      (k.0.row, among-map (λ (read : RowRead). read.row) k.0 reads k.1, k.2)

  pub among-brought : (a : A) (r : Result Row Refusal) (reads : List RowRead) → IsAmong r (rows_in reads) → IsAmong a (brings r) → IsAmong a (flat_map (λ read. brings read.row) reads)
  among-brought a r reads h k =
      let m = among-mapped (λ (read : RowRead). read.row) r reads h in
      among-flat (λ (read : RowRead). brings read.row) m.0 a reads m.1 (subst (λ q. IsAmong a (brings q)) (sym m.2) k)

-- a row of a file is of its kind
kind-among : (kind : Header) (x : Row) (reads : List RowRead) → AllByRecursion (IsOfKind kind) reads → IsAmong (Ok x) (rows_in reads) → kind_of_row x ≡ kind
kind-among kind x [] all h = absurd h
kind-among kind x (read ∷ rest) all (inl is) = subst (λ (q : Result Row Refusal). IfOk q (λ r. kind_of_row r ≡ kind)) is all.0
kind-among kind x (read ∷ rest) all (inr h) = kind-among kind x rest all.1 h

-- a frame that a row names is named
named-among : (x : Row) (reads : List RowRead) → IsAmong (Ok x) (rows_in reads) → is_named (frame_of_row x) reads ≡ true
named-among x [] h = absurd h
named-among x (read ∷ rest) (inl is) =
    ap (λ r. names_frame (frame_of_row x) r || is_named (frame_of_row x) rest) is ∙ ap (λ t. t || is_named (frame_of_row x) rest) (same_text-itself (frame_of_row x))
named-among x (read ∷ rest) (inr h) = or_later (names_frame (frame_of_row x) read.row) _ (named-among x rest h)

pub if_named-itself : {A : Type 0} (f : Name) (a : A) → IsAmong a (if_named f f a)
if_named-itself f a = rw (same_text-itself f) (inl refl)

if_named-said : {A : Type 0} (f g : Name) (a x : A) → IsAmong a (if_named f g x) → (g ≡ f) × (x ≡ a)
if_named-said f g a x h = elim (cases_Bool (same_text g f)) [
  | inl same ↦ (same_text-is g f same, only_one (rw same at h))
  | inr other ↦ absurd (rw other at h)
]
  where
    only_one : IsAmong a (x ∷ []) → x ≡ a
    only_one (inl is) = is
    only_one (inr never) = absurd never

-- ---- the frames after a whole replacement, and its rows

module _ (s : Name) (frames : Table owned Frame) (kind : Header) (reads : List RowRead) (all : AllByRecursion (IsOfKind kind) reads) (before : Name → Option Frame)
    (made : (f : Name) → get frames (s, f) ≡ made_by_file kind reads f (before f))
    (nodes : (f : Name) → IsOfItsNode reads f (get frames (s, f)))
    (there : (f : Name) → is_named f reads ≡ true → is_some (get frames (s, f)) ≡ true) where
  abbrev es : List ((Name × Name) × Frame)
  es = (own s frames).rows

  -- an entry is a frame of the supplier
  entry-there : (e : (Name × Name) × Frame) → IsAmong e es → get frames (s, e.0.1) ≡ Some e.1
  entry-there e h =
      let own : IsOwn s frames e = all-among (IsOwn s frames) es e (own-all s frames) h in
      ap (λ t. get frames (t, e.0.1)) (sym (same_text-is e.0.0 s own.1)) ∙ own.0

  -- and each frame of the supplier is one
  there-entry : (f : Name) (w : Frame) → get frames (s, f) ≡ Some w → (e : (Name × Name) × Frame) × IsAmong e es × (e.0 ≡ (s, f)) × (e.1 ≡ w)
  unfolding get
  there-entry f w is = found-among owned (s, f) w es (get-passing owned (is_of s) frames (s, f) (same_text-itself s) ∙ is)

  some_there : (f : Name) → is_named f reads ≡ true → (w : Frame) × (get frames (s, f) ≡ Some w)
  some_there f named = by (get frames (s, f)) refl (there f named)
    where
      by : (o : Option Frame) → get frames (s, f) ≡ o → is_some o ≡ true → (w : Frame) × (get frames (s, f) ≡ Some w)
      by None is some = cc
      by (Some w) is some = (w, is)

  -- a node that rows name for a frame is that of the frame
  node-is : (f n : Name) (w : Frame) → get frames (s, f) ≡ Some w → IsAmong n (nodes_for f reads) → w.node ≡ n
  node-is f n w is h = same_text-is w.node n (tested-among (same_text w.node) (nodes_for f reads) n (nodes f w is) h)

module _ (s : Name) (frames : Table owned Frame) (reads : List RowRead) (before : Name → Option Frame) where
  -- ---- below the header of frames

  module _ (all : AllByRecursion (IsOfKind Frames) reads) (made : (f : Name) → get frames (s, f) ≡ made_by_file Frames reads f (before f))
      (nodes : (f : Name) → IsOfItsNode reads f (get frames (s, f))) (there : (f : Name) → is_named f reads ≡ true → is_some (get frames (s, f)) ≡ true) where
    said : (f : Name) (w : Frame) → get frames (s, f) ≡ Some w → IsAmong w.node (nodes_for f reads)
    said f w is = by (nodes_for f reads) refl (before f) (sym (made f) ∙ is)
      where
        by : (ns : List Name) → nodes_for f reads ≡ ns → (o : Option Frame) → frame_of_file (nodes_for f reads) o ≡ Some w → IsAmong w.node (nodes_for f reads)
        by [] none o h = let no : ◌≡◌ {A = Option Frame} None (Some w) = sym (ap (λ l. frame_of_file l o) none) ∙ h in cc
        by (n ∷ ns) some o h =
            let first_node : same_text w.node n ≡ true = tested-among (same_text w.node) (nodes_for f reads) n (nodes f w is) (subst (IsAmong n) (sym some) (inl refl)) in
            subst (IsAmong w.node) (sym some) (inl (sym (same_text-is w.node n first_node)))

    row-of_node : (f n : Name) (r : Result Row Refusal) → IfOk r (λ x. kind_of_row x ≡ Frames) → IsAmong n (node_for f r) → r ≡ Ok (row.AddFrame f n)
    row-of_node f n (Ok (row.AddFrame g m)) k h = let is = if_named-said f g n m h in λ i. Ok (row.AddFrame (is.0 i) (is.1 i))
    row-of_node f n (Ok (row.Place g m q)) k h = cc
    row-of_node f n (Ok (row.AddSignal g x)) k h = absurd h
    row-of_node f n (Err e) k h = absurd h

    read-kind : (r : Result Row Refusal) → IsAmong r (rows_in reads) → IfOk r (λ x. kind_of_row x ≡ Frames)
    read-kind r h =
        let m = among-mapped (λ (read : RowRead). read.row) r reads h in
        subst (λ q. IfOk q (λ x. kind_of_row x ≡ Frames)) m.2 (all-among (IsOfKind Frames) reads m.0 all m.1)

    frames-taken : (x : Row) → IsAmong x (rows_of_frames Frames (own s frames).rows) → IsAmong (Ok x) (rows_in reads)
    frames-taken x h =
        let m = among-mapped (λ (e : (Name × Name) × Frame). row.AddFrame e.0.1 e.1.node) x (own s frames).rows h in
        let e = m.0 in
        let k = brought-among (node_for e.0.1) e.1.node reads (said e.0.1 e.1 (entry-there s frames Frames reads all before made nodes there e m.1)) in
        subst (λ r. IsAmong r (rows_in reads)) (row-of_node e.0.1 e.1.node k.0 (read-kind k.0 k.1) k.2 ∙ ap Ok m.2) k.1

    frames-sent : (x : Row) → IsAmong (Ok x) (rows_in reads) → IsAmong x (rows_of_frames Frames (own s frames).rows)
    frames-sent (row.AddFrame f n) h =
        let w = some_there s frames Frames reads all before made nodes there f (named-among (row.AddFrame f n) reads h) in
        let e = there-entry s frames Frames reads all before made nodes there f w.0 w.1 in
        let node : w.0.node ≡ n = node-is s frames Frames reads all before made nodes there f n w.0 w.1 (among-brought (node_for f) n (Ok (row.AddFrame f n)) reads h (if_named-itself f n)) in
        subst (λ r. IsAmong r (rows_of_frames Frames (own s frames).rows)) (λ i. row.AddFrame (ap (λ (k : Name × Name). k.1) e.2 i) ((ap (λ (v : Frame). v.node) e.3 ∙ node) i))
        (among-map (λ (e : (Name × Name) × Frame). row.AddFrame e.0.1 e.1.node) e.0 (own s frames).rows e.1)
    frames-sent (row.Place f n q) h = let no = kind-among Frames (row.Place f n q) reads all h in cc
    frames-sent (row.AddSignal f x) h = let no = kind-among Frames (row.AddSignal f x) reads all h in cc

  -- ---- below the header of placements

  module _ (all : AllByRecursion (IsOfKind Placements) reads) (made : (f : Name) → get frames (s, f) ≡ made_by_file Placements reads f (before f))
      (nodes : (f : Name) → IsOfItsNode reads f (get frames (s, f))) (there : (f : Name) → is_named f reads ≡ true → is_some (get frames (s, f)) ≡ true) where
    -- the frame's placements are those of the rows
    placed-is : (f : Name) (w : Frame) → get frames (s, f) ≡ Some w → w.placements ≡ from_rows (map (λ q. (q, tt)) (placements_for f reads))
    placed-is f w is = by (nodes_for f reads) (before f) (sym (made f) ∙ is)
      where
        by : (ns : List Name) (o : Option Frame) → placed_by_file ns (placements_for f reads) o ≡ Some w → w.placements ≡ from_rows (map (λ q. (q, tt)) (placements_for f reads))
        by ns (Some frame) h = sym (ap had_placements h)
        by (n ∷ ns) None h = sym (ap had_placements h)
        by [] None h = cc

    row-of_place : (f : Name) (q : Placement) (r : Result Row Refusal) → IsAmong q (placement_for f r) → (n : Name) × (r ≡ Ok (row.Place f n q))
    row-of_place f q (Ok (row.AddFrame g m)) h = absurd h
    row-of_place f q (Ok (row.Place g m p)) h = let is = if_named-said f g q p h in (m, λ i. Ok (row.Place (is.0 i) m (is.1 i)))
    row-of_place f q (Ok (row.AddSignal g x)) h = absurd h
    row-of_place f q (Err e) h = absurd h

    places-taken : (x : Row) → IsAmong x (rows_of_frames Placements (own s frames).rows) → IsAmong (Ok x) (rows_in reads)
    places-taken x h =
        let m = among-flattened place_block x (own s frames).rows h in
        let e = m.0 in
        let f = e.0.1 in
        let k = among-mapped (row.Place f e.1.node) x (places_of e.1) m.2 in
        let is = entry-there s frames Placements reads all before made nodes there e m.1 in
        let q = k.0 in
        let sent = among-from q (placements_for f reads) (subst (λ (t : Table placement_order ⊤). IsAmong q (map (λ e. e.0) t.rows)) (placed-is f e.1 is) k.1) in
        let b = brought-among (placement_for f) q reads sent in
        let n = row-of_place f q b.0 b.2 in
        let here : IsAmong (Ok (row.Place f n.0 q)) (rows_in reads) = subst (λ r. IsAmong r (rows_in reads)) n.1 b.1 in
        let node : e.1.node ≡ n.0 = node-is s frames Placements reads all before made nodes there f n.0 e.1 is (among-brought (node_for f) n.0 (Ok (row.Place f n.0 q)) reads here (if_named-itself f n.0)) in
        subst (λ r. IsAmong (Ok r) (rows_in reads)) ((λ i. row.Place f (sym node i) q) ∙ k.2) here

    places-sent : (x : Row) → IsAmong (Ok x) (rows_in reads) → IsAmong x (rows_of_frames Placements (own s frames).rows)
    places-sent (row.Place f n q) h =
        let w = some_there s frames Placements reads all before made nodes there f (named-among (row.Place f n q) reads h) in
        let e = there-entry s frames Placements reads all before made nodes there f w.0 w.1 in
        let node : w.0.node ≡ n = node-is s frames Placements reads all before made nodes there f n w.0 w.1 (among-brought (node_for f) n (Ok (row.Place f n q)) reads h (if_named-itself f n)) in
        let held = from-among q (placements_for f reads) (among-brought (placement_for f) q (Ok (row.Place f n q)) reads h (if_named-itself f q)) in
        let placed : IsAmong q (places_of e.0.1) =
        subst (λ (v : Frame). IsAmong q (places_of v)) (sym e.3) (subst (λ (t : Table placement_order ⊤). IsAmong q (map (λ e. e.0) t.rows)) (sym (placed-is f w.0 w.1)) held) in
        among-flat place_block e.0 (row.Place f n q) (own s frames).rows e.1
        (subst (λ r. IsAmong r (place_block e.0)) (λ i. row.Place (ap (λ (k : Name × Name). k.1) e.2 i) ((ap (λ (v : Frame). v.node) e.3 ∙ node) i) q)
        (among-map (row.Place e.0.0.1 e.0.1.node) q (places_of e.0.1) placed))
    places-sent (row.AddFrame f n) h = let no = kind-among Placements (row.AddFrame f n) reads all h in cc
    places-sent (row.AddSignal f x) h = let no = kind-among Placements (row.AddSignal f x) reads all h in cc

  -- ---- below the header of signals

  module _ (all : AllByRecursion (IsOfKind Signals) reads) (made : (f : Name) → get frames (s, f) ≡ made_by_file Signals reads f (before f))
      (nodes : (f : Name) → IsOfItsNode reads f (get frames (s, f))) (there : (f : Name) → is_named f reads ≡ true → is_some (get frames (s, f)) ≡ true) where
    -- the frame's signals are those of the rows
    signed-is : (f : Name) (w : Frame) → get frames (s, f) ≡ Some w → w.signals ≡ put_in [] (signals_for f reads)
    signed-is f w is = by (before f) (sym (made f) ∙ is)
      where
        by : (o : Option Frame) → signalled_by_file (signals_for f reads) o ≡ Some w → w.signals ≡ put_in [] (signals_for f reads)
        by (Some frame) h = sym (ap had_signals h)
        by None h = cc

    row-of_sign : (f : Name) (x : SignalData) (r : Result Row Refusal) → IsAmong x (signal_for f r) → r ≡ Ok (row.AddSignal f x)
    row-of_sign f x (Ok (row.AddFrame g m)) h = absurd h
    row-of_sign f x (Ok (row.Place g m p)) h = absurd h
    row-of_sign f x (Ok (row.AddSignal g y)) h = let is = if_named-said f g x y h in λ i. Ok (row.AddSignal (is.0 i) (is.1 i))
    row-of_sign f x (Err e) h = absurd h

    put-sent : (x : SignalData) (xs : List SignalData) → IsAmong x (put_in [] xs) → IsAmong x xs
    put-sent x xs h = elim (put-among x xs [] h) [ inl none ↦ absurd none | inr sent ↦ sent ]

    signs-taken : (x : Row) → IsAmong x (rows_of_frames Signals (own s frames).rows) → IsAmong (Ok x) (rows_in reads)
    signs-taken x h =
        let m = among-flattened signal_block x (own s frames).rows h in
        let e = m.0 in
        let f = e.0.1 in
        let k = among-mapped (row.AddSignal f) x e.1.signals m.2 in
        let is = entry-there s frames Signals reads all before made nodes there e m.1 in
        let sent = put-sent k.0 (signals_for f reads) (subst (IsAmong k.0) (signed-is f e.1 is) k.1) in
        let b = brought-among (signal_for f) k.0 reads sent in
        subst (λ r. IsAmong r (rows_in reads)) (row-of_sign f k.0 b.0 b.2 ∙ ap Ok k.2) b.1

    signs-sent : (x : Row) → IsAmong (Ok x) (rows_in reads) → IsAmong x (rows_of_frames Signals (own s frames).rows)
    signs-sent (row.AddSignal f x) h =
        let w = some_there s frames Signals reads all before made nodes there f (named-among (row.AddSignal f x) reads h) in
        let e = there-entry s frames Signals reads all before made nodes there f w.0 w.1 in
        let sent = among-brought (signal_for f) x (Ok (row.AddSignal f x)) reads h (if_named-itself f x) in
        let held : IsAmong x e.0.1.signals = subst (λ (v : Frame). IsAmong x v.signals) (sym e.3) (subst (IsAmong x) (sym (signed-is f w.0 w.1)) (put-new x (signals_for f reads) [] sent)) in
        among-flat signal_block e.0 (row.AddSignal f x) (own s frames).rows e.1
        (subst (λ r. IsAmong r (signal_block e.0)) (λ i. row.AddSignal (ap (λ (k : Name × Name). k.1) e.2 i) x) (among-map (row.AddSignal e.0.0.1) x e.0.1.signals held))
    signs-sent (row.AddFrame f n) h = let no = kind-among Signals (row.AddFrame f n) reads all h in cc
    signs-sent (row.Place f n q) h = let no = kind-among Signals (row.Place f n q) reads all h in cc

-- ---- each once

abbrev Entry : Type 0
Entry = (Name × Name) × Frame

module _ (s : Name) (frames : Table owned Frame) (block : Entry → List Row) (named : (e : Entry) (x : Row) → IsAmong x (block e) → frame_of_row x ≡ e.0.1) where
  once-blocks : (es : List Entry) → T (is_sorted owned.compare es) → AllByRecursion (IsOwn s frames) es → AllByRecursion (λ e. EachOnce (block e)) es → EachOnce (flat_map block es)
  once-blocks [] sorted mine each = tt
  once-blocks (e ∷ es) sorted mine each =
      once-append (block e) (flat_map block es) each.0 (once-blocks es (second _ _ sorted) mine.1 each.1) (λ x here later.
      let k = among-flattened block x es later in
      let own : IsOwn s frames k.0 = all-among (IsOwn s frames) es k.0 mine.1 k.1 in
      let same : k.0.0 ≡ e.0 = λ i. ((same_text-is k.0.0.0 s own.1 ∙ sym (same_text-is e.0.0 s mine.0.1)) i, (sym (named k.0 x k.2) ∙ named e x here) i) in
      behind-other owned e es sorted k.0 k.1 same)

-- the rows of one frame
abbrev frame_block : Entry → List Row
frame_block e = row.AddFrame e.0.1 e.1.node ∷ []

block-frame : (e : Entry) (x : Row) → IsAmong x (frame_block e) → frame_of_row x ≡ e.0.1
block-frame e x (inl is) = ap frame_of_row (sym is)
block-frame e x (inr never) = absurd never

block-place : (e : Entry) (x : Row) → IsAmong x (place_block e) → frame_of_row x ≡ e.0.1
block-place e x h = let k = among-mapped (row.Place e.0.1 e.1.node) x (places_of e.1) h in ap frame_of_row (sym k.2)

block-signal : (e : Entry) (x : Row) → IsAmong x (signal_block e) → frame_of_row x ≡ e.0.1
block-signal e x h = let k = among-mapped (row.AddSignal e.0.1) x e.1.signals h in ap frame_of_row (sym k.2)

frames-flat : (es : List Entry) → rows_of_frames Frames es ≡ flat_map frame_block es
frames-flat [] = refl
frames-flat (e ∷ es) = ap (λ l. row.AddFrame e.0.1 e.1.node ∷ l) (frames-flat es)

all_of : (P : Entry → Type 0) → ((e : Entry) → P e) → (es : List Entry) → AllByRecursion P es
all_of P each [] = tt
all_of P each (e ∷ es) = (each e, all_of P each es)

all_from : (P Q : Entry → Type 0) → ((e : Entry) → P e → Q e) → (es : List Entry) → AllByRecursion P es → AllByRecursion Q es
all_from P Q more [] all = tt
all_from P Q more (e ∷ es) all = (more e all.0, all_from P Q more es all.1)

once-places : (e : Entry) → EachOnce (place_block e)
once-places e = once-map (row.Place e.0.1 e.1.node) (λ q r is. cc) (places_of e.1) (keys-once placement_order e.1.placements.rows e.1.placements.sorted)

once-signals : (e : Entry) → AllPairs (λ x y. x.name ≡ y.name → ⊥) e.1.signals → EachOnce (signal_block e)
once-signals e apart = once-map (row.AddSignal e.0.1) (λ x y is. cc) e.1.signals (once-apart (λ x y. x.name ≡ y.name → ⊥) (λ x never. never refl) e.1.signals apart)

module _ (s : Name) (frames : Table owned Frame) (apart : (k : Name × Name) (w : Frame) → get frames k ≡ Some w → AllPairs (λ x y. x.name ≡ y.name → ⊥) w.signals) where
  records-once : (kind : Header) → EachOnce (rows_of_frames kind (own s frames).rows)
  records-once Frames =
      subst EachOnce (sym (frames-flat (own s frames).rows))
      (once-blocks s frames frame_block block-frame (own s frames).rows (own s frames).sorted (own-all s frames) (all_of (λ e. EachOnce (frame_block e)) (λ e. (λ never. never, tt)) (own s frames).rows))
  records-once Placements =
      once-blocks s frames place_block block-place (own s frames).rows (own s frames).sorted (own-all s frames) (all_of (λ e. EachOnce (place_block e)) once-places (own s frames).rows)
  records-once Signals =
      once-blocks s frames signal_block block-signal (own s frames).rows (own s frames).sorted (own-all s frames)
      (all_from (IsOwn s frames) (λ e. EachOnce (signal_block e)) (λ e own. once-signals e (apart e.0 e.1 own.0)) (own s frames).rows (own-all s frames))

-- ---- the replacement

records_are : (kind : Header) (es : List Entry) → all_records kind es ≡ rows_of_frames kind es
records_are Frames es = frames_as_rows es
records_are Placements es = placements_as_rows es
records_are Signals es = signals_as_rows es

module _ (s : Name) (frames : Table owned Frame) (reads : List RowRead) (before : Name → Option Frame)
    (apart : (k : Name × Name) (w : Frame) → get frames k ≡ Some w → AllPairs (λ x y. x.name ≡ y.name → ⊥) w.signals)
    (nodes : (f : Name) → IsOfItsNode reads f (get frames (s, f))) (there : (f : Name) → is_named f reads ≡ true → is_some (get frames (s, f)) ≡ true) where
  abbrev taken_by : Header → Type 0
  taken_by kind = (x : Row) → IsAmong x (rows_of_frames kind (own s frames).rows) → IsAmong (Ok x) (rows_in reads)

  abbrev sent_by : Header → Type 0
  sent_by kind = (x : Row) → IsAmong (Ok x) (rows_in reads) → IsAmong x (rows_of_frames kind (own s frames).rows)

  both_ways : (kind : Header) → AllByRecursion (IsOfKind kind) reads → ((f : Name) → get frames (s, f) ≡ made_by_file kind reads f (before f)) → taken_by kind × sent_by kind
  both_ways Frames all made = (frames-taken s frames reads before all made nodes there, frames-sent s frames reads before all made nodes there)
  both_ways Placements all made = (places-taken s frames reads before all made nodes there, places-sent s frames reads before all made nodes there)
  both_ways Signals all made = (signs-taken s frames reads before all made nodes there, signs-sent s frames reads before all made nodes there)

  the_rows : (kind : Header) → AllByRecursion (IsOfKind kind) reads → ((f : Name) → get frames (s, f) ≡ made_by_file kind reads f (before f)) → AreTheRows kind reads (own s frames).rows
  the_rows kind all made =
      let both = both_ways kind all made in
      let are = records_are kind (own s frames).rows in
      record {
        taken = λ x h. both.0 x (subst (IsAmong x) are h);
        sent = λ x h. subst (IsAmong x) (sym are) (both.1 x h);
        once = subst EachOnce (sym are) (records-once s frames apart kind);
      }

pub taken_is_sent : TakenIsSent
taken_is_sent c b s variant body kind rows x sound told header found =
    let filed = whole_is_filed c b s variant body rows told in
    let reads : List RowRead = rows_of_body c.params body in
    let after : Book = (step c b (Supplier s) (Deliver variant (purpose.Replacement true) body)).book in
    let same : filed.2.0 ≡ kind = same_some _ _ (sym filed.2.1 ∙ header) in
    let at : (f : Name) → frame_at after s variant f ≡ get x.frames (s, f) = λ f. ap (option_and_then (λ (y : Variant). get y.frames (s, f))) found in
    the_rows s x.frames reads (frame_at b s variant)
    (λ k w is. (((step-sound c b sound (Supplier s) (Deliver variant (purpose.Replacement true) body)).variants variant x found).1.frames k w is).layout.names)
    (λ f. subst (IsOfItsNode reads f) (at f) (filed.2.2 f).1)
    (λ f named. ap is_some (sym (at f)) ∙ (filed.2.2 f).2 named)
    kind (body-kind c.params kind body header)
    (λ f. sym (at f) ∙ (filed.2.2 f).0 ∙ ap (λ h. made_by_file h reads f (frame_at b s variant f)) same)
