-- What the rows of a file make of a frame that they name, one row after another, and what it has before they act.
use Rattle.std.proofs.Common.{◌≡◌, Bool, true, false, not, ◌||◌, cond, List, [], ◌∷◌, ◌++◌, map, Option, Some, None, is_some, Result, Ok, Err, is_err, IfOk, IsTrue, refl, sym, ap, subst, ◌∙◌, inl, inr, true≢false}
use Rattle.std.specs.Prelude.{⊤}
use Rattle.std.specs.List.{AllByRecursion, list_all, list_any}
use Rattle.std.specs.Ordering.{eq_by_cmp}
use Rattle.std.specs.FinMap.Entries.{find}
use Rattle.std.proofs.lemmas.Bool.{cases_Bool, and_from}
use Rattle.fr_base.specs.Refusing.{◌>>=◌}
use Rattle.fr_base.specs.Tables.{Order, Table, Fate, Becomes, Gone, left_by, empty, get, insert, settle, remove, from_rows}
use Rattle.fr_base.specs.Keys.{owned, placement_order}
use Rattle.fr_base.specs.Names.{same_text}
use Rattle.fr_base.specs.Signals.{SignalData}
use Rattle.fr_base.specs.Layouts.{with_signal}
use Rattle.fr_base.specs.Book.{Frame, Variant, Book}
use Rattle.fr_base.specs.Brought.{node_for, placement_for, signal_for, nodes_for, placements_for, signals_for, node_or, had_placements, had_signals, placed_by, put_in, signalled_by}
use Rattle.fr_base.specs.ReplacingLaws.{names_frame, is_named}
use Rattle.fr_base.specs.ReplacedLaws.{IsAsFiled}
use Rattle.fr_base.specs.Step.{OwnRows, Shared, admits_frame, frame_after, frame_of_row, kind_of_row, freed, free_row, free_rows, shared_by}
use Rattle.fr_base.specs.declared.import.Row.{Row}
use Rattle.fr_base.specs.declared.import.Row.TheVariants as row
use Rattle.fr_base.specs.declared.import.RowRead.{RowRead}
use Rattle.fr_base.specs.declared.name.Name.{Name}
use Rattle.fr_base.specs.declared.params.Params.{Params}
use Rattle.fr_base.specs.declared.placement.Placement.{Placement}
use Rattle.fr_base.specs.declared.refusal.Refusal.{Refusal}
use Rattle.fr_base.specs.declared.request.FrameChange.{FrameChange}
use Rattle.fr_base.specs.declared.request.FrameChange.TheVariants.{Add, Drop, Place, Unplace, AddSignal, DropSignal}
use Rattle.fr_base.proofs.TableLaws.{get-insert, get-only, get-empty, get-from_rows, same_table, kept}
use Rattle.fr_base.proofs.SoundTables.{get-put, same_key, same_some}
use Rattle.fr_base.proofs.SoundRows.{same_text-is}
use Rattle.fr_base.proofs.SoundRefusing.{gives_or, gives_bind, gives_next, gives_unless, gives_when, gives_when_last, gives_bind_last}
use Rattle.fr_base.proofs.SoundImports.{at_line-gives}
use Rattle.fr_base.proofs.AloneCells.{same_text-itself}
use Rattle.fr_base.proofs.SettledRows.{settle-other, settle-here, other_frame}
use Rattle.fr_base.proofs.FrameRuns.{rows_at, change_in, framed_in, act_in, run_in}

-- ---- tables

-- the table with these placements too
abbrev pub insert_all : List Placement → Table placement_order ⊤ → Table placement_order ⊤
insert_all [] t = t
insert_all (q ∷ qs) t = insert_all qs (insert t q tt)

insert_all-append : (qs rs : List Placement) (t : Table placement_order ⊤) → insert_all (qs ++ rs) t ≡ insert_all rs (insert_all qs t)
insert_all-append [] rs t = refl
insert_all-append (q ∷ qs) rs t = insert_all-append qs rs (insert t q tt)

put_in-append : (xs ys signals : List SignalData) → put_in signals (xs ++ ys) ≡ put_in (put_in signals xs) ys
put_in-append [] ys signals = refl
put_in-append (x ∷ xs) ys signals = put_in-append xs ys (with_signal x signals)

-- what is there, or else what was
abbrev or_had : Option ⊤ → Option ⊤ → Option ⊤
or_had (Some x) had = Some x
or_had None had = had

get-insert_all : (qs : List Placement) (t : Table placement_order ⊤) (k : Placement) →
    get (insert_all qs t) k ≡ or_had (find placement_order.compare k (map (λ r. (r, tt)) qs)) (get t k)
get-insert_all [] t k = refl
get-insert_all (q ∷ qs) t k = get-insert_all qs (insert t q tt) k ∙ by (eq_by_cmp placement_order.compare k q) refl (find placement_order.compare k (map (λ r. (r, tt)) qs))
  where
    by : (b : Bool) → eq_by_cmp placement_order.compare k q ≡ b → (later : Option ⊤) →
        or_had later (get (insert t q tt) k) ≡ or_had (cond b (Some tt) later) (get t k)
    by true e (Some x) = refl
    by false e (Some x) = refl
    by true e None = get-insert t q tt k ∙ ap (λ b. cond b (Some tt) (get t k)) e
    by false e None = get-insert t q tt k ∙ ap (λ b. cond b (Some tt) (get t k)) e

or_nothing : (o : Option ⊤) → or_had o None ≡ o
or_nothing None = refl
or_nothing (Some x) = refl

-- placements that are put in one after another are the table of them
insert_all-rows : (qs : List Placement) → insert_all qs empty ≡ from_rows (map (λ r. (r, tt)) qs)
insert_all-rows qs = same_table _ _ (λ k.
    get-insert_all qs empty k
    ∙ ap (or_had (find placement_order.compare k (map (λ r. (r, tt)) qs))) (get-empty placement_order k)
    ∙ or_nothing (find placement_order.compare k (map (λ r. (r, tt)) qs))
    ∙ sym (get-from_rows placement_order (map (λ r. (r, tt)) qs) k))

-- ---- what rows make of a frame

abbrev pub node_of : Option Frame → Option Name
node_of (Some frame) = Some frame.node
node_of None = None

-- rows that bring these nodes, placements and signals make the one of the other
pub record Makes (named : Bool) (ns : List Name) (qs : List Placement) (xs : List SignalData) (o u : Option Frame) : Type 0 where
  pub there : IsTrue named → IsTrue (is_some u)
  pub node : node_or ns o ≡ node_of u
  pub nodes : AllByRecursion (λ n. node_of u ≡ Some n) ns
  pub placements : had_placements u ≡ insert_all qs (had_placements o)
  pub signals : had_signals u ≡ put_in (had_signals o) xs

node_same : (o : Option Frame) → node_or [] o ≡ node_of o
node_same None = refl
node_same (Some w) = refl

pub makes_same : (o u : Option Frame) → u ≡ o → Makes false [] [] [] o u
makes_same o u same = record {
  there = λ h. cc;
  node = node_same o ∙ ap node_of (sym same);
  nodes = tt;
  placements = ap had_placements same;
  signals = ap had_signals same;
}

node_stays : (ns : List Name) (o u : Option Frame) → node_or ns o ≡ node_of u → (n : Name) → node_of o ≡ Some n → node_of u ≡ Some n
node_stays ns None u e n h = cc
node_stays ns (Some w) u e n h = sym e ∙ h

some_node : (u : Option Frame) (n : Name) → node_of u ≡ Some n → is_some u ≡ true
some_node None n h = cc
some_node (Some w) n h = refl

some_stays : (ns : List Name) (o u : Option Frame) → node_or ns o ≡ node_of u → IsTrue (is_some o) → IsTrue (is_some u)
some_stays ns None u e h = cc
some_stays ns (Some w) u e h = some_node u w.node (sym e)

node_on : (ns ms : List Name) (o u w : Option Frame) → node_or ns o ≡ node_of u → node_or ms u ≡ node_of w → node_or (ns ++ ms) o ≡ node_of w
node_on ns ms (Some x) u w e h = sym (node_stays ms u w h x.node (sym e))
node_on (n ∷ ns) ms None u w e h = sym (node_stays ms u w h n (sym e))
node_on [] ms None None w e h = h
node_on [] ms None (Some x) w e h = cc

all_on : {X : Type 0} (P Q : X → Type 0) (xs ys : List X) → ((x : X) → P x → Q x) → AllByRecursion P xs → AllByRecursion Q ys → AllByRecursion Q (xs ++ ys)
all_on P Q [] ys more h k = k
all_on P Q (x ∷ xs) ys more h k = (more x h.0, all_on P Q xs ys more h.1 k)

-- one row after another
pub makes_on : (a b : Bool) (ns ms : List Name) (qs rs : List Placement) (xs ys : List SignalData) (o u w : Option Frame) →
    Makes a ns qs xs o u → Makes b ms rs ys u w → Makes (a || b) (ns ++ ms) (qs ++ rs) (xs ++ ys) o w
makes_on a b ns ms qs rs xs ys o u w one two = record {
  there = later a one.there;
  node = node_on ns ms o u w one.node two.node;
  nodes = all_on _ _ ns ms (λ n h. node_stays ms u w two.node n h) one.nodes two.nodes;
  placements = two.placements ∙ ap (insert_all rs) one.placements ∙ sym (insert_all-append qs rs (had_placements o));
  signals = two.signals ∙ ap (λ l. put_in l ys) one.signals ∙ sym (put_in-append xs ys (had_signals o));
}
  where
    later : (c : Bool) → (IsTrue c → IsTrue (is_some u)) → IsTrue (c || b) → IsTrue (is_some w)
    later true h k = some_stays ms u w two.node (h refl)
    later false h k = two.there k

-- ---- a change

-- what an accepted change finds at its frame
abbrev pub There : FrameChange → Option Frame → Type 0
There (Add n) o = o ≡ None
There (Place q) o = (g : Frame) × (o ≡ Some g)
There (AddSignal x) o = (g : Frame) × (o ≡ Some g)
There _ o = ⊤

none_there : (o : Option Frame) → is_some o ≡ false → o ≡ None
none_there None h = refl
none_there (Some w) h = cc

gives_all : {A E : Type 0} (P : Type 0) → P → (r : Result A E) → IfOk r (λ _. P)
gives_all P h (Ok x) = h
gives_all P h (Err e) = tt

module _ (rows : OwnRows) (shared : Shared) where
  pub admits-there : (what : FrameChange) (o : Option Frame) → IfOk (admits_frame rows shared o what) (λ _. There what o)
  unfolding admits_frame
  admits-there (Add n) o =
      gives_unless _ _ _ _ (λ _.
      gives_when _ _ _ _ (λ free.
      gives_when_last _ _ _ (λ _. none_there o free)))
  admits-there (Place q) o = gives_or _ o _ _ (λ g found. gives_all ((w : Frame) × (o ≡ Some w)) (g, found) _)
  admits-there (AddSignal x) o = gives_or _ o _ _ (λ g found. gives_all ((w : Frame) × (o ≡ Some w)) (g, found) _)
  admits-there Drop o = gives_all ⊤ tt _
  admits-there (Unplace q) o = gives_all ⊤ tt _
  admits-there (DropSignal x) o = gives_all ⊤ tt _

module _ (p : Params) (b : Book) (s v : Name) (y : Variant) where
  pub change-makes : (t : Table owned Frame) (f : Name) (what : FrameChange) → IfOk (change_in p b s v y t f what) (λ u. There what (get t (s, f)) × (u ≡ settle t (s, f) (frame_after what (get t (s, f)))))
  unfolding change_in
  change-makes t f what = gives_next _ _ _ _ (admits-there (rows_at p b s v y t) (shared_by y.grants t) what (get t (s, f))) (λ _ there. (there, refl))

  -- the other frames are as before
  change-others : (t u : Table owned Frame) (f g : Name) (what : FrameChange) → u ≡ settle t (s, f) (frame_after what (get t (s, f))) → same_text f g ≡ false → get u (s, g) ≡ get t (s, g)
  change-others t u f g what is other = ap (λ w. get w (s, g)) is ∙ settle-other t (s, f) (s, g) _ (other_frame s f g other)

  -- the frame is what became of it
  change-frame : (t u : Table owned Frame) (f g : Name) (what : FrameChange) → u ≡ settle t (s, f) (frame_after what (get t (s, f))) → same_text f g ≡ true → get u (s, g) ≡ left_by (frame_after what (get t (s, g)))
  change-frame t u f g what is same =
      let one : f ≡ g = same_text-is f g same in
      ap (λ h. get u (s, h)) (sym one) ∙ ap (λ w. get w (s, f)) is ∙ settle-here t (s, f) _ ∙ ap (λ h. left_by (frame_after what (get t (s, h)))) one

  -- what becomes of the frames of other names, and of the frame that is named
  record Turns (f : Name) (ns : List Name) (qs : List Placement) (xs : List SignalData) (t u : Table owned Frame) : Type 0 where
    others : (g : Name) → same_text f g ≡ false → get u (s, g) ≡ get t (s, g)
    mine : (g : Name) → same_text f g ≡ true → Makes true ns qs xs (get t (s, g)) (get u (s, g))

  between : (named : Bool) (ns : List Name) (qs : List Placement) (xs : List SignalData) (o u a c : Option Frame) → o ≡ a → u ≡ c → Makes named ns qs xs a c → Makes named ns qs xs o u
  between named ns qs xs o u a c e h = subst (λ (z : Option Frame × Option Frame). Makes named ns qs xs z.0 z.1) (λ i. (sym e i, sym h i))

  added-turns : (t : Table owned Frame) (f n : Name) → IfOk (change_in p b s v y t f (Add n)) (Turns f (n ∷ []) [] [] t)
  unfolding frame_after
  added-turns t f n = gives_bind_last _ (λ u. There (Add n) (get t (s, f)) × (u ≡ settle t (s, f) (frame_after (Add n) (get t (s, f))))) _ (change-makes t f (Add n)) (λ u made. record {
    others = λ g other. change-others t u f g (Add n) made.1 other;
    mine = λ g same.
        between true (n ∷ []) [] [] _ _ None _ (ap (λ h. get t (s, h)) (sym (same_text-is f g same)) ∙ made.0) (change-frame t u f g (Add n) made.1 same) (record {
          there = λ h. refl;
          node = refl;
          nodes = (refl, tt);
          placements = refl;
          signals = refl;
        });
  })

  framed-turns : (t : Table owned Frame) (f n : Name) (there : Option Frame) → get t (s, f) ≡ there → IfOk (framed_in p b s v y t f n there) (Turns f (n ∷ []) [] [] t)
  unfolding framed_in
  framed-turns t f n None is = added-turns t f n
  framed-turns t f n (Some w) is = gives_unless _ _ (same_text w.node n) _ (λ same_node. record {
    others = λ g other. refl;
    mine = λ g same.
        let here : get t (s, g) ≡ Some w = ap (λ h. get t (s, h)) (sym (same_text-is f g same)) ∙ is in
        between true (n ∷ []) [] [] _ _ (Some w) (Some w) here here (record {
          there = λ h. refl;
          node = refl;
          nodes = (ap Some (same_text-is w.node n same_node), tt);
          placements = refl;
          signals = refl;
        });
  })

  placed-turns : (t : Table owned Frame) (f : Name) (q : Placement) → IfOk (change_in p b s v y t f (Place q)) (Turns f [] (q ∷ []) [] t)
  unfolding frame_after
  placed-turns t f q = gives_bind_last _ (λ u. There (Place q) (get t (s, f)) × (u ≡ settle t (s, f) (frame_after (Place q) (get t (s, f))))) _ (change-makes t f (Place q)) (λ u made. record {
    others = λ g other. change-others t u f g (Place q) made.1 other;
    mine = λ g same.
        let w : Frame = made.0.0 in
        let here : get t (s, g) ≡ Some w = ap (λ h. get t (s, h)) (sym (same_text-is f g same)) ∙ made.0.1 in
        between true [] (q ∷ []) [] _ _ (Some w) (Some (record w { placements = insert w.placements q tt })) here
        (change-frame t u f g (Place q) made.1 same ∙ ap (λ o. left_by (frame_after (Place q) o)) here) (record {
          there = λ h. refl;
          node = refl;
          nodes = tt;
          placements = refl;
          signals = refl;
        });
  })

  signalled-turns : (t : Table owned Frame) (f : Name) (x : SignalData) → IfOk (change_in p b s v y t f (AddSignal x)) (Turns f [] [] (x ∷ []) t)
  unfolding frame_after
  signalled-turns t f x = gives_bind_last _ (λ u. There (AddSignal x) (get t (s, f)) × (u ≡ settle t (s, f) (frame_after (AddSignal x) (get t (s, f))))) _ (change-makes t f (AddSignal x)) (λ u made. record {
    others = λ g other. change-others t u f g (AddSignal x) made.1 other;
    mine = λ g same.
        let w : Frame = made.0.0 in
        let here : get t (s, g) ≡ Some w = ap (λ h. get t (s, h)) (sym (same_text-is f g same)) ∙ made.0.1 in
        between true [] [] (x ∷ []) _ _ (Some w) (Some (record w { signals = with_signal x w.signals })) here
        (change-frame t u f g (AddSignal x) made.1 same ∙ ap (λ o. left_by (frame_after (AddSignal x) o)) here) (record {
          there = λ h. refl;
          node = refl;
          nodes = tt;
          placements = refl;
          signals = refl;
        });
  })

  turns_on : (f n : Name) (q : Placement) (t u w : Table owned Frame) → Turns f (n ∷ []) [] [] t u → Turns f [] (q ∷ []) [] u w → Turns f (n ∷ []) (q ∷ []) [] t w
  turns_on f n q t u w one two = record {
    others = λ g other. two.others g other ∙ one.others g other;
    mine = λ g same. makes_on true true (n ∷ []) [] [] (q ∷ []) [] [] _ _ _ (one.mine g same) (two.mine g same);
  }

  -- ---- rows

  -- what a row makes of a frame, which it may name
  abbrev RowMakes : Name → Result Row Refusal → Table owned Frame → Table owned Frame → Type 0
  RowMakes f r t u = Makes (names_frame f r) (node_for f r) (placement_for f r) (signal_for f r) (get t (s, f)) (get u (s, f))

  -- the rows of a replacement
  row-makes : (t : Table owned Frame) (r : Row) → IfOk (act_in p b s v y true t r) (λ u. (f : Name) → RowMakes f (Ok r) t u)
  unfolding act_in
  row-makes t (row.AddFrame g n) =
      gives_unless _ _ _ _ (λ _.
      gives_bind_last _ (Turns g (n ∷ []) [] [] t) _ (framed-turns t g n (get t (s, g)) refl) (λ u made f.
      elim (cases_Bool (same_text g f)) [
        | inl same ↦ rw same (made.mine f same)
        | inr other ↦ rw other (makes_same _ _ (made.others f other))
      ]))
  row-makes t (row.Place g n q) =
      gives_unless _ _ _ _ (λ _.
      gives_bind _ (Turns g (n ∷ []) [] [] t) _ _ (framed-turns t g n (get t (s, g)) refl) (λ u one.
      gives_bind_last _ (Turns g [] (q ∷ []) [] u) _ (placed-turns u g q) (λ w two f.
      let made = turns_on g n q t u w one two in
      elim (cases_Bool (same_text g f)) [
        | inl same ↦ rw same (made.mine f same)
        | inr other ↦ rw other (makes_same _ _ (made.others f other))
      ])))
  row-makes t (row.AddSignal g x) =
      gives_bind_last _ (Turns g [] [] (x ∷ []) t) _ (signalled-turns t g x) (λ u made f.
      elim (cases_Bool (same_text g f)) [
        | inl same ↦ rw same (made.mine f same)
        | inr other ↦ rw other (makes_same _ _ (made.others f other))
      ])

  read-makes : (t : Table owned Frame) (r : Result Row Refusal) → IfOk (r >>= act_in p b s v y true t) (λ u. (is_err r ≡ false) × ((f : Name) → RowMakes f r t u))
  unfolding ◌>>=◌
  read-makes t (Ok r) = gives_bind_last _ (λ u. (f : Name) → RowMakes f (Ok r) t u) _ (row-makes t r) (λ u made. (refl, made))
  read-makes t (Err e) = tt

  -- what rows make of a frame
  abbrev pub RowsMake : Name → List RowRead → Table owned Frame → Table owned Frame → Type 0
  RowsMake f reads t u = Makes (is_named f reads) (nodes_for f reads) (placements_for f reads) (signals_for f reads) (get t (s, f)) (get u (s, f))

  pub rows-make : (reads : List RowRead) (t : Table owned Frame) → IfOk (run_in p b s v y true t reads) (λ u. (list_any (λ read. is_err read.row) reads ≡ false) × ((f : Name) → RowsMake f reads t u))
  unfolding run_in
  rows-make [] t = (refl, λ f. makes_same _ _ refl)
  rows-make (read ∷ rest) t =
      gives_bind _ (λ u. (is_err read.row ≡ false) × ((f : Name) → RowMakes f read.row t u)) _ _ (at_line-gives _ read.line _ (read-makes t read.row)) (λ u one.
      gives_bind_last _ (λ w. (list_any (λ r. is_err r.row) rest ≡ false) × ((f : Name) → RowsMake f rest u w)) _ (rows-make rest u) (λ w two. (
        ap (λ e. e || list_any (λ r. is_err r.row) rest) one.0 ∙ two.0,
        λ f. makes_on (names_frame f read.row) (is_named f rest) (node_for f read.row) (nodes_for f rest) (placement_for f read.row) (placements_for f rest) (signal_for f read.row) (signals_for f rest) _ _ _ (one.1 f) (two.1 f),
      )))

-- ---- what a frame has before the rows act

-- nothing, where something is brought
abbrev pub unless_brought : {A B : Type 0} → List A → B → B → B
unless_brought [] none had = had
unless_brought (x ∷ xs) none had = none

unless-append : {A B : Type 0} (xs ys : List A) (none had : B) → unless_brought (xs ++ ys) none had ≡ unless_brought ys none (unless_brought xs none had)
unless-append [] ys none had = refl
unless-append (x ∷ xs) [] none had = refl
unless-append (x ∷ xs) (y ∷ ys) none had = refl

-- it is of its node; it has no placements where rows bring some, and no signals where they bring some
pub record Frees (qs : List Placement) (xs : List SignalData) (o u : Option Frame) : Type 0 where
  pub node : node_of u ≡ node_of o
  pub placements : had_placements u ≡ unless_brought qs empty (had_placements o)
  pub signals : had_signals u ≡ unless_brought xs [] (had_signals o)

frees_same : (o u : Option Frame) → u ≡ o → Frees [] [] o u
frees_same o u same = record { node = ap node_of same; placements = ap had_placements same; signals = ap had_signals same }

frees_on : (qs rs : List Placement) (xs ys : List SignalData) (o u w : Option Frame) → Frees qs xs o u → Frees rs ys u w → Frees (qs ++ rs) (xs ++ ys) o w
frees_on qs rs xs ys o u w one two = record {
  node = two.node ∙ one.node;
  placements = two.placements ∙ ap (unless_brought rs empty) one.placements ∙ sym (unless-append qs rs empty (had_placements o));
  signals = two.signals ∙ ap (unless_brought ys []) one.signals ∙ sym (unless-append xs ys [] (had_signals o));
}

freed-frees : (f : Name) (r : Row) (o : Option Frame) → same_text (frame_of_row r) f ≡ true → Frees (placement_for f (Ok r)) (signal_for f (Ok r)) o (left_by (freed (kind_of_row r) o))
unfolding freed
freed-frees f (row.AddFrame g n) None same = record { node = refl; placements = refl; signals = refl }
freed-frees f (row.AddFrame g n) (Some w) same = record { node = refl; placements = refl; signals = refl }
freed-frees f (row.Place g n q) None same = rw same (record { node = refl; placements = refl; signals = refl })
freed-frees f (row.Place g n q) (Some w) same = rw same (record { node = refl; placements = refl; signals = refl })
freed-frees f (row.AddSignal g x) None same = rw same (record { node = refl; placements = refl; signals = refl })
freed-frees f (row.AddSignal g x) (Some w) same = rw same (record { node = refl; placements = refl; signals = refl })

freed_other : (f : Name) (r : Row) (o u : Option Frame) → same_text (frame_of_row r) f ≡ false → u ≡ o → Frees (placement_for f (Ok r)) (signal_for f (Ok r)) o u
freed_other f (row.AddFrame g n) o u other same = frees_same o u same
freed_other f (row.Place g n q) o u other same = rw other (frees_same o u same)
freed_other f (row.AddSignal g x) o u other same = rw other (frees_same o u same)

module _ (s f : Name) where
  free_row-frees : (r : Result Row Refusal) (t : Table owned Frame) → Frees (placement_for f r) (signal_for f r) (get t (s, f)) (get (free_row s r t) (s, f))
  unfolding free_row
  free_row-frees (Ok r) t = elim (cases_Bool (same_text (frame_of_row r) f)) [
    | inl same ↦
        let one : frame_of_row r ≡ f = same_text-is (frame_of_row r) f same in
        subst (Frees (placement_for f (Ok r)) (signal_for f (Ok r)) (get t (s, f)))
        (sym (ap (λ h. get (settle t (s, h) (freed (kind_of_row r) (get t (s, h)))) (s, f)) one ∙ settle-here t (s, f) (freed (kind_of_row r) (get t (s, f)))))
        (freed-frees f r (get t (s, f)) same)
    | inr other ↦ freed_other f r _ _ other (settle-other t (s, frame_of_row r) (s, f) (freed (kind_of_row r) (get t (s, frame_of_row r))) (other_frame s (frame_of_row r) f other))
  ]
  free_row-frees (Err e) t = frees_same _ _ refl

  pub free_rows-free : (reads : List RowRead) (t : Table owned Frame) → Frees (placements_for f reads) (signals_for f reads) (get t (s, f)) (get (free_rows s reads t) (s, f))
  unfolding free_rows
  free_rows-free [] t = frees_same _ _ refl
  free_rows-free (read ∷ rest) t =
      frees_on (placement_for f read.row) (placements_for f rest) (signal_for f read.row) (signals_for f rest) _ _ _ (free_row-frees read.row t) (free_rows-free rest (free_row s read.row t))

-- ---- both together

node_or-alike : (ns : List Name) (o u : Option Frame) → node_of u ≡ node_of o → node_or ns u ≡ node_or ns o
node_or-alike ns None None e = refl
node_or-alike ns None (Some w) e = cc
node_or-alike ns (Some w) None e = cc
node_or-alike ns (Some w) (Some x) e = e

all_same : (n : Name) (ns : List Name) → AllByRecursion (λ m. ◌≡◌ {A = Option Name} (Some n) (Some m)) ns → IsTrue (list_all (same_text n) ns)
all_same n [] h = refl
all_same n (m ∷ ns) h = and_from _ _ (ap (same_text n) (sym (same_some n m h.0)) ∙ same_text-itself n) (all_same n ns h.1)

put_or : (qs : List Placement) (had : Table placement_order ⊤) → insert_all qs (unless_brought qs empty had) ≡ placed_by qs had
put_or [] had = refl
put_or (q ∷ qs) had = insert_all-rows (q ∷ qs)

put_in_or : (xs had : List SignalData) → put_in (unless_brought xs [] had) xs ≡ signalled_by xs had
put_in_or [] had = refl
put_in_or (x ∷ xs) had = refl

some_value : {A : Type 0} (o : Option A) → IsTrue (is_some o) → (x : A) × (o ≡ Some x)
some_value None h = cc
some_value (Some x) h = (x, refl)

-- a frame that rows freed and then named is as they say
pub filed : (reads : List RowRead) (f : Name) (o u w : Option Frame) → IsTrue (is_named f reads) → Frees (placements_for f reads) (signals_for f reads) o u →
    Makes (is_named f reads) (nodes_for f reads) (placements_for f reads) (signals_for f reads) u w → (y : Frame) × (w ≡ Some y) × IsAsFiled reads f o y
filed reads f o u w named frees makes =
    let y = some_value w (makes.there named) in (
      y.0,
      y.1,
      record {
        node = sym (node_or-alike (nodes_for f reads) o u frees.node) ∙ makes.node ∙ ap node_of y.1;
        one_node = all_same y.0.node (nodes_for f reads) (subst (λ (z : Option Frame). AllByRecursion (λ n. node_of z ≡ Some n) (nodes_for f reads)) y.1 makes.nodes);
        placements = ap had_placements (sym y.1) ∙ makes.placements ∙ ap (insert_all (placements_for f reads)) frees.placements ∙ put_or (placements_for f reads) (had_placements o);
        signals = ap had_signals (sym y.1) ∙ makes.signals ∙ ap (λ l. put_in l (signals_for f reads)) frees.signals ∙ put_in_or (signals_for f reads) (had_signals o);
      },
    )
