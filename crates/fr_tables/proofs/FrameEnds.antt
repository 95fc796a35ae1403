-- What the deletion of a frame does.
use Rattle.std.proofs.Common.{◌≡◌, ◌<◌, ◌≤◌, ◌==◌, lit≤, MatchBool, inl, inr, ℕ, ℤ, List, [], ◌∷◌, codes, map, filter, not, Bool, true, false, ◌&&◌, ◌||◌, bytes_eq, Ok, refl, sym, ap, subst, subst₂, ◌∙◌}
use Rattle.std.specs.Bool.{⊤}
use Rattle.std.specs.List.{AllByRecursion, list_all, list_any}
use Rattle.std.specs.List.Sorted.{IsPermutation}
use Rattle.std.proofs.lemmas.Bool.{cases_Bool, and_parts, false_from_ne_true}
use Rattle.std.proofs.lemmas.Slice.Eq.{bytes_eq-Decides}
use Rattle.sqlite_value.specs.Keys.{plain}
use Rattle.sqlite.specs.declared.types.Value.{Value}
use Rattle.sqlite.specs.declared.types.Value.TheVariants.{Int, Text}
use Rattle.sqlite.specs.Order.{Row}
use Rattle.sqlite.specs.Table.{Table}
use Rattle.sqlite.specs.Term.{Term, holds}
use Rattle.sqlite.specs.Tree.{Trees, rowid, has_rowid}
use Rattle.sqlite.specs.Edit.{id_in, edit_of, without_all}
use Rattle.sqlite.specs.Rowids.TheVariants.{Given}
use Rattle.sqlite.specs.Listing.{understood}
use Rattle.sqlite.specs.State.{State, Executes}
use Rattle.sqlite_rules.specs.Lists.{Has}
use Rattle.sqlite_rules.specs.Edit.{row_at, taken_by}
use Rattle.sqlite_rules.specs.Action.{pairs, is_child_of}
use Rattle.sqlite_rules.proofs.ListLemmas.{all_has, has_filtered, has_kept, some_has}
use Rattle.sqlite_rules.proofs.PlaceLemmas.{row_at_is}
use Rattle.sqlite_schema.specs.declared.schema.Among.TheVariants.{All}
use Rattle.sqlite_schema.specs.Rules.{agree, has_parent, is_among}
use Rattle.sqlite_tied.specs.Compute.{everything}
use Rattle.sqlite_tied.proofs.RuleLemmas.{and_true}
use Rattle.fr_tables.specs.Schema.{Layout, layout_of, register_schema, tables_at, frames, placements, signals}
use Rattle.fr_tables.specs.Rows.{FrameRow, of_register, register_in, of_cluster, cluster_in, of_supplier, supplier_in, of_node, node_in, of_variant, variant_in, of_grant, grant_in, of_frame, frame_in, of_placement, placement_in, of_signal, signal_in, of_import, import_in, of_dropped, of_cluster2, dropped_in, cluster2_in}
use Rattle.fr_tables.specs.Tables.{HasTables, AreKept}
use Rattle.fr_tables.specs.Changes.{Changes, tables_of}
use Rattle.fr_tables.specs.declared.frame_key.FrameKey.{FrameKey}
use Rattle.fr_tables.specs.Statements.{is_frame, without_frame}
use Rattle.fr_tables.proofs.Compared.{equals, equal_texts}
use Rattle.fr_tables.proofs.Written.{AreMade}
use Rattle.fr_tables.proofs.BehindLemmas.{last_of}
use Rattle.fr_tables.proofs.ChangeLemmas.{apart, same, others, whole}
use Rattle.fr_tables.proofs.TableOf.{Does, does}
use Rattle.fr_tables.proofs.DeleteLemmas.{Deletes, deleted, erased, erased_rows, filtered_rows, left_of, mapped_from, has_permuted, has_own_id, same_id}
use Rattle.fr_tables.proofs.CascadeLemmas.{frame_key, work, cascades}

-- ---- three texts

same_texts : (s t : List ℕ) → bytes_eq s t ≡ true → s ≡ t
same_texts s t = (bytes_eq-Decides s t).0

its_own : (s : List ℕ) → bytes_eq s s ≡ true
its_own s = (bytes_eq-Decides s s).1 refl

record AreThree (a b c x y z : List ℕ) : Type 0 where
  pub first : a ≡ x
  pub second : b ≡ y
  pub third : c ≡ z

are_three : (a b c x y z : List ℕ) → (bytes_eq a x && (bytes_eq b y && bytes_eq c z)) ≡ true → AreThree a b c x y z
are_three a b c x y z h =
    let one = and_parts _ _ h in
    let two = and_parts _ _ one.1 in
    record { first = same_texts a x one.0; second = same_texts b y two.0; third = same_texts c z two.1 }

three_are : (a b c x y z : List ℕ) → AreThree a b c x y z → (bytes_eq a x && (bytes_eq b y && bytes_eq c z)) ≡ true
three_are a b c x y z h = rw (h.first, h.second, h.third, its_own x, its_own y, its_own z)

-- ---- a row that refers to a frame

old_of : (olds : List Row) (move : Row × Row) → Has (pairs olds []) move → Has olds move.0
old_of [] move h = absurd h
old_of (old ∷ olds) move (inl same) = inl (ap (λ (m : Row × Row). m.0) same)
old_of (old ∷ olds) move (inr later) = inr (old_of olds move later)

-- a table whose rows begin with the key of their frame
record Children {X : Type 0} (columns : X → Row) (child : Table) (variant_of supplier_of frame_of : X → List ℕ) : Type 0 where
  pub agrees : (id other : Value) (f : FrameRow) (x : X)
      → agree plain frame_key (id ∷ of_frame f) frame_key (other ∷ columns x) ≡ (bytes_eq f.variant (variant_of x) && (bytes_eq f.supplier (supplier_of x) && bytes_eq f.name (frame_of x)))
  pub agrees_back : (id other : Value) (f : FrameRow) (x : X)
      → agree plain frame_key (other ∷ columns x) frame_key (id ∷ of_frame f) ≡ (bytes_eq (variant_of x) f.variant && (bytes_eq (supplier_of x) f.supplier && bytes_eq (frame_of x) f.name))
  pub parent_of : (l : Layout) (db : Trees) (id : Value) (x : X) → list_all (λ ref. not (is_among All ref) || has_parent (register_schema l).tables db (id ∷ columns x) ref) child.references ≡ true
      → list_any (λ parent. agree plain frame_key parent frame_key (id ∷ columns x)) (db 11) ≡ true

placements_refer : Children of_placement placements (λ p. p.variant) (λ p. p.supplier) (λ p. p.frame)
unfolding everything
placements_refer = record {
  agrees = λ id other f p. rw (equal_texts f.variant p.variant, equal_texts f.supplier p.supplier, equal_texts f.name p.frame, and_true);
  agrees_back = λ id other f p. rw (equal_texts p.variant f.variant, equal_texts p.supplier f.supplier, equal_texts p.frame f.name, and_true);
  parent_of = λ l db id p h. rw and_true at h;
}

signals_refer : Children of_signal signals (λ s. s.variant) (λ s. s.supplier) (λ s. s.frame)
unfolding everything
signals_refer = record {
  agrees = λ id other f s. rw (equal_texts f.variant s.variant, equal_texts f.supplier s.supplier, equal_texts f.name s.frame, and_true);
  agrees_back = λ id other f s. rw (equal_texts s.variant f.variant, equal_texts s.supplier f.supplier, equal_texts s.frame f.name, and_true);
  parent_of = λ l db id s h. rw and_true at h;
}

-- ---- the statement

abbrev delete_text : List ℕ
delete_text = codes "DELETE FROM frames WHERE variant = ?1 AND supplier = ?2 AND name = ?3"

abbrev tests : List Term
tests = equals 1 0 ∷ equals 2 1 ∷ equals 3 2 ∷ []

delete_is : (l : Layout) → Deletes (register_schema l) frames 6 delete_text tests
unfolding understood everything
delete_is l = record { is = refl; plain = (refl, refl) }

module _ (key : FrameKey) where
  abbrev params : Row
  params = Text key.variant ∷ Text key.supplier ∷ Text key.frame ∷ []

  abbrev test : Row → Bool
  test r = list_all (holds (params ∷ r ∷ [])) tests

  passes : (p : Value × FrameRow) → test (p.0 ∷ of_frame p.1) ≡ is_frame key p.1
  passes p = rw (equal_texts p.1.variant key.variant, equal_texts p.1.supplier key.supplier, equal_texts p.1.name key.frame, and_true)

  module _ {X : Type 0} (columns : X → Row) (read : Row → X) (child : Table) (variant_of supplier_of frame_of : X → List ℕ) (refer : Children columns child variant_of supplier_of frame_of) where
    abbrev is_of : X → Bool
    is_of x = bytes_eq (variant_of x) key.variant && (bytes_eq (supplier_of x) key.supplier && bytes_eq (frame_of x) key.frame)

    -- a child of one of the frames that are gone is of this frame
    child_is : (db : Trees) (found olds : List Row) (r : Row) → AreKept of_frame frame_in (db 11) → IsPermutation (filter test (db 11)) found
        → olds ≡ map (λ id. row_at (db 11) id) (map (λ r. id_in (rowid r)) found) → r ≡ rowid r ∷ columns (read r)
        → list_any (is_child_of (work child olds) r) (pairs olds []) ≡ true → is_of (read r) ≡ true
    child_is db found olds r kept same are typed is_child =
        let move = some_has (is_child_of (work child olds) r) (pairs olds []) is_child in
        let at = mapped_from _ (map (λ r. id_in (rowid r)) found) move.0.0 (subst (λ os. Has os move.0.0) are (old_of olds move.0 move.1)) in
        let from = mapped_from (λ r. id_in (rowid r)) found at.0 at.1 in
        let there = has_filtered test (db 11) from.0 (has_permuted (filter test (db 11)) found from.0 same from.1) in
        let frame = from.0 in
        let is : move.0.0 ≡ frame = at.2 ∙ row_at_is (db 11) at.0 frame kept.rise there.0 (ap (λ id. has_rowid id frame) from.2 ∙ has_own_id (db 11) frame kept.numbered there.0) in
        let written : frame ≡ rowid frame ∷ of_frame (frame_in frame) = all_has _ (db 11) frame kept.typed there.0 in
        let f = frame_in frame in
        let x = read r in
        let named : is_frame key f ≡ true = sym (ap test written ∙ passes (rowid frame, f)) ∙ there.1 in
        let agree_rows : agree plain frame_key r frame_key move.0.0 ≡ true = (and_parts _ _ move.2).1 in
        let agree_both : agree plain frame_key (rowid r ∷ columns x) frame_key (rowid frame ∷ of_frame f) ≡ true = subst₂ (λ a b. agree plain frame_key a frame_key b ≡ true) typed (is ∙ written) agree_rows in
        let a = are_three f.variant f.supplier f.name key.variant key.supplier key.frame named in
        let b = are_three (variant_of x) (supplier_of x) (frame_of x) f.variant f.supplier f.name (sym (refer.agrees_back (rowid frame) (rowid r) f x) ∙ agree_both) in
        three_are (variant_of x) (supplier_of x) (frame_of x) key.variant key.supplier key.frame (record { first = b.first ∙ a.first; second = b.second ∙ a.second; third = b.third ∙ a.third })

    -- no frame that is left has such a row
    orphan_not : (db : Trees) (left : List Row) (r : Row) → left ≡ filter (λ r. not (test r)) (db 11) → AreKept of_frame frame_in (db 11)
        → list_any (λ parent. agree plain frame_key parent frame_key (rowid r ∷ columns (read r))) left ≡ true → is_of (read r) ≡ true → ⊥
    orphan_not db left r is kept held placed =
        let parent = some_has _ left held in
        let there = has_filtered (λ r. not (test r)) (db 11) parent.0 (subst (λ rows. Has rows parent.0) is parent.1) in
        let written : parent.0 ≡ rowid parent.0 ∷ of_frame (frame_in parent.0) = all_has _ (db 11) parent.0 kept.typed there.0 in
        let f = frame_in parent.0 in
        let x = read r in
        let b = are_three f.variant f.supplier f.name (variant_of x) (supplier_of x) (frame_of x)
        (sym (refer.agrees (rowid parent.0) (rowid r) f x) ∙ subst (λ p. agree plain frame_key p frame_key (rowid r ∷ columns x) ≡ true) written parent.2) in
        let a = are_three (variant_of x) (supplier_of x) (frame_of x) key.variant key.supplier key.frame placed in
        let named = three_are f.variant f.supplier f.name key.variant key.supplier key.frame (record { first = b.first ∙ a.first; second = b.second ∙ a.second; third = b.third ∙ a.third }) in
        let tested : test parent.0 ≡ true = ap test written ∙ passes (rowid parent.0, f) ∙ named in
        let e = rw tested at there.1 in
        cc

    -- the rows of this frame are gone, and the others are as they were
    children_left : (l : Layout) (db next : Trees) (found olds before after : List Row) (ids : List ℤ) → AreKept of_frame frame_in (db 11) → IsPermutation (filter test (db 11)) found
        → olds ≡ map (λ id. row_at (db 11) id) (map (λ r. id_in (rowid r)) found) → next 11 ≡ filter (λ r. not (test r)) (db 11)
        → AreKept columns read before → after ≡ filter (λ r. not (list_any (λ id. has_rowid id r) ids)) before
        → ((id : ℤ) → Has ids id → (r : Row) × Has before r × (list_any (is_child_of (work child olds) r) (pairs olds []) ≡ true) × (rowid r ≡ Int id))
        → AllByRecursion (λ r. list_all (λ ref. not (is_among All ref) || has_parent (register_schema l).tables next r ref) child.references ≡ true) after
        → AreMade columns read after (filter (λ x. not (is_of x)) (map read before))
    children_left l db next found olds before after ids frames_kept same are frames_are kept left children refers =
        let is_child = λ (r : Row). list_any (λ id. has_rowid id r) ids in
        let child_in = λ (r : Row) (h : Has before r) (any : is_child r ≡ true).
        let id = some_has (λ id. has_rowid id r) ids any in
        let other = children id.0 id.1 in
        let one : r ≡ other.0 = same_id before r other.0 id.0 kept.rise h other.1 id.2 other.3 in
        let child_of : list_any (is_child_of (work child olds) r) (pairs olds []) ≡ true = ap (λ y. list_any (is_child_of (work child olds) y) (pairs olds [])) one ∙ other.2 in
        let is : is_of (read r) ≡ true = child_is db found olds r frames_kept same are (all_has _ before r kept.typed h) child_of in is in
        let other_in = λ (r : Row) (h : Has before r) (kept_row : is_child r ≡ false).
        let typed : r ≡ rowid r ∷ columns (read r) = all_has _ before r kept.typed h in
        let here : Has after r = subst (λ rows. Has rows r) (sym left) (has_kept (λ r. not (is_child r)) before r h (ap not kept_row)) in
        let refers_row = all_has _ after r refers here in
        let held = refer.parent_of l next (rowid r) (read r) (subst (λ y. list_all (λ ref. not (is_among All ref) || has_parent (register_schema l).tables next y ref) child.references ≡ true) typed refers_row) in
        let not_in : is_of (read r) ≡ false = false_from_ne_true _ (orphan_not db (next 11) r frames_are frames_kept held) in not_in in
        let each = λ (r : Row) (h : Has before r).
        let it : is_child r ≡ is_of (read r) = elim (cases_Bool (is_child r)) [ inl any ↦ any ∙ sym (child_in r h any) | inr none ↦ none ∙ sym (other_in r h none) ] in it in
        let rest = filtered_rows columns read is_child is_of before each kept in
        record { kept = subst (AreKept columns read) (sym left) rest.0; values_are = ap (map read) left ∙ rest.1 }

  -- the last table is another one
  unless : (l : Layout) (tree : ℕ) {P : Type 0} → 20 < l.cluster2 → tree ≤ 20 → MatchBool (l.cluster2 == tree) ⊤ P → P
  unless l tree after low h = rw (apart l.cluster2 tree after low) at h

  ends : (old new : State) (count : ℕ) → HasTables old.now → Executes delete_text params old new (Ok count) → Changes (without_frame key) old new
  ends old new count was h =
      let db = old.now.trees in
      let next = new.now.trees in
      let l = layout_of old.now.trees in
      let did = deleted (register_schema l) frames 6 refl delete_text tests (delete_is l) params old new count was.schema h in
      let gone = map (λ r. id_in (rowid r)) did.found in
      let c = cascades l db next gone did.writes in
      let mid = c.mid in
      let between = c.children.between in
      let s = c.children.of_signals in
      let p = c.children.of_placements in
      let k = others 11 db mid (tables_at l) c.others in
      let n = others 15 mid between (tables_at l) s.others in
      let m = others 13 between next (tables_at l) p.others in
      let frames_left = erased_rows of_frame frame_in test (is_frame key) (db 11) did.found passes was.frames did.same in
      let next_frames : next 11 ≡ mid 11 = m.1.1.1.1.1.1.0 ∙ n.1.1.1.1.1.1.0 in
      let frames_are : next 11 ≡ filter (λ r. not (test r)) (db 11) = next_frames ∙ c.frames_left ∙ erased test (db 11) did.found was.frames.rise was.frames.numbered did.same in
      let before13 : between 13 ≡ db 13 = n.1.1.1.1.1.1.1.0 ∙ k.1.1.1.1.1.1.1.0 in
      let before15 : mid 15 ≡ db 15 = k.1.1.1.1.1.1.1.1.0 in
      let left13 : next 13 ≡ filter (λ r. not (list_any (λ id. has_rowid id r) p.ids)) (db 13) = p.left ∙ ap (λ rows. without_all rows p.ids) before13 ∙ left_of p.ids (db 13) in
      let left15 : next 15 ≡ filter (λ r. not (list_any (λ id. has_rowid id r) s.ids)) (db 15) = m.1.1.1.1.1.1.1.1.0 ∙ s.left ∙ ap (λ rows. without_all rows s.ids) before15 ∙ left_of s.ids (db 15) in
      whole old new (without_frame key (tables_of old)) was did.still did.shown
      (same of_register register_in (db 0) (next 0) (m.0 ∙ n.0 ∙ k.0) was.register)
      (same of_cluster cluster_in (db 1) (next 1) (m.1.0 ∙ n.1.0 ∙ k.1.0) was.cluster)
      (same of_supplier supplier_in (db 2) (next 2) (m.1.1.0 ∙ n.1.1.0 ∙ k.1.1.0) was.suppliers)
      (same of_node node_in (db 5) (next 5) (m.1.1.1.0 ∙ n.1.1.1.0 ∙ k.1.1.1.0) was.nodes)
      (same of_variant variant_in (db 7) (next 7) (m.1.1.1.1.0 ∙ n.1.1.1.1.0 ∙ k.1.1.1.1.0) was.variants)
      (same of_grant grant_in (db 9) (next 9) (m.1.1.1.1.1.0 ∙ n.1.1.1.1.1.0 ∙ k.1.1.1.1.1.0) was.grants)
      (record { kept = subst (AreKept of_frame frame_in) (sym (next_frames ∙ c.frames_left)) frames_left.0; values_are = ap (map frame_in) (next_frames ∙ c.frames_left) ∙ frames_left.1 })
      (children_left of_placement placement_in placements _ _ _ placements_refer l db next did.found (taken_by db (edit_of db frames gone Given 0 [])) (db 13) (next 13) p.ids was.frames did.same refl frames_are was.placements left13
      (λ id there. let it = p.children id there in (it.0, subst (λ rows. Has rows it.0) before13 it.1, it.2, it.3)) did.refers.1.1.1.1.1.1.1.0)
      (children_left of_signal signal_in signals _ _ _ signals_refer l db next did.found (taken_by db (edit_of db frames gone Given 0 [])) (db 15) (next 15) s.ids was.frames did.same refl frames_are was.signals left15
      (λ id there. let it = s.children id there in (it.0, subst (λ rows. Has rows it.0) before15 it.1, it.2, it.3)) did.refers.1.1.1.1.1.1.1.1.0)
      (same of_import import_in (db 17) (next 17) (m.1.1.1.1.1.1.1.1.1.0 ∙ n.1.1.1.1.1.1.1.1.1.0 ∙ k.1.1.1.1.1.1.1.1.1.0) was.imports)
      (same of_dropped dropped_in (db 19) (next 19) (m.1.1.1.1.1.1.1.1.1.1.0 ∙ n.1.1.1.1.1.1.1.1.1.1.0 ∙ k.1.1.1.1.1.1.1.1.1.1.0) was.dropped)
      (same of_cluster2 cluster2_in (db l.cluster2) (next l.cluster2) (unless l 13 was.behind.0.0 (lit≤ tt) (last_of _ l m.1.1.1.1.1.1.1.1.1.1.1) ∙ unless l 15 was.behind.0.0 (lit≤ tt) (last_of _ l n.1.1.1.1.1.1.1.1.1.1.1) ∙ unless l 11 was.behind.0.0 (lit≤ tt) (last_of _ l k.1.1.1.1.1.1.1.1.1.1.1)) was.cluster2)
      (without_frame key) refl

  pub deletes : Does delete_text params (Changes (without_frame key))
  deletes = does delete_text params _ ends
