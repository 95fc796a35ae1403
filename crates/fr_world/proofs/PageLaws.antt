-- A supplier's rows of a register: they stand for the register's page, and in a sound book they are a page's.
use Rattle.std.proofs.Common.{◌≡◌, ℕ, Bool, true, false, cond, List, [], ◌∷◌, map, filter, All, Option, Some, None, IsTrue, refl, sym, ap, subst, ◌∙◌, inl, inr, Ordering, Less, Equal, Greater}
use Rattle.std.specs.Prelude.{T}
use Rattle.std.specs.FinMap.Entries.{below_all, is_sorted}
use Rattle.std.specs.List.{AllByRecursion}
use Rattle.std.specs.List.Sorted.{IsStrictlySortedBy}
use Rattle.std.specs.Map.{keys_of}
use Rattle.std.specs.Ordering.{is_lt}
use Rattle.std.proofs.lemmas.Simd.{map-map}
use Rattle.std.proofs.lemmas.Bool.{cases_Bool, and_parts}
use Rattle.fr_base.specs.TableRows.{first, second}
use Rattle.fr_base.specs.Tables.{Order, Table, get, only, from_rows}
use Rattle.fr_base.specs.Keys.{names, owned, channel_slots, placement_order}
use Rattle.fr_base.specs.Channels.{channels_in}
use Rattle.fr_base.specs.Cluster.{Cluster}
use Rattle.fr_base.specs.Book.{Frame, Holder, Variant, Book, held_by, held_by_node, granted}
use Rattle.fr_base.specs.Queries.{placements_in}
use Rattle.fr_base.specs.Book.{is_of}
use Rattle.fr_base.specs.Step.{own_rows, layout_of}
use Rattle.fr_base.specs.Sound.{FitsCluster, IsSoundVariant, IsSound}
use Rattle.fr_base.specs.declared.channel.Channel.{Channel}
use Rattle.fr_base.specs.declared.name.Name.{Name}
use Rattle.fr_base.specs.declared.params.Params.{Params}
use Rattle.fr_base.specs.declared.placement.Placement.{Placement}
use Rattle.fr_base.proofs.TableLaws.{same_rows, rows-from_rows, get-only, kept}
use Rattle.fr_base.proofs.SoundTables.{only-stood}
use Rattle.fr_base.proofs.SoundRows.{same_text-is, all_more}
use Rattle.fr_world.specs.Maps.{table_of, set_of}
use Rattle.fr_world.specs.Pages.{FrameData, IsInOrder, compare_slots, frame_of, holder_of, own_rows_of, IsPageFrame, IsPage, IsKept, nodes_in, grants_in, frames_in, page_in}
use Rattle.fr_world.proofs.KeyLaws.{own_alike}
use Rattle.fr_world.proofs.AmongLaws.{In, map-In}
use Rattle.fr_world.proofs.ApartLaws.{In-All, contained-all, none_shared-pairs}

-- ---- rows there and back

-- the table of a table's rows is that table
from_rows-same : {K V : Type 0} (o : Order K) (t : Table o V) (es : List (K × V)) → es ≡ t.rows → from_rows {o = o} es ≡ t
from_rows-same o t es e = same_rows _ _ (rows-from_rows o es (subst (λ rows. T (is_sorted o.compare rows)) (sym e) t.sorted) ∙ e)

-- what is the same there and back
there_and_back : {X Y : Type 0} (to : X → Y) (back : Y → X) (xs : List X) → ((x : X) → In x xs → back (to x) ≡ x) → map back (map to xs) ≡ xs
there_and_back to back [] same = refl
there_and_back to back (x ∷ xs) same = λ i. same x (inl refl) i ∷ there_and_back to back xs (λ y j. same y (inr j)) i

-- what is left passes the test, and stood there before
filter-In : {X : Type 0} (p : X → Bool) (x : X) (xs : List X) → In x (filter p xs) → IsTrue (p x) × In x xs
filter-In p x [] i = absurd i
filter-In p x (y ∷ ys) i = by_test (p y) refl i (filter-In p x ys)
  where
    by_test : (b : Bool) → p y ≡ b → In x (cond b (y ∷ filter p ys) (filter p ys)) → (In x (filter p ys) → IsTrue (p x) × In x ys) → IsTrue (p x) × In x (y ∷ ys)
    by_test true e (inl same) later = (ap p (sym same) ∙ e, inl same)
    by_test true e (inr j) later = ((later j).0, inr (later j).1)
    by_test false e j later = ((later j).0, inr (later j).1)

-- the table of rows that were made of those that pass a test
only-back : {K V Y : Type 0} (o : Order K) (p : K → V → Bool) (t : Table o V) (to : K × V → Y) (back : Y → K × V) →
    ((e : K × V) → IsTrue (p e.0 e.1) → back (to e) ≡ e) → from_rows {o = o} (map back (map to (only p t).rows)) ≡ only p t
unfolding only
only-back o p t to back same = from_rows-same o (only p t) _ (there_and_back to back (only p t).rows (λ e i. same e (filter-In (λ e. p e.0 e.1) e t.rows i).0))

-- ---- the rows are the register's

-- a frame's placements, in a set
placements-back : (f : Frame) → set_of placement_order (λ q. q) (placements_in f) ≡ f.placements
unfolding set_of
placements-back f = from_rows-same placement_order f.placements _ (there_and_back (λ e. e.0) (λ q. (q, tt)) f.placements.rows (λ e i. refl))

-- its nodes are the register's
pub nodes-back : (b : Book) (s : Name) → set_of owned (λ n. (s, n)) (nodes_in b s) ≡ only (λ k _. is_of s k) b.nodes
unfolding set_of nodes_in
nodes-back b s = only-back owned (λ k _. is_of s k) b.nodes (λ e. e.0.1) (λ n. ((s, n), tt)) (λ e own i. ((sym (same_text-is e.0.0 s own) i, e.0.1), tt))

module _ (p : Params) (s : Name) (x : Variant) where
  grants-back : table_of channel_slots (λ k. (k.slot, k.channel)) (holder_of s) (grants_in s x) ≡ only (λ _ h. held_by s (Some h)) x.grants
  unfolding table_of grants_in
  grants-back = only-back channel_slots (λ _ h. held_by s (Some h)) x.grants
      (λ e. (record { slot = e.0.0; channel = e.0.1 }, e.1.node)) (λ e. ((e.0.slot, e.0.channel), holder_of s e.1))
      (λ e own i. (e.0, record { supplier = sym (same_text-is e.1.supplier s own) i; node = e.1.node }))

  frames-back : table_of owned (λ f. (s, f)) frame_of (frames_in p s x) ≡ only (λ k _. is_of s k) x.frames
  unfolding table_of frames_in
  frames-back = only-back owned (λ k _. is_of s k) x.frames
      (λ e. (e.0.1, record { node = e.1.node; placements = placements_in e.1; layout = layout_of p e.1 })) (λ e. ((s, e.0), frame_of e.1))
      (λ e own i. ((sym (same_text-is e.0.0 s own) i, e.0.1), record { node = e.1.node; placements = placements-back e.1 i; signals = e.1.signals }))

pub rows-registers : (c : Cluster) (b : Book) (s v : Name) (x : Variant) → own_rows_of (page_in c.params b s v x) ≡ own_rows c.params b s x
unfolding own_rows
rows-registers c b s v x = λ i. record {
  params = c.params;
  supplier = s;
  nodes = nodes-back b s i;
  grants = grants-back c.params s x i;
  frames = frames-back c.params s x i;
}

-- ---- in a sound book they are a page's

module _ (c : Cluster) (b : Book) (s v : Name) (x : Variant) (sound : IsSound c b) (there : get b.variants v ≡ Some x) where
  abbrev fine : IsSoundVariant c.params b.nodes x
  fine = (sound.variants v x there).1

  abbrev mine : Table channel_slots Holder
  mine = only (λ _ h. held_by s (Some h)) x.grants

  -- what a supplier holds is on its page
  held-page : (n : Name) (o : Option Holder) (at : ℕ × Channel) → IsTrue (held_by_node s n o) → IsTrue (held_by_node s n (kept (λ _ h. held_by s (Some h)) at o))
  held-page n None at h = h
  held-page n (Some g) at h = ap (λ t. held_by_node s n (cond t (Some g) None)) (and_parts _ _ h).0 ∙ h

  granted-page : (n : Name) (q : Placement) → IsTrue (granted x.grants s n q) → IsTrue (granted mine s n q)
  unfolding granted
  granted-page n q = all_more _ _ (channels_in q.channels) (λ d h.
      ap (held_by_node s n) (get-only channel_slots (λ _ h. held_by s (Some h)) x.grants (q.slot, d)) ∙ held-page n (get x.grants (q.slot, d)) (q.slot, d) h)

  -- a frame of the supplier is the supplier's
  own_key : (k : Name × Name) (o : Option Frame) (f : Frame) → kept (λ j _. is_of s j) k o ≡ Some f → k.0 ≡ s
  own_key k None f e = cc
  own_key k (Some g) f e = elim (cases_Bool (is_of s k)) [
    | inl own ↦ same_text-is k.0 s own
    | inr other ↦ let none : None ≡ Some f = sym (ap (λ t. cond t (Some g) None) other) ∙ e in cc
  ]

  frame-page : (k : Name × Name) (f : Frame) → get (only (λ j _. is_of s j) x.frames) k ≡ Some f → IsPageFrame (own_rows c.params b s x) f
  unfolding own_rows
  frame-page k f at =
      let old = fine.frames k f (only-stood owned (λ j _. is_of s j) x.frames k f at) in
      let own : k.0 ≡ s = own_key k (get x.frames k) f (sym (get-only owned (λ j _. is_of s j) x.frames k) ∙ at) in
      record {
        few = old.limit;
        fits = contained-all (FitsCluster c.params) f old.fits;
        in_grants = contained-all (λ q. IsTrue (granted mine s f.node q)) f (λ q h. granted-page f.node q (subst (λ t. IsTrue (granted x.grants t f.node q)) own (old.in_grants q h)));
        layout = old.layout;
      }

  sound-page : IsPage (own_rows c.params b s x)
  unfolding own_rows
  sound-page =
      let stood = only-stood owned (λ j _. is_of s j) x.frames in
      record {
        nodes = sound.node_limit s;
        frames = fine.frame_limit s;
        each = frame-page;
        apart = none_shared-pairs (only (λ j _. is_of s j) x.frames) (λ k l f g q r d at_k at_l in_f in_g has_q has_r.
            fine.apart k l f g q r d (record { frame = stood k f at_k; placement = in_f; has = has_q }) (record { frame = stood l g at_l; placement = in_g; has = has_r }));
      }

-- each layout is that of the cluster's payload
words-in : (p : Params) (s : Name) (x : Variant) → All (λ e. e.1.layout.words ≡ p.payload_words) (frames_in p s x)
unfolding frames_in
words-in p s x = In-All _ (frames_in p s x) (λ e i. let found = map-In _ e (only (λ k _. is_of s k) x.frames).rows i in ap (λ (d : Name × FrameData). d.1.layout.words) (sym found.2))

-- ---- they stand in the order of their keys

less : (r : Ordering) → T (is_lt r) → r ≡ Less
less Less h = refl
less Equal h = absurd h
less Greater h = absurd h

module _ {K V J : Type 0} (o : Order K) (key : K × V → J) (cmp : J → J → Ordering) where
  below : (e : K × V) (es : List (K × V)) → ((f : K × V) → In f es → o.compare e.0 f.0 ≡ Less → cmp (key e) (key f) ≡ Less) → T (below_all o.compare e.0 es) → AllByRecursion (λ y. cmp (key e) y ≡ Less) (map key es)
  below e [] alike h = tt
  below e (f ∷ fs) alike h = (alike f (inl refl) (less _ (first _ _ h)), below e fs (λ g i. alike g (inr i)) (second _ _ h))

  -- keys of rows in order rise, where they compare as the rows' keys
  rise : (es : List (K × V)) → ((e f : K × V) → In e es → In f es → o.compare e.0 f.0 ≡ Less → cmp (key e) (key f) ≡ Less) → T (is_sorted o.compare es) → IsStrictlySortedBy cmp (map key es)
  unfolding IsStrictlySortedBy
  rise [] alike h = tt
  rise (e ∷ es) alike h = (below e es (λ f i. alike e f (inl refl) (inr i)) (first _ _ h), rise es (λ f g i j. alike f g (inr i) (inr j)) (second _ _ h))

module _ (s : Name) where
  -- a supplier's own keys compare by their names
  own_less : (k l : Name × Name) → k.0 ≡ s → l.0 ≡ s → owned.compare k l ≡ Less → names.compare k.1 l.1 ≡ Less
  unfolding names
  own_less k l own_k own_l h = own_alike s k.1 l.1 ∙ (λ i. owned.compare (sym own_k i, k.1) (sym own_l i, l.1)) ∙ h

  names-rise : {V : Type 0} (t : Table owned V) → IsStrictlySortedBy names.compare (map (λ e. e.0.1) (only (λ k _. is_of s k) t).rows)
  unfolding only
  names-rise t = rise owned (λ e. e.0.1) names.compare (only (λ k _. is_of s k) t).rows
      (λ e f i j. own_less e.0 f.0 (same_text-is e.0.0 s (filter-In (λ e. is_of s e.0) e t.rows i).0) (same_text-is f.0.0 s (filter-In (λ e. is_of s e.0) f t.rows j).0))
      (only (λ k _. is_of s k) t).sorted

  slots-rise : (x : Variant) → IsStrictlySortedBy compare_slots (keys_of (grants_in s x))
  unfolding grants_in
  slots-rise x =
      let held : Table channel_slots Holder = only (λ _ h. held_by s (Some h)) x.grants in
      subst (IsStrictlySortedBy compare_slots) (sym (map-map (λ e. e.0) (λ e. (record { slot = e.0.0; channel = e.0.1 }, e.1.node)) held.rows))
      (rise channel_slots (λ e. record { slot = e.0.0; channel = e.0.1 }) compare_slots held.rows (λ e f i j h. h) held.sorted)

placements-rise : (f : Frame) → IsStrictlySortedBy placement_order.compare (placements_in f)
placements-rise f = rise placement_order (λ e. e.0) placement_order.compare f.placements.rows (λ e g i j h. h) f.placements.sorted

rows-in-order : (p : Params) (b : Book) (s v : Name) (x : Variant) → IsInOrder (page_in p b s v x)
unfolding nodes_in frames_in
rows-in-order p b s v x =
    let own : Table owned Frame = only (λ k _. is_of s k) x.frames in
    record {
      nodes = names-rise s b.nodes;
      grants = slots-rise s x;
      frames = record {
        names = subst (IsStrictlySortedBy names.compare) (sym (map-map (λ e. e.0) (λ e. (e.0.1, record { node = e.1.node; placements = placements_in e.1; layout = layout_of p e.1 })) own.rows)) (names-rise s x.frames);
        placements = In-All _ (frames_in p s x) (λ e i. let found = map-In _ e own.rows i in subst (λ (d : Name × FrameData). IsStrictlySortedBy placement_order.compare d.1.placements) found.2 (placements-rise found.0.1));
      };
    }

pub rows-kept : (c : Cluster) (b : Book) (s v : Name) (x : Variant) → IsSound c b → get b.variants v ≡ Some x → IsKept (page_in c.params b s v x)
rows-kept c b s v x sound there = record {
  page = subst IsPage (sym (rows-registers c b s v x)) (sound-page c b s v x sound there);
  words = words-in c.params s x;
  order = rows-in-order c.params b s v x;
}
