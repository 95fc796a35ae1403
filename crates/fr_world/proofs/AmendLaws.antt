-- What a change makes of the sets and maps of a page, beside what it makes of the page's tables.
use Rattle.std.proofs.Common.{◌≡◌, ℕ, Bool, true, false, cond, List, [], ◌∷◌, Option, Some, None, option_map, Result, Ok, Err, OnOk, OnErr, All, Ordering, Less, Equal, Greater, refl, sym, ap, subst, ◌∙◌}
use Rattle.std.specs.Map.{keys_of, lookup, remove_entry, set_value}
use Rattle.std.specs.Set.{remove_key}
use Rattle.std.specs.BTreeMap.{insert_entry, is_at}
use Rattle.std.specs.BTreeSet.{insert_key}
use Rattle.std.specs.Ordering.{match_ordering}
use Rattle.std.specs.List.Sorted.{IsStrictlySortedBy}
use Rattle.std.proofs.lemmas.List.Elements.{All-cons, All-head, All-tail}
use Rattle.std.proofs.lemmas.Map.Views.{All-map-remove_entry}
use Rattle.std.proofs.lemmas.Simd.{map-map}
use Rattle.fr_base.specs.Tables.{Becomes, Gone, empty, from_rows, get, insert, remove, settle}
use Rattle.fr_base.specs.Book.{Frame}
use Rattle.fr_base.specs.Step.{frame_after}
use Rattle.fr_base.specs.Keys.{names, owned, channel_slots, placement_order}
use Rattle.fr_base.specs.declared.name.Name.{Name}
use Rattle.fr_base.specs.declared.placement.Placement.{Placement}
use Rattle.fr_base.specs.Layouts.{LayoutData, with_signal, without_signal}
use Rattle.fr_base.specs.Signals.{SignalData}
use Rattle.fr_base.specs.declared.request.FrameChange.{FrameChange}
use Rattle.fr_base.specs.declared.request.FrameChange.TheVariants.{Place, Unplace, AddSignal, DropSignal}
use Rattle.fr_world.specs.Maps.{table_of, set_of}
use Rattle.fr_world.specs.Amends.{AreChanged, HaveWords, as_frame, nodes_of, grants_of, frames_of}
use Rattle.fr_world.specs.Pages.{AreInOrder, FrameData, frame_data, frame_of, frames_data, holder_of}
use Rattle.fr_world.specs.declared.page.ChannelSlot.{ChannelSlot}
use Rattle.fr_world.specs.declared.page.PageFrame.{PageFrame}
use Rattle.fr_world.proofs.KeyLaws.{name_cmp, names_rise, own_alike, slot_cmp, slots_alike, placement_cmp, placements_alike}
use Rattle.fr_world.proofs.MapLaws.{set_of-insert_key, table_of-insert_entry, table_of-lent, get-table_of}
use Rattle.fr_world.proofs.RemoveLaws.{remove-none, table_of-remove_entry, set_of-remove_key}

pub insert_node : (s n : Name) (nodes : List Name) → nodes_of s (insert_key name_cmp nodes n) ≡ insert (nodes_of s nodes) (s, n) tt
insert_node s n nodes = set_of-insert_key name_cmp owned (λ x. (s, x)) (own_alike s) nodes n

pub insert_grant : (s n : Name) (k : ChannelSlot) (grants : List (ChannelSlot × Name)) → IsStrictlySortedBy slot_cmp (keys_of grants) →
    grants_of s (insert_entry slot_cmp grants k n) ≡ insert (grants_of s grants) (k.slot, k.channel) (holder_of s n)
insert_grant s n k grants h = table_of-insert_entry slot_cmp channel_slots (λ x. (x.slot, x.channel)) (holder_of s) slots_alike grants k n h

pub remove_grant : (s : Name) (k : ChannelSlot) (grants : List (ChannelSlot × Name)) → IsStrictlySortedBy slot_cmp (keys_of grants) →
    grants_of s (remove_entry (is_at (slot_cmp k)) grants) ≡ remove (grants_of s grants) (k.slot, k.channel)
remove_grant s k grants h = table_of-remove_entry slot_cmp channel_slots (λ x. (x.slot, x.channel)) slots_alike (holder_of s) grants k h

-- ---- frames

-- a supplier's frames as a table of frames
frames_table : (s : Name) (frames : List (Name × PageFrame)) → frames_of s frames ≡ table_of owned (λ f. (s, f)) as_frame frames
unfolding table_of
frames_table s frames = ap from_rows (map-map (λ e. ((s, e.0), frame_of e.1)) (λ e. (e.0, frame_data e.1)) frames)

insert_frame : (s name : Name) (f : PageFrame) (frames : List (Name × PageFrame)) → IsStrictlySortedBy name_cmp (keys_of frames) →
    frames_of s (insert_entry name_cmp frames name f) ≡ insert (frames_of s frames) (s, name) (as_frame f)
insert_frame s name f frames h =
    frames_table s (insert_entry name_cmp frames name f)
    ∙ table_of-insert_entry name_cmp owned (λ x. (s, x)) as_frame (own_alike s) frames name f h
    ∙ ap (λ t. insert t (s, name) (as_frame f)) (sym (frames_table s frames))

remove_frame : (s name : Name) (frames : List (Name × PageFrame)) → IsStrictlySortedBy name_cmp (keys_of frames) →
    frames_of s (remove_entry (is_at (name_cmp name)) frames) ≡ remove (frames_of s frames) (s, name)
remove_frame s name frames h =
    frames_table s (remove_entry (is_at (name_cmp name)) frames)
    ∙ table_of-remove_entry name_cmp owned (λ x. (s, x)) (own_alike s) as_frame frames name h
    ∙ ap (λ t. remove t (s, name)) (sym (frames_table s frames))

pub get_frame : (s name : Name) (frames : List (Name × PageFrame)) → get (frames_of s frames) (s, name) ≡ option_map as_frame (lookup (is_at (name_cmp name)) frames)
get_frame s name frames = ap (λ t. get t (s, name)) (frames_table s frames) ∙ get-table_of name_cmp owned (λ x. (s, x)) as_frame (own_alike s) frames name

-- after a frame was changed through what a look-up lent
lent_frame : (s name : Name) (frames later : List (Name × PageFrame)) (f g : PageFrame) → IsStrictlySortedBy name_cmp (keys_of frames) →
    Some f ≡ lookup (is_at (name_cmp name)) frames → later ≡ set_value (is_at (name_cmp name)) frames g → frames_of s later ≡ insert (frames_of s frames) (s, name) (as_frame g)
lent_frame s name frames later f g h found e =
    frames_table s later
    ∙ table_of-lent name_cmp owned (λ x. (s, x)) as_frame (own_alike s) frames later name g f h found e
    ∙ ap (λ t. insert t (s, name) (as_frame g)) (sym (frames_table s frames))

-- ---- what holds of each frame

module _ (P : FrameData → Type 0) where
  abbrev held : Name × FrameData → Type 0
  held e = P e.1

  abbrev HoldOf : List (Name × PageFrame) → Type 0
  HoldOf frames = All held (frames_data frames)

  all_insert : (name : Name) (f : PageFrame) (frames : List (Name × PageFrame)) → P (frame_data f) → HoldOf frames → HoldOf (insert_entry name_cmp frames name f)
  all_insert name f [] e all = All-cons held (name, frame_data f) [] e all
  all_insert name f (x ∷ xs) e all = by_order (name_cmp name x.0) (all_insert name f xs e (All-tail held (x.0, frame_data x.1) (frames_data xs) all))
    where
      by_order : (r : Ordering) → HoldOf (insert_entry name_cmp xs name f) → HoldOf (match_ordering r ((name, f) ∷ x ∷ xs) ((x.0, f) ∷ xs) (x ∷ insert_entry name_cmp xs name f))
      by_order Less rest = All-cons held (name, frame_data f) (frames_data (x ∷ xs)) e all
      by_order Equal rest = All-cons held (x.0, frame_data f) (frames_data xs) e (All-tail held (x.0, frame_data x.1) (frames_data xs) all)
      by_order Greater rest = All-cons held (x.0, frame_data x.1) (frames_data (insert_entry name_cmp xs name f)) (All-head held (x.0, frame_data x.1) (frames_data xs) all) rest

  all_remove : (name : Name) (frames : List (Name × PageFrame)) → HoldOf frames → HoldOf (remove_entry (is_at (name_cmp name)) frames)
  all_remove name frames all = All-map-remove_entry (is_at (name_cmp name)) (λ e. (e.0, frame_data e.1)) held frames all

  all_set : (test : Name → Bool) (f g : PageFrame) (frames : List (Name × PageFrame)) → Some f ≡ lookup test frames → (P (frame_data f) → P (frame_data g)) → HoldOf frames → HoldOf (set_value test frames g)
  all_set test f g [] found more all = all
  all_set test f g (x ∷ xs) found more all = by_test (test x.0) found (λ later. all_set test f g xs later more (All-tail held (x.0, frame_data x.1) (frames_data xs) all))
    where
      by_test : (b : Bool) → Some f ≡ cond b (Some x.1) (lookup test xs) → (Some f ≡ lookup test xs → HoldOf (set_value test xs g)) → HoldOf (cond b ((x.0, g) ∷ xs) (x ∷ set_value test xs g))
      by_test true here rest =
          let one : x.1 ≡ f = cc in
          All-cons held (x.0, frame_data g) (frames_data xs)
          (more (subst (λ (y : PageFrame). P (frame_data y)) one (All-head held (x.0, frame_data x.1) (frames_data xs) all)))
          (All-tail held (x.0, frame_data x.1) (frames_data xs) all)
      by_test false here rest = All-cons held (x.0, frame_data x.1) (frames_data (set_value test xs g)) (All-head held (x.0, frame_data x.1) (frames_data xs) all) (rest here)

-- ---- the payload's words

-- whether a frame's layout is that of so many words
abbrev has_words : ℕ → FrameData → Type 0
has_words words d = d.layout.words ≡ words

words_insert : (words : ℕ) (name : Name) (f : PageFrame) (frames : List (Name × PageFrame)) → f.layout.words ≡ words → HaveWords words frames → HaveWords words (insert_entry name_cmp frames name f)
words_insert words name f frames e all = all_insert (has_words words) name f frames e all

words_remove : (words : ℕ) (name : Name) (frames : List (Name × PageFrame)) → HaveWords words frames → HaveWords words (remove_entry (is_at (name_cmp name)) frames)
words_remove words name frames all = all_remove (has_words words) name frames all

words_set : (words : ℕ) (test : Name → Bool) (f g : PageFrame) (frames : List (Name × PageFrame)) → Some f ≡ lookup test frames → g.layout.words ≡ f.layout.words → HaveWords words frames → HaveWords words (set_value test frames g)
words_set words test f g frames found same all = all_set (has_words words) test f g frames found (λ e. same ∙ e) all

-- ---- the order of the frames, and of each frame's placements

abbrev in_order : FrameData → Type 0
in_order d = IsStrictlySortedBy placement_order.compare d.placements

-- the frames' names rise where the map's keys do
names_in : (frames : List (Name × PageFrame)) → IsStrictlySortedBy name_cmp (keys_of frames) → IsStrictlySortedBy names.compare (keys_of (frames_data frames))
names_in frames h = names_rise (keys_of (frames_data frames)) (subst (IsStrictlySortedBy name_cmp) (sym (map-map (λ e. e.0) (λ e. (e.0, frame_data e.1)) frames)) h)

order_insert : (name : Name) (f : PageFrame) (frames later : List (Name × PageFrame)) → IsStrictlySortedBy name_cmp (keys_of later) → later ≡ insert_entry name_cmp frames name f → f.placements.keys ≡ [] →
    AreInOrder (frames_data frames) → AreInOrder (frames_data later)
unfolding IsStrictlySortedBy
order_insert name f frames later h e none was = record {
  names = names_in later h;
  placements = subst (HoldOf in_order) (sym e) (all_insert in_order name f frames (subst (IsStrictlySortedBy placement_order.compare) (sym none) tt) was.placements);
}

order_remove : (name : Name) (frames later : List (Name × PageFrame)) → IsStrictlySortedBy name_cmp (keys_of later) → later ≡ remove_entry (is_at (name_cmp name)) frames →
    AreInOrder (frames_data frames) → AreInOrder (frames_data later)
order_remove name frames later h e was = record {
  names = names_in later h;
  placements = subst (HoldOf in_order) (sym e) (all_remove in_order name frames was.placements);
}

order_set : (test : Name → Bool) (f g : PageFrame) (frames later : List (Name × PageFrame)) → IsStrictlySortedBy name_cmp (keys_of later) → later ≡ set_value test frames g → Some f ≡ lookup test frames →
    (IsStrictlySortedBy placement_order.compare f.placements.keys → IsStrictlySortedBy placement_order.compare g.placements.keys) →
    AreInOrder (frames_data frames) → AreInOrder (frames_data later)
order_set test f g frames later h e found more was = record {
  names = names_in later h;
  placements = subst (HoldOf in_order) (sym e) (all_set in_order test f g frames found more was.placements);
}

-- a frame written back as it was
pub data_set : (test : Name → Bool) (f g : PageFrame) (frames : List (Name × PageFrame)) → Some f ≡ lookup test frames → frame_data g ≡ frame_data f → frames_data (set_value test frames g) ≡ frames_data frames
data_set test f g [] found same = refl
data_set test f g (x ∷ xs) found same = by_test (test x.0) found (λ later. data_set test f g xs later same)
  where
    by_test : (b : Bool) → Some f ≡ cond b (Some x.1) (lookup test xs) → (Some f ≡ lookup test xs → frames_data (set_value test xs g) ≡ frames_data xs) → frames_data (cond b ((x.0, g) ∷ xs) (x ∷ set_value test xs g)) ≡ frames_data (x ∷ xs)
    by_test true here rest =
        let one : f ≡ x.1 = cc in
        ap (λ d. (x.0, d) ∷ frames_data xs) (same ∙ ap frame_data one)
    by_test false here rest = ap (λ ds. (x.0, frame_data x.1) ∷ ds) (rest here)

-- ---- a change of a frame

-- what stands at a key is what the look-up finds
abbrev stood : Name → Name → List (Name × PageFrame) → Option Frame
stood s name frames = get (frames_of s frames) (s, name)

-- a frame is put
pub put_changes : (payload : ℕ) (name : Name) (what : FrameChange) (f : PageFrame) (frames later : List (Name × PageFrame)) → IsStrictlySortedBy name_cmp (keys_of frames) → IsStrictlySortedBy name_cmp (keys_of later) →
    later ≡ insert_entry name_cmp frames name f → ((there : Option Frame) → frame_after what there ≡ Becomes (as_frame f)) → f.layout.words ≡ payload → f.placements.keys ≡ [] → AreChanged payload name what frames later
unfolding settle
put_changes payload name what f frames later was h e made words none = record {
  table = λ s. ap (frames_of s) e ∙ insert_frame s name f frames was ∙ ap (settle (frames_of s frames) (s, name)) (sym (made (stood s name frames)));
  words = λ all. subst (HaveWords payload) (sym e) (words_insert payload name f frames words all);
  order = order_insert name f frames later h e none;
}

-- a frame goes
pub end_changes : (payload : ℕ) (name : Name) (what : FrameChange) (frames later : List (Name × PageFrame)) → IsStrictlySortedBy name_cmp (keys_of frames) → IsStrictlySortedBy name_cmp (keys_of later) →
    later ≡ remove_entry (is_at (name_cmp name)) frames → ((there : Option Frame) → frame_after what there ≡ Gone) → AreChanged payload name what frames later
unfolding settle
end_changes payload name what frames later was h e made = record {
  table = λ s. ap (frames_of s) e ∙ remove_frame s name frames was ∙ ap (settle (frames_of s frames) (s, name)) (sym (made (stood s name frames)));
  words = λ all. subst (HaveWords payload) (sym e) (words_remove payload name frames all);
  order = order_remove name frames later h e;
}

-- a frame that is there becomes another
pub lent_changes : (payload : ℕ) (name : Name) (what : FrameChange) (f g : PageFrame) (frames later : List (Name × PageFrame)) → IsStrictlySortedBy name_cmp (keys_of frames) → IsStrictlySortedBy name_cmp (keys_of later) →
    Some f ≡ lookup (is_at (name_cmp name)) frames → later ≡ set_value (is_at (name_cmp name)) frames g → frame_after what (Some (as_frame f)) ≡ Becomes (as_frame g) → g.layout.words ≡ f.layout.words →
    (IsStrictlySortedBy placement_order.compare f.placements.keys → IsStrictlySortedBy placement_order.compare g.placements.keys) → AreChanged payload name what frames later
unfolding settle
lent_changes payload name what f g frames later was h found e made words rise = record {
  table = λ s.
      lent_frame s name frames later f g was found e
      ∙ ap (settle (frames_of s frames) (s, name)) (sym (ap (frame_after what) (get_frame s name frames ∙ ap (option_map as_frame) (sym found)) ∙ made));
  words = λ all. subst (HaveWords payload) (sym e) (words_set payload (is_at (name_cmp name)) f g frames found words all);
  order = order_set (is_at (name_cmp name)) f g frames later h e found rise;
}

-- what a frame becomes with other placements, or other signals
pub placed_makes : (what : FrameChange) (q : Placement) (f : PageFrame) (keys : List Placement) → what ≡ Place q → set_of placement_order (λ x. x) keys ≡ insert (set_of placement_order (λ x. x) f.placements.keys) q tt →
    frame_after what (Some (as_frame f)) ≡ Becomes (record (as_frame f) { placements = set_of placement_order (λ x. x) keys })
unfolding frame_after
placed_makes what q f keys is table = ap (λ w. frame_after w (Some (as_frame f))) is ∙ ap (λ t. Becomes (record (as_frame f) { placements = t })) (sym table)

pub unplaced_makes : (what : FrameChange) (q : Placement) (f : PageFrame) (keys : List Placement) → what ≡ Unplace q → set_of placement_order (λ x. x) keys ≡ remove (set_of placement_order (λ x. x) f.placements.keys) q →
    frame_after what (Some (as_frame f)) ≡ Becomes (record (as_frame f) { placements = set_of placement_order (λ x. x) keys })
unfolding frame_after
unplaced_makes what q f keys is table = ap (λ w. frame_after w (Some (as_frame f))) is ∙ ap (λ t. Becomes (record (as_frame f) { placements = t })) (sym table)

pub added_makes : (what : FrameChange) (signal : SignalData) (f : PageFrame) (layout : LayoutData) → what ≡ AddSignal signal → layout ≡ record f.layout { signals = with_signal signal f.layout.signals } →
    frame_after what (Some (as_frame f)) ≡ Becomes (record (as_frame f) { signals = layout.signals })
unfolding frame_after
added_makes what signal f layout is made = ap (λ w. frame_after w (Some (as_frame f))) is ∙ ap (λ (l : LayoutData). Becomes (record (as_frame f) { signals = l.signals })) (sym made)

pub dropped_makes : (what : FrameChange) (name : Name) (f : PageFrame) (layout : LayoutData) → what ≡ DropSignal name → layout ≡ record f.layout { signals = without_signal name f.layout.signals } →
    frame_after what (Some (as_frame f)) ≡ Becomes (record (as_frame f) { signals = layout.signals })
unfolding frame_after
dropped_makes what name f layout is made = ap (λ w. frame_after w (Some (as_frame f))) is ∙ ap (λ (l : LayoutData). Becomes (record (as_frame f) { signals = l.signals })) (sym made)

-- a frame that is not there makes none
pub none_changes : (payload : ℕ) (name : Name) (what : FrameChange) (frames later : List (Name × PageFrame)) → None ≡ lookup (is_at (name_cmp name)) frames → later ≡ frames →
    frame_after what None ≡ Gone → AreChanged payload name what frames later
unfolding settle
none_changes payload name what frames later none same made = record {
  table = λ s.
      let absent : stood s name frames ≡ None = get_frame s name frames ∙ ap (option_map as_frame) (sym none) in
      ap (frames_of s) same ∙ sym (remove-none owned (frames_of s frames) (s, name) absent)
      ∙ ap (settle (frames_of s frames) (s, name)) (sym (ap (frame_after what) absent ∙ made));
  words = λ all. subst (HaveWords payload) (sym same) all;
  order = λ was. subst (λ fs. AreInOrder (frames_data fs)) (sym same) was;
}

-- ---- placements

pub no_placements : set_of placement_order (λ (q : Placement). q) [] ≡ empty
unfolding set_of from_rows empty
no_placements = refl

pub insert_placement : (q : Placement) (qs : List Placement) → set_of placement_order (λ x. x) (insert_key placement_cmp qs q) ≡ insert (set_of placement_order (λ x. x) qs) q tt
insert_placement q qs = set_of-insert_key placement_cmp placement_order (λ x. x) placements_alike qs q

pub remove_placement : (q : Placement) (qs : List Placement) → IsStrictlySortedBy placement_cmp qs → set_of placement_order (λ x. x) (remove_key (is_at (placement_cmp q)) qs) ≡ remove (set_of placement_order (λ x. x) qs) q
remove_placement q qs h = set_of-remove_key placement_cmp placement_order (λ x. x) placements_alike qs q h

-- ---- what follows where a call succeeded, and where it failed

pub on_ok : {A E : Type 0} {P Q : Type 0} (r : Result A E) → (P → Q) → OnOk r P → OnOk r Q
on_ok (Ok x) f h = f h
on_ok (Err e) f h = tt

pub on_err : {A E : Type 0} {P Q : Type 0} (r : Result A E) → (P → Q) → OnErr r P → OnErr r Q
on_err (Ok x) f h = tt
on_err (Err e) f h = f h

pub holds : {A E : Type 0} {P : Type 0} (r : Result A E) → P → OnOk r P
holds (Ok x) h = h
holds (Err e) h = tt
