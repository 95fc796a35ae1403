-- Frames that rows fill up to those of a sound variant: each row in turn is accepted, and in the end the frames are these.
use Rattle.std.proofs.Common.{◌≡◌, ℕ, suc, ◌+◌, ◌≤◌, Bool, true, false, not, cond, nat_le, List, [], ◌∷◌, ◌++◌, map, flat_map, length, Option, Some, None, is_some, Result, Ok, IsTrue, refl, sym, ap, subst, ◌∙◌, inl, inr, arith, append_assoc, append-nil, length-append, true≢false}
use Rattle.std.specs.Prelude.{⊤, T}
use Rattle.std.specs.List.{AllByRecursion}
use Rattle.std.specs.FinMap.Entries.{find, is_sorted}
use Rattle.std.proofs.lemmas.Bool.{cases_Bool}
use Rattle.std.proofs.lemmas.Bool.Decides.{nat_tests}
use Rattle.fr_base.specs.TableRows.{second}
use Rattle.fr_base.specs.Refusing.{◌>>=◌, ◌>>◌, refuse◌when◌}
use Rattle.fr_base.specs.Tables.{Table, Becomes, get, contains, len, insert, settle}
use Rattle.fr_base.specs.Keys.{owned, channel_slots, placement_order}
use Rattle.fr_base.specs.Cells.{Cell, cells_of, has_cell}
use Rattle.fr_base.specs.Channels.{channels_in}
use Rattle.fr_base.specs.Schedule.{fill, first_taken}
use Rattle.fr_base.specs.Names.{same_text}
use Rattle.fr_base.specs.Signals.{SignalData}
use Rattle.fr_base.specs.Layouts.{IsLayout, with_signal}
use Rattle.fr_base.specs.Book.{Holder, Frame, Variant, Book, held_by_node, is_of, own_grants, granted, placements_of, schedule_of}
use Rattle.fr_base.specs.Brought.{if_named, placement_for, signal_for, placements_for, signals_for, had_placements, had_signals}
use Rattle.fr_base.specs.Step.{cell_taken, frame_after, at_line}
use Rattle.fr_base.specs.Sound.{IsSoundVariant}
use Rattle.fr_base.specs.declared.import.Row.{Row}
use Rattle.fr_base.specs.declared.import.Row.TheVariants as row
use Rattle.fr_base.specs.declared.import.RowRead.{RowRead}
use Rattle.fr_base.specs.declared.limits.TheConstants.{MAX_PLACEMENTS}
use Rattle.fr_base.specs.declared.channel.Channel.{Channel}
use Rattle.fr_base.specs.declared.name.Name.{Name}
use Rattle.fr_base.specs.declared.params.Params.{Params}
use Rattle.fr_base.specs.declared.placement.Placement.{Placement}
use Rattle.fr_base.specs.declared.refusal.Refusal.{Refusal}
use Rattle.fr_base.specs.declared.refusal.Refusal.TheVariants.{NoNode, NodeDiffers, NotGranted, Limit}
use Rattle.fr_base.specs.declared.request.FrameChange.TheVariants.{Place, AddSignal}
use Rattle.fr_base.proofs.TableLaws.{get-only, same_table, kept}
use Rattle.fr_base.proofs.SoundTables.{get-put, same_some}
use Rattle.fr_base.proofs.SoundRows.{same_text-is, holder-is, all_more}
use Rattle.fr_base.proofs.AloneCells.{same_text-itself, entries_of, Lacks, later, found_first, none_of, first_taken-alike}
use Rattle.fr_base.proofs.SettledRows.{settle-other, other_frame}
use Rattle.fr_base.proofs.FrameRuns.{past_when, past_unless, change_in, framed_in, act_in, run_in, change-is, place_test, place-is, signal-is}
use Rattle.fr_base.proofs.BroughtLemmas.{node_of}
use Rattle.fr_base.proofs.SettledRows.{not_mine}
use Rattle.fr_base.proofs.TableFronts.{put-last, not_yet, there-mid, there-front, signal-last, admits-next}

-- ---- cells that no frame has

all_lack : (c : Cell) (rows : List ((Name × Name) × Frame)) → T (is_sorted owned.compare rows) → ((k : Name × Name) (f : Frame) → find owned.compare k rows ≡ Some f → Lacks c f) → fill (flat_map entries_of rows) c ≡ None
unfolding fill get
all_lack c [] sorted lacks = refl
all_lack c (row ∷ rows) sorted lacks =
    none_of _ row.1.placements.rows c _ (lacks row.0 row.1 (found_first row rows))
    ∙ all_lack c rows (second _ _ sorted) (λ k f there. lacks k f (later rows row sorted k f there))

none_taken : {O : Type 0} (ds : List Cell) → first_taken {O = O} (λ c. None) ds ≡ None
unfolding first_taken
none_taken [] = refl
none_taken (d ∷ ds) = none_taken ds

pub free-cells : (t : Table owned Frame) (q : Placement) → ((c : Cell) → IsTrue (has_cell q c) → (k : Name × Name) (f : Frame) → get t k ≡ Some f → Lacks c f) → first_taken (schedule_of t) (cells_of q) ≡ None
unfolding has_cell schedule_of placements_of get
free-cells t q lacks = first_taken-alike _ (λ c. None) (cells_of q) (λ c has. all_lack c t.rows t.sorted (lacks c has)) ∙ none_taken (cells_of q)

-- what is granted is granted by the supplier's own grants
pub granted-own : (grants : Table channel_slots Holder) (s n : Name) (q : Placement) → IsTrue (granted grants s n q) → IsTrue (granted (own_grants s grants) s n q)
unfolding granted
granted-own grants s n q =
    all_more _ _ (channels_in q.channels) (λ c h.
    let found = holder-is s n (get grants (q.slot, c)) h in
    ap (held_by_node s n) (get-only channel_slots (λ _ x. same_text x.supplier s) grants (q.slot, c) ∙ ap (kept {K = ℕ × Channel} (λ _ x. same_text x.supplier s) (q.slot, c)) found
    ∙ ap (λ t. cond t (Some (record { supplier = s; node = n })) None) (same_text-itself s) ∙ sym found) ∙ h)

-- ---- a frame that is filled

abbrev pub marked : List Placement → List (Placement × ⊤)
marked qs = map (λ q. (q, tt)) qs

-- with these placements and signals the frame is the other
pub record Fills (qs : List Placement) (xs : List SignalData) (o z : Option Frame) : Type 0 where
  pub node : node_of o ≡ node_of z
  pub placements : (had_placements o).rows ++ marked qs ≡ (had_placements z).rows
  pub signals : had_signals o ++ xs ≡ had_signals z

pub of_node : (o : Option Frame) (n : Name) → node_of o ≡ Some n → (w : Frame) × (o ≡ Some w) × (w.node ≡ n)
of_node None n h = cc
of_node (Some w) n h = (w, refl, same_some w.node n h)

rows_same : (t u : Table placement_order ⊤) → t.rows ≡ u.rows → t ≡ u
unfolding get
rows_same t u e = same_table t u (λ k. ap (find placement_order.compare k) e)

fills_none : (o z : Option Frame) → Fills [] [] o z → o ≡ z
fills_none None None fills = refl
fills_none None (Some w) fills = let no : ◌≡◌ {A = Option Name} None (Some w.node) = fills.node in cc
fills_none (Some g) None fills = let no : ◌≡◌ {A = Option Name} (Some g.node) None = fills.node in cc
fills_none (Some g) (Some w) fills =
    let node : g.node ≡ w.node = same_some _ _ fills.node in
    let placements : g.placements ≡ w.placements = rows_same _ _ (sym (append-nil g.placements.rows) ∙ fills.placements) in
    let signals : g.signals ≡ w.signals = sym (append-nil g.signals) ∙ fills.signals in
    λ i. Some (record { node = node i; placements = placements i; signals = signals i })

fills_less : (qs : List Placement) (xs : List SignalData) (o z : Option Frame) → Fills qs xs o z → (g : Frame) → o ≡ Some g → (r : Placement) → IsTrue (contains g.placements r) → (w : Frame) × (z ≡ Some w) × IsTrue (contains w.placements r)
unfolding get
fills_less qs xs o z fills g is r there =
    let full = of_node z g.node (sym fills.node ∙ ap node_of is) in
    let rows : g.placements.rows ++ marked qs ≡ full.0.placements.rows = sym (ap (λ (u : Option Frame). (had_placements u).rows ++ marked qs) is) ∙ fills.placements ∙ ap (λ (u : Option Frame). (had_placements u).rows) full.1 in
    (full.0, full.1, ap (λ l. is_some (find placement_order.compare r l)) (sym rows) ∙ there-front placement_order r g.placements.rows (marked qs) there)

not_empty : {A : Type 0} (l : List A) (x : A) (m : List A) → l ++ x ∷ m ≡ [] → ⊥
not_empty [] x m h = cc
not_empty (y ∷ l) x m h = cc

-- ---- frames that are filled

module _ (s : Name) (full : Table owned Frame) where
  -- with these placements and signals the supplier's frames are those of the full table, and those of others are those there
  pub record Filling (qs : Name → List Placement) (xs : Name → List SignalData) (t : Table owned Frame) : Type 0 where
    pub others : (k : Name × Name) → is_of s k ≡ false → get t k ≡ get full k
    pub mine : (f : Name) → Fills (qs f) (xs f) (get t (s, f)) (get full (s, f))

  pub filled : (t : Table owned Frame) → Filling (λ f. []) (λ f. []) t → t ≡ full
  filled t fills = same_table t full (λ k. elim (cases_Bool (is_of s k)) [
    | inl own ↦ subst (λ j. get t j ≡ get full j) (λ i. (sym (same_text-is k.0 s own) i, k.1)) (fills_none _ _ (fills.mine k.1))
    | inr other ↦ fills.others k other
  ])

  less : (qs : Name → List Placement) (xs : Name → List SignalData) (t : Table owned Frame) → Filling qs xs t → (k : Name × Name) (g : Frame) → get t k ≡ Some g → (r : Placement) → IsTrue (contains g.placements r) →
      (w : Frame) × (get full k ≡ Some w) × IsTrue (contains w.placements r)
  less qs xs t fills k g is r there = elim (cases_Bool (is_of s k)) [
    | inl own ↦
        let key : k ≡ (s, k.1) = λ i. (same_text-is k.0 s own i, k.1) in
        subst (λ j. (w : Frame) × (get full j ≡ Some w) × IsTrue (contains w.placements r)) (sym key) (fills_less (qs k.1) (xs k.1) _ _ (fills.mine k.1) g (ap (get t) (sym key) ∙ is) r there)
    | inr other ↦ (g, sym (fills.others k other) ∙ is, there)
  ]

  -- a row that is of a frame of the full table, of its node
  abbrev pub RowFits : Row → Type 0
  RowFits (row.AddFrame f n) = node_of (get full (s, f)) ≡ Some n
  RowFits (row.Place f n q) = node_of (get full (s, f)) ≡ Some n
  RowFits (row.AddSignal f x) = ⊤

  -- an import adds no frame that is there
  abbrev pub Fits : Bool → Row → Type 0
  Fits true r = RowFits r
  Fits false (row.AddFrame f n) = ⊥
  Fits false (row.Place f n q) = RowFits (row.Place f n q)
  Fits false (row.AddSignal f x) = ⊤

  -- the row is read, and it is such a one
  abbrev pub ReadFits : Bool → RowRead → Type 0
  ReadFits replaces read = (r : Row) × (read.row ≡ Ok r) × Fits replaces r

  module _ (p : Params) (b : Book) (v : Name) (y : Variant) (sound : IsSoundVariant p b.nodes (record y { frames = full })) where
    pub has_node : (f n : Name) → node_of (get full (s, f)) ≡ Some n → IsTrue (contains b.nodes (s, n))
    has_node f n of =
        let w = of_node _ n of in
        subst (λ m. IsTrue (contains b.nodes (s, m))) w.2 (sound.frames (s, f) w.0 w.1).node

    room_left : (m n l : ℕ) → m + suc n ≡ l → l ≤ 8 → nat_le 8 m ≡ false
    room_left m n l e h = grind (arith, nat_tests)

    length-marked : (qs : List Placement) → length (marked qs) ≡ length qs
    length-marked [] = refl
    length-marked (q ∷ qs) = ap suc (length-marked qs)

    -- the next placement of a frame is not refused
    place-passes : (qs : Name → List Placement) (xs : Name → List SignalData) (t : Table owned Frame) → Filling qs xs t → (f : Name) (g w : Frame) (q : Placement) (more : List Placement) →
        get t (s, f) ≡ Some g → get full (s, f) ≡ Some w → g.node ≡ w.node → g.placements.rows ++ (q, tt) ∷ marked more ≡ w.placements.rows → place_test p b s v y t g q ≡ Ok tt
    unfolding get len cell_taken
    place-passes qs xs t fills f g w q more at_t at_full node rows =
        let frame = sound.frames (s, f) w at_full in
        let within : IsTrue (contains w.placements q) = ap (λ l. is_some (find placement_order.compare q l)) (sym rows) ∙ there-mid placement_order q tt g.placements.rows (marked more) in
        let fresh : find placement_order.compare q g.placements.rows ≡ None = not_yet placement_order q tt g.placements.rows (marked more) (subst (λ l. T (is_sorted placement_order.compare l)) (sym rows) w.placements.sorted) in
        let holds : IsTrue (granted (own_grants s y.grants) s g.node q) = granted-own y.grants s g.node q (subst (λ n. IsTrue (granted y.grants s n q)) (sym node) (frame.in_grants q within)) in
        let free : first_taken (schedule_of t) (cells_of q) ≡ None = free-cells t q (λ c has k h there r in_h. elim (cases_Bool (has_cell r c)) [
          | inl clash ↦
              let more = less qs xs t fills k h there r in_h in
              let same = sound.apart (s, f) k w more.0 q r c (record { frame = at_full; placement = within; has = has }) (record { frame = more.1; placement = more.2; has = clash }) in
              let one : g ≡ h = same_some g h (sym at_t ∙ ap (get t) same.0 ∙ there) in
              absurd (true≢false (sym in_h ∙ ap (λ (z : Placement × Frame). contains z.1.placements z.0) (λ i. (sym same.1 i, sym one i)) ∙ ap is_some fresh))
          | inr free ↦ free
        ]) in
        past_unless NotGranted (granted (own_grants s y.grants) s g.node q) _ holds
        ∙ past_when Limit (nat_le MAX_PLACEMENTS (len g.placements)) _
        (room_left (length g.placements.rows) (length more) (length w.placements.rows) (ap (λ n. length g.placements.rows + suc n) (sym (length-marked more)) ∙ sym (length-append g.placements.rows ((q, tt) ∷ marked more)) ∙ ap length rows) frame.limit)
        ∙ ap cell_taken free

    -- the frame is there, of its node
    there_is : (qs : List Placement) (xs : List SignalData) (f n : Name) (o : Option Frame) → Fills qs xs o (get full (s, f)) → node_of (get full (s, f)) ≡ Some n → (g : Frame) × (o ≡ Some g) × (g.node ≡ n)
    there_is qs xs f n o fills of = of_node o n (fills.node ∙ of)

    -- a frame is put in that is filled as far
    put-filling : (t : Table owned Frame) (f : Name) (after : Frame) (qs rs : Name → List Placement) (xs ys : Name → List SignalData) → Filling rs ys t →
        ((g : Name) → same_text f g ≡ false → (rs g ≡ qs g) × (ys g ≡ xs g)) → Fills (qs f) (xs f) (Some after) (get full (s, f)) → Filling qs xs (insert t (s, f) after)
    unfolding settle
    put-filling t f after qs rs xs ys fills alike here = record {
      others = λ k other. settle-other t (s, f) k (Becomes after) (not_mine s f k other) ∙ fills.others k other;
      mine = λ g. elim (cases_Bool (same_text f g)) [
        | inl same ↦
            subst (λ h. Fills (qs h) (xs h) (get (insert t (s, f) after) (s, h)) (get full (s, h))) (same_text-is f g same)
            (subst (λ o. Fills (qs f) (xs f) o (get full (s, f))) (sym (get-put t (s, f) after)) here)
        | inr other ↦
            subst (λ (z : List Placement × List SignalData). Fills z.0 z.1 (get (insert t (s, f) after) (s, g)) (get full (s, g))) (λ i. ((alike g other).0 i, (alike g other).1 i))
            (subst (λ o. Fills (rs g) (ys g) o (get full (s, g))) (sym (settle-other t (s, f) (s, g) (Becomes after) (other_frame s f g other))) (fills.mine g))
      ];
    }

    act-place : (replaces : Bool) (t : Table owned Frame) (f n : Name) (q : Placement) →
        act_in p b s v y replaces t (row.Place f n q) ≡ ((refuse NoNode when not (contains b.nodes (s, n))) >> (framed_in p b s v y t f n (get t (s, f)) >>= (λ u. change_in p b s v y u f (Place q))))
    unfolding act_in
    act-place true t f n q = refl
    act-place false t f n q = refl

    act-signal : (replaces : Bool) (t : Table owned Frame) (f : Name) (x : SignalData) → act_in p b s v y replaces t (row.AddSignal f x) ≡ change_in p b s v y t f (AddSignal x)
    unfolding act_in
    act-signal true t f x = refl
    act-signal false t f x = refl

    framed-passes : (t : Table owned Frame) (f n : Name) (g : Frame) → get t (s, f) ≡ Some g → g.node ≡ n → framed_in p b s v y t f n (get t (s, f)) ≡ Ok t
    unfolding framed_in
    framed-passes t f n g there node = ap (framed_in p b s v y t f n) there ∙ past_unless NodeDiffers (same_text g.node n) (Ok t) (ap (same_text g.node) (sym node) ∙ same_text-itself g.node)

    abbrev Passes : (Name → List Placement) → (Name → List SignalData) → Result (Table owned Frame) Refusal → Type 0
    Passes qs xs r = (u : Table owned Frame) × (r ≡ Ok u) × Filling qs xs u

    -- a frame with the next of its placements, and with the next of its signals
    place-filled : (q : Placement) (qs : List Placement) (xs : List SignalData) (g w : Frame) → Fills (q ∷ qs) xs (Some g) (Some w) → Fills qs xs (Some (record g { placements = insert g.placements q tt })) (Some w)
    unfolding insert
    place-filled q qs xs g w fills =
        let last = put-last placement_order q tt g.placements.rows (marked qs) (subst (λ l. T (is_sorted placement_order.compare l)) (sym fills.placements) w.placements.sorted) in
        record {
          node = fills.node;
          placements = ap (λ l. l ++ marked qs) last ∙ append_assoc g.placements.rows ((q, tt) ∷ []) (marked qs) ∙ fills.placements;
          signals = fills.signals;
        }

    signal-filled : (x : SignalData) (qs : List Placement) (xs : List SignalData) (g w : Frame) → IsLayout (record { words = p.payload_words; signals = g.signals ++ x ∷ xs }) → Fills qs (x ∷ xs) (Some g) (Some w) →
        Fills qs xs (Some (record g { signals = with_signal x g.signals })) (Some w)
    signal-filled x qs xs g w layout fills = record {
      node = fills.node;
      placements = fills.placements;
      signals = ap (λ l. l ++ xs) (signal-last p.payload_words g.signals x xs layout) ∙ append_assoc g.signals (x ∷ []) xs ∙ fills.signals;
    }

    -- what the row does
    place-done : (replaces : Bool) (t : Table owned Frame) (f n : Name) (q : Placement) (g : Frame) → IsTrue (contains b.nodes (s, n)) → get t (s, f) ≡ Some g → g.node ≡ n → place_test p b s v y t g q ≡ Ok tt →
        act_in p b s v y replaces t (row.Place f n q) ≡ Ok (insert t (s, f) (record g { placements = insert g.placements q tt }))
    unfolding ◌>>=◌ ◌>>◌ frame_after
    place-done replaces t f n q g has there node free =
        act-place replaces t f n q
        ∙ past_unless NoNode (contains b.nodes (s, n)) _ has
        ∙ ap (λ r. r >>= (λ u. change_in p b s v y u f (Place q))) (framed-passes t f n g there node)
        ∙ change-is p b s v y t f (Place q) g (record g { placements = insert g.placements q tt }) there refl
        ∙ ap (λ r. r >> Ok (insert t (s, f) (record g { placements = insert g.placements q tt }))) (place-is p b s v y t g q ∙ free)

    signal-done : (replaces : Bool) (t : Table owned Frame) (f : Name) (x : SignalData) (more : List SignalData) (g : Frame) → get t (s, f) ≡ Some g →
        IsLayout (record { words = p.payload_words; signals = g.signals ++ x ∷ more }) → act_in p b s v y replaces t (row.AddSignal f x) ≡ Ok (insert t (s, f) (record g { signals = with_signal x g.signals }))
    unfolding ◌>>◌ frame_after
    signal-done replaces t f x more g there layout =
        act-signal replaces t f x
        ∙ change-is p b s v y t f (AddSignal x) g (record g { signals = with_signal x g.signals }) there refl
        ∙ ap (λ r. r >> Ok (insert t (s, f) (record g { signals = with_signal x g.signals }))) (signal-is p b s v y t g x ∙ admits-next p.payload_words g.signals x more layout)

    signalled_there : (z : Option Frame) (l : List SignalData) (x : SignalData) (m : List SignalData) → l ++ x ∷ m ≡ had_signals z → (w : Frame) × (z ≡ Some w)
    signalled_there None l x m e = absurd (not_empty l x m e)
    signalled_there (Some w) l x m e = (w, refl)

    at_both : (qs : List Placement) (xs : List SignalData) (o z : Option Frame) (g w : Frame) → o ≡ Some g → z ≡ Some w → Fills qs xs o z → Fills qs xs (Some g) (Some w)
    at_both qs xs o z g w e h fills = subst (λ (u : Option Frame × Option Frame). Fills qs xs u.0 u.1) (λ i. (e i, h i)) fills

    place-fills : (replaces : Bool) (t : Table owned Frame) (f n : Name) (q : Placement) (qs : Name → List Placement) (xs : Name → List SignalData) → node_of (get full (s, f)) ≡ Some n →
        Filling (λ g. if_named g f q ++ qs g) xs t → Passes qs xs (act_in p b s v y replaces t (row.Place f n q))
    place-fills replaces t f n q qs xs of fills =
        let w = of_node _ n of in
        let here : Fills (q ∷ qs f) (xs f) (get t (s, f)) (get full (s, f)) = subst (λ c. Fills (cond c (q ∷ []) [] ++ qs f) (xs f) (get t (s, f)) (get full (s, f))) (same_text-itself f) (fills.mine f) in
        let g = there_is (q ∷ qs f) (xs f) f n _ here of in
        let both = at_both (q ∷ qs f) (xs f) (get t (s, f)) (get full (s, f)) g.0 w.0 g.1 w.1 here in
        let free = place-passes (λ g. if_named g f q ++ qs g) xs t fills f g.0 w.0 q (qs f) g.1 w.1 (g.2 ∙ sym w.2) both.placements in
        let after : Frame = record g.0 { placements = insert g.0.placements q tt } in (
          insert t (s, f) after,
          place-done replaces t f n q g.0 (has_node f n of) g.1 g.2 free,
          put-filling t f after qs (λ g. if_named g f q ++ qs g) xs xs fills (λ h other. (ap (λ t. cond t (q ∷ []) [] ++ qs h) other, refl))
              (subst (Fills (qs f) (xs f) (Some after)) (sym w.1) (place-filled q (qs f) (xs f) g.0 w.0 both)),
        )

    signal-fills : (replaces : Bool) (t : Table owned Frame) (f : Name) (x : SignalData) (qs : Name → List Placement) (xs : Name → List SignalData) →
        Filling qs (λ g. if_named g f x ++ xs g) t → Passes qs xs (act_in p b s v y replaces t (row.AddSignal f x))
    signal-fills replaces t f x qs xs fills =
        let here : Fills (qs f) (x ∷ xs f) (get t (s, f)) (get full (s, f)) = subst (λ c. Fills (qs f) (cond c (x ∷ []) [] ++ xs f) (get t (s, f)) (get full (s, f))) (same_text-itself f) (fills.mine f) in
        let w = signalled_there (get full (s, f)) (had_signals (get t (s, f))) x (xs f) here.signals in
        let g = there_is (qs f) (x ∷ xs f) f w.0.node _ here (ap node_of w.1) in
        let both = at_both (qs f) (x ∷ xs f) (get t (s, f)) (get full (s, f)) g.0 w.0 g.1 w.1 here in
        let layout : IsLayout (record { words = p.payload_words; signals = g.0.signals ++ x ∷ xs f }) = subst (λ l. IsLayout (record { words = p.payload_words; signals = l })) (sym both.signals) (sound.frames (s, f) w.0 w.1).layout in
        let after : Frame = record g.0 { signals = with_signal x g.0.signals } in (
          insert t (s, f) after,
          signal-done replaces t f x (xs f) g.0 g.1 layout,
          put-filling t f after qs qs xs (λ g. if_named g f x ++ xs g) fills (λ h other. (refl, ap (λ t. cond t (x ∷ []) [] ++ xs h) other))
              (subst (Fills (qs f) (xs f) (Some after)) (sym w.1) (signal-filled x (qs f) (xs f) g.0 w.0 layout both)),
        )

    -- a row of a replacement's frames changes nothing
    frame-fills : (t : Table owned Frame) (f n : Name) (qs : Name → List Placement) (xs : Name → List SignalData) → node_of (get full (s, f)) ≡ Some n → Filling qs xs t →
        Passes qs xs (act_in p b s v y true t (row.AddFrame f n))
    unfolding act_in
    frame-fills t f n qs xs of fills =
        let g = there_is (qs f) (xs f) f n _ (fills.mine f) of in
        (t, past_unless NoNode (contains b.nodes (s, n)) _ (has_node f n of) ∙ framed-passes t f n g.0 g.1 g.2, fills)

    -- ---- rows

    row-fills : (replaces : Bool) (t : Table owned Frame) (r : Row) (qs : Name → List Placement) (xs : Name → List SignalData) → Fits replaces r →
        Filling (λ g. placement_for g (Ok r) ++ qs g) (λ g. signal_for g (Ok r) ++ xs g) t → Passes qs xs (act_in p b s v y replaces t r)
    row-fills true t (row.AddFrame f n) qs xs fits fills = frame-fills t f n qs xs fits fills
    row-fills false t (row.AddFrame f n) qs xs fits fills = absurd fits
    row-fills true t (row.Place f n q) qs xs fits fills = place-fills true t f n q qs xs fits fills
    row-fills false t (row.Place f n q) qs xs fits fills = place-fills false t f n q qs xs fits fills
    row-fills true t (row.AddSignal f x) qs xs fits fills = signal-fills true t f x qs xs fills
    row-fills false t (row.AddSignal f x) qs xs fits fills = signal-fills false t f x qs xs fills

    -- what a row brings, and then the others
    parts-fill : (read : RowRead) (rest : List RowRead) (r : Row) (t : Table owned Frame) (qs : Name → List Placement) (xs : Name → List SignalData) → read.row ≡ Ok r →
        Filling (λ g. placements_for g (read ∷ rest) ++ qs g) (λ g. signals_for g (read ∷ rest) ++ xs g) t →
        Filling (λ g. placement_for g (Ok r) ++ (placements_for g rest ++ qs g)) (λ g. signal_for g (Ok r) ++ (signals_for g rest ++ xs g)) t
    parts-fill read rest r t qs xs is fills =
        let places : (g : Name) → placements_for g (read ∷ rest) ++ qs g ≡ placement_for g (Ok r) ++ (placements_for g rest ++ qs g) =
        λ g. ap (λ row. (placement_for g row ++ placements_for g rest) ++ qs g) is ∙ append_assoc (placement_for g (Ok r)) (placements_for g rest) (qs g) in
        let signs : (g : Name) → signals_for g (read ∷ rest) ++ xs g ≡ signal_for g (Ok r) ++ (signals_for g rest ++ xs g) =
        λ g. ap (λ row. (signal_for g row ++ signals_for g rest) ++ xs g) is ∙ append_assoc (signal_for g (Ok r)) (signals_for g rest) (xs g) in
        subst (λ (z : (Name → List Placement) × (Name → List SignalData)). Filling z.0 z.1 t) (λ i. (λ g. places g i, λ g. signs g i)) fills

    run-first : (replaces : Bool) (read : RowRead) (rest : List RowRead) (r : Row) (t u : Table owned Frame) → read.row ≡ Ok r → act_in p b s v y replaces t r ≡ Ok u →
        run_in p b s v y replaces t (read ∷ rest) ≡ run_in p b s v y replaces u rest
    unfolding run_in at_line ◌>>=◌
    run-first replaces read rest r t u is acts =
        ap (λ row. at_line read.line (row >>= act_in p b s v y replaces t) >>= (λ u. run_in p b s v y replaces u rest)) is
        ∙ ap (λ o. at_line read.line o >>= (λ u. run_in p b s v y replaces u rest)) acts

    pub rows-fill : (replaces : Bool) (reads : List RowRead) (t : Table owned Frame) (qs : Name → List Placement) (xs : Name → List SignalData) → AllByRecursion (ReadFits replaces) reads →
        Filling (λ g. placements_for g reads ++ qs g) (λ g. signals_for g reads ++ xs g) t → (u : Table owned Frame) × (run_in p b s v y replaces t reads ≡ Ok u) × Filling qs xs u
    unfolding run_in
    rows-fill replaces [] t qs xs fit fills = (t, refl, fills)
    rows-fill replaces (read ∷ rest) t qs xs fit fills =
        let one = row-fills replaces t fit.0.0 (λ g. placements_for g rest ++ qs g) (λ g. signals_for g rest ++ xs g) fit.0.2 (parts-fill read rest fit.0.0 t qs xs fit.0.1 fills) in
        let more = rows-fill replaces rest one.0 qs xs fit.1 one.2 in
        (more.0, run-first replaces read rest fit.0.0 t one.0 fit.0.1 one.1 ∙ more.1, more.2)
