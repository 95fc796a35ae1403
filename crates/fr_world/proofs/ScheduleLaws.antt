-- What is sent in cells, cell by cell.
use Rattle.std.proofs.Common.{◌≡◌, ℕ, zero, suc, ◌+◌, ◌-◌, ◌≤◌, ◌<◌, true, false, ◌&&◌, ◌||◌, cond, eqb, List, [], length, take, get_or, ◌∷◌, ◌++◌, map, filter, Option, Some, None, option_map, min, refl, sym, ap, ◌∙◌, inl, inr, arith, add-zero, append_assoc, append-nil}
use Rattle.std.specs.Prelude.{nat_le}
use Rattle.std.specs.List.{cons_option, flat_map, range_with_len}
use Rattle.std.proofs.lemmas.Bool.{and_from, cases_lt}
use Rattle.std.proofs.lemmas.Grind.{flat_map-append}
use Rattle.std.proofs.lemmas.Bool.Decides.{nat_tests}
use Rattle.std.proofs.lemmas.List.{map-append, take_more}
use Rattle.std.proofs.lemmas.List.Elements.{filter-append, filter_map-append}
use Rattle.fr_base.specs.Book as book
use Rattle.fr_base.specs.Cells.{Cell, cells_in, cluster_cells, has_cell, slots_of}
use Rattle.fr_base.specs.Channels.{channels_in, has_channel}
use Rattle.fr_base.specs.Cycles.{all_cycles, has_cycle}
use Rattle.fr_base.specs.Numbers.{is_slot}
use Rattle.fr_base.specs.Schedule.{entries, fill}
use Rattle.fr_base.specs.Queries.{sending}
use Rattle.fr_base.specs.Step.{OwnRows}
use Rattle.fr_base.specs.declared.answer.Sending.{Sending}
use Rattle.fr_base.specs.declared.channel.Channel.{Channel}
use Rattle.fr_base.specs.declared.params.Params.{Params}
use Rattle.fr_base.specs.declared.placement.Placement.{Placement}
use Rattle.fr_world.specs.Sendings.{cycle_cells, filled, is_used, page_sendings, sender_in, sent_in}
use Rattle.fr_world.specs.declared.triggerings.FrameSender.{FrameSender}
use Rattle.fr_world.specs.declared.triggerings.FrameTriggering.{FrameTriggering}
use Rattle.fr_world.proofs.SharedLaws.{has_cell-parts}

abbrev pub cell : ℕ → ℕ → Channel → Cell
cell k slot x = record { cycle = k; slot = slot; channel = x }

-- a placement has a cell of its slot, on one of its channels, in one of its cycles
pub has_cell_parts : (q : Placement) (c : Cell) → has_cell q c ≡ ((eqb c.slot q.slot && has_channel q.channels c.channel) && has_cycle q.cycles c.cycle)
has_cell_parts = has_cell-parts

-- ---- what is sent in some cells

pub sent-nothing : (fs : List (book.Sender × Placement)) → sent_in fs [] ≡ []
unfolding sent_in entries
sent-nothing fs = refl

pub sent-append : (fs : List (book.Sender × Placement)) (xs ys : List Cell) → sent_in fs (xs ++ ys) ≡ sent_in fs xs ++ sent_in fs ys
unfolding sent_in entries
sent-append fs xs ys =
    ap (map sending) (filter_map-append (λ c. option_map (λ o. (c, o)) (fill fs c)) xs ys)
    ∙ map-append sending (entries (fill fs) xs) (entries (fill fs) ys)

sent_as : (c : Cell) (r : Option book.Sender) → map sending (cons_option (option_map (λ o. (c, o)) r) []) ≡ cons_option (option_map (λ o. sending (c, o)) r) []
sent_as c None = refl
sent_as c (Some o) = refl

pub sent-cell : (fs : List (book.Sender × Placement)) (c : Cell) → sent_in fs (c ∷ []) ≡ cons_option (option_map (λ o. sending (c, o)) (fill fs c)) []
unfolding sent_in entries
sent-cell fs c = sent_as c (fill fs c)

-- first some cells, and then others
pub sent-more : (fs : List (book.Sender × Placement)) (old mid new : List Sending) (xs ys : List Cell) → mid ≡ old ++ sent_in fs xs → new ≡ mid ++ sent_in fs ys → new ≡ old ++ sent_in fs (xs ++ ys)
sent-more fs old mid new xs ys m n =
    n ∙ ap (λ rows. rows ++ sent_in fs ys) m
    ∙ append_assoc old (sent_in fs xs) (sent_in fs ys)
    ∙ ap (λ rows. old ++ rows) (sym (sent-append fs xs ys))

pub range-more : (a n : ℕ) → range_with_len a (suc n) ≡ range_with_len a n ++ (a + n) ∷ []
range-more a zero = ap (λ x. x ∷ []) (sym (add-zero a))
range-more a (suc n) =
    let e : a + 1 + n ≡ a + suc n = omega arith in
    ap (λ xs. a ∷ xs) (range-more (a + 1) n ∙ ap (λ x. range_with_len (a + 1) n ++ x ∷ []) e)

abbrev slot_cells : ℕ → List Channel → List ℕ → List Cell
slot_cells k chs slots = flat_map (λ slot. map (λ x. cell k slot x) chs) slots

cells-slots : (k : ℕ) (chs : List Channel) (xs ys : List ℕ) → cells_in (k ∷ []) (xs ++ ys) chs ≡ cells_in (k ∷ []) xs chs ++ cells_in (k ∷ []) ys chs
cells-slots k chs xs ys =
    append-nil (slot_cells k chs (xs ++ ys))
    ∙ flat_map-append (λ slot. map (λ x. cell k slot x) chs) xs ys
    ∙ (λ i. sym (append-nil (slot_cells k chs xs)) i ++ sym (append-nil (slot_cells k chs ys)) i)

-- the cells of a slot in a cycle
abbrev pub column : ℕ → ℕ → List Channel → List Cell
column k slot chs = map (λ x. cell k slot x) chs

pub cells-column : (k slot : ℕ) (chs : List Channel) → cells_in (k ∷ []) (slot ∷ []) chs ≡ column k slot chs
cells-column k slot chs = append-nil (column k slot chs ++ []) ∙ append-nil (column k slot chs)

-- one channel more of a slot: what is sent there, if anything is
sent-channel : (fs : List (book.Sender × Placement)) (k slot : ℕ) (chs : List Channel) (i : ℕ) (x y : Channel) (old mid new : List Sending) (r : Option Sending) → i < length chs → x ≡ get_or chs i y
    → mid ≡ old ++ sent_in fs (column k slot (take i chs))
    → r ≡ option_map (λ o. sending (cell k slot x, o)) (fill fs (cell k slot x))
    → new ≡ mid ++ cons_option r []
    → new ≡ old ++ sent_in fs (column k slot (take (i + 1) chs))
sent-channel fs k slot chs i x y old mid new r l e h found g =
    sent-more fs old mid new _ (cell k slot x ∷ []) h
    (g ∙ ap (λ sent. mid ++ sent) (ap (λ sent. cons_option sent []) found ∙ sym (sent-cell fs (cell k slot x))))
    ∙ ap (λ cells. old ++ sent_in fs cells)
    (sym (map-append (λ x. cell k slot x) (take i chs) (x ∷ [])) ∙ ap (column k slot) (ap (λ z. take i chs ++ z ∷ []) e ∙ sym (take_more chs i y l)))

sending-by : {S : Type 0} (c : Cell) (who : S → book.Sender) (s : Option S) → option_map (λ s. sending (c, who s)) s ≡ option_map (λ o. sending (c, o)) (option_map who s)
sending-by c who None = refl
sending-by c who (Some s) = refl

-- the same, where its sender was looked up
pub sent-channel-by : {S : Type 0} (who : S → book.Sender) (s : Option S) (fs : List (book.Sender × Placement)) (k slot : ℕ) (chs : List Channel) (i : ℕ) (x y : Channel) (old mid new : List Sending) → i < length chs → x ≡ get_or chs i y
    → mid ≡ old ++ sent_in fs (column k slot (take i chs))
    → option_map who s ≡ fill fs (cell k slot x)
    → new ≡ mid ++ cons_option (option_map (λ s. sending (cell k slot x, who s)) s) []
    → new ≡ old ++ sent_in fs (column k slot (take (i + 1) chs))
sent-channel-by who s fs k slot chs i x y old mid new l e h found g =
    sent-channel fs k slot chs i x y old mid new _ l e h (sending-by (cell k slot x) who s ∙ ap (option_map (λ o. sending (cell k slot x, o))) found) g

-- one slot more of a cycle
pub sent-slot : (fs : List (book.Sender × Placement)) (k : ℕ) (chs : List Channel) (slots : List ℕ) (i slot : ℕ) (old mid new : List Sending) → i < length slots → slot ≡ get_or slots i slot
    → mid ≡ old ++ sent_in fs (cells_in (k ∷ []) (take i slots) chs)
    → new ≡ mid ++ sent_in fs (cells_in (k ∷ []) (slot ∷ []) chs)
    → new ≡ old ++ sent_in fs (cells_in (k ∷ []) (take (i + 1) slots) chs)
sent-slot fs k chs slots i slot old mid new l e h g =
    sent-more fs old mid new _ _ h g
    ∙ ap (λ cells. old ++ sent_in fs cells) (sym (cells-slots k chs (take i slots) (slot ∷ [])))
    ∙ ap (λ xs. old ++ sent_in fs (cells_in (k ∷ []) xs chs)) (ap (λ x. take i slots ++ x ∷ []) e ∙ sym (take_more slots i slot l))

-- one cycle more
pub sent-cycle : (fs : List (book.Sender × Placement)) (slots : List ℕ) (chs : List Channel) (mid new : List Sending) (k n : ℕ) → n ≡ suc k
    → mid ≡ sent_in fs (cells_in (range_with_len 0 k) slots chs)
    → new ≡ mid ++ sent_in fs (cells_in (k ∷ []) slots chs)
    → new ≡ sent_in fs (cells_in (range_with_len 0 n) slots chs)
sent-cycle fs slots chs mid new k n f h g =
    let z : 0 + k ≡ k = omega arith in
    sent-more fs [] mid new _ _ h g
    ∙ ap (sent_in fs) (sym (flat_map-append (λ k. slot_cells k chs slots) (range_with_len 0 k) (k ∷ [])) ∙ ap (λ x. cells_in (range_with_len 0 k ++ x ∷ []) slots chs) (sym z) ∙ ap (λ ks. cells_in ks slots chs) (sym (range-more 0 k)) ∙ ap (λ l. cells_in (range_with_len 0 l) slots chs) (sym f))

-- ---- what is not in a slot

elsewhere : (k slot : ℕ) (x : Channel) (p : FrameTriggering) → eqb slot p.placement.slot ≡ false → has_cell p.placement (cell k slot x) ≡ false
elsewhere k slot x p e =
    has_cell-parts p.placement (cell k slot x)
    ∙ ap (λ b. (b && has_channel p.placement.channels x) && has_cycle p.placement.cycles k) e

fill-nothing : (c : Cell) → None ≡ fill {O = book.Sender} [] c
unfolding fill
fill-nothing c = refl

true_is_not : true ≡ false → ⊥
true_is_not e = cc

-- a slot without a placement has no filled cell
fill-unused : (ss : List FrameSender) (ps : List FrameTriggering) (k slot : ℕ) (x : Channel) → is_used ps slot ≡ false → fill (filled ss ps) (cell k slot x) ≡ None
unfolding fill
fill-unused ss [] k slot x e = refl
fill-unused ss (p ∷ ps) k slot x e =
    let c : Cell = cell k slot x in
    elim (eqb slot p.placement.slot) as (λ b. (b || is_used ps slot) ≡ false → (b ≡ false → has_cell p.placement c ≡ false) → cond (has_cell p.placement c) (Some (sender_in ss p)) (fill (filled ss ps) c) ≡ None) [
      | true ↦ λ f h. absurd (true_is_not f)
      | false ↦ λ f h. ap (λ b. cond b (Some (sender_in ss p)) (fill (filled ss ps) c)) (h refl) ∙ fill-unused ss ps k slot x f
    ] e (elsewhere k slot x p)

-- where owners fill a slot's cells alike, the same is sent there
sent-alike : (fs gs : List (book.Sender × Placement)) (k slot : ℕ) (chs : List Channel) → ((x : Channel) → fill fs (cell k slot x) ≡ fill gs (cell k slot x)) → sent_in fs (column k slot chs) ≡ sent_in gs (column k slot chs)
sent-alike fs gs k slot [] h = sent-nothing fs ∙ sym (sent-nothing gs)
sent-alike fs gs k slot (x ∷ chs) h =
    let c : Cell = cell k slot x in
    let same : sent_in fs (c ∷ []) ≡ sent_in gs (c ∷ []) = sent-cell fs c ∙ ap (λ r. cons_option (option_map (λ o. sending (c, o)) r) []) (h x) ∙ sym (sent-cell gs c) in
    sent-append fs (c ∷ []) (column k slot chs)
    ∙ (λ i. same i ++ sent-alike fs gs k slot chs h i)
    ∙ sym (sent-append gs (c ∷ []) (column k slot chs))

sent-empty : (cells : List Cell) → sent_in [] cells ≡ []
unfolding sent_in entries fill
sent-empty [] = refl
sent-empty (c ∷ cells) = sent-empty cells

sent-unused : (ss : List FrameSender) (ps : List FrameTriggering) (k slot : ℕ) (chs : List Channel) → is_used ps slot ≡ false → sent_in (filled ss ps) (column k slot chs) ≡ []
sent-unused ss ps k slot chs e = sent-alike (filled ss ps) [] k slot chs (λ x. fill-unused ss ps k slot x e ∙ fill-nothing (cell k slot x)) ∙ sent-empty (column k slot chs)

-- a cycle's slots without a placement can be left out
sent-used : (ss : List FrameSender) (ps : List FrameTriggering) (k : ℕ) (chs : List Channel) (slots : List ℕ) → sent_in (filled ss ps) (slot_cells k chs (filter (is_used ps) slots)) ≡ sent_in (filled ss ps) (slot_cells k chs slots)
sent-used ss ps k chs [] = refl
sent-used ss ps k chs (slot ∷ slots) =
    let used : List ℕ = filter (is_used ps) slots in
    elim (is_used ps slot) as (λ b. (b ≡ false → sent_in (filled ss ps) (column k slot chs) ≡ []) → sent_in (filled ss ps) (slot_cells k chs (cond b (slot ∷ used) used)) ≡ sent_in (filled ss ps) (column k slot chs ++ slot_cells k chs slots)) [
      | true ↦ λ h. sent-append (filled ss ps) (column k slot chs) (slot_cells k chs used) ∙ ap (λ rest. sent_in (filled ss ps) (column k slot chs) ++ rest) (sent-used ss ps k chs slots) ∙ sym (sent-append (filled ss ps) (column k slot chs) (slot_cells k chs slots))
      | false ↦ λ h. sent-used ss ps k chs slots ∙ ap (λ front. front ++ sent_in (filled ss ps) (slot_cells k chs slots)) (sym (h refl)) ∙ sym (sent-append (filled ss ps) (column k slot chs) (slot_cells k chs slots))
    ] (sent-unused ss ps k slot chs)

sent-used-slots : (ss : List FrameSender) (ps : List FrameTriggering) (ks : List ℕ) (chs : List Channel) (slots : List ℕ) → sent_in (filled ss ps) (cells_in ks (filter (is_used ps) slots) chs) ≡ sent_in (filled ss ps) (cells_in ks slots chs)
sent-used-slots ss ps [] chs slots = refl
sent-used-slots ss ps (k ∷ ks) chs slots =
    sent-append (filled ss ps) (slot_cells k chs (filter (is_used ps) slots)) (cells_in ks (filter (is_used ps) slots) chs)
    ∙ (λ i. sent-used ss ps k chs slots i ++ sent-used-slots ss ps ks chs slots i)
    ∙ sym (sent-append (filled ss ps) (slot_cells k chs slots) (cells_in ks slots chs))

-- after the last cycle that is the whole schedule
pub sent-all : (p : Params) (ss : List FrameSender) (ps : List FrameTriggering) (used : List ℕ) (rows : List Sending) (n : ℕ) → n ≡ p.cycles → used ≡ filter (is_used ps) (slots_of p)
    → rows ≡ sent_in (filled ss ps) (cells_in (range_with_len 0 n) used (channels_in p.channels)) → rows ≡ sent_in (filled ss ps) (cluster_cells p)
unfolding cluster_cells all_cycles
sent-all p ss ps used rows n e u h =
    h ∙ ap (λ slots. sent_in (filled ss ps) (cells_in (range_with_len 0 n) slots (channels_in p.channels))) u
    ∙ sent-used-slots ss ps (range_with_len 0 n) (channels_in p.channels) (slots_of p)
    ∙ ap (λ n. sent_in (filled ss ps) (cells_in (range_with_len 0 n) (slots_of p) (channels_in p.channels))) e

-- and of one cycle
pub sent-one : (p : Params) (ss : List FrameSender) (ps : List FrameTriggering) (used : List ℕ) (k : ℕ) → used ≡ filter (is_used ps) (slots_of p)
    → sent_in (filled ss ps) (cells_in (k ∷ []) used (channels_in p.channels)) ≡ sent_in (filled ss ps) (cycle_cells p k)
sent-one p ss ps used k u =
    ap (λ slots. sent_in (filled ss ps) (cells_in (k ∷ []) slots (channels_in p.channels))) u
    ∙ sent-used-slots ss ps (k ∷ []) (channels_in p.channels) (slots_of p)

-- the slot of a number, if a placement is in it
pub used-one : (ps : List FrameTriggering) (old new : List ℕ) (slot number : ℕ) → Some slot ≡ Some number → is_used ps slot ≡ true → new ≡ old ++ slot ∷ [] → new ≡ old ++ filter (is_used ps) (number ∷ [])
used-one ps old new slot number is used e =
    let same : slot ≡ number = cc in
    e ∙ ap (λ xs. old ++ xs) (ap (λ b. cond b (slot ∷ []) []) (sym used) ∙ ap (λ n. filter (is_used ps) (n ∷ [])) same)

pub used-none : (ps : List FrameTriggering) (old new : List ℕ) (slot number : ℕ) → Some slot ≡ Some number → is_used ps slot ≡ false → new ≡ old → new ≡ old ++ filter (is_used ps) (number ∷ [])
used-none ps old new slot number is unused e =
    let same : slot ≡ number = cc in
    e ∙ sym (append-nil old) ∙ ap (λ xs. old ++ xs) (ap (λ b. cond b (slot ∷ []) []) (sym unused) ∙ ap (λ n. filter (is_used ps) (n ∷ [])) same)

-- one slot more
pub used-more : (ps : List FrameTriggering) (old new : List ℕ) (number m n : ℕ) → number ≡ 1 + m → n ≡ suc m
    → old ≡ filter (is_used ps) (range_with_len 1 m)
    → new ≡ old ++ filter (is_used ps) (number ∷ [])
    → new ≡ filter (is_used ps) (range_with_len 1 n)
used-more ps old new number m n e f h g =
    g
    ∙ (λ i. h i ++ filter (is_used ps) (e i ∷ []))
    ∙ sym (filter-append (is_used ps) (range_with_len 1 m) ((1 + m) ∷ []))
    ∙ ap (filter (is_used ps)) (sym (range-more 1 m) ∙ ap (range_with_len 1) (sym f))

-- slots past the last one that is used can be left out
unused-past : (ps : List FrameTriggering) (n k : ℕ) → ((slot : ℕ) → n < slot → is_used ps slot ≡ false) → filter (is_used ps) (range_with_len 1 (n + k)) ≡ filter (is_used ps) (range_with_len 1 n)
unused-past ps n zero h = ap (λ m. filter (is_used ps) (range_with_len 1 m)) (add-zero n)
unused-past ps n (suc k) h =
    let more : n + suc k ≡ suc (n + k) = omega arith in
    let used : List ℕ = filter (is_used ps) (range_with_len 1 (n + k)) in
    ap (λ m. filter (is_used ps) (range_with_len 1 m)) more
    ∙ ap (filter (is_used ps)) (range-more 1 (n + k))
    ∙ filter-append (is_used ps) (range_with_len 1 (n + k)) ((1 + (n + k)) ∷ [])
    ∙ ap (λ b. used ++ cond b ((1 + (n + k)) ∷ []) []) (h (1 + (n + k)) (omega arith))
    ∙ append-nil used
    ∙ unused-past ps n k h

pub used-to : (ps : List FrameTriggering) (n last all : ℕ) → n ≡ min all last → ((slot : ℕ) → last < slot → is_used ps slot ≡ false) → filter (is_used ps) (range_with_len 1 n) ≡ filter (is_used ps) (range_with_len 1 all)
used-to ps n last all e h = elim (cases_lt all last) [
  | inl l ↦
      let same : n ≡ all = omega (arith, e, l) in
      ap (λ m. filter (is_used ps) (range_with_len 1 m)) same
  | inr l ↦
      let same : n ≡ last = omega (arith, e, l) in
      let rest : last + (all - last) ≡ all = omega (arith, l) in
      ap (λ m. filter (is_used ps) (range_with_len 1 m)) same
      ∙ sym (unused-past ps last (all - last) h)
      ∙ ap (λ m. filter (is_used ps) (range_with_len 1 m)) rest
]

-- ---- numbers of slots

is_slot-within : (number : ℕ) → 1 ≤ number → number ≤ 1023 → is_slot number ≡ true
is_slot-within number l h = and_from (nat_le 1 number) (nat_le number 1023) (grind (arith, nat_tests)) (grind (arith, nat_tests))

-- a number within the bounds is a slot's
pub slot-within : (number : ℕ) (r : Option ℕ) → 1 ≤ number → number ≤ 1023 → r ≡ cond (is_slot number) (Some number) None → r ≡ Some number
slot-within number r l h e = e ∙ ap (λ b. cond b (Some number) None) (is_slot-within number l h)

pub some_slot : (r : Option ℕ) (number : ℕ) → r ≡ Some number → r ≡ None → ⊥
some_slot r number e f = cc

-- ---- the placements of frames

-- a page's are sent in the cells of a cycle as it says
pub page_sendings-sent : (page : OwnRows) (fs : List (book.Sender × Placement)) (k : ℕ) → fs ≡ book.placements_of page.frames → sent_in fs (cycle_cells page.params k) ≡ page_sendings page k
unfolding page_sendings sent_in book.schedule_of
page_sendings-sent page fs k e = ap (λ gs. map sending (entries (fill gs) (cycle_cells page.params k))) e
