-- Rows that stand at the places of their slots, and one more.
use Rattle.std.proofs.Common.{◌≡◌, ℕ, ◌+◌, ◌<◌, Bool, cond, List, [], ◌∷◌, ◌++◌, Some, None, filter, length, get_or, take, refl, sym, ap, ◌∙◌, append-nil, arith, inl, inr, ◌≤◌}
use Rattle.std.proofs.Math.Dec.{eqb}
use Rattle.std.proofs.Math.ListN.{set}
use Rattle.std.proofs.lemmas.List.{take_all, take_more}
use Rattle.std.proofs.lemmas.Option.{slice_get_cases}
use Rattle.std.specs.List.{All}
use Rattle.std.proofs.lemmas.List.Elements.{filter-append}
use Rattle.fr_base.specs.declared.answer.DifferenceRow.{DifferenceRow}
use Rattle.fr_picture.specs.declared.changes.SlotChanges.{SlotChanges}
use Rattle.fr_picture.specs.Changes.{AddsAt, AddsRows, AreBySlot, changed_in, changes_at, is_of_slot, is_slot, rows_in, slot_of}
use Rattle.fr_picture.proofs.LaneLemmas.{more_one}

-- one row more at a slot's place
pub added_at : (slots : List SlotChanges) (n slot : ℕ) (v d e : SlotChanges) (row : DifferenceRow) → n < length slots → v.rows.items ≡ (get_or slots n d).rows.items ++ row ∷ []
    → (get_or (set slots n v) slot e).rows.items ≡ (get_or slots slot e).rows.items ++ cond (eqb n slot) (row ∷ []) []
added_at slots n slot v d e row small more = more_one (λ (s : SlotChanges). s.rows.items) (λ _. n) slots n slot v d e row small refl more

-- the slot is the row's
pub added_one : (old new : List SlotChanges) (n : ℕ) (row : DifferenceRow) → slot_of row.row ≡ Some n → AddsAt old n row new → AddsRows old (row ∷ []) new
unfolding changed_in
added_one old new n row is adds = λ slot v within.
    adds slot v within ∙ ap (λ o. (get_or old slot v).rows.items ++ cond (is_slot o slot) (row ∷ []) []) (sym is)

-- the row is drawn in no slot
pub added_none : (old : List SlotChanges) (row : DifferenceRow) → slot_of row.row ≡ None → AddsRows old (row ∷ []) old
unfolding changed_in
added_none old row is = λ slot v within.
    sym (append-nil (get_or old slot v).rows.items) ∙ ap (λ o. (get_or old slot v).rows.items ++ cond (is_slot o slot) (row ∷ []) []) (sym is)

pub ruleset adding = (added_at, added_one, added_none)

-- of the rows so far, and of one more
filter_more : {X : Type 0} (p : X → Bool) (rows : List X) (i : ℕ) (x : X) (mid new : List X) → i < length rows → x ≡ get_or rows i x → mid ≡ filter p (take i rows) → new ≡ mid ++ filter p (x ∷ [])
    → new ≡ filter p (take (i + 1) rows)
filter_more p rows i x mid new small read before now =
    now ∙ ap (λ t. t ++ filter p (x ∷ [])) before ∙ sym (filter-append p (take i rows) (x ∷ []))
    ∙ ap (filter p) (sym (take_more rows i x small ∙ ap (λ y. take i rows ++ y ∷ []) (sym read)))

-- a loop's step: the rows so far stand at the places of their slots, and one more
abbrev pub StandBySlot : List DifferenceRow → List SlotChanges → Type 0
StandBySlot rows slots = (slot : ℕ) (v : SlotChanges) → slot < 1024 → (get_or slots slot v).rows.items ≡ changed_in slot rows

pub standing_more : (rows : List DifferenceRow) (i : ℕ) (row : DifferenceRow) (old new : List SlotChanges) → i < length rows → row ≡ get_or rows i row
    → StandBySlot (take i rows) old → AddsRows old (row ∷ []) new → StandBySlot (take (i + 1) rows) new
unfolding changed_in
standing_more rows i row old new small read before adds = λ slot v within.
    filter_more (is_of_slot slot) rows i row _ _ small read (before slot v within) (adds slot v within)

-- no rows stand there at first
pub none_stand : (rows : List DifferenceRow) (slots : List SlotChanges) → length slots ≡ 1024 → All (λ s. s.rows.items ≡ []) slots → StandBySlot (take 0 rows) slots
unfolding changed_in
none_stand rows slots size none = λ slot v within. none slot v (omega (arith, within, size))

-- all rows stand there at last
pub all_stand : (rows : List DifferenceRow) (i : ℕ) (slots : List SlotChanges) → length rows ≤ i → length slots ≡ 1024 → StandBySlot (take i rows) slots → AreBySlot rows slots
unfolding changes_at
all_stand rows i slots end size stand = λ slot within.
    elim (slice_get_cases slots slot).1 [
      | inl (found, small, is, read) ↦ ap rows_in is ∙ ap (λ (s : SlotChanges). s.rows.items) (sym read) ∙ stand slot found within ∙ ap (changed_in slot) (take_all i rows end)
      | inr (past, is) ↦ absurd (omega (arith, past, within, size))
    ]
