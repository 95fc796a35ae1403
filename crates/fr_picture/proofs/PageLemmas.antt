-- The numbers of the cycles, one after the other, and the parts of a page.
use Rattle.std.proofs.Common.{◌≡◌, ℕ, ◌+◌, List, [], ◌∷◌, ◌++◌, subst, map, ap, ◌∙◌, sym, append-nil, append_assoc, zero-add}
use Rattle.std.specs.Cmp.Lexicographic.{slice_cmp}
use Rattle.std.specs.List.{flat_map, range_with_len}
use Rattle.std.specs.List.Sorted.{IsPermutation, IsSortedByKey, IsStableByKey}
use Rattle.std.specs.Ordering.{nat_cmp}
use Rattle.std.proofs.lemmas.Grind.{flat_map-append}
use Rattle.std.proofs.lemmas.List.FromFn.{map-range_with_len_more}
use Rattle.std.proofs.lemmas.List.Folds.{flat_map-map}
use Rattle.fr_base.specs.declared.name.Name.{Name}
use Rattle.fr_base.specs.declared.answer.DifferenceRow.{DifferenceRow}
use Rattle.fr_base.specs.declared.answer.GrantRow.{GrantRow}
use Rattle.fr_base.specs.declared.answer.Sending.{Sending}
use Rattle.fr_picture.specs.Changes.{AreBySlot, rows_of}
use Rattle.fr_picture.specs.declared.changes.SlotChanges.{SlotChanges}
use Rattle.fr_picture.specs.Lanes.{IsDrawing}
use Rattle.fr_picture.specs.declared.drawing.Drawing.{Drawing}
use Rattle.fr_picture.specs.declared.frame_table.DrawnFrame.{DrawnFrame}
use Rattle.fr_picture.specs.declared.frame_index.Entry.{Entry}
use Rattle.fr_picture.specs.declared.plan.Plan.{Plan}
use Rattle.fr_picture.specs.declared.shares.Share.{Share}
use Rattle.fr_picture.specs.Pages.{IsPage, page_text, shares_of}
use Rattle.fr_picture.specs.FrameIndexes.{IsIndex, entries_of}
use Rattle.fr_picture.specs.Shares.{share_of}

-- one number more
pub flat_map-range : (f : ℕ → List ℕ) (n : ℕ) → flat_map f (range_with_len 0 (n + 1)) ≡ flat_map f (range_with_len 0 n) ++ f n
flat_map-range f n =
    let same : (k : ℕ) → flat_map f (map (λ x. x) (range_with_len 0 k)) ≡ flat_map f (range_with_len 0 k) = λ k. flat_map-map f (λ x. x) (range_with_len 0 k) in
    sym (same (n + 1)) ∙ ap (flat_map f) (map-range_with_len_more (λ x. x) 0 n n (zero-add n)) ∙ flat_map-append f (map (λ x. x) (range_with_len 0 n)) (n ∷ [])
    ∙ ap (λ t. t ++ flat_map f (n ∷ [])) (same n) ∙ ap (λ t. flat_map f (range_with_len 0 n) ++ t) (append-nil (f n))

-- what was put behind the text so far, and one number more
pub number_more : (f : ℕ → List ℕ) (n : ℕ) (old front new : List ℕ) → front ≡ old ++ flat_map f (range_with_len 0 n) → new ≡ front ++ f n
    → new ≡ old ++ flat_map f (range_with_len 0 (n + 1))
number_more f n old front new before after =
    after ∙ ap (λ t. t ++ f n) before ∙ append_assoc old (flat_map f (range_with_len 0 n)) (f n) ∙ ap (λ t. old ++ t) (sym (flat_map-range f n))

-- the frames with their numbers, in order
pub index_of : (frames : List DrawnFrame) (entries index : List Entry) → entries ≡ entries_of frames → IsPermutation entries index
    → IsSortedByKey (λ e. e.frame) (slice_cmp nat_cmp) index → IsStableByKey (λ e. e.frame) (slice_cmp nat_cmp) entries index → IsIndex frames index
index_of frames entries index own same sorted stable = record {
  same = subst (λ es. IsPermutation es index) own same;
  sorted = sorted;
  stable = subst (λ es. IsStableByKey (λ e. e.frame) (slice_cmp nat_cmp) es index) own stable;
}

-- what is known of a page, for the plan's own rows
pub page_of : (plan : Plan) (drawing : Drawing) (index entries : List Entry) (slots stood : List SlotChanges) (shares listed : List Share) (holds : List GrantRow) (cells : List Sending) (changes : List DifferenceRow) (frames : List DrawnFrame) (names : List Name) (count : ℕ) (text : List ℕ)
    → holds ≡ plan.grants → cells ≡ plan.cells → names ≡ plan.suppliers.items → frames ≡ plan.frames.items → changes ≡ rows_of plan.changes
    → IsDrawing plan.params holds cells changes drawing → IsIndex frames index → AreBySlot changes slots
    → entries ≡ index → stood ≡ slots → count ≡ plan.params.cycles → shares ≡ map (share_of names count holds cells) names → listed ≡ shares
    → text ≡ page_text plan drawing entries stood listed → IsPage plan text
page_of plan drawing index entries slots stood shares listed holds cells changes frames names count text e1 e2 e3 e4 e0 drawn indexed standing e5 es e6 e7 e8 e9 =
    let full : listed ≡ shares_of plan =
    e8 ∙ e7 ∙ ap (λ n. map (share_of names n holds cells) names) e6 ∙ ap (λ gs. map (share_of names plan.params.cycles gs cells) names) e1
    ∙ ap (λ cs. map (share_of names plan.params.cycles plan.grants cs) names) e2 ∙ ap (λ ns. map (share_of ns plan.params.cycles plan.grants plan.cells) ns) e3 in
    record {
      drawing = drawing;
      drawn = subst (λ ds. IsDrawing plan.params plan.grants plan.cells ds drawing) e0
          (subst (λ cs. IsDrawing plan.params plan.grants cs changes drawing) e2 (subst (λ gs. IsDrawing plan.params gs cells changes drawing) e1 drawn));
      index = index;
      indexed = subst (λ fs. IsIndex fs index) e4 indexed;
      slots = slots;
      by_slot = subst (λ ds. AreBySlot ds slots) e0 standing;
      is = e9 ∙ ap (λ xs. page_text plan drawing xs stood listed) e5 ∙ ap (λ ss. page_text plan drawing index ss listed) es
          ∙ ap (λ ss. page_text plan drawing index slots ss) full;
    }
