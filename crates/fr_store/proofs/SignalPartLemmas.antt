-- The signals of one frame, as the queries show them.
use Rattle.std.proofs.Common.{◌≡◌, ℕ, suc, ◌+◌, ◌<◌, nat_lt, ◌==◌, pos, Bool, true, false, cond, Some, List, [], ◌∷◌, ◌++◌, map, filter, take, length, get_or, refl, sym, ap, ◌∙◌, subst, arith, IsPermutation, AllPairs, Less, Equal, Greater, Result, Ok, Err, if◌then◌else◌}
use Rattle.std.specs.Prelude.{⊤}
use Rattle.std.specs.Ordering.{on, nat_cmp, int_eq}
use Rattle.std.specs.Cmp.{on_total, nat_cmp_total}
use Rattle.std.proofs.lemmas.Bool.{lt-ltb}
use Rattle.std.proofs.lemmas.List.{map-append}
use Rattle.std.proofs.lemmas.List.Elements.{recursion_from_All}
use Rattle.std.proofs.lemmas.List.Sorted.{IsPermutation-refl, IsPermutation-sym, IsPermutation-trans, IsPermutation-cons, IsPermutation-middle, IsPermutation-map, IsPermutation-push_more}
use Rattle.std.proofs.Math.Seq.{take-suc}
use Rattle.sqlite.specs.Order.{Row}
use Rattle.sqlite_trees.specs.Tree.{IsAscending}
use Rattle.sqlite_keyed.proofs.ListLemmas.{map-map, filter-map, IsPermutation-filter}
use Rattle.sqlite_keyed.proofs.SortLemmas.{sorted_unique}
use Rattle.fr_base.specs.Refusing.{◌>>◌}
use Rattle.fr_base.specs.Tables.{get}
use Rattle.fr_base.specs.Book.{Book, Variant, Frame}
use Rattle.fr_base.specs.Layouts.{LayoutData, IsLayout, with_signal, admits_signal, add_signal}
use Rattle.fr_base.specs.Signals.{SignalData}
use Rattle.fr_base.specs.Step.{layout_of}
use Rattle.fr_base.specs.declared.name.Name.{Name}
use Rattle.fr_base.specs.declared.params.Params.{Params}
use Rattle.fr_base.specs.declared.refusal.Refusal.{Refusal}
use Rattle.fr_base.specs.declared.signal.Order.{Order}
use Rattle.fr_base.specs.declared.signal.Order.TheVariants.{Little, Big}
use Rattle.fr_tables.specs.Tables.{Tables}
use Rattle.fr_tables.specs.Changes.{AreListed}
use Rattle.fr_tables.specs.Rows.{key_of}
use Rattle.fr_tables.specs.Statements.{signal_row, is_signal_of, shows_signal, signals_cmp, big_number}
use Rattle.fr_store.specs.StandsFor.{HoldsRows, Entry, signal_rows, seen, own_or, is_hidden, of_parent}
use Rattle.fr_store.specs.Paging.{signal_shown}
use Rattle.fr_store.proofs.FramePartLemmas.{is_it, all_or_none, of_one}

-- ---- a layout to which signals are added

done : (r : Result ⊤ Refusal) (l n : LayoutData) → (r >> Ok l) ≡ Ok n → n ≡ l
unfolding ◌>>◌
done (Ok u) l n e = cc
done (Err f) l n e = absurd cc

added : (s : SignalData) (xs : List SignalData) → IsPermutation (s ∷ xs) (with_signal s xs)
added s [] = IsPermutation-refl (s ∷ [])
added s (t ∷ xs) = by_test (nat_lt s.start t.start) (added s xs)
  where
    by_test : (b : Bool) → IsPermutation (s ∷ xs) (with_signal s xs) → IsPermutation (s ∷ t ∷ xs) (if b then s ∷ t ∷ xs else t ∷ with_signal s xs)
    by_test true more = IsPermutation-refl _
    by_test false more = IsPermutation-trans _ _ _ (IsPermutation-sym _ _ (IsPermutation-middle (t ∷ []) s xs)) (IsPermutation-cons t _ _ more)

-- one row more
pub one_more : (f : Row → SignalData) (rows : List Row) (at : ℕ) (row : Row) (s : SignalData) (words : ℕ) (old new : LayoutData) → at < length rows → get_or rows at row ≡ row → s ≡ f row → add_signal old s ≡ Ok new
    → (old.words ≡ words) × IsPermutation (map f (take at rows)) old.signals → (new.words ≡ words) × IsPermutation (map f (take (at + 1) rows)) new.signals
unfolding add_signal
one_more f rows at row s words old new low is read add h =
    let next : at + 1 ≡ suc at = omega arith in
    let what : new ≡ record old { signals = with_signal s old.signals } = done (admits_signal old s) _ new add in
    let more : map f (take (at + 1) rows) ≡ map f (take at rows) ++ f row ∷ [] =
    ap (λ n. map f (take n rows)) next ∙ ap (map f) (take-suc rows at row low ∙ ap (λ x. take at rows ++ x ∷ []) is) ∙ map-append f (take at rows) (row ∷ []) in (
      ap (λ l. l.words) what ∙ h.0,
      subst (λ xs. IsPermutation xs new.signals) (sym more)
          (subst (λ l. IsPermutation (map f (take at rows) ++ f row ∷ []) l.signals) (sym what)
          (IsPermutation-push_more (map f (take at rows)) old.signals (with_signal s old.signals) (f row) h.1 (subst (λ r. IsPermutation (r ∷ old.signals) (with_signal s old.signals)) read (added s old.signals)))),
    )

-- ---- the frame's signals

below : (x y : ℕ) → x < y → nat_cmp x y ≡ Less
below x y h = ap (λ b. cond b Less (cond (x == y) Equal Greater)) (lt-ltb x y h)

starts_rise : (xs : List SignalData) → AllPairs (λ s t. s.start < t.start) xs → IsAscending (λ s t. on (λ s. s.start) nat_cmp s t ≡ Less) xs
starts_rise [] h = tt
starts_rise (x ∷ xs) h = (
  recursion_from_All (λ y. nat_cmp x.start y.start ≡ Less) xs (λ k d low. below x.start _ (h 0 (suc k) d (omega arith) (omega arith))),
  starts_rise xs (λ i j d before low. h (suc i) (suc j) d (omega arith) (omega arith)),
)

module _ (v s f : Name) where
  pub signals_test : (w : Name) (e : Entry) → filter (is_signal_of (key_of v s f)) (signal_rows w e) ≡ cond (is_it v s f w e.0) (signal_rows w e) []
  signals_test w e =
      filter-map (is_signal_of (key_of v s f)) (signal_row (key_of w e.0.0 e.0.1)) e.1.signals ∙ ap (map (signal_row (key_of w e.0.0 e.0.1))) (all_or_none (is_it v s f w e.0) e.1.signals) ∙ inside (is_it v s f w e.0)
    where
      inside : (b : Bool) → map (signal_row (key_of w e.0.0 e.0.1)) (cond b e.1.signals []) ≡ cond b (signal_rows w e) []
      inside true = refl
      inside false = refl

  order_again : (o : Order) → (if int_eq (big_number o) (pos 1) then Big else Little) ≡ o
  order_again Little = refl
  order_again Big = refl

  signal_again : (x : SignalData) → signal_shown (shows_signal (signal_row (key_of v s f) x)) ≡ x
  signal_again x i = record { name = x.name; start = x.start; length = x.length; order = order_again x.order i }

  same_again : (xs : List SignalData) → map (λ x. signal_shown (shows_signal (signal_row (key_of v s f) x))) xs ≡ xs
  same_again [] = refl
  same_again (x ∷ xs) = λ i. signal_again x i ∷ same_again xs i

  module _ (t : Tables) (count : ℕ) (b : Book) (stands : HoldsRows t count b) (x : Variant) (frame : Frame) (there : get b.variants v ≡ Some x) (own : get (stands.stored v).own (s, f) ≡ Some frame) where
    shown_rows : (rows : List Row) → AreListed shows_signal (is_signal_of (key_of v s f)) signals_cmp t.signals rows → IsPermutation frame.signals (map signal_shown rows)
    shown_rows rows h =
        let stored : IsPermutation (map (signal_row (key_of v s f)) frame.signals) h.found =
        IsPermutation-trans _ _ _ (subst (λ xs. IsPermutation xs (filter (is_signal_of (key_of v s f)) t.signals)) (of_one v s f signal_rows (is_signal_of (key_of v s f)) signals_test stands.stored b.variants x frame there own)
        (IsPermutation-filter (is_signal_of (key_of v s f)) _ _ stands.signals)) h.same in
        subst (λ xs. IsPermutation xs (map signal_shown rows)) (map-map signal_shown shows_signal _ ∙ map-map (λ r. signal_shown (shows_signal r)) (signal_row (key_of v s f)) frame.signals ∙ same_again frame.signals)
        (subst (λ rs. IsPermutation (map signal_shown (map shows_signal (map (signal_row (key_of v s f)) frame.signals))) (map signal_shown rs)) (sym h.shown)
        (IsPermutation-map signal_shown _ _ (IsPermutation-map shows_signal _ _ stored)))

    pub is_frame : get x.frames (s, f) ≡ Some frame
    unfolding seen
    is_frame = (stands.each v x there).frames (s, f) ∙ ap (λ o. own_or o (is_hidden t.dropped v (stands.stored v) (s, f)) (of_parent b.variants x.parent (s, f))) own

    pub layout_told : (p : Params) (rows : List Row) (found : LayoutData) → AreListed shows_signal (is_signal_of (key_of v s f)) signals_cmp t.signals rows
        → found.words ≡ p.payload_words → IsPermutation (map signal_shown rows) found.signals → IsLayout found → found ≡ layout_of p frame
    layout_told p rows found listed words signals sound =
        let same = sorted_unique (on (λ s. s.start) nat_cmp) (on_total (λ s. s.start) nat_cmp_total) found.signals frame.signals (starts_rise found.signals sound.rising)
        (IsPermutation-sym _ _ (IsPermutation-trans _ _ _ (shown_rows rows listed) signals)) ((stands.each v x there).fine (s, f) frame is_frame).by_start in
        λ i. record { words = words i; signals = sym same i }
