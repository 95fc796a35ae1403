-- What is told of two variants is what the one has and the other has not.
use Rattle.std.proofs.Common.{◌≡◌, ℕ, Bool, true, false, cond, not, ◌&&◌, List, [], ◌∷◌, ◌++◌, map, filter, Option, Some, None, is_some, Ok, IfOk, IsTrue, true≢false, refl, arith, sym, ap, subst, ◌∙◌, Ordering, Less, Equal, Greater, inl, inr}
use Rattle.std.specs.Prelude.{T, ⊤, ◌==◌}
use Rattle.std.specs.Ordering.{eq_by_cmp}
use Rattle.std.specs.Cmp.{tied_itself}
use Rattle.std.specs.FinMap.Entries.{find, is_sorted, below_all, by_order}
use Rattle.std.proofs.lemmas.Bool.{cases_Bool, eqb-true}
use Rattle.std.proofs.lemmas.List.{map-append}
use Rattle.std.proofs.lemmas.List.Elements.{filter-append}
use Rattle.fr_base.specs.TableRows.{both, first, second}
use Rattle.fr_base.specs.Tables.{Order, Table, contains, get, only, each}
use Rattle.fr_base.specs.Names.{same_text}
use Rattle.fr_base.specs.Book.{Holder, Frame, Variant, Book}
use Rattle.fr_base.specs.Step.{begun, common}
use Rattle.fr_base.specs.declared.beginning.Beginning.TheVariants.{From}
use Rattle.fr_base.specs.declared.request.CommonCommand.TheVariants.{OpenVariant}
use Rattle.fr_base.specs.Signals.{SignalData, text_of_order}
use Rattle.fr_base.specs.Merging.{gone, come, met, put_in, merge}
use Rattle.fr_base.specs.Keys.{names, owned, channel_slots}
use Rattle.fr_base.specs.Seen.{seen_grants, seen_frames}
use Rattle.fr_base.specs.Differences.{between, gone_in, new_in, stands, has_row, lacked, shared, placed_frames, starts, all_placements, all_signals, gap_of, grant_seen, frame_seen, placement_seen, signal_seen, gap_seen, same_holder, same_signal, same_gap, grants_differ, frames_differ, differences, frames_lacked, frames_shared, missing, in_both}
use Rattle.fr_base.specs.declared.name.Name.{Name}
use Rattle.fr_base.specs.declared.params.Params.{Params}
use Rattle.fr_base.specs.declared.actor.Actor.{Actor}
use Rattle.fr_base.specs.declared.signal.Order.{Order as Endian}
use Rattle.fr_base.specs.declared.signal.Order.TheVariants as order
use Rattle.fr_base.specs.declared.answer.DifferenceRow.{DifferenceRow}
use Rattle.fr_base.specs.declared.answer.SeenRow.{SeenRow}
use Rattle.fr_base.proofs.TableLaws.{equal, get-insert, get-only, kept, same_table}
use Rattle.fr_base.proofs.SoundRefusing.{gives_or, gives_bind, gives_when}
use Rattle.fr_base.proofs.SoundTables.{same_key, same_some}
use Rattle.fr_base.proofs.SoundRows.{same_text-is}
use Rattle.fr_base.proofs.AloneCells.{same_text-itself}
use Rattle.fr_base.proofs.MergeLaws.{less, is_less, lesser, below-less, nowhere, found_first, found_behind, between-merge}

pub gone-append : (xs ys : List DifferenceRow) → gone_in (xs ++ ys) ≡ gone_in xs ++ gone_in ys
unfolding gone_in
gone-append xs ys = ap (map (λ r. r.row)) (filter-append (λ r. not r.is_new) xs ys) ∙ map-append (λ r. r.row) (filter (λ r. not r.is_new) xs) (filter (λ r. not r.is_new) ys)

pub new-append : (xs ys : List DifferenceRow) → new_in (xs ++ ys) ≡ new_in xs ++ new_in ys
unfolding new_in
new-append xs ys = ap (map (λ r. r.row)) (filter-append (λ r. r.is_new) xs ys) ∙ map-append (λ r. r.row) (filter (λ r. r.is_new) xs) (filter (λ r. r.is_new) ys)

-- ---- of two tables

module _ {K V : Type 0} (o : Order K) (same : V → V → Bool) (told : K × V → SeenRow) where
  abbrev compare : K × V → K × V → Ordering
  compare x y = o.compare x.0 y.0

  abbrev same_value : K × V → K × V → Bool
  same_value x y = same x.1 y.1

  abbrev walk : List (K × V) → List (K × V) → List DifferenceRow
  walk es fs = merge compare same_value told es fs

  abbrev gone_row : K × V → DifferenceRow
  gone_row x = gone compare same_value told x

  abbrev new_row : K × V → DifferenceRow
  new_row x = come compare same_value told x

  -- whether a row is not in a list
  abbrev lacks : List (K × V) → K × V → Bool
  lacks fs e = not (stands same e.1 (find o.compare e.0 fs))

  -- whether a row of the other list is not in the one
  abbrev is_new : List (K × V) → K × V → Bool
  is_new es e = not (stands (λ v w. same w v) e.1 (find o.compare e.0 es))

  filter-above : (k : K) (p q : K × V → Bool) (es : List (K × V)) → T (below_all o.compare k es) → ((e : K × V) → o.compare k e.0 ≡ Less → p e ≡ q e) → filter p es ≡ filter q es
  filter-above k p q [] h alike = refl
  filter-above k p q (e ∷ es) h alike = λ i.
      cond (alike e (less _ (first _ _ h)) i) (e ∷ filter-above k p q es (second _ _ h) alike i) (filter-above k p q es (second _ _ h) alike i)

  told-cond : (b : Bool) (x : K × V) (es : List (K × V)) → map told (cond b (x ∷ es) es) ≡ cond b (told x ∷ []) [] ++ map told es
  told-cond true x es = refl
  told-cond false x es = refl

  gone-met : (x y : K × V) (b : Bool) → gone_in (cond b [] (gone_row x ∷ new_row y ∷ [])) ≡ cond (not b) (told x ∷ []) []
  unfolding gone_in
  gone-met x y true = refl
  gone-met x y false = refl

  new-met : (x y : K × V) (b : Bool) → new_in (cond b [] (gone_row x ∷ new_row y ∷ [])) ≡ cond (not b) (told y ∷ []) []
  unfolding new_in
  new-met x y true = refl
  new-met x y false = refl

  gone-passed : (y : K × V) (ds : List DifferenceRow) → gone_in (new_row y ∷ ds) ≡ gone_in ds
  unfolding gone_in
  gone-passed y ds = refl

  new-passed : (x : K × V) (ds : List DifferenceRow) → new_in (gone_row x ∷ ds) ≡ new_in ds
  unfolding new_in
  new-passed x ds = refl

  -- ---- what is gone

  gone-news : (fs : List (K × V)) → gone_in (map new_row fs) ≡ []
  unfolding gone_in
  gone-news [] = refl
  gone-news (y ∷ fs) = gone-news fs

  -- a row that stands nowhere is gone
  gone-row : (x : K × V) (es fs : List (K × V)) (ds : List DifferenceRow) → T (below_all o.compare x.0 fs) → gone_in ds ≡ map told (filter (lacks fs) es) → gone_in (gone_row x ∷ ds) ≡ map told (filter (lacks fs) (x ∷ es))
  unfolding gone_in
  gone-row x es fs ds h rest = ap (λ rs. told x ∷ rs) rest ∙ ap (λ r. map told (cond (not (stands same x.1 r)) (x ∷ filter (lacks fs) es) (filter (lacks fs) es))) (sym (nowhere o x.0 fs h))

  gone-one_key : (x y : K × V) (es fs : List (K × V)) → x.0 ≡ y.0 → T (below_all o.compare x.0 es) → gone_in (walk es fs) ≡ map told (filter (lacks fs) es) →
      gone_in (met compare same_value told x y ++ walk es fs) ≡ map told (filter (lacks (y ∷ fs)) (x ∷ es))
  unfolding met
  gone-one_key x y es fs e h rest =
      gone-append (met compare same_value told x y) (walk es fs)
      ∙ (λ i. gone-met x y (same x.1 y.1) i ++ rest i)
      ∙ ap (λ rs. cond (not (same x.1 y.1)) (told x ∷ []) [] ++ map told rs) (filter-above x.0 (lacks fs) (lacks (y ∷ fs)) es h (λ k above. ap (λ r. not (stands same k.1 r)) (sym (found_behind o y fs k.0 (ap (λ z. o.compare z k.0) (sym e) ∙ above)))))
      ∙ sym (told-cond (not (same x.1 y.1)) x (filter (lacks (y ∷ fs)) es))
      ∙ ap (λ r. map told (cond (not (stands same x.1 r)) (x ∷ filter (lacks (y ∷ fs)) es) (filter (lacks (y ∷ fs)) es))) (sym (ap (λ k. find o.compare k (y ∷ fs)) e ∙ found_first o y fs))

  gone-in : (x : K × V) (es : List (K × V)) → T (below_all o.compare x.0 es) → ((fs : List (K × V)) → T (is_sorted o.compare fs) → gone_in (walk es fs) ≡ map told (filter (lacks fs) es)) →
      (fs : List (K × V)) → T (is_sorted o.compare fs) → gone_in (put_in compare same_value told x (walk es) fs) ≡ map told (filter (lacks fs) (x ∷ es))
  unfolding put_in
  gone-in x es h rest [] g = gone-row x es [] (walk es []) tt (rest [] tt)
  gone-in x es h rest (y ∷ fs) g =
      elim (o.compare x.0 y.0) as (λ r. o.compare x.0 y.0 ≡ r → gone_in (by_order r (gone_row x ∷ walk es (y ∷ fs)) (met compare same_value told x y ++ walk es fs) (new_row y ∷ put_in compare same_value told x (walk es) fs)) ≡ map told (filter (lacks (y ∷ fs)) (x ∷ es))) [
        | Less ↦ λ e. gone-row x es (y ∷ fs) (walk es (y ∷ fs)) (both _ _ (is_less _ e) (below-less o x.0 y.0 fs e (first _ _ g))) (rest (y ∷ fs) g)
        | Equal ↦ λ e. gone-one_key x y es fs (o.exact x.0 y.0 e) h (rest fs (second _ _ g))
        | Greater ↦ λ e. gone-passed y (put_in compare same_value told x (walk es) fs)
            ∙ gone-in x es h rest fs (second _ _ g)
            ∙ ap (map told) (filter-above y.0 (lacks fs) (lacks (y ∷ fs)) (x ∷ es) (both _ _ (is_less _ (lesser o x.0 y.0 e)) (below-less o y.0 x.0 es (lesser o x.0 y.0 e) h)) (λ k above. ap (λ r. not (stands same k.1 r)) (sym (found_behind o y fs k.0 above))))
      ] refl

  gone-walk : (es : List (K × V)) → T (is_sorted o.compare es) → (fs : List (K × V)) → T (is_sorted o.compare fs) → gone_in (walk es fs) ≡ map told (filter (lacks fs) es)
  unfolding merge
  gone-walk [] h fs g = gone-news fs
  gone-walk (x ∷ es) h fs g = gone-in x es (first _ _ h) (gone-walk es (second _ _ h)) fs g

  -- ---- what is new

  new-news : (fs : List (K × V)) → new_in (map new_row fs) ≡ map told (filter (is_new []) fs)
  unfolding new_in
  new-news [] = refl
  new-news (y ∷ fs) = ap (λ rs. told y ∷ rs) (new-news fs)

  new-row : (y : K × V) (es fs : List (K × V)) (ds : List DifferenceRow) → T (below_all o.compare y.0 es) → new_in ds ≡ map told (filter (is_new es) fs) → new_in (new_row y ∷ ds) ≡ map told (filter (is_new es) (y ∷ fs))
  unfolding new_in
  new-row y es fs ds h rest = ap (λ rs. told y ∷ rs) rest ∙ ap (λ r. map told (cond (not (stands (λ v w. same w v) y.1 r)) (y ∷ filter (is_new es) fs) (filter (is_new es) fs))) (sym (nowhere o y.0 es h))

  new-one_key : (x y : K × V) (es fs : List (K × V)) → x.0 ≡ y.0 → T (below_all o.compare y.0 fs) → new_in (walk es fs) ≡ map told (filter (is_new es) fs) →
      new_in (met compare same_value told x y ++ walk es fs) ≡ map told (filter (is_new (x ∷ es)) (y ∷ fs))
  unfolding met
  new-one_key x y es fs e h rest =
      new-append (met compare same_value told x y) (walk es fs)
      ∙ (λ i. new-met x y (same x.1 y.1) i ++ rest i)
      ∙ ap (λ rs. cond (not (same x.1 y.1)) (told y ∷ []) [] ++ map told rs) (filter-above y.0 (is_new es) (is_new (x ∷ es)) fs h (λ k above. ap (λ r. not (stands (λ v w. same w v) k.1 r)) (sym (found_behind o x es k.0 (ap (λ z. o.compare z k.0) e ∙ above)))))
      ∙ sym (told-cond (not (same x.1 y.1)) y (filter (is_new (x ∷ es)) fs))
      ∙ ap (λ r. map told (cond (not (stands (λ v w. same w v) y.1 r)) (y ∷ filter (is_new (x ∷ es)) fs) (filter (is_new (x ∷ es)) fs))) (sym (ap (λ k. find o.compare k (x ∷ es)) (sym e) ∙ found_first o x es))

  new-in : (x : K × V) (es : List (K × V)) → T (below_all o.compare x.0 es) → ((fs : List (K × V)) → T (is_sorted o.compare fs) → new_in (walk es fs) ≡ map told (filter (is_new es) fs)) →
      (fs : List (K × V)) → T (is_sorted o.compare fs) → new_in (put_in compare same_value told x (walk es) fs) ≡ map told (filter (is_new (x ∷ es)) fs)
  unfolding put_in
  new-in x es h rest [] g = new-passed x (walk es []) ∙ rest [] tt
  new-in x es h rest (y ∷ fs) g =
      elim (o.compare x.0 y.0) as (λ r. o.compare x.0 y.0 ≡ r → new_in (by_order r (gone_row x ∷ walk es (y ∷ fs)) (met compare same_value told x y ++ walk es fs) (new_row y ∷ put_in compare same_value told x (walk es) fs)) ≡ map told (filter (is_new (x ∷ es)) (y ∷ fs))) [
        | Less ↦ λ e. new-passed x (walk es (y ∷ fs))
            ∙ rest (y ∷ fs) g
            ∙ ap (map told) (filter-above x.0 (is_new es) (is_new (x ∷ es)) (y ∷ fs) (both _ _ (is_less _ e) (below-less o x.0 y.0 fs e (first _ _ g))) (λ k above. ap (λ r. not (stands (λ v w. same w v) k.1 r)) (sym (found_behind o x es k.0 above))))
        | Equal ↦ λ e. new-one_key x y es fs (o.exact x.0 y.0 e) (first _ _ g) (rest fs (second _ _ g))
        | Greater ↦ λ e. new-row y (x ∷ es) fs (put_in compare same_value told x (walk es) fs) (both _ _ (is_less _ (lesser o x.0 y.0 e)) (below-less o y.0 x.0 es (lesser o x.0 y.0 e) h)) (new-in x es h rest fs (second _ _ g))
      ] refl

  new-walk : (es : List (K × V)) → T (is_sorted o.compare es) → (fs : List (K × V)) → T (is_sorted o.compare fs) → new_in (walk es fs) ≡ map told (filter (is_new es) fs)
  unfolding merge
  new-walk [] h fs g = new-news fs
  new-walk (x ∷ es) h fs g = new-in x es (first _ _ h) (new-walk es (second _ _ h)) fs g

  pub gone-between : (old new : Table o V) → gone_in (between same told old new) ≡ lacked same told old new
  unfolding lacked has_row get
  gone-between old new = ap gone_in (between-merge o same told old new) ∙ gone-walk old.rows old.sorted new.rows new.sorted

  -- ---- where only equal values are the same

  module _ (exact : (v w : V) → IsTrue (same v w) → v ≡ w) (itself : (v : V) → same v v ≡ true) where
    same-turned : (v w : V) → same v w ≡ same w v
    same-turned v w = elim (cases_Bool (same v w)) [
      | inl h ↦ (λ i. same (exact v w h i) (sym (exact v w h) i))
      | inr h ↦ elim (cases_Bool (same w v)) [
        | inl g ↦ (λ i. same (sym (exact w v g) i) (exact w v g i))
        | inr g ↦ h ∙ sym g
      ]
    ]

    pub new-between : (old new : Table o V) → new_in (between same told old new) ≡ lacked same told new old
    unfolding lacked has_row get
    new-between old new =
        ap new_in (between-merge o same told old new)
        ∙ new-walk old.rows old.sorted new.rows new.sorted
        ∙ ap (λ f. map told (filter (λ e. not (stands f e.1 (find o.compare e.0 old.rows))) new.rows)) (λ i v w. same-turned w v i)

    both-values : (v w : V) (b : Bool) → same v w ≡ b → cond b (Some v) None ≡ cond (same w v) (Some w) None
    both-values v w true h = ap (λ b. cond b (Some v) None) (sym (sym (same-turned v w) ∙ h)) ∙ ap (λ z. cond (same w v) (Some z) None) (exact v w h)
    both-values v w false h = ap (λ b. cond b (Some w) None) (sym (sym (same-turned v w) ∙ h))

    at_key : (r u : Option V) (k : K) → kept {K = K} (λ _ v. stands same v u) k r ≡ kept {K = K} (λ _ v. stands same v r) k u
    at_key None None k = refl
    at_key None (Some w) k = refl
    at_key (Some v) None k = refl
    at_key (Some v) (Some w) k = both-values v w (same v w) refl

    kept-alike : (p q : K → V → Bool) (k : K) (r : Option V) → ((v : V) → p k v ≡ q k v) → kept p k r ≡ kept q k r
    kept-alike p q k None e = refl
    kept-alike p q k (Some v) e = ap (λ b. cond b (Some v) None) (e v)

    abbrev has : Table o V → K → V → Bool
    has t k v = stands same v (get t k)

    shared-table : (t u : Table o V) → only (has u) t ≡ only (has t) u
    shared-table t u = same_table _ _ (λ k.
        get-only o (has u) t k
        ∙ kept-alike (has u) (λ _ v. stands same v (get u k)) k (get t k) (λ v. refl)
        ∙ at_key (get t k) (get u k) k
        ∙ kept-alike (λ _ v. stands same v (get t k)) (has t) k (get u k) (λ v. refl)
        ∙ sym (get-only o (has t) u k))

    pub shared-turned : (t u : Table o V) → shared same told t u ≡ shared same told u t
    unfolding shared has_row only
    shared-turned t u = ap (λ (z : Table o V). map told z.rows) (shared-table t u)

    met-itself : (x : K × V) → met compare same_value told x x ≡ []
    unfolding met
    met-itself x = ap (λ b. cond b [] (gone_row x ∷ new_row x ∷ [])) (itself x.1)

    walk-itself : (es : List (K × V)) → walk es es ≡ []
    unfolding merge put_in
    walk-itself [] = refl
    walk-itself (x ∷ es) =
        ap (λ r. by_order r (gone_row x ∷ walk es (x ∷ es)) (met compare same_value told x x ++ walk es es) (new_row x ∷ put_in compare same_value told x (walk es) es)) (tied_itself o.total x.0)
        ∙ (λ i. met-itself x i ++ walk-itself es i)

    -- a table does not differ from itself
    pub between-itself : (t : Table o V) → between same told t t ≡ []
    between-itself t = between-merge o same told t t ∙ walk-itself t.rows

-- ---- only equal values are the same

and-both : (a b : Bool) → (a && b) ≡ true → (a ≡ true) × (b ≡ true)
and-both true b e = (refl, e)
and-both false b e = cc

pub holders-exact : (h k : Holder) → IsTrue (same_holder h k) → h ≡ k
holders-exact h k e =
    let parts = and-both _ _ e in
    λ i. record { supplier = same_text-is h.supplier k.supplier parts.0 i; node = same_text-is h.node k.node parts.1 i }

pub holder-itself : (h : Holder) → same_holder h h ≡ true
holder-itself h = λ i. same_text-itself h.supplier i && same_text-itself h.node i

pub nothing-exact : (v w : ⊤) → IsTrue true → v ≡ w
nothing-exact v w e = refl

equal-number : (m n : ℕ) → IsTrue (m == n) → m ≡ n
equal-number m n e = eqb-true m n e

number-itself : (n : ℕ) → (n == n) ≡ true
number-itself n = grind arith

pub gap-exact : (v w : Option ℕ) → IsTrue (same_gap v w) → v ≡ w
gap-exact None None e = refl
gap-exact None (Some n) e = cc
gap-exact (Some m) None e = cc
gap-exact (Some m) (Some n) e = ap Some (equal-number m n e)

pub gap-itself : (v : Option ℕ) → same_gap v v ≡ true
gap-itself None = refl
gap-itself (Some n) = number-itself n

order-exact : (a b : Endian) → IsTrue (same_text (text_of_order a) (text_of_order b)) → a ≡ b
order-exact order.Big order.Big e = refl
order-exact order.Big order.Little e = cc
order-exact order.Little order.Big e = cc
order-exact order.Little order.Little e = refl

order-itself : (a : Endian) → same_text (text_of_order a) (text_of_order a) ≡ true
order-itself a = same_text-itself (text_of_order a)

pub signal-exact : (s t : SignalData) → IsTrue (same_signal s t) → s ≡ t
signal-exact s t e =
    let name = and-both _ _ e in
    let start = and-both _ _ name.1 in
    let length = and-both _ _ start.1 in
    λ i. record {
      name = same_text-is s.name t.name name.0 i;
      start = equal-number s.start t.start start.0 i;
      length = equal-number s.length t.length length.0 i;
      order = order-exact s.order t.order length.1 i;
    }

pub signal-itself : (s : SignalData) → same_signal s s ≡ true
signal-itself s = λ i. same_text-itself s.name i && (number-itself s.start i && (number-itself s.length i && order-itself s.order i))

-- ---- of frames

gone-four : (a b c d : List DifferenceRow) → gone_in (a ++ b ++ c ++ d) ≡ gone_in a ++ gone_in b ++ gone_in c ++ gone_in d
gone-four a b c d =
    gone-append (a ++ b ++ c) d
    ∙ ap (λ rs. rs ++ gone_in d) (gone-append (a ++ b) c ∙ ap (λ rs. rs ++ gone_in c) (gone-append a b))

new-four : (a b c d : List DifferenceRow) → new_in (a ++ b ++ c ++ d) ≡ new_in a ++ new_in b ++ new_in c ++ new_in d
new-four a b c d =
    new-append (a ++ b ++ c) d
    ∙ ap (λ rs. rs ++ new_in d) (new-append (a ++ b) c ∙ ap (λ rs. rs ++ new_in c) (new-append a b))

module _ (p : Params) (before now : Table owned Frame) where
  gone-frames : gone_in (frames_differ p before now) ≡ frames_lacked p before now
  unfolding frames_differ frames_lacked
  gone-frames =
      gone-four _ _ _ _
      ∙ (λ i.
      gone-between owned same_text frame_seen (each (λ f. f.node) before) (each (λ f. f.node) now) i
      ++ gone-between placed_frames (λ _ _. true) placement_seen (all_placements before) (all_placements now) i
      ++ gone-between starts same_signal signal_seen (all_signals before) (all_signals now) i
      ++ gone-between owned same_gap gap_seen (each (gap_of p) before) (each (gap_of p) now) i)

  new-frames : new_in (frames_differ p before now) ≡ frames_lacked p now before
  unfolding frames_differ frames_lacked
  new-frames =
      new-four _ _ _ _
      ∙ (λ i.
      new-between owned same_text frame_seen same_text-is same_text-itself (each (λ f. f.node) before) (each (λ f. f.node) now) i
      ++ new-between placed_frames (λ _ _. true) placement_seen nothing-exact (λ _. refl) (all_placements before) (all_placements now) i
      ++ new-between starts same_signal signal_seen signal-exact signal-itself (all_signals before) (all_signals now) i
      ++ new-between owned same_gap gap_seen gap-exact gap-itself (each (gap_of p) before) (each (gap_of p) now) i)

  frames-turned : frames_shared p before now ≡ frames_shared p now before
  unfolding frames_shared
  frames-turned i =
      shared-turned owned same_text frame_seen same_text-is same_text-itself (each (λ f. f.node) before) (each (λ f. f.node) now) i
      ++ shared-turned placed_frames (λ _ _. true) placement_seen nothing-exact (λ _. refl) (all_placements before) (all_placements now) i
      ++ shared-turned starts same_signal signal_seen signal-exact signal-itself (all_signals before) (all_signals now) i
      ++ shared-turned owned same_gap gap_seen gap-exact gap-itself (each (gap_of p) before) (each (gap_of p) now) i

frames-itself : (p : Params) (now : Table owned Frame) → frames_differ p now now ≡ []
unfolding frames_differ
frames-itself p now i =
    between-itself owned same_text frame_seen same_text-is same_text-itself (each (λ f. f.node) now) i
    ++ between-itself placed_frames (λ _ _. true) placement_seen nothing-exact (λ _. refl) (all_placements now) i
    ++ between-itself starts same_signal signal_seen signal-exact signal-itself (all_signals now) i
    ++ between-itself owned same_gap gap_seen gap-exact gap-itself (each (gap_of p) now) i

-- ---- of two variants

module _ (p : Params) (actor : Actor) where
  gone-differences : (old new : Variant) → gone_in (differences p actor old new) ≡ missing p actor old new
  unfolding differences grants_differ missing
  gone-differences old new =
      gone-append _ _
      ∙ (λ i.
      gone-between channel_slots same_holder grant_seen (seen_grants actor old.grants) (seen_grants actor new.grants) i
      ++ gone-frames p (seen_frames actor old.frames) (seen_frames actor new.frames) i)

  new-differences : (old new : Variant) → new_in (differences p actor old new) ≡ missing p actor new old
  unfolding differences grants_differ missing
  new-differences old new =
      new-append _ _
      ∙ (λ i.
      new-between channel_slots same_holder grant_seen holders-exact holder-itself (seen_grants actor old.grants) (seen_grants actor new.grants) i
      ++ new-frames p (seen_frames actor old.frames) (seen_frames actor new.frames) i)

  -- a row is gone where the one has it and the other has not, and new where it is the other way round
  pub differences-differ : (old new : Variant) → (gone_in (differences p actor old new) ≡ missing p actor old new) × (new_in (differences p actor old new) ≡ missing p actor new old)
  differences-differ old new = (gone-differences old new, new-differences old new)

  -- turned round, what was gone is new
  pub differences-turned : (old new : Variant) →
      (gone_in (differences p actor new old) ≡ new_in (differences p actor old new)) × (new_in (differences p actor new old) ≡ gone_in (differences p actor old new))
  differences-turned old new = (gone-differences new old ∙ sym (new-differences old new), new-differences new old ∙ sym (gone-differences old new))

  -- what both have is the same
  pub in_both-alike : (old new : Variant) → in_both p actor old new ≡ in_both p actor new old
  unfolding in_both
  in_both-alike old new i =
      shared-turned channel_slots same_holder grant_seen holders-exact holder-itself (seen_grants actor old.grants) (seen_grants actor new.grants) i
      ++ frames-turned p (seen_frames actor old.frames) (seen_frames actor new.frames) i

  -- a variant does not differ from one with the same grants and frames
  pub differences-none : (x y : Variant) → x.grants ≡ y.grants → x.frames ≡ y.frames → differences p actor x y ≡ []
  unfolding differences grants_differ
  differences-none x y grants frames =
      (λ i. between same_holder grant_seen (seen_grants actor x.grants) (seen_grants actor (sym grants i)) ++ frames_differ p (seen_frames actor x.frames) (seen_frames actor (sym frames i)))
      ∙ (λ i.
      between-itself channel_slots same_holder grant_seen holders-exact holder-itself (seen_grants actor x.grants) i
      ++ frames-itself p (seen_frames actor x.frames) i)

  differences-opened : (b : Book) (v from : Name) → IfOk (common b (OpenVariant v (From from))) (λ after.
      (old new : Variant) → get after.variants from ≡ Some old → get after.variants v ≡ Some new → differences p actor old new ≡ [])
  unfolding common begun
  differences-opened b v from =
      gives_bind _ (λ (y : Variant). (x : Variant) × (get b.variants from ≡ Some x) × (x.grants ≡ y.grants) × (x.frames ≡ y.frames)) (begun b (From from)) _ begins (λ y begun.
      gives_when _ _ (contains b.variants v) _ (λ free.
      gives_when _ _ _ _ (λ _ old new there opened.
      let apart : eq_by_cmp names.compare from v ≡ false = elim (cases_Bool (eq_by_cmp names.compare from v)) [
        | inl tie ↦ absurd (true≢false (sym (ap is_some begun.1) ∙ ap (contains b.variants) (names.exact from v (equal _ tie)) ∙ free))
        | inr other ↦ other
      ] in
      let old_is : begun.0 ≡ old = same_some begun.0 old (sym begun.1 ∙ sym (ap (λ t. cond t (Some y) (get b.variants from)) apart) ∙ sym (get-insert b.variants v y from) ∙ there) in
      let new_is : y ≡ new = same_some y new (sym (ap (λ t. cond t (Some y) (get b.variants v)) (same_key names v)) ∙ sym (get-insert b.variants v y v) ∙ opened) in
      (λ i. differences p actor (sym old_is i) (sym new_is i)) ∙ differences-none begun.0 y begun.2 begun.3)))
    where
      begins : IfOk (begun b (From from)) (λ (y : Variant). (x : Variant) × (get b.variants from ≡ Some x) × (x.grants ≡ y.grants) × (x.frames ≡ y.frames))
      begins =
          gives_or _ (get b.variants from) _ _ (λ x there.
          gives_when _ _ _ _ (λ _.
          gives_when _ _ _ _ (λ _. (x, there, refl, refl))))

  -- nor from the one from which it was opened
  pub opened-none : (b after : Book) (v from : Name) (old new : Variant) → common b (OpenVariant v (From from)) ≡ Ok after →
      get after.variants from ≡ Some old → get after.variants v ≡ Some new → differences p actor old new ≡ []
  opened-none b after v from old new done there opened =
      subst (λ r. IfOk r (λ (after : Book). (old new : Variant) → get after.variants from ≡ Some old → get after.variants v ≡ Some new → differences p actor old new ≡ [])) done (differences-opened b v from) old new there opened
