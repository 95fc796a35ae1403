-- Frames and placements that are those of a page's frames, in whatever order.
use Rattle.std.proofs.Common.{◌≡◌, ℕ, Bool, true, false, ◌&&◌, ◌||◌, not, cond, List, [], ◌∷◌, ◌++◌, map, flat_map, All, Option, Some, None, is_some, option_map, Result, Ok, Err, OnOk, OnErr, refl, sym, ap, subst, ◌∙◌, ◌⊎◌, inl, inr, true≢false, Less}
use Rattle.std.specs.Prelude.{⊤}
use Rattle.std.specs.BTreeMap.{is_at}
use Rattle.std.specs.Cmp.{tied_itself}
use Rattle.std.specs.FinMap.Entries.{find}
use Rattle.std.specs.List.{AllByRecursion, list_any}
use Rattle.std.specs.List.Sorted.{IsStrictlySortedBy}
use Rattle.std.specs.Map.{keys_of, lookup}
use Rattle.std.specs.Ordering.{eq_by_cmp, is_eq}
use Rattle.std.proofs.Math.Bool.{or_comm}
use Rattle.std.proofs.lemmas.Bool.{and_from, and_parts, cases_Bool, or_right}
use Rattle.std.proofs.lemmas.List.Elements.{All-head, All-tail}
use Rattle.std.proofs.lemmas.List.Folds.{flat_map-map, list_any-append}
use Rattle.fr_base.specs.Book.{Frame}
use Rattle.fr_base.specs.Cells.{Cell, has_cell}
use Rattle.fr_base.specs.Keys.{names, owned, placement_order}
use Rattle.fr_base.specs.Layouts.{with_signal, without_signal}
use Rattle.fr_base.specs.Names.{same_text}
use Rattle.fr_base.specs.Signals.{SignalData}
use Rattle.fr_base.specs.Schedule.{fill}
use Rattle.fr_base.specs.Step.{frame_after}
use Rattle.fr_base.specs.Tables.{Table, Fate, Becomes, Gone, contains, empty, get, insert, remove, settle}
use Rattle.fr_base.specs.declared.name.Name.{Name}
use Rattle.fr_base.specs.declared.placement.Placement.{Placement}
use Rattle.fr_base.specs.declared.request.FrameChange.{FrameChange}
use Rattle.fr_base.specs.declared.request.FrameChange.TheVariants.{Add, Drop, Place, Unplace, AddSignal, DropSignal}
use Rattle.fr_base.proofs.AloneCells.{same_text-itself}
use Rattle.fr_base.proofs.AloneTables.{get-remove}
use Rattle.fr_base.proofs.LayoutLaws.{AllPairs-head, AllPairs-tail}
use Rattle.fr_base.proofs.SoundRows.{same_text-is}
use Rattle.fr_base.proofs.TableLaws.{equal, get-insert, kept}
use Rattle.fr_world.specs.Amends.{AreChanged, as_frame, frame_at, frames_of}
use Rattle.fr_world.specs.Decisions.{filled_by}
use Rattle.fr_world.specs.Maps.{set_of}
use Rattle.fr_world.specs.Occupancies.{ShowCells, is_pair, without}
use Rattle.fr_world.specs.PageCells.{ArePlaced, has_placement, is_placed}
use Rattle.fr_world.specs.Pages.{AreApart, FrameData, IsKept, PageData, frame_data, frame_of, frames_data, own_rows_of}
use Rattle.fr_world.specs.declared.page.PageFrame.{PageFrame}
use Rattle.fr_world.proofs.AmendLaws.{get_frame}
use Rattle.fr_world.proofs.DecideFilling.{Apart, filled_in, page-apart, shown-page}
use Rattle.fr_world.proofs.KeyLaws.{name_cmp, own_alike, placement_cmp, placements_alike}
use Rattle.fr_world.proofs.MapLaws.{contains-set_of, get-table_of}
use Rattle.fr_world.proofs.MaskLaws.{never, or_none}

-- ---- names and placements that are the same

abbrev pub at : Name → Name → Bool
at f g = is_at (name_cmp f) g

abbrev pub on : Placement → Placement → Bool
on q r = is_eq (placement_order.compare q r)

alike : (b c : Bool) → (b ≡ true → c ≡ true) → (c ≡ true → b ≡ true) → b ≡ c
alike true c to from = sym (to refl)
alike false true to from = from refl
alike false false to from = refl

at-is : (f g : Name) → at f g ≡ true → f ≡ g
unfolding names
at-is f g e = names.exact f g (equal _ e)

at-itself : (f : Name) → at f f ≡ true
unfolding names
at-itself f = ap is_eq (tied_itself names.total f)

on-is : (q r : Placement) → on q r ≡ true → q ≡ r
on-is q r e = placement_order.exact q r (equal _ e)

on-itself : (q : Placement) → on q q ≡ true
on-itself q = ap is_eq (tied_itself placement_order.total q)

at-flips : (f g : Name) → at f g ≡ at g f
at-flips f g = alike _ _ (λ e. subst (λ n. at n f ≡ true) (at-is f g e) (at-itself f)) (λ e. subst (λ n. at n g ≡ true) (at-is g f e) (at-itself g))

on-flips : (q r : Placement) → on q r ≡ on r q
on-flips q r = alike _ _ (λ e. subst (λ n. on n q ≡ true) (on-is q r e) (on-itself q)) (λ e. subst (λ n. on n r ≡ true) (on-is r q e) (on-itself r))

pair-is : (f : Name) (q : Placement) (p : Name × Placement) → is_pair f q p ≡ true → p ≡ (f, q)
pair-is f q p e =
    let parts = and_parts (same_text p.0 f) (is_eq (placement_order.compare p.1 q)) e in
    λ i. (same_text-is p.0 f parts.0 i, placement_order.exact p.1 q (equal _ parts.1) i)

pair-itself : (f : Name) (q : Placement) → is_pair f q (f, q) ≡ true
pair-itself f q = and_from (same_text f f) (is_eq (placement_order.compare q q)) (same_text-itself f) (on-itself q)

pair-parts : (f : Name) (q : Placement) (p : Name × Placement) → is_pair f q p ≡ (at f p.0 && on q p.1)
pair-parts f q p = alike _ _
    (λ e. subst (λ (x : Name × Placement). (at f x.0 && on q x.1) ≡ true) (sym (pair-is f q p e)) (and_from (at f f) (on q q) (at-itself f) (on-itself q)))
    (λ e. let parts = and_parts (at f p.0) (on q p.1) e in subst (λ (x : Name × Placement). is_pair f q x ≡ true) (λ i. (at-is f p.0 parts.0 i, on-is q p.1 parts.1 i)) (pair-itself f q))

-- ---- what is among the pairs

abbrev pub any : Name → Placement → List (Name × Placement) → Bool
any f q ps = list_any (is_pair f q) ps

pub any-add : (ps : List (Name × Placement)) (g : Name) (r : Placement) (f : Name) (q : Placement) → any f q (ps ++ (g, r) ∷ []) ≡ (any f q ps || (at f g && on q r))
any-add ps g r f q = list_any-append (is_pair f q) ps ((g, r) ∷ []) ∙ ap (λ b. any f q ps || b) (or_none (is_pair f q (g, r)) false refl ∙ pair-parts f q (g, r))

drops : (b a x : Bool) → b ≡ x → (a && not x) ≡ ((b || a) && not x)
drops b a true e = sym (never a) ∙ never (b || a)
drops true a false e = cc
drops false a false e = refl

keeps : (b a x : Bool) → (b ≡ true → x ≡ false) → (b || (a && not x)) ≡ ((b || a) && not x)
keeps true a x h = sym (ap not (h refl))
keeps false a x h = refl

pub any-without : (ps : List (Name × Placement)) (g : Name) (r : Placement) (f : Name) (q : Placement) → any f q (without ps g r) ≡ (any f q ps && not (at f g && on q r))
any-without [] g r f q = refl
any-without (p ∷ ps) g r f q = by_pair (any-without ps g r f q) (cases_Bool (is_pair g r p))
  where
    apart : is_pair g r p ≡ false → is_pair f q p ≡ true → ((at f g && on q r) ≡ true) ⊎ ((at f g && on q r) ≡ false) → (at f g && on q r) ≡ false
    apart stays e (inl x) =
        let parts = and_parts (at f g) (on q r) x in
        absurd (true≢false (sym (ap (is_pair g r) (pair-is f q p e ∙ (λ i. (at-is f g parts.0 i, on-is q r parts.1 i))) ∙ pair-itself g r) ∙ stays))
    apart stays e (inr x) = x

    by_pair : any f q (without ps g r) ≡ (any f q ps && not (at f g && on q r)) → (is_pair g r p ≡ true) ⊎ (is_pair g r p ≡ false) → any f q (cond (not (is_pair g r p)) (p ∷ without ps g r) (without ps g r)) ≡ ((is_pair f q p || any f q ps) && not (at f g && on q r))
    by_pair rest (inl taken) =
        let same : is_pair f q p ≡ (at f g && on q r) = ap (is_pair f q) (pair-is g r p taken) ∙ pair-parts f q (g, r) in
        ap (λ b. any f q (cond (not b) (p ∷ without ps g r) (without ps g r))) taken ∙ rest ∙ drops (is_pair f q p) (any f q ps) (at f g && on q r) same
    by_pair rest (inr stays) =
        ap (λ b. any f q (cond (not b) (p ∷ without ps g r) (without ps g r))) stays
        ∙ ap (λ b. is_pair f q p || b) rest
        ∙ keeps (is_pair f q p) (any f q ps) (at f g && on q r) (λ e. apart stays e (cases_Bool (at f g && on q r)))

undone : (a x : Bool) → (x ≡ true → a ≡ false) → ((a || x) && not x) ≡ a
undone a true h = sym (never (a || true)) ∙ sym (h refl)
undone true false h = refl
undone false false h = refl

-- a pair that was not there, added and taken out again
pub any-undone : (ps : List (Name × Placement)) (g : Name) (r : Placement) → any g r ps ≡ false → (f : Name) (q : Placement) → any f q (without (ps ++ (g, r) ∷ []) g r) ≡ any f q ps
any-undone ps g r none f q =
    any-without (ps ++ (g, r) ∷ []) g r f q ∙ ap (λ b. b && not (at f g && on q r)) (any-add ps g r f q)
    ∙ undone (any f q ps) (at f g && on q r) (λ x. let parts = and_parts (at f g) (on q r) x in (λ i. any (at-is f g parts.0 i) (on-is q r parts.1 i) ps) ∙ none)

abbrev pub rest_taken : Name → Placement → Name → List (Name × Placement) → List Placement → Bool
rest_taken f q g ps qs = any f q ps && not (at f g && list_any (on q) qs)

one_less : (a t x y : Bool) → ((a && not (t && x)) && not (t && y)) ≡ (a && not (t && (x || y)))
one_less false t x y = refl
one_less true false x y = refl
one_less true true true y = refl
one_less true true false y = refl

none_less : (a t : Bool) → a ≡ (a && not (t && false))
none_less false t = refl
none_less true false = refl
none_less true true = refl

-- one placement after the other taken out
pub next-taken : (ps : List (Name × Placement)) (g : Name) (r : Placement) (qs rest : List Placement) → qs ≡ r ∷ rest → (f : Name) (q : Placement) → rest_taken f q g (without ps g r) rest ≡ rest_taken f q g ps qs
next-taken ps g r qs rest is f q =
    ap (λ b. b && not (at f g && list_any (on q) rest)) (any-without ps g r f q)
    ∙ one_less (any f q ps) (at f g) (on q r) (list_any (on q) rest)
    ∙ ap (rest_taken f q g ps) (sym is)

pub none-left : (ps : List (Name × Placement)) (g : Name) (qs : List Placement) → qs ≡ [] → (f : Name) (q : Placement) → any f q ps ≡ rest_taken f q g ps qs
none-left ps g qs is f q = none_less (any f q ps) (at f g) ∙ ap (rest_taken f q g ps) (sym is)

pub on-contains : (q : Placement) (qs : List Placement) → list_any (on q) qs ≡ contains (set_of placement_order (λ x. x) qs) q
on-contains q qs = (λ i. list_any (λ r. is_eq (sym (placements_alike q r) i)) qs) ∙ sym (contains-set_of placement_cmp placement_order (λ x. x) placements_alike qs q)

-- ---- the frames after a change

abbrev pub made : Fate Frame → Option Frame
made (Becomes f) = Some f
made Gone = None

gone : (p : Name × Name → Frame → Bool) (k : Name × Name) (b : Bool) → ((v : Frame) → p k v ≡ not b) → (r : Option Frame) → kept p k r ≡ cond b None r
gone p k true h None = refl
gone p k true h (Some v) = ap (λ c. cond c (Some v) None) (h v)
gone p k false h None = refl
gone p k false h (Some v) = ap (λ c. cond c (Some v) None) (h v)

get-settled : (t : Table owned Frame) (s f g : Name) (fate : Fate Frame) → get (settle t (s, g) fate) (s, f) ≡ cond (at f g) (made fate) (get t (s, f))
unfolding settle
get-settled t s f g (Becomes v) = get-insert t (s, g) v (s, f) ∙ ap (λ r. cond (is_eq r) (Some v) (get t (s, f))) (sym (own_alike s f g))
get-settled t s f g Gone = get-remove owned (λ _ _. true) t (s, g) (s, f) ∙ gone (λ k _. not (eq_by_cmp owned.compare (s, g) k)) (s, f) (at f g) (λ v. ap not (ap is_eq (sym (own_alike s g f)) ∙ at-flips g f)) (get t (s, f))

get_data : (s f : Name) (es : List (Name × PageFrame)) → get (frames_of s es) (s, f) ≡ option_map frame_of (lookup (is_at (name_cmp f)) (frames_data es))
get_data s f es = get-table_of name_cmp owned (λ x. (s, x)) frame_of (own_alike s) (frames_data es) f

-- the frame of this name
abbrev pub there : Name → List (Name × PageFrame) → Option Frame
there f es = option_map frame_of (lookup (is_at (name_cmp f)) (frames_data es))

pub there-is : (f : Name) (es : List (Name × PageFrame)) → there f es ≡ option_map as_frame (frame_at f es)
there-is f es = sym (get_data f f es) ∙ get_frame f f es

split : (q : Placement) (b : Bool) (x y : Option Frame) → has_placement q (cond b x y) ≡ cond b (has_placement q x) (has_placement q y)
split q true x y = refl
split q false x y = refl

module _ (payload : ℕ) (g : Name) (what : FrameChange) (es es' : List (Name × PageFrame)) (changed : AreChanged payload g what es es') where
  placed-after : (f : Name) (q : Placement) → is_placed (frames_data es') f q ≡ cond (at f g) (has_placement q (made (frame_after what (there g es)))) (is_placed (frames_data es) f q)
  placed-after f q =
      ap (has_placement q)
      (sym (get_data f f es') ∙ ap (λ t. get t (f, f)) (changed.table f) ∙ get-settled (frames_of f es) f f g _
      ∙ (λ i. cond (at f g) (made (frame_after what (get_data f g es i))) (get_data f f es i)))
      ∙ split q (at f g) (made (frame_after what (there g es))) (there f es)

  pub changed-placed : (ps ps' : List (Name × Placement)) → ArePlaced ps (frames_data es) → ((q : Placement) → any g q ps' ≡ has_placement q (made (frame_after what (there g es))))
      → ((f : Name) (q : Placement) → at f g ≡ false → any f q ps' ≡ any f q ps) → ArePlaced ps' (frames_data es')
  changed-placed ps ps' placed own other f q = elim (cases_Bool (at f g)) [
    | inl here ↦ ap (λ n. any n q ps') (at-is f g here) ∙ own q ∙ sym (placed-after f q ∙ ap (λ b. cond b (has_placement q (made (frame_after what (there g es)))) (is_placed (frames_data es) f q)) here)
    | inr else ↦ other f q else ∙ placed f q ∙ sym (placed-after f q ∙ ap (λ b. cond b (has_placement q (made (frame_after what (there g es)))) (is_placed (frames_data es) f q)) else)
  ]

-- ---- each change

other_stays : (b : Bool) → (b && true) ≡ b
other_stays true = refl
other_stays false = refl

module _ (payload : ℕ) (g : Name) (es es' : List (Name × PageFrame)) (ps : List (Name × Placement)) (placed : ArePlaced ps (frames_data es)) (F : Frame) (found : there g es ≡ Some F) where
  mine : (q : Placement) → any g q ps ≡ contains F.placements q
  mine q = placed g q ∙ ap (has_placement q) found

  becomes : (what : FrameChange) (G : Frame) → frame_after what (Some F) ≡ Becomes G → (q : Placement) → contains G.placements q ≡ has_placement q (made (frame_after what (there g es)))
  becomes what G is q = ap (λ x. has_placement q (made x)) (sym (ap (frame_after what) found ∙ is))

  pub place-placed : (r : Placement) → AreChanged payload g (Place r) es es' → (ps' : List (Name × Placement)) → ((f : Name) (q : Placement) → any f q ps' ≡ (any f q ps || (at f g && on q r))) → ArePlaced ps' (frames_data es')
  unfolding frame_after
  place-placed r changed ps' added = changed-placed payload g (Place r) es es' changed ps ps' placed
      (λ q. added g q ∙ (λ i. mine q i || (at-itself g i && on q r)) ∙ or_comm (contains F.placements q) (on q r) ∙ sym (with_one q) ∙ becomes (Place r) (record F { placements = insert F.placements r tt }) refl q)
      (λ f q other. added f q ∙ ap (λ b. any f q ps || (b && on q r)) other ∙ or_none (any f q ps) false refl)
    where
      with_one : (q : Placement) → contains (insert F.placements r tt) q ≡ (on q r || contains F.placements q)
      with_one q = ap is_some (get-insert F.placements r tt q) ∙ (elim (on q r) as (λ b. is_some (cond b (Some tt) (get F.placements q)) ≡ (b || contains F.placements q)) [ true ↦ refl | false ↦ refl ])

  pub unplace-placed : (r : Placement) → AreChanged payload g (Unplace r) es es' → ArePlaced (without ps g r) (frames_data es')
  unfolding frame_after
  unplace-placed r changed = changed-placed payload g (Unplace r) es es' changed ps (without ps g r) placed
      (λ q. any-without ps g r g q ∙ (λ i. mine q i && not (at-itself g i && on q r)) ∙ sym (without_one q) ∙ becomes (Unplace r) (record F { placements = remove F.placements r }) refl q)
      (λ f q other. any-without ps g r f q ∙ ap (λ b. any f q ps && not (b && on q r)) other ∙ other_stays (any f q ps))
    where
      left : (p : Placement → ⊤ → Bool) (q : Placement) (b : Bool) → ((v : ⊤) → p q v ≡ not b) → (o : Option ⊤) → is_some (kept p q o) ≡ (is_some o && not b)
      left p q b h None = refl
      left p q true h (Some v) = ap (λ c. is_some (cond c (Some v) None)) (h v)
      left p q false h (Some v) = ap (λ c. is_some (cond c (Some v) None)) (h v)

      without_one : (q : Placement) → contains (remove F.placements r) q ≡ (contains F.placements q && not (on q r))
      without_one q = ap is_some (get-remove placement_order (λ _ _. true) F.placements r q) ∙ left (λ p _. not (eq_by_cmp placement_order.compare r p)) q (on q r) (λ v. ap not (on-flips r q)) (get F.placements q)

  -- a change of a frame's signals leaves its placements
  pub signal-placed : (what : FrameChange) (G : Frame) → frame_after what (Some F) ≡ Becomes G → G.placements ≡ F.placements → AreChanged payload g what es es' → ArePlaced ps (frames_data es')
  signal-placed what G is same changed = changed-placed payload g what es es' changed ps ps placed
      (λ q. mine q ∙ ap (λ t. contains t q) (sym same) ∙ becomes what G is q) (λ f q other. refl)

  pub add_signal-placed : (s : SignalData) → AreChanged payload g (AddSignal s) es es' → ArePlaced ps (frames_data es')
  unfolding frame_after
  add_signal-placed s changed = signal-placed (AddSignal s) (record F { signals = with_signal s F.signals }) refl refl changed

  pub drop_signal-placed : (n : Name) → AreChanged payload g (DropSignal n) es es' → ArePlaced ps (frames_data es')
  unfolding frame_after
  drop_signal-placed n changed = signal-placed (DropSignal n) (record F { signals = without_signal n F.signals }) refl refl changed

-- a frame that is new, or no more, has no placement
own_gone : (b : Bool) → (b && not (true && b)) ≡ false
own_gone true = refl
own_gone false = refl

pub ended-placed : (payload : ℕ) (g : Name) (what : FrameChange) (es es' : List (Name × PageFrame)) (ps ps' : List (Name × Placement)) (former : Option PageFrame) → ArePlaced ps (frames_data es) → AreChanged payload g what es es' → former ≡ frame_at g es
    → ((o : Option Frame) (q : Placement) → has_placement q (made (frame_after what o)) ≡ false) → ((f : Name) (q : Placement) → any f q ps' ≡ (any f q ps && not (at f g && has_placement q (option_map as_frame former)))) → ArePlaced ps' (frames_data es')
ended-placed payload g what es es' ps ps' former placed changed is bare ends =
    changed-placed payload g what es es' changed ps ps' placed
    (λ q.
    let same : any g q ps ≡ has_placement q (option_map as_frame former) = placed g q ∙ ap (has_placement q) (there-is g es ∙ ap (option_map as_frame) (sym is)) in
    ends g q ∙ (λ i. any g q ps && not (at-itself g i && sym same i)) ∙ own_gone (any g q ps) ∙ sym (bare (there g es) q))
    (λ f q other. ends f q ∙ ap (λ b. any f q ps && not (b && has_placement q (option_map as_frame former))) other ∙ other_stays (any f q ps))

pub none-added : (n : Name) (o : Option Frame) (q : Placement) → has_placement q (made (frame_after (Add n) o)) ≡ false
unfolding frame_after get empty
none-added n o q = refl

pub none-dropped : (o : Option Frame) (q : Placement) → has_placement q (made (frame_after Drop o)) ≡ false
unfolding frame_after
none-dropped o q = refl

-- ---- the cells of a page's frames

module _ (f : Name) (q : Placement) where
  any-rows : (n : Name) (rows : List (Placement × ⊤)) → any f q (map (λ r. (n, r)) (map (λ p. p.0) rows)) ≡ (at f n && is_some (find placement_order.compare q rows))
  any-rows n [] = never (at f n)
  any-rows n (p ∷ rows) = (λ i. pair-parts f q (n, p.0) i || any-rows n rows i) ∙ by_cases (at f n) (on q p.0)
    where
      by_cases : (a b : Bool) → ((a && b) || (a && is_some (find placement_order.compare q rows))) ≡ (a && is_some (cond b (Some p.1) (find placement_order.compare q rows)))
      by_cases false b = refl
      by_cases true true = refl
      by_cases true false = refl

  any-frame : (n : Name) (F : Frame) → any f q (filled_by n F) ≡ (at f n && contains F.placements q)
  unfolding get
  any-frame n F = any-rows n F.placements.rows

  abbrev pairs_in : List (Name × FrameData) → List (Name × Placement)
  pairs_in fs = flat_map (λ e. filled_by e.0 (frame_of e.1)) fs

  absent : (n : Name) (fs : List (Name × FrameData)) → AllByRecursion (λ y. name_cmp n y ≡ Less) (keys_of fs) → lookup (is_at (name_cmp n)) fs ≡ None
  absent n [] h = refl
  absent n (e ∷ fs) h = ap (λ r. cond (is_eq r) (Some e.1) (lookup (is_at (name_cmp n)) fs)) h.0 ∙ absent n fs h.1

  any-placed : (fs : List (Name × FrameData)) → IsStrictlySortedBy name_cmp (keys_of fs) → any f q (pairs_in fs) ≡ is_placed fs f q
  unfolding IsStrictlySortedBy
  any-placed [] h = refl
  any-placed (e ∷ fs) h =
      list_any-append (is_pair f q) (filled_by e.0 (frame_of e.1)) (pairs_in fs)
      ∙ (λ i. any-frame e.0 (frame_of e.1) i || any-placed fs h.1 i)
      ∙ by_name (cases_Bool (at f e.0))
    where
      later : at f e.0 ≡ true → is_placed fs f q ≡ false
      later here = ap (λ n. has_placement q (option_map frame_of (lookup (is_at (name_cmp n)) fs))) (at-is f e.0 here) ∙ ap (λ o. has_placement q (option_map frame_of o)) (absent e.0 fs h.0)

      by_name : (at f e.0 ≡ true) ⊎ (at f e.0 ≡ false) → ((at f e.0 && contains (frame_of e.1).placements q) || is_placed fs f q) ≡ has_placement q (option_map frame_of (cond (at f e.0) (Some e.1) (lookup (is_at (name_cmp f)) fs)))
      by_name (inl here) =
          (λ i. (here i && contains (frame_of e.1).placements q) || later here i) ∙ or_none (contains (frame_of e.1).placements q) false refl
          ∙ sym (ap (λ b. has_placement q (option_map frame_of (cond b (Some e.1) (lookup (is_at (name_cmp f)) fs)))) here)
      by_name (inr else) =
          ap (λ b. (b && contains (frame_of e.1).placements q) || is_placed fs f q) else
          ∙ sym (ap (λ b. has_placement q (option_map frame_of (cond b (Some e.1) (lookup (is_at (name_cmp f)) fs)))) else)

-- the frames' placements, one after the other, are those of the frames
pub filled-placed : (es : List (Name × PageFrame)) → IsStrictlySortedBy name_cmp (keys_of (frames_data es)) → ArePlaced (filled_in es) (frames_data es)
filled-placed es h f q =
    ap (any f q) (sym (flat_map-map (λ (e : Name × FrameData). filled_by e.0 (frame_of e.1)) (λ (e : Name × PageFrame). (e.0, frame_data e.1)) es)) ∙ any-placed f q (frames_data es) h

-- ---- pairs that are the same in whatever order fill the same cells

module _ (c : Cell) where
  filler : (ps : List (Name × Placement)) (n : Name) → fill ps c ≡ Some n → (q : Placement) × (any n q ps ≡ true) × (has_cell q c ≡ true)
  unfolding fill
  filler [] n e = cc
  filler (p ∷ ps) n e = elim (cases_Bool (has_cell p.1 c)) [
    | inl has ↦
        let one : Some p.0 ≡ Some n = rw has at e in
        let is : p.0 ≡ n = cc in
        (p.1, ap (λ b. b || any n p.1 ps) (ap (λ m. is_pair m p.1 p) (sym is) ∙ pair-itself p.0 p.1), has)
    | inr lacks ↦ let found = filler ps n (rw lacks at e) in (found.0, or_right (is_pair n found.0 p) (any n found.0 ps) found.1, found.2)
  ]

  fills : (ps : List (Name × Placement)) (n : Name) (q : Placement) → any n q ps ≡ true → has_cell q c ≡ true → fill ps c ≡ None → ⊥
  unfolding fill
  fills [] n q e has none = true≢false (sym e)
  fills (p ∷ ps) n q e has none = elim (cases_Bool (has_cell p.1 c)) [
    | inl here ↦ let filled = rw here at none in cc
    | inr lacks ↦ elim (cases_Bool (is_pair n q p)) [
      | inl is ↦ true≢false (sym (ap (λ (x : Name × Placement). has_cell x.1 c) (pair-is n q p is) ∙ has) ∙ lacks)
      | inr other ↦ fills ps n q (sym (ap (λ b. b || any n q ps) other) ∙ e) has (rw lacks at none)
    ]
  ]

  one_of : (P : Name × Placement → Type 0) (ps : List (Name × Placement)) (n : Name) (q : Placement) → All P ps → any n q ps ≡ true → P (n, q)
  one_of P [] n q all e = absurd (true≢false (sym e))
  one_of P (p ∷ ps) n q all e = elim (cases_Bool (is_pair n q p)) [
    | inl is ↦ subst P (pair-is n q p is) (All-head P p ps all)
    | inr other ↦ one_of P ps n q (All-tail P p ps all) (sym (ap (λ b. b || any n q ps) other) ∙ e)
  ]

  only_filler : (ps : List (Name × Placement)) (n : Name) (q : Placement) → Apart ps → any n q ps ≡ true → has_cell q c ≡ true → fill ps c ≡ Some n
  unfolding fill
  only_filler [] n q apart e has = absurd (true≢false (sym e))
  only_filler (p ∷ ps) n q apart e has = elim (cases_Bool (is_pair n q p)) [
    | inl is ↦
        let here : has_cell p.1 c ≡ true = ap (λ (x : Name × Placement). has_cell x.1 c) (pair-is n q p is) ∙ has in
        ap (λ b. cond b (Some p.0) (fill ps c)) here ∙ ap (λ (x : Name × Placement). Some x.0) (pair-is n q p is)
    | inr other ↦
        let rest : any n q ps ≡ true = sym (ap (λ b. b || any n q ps) other) ∙ e in
        let away = one_of (λ y. AreApart p.1 y.1) ps n q (AllPairs-head (λ x y. AreApart x.1 y.1) p ps apart) rest in
        elim (cases_Bool (has_cell p.1 c)) [
          | inl clash ↦ absurd (away c clash has)
          | inr lacks ↦ ap (λ b. cond b (Some p.0) (fill ps c)) lacks ∙ only_filler ps n q (AllPairs-tail (λ x y. AreApart x.1 y.1) p ps apart) rest has
        ]
  ]

  same_filler : (ps qs : List (Name × Placement)) → ((f : Name) (q : Placement) → any f q ps ≡ any f q qs) → Apart qs → fill ps c ≡ fill qs c
  same_filler ps qs same apart = by_filled (fill ps c) refl (fill qs c) refl
    where
      by_filled : (r : Option Name) → fill ps c ≡ r → (s : Option Name) → fill qs c ≡ s → fill ps c ≡ fill qs c
      by_filled (Some n) e s d = let found = filler ps n e in e ∙ sym (only_filler qs n found.0 apart (sym (same n found.0) ∙ found.1) found.2)
      by_filled None e None d = e ∙ sym d
      by_filled None e (Some m) d = let found = filler qs m d in absurd (fills ps m found.0 (same m found.0 ∙ found.1) found.2 e)

-- so a page's pairs show its cells
pub placed-shown : (rows : PageData) (es : List (Name × PageFrame)) (ps : List (Name × Placement)) → frames_data es ≡ rows.frames → IsStrictlySortedBy name_cmp (keys_of es) → IsStrictlySortedBy name_cmp (keys_of (frames_data es)) → IsKept rows → ArePlaced ps (frames_data es) → ShowCells ps (own_rows_of rows).frames
placed-shown rows es ps is rises rise kept placed c =
    same_filler c ps (filled_in es) (λ f q. placed f q ∙ sym (filled-placed es rise f q)) (page-apart rows es is rises kept) ∙ shown-page rows es is rises c

-- ---- by what a call answered

pub by_result : {X E A B C D P : Type 0} (r : Result X E) → OnOk r A → OnOk r B → OnErr r C → OnErr r D → (A → B → P) → (C → D → P) → P
by_result (Ok x) a b c d ok err = ok a b
by_result (Err e) a b c d ok err = err c d
