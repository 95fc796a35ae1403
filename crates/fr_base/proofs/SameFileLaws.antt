-- The same file again is answered the same and changes nothing: its rows act on frames that differ from those of the first time by frames
-- without placements alone, which the rows would have added.
use Rattle.std.proofs.Common.{◌≡◌, ℕ, Bool, true, false, not, cond, List, [], ◌∷◌, ◌++◌, length, map, filter, flat_map, nat_lt, nat_le, Option, Some, None, Result, Ok, Err, IfOk, refl, sym, ap, subst, ◌∙◌, inl, inr}
use Rattle.std.specs.Prelude.{⊤}
use Rattle.std.specs.Ordering.{eq_by_cmp}
use Rattle.std.specs.List.{AllByRecursion}
use Rattle.std.proofs.lemmas.Bool.{cases_Bool}
use Rattle.fr_base.specs.Refusing.{◌>>=◌, ◌>>◌, refuse◌when◌}
use Rattle.fr_base.specs.Tables.{Table, Becomes, empty, get, contains, len, insert, only, settle}
use Rattle.fr_base.specs.Keys.{owned}
use Rattle.fr_base.specs.Cluster.{Cluster}
use Rattle.fr_base.specs.Checks.{asking, name, purpose, check}
use Rattle.fr_base.specs.Names.{is_name, same_text}
use Rattle.fr_base.specs.Book.{Frame, Variant, Book, Sender, is_of, own_grants, granted, placements_of, schedule_of}
use Rattle.fr_base.specs.Cells.{cells_of}
use Rattle.fr_base.specs.Schedule.{fill, first_taken}
use Rattle.fr_base.specs.Signals.{SignalData}
use Rattle.fr_base.specs.Layouts.{with_signal}
use Rattle.fr_base.specs.Brought.{nodes_for, placements_for, signals_for, had_placements, had_signals, put_in}
use Rattle.fr_base.specs.ImportRows.{header_of_body, rows_of_body}
use Rattle.fr_base.specs.ReplacingLaws.{is_named}
use Rattle.fr_base.specs.ReplacedLaws.{SameFileChangesNothing}
use Rattle.fr_base.specs.Step.{Outcome, RefusedAt, shared_by, cell_taken, admits_frame, frame_after, at_line, free_rows, clear_all, whole_of, replace_rows, replaced, replace, act, deliver, outcome, step}
use Rattle.fr_base.specs.declared.answer.Answer.TheVariants.{Replaced}
use Rattle.fr_base.specs.declared.actor.Actor.TheVariants.{Supplier}
use Rattle.fr_base.specs.declared.limits.TheConstants.{MAX_IMPORT_BYTES, MAX_PLACEMENTS}
use Rattle.fr_base.specs.declared.import.Header.{Header}
use Rattle.fr_base.specs.declared.import.Row.{Row}
use Rattle.fr_base.specs.declared.import.Row.TheVariants as row
use Rattle.fr_base.specs.declared.import.RowRead.{RowRead}
use Rattle.fr_base.specs.declared.name.Name.{Name}
use Rattle.fr_base.specs.declared.params.Params.{Params}
use Rattle.fr_base.specs.declared.placement.Placement.{Placement}
use Rattle.fr_base.specs.declared.refusal.Refusal.{Refusal}
use Rattle.fr_base.specs.declared.refusal.Refusal.TheVariants.{NoNode, NodeDiffers, NotGranted, Limit}
use Rattle.fr_base.specs.declared.request.FrameChange.{FrameChange}
use Rattle.fr_base.specs.declared.request.FrameChange.TheVariants.{Add, Place, AddSignal}
use Rattle.fr_base.specs.declared.delivery.Delivery.{Delivery}
use Rattle.fr_base.specs.declared.request.Request.TheVariants as request
use Rattle.fr_base.specs.declared.delivery.Purpose.TheVariants as purpose
use Rattle.fr_base.proofs.TableLaws.{equal, get-insert, get-only, same_table, kept}
use Rattle.fr_base.proofs.SoundTables.{get-put, same_some}
use Rattle.fr_base.proofs.SoundRows.{same_text-is}
use Rattle.fr_base.proofs.SoundRefusing.{gives_or, gives_bind, gives_each, gives_bind_last, gives_unless, gives_when}
use Rattle.fr_base.proofs.SoundImports.{at_line-gives}
use Rattle.fr_base.proofs.AloneCells.{same_text-itself, entries_of}
use Rattle.fr_base.proofs.SettledRows.{settle-other, not_mine}
use Rattle.fr_base.proofs.ClearedFrames.{StayOthers, free-others}
use Rattle.fr_base.proofs.ClearedAgain.{alike_freed}
use Rattle.fr_base.proofs.FrameRuns.{past_or, past_when, past_unless, having, rows_at, change_in, framed_in, act_in, run_in, at, lifted, variant_at, put_at, replace_rows-lift, change-is, change-none, place-is, signal-is}
use Rattle.fr_base.proofs.BroughtLemmas.{Frees, Makes, RowsMake, There, change-makes, free_rows-free, insert_all, node_of, rows-make, unless_brought}

-- ---- frames without placements are sent nowhere

abbrev some_rows : {X : Type 0} → List X → Bool
some_rows [] = false
some_rows (x ∷ xs) = true

-- the frame is sent somewhere
abbrev pub is_placed : Name × Name → Frame → Bool
is_placed k f = some_rows f.placements.rows

none_sent : (o : Sender) (ps : List (Placement × ⊤)) → some_rows ps ≡ false → map {B = Sender × Placement} (λ q. (o, q.0)) ps ≡ []
none_sent o [] h = refl
none_sent o (x ∷ ps) h = cc

sent_rows : (rows : List ((Name × Name) × Frame)) → flat_map entries_of rows ≡ flat_map entries_of (filter (λ e. is_placed e.0 e.1) rows)
sent_rows [] = refl
sent_rows (e ∷ rows) = elim (cases_Bool (is_placed e.0 e.1)) [
  | inl sent ↦ rw sent (ap (λ l. entries_of e ++ l) (sent_rows rows))
  | inr none ↦ rw none (ap (λ l. l ++ flat_map entries_of rows) (none_sent _ e.1.placements.rows none) ∙ sent_rows rows)
]

-- tables of frames that are alike but for those that are sent nowhere
pub AreSentAlike : Table owned Frame → Table owned Frame → Type 0
AreSentAlike t u = (k : Name × Name) → kept is_placed k (get t k) ≡ kept is_placed k (get u k)

pub sent-alike : (t u : Table owned Frame) → AreSentAlike t u → schedule_of t ≡ schedule_of u
unfolding AreSentAlike schedule_of placements_of only
sent-alike t u alike =
    let same : only is_placed t ≡ only is_placed u = same_table _ _ (λ k. get-only owned is_placed t k ∙ alike k ∙ sym (get-only owned is_placed u k)) in
    ap fill (sent_rows t.rows ∙ ap (λ (w : Table owned Frame). flat_map entries_of w.rows) same ∙ sym (sent_rows u.rows))

-- ---- frames behind others

-- the frame as it was added
abbrev pub bare : Option Frame → Option Frame
bare (Some w) = Some (record { node = w.node; placements = empty; signals = [] })
bare None = None

-- a frame that is there, or else another
abbrev pub fall : Option Frame → Option Frame → Option Frame
fall (Some w) o = Some w
fall None o = o

bare_sent : (k : Name × Name) (o : Option Frame) → kept is_placed k (bare o) ≡ None
unfolding empty
bare_sent k None = refl
bare_sent k (Some w) = refl

module _ (last : Table owned Frame) where
  -- The frames are those of the one table, and besides, as they were added, those of the last that are not there.
  pub IsBehind : Table owned Frame → Table owned Frame → Type 0
  IsBehind d e = (k : Name × Name) → get e k ≡ fall (get d k) (bare (get last k))

  behind-sent : (d e : Table owned Frame) → IsBehind d e → schedule_of e ≡ schedule_of d
  unfolding IsBehind AreSentAlike
  behind-sent d e behind = sent-alike e d (λ k. ap (kept is_placed k) (behind k) ∙ either k (get d k))
    where
      either : (k : Name × Name) (o : Option Frame) → kept is_placed k (fall o (bare (get last k))) ≡ kept is_placed k o
      either k (Some w) = refl
      either k None = bare_sent k (get last k)

  behind-last : (e : Table owned Frame) → IsBehind last e → e ≡ last
  unfolding IsBehind
  behind-last e behind = same_table _ _ (λ k. behind k ∙ both (get last k))
    where
      both : (o : Option Frame) → fall o (bare o) ≡ o
      both None = refl
      both (Some w) = refl

  -- what is put in both
  behind-put : (d e : Table owned Frame) (k : Name × Name) (w : Frame) → IsBehind d e → IsBehind (insert d k w) (insert e k w)
  unfolding IsBehind
  behind-put d e k w behind q =
      get-insert e k w q ∙ by (eq_by_cmp owned.compare q k) refl
    where
      by : (b : Bool) → eq_by_cmp owned.compare q k ≡ b → cond b (Some w) (get e q) ≡ fall (get (insert d k w) q) (bare (get last q))
      by true h = ap (λ o. fall o (bare (get last q))) (sym (get-insert d k w q ∙ ap (λ b. cond b (Some w) (get d q)) h))
      by false h = behind q ∙ ap (λ o. fall o (bare (get last q))) (sym (get-insert d k w q ∙ ap (λ b. cond b (Some w) (get d q)) h))

  -- what is added to the one was there in the other
  behind-added : (d e : Table owned Frame) (k : Name × Name) (w : Frame) → IsBehind d e → get d k ≡ None → bare (get last k) ≡ Some w → IsBehind (insert d k w) e
  unfolding IsBehind
  behind-added d e k w behind free is q = behind q ∙ by (eq_by_cmp owned.compare q k) refl
    where
      by : (b : Bool) → eq_by_cmp owned.compare q k ≡ b → fall (get d q) (bare (get last q)) ≡ fall (get (insert d k w) q) (bare (get last q))
      by true h =
          let same : q ≡ k = owned.exact q k (equal _ h) in
          ap (λ o. fall o (bare (get last q))) (ap (get d) same ∙ free)
          ∙ ap (λ j. bare (get last j)) same ∙ is
          ∙ ap (λ o. fall o (bare (get last q))) (sym (get-insert d k w q ∙ ap (λ b. cond b (Some w) (get d q)) h))
      by false h = ap (λ o. fall o (bare (get last q))) (sym (get-insert d k w q ∙ ap (λ b. cond b (Some w) (get d q)) h))

-- ---- rows

pub ok_of : {A E : Type 0} (P : A → Type 0) (r : Result A E) (x : A) → r ≡ Ok x → IfOk r P → P x
ok_of P r x is h = subst (λ z. IfOk z P) is h

module _ (p : Params) (b : Book) (s v : Name) (y : Variant) (last : Table owned Frame) where
  -- where it was done on the one, it is done on the other
  abbrev Again : {E : Type 0} → Result (Table owned Frame) E → Result (Table owned Frame) E → Type 0
  Again {E} r a = IfOk r (λ d. (e : Table owned Frame) × (◌≡◌ {A = Result (Table owned Frame) E} a (Ok e)) × IsBehind last d e)

  again_then : (r a : Result ⊤ Refusal) → a ≡ r → (d e : Table owned Frame) → IsBehind last d e → Again (r >> Ok d) (a >> Ok e)
  unfolding ◌>>◌
  again_then (Ok x) a same d e behind = (e, ap (λ r. r >> Ok e) same, behind)
  again_then (Err refusal) a same d e behind = tt

  same_there : (d e : Table owned Frame) (f : Name) (w : Frame) → IsBehind last d e → get d (s, f) ≡ Some w → get e (s, f) ≡ Some w
  unfolding IsBehind
  same_there d e f w behind there = behind (s, f) ∙ ap (λ o. fall o (bare (get last (s, f)))) there

  -- the change of a frame that is there
  changed-again : (d e : Table owned Frame) (f : Name) (w after : Frame) (what : FrameChange) → IsBehind last d e → get d (s, f) ≡ Some w → frame_after what (Some w) ≡ Becomes after →
      admits_frame (rows_at p b s v y e) (shared_by y.grants e) (Some w) what ≡ admits_frame (rows_at p b s v y d) (shared_by y.grants d) (Some w) what →
      Again (change_in p b s v y d f what) (change_in p b s v y e f what)
  changed-again d e f w after what behind there is alike =
      subst (λ (z : Result (Table owned Frame) Refusal × Result (Table owned Frame) Refusal). Again z.0 z.1)
      (λ i. (sym (change-is p b s v y d f what w after there is) i, sym (change-is p b s v y e f what w after (same_there d e f w behind there) is) i))
      (again_then _ _ alike (insert d (s, f) after) (insert e (s, f) after) (behind-put last d e (s, f) after behind))

  placed-again : (d e : Table owned Frame) (f : Name) (w : Frame) (q : Placement) → IsBehind last d e → get d (s, f) ≡ Some w →
      Again (change_in p b s v y d f (Place q)) (change_in p b s v y e f (Place q))
  unfolding frame_after
  placed-again d e f w q behind there =
      changed-again d e f w (record w { placements = insert w.placements q tt }) (Place q) behind there refl (
      place-is p b s v y e w q
      ∙ ap (λ filled. (refuse NotGranted when not (granted (own_grants s y.grants) s w.node q)) >> ((refuse Limit when nat_le MAX_PLACEMENTS (len w.placements)) >> cell_taken (first_taken filled (cells_of q)))) (behind-sent last d e behind)
      ∙ sym (place-is p b s v y d w q))

  signalled-again : (d e : Table owned Frame) (f : Name) (x : SignalData) → IsBehind last d e → (there : Option Frame) → get d (s, f) ≡ there →
      Again (change_in p b s v y d f (AddSignal x)) (change_in p b s v y e f (AddSignal x))
  unfolding frame_after
  signalled-again d e f x behind None free = subst (λ r. Again r (change_in p b s v y e f (AddSignal x))) (sym (change-none p b s v y d f x free)) tt
  signalled-again d e f x behind (Some w) there =
      changed-again d e f w (record w { signals = with_signal x w.signals }) (AddSignal x) behind there refl (signal-is p b s v y e w x ∙ sym (signal-is p b s v y d w x))

  bare_is : (n : Name) (o : Option Frame) → node_of o ≡ Some n → bare o ≡ Some (record { node = n; placements = empty; signals = [] })
  bare_is n None h = cc
  bare_is n (Some w) h = ap (λ m. Some (record { node = m; placements = empty; signals = [] })) (same_some w.node n h)

  behind_at : (d e : Table owned Frame) (f : Name) (w : Frame) → IsBehind last d e → get d (s, f) ≡ None → bare (get last (s, f)) ≡ Some w → get e (s, f) ≡ Some w
  unfolding IsBehind
  behind_at d e f w behind free is = behind (s, f) ∙ ap (λ o. fall o (bare (get last (s, f)))) free ∙ is

  -- so the row's frame is there, of its node
  abbrev IsFramed : Table owned Frame → Name → Name → Table owned Frame → Type 0
  IsFramed e f n u = (e₁ : Table owned Frame) × (framed_in p b s v y e f n (get e (s, f)) ≡ Ok e₁) × IsBehind last u e₁ × ((w : Frame) × (get u (s, f) ≡ Some w))

  framed-again : (d e : Table owned Frame) (f n : Name) → IsBehind last d e → node_of (get last (s, f)) ≡ Some n → (there : Option Frame) → get d (s, f) ≡ there →
      IfOk (framed_in p b s v y d f n there) (IsFramed e f n)
  unfolding framed_in frame_after settle
  framed-again d e f n behind known None free =
      gives_bind_last _ (λ u. There (Add n) (get d (s, f)) × (u ≡ settle d (s, f) (frame_after (Add n) (get d (s, f))))) _ (change-makes p b s v y d f (Add n)) (λ u made.
      let new : Frame = record { node = n; placements = empty; signals = [] } in
      let last_is : bare (get last (s, f)) ≡ Some new = bare_is n (get last (s, f)) known in
      let here : get e (s, f) ≡ Some new = behind_at d e f new behind free last_is in (
        e,
        ap (framed_in p b s v y e f n) here ∙ past_unless NodeDiffers (same_text n n) (Ok e) (same_text-itself n),
        subst (λ z. IsBehind last z e) (sym made.1) (behind-added last d e (s, f) new behind free last_is),
        (new, ap (λ z. get z (s, f)) made.1 ∙ get-put d (s, f) new),
      ))
  framed-again d e f n behind known (Some w) there =
      gives_unless _ _ (same_text w.node n) _ (λ same.
      (e, ap (framed_in p b s v y e f n) (same_there d e f w behind there) ∙ past_unless NodeDiffers (same_text w.node n) (Ok e) same, behind, (w, there)))

  -- the node that a row says is that of the last
  abbrev IsKnown : Row → Type 0
  IsKnown (row.AddFrame f n) = node_of (get last (s, f)) ≡ Some n
  IsKnown (row.Place f n q) = node_of (get last (s, f)) ≡ Some n
  IsKnown (row.AddSignal f x) = ⊤

  row-again : (d e : Table owned Frame) → IsBehind last d e → (r : Row) → IsKnown r → Again (act_in p b s v y true d r) (act_in p b s v y true e r)
  unfolding act_in ◌>>=◌
  row-again d e behind (row.AddFrame f n) known =
      gives_unless _ _ (contains b.nodes (s, n)) _ (λ has.
      gives_bind_last _ (IsFramed e f n) _ (framed-again d e f n behind known (get d (s, f)) refl) (λ u made.
      (made.0, past_unless NoNode (contains b.nodes (s, n)) _ has ∙ made.1, made.2)))
  row-again d e behind (row.Place f n q) known =
      gives_unless _ _ (contains b.nodes (s, n)) _ (λ has.
      gives_bind _ (IsFramed e f n) (framed_in p b s v y d f n (get d (s, f))) _ (framed-again d e f n behind known (get d (s, f)) refl) (λ u made.
      gives_bind_last _ (λ w. (e₂ : Table owned Frame) × (change_in p b s v y made.0 f (Place q) ≡ Ok e₂) × IsBehind last w e₂) _ (placed-again u made.0 f made.3.0 q made.2 made.3.1) (λ w after.
      (after.0, past_unless NoNode (contains b.nodes (s, n)) _ has ∙ ap (λ r. r >>= (λ z. change_in p b s v y z f (Place q))) made.1 ∙ after.1, after.2))))
  row-again d e behind (row.AddSignal f x) known = signalled-again d e f x behind (get d (s, f)) refl

  -- ---- all rows

  same_ok : (x z : Table owned Frame) → ◌≡◌ {A = Result (Table owned Frame) RefusedAt} (Ok x) (Ok z) → x ≡ z
  same_ok x z h = cc

  parted : (line : ℕ) (r : Result (Table owned Frame) Refusal) (f : Table owned Frame → Result (Table owned Frame) RefusedAt) → (at_line line r >>= f) ≡ Ok last →
      (d : Table owned Frame) × (r ≡ Ok d) × (f d ≡ Ok last)
  unfolding at_line ◌>>=◌
  parted line (Ok d) f e = (d, refl, e)
  parted line (Err refusal) f e = cc

  first_said : (P : Name → Type 0) (t : Bool) (n : Name) (ns : List Name) → t ≡ true → AllByRecursion P (cond t (n ∷ []) [] ++ ns) → P n
  first_said P true n ns h all = all.0
  first_said P false n ns h all = cc

  known_by : (line : ℕ) (r : Row) (rest : List RowRead) (d : Table owned Frame) → ((f : Name) → RowsMake p b s v y f (record { line = line; row = Ok r } ∷ rest) d last) → IsKnown r
  known_by line (row.AddFrame f n) rest d makes = first_said (λ m. node_of (get last (s, f)) ≡ Some m) (same_text f f) n (nodes_for f rest) (same_text-itself f) (makes f).nodes
  known_by line (row.Place f n q) rest d makes = first_said (λ m. node_of (get last (s, f)) ≡ Some m) (same_text f f) n (nodes_for f rest) (same_text-itself f) (makes f).nodes
  known_by line (row.AddSignal f x) rest d makes = tt

  read-again : (line : ℕ) (r : Result Row Refusal) (rest : List RowRead) (d e : Table owned Frame) → IsBehind last d e → ((f : Name) → RowsMake p b s v y f (record { line = line; row = r } ∷ rest) d last) →
      Again (r >>= act_in p b s v y true d) (r >>= act_in p b s v y true e)
  unfolding ◌>>=◌
  read-again line (Ok r) rest d e behind makes = row-again d e behind r (known_by line r rest d makes)
  read-again line (Err refusal) rest d e behind makes = tt

  pub rows-again : (reads : List RowRead) (d e : Table owned Frame) → IsBehind last d e → run_in p b s v y true d reads ≡ Ok last → run_in p b s v y true e reads ≡ Ok last
  unfolding run_in at_line ◌>>=◌
  rows-again [] d e behind made = ap Ok (behind-last last e (subst (λ z. IsBehind last z e) (same_ok d last made) behind))
  rows-again (read ∷ rest) d e behind made =
      let makes = (ok_of _ _ last made (rows-make p b s v y (read ∷ rest) d)).1 in
      let parts = parted read.line (read.row >>= act_in p b s v y true d) (λ z. run_in p b s v y true z rest) made in
      let again = ok_of _ _ parts.0 parts.1 (read-again read.line read.row rest d e behind makes) in
      ap (λ r. at_line read.line r >>= (λ z. run_in p b s v y true z rest)) again.1 ∙ rows-again rest parts.0 again.0 again.2 parts.2

-- ---- before the rows act

unless-again : {A B : Type 0} (xs : List A) (put : List A → B → B) (none d c a had : B) → ((z : B) → put [] z ≡ z) → d ≡ unless_brought xs none c → c ≡ put xs a → a ≡ unless_brought xs none had → d ≡ a
unless-again [] put none d c a had same e h k = e ∙ h ∙ same a
unless-again (x ∷ xs) put none d c a had same e h k = e ∙ sym k

unless-none : {A B : Type 0} (xs : List A) (put : List A → B → B) (none d c : B) → ((z : B) → put [] z ≡ z) → d ≡ unless_brought xs none c → c ≡ put xs none → d ≡ none
unless-none [] put none d c same e h = e ∙ h ∙ same none
unless-none (x ∷ xs) put none d c same e h = e

-- a frame that was freed again is as it was freed before, or as it was added
freed-again : (named : Bool) (ns : List Name) (qs : List Placement) (xs : List SignalData) (o z u w : Option Frame) → Frees qs xs o z → Makes named ns qs xs z u → Frees qs xs u w → w ≡ fall z (bare u)
freed-again named ns qs xs o (Some a) None w first made again = let none : ◌≡◌ {A = Option Name} (Some a.node) None = made.node in cc
freed-again named ns qs xs o (Some a) (Some c) None first made again = let none : ◌≡◌ {A = Option Name} None (Some c.node) = again.node in cc
freed-again named ns qs xs o (Some a) (Some c) (Some d) first made again =
    let node : d.node ≡ a.node = same_some _ _ (again.node ∙ sym made.node) in
    let placements : d.placements ≡ a.placements = unless-again qs insert_all empty d.placements c.placements a.placements (had_placements o) (λ t. refl) again.placements made.placements first.placements in
    let signals : d.signals ≡ a.signals = unless-again xs (λ ys had. put_in had ys) [] d.signals c.signals a.signals (had_signals o) (λ l. refl) again.signals made.signals first.signals in
    λ i. Some (record { node = node i; placements = placements i; signals = signals i })
freed-again named ns qs xs o None None None first made again = refl
freed-again named ns qs xs o None None (Some d) first made again = let none : ◌≡◌ {A = Option Name} (Some d.node) None = again.node in cc
freed-again named ns qs xs o None (Some c) None first made again = let none : ◌≡◌ {A = Option Name} None (Some c.node) = again.node in cc
freed-again named ns qs xs o None (Some c) (Some d) first made again =
    let node : d.node ≡ c.node = same_some _ _ again.node in
    let placements : d.placements ≡ empty = unless-none qs insert_all empty d.placements c.placements (λ t. refl) again.placements made.placements in
    let signals : d.signals ≡ [] = unless-none xs (λ ys had. put_in had ys) [] d.signals c.signals (λ l. refl) again.signals made.signals in
    λ i. Some (record { node = node i; placements = placements i; signals = signals i })

-- ---- frames of other suppliers

module _ (p : Params) (b : Book) (s v : Name) (y : Variant) where
  change-stays : (t : Table owned Frame) (f : Name) (what : FrameChange) → IfOk (change_in p b s v y t f what) (StayOthers s t)
  unfolding StayOthers
  change-stays t f what =
      gives_bind_last _ (λ u. There what (get t (s, f)) × (u ≡ settle t (s, f) (frame_after what (get t (s, f))))) _ (change-makes p b s v y t f what) (λ u made k other.
      ap (λ z. get z k) made.1 ∙ settle-other t (s, f) k _ (not_mine s f k other))

  stays_on : (t u w : Table owned Frame) → StayOthers s t u → StayOthers s u w → StayOthers s t w
  unfolding StayOthers
  stays_on t u w one two k other = two k other ∙ one k other

  stays_all : (t : Table owned Frame) → StayOthers s t t
  unfolding StayOthers
  stays_all t k other = refl

  framed-stays : (t : Table owned Frame) (f n : Name) (there : Option Frame) → IfOk (framed_in p b s v y t f n there) (StayOthers s t)
  unfolding framed_in
  framed-stays t f n None = change-stays t f (Add n)
  framed-stays t f n (Some w) = gives_unless _ _ (same_text w.node n) _ (λ _. stays_all t)

  row-stays : (t : Table owned Frame) (r : Row) → IfOk (act_in p b s v y true t r) (StayOthers s t)
  unfolding act_in
  row-stays t (row.AddFrame f n) = gives_unless _ _ _ _ (λ _. framed-stays t f n (get t (s, f)))
  row-stays t (row.Place f n q) =
      gives_unless _ _ _ _ (λ _.
      gives_bind _ (StayOthers s t) _ _ (framed-stays t f n (get t (s, f))) (λ u one.
      gives_bind_last _ (StayOthers s u) _ (change-stays u f (Place q)) (λ w two. stays_on t u w one two)))
  row-stays t (row.AddSignal f x) = change-stays t f (AddSignal x)

  rows-stay : (reads : List RowRead) (t : Table owned Frame) → IfOk (run_in p b s v y true t reads) (StayOthers s t)
  unfolding run_in
  rows-stay [] t = stays_all t
  rows-stay (read ∷ rest) t =
      gives_bind _ (StayOthers s t) _ _ (at_line-gives _ read.line _ (gives_each _ read.row _ (λ r _. row-stays t r))) (λ u one.
      gives_bind_last _ (StayOthers s u) _ (rows-stay rest u) (λ w two. stays_on t u w one two))

  -- after the rows, the frames that are freed again are behind those that were freed before
  freed-behind : (reads : List RowRead) (t last : Table owned Frame) → run_in p b s v y true (free_rows s reads t) reads ≡ Ok last → IsBehind last (free_rows s reads t) (free_rows s reads last)
  unfolding IsBehind StayOthers
  freed-behind reads t last made k = elim (cases_Bool (is_of s k)) [
    | inl mine ↦
        let key : k ≡ (s, k.1) = λ i. (same_text-is k.0 s mine i, k.1) in
        subst (λ j. get (free_rows s reads last) j ≡ fall (get (free_rows s reads t) j) (bare (get last j))) (sym key)
        (freed-again (is_named k.1 reads) (nodes_for k.1 reads) (placements_for k.1 reads) (signals_for k.1 reads) (get t (s, k.1)) _ _ _
        (free_rows-free s k.1 reads t) ((ok_of _ _ last made (rows-make p b s v y reads (free_rows s reads t))).1 k.1) (free_rows-free s k.1 reads last))
    | inr other ↦
        let stayed = ok_of (StayOthers s (free_rows s reads t)) _ last made (rows-stay reads (free_rows s reads t)) in
        free-others s reads last k other ∙ sym (fall_same (get (free_rows s reads t) k) (get last k) (stayed k other))
  ]
    where
      fall_same : (z u : Option Frame) → u ≡ z → fall z (bare u) ≡ u
      fall_same None None e = refl
      fall_same None (Some w) e = cc
      fall_same (Some w) u e = sym e

  -- the rows of the same file again
  pub runs_again : (whole : Option Header) (reads : List RowRead) (t last : Table owned Frame) → run_in p b s v y true (free_rows s reads (clear_all s whole reads t)) reads ≡ Ok last →
      run_in p b s v y true (free_rows s reads (clear_all s whole reads last)) reads ≡ Ok last
  runs_again whole reads t last made =
      let begun : Table owned Frame = clear_all s whole reads t in
      let makes = (ok_of _ _ last made (rows-make p b s v y reads (free_rows s reads begun))).1 in
      let same = alike_freed p b s v y reads whole t last makes in
      ap (λ z. run_in p b s v y true z reads) same
      ∙ rows-again p b s v y last reads (free_rows s reads begun) (free_rows s reads last) (freed-behind reads begun last made) made

-- ---- the step

pub step-replace : (c : Cluster) (b : Book) (s : Name) (variant body : List ℕ) (whole : Bool) → contains b.suppliers s ≡ true → is_name variant ≡ true →
    step c b (Supplier s) (request.Deliver variant (purpose.Replacement whole) body) ≡ outcome b (replace c.params b (record { supplier = s; variant = variant; how = purpose.Replacement whole; body = body }) whole)
unfolding step act deliver check purpose asking name ◌>>=◌ ◌>>◌ refuse◌when◌
step-replace c b s variant body whole known named = rw (known, named) refl

module _ (c : Cluster) (b : Book) (s : Name) (variant body : List ℕ) (whole : Bool) (known : contains b.suppliers s ≡ true) (named : is_name variant ≡ true) where
  abbrev it : Delivery
  it = record { supplier = s; variant = variant; how = purpose.Replacement whole; body = body }

  abbrev reads : List RowRead
  reads = rows_of_body c.params body

  -- the frames before the rows act
  abbrev begun : Table owned Frame → Table owned Frame
  begun t = clear_all s (whole_of whole (header_of_body body)) reads t

  -- the same again
  abbrev IsStable : Outcome → Type 0
  IsStable o = (after : Book) (rows : ℕ) → o ≡ record { book = after; answer = Replaced rows } → step c after (Supplier s) (request.Deliver variant (purpose.Replacement whole) body) ≡ record { book = after; answer = Replaced rows }

  module _ (x : Variant) (found : get b.variants variant ≡ Some x) (open_now : x.released ≡ false) (short : nat_lt MAX_IMPORT_BYTES (length body) ≡ false) where
    abbrev now : Table owned Frame → Book
    now t = at c.params b s variant x t

    again_at : (u : Table owned Frame) → run_in c.params b s variant x true (free_rows s reads (begun x.frames)) reads ≡ Ok u →
        step c (now u) (Supplier s) (request.Deliver variant (purpose.Replacement whole) body) ≡ record { book = now u; answer = Replaced (length reads) }
    unfolding replace outcome replaced lifted
    again_at u made =
        step-replace c (now u) s variant body whole known named
        ∙ ap (outcome (now u)) (
        past_or _ _ (having c.params b s variant x u) _ (variant_at c.params b s variant x u)
        ∙ past_when _ x.released _ open_now
        ∙ past_when _ (nat_lt MAX_IMPORT_BYTES (length body)) _ short
        ∙ ap (λ z. Ok (replaced (now u) (length reads) z)) (
        ap (λ z. replace_rows c.params z s variant reads) (put_at c.params b s variant x u (free_rows s reads (begun u)))
        ∙ replace_rows-lift c.params b s variant x open_now known reads (free_rows s reads (begun u))
        ∙ ap (lifted c.params b s variant x) (runs_again c.params b s variant x (whole_of whole (header_of_body body)) reads x.frames u made)))

    made-stable : (made : Result (Table owned Frame) RefusedAt) → run_in c.params b s variant x true (free_rows s reads (begun x.frames)) reads ≡ made → IsStable (replaced b (length reads) (lifted c.params b s variant x made))
    unfolding replaced lifted
    made-stable (Ok u) made after rows is =
        subst (λ (o : Outcome). step c o.book (Supplier s) (request.Deliver variant (purpose.Replacement whole) body) ≡ record { book = o.book; answer = o.answer }) is (again_at u made)
    made-stable (Err fault) made after rows is = let no = ap (λ (o : Outcome). o.answer) is in cc

  outcome-stable : (r : Result Outcome Refusal) → IfOk r IsStable → IsStable (outcome b r)
  unfolding outcome
  outcome-stable (Ok o) h = h
  outcome-stable (Err e) h = λ after rows is. let no = ap (λ (o : Outcome). o.answer) is in cc

  replace-stable : IfOk (replace c.params b it whole) IsStable
  unfolding replace
  replace-stable =
      gives_or _ (get b.variants variant) _ _ (λ x found.
      gives_when _ _ _ _ (λ open_now.
      gives_when _ _ _ _ (λ short.
      subst (λ z. IsStable (replaced b (length reads) z)) (sym (replace_rows-lift c.params b s variant x open_now known reads (free_rows s reads (begun x.frames))))
      (made-stable x found open_now short _ refl))))

  stable : IsStable (step c b (Supplier s) (request.Deliver variant (purpose.Replacement whole) body))
  stable = subst IsStable (sym (step-replace c b s variant body whole known named)) (outcome-stable _ replace-stable)

was_asked : (c : Cluster) (b after : Book) (s : Name) (variant body : List ℕ) (whole : Bool) (rows : ℕ) → step c b (Supplier s) (request.Deliver variant (purpose.Replacement whole) body) ≡ record { book = after; answer = Replaced rows } →
    (contains b.suppliers s ≡ true) × (is_name variant ≡ true)
unfolding step act deliver check purpose asking name outcome ◌>>=◌ ◌>>◌ refuse◌when◌
was_asked c b after s variant body whole rows told = elim (cases_Bool (contains b.suppliers s)) [
  | inl known ↦ elim (cases_Bool (is_name variant)) [
    | inl named ↦ (known, named)
    | inr unnamed ↦ let no = ap (λ (o : Outcome). o.answer) (rw (known, unnamed) at told) in cc
  ]
  | inr unknown ↦ let no = ap (λ (o : Outcome). o.answer) (rw unknown at told) in cc
]

pub changes_nothing : SameFileChangesNothing
changes_nothing c b after s variant body whole rows told =
    let asked = was_asked c b after s variant body whole rows told in
    stable c b s variant body whole asked.0 asked.1 after rows told
