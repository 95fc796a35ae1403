-- What is gathered from the pages of those whom an actor sees is what the register shows it.
use Rattle.std.proofs.Common.{◌≡◌, ℕ, ◌==◌, ◌<◌, arith, Bool, true, false, Option, Some, None, is_some, Result, Ok, Err, List, [], length, refl, sym, ap, subst, ◌∙◌, ◌⊎◌, inl, inr}
use Rattle.std.specs.Prelude.{MatchResult}
use Rattle.std.specs.List.{flat_map}
use Rattle.std.proofs.lemmas.Bool.{ne_eqb}
use Rattle.fr_base.specs.Book.{Book, Frame, Variant, own, own_grants, placements_of}
use Rattle.fr_base.specs.Cells.{cluster_cells}
use Rattle.fr_base.specs.Cluster.{Cluster}
use Rattle.fr_base.specs.Differences.{seen_rows}
use Rattle.fr_base.specs.Exports.{exported}
use Rattle.fr_base.specs.Load.{load_of}
use Rattle.fr_base.specs.Refusing.{◌>>=◌, ◌>>◌, ◌or◌, refuse◌when◌}
use Rattle.fr_base.specs.Queries.{frames_of, gaps_of, grants_of, named, found as rows_found, shown, signal_rows, signals_of}
use Rattle.fr_base.specs.Room.{own_room}
use Rattle.fr_base.specs.Seen.{seen_frames, seen_grants}
use Rattle.fr_base.specs.Sound.{IsSound}
use Rattle.fr_base.specs.Step.{own_rows}
use Rattle.fr_base.specs.Tables.{contains, get, len}
use Rattle.fr_base.specs.declared.actor.Actor.{Actor}
use Rattle.fr_base.specs.declared.actor.Actor.TheVariants.{Integrator, Supplier}
use Rattle.fr_base.specs.declared.answer.ReportRows.{ReportRows}
use Rattle.fr_base.specs.declared.answer.ReportRows.TheVariants as shows
use Rattle.fr_base.specs.declared.answer.GrantRow.{GrantRow}
use Rattle.fr_base.specs.declared.answer.FrameRow.{FrameRow}
use Rattle.fr_base.specs.declared.answer.Sending.{Sending}
use Rattle.fr_base.specs.declared.answer.GapRow.{GapRow}
use Rattle.fr_base.specs.declared.answer.SignalRow.{SignalRow}
use Rattle.fr_base.specs.declared.answer.LoadRow.{LoadRow}
use Rattle.fr_base.specs.declared.answer.SeenRow.{SeenRow}
use Rattle.fr_base.specs.declared.import.Header.{Header}
use Rattle.fr_base.specs.declared.name.Name.{Name}
use Rattle.fr_base.specs.declared.params.Params.{Params}
use Rattle.fr_base.specs.declared.placement.Placement.{Placement}
use Rattle.fr_base.specs.declared.refusal.Refusal.{Refusal}
use Rattle.fr_base.specs.declared.refusal.Refusal.TheVariants.{NoFrame, NotYours, NoVariant, Released, Unavailable}
use Rattle.fr_base.specs.declared.query.Query.TheVariants.{Variant as OfVariant}
use Rattle.fr_base.specs.declared.report.Report.{Report}
use Rattle.fr_base.specs.declared.report.Report.TheVariants.{Grants, Frames, Schedule, Gaps, Layout, Load, Rows, Room, Export}
use Rattle.fr_base.proofs.SoundTables.{same_some, value_of}
use Rattle.fr_office.specs.Carried.{Replies}
use Rattle.fr_office.specs.Compared.{seen_among}
use Rattle.fr_office.specs.Shared.{grants_among, placements_among}
use Rattle.fr_office.specs.Shown.{FindsPage, Shows, frames_named, lanes_told, seen_names}
use Rattle.fr_office.proofs.ExportLaws.{frames_among}
use Rattle.fr_office.proofs.PageRows.{sendings-sent}
use Rattle.fr_office.proofs.RowReplies.{rows-among}
use Rattle.fr_office.proofs.SeenRows.{gaps-seen, grants-seen, listed-seen, named-seen, placements-seen, rows-seen}
use Rattle.fr_world.specs.Held.{Standing}
use Rattle.fr_world.specs.Loads.{filled_load}
use Rattle.fr_world.specs.Pages.{PageData, own_rows_of, page_in}
use Rattle.fr_world.specs.Rooms.{page_room}
use Rattle.fr_world.specs.Sendings.{sent_in}
use Rattle.fr_world.proofs.LoadLaws.{load-all, load-own}
use Rattle.fr_world.proofs.PageLaws.{rows-registers}

-- what was found is what is shown; or it was refused so, or is Unavailable
abbrev Said : Result ReportRows Refusal → Result ReportRows Refusal → Type 0
Said r t = MatchResult r (λ answer. t ≡ Ok answer) (λ e. (e ≡ Unavailable) ⊎ (t ≡ Err e))

-- ---- what is gathered of those whom the actor sees

module _ (p : Params) (c : Cluster) (b : Book) (v : Name) (x : Variant) (actor : Actor) (sound : IsSound c b) (there : get b.variants v ≡ Some x) where
  pub shows_grants : (rows : List GrantRow) → rows ≡ grants_of (grants_among (seen_names actor b) x.grants) → shown p actor x Grants ≡ Ok (shows.Grants rows)
  unfolding shown
  shows_grants rows e = ap (λ rs. Ok (shows.Grants rs)) (sym (e ∙ ap grants_of (grants-seen c b v x sound there actor)))

  pub shows_frames : (rows : List FrameRow) → rows ≡ flat_map (λ s. frames_of (own s x.frames)) (seen_names actor b) → shown p actor x Frames ≡ Ok (shows.Frames rows)
  unfolding shown
  shows_frames rows e = ap (λ rs. Ok (shows.Frames rs)) (sym (e ∙ listed-seen c b v x sound there actor))

  pub shows_schedule : (rows : List Sending) → rows ≡ sent_in (placements_among (seen_names actor b) x) (cluster_cells p) → shown p actor x Schedule ≡ Ok (shows.Schedule rows)
  unfolding shown
  shows_schedule rows e =
      ap (λ rs. Ok (shows.Schedule rs)) (sym (e ∙ sendings-sent p (seen_frames actor x.frames) (placements_among (seen_names actor b) x) (placements-seen c b v x sound there actor)))

  pub shows_gaps : (rows : List GapRow) → rows ≡ flat_map (λ s. gaps_of p (own s x.frames)) (seen_names actor b) → shown p actor x Gaps ≡ Ok (shows.Gaps rows)
  unfolding shown
  shows_gaps rows e = ap (λ rs. Ok (shows.Gaps rs)) (sym (e ∙ gaps-seen c b v x sound there actor p))

  pub shows_layout : (f : Name) (rows : List SignalRow) → 0 < length (frames_named f (seen_names actor b) x) → rows ≡ flat_map signal_rows (frames_named f (seen_names actor b) x) →
      shown p actor x (Layout f) ≡ Ok (shows.Layout rows)
  unfolding shown signals_of len ◌>>◌ refuse◌when◌
  shows_layout f rows found e =
      let t = named f (seen_frames actor x.frames) in
      let all = named-seen c b v x sound there actor f in
      let some : 0 < length t.rows = subst (λ (rs : List ((Name × Name) × Frame)). 0 < length rs) all found in
      ap (λ none. (refuse NoFrame when none) >> Ok (shows.Layout (signals_of t))) (ne_eqb (length t.rows) 0 (λ h. omega (arith, h, some)))
      ∙ ap (λ rs. Ok (shows.Layout rs)) (sym (e ∙ ap (flat_map signal_rows) all))

  pub shows_no_frame : (f : Name) → frames_named f (seen_names actor b) x ≡ [] → shown p actor x (Layout f) ≡ Err NoFrame
  unfolding shown len ◌>>◌ refuse◌when◌
  shows_no_frame f none =
      let t = named f (seen_frames actor x.frames) in
      let no_rows : t.rows ≡ [] = sym (named-seen c b v x sound there actor f) ∙ none in
      ap (λ none. (refuse NoFrame when none) >> Ok (shows.Layout (signals_of t))) (ap (λ (rs : List ((Name × Name) × Frame)). length rs == 0) no_rows)

  pub shows_load : (rows : List LoadRow) → rows ≡ lanes_told actor (filled_load p (grants_among (seen_names actor b) x.grants) (placements_among (seen_names actor b) x)) →
      shown p actor x Load ≡ Ok (shows.Load rows)
  unfolding shown lanes_told
  shows_load rows e =
      ap (λ rs. Ok (shows.Load rs))
      (sym (e ∙ (λ i. lanes_told actor (filled_load p (grants-seen c b v x sound there actor i) (placements-seen c b v x sound there actor i))) ∙ loads actor x))
    where
      loads : (actor : Actor) (x : Variant) →
          lanes_told actor (filled_load p (seen_grants actor x.grants) (placements_of (seen_frames actor x.frames))) ≡ load_of p actor (seen_grants actor x.grants) (seen_frames actor x.frames)
      loads Integrator x = load-all p x.grants x.frames
      loads (Supplier s) x = load-own p s (own_grants s x.grants) (own s x.frames)

  pub shows_rows : (rows : List SeenRow) → p ≡ c.params → rows ≡ seen_among p (seen_names actor b) x → shown p actor x Rows ≡ Ok (shows.Seen rows)
  unfolding shown
  shows_rows rows of_p e =
      ap (λ rs. Ok (shows.Seen rs))
      (sym (e ∙ ap (λ p. seen_among p (seen_names actor b) x) of_p ∙ rows-among c b v x actor sound there ∙ ap (λ p. seen_rows p actor x) (sym of_p)))

  pub shows_export : (header : Header) (number : ℕ) (rows : ReportRows) → rows ≡ exported header number (frames_among (seen_names actor b) x) → shown p actor x (Export header number) ≡ Ok rows
  unfolding shown
  shows_export header number rows e = ap Ok (sym (e ∙ ap (exported header number) (rows-seen c b v x sound there actor)))

-- ---- the room for a frame

-- the integrator has no frames of which the room could be asked
pub no-room : (old : Standing) (v f : Name) (repetition : ℕ) → Shows Integrator v (Room f repetition) old old (Err NotYours)
unfolding shown
no-room old v f repetition c b stood sound = (stood, λ x there. inr refl)

-- refused before or behind what is made of the rest
refused_first : {A B : Type 0} (t : Bool) (r : Result A Refusal) (f : A → Result B Refusal) → ((refuse Released when t) >> (r >>= f)) ≡ ((refuse Released when t) >> r) >>= f
unfolding ◌>>=◌ ◌>>◌ refuse◌when◌
refused_first true r f = refl
refused_first false r f = refl

-- the room on the supplier's page is that of the variant
room-shown : (c : Cluster) (b : Book) (s v : Name) (x : Variant) (f : Name) (repetition : ℕ) →
    shown c.params (Supplier s) x (Room f repetition) ≡ page_room (page_in c.params b s v x) f repetition >>= λ places. Ok (shows.Room places)
unfolding shown own_rows page_room
room-shown c b s v x f repetition =
    let same = rows-registers c b s v x in
    (λ i. (refuse Released when x.released) >> (own_room c.params (sym same i).grants (sym same i).frames s f repetition >>= λ places. Ok (shows.Room places)))
    ∙ refused_first x.released (own_room c.params (own_rows_of (page_in c.params b s v x)).grants (own_rows_of (page_in c.params b s v x)).frames s f repetition) (λ places. Ok (shows.Room places))

module _ (old new : Standing) (s v f : Name) (repetition : ℕ) (page : PageData) (finds : FindsPage (Some page) s v old new (Ok tt)) where
  -- what is said of the page is said of the variant
  of-page : (r : Result ReportRows Refusal) → Said r (page_room page f repetition >>= λ places. Ok (shows.Room places)) → Shows (Supplier s) v (Room f repetition) old new r
  of-page r said c b stood sound =
      let found = finds c b stood in (
        found.0,
        λ x there.
            let same : found.1.0 ≡ x = same_some found.1.0 x (sym found.1.1 ∙ there) in
            let is : page ≡ page_in c.params b s v x = same_some page (page_in c.params b s v found.1.0) found.1.2 ∙ ap (page_in c.params b s v) same in
            subst (Said r) (ap (λ (p : PageData). page_room p f repetition >>= λ places. Ok (shows.Room places)) is ∙ sym (room-shown c b s v x f repetition)) said,
      )

  pub shows-room : (places : List Placement) → page_room page f repetition ≡ Ok places → Shows (Supplier s) v (Room f repetition) old new (Ok (shows.Room places))
  unfolding ◌>>=◌
  shows-room places e = of-page (Ok (shows.Room places)) (ap (λ r. r >>= λ places. Ok (shows.Room places)) e)

  pub shows-no_room : (r : Result ReportRows Refusal) (e : Refusal) → r ≡ Err e → (e ≡ Unavailable) ⊎ (page_room page f repetition ≡ Err e) → Shows (Supplier s) v (Room f repetition) old new r
  unfolding ◌>>=◌
  shows-no_room r e is refused = subst (Shows (Supplier s) v (Room f repetition) old new) (sym is) (of-page (Err e) (elim refused [
    | inl lacks ↦ inl lacks
    | inr said ↦ inr (ap (λ r. r >>= λ places. Ok (shows.Room places)) said)
  ]))

-- ---- the answer

reply-there : (p : Params) (b : Book) (a : Actor) (v : Name) (report : Report Name ℕ) (x : Variant) → get b.variants v ≡ Some x → rows_found p b a (OfVariant v report) ≡ shown p a x report
unfolding rows_found ◌or◌ ◌>>=◌
reply-there p b a v report x there = ap (λ o. (o or NoVariant) >>= λ variant. shown p a variant report) there

reply-none : (p : Params) (b : Book) (a : Actor) (v : Name) (report : Report Name ℕ) → get b.variants v ≡ None → rows_found p b a (OfVariant v report) ≡ Err NoVariant
unfolding rows_found ◌or◌ ◌>>=◌
reply-none p b a v report none = ap (λ o. (o or NoVariant) >>= λ variant. shown p a variant report) none

module _ (old mid : Standing) (actor : Actor) (v : Name) (report : Report Name ℕ) (has : Bool)
    (told : (c : Cluster) (b : Book) → old c b → mid c b × (has ≡ contains b.variants v)) where
  pub shown-replied : (new : Standing) (r : Result ReportRows Refusal) → has ≡ true → Shows actor v report mid new r → Replies (λ c b. rows_found c.params b actor (OfVariant v report)) old new r
  shown-replied new r is shows c b stood sound =
      let first = told c b stood in
      let found = value_of (get b.variants v) (sym first.1 ∙ is) in
      let last = shows c b first.0 sound in
      (last.0, subst (Said r) (sym (reply-there c.params b actor v report found.0 found.1)) (last.1 found.0 found.1))

  pub none-replied : has ≡ false → Replies (λ c b. rows_found c.params b actor (OfVariant v report)) old mid (Err NoVariant)
  none-replied is c b stood sound =
      let first = told c b stood in
      (first.0, inr (reply-none c.params b actor v report (none_of (get b.variants v) (sym first.1 ∙ is))))
    where
      none_of : (o : Option Variant) → is_some o ≡ false → o ≡ None
      none_of None e = refl
      none_of (Some x) e = cc
