-- The room that a supplier is told is that of the book, and it is where a Place is done.
use Rattle.std.proofs.Common.{◌≡◌, ◌⊎◌, ◌≤◌, ℕ, Bool, true, false, not, cond, List, Option, Some, None, Result, Ok, Err, IsTrue, refl, sym, ap, subst, ◌∙◌, inl, inr, arith}
use Rattle.std.specs.Prelude.{nat_le}
use Rattle.std.specs.List.{list_all}
use Rattle.std.proofs.lemmas.Bool.{and_from, and_parts, cases_Bool}
use Rattle.std.proofs.lemmas.Bool.Decides.{nat_tests}
use Rattle.fr_base.specs.Refusing.{◌>>=◌, ◌>>◌, ◌or◌, refuse◌when◌}
use Rattle.fr_base.specs.Tables.{get}
use Rattle.fr_base.specs.Channels.{channels_in, has_channel, text_of_channels, channels_of_text}
use Rattle.fr_base.specs.Changes.{in_rows}
use Rattle.fr_base.specs.Checks.{asking, name, cycles, slot, channels, placement, query, check}
use Rattle.fr_base.specs.Cycles.{Cycles, are_cycles, is_repetition}
use Rattle.fr_base.specs.Cluster.{Cluster}
use Rattle.fr_base.specs.Names.{is_name}
use Rattle.fr_base.specs.Book.{Variant, Book, own, own_grants}
use Rattle.fr_base.specs.Queries.{shown, found}
use Rattle.fr_base.specs.Room.{own_room, room_in, has_place}
use Rattle.fr_base.specs.RoomLaws.{room_told, tells_place, place_of, room_of, RoomIsTold, ToldRoomIsPlace, ToldRoomFits, RefusedRoomRefuses}
use Rattle.fr_base.specs.Step.{Outcome, own_rows, shared_by, change_rows, done, perform, act, outcome, knows, step}
use Rattle.fr_base.specs.Sound.{FitsCluster, IsSound}
use Rattle.fr_base.specs.Alone.{is_done, is_refused}
use Rattle.fr_base.specs.declared.channel.Channels.{Channels}
use Rattle.fr_base.specs.declared.channel.Channels.TheVariants as channels
use Rattle.fr_base.specs.declared.name.Name.{Name}
use Rattle.fr_base.specs.declared.params.Params.{Params}
use Rattle.fr_base.specs.declared.placement.Placement.{Placement}
use Rattle.fr_base.specs.declared.answer.Answer.{Answer}
use Rattle.fr_base.specs.declared.answer.Answer.TheVariants.{Refused}
use Rattle.fr_base.specs.declared.answer.ReportRows.TheVariants as rows
use Rattle.fr_base.specs.declared.refusal.Refusal.{Refusal}
use Rattle.fr_base.specs.declared.refusal.Refusal.TheVariants.{UnknownKey, BadName, BadCycles, BadSlot, BadChannel, NoVariant, Released, Limit}
use Rattle.fr_base.specs.declared.actor.Actor.TheVariants.{Supplier}
use Rattle.fr_base.specs.declared.request.Request.{Request}
use Rattle.fr_base.specs.declared.request.Command.TheVariants.{Rows}
use Rattle.fr_base.specs.declared.request.Change.TheVariants as change
use Rattle.fr_base.specs.declared.request.FrameChange.TheVariants.{Place}
use Rattle.fr_base.specs.declared.request.Checked.{Checked}
use Rattle.fr_base.specs.declared.request.Checked.TheVariants as checked
use Rattle.fr_base.specs.declared.query.Query.TheVariants.{Variant as OfVariant}
use Rattle.fr_base.specs.declared.report.Report.TheVariants.{Room}
use Rattle.fr_base.proofs.QuerySteps.{only_told, told_of, answers, unknown, unchecked, acts, query-step}
use Rattle.fr_base.proofs.RoomLaws.{room-page, room-place, room-refused, room-fits}

-- ---- the room that is told

-- what a supplier is told of the room that its book has
abbrev pub told_room : Cluster → Book → Name → Name → Name → ℕ → Answer
told_room c b s v f r = room_told (room_in c.params b s v f r)

shown-room : (released : Bool) (places : Result (List Placement) Refusal) →
    told_of false ((refuse Released when released) >> (places >>= (λ ps. Ok (rows.Room ps))))
    ≡ room_told ((refuse Released when released) >> places)
unfolding ◌>>=◌ ◌>>◌ refuse◌when◌
shown-room true places = refl
shown-room false (Ok ps) = refl
shown-room false (Err e) = refl

found-room : (c : Cluster) (b : Book) (s v f : Name) (r : ℕ) → IsSound c b →
    told_of false (found c.params b (Supplier s) (OfVariant v (Room f r))) ≡ told_room c b s v f r
unfolding found shown room_in own_rows shared_by ◌or◌ ◌>>=◌
found-room c b s v f r sound = by (get b.variants v) refl
  where
    by : (o : Option Variant) → get b.variants v ≡ o →
        told_of false ((o or NoVariant) >>= (λ x. shown c.params (Supplier s) x (Room f r))) ≡ told_room c b s v f r
    by None there = rw there refl
    by (Some x) there =
        shown-room x.released (own_room c.params (own_grants s x.grants) (own s x.frames) s f r)
        ∙ ap room_told (room-page c b sound s v x there f r)

pub room_is_told : RoomIsTold
room_is_told c b s v f r request sound known checks =
    query-step c b (Supplier s) request (OfVariant v (Room f r)) known checks
    ∙ ap (only_told b) (found-room c b s v f r sound)

-- ---- what the requests say

text-own : (cs : Channels) → channels_of_text (text_of_channels cs) ≡ Some cs
text-own channels.A = refl
text-own channels.AB = refl
text-own channels.B = refl

module _ (p : Params) (q : Placement) (fits : FitsCluster p q) where
  repetition-own : IsTrue (is_repetition p.cycles q.cycles.repetition)
  repetition-own =
      subst (λ n. IsTrue (is_repetition n q.cycles.repetition)) fits.count
      (and_parts _ _ (and_parts _ _ fits.cycles).1).0

  abbrev its_cycles : Cycles
  its_cycles = record { count = p.cycles; base = q.cycles.base; repetition = q.cycles.repetition }

  cycles-own : cycles p q.cycles.base q.cycles.repetition ≡ Ok q.cycles
  unfolding cycles
  cycles-own =
      let same : its_cycles ≡ q.cycles = λ i. record q.cycles { count = sym fits.count i } in
      ap (λ s. cond (are_cycles s) (Ok s) (Err BadCycles)) same
      ∙ ap (λ t. cond t (Ok q.cycles) (Err BadCycles)) fits.cycles

  slot-own : slot p q.slot ≡ Ok q.slot
  unfolding slot
  slot-own =
      let low : 1 ≤ q.slot = fits.from_one in
      let high : q.slot ≤ p.static_slots = fits.to_last in
      let above : nat_le 1 q.slot ≡ true = grind (arith, nat_tests) in
      let below : nat_le q.slot p.static_slots ≡ true = grind (arith, nat_tests) in
      ap (λ t. cond t (Ok q.slot) (Err BadSlot)) (and_from _ _ above below)

  abbrev has : Channels → Bool
  has cs = list_all (has_channel p.channels) (channels_in cs)

  channels-own : channels p (text_of_channels q.channels) ≡ Ok q.channels
  unfolding channels ◌or◌ ◌>>=◌ ◌>>◌ refuse◌when◌
  channels-own =
      ap (λ o. (o or BadChannel) >>= λ cs. (refuse BadChannel when not (has cs)) >> Ok cs) (text-own q.channels)
      ∙ ap (λ t. (refuse BadChannel when not t) >> Ok q.channels) fits.channels

  placement-own : placement p q.slot (text_of_channels q.channels) q.cycles.base q.cycles.repetition ≡ Ok q
  unfolding placement ◌>>=◌
  placement-own = rw (cycles-own, slot-own, channels-own) refl

module _ (c : Cluster) (b : Book) (s : Name) (variant frame : List ℕ) where
  abbrev by_its_text : Request → Result Checked Refusal
  by_its_text request = check c.params (Supplier s) request

  abbrev asked_room : ℕ → Result Checked Refusal
  asked_room r = Ok (checked.Query (OfVariant variant (Room frame r)))

  abbrev asked_place : Placement → Result Checked Refusal
  asked_place q = Ok (checked.Command (Rows (in_rows s variant (change.Frame frame (Place q)))))

  room-checks : (r : ℕ) → IsTrue (is_name variant) → IsTrue (is_name frame) → IsTrue (is_repetition c.params.cycles r) →
      by_its_text (room_of variant frame r) ≡ asked_room r
  unfolding check query name ◌>>=◌ ◌>>◌ refuse◌when◌
  room-checks r v f divides = rw (v, f, divides) refl

  room-variant : (r : ℕ) → is_name variant ≡ false → by_its_text (room_of variant frame r) ≡ Err BadName
  unfolding check query name ◌>>=◌ ◌>>◌ refuse◌when◌
  room-variant r v = rw v refl

  room-frame : (r : ℕ) → IsTrue (is_name variant) → is_name frame ≡ false →
      by_its_text (room_of variant frame r) ≡ Err BadName
  unfolding check query name ◌>>=◌ ◌>>◌ refuse◌when◌
  room-frame r v f = rw (v, f) refl

  room-cycles : (r : ℕ) → IsTrue (is_name variant) → IsTrue (is_name frame) → is_repetition c.params.cycles r ≡ false →
      by_its_text (room_of variant frame r) ≡ Err BadCycles
  unfolding check query name ◌>>=◌ ◌>>◌ refuse◌when◌
  room-cycles r v f other = rw (v, f, other) refl

  place-checks : (q : Placement) → FitsCluster c.params q → IsTrue (is_name variant) → IsTrue (is_name frame) →
      by_its_text (place_of variant frame q) ≡ asked_place q
  unfolding check asking name ◌>>=◌
  place-checks q fits v f = rw (v, f, placement-own c.params q fits) refl

  place-variant : (q : Placement) → is_name variant ≡ false → by_its_text (place_of variant frame q) ≡ Err BadName
  unfolding check asking name ◌>>=◌
  place-variant q v = rw v refl

  place-frame : (q : Placement) → IsTrue (is_name variant) → is_name frame ≡ false →
      by_its_text (place_of variant frame q) ≡ Err BadName
  unfolding check asking name ◌>>=◌
  place-frame q v f = rw (v, f) refl

  -- ---- both requests

  abbrev pub room_step : ℕ → Outcome
  room_step r = step c b (Supplier s) (room_of variant frame r)

  abbrev pub place_step : Placement → Outcome
  place_step q = step c b (Supplier s) (place_of variant frame q)

  -- refused before it acts
  abbrev AreRefused : Request → Refusal → Type 0
  AreRefused request e = step c b (Supplier s) request ≡ only_told b (Refused e)

  stranger-refused : (request : Request) → knows b (Supplier s) ≡ false → AreRefused request UnknownKey
  stranger-refused request stranger = unknown c b (Supplier s) request stranger

  text-refused : (request : Request) (e : Refusal) → IsTrue (knows b (Supplier s)) → by_its_text request ≡ Err e →
      AreRefused request e
  text-refused request e known checks = unchecked c b (Supplier s) request e known checks

  -- the request for the room is checked
  pub record IsChecked (r : ℕ) : Type 0 where
    known : IsTrue (knows b (Supplier s))
    divides : IsTrue (is_repetition c.params.cycles r)
    checks : by_its_text (room_of variant frame r) ≡ asked_room r

  -- it is refused by its text, or it is checked
  pub room-asked : (r : ℕ) → ((e : Refusal) × AreRefused (room_of variant frame r) e) ⊎ IsChecked r
  room-asked r = elim (cases_Bool (knows b (Supplier s))) [
    | inr stranger ↦ inl (UnknownKey, stranger-refused ask stranger)
    | inl known ↦ elim (cases_Bool (is_name variant)) [
      | inr v ↦ inl (BadName, text-refused ask BadName known (room-variant r v))
      | inl v ↦ elim (cases_Bool (is_name frame)) [
        | inr f ↦ inl (BadName, text-refused ask BadName known (room-frame r v f))
        | inl f ↦ elim (cases_Bool (is_repetition c.params.cycles r)) [
          | inr other ↦ inl (BadCycles, text-refused ask BadCycles known (room-cycles r v f other))
          | inl divides ↦ inr (record { known = known; divides = divides; checks = room-checks r v f divides })
        ]
      ]
    ]
  ]
    where
      ask : Request
      ask = room_of variant frame r

  module _ (q : Placement) (fits : FitsCluster c.params q) where
    abbrev r : ℕ
    r = q.cycles.repetition

    abbrev asks_room : Request
    asks_room = room_of variant frame r

    abbrev asks_place : Request
    asks_place = place_of variant frame q

    -- both are checked
    record AreChecked : Type 0 where
      room : IsChecked r
      place : by_its_text asks_place ≡ asked_place q

    -- both are refused by their texts alike, or both are checked
    both-asked : ((e : Refusal) × AreRefused asks_room e × AreRefused asks_place e) ⊎ AreChecked
    both-asked = elim (cases_Bool (knows b (Supplier s))) [
      | inr stranger ↦ inl (UnknownKey, stranger-refused asks_room stranger, stranger-refused asks_place stranger)
      | inl known ↦ elim (cases_Bool (is_name variant)) [
        | inr v ↦ inl (
          BadName,
          text-refused asks_room BadName known (room-variant r v),
          text-refused asks_place BadName known (place-variant q v),
        )
        | inl v ↦ elim (cases_Bool (is_name frame)) [
          | inr f ↦ inl (
            BadName,
            text-refused asks_room BadName known (room-frame r v f),
            text-refused asks_place BadName known (place-frame q v f),
          )
          | inl f ↦
              let divides = repetition-own c.params q fits in
              inr (record {
                room = record { known = known; divides = divides; checks = room-checks r v f divides };
                place = place-checks q fits v f;
              })
        ]
      ]
    ]

-- ---- what the answers say

same-place : (q : Placement) (r : Result (List Placement) Refusal) → tells_place q (room_told r) ≡ has_place q r
same-place q (Ok places) = refl
same-place q (Err e) = refl

same-refusal : (r : Result (List Placement) Refusal) (e : Refusal) → room_told r ≡ Refused e → r ≡ Err e
same-refusal (Ok places) e h = cc
same-refusal (Err d) e h = ap Err cc

not-done : (b : Book) (r : Result Book Refusal) → is_done (outcome b (done r)).answer ≡ false →
    is_refused (outcome b (done r)).answer ≡ true
unfolding outcome done ◌>>=◌
not-done b (Ok d) h = cc
not-done b (Err e) h = refl

module _ (c : Cluster) (b : Book) (s : Name) (variant frame : List ℕ) (sound : IsSound c b) where
  abbrev room_answer : ℕ → Answer
  room_answer r = (room_step c b s variant frame r).answer

  abbrev place_answer : Placement → Answer
  place_answer q = (place_step c b s variant frame q).answer

  pub told : (r : ℕ) → IsChecked c b s variant frame r → room_answer r ≡ told_room c b s variant frame r
  told r asked =
      answers _ _ (room_is_told c b s variant frame r (room_of variant frame r) sound asked.known asked.checks)

  told-place : (q : Placement) → FitsCluster c.params q → is_done (place_answer q) ≡ tells_place q (room_answer q.cycles.repetition)
  told-place q fits = elim (both-asked c b s variant frame q fits) [
    | inl (e, room, place) ↦ ap is_done (answers _ _ place) ∙ ap (tells_place q) (sym (answers _ _ room))
    | inr asked ↦
        room-place c b s variant frame q (place_of variant frame q) asked.room.known asked.place
        ∙ sym (same-place q (room_in c.params b s variant frame q.cycles.repetition))
        ∙ ap (tells_place q) (sym (told q.cycles.repetition asked.room))
  ]

  told-fits : (r : ℕ) (q : Placement) → IsTrue (tells_place q (room_answer r)) →
      FitsCluster c.params q × (q.cycles.repetition ≡ r)
  told-fits r q tells = elim (room-asked c b s variant frame r) [
    | inl (e, room) ↦ let none : false ≡ true = ap (tells_place q) (sym (answers _ _ room)) ∙ tells in cc
    | inr asked ↦
        room-fits c b s variant frame r q sound asked.divides
        (sym (same-place q (room_in c.params b s variant frame r)) ∙ ap (tells_place q) (sym (told r asked)) ∙ tells)
  ]

  -- a Place that is not done is refused
  place-not_done : (q : Placement) → IsTrue (knows b (Supplier s)) →
      check c.params (Supplier s) (place_of variant frame q) ≡ Ok (checked.Command (Rows (in_rows s variant (change.Frame frame (Place q))))) →
      is_done (place_answer q) ≡ false → is_refused (place_answer q) ≡ true
  unfolding act perform
  place-not_done q known checks undone =
      let is = answers _ _ (acts c b (Supplier s) (place_of variant frame q) _ known checks) in
      ap is_refused is
      ∙ not-done b (change_rows c.params b s variant (change.Frame frame (Place q))) (ap is_done (sym is) ∙ undone)

  place-refused : (q : Placement) (e : Refusal) → FitsCluster c.params q → room_answer q.cycles.repetition ≡ Refused e →
      IsTrue (is_refused (place_answer q)) × ((e ≡ Limit) ⊎ (place_answer q ≡ Refused e))
  place-refused q e fits refuses = elim (both-asked c b s variant frame q fits) [
    | inl (d, room, place) ↦
        let same : Refused d ≡ Refused e = sym (answers _ _ room) ∙ refuses in
        (ap is_refused (answers _ _ place), inr (answers _ _ place ∙ same))
    | inr asked ↦
        let none = same-refusal _ e (sym (told q.cycles.repetition asked.room) ∙ refuses) in
        let undone = told-place q fits ∙ ap (tells_place q) refuses in (
          place-not_done q asked.room.known asked.place undone,
          room-refused c b s variant frame q (place_of variant frame q) e asked.room.known asked.place none,
        )
  ]

pub told_room_is_place : ToldRoomIsPlace
told_room_is_place c b s variant frame q sound fits = told-place c b s variant frame sound q fits

pub told_room_fits : ToldRoomFits
told_room_fits c b s variant frame r q sound tells = told-fits c b s variant frame sound r q tells

pub refused_room_refuses : RefusedRoomRefuses
refused_room_refuses c b s variant frame q e sound fits refuses =
    place-refused c b s variant frame sound q e fits refuses
