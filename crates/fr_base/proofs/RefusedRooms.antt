-- Where a room is refused, so is each Place of the frame; and a released variant has none.
use Rattle.std.proofs.Common.{◌≡◌, ◌⊎◌, ℕ, Bool, true, false, not, List, filter, nat_le, Option, Some, None, Result, Ok, Err, IsTrue, refl, ap, ◌∙◌, inl, inr}
use Rattle.std.specs.Prelude.{⊤}
use Rattle.fr_base.specs.Refusing.{◌>>=◌, ◌>>◌, ◌or◌, refuse◌when◌}
use Rattle.fr_base.specs.declared.limits.TheConstants.{MAX_PLACEMENTS}
use Rattle.fr_base.specs.Tables.{get, contains, len}
use Rattle.fr_base.specs.Cells.{cells_of}
use Rattle.fr_base.specs.Changes.{in_rows}
use Rattle.fr_base.specs.Checks.{check}
use Rattle.fr_base.specs.Cluster.{Cluster}
use Rattle.fr_base.specs.Schedule.{first_taken}
use Rattle.fr_base.specs.Book.{Frame, Variant, Book, own, own_grants, granted, schedule_of}
use Rattle.fr_base.specs.Queries.{shown, found}
use Rattle.fr_base.specs.Step.{own_rows, shared_by, with_variant, cell_taken, admits_frame, admits, changed, change_rows, done, perform, act, outcome, knows, step}
use Rattle.fr_base.specs.Room.{places_with, is_vacant, room}
use Rattle.fr_base.specs.RefusedRooms.{RefusedRoomRefusesEach, NoRoomWhereReleased}
use Rattle.fr_base.specs.declared.name.Name.{Name}
use Rattle.fr_base.specs.declared.placement.Placement.{Placement}
use Rattle.fr_base.specs.declared.answer.Answer.TheVariants as answer
use Rattle.fr_base.specs.declared.answer.ReportRows.{ReportRows}
use Rattle.fr_base.specs.declared.answer.ReportRows.TheVariants as shows
use Rattle.fr_base.specs.declared.refusal.Refusal.{Refusal}
use Rattle.fr_base.specs.declared.refusal.Refusal.TheVariants.{NoVariant, Released, NoSupplier, NoFrame, NotGranted, Limit}
use Rattle.fr_base.specs.declared.actor.Actor.TheVariants.{Supplier}
use Rattle.fr_base.specs.declared.query.Query.TheVariants.{Variant as OfVariant}
use Rattle.fr_base.specs.declared.report.Report.TheVariants.{Room}
use Rattle.fr_base.specs.declared.request.Request.{Request}
use Rattle.fr_base.specs.declared.request.Command.TheVariants.{Rows}
use Rattle.fr_base.specs.declared.request.Change.TheVariants as change
use Rattle.fr_base.specs.declared.request.FrameChange.TheVariants.{Place}
use Rattle.fr_base.specs.declared.request.Checked.TheVariants as checked
use Rattle.fr_base.proofs.QueryLaws.{query-answered, report-lacks}

module _ (c : Cluster) (b : Book) (s v f : Name) (r : ℕ) (asked : Request) (known : IsTrue (knows b (Supplier s)))
    (passed : check c.params (Supplier s) asked ≡ Ok (checked.Query (OfVariant v (Room f r)))) where
  abbrev found_room : Result ReportRows Refusal
  found_room = found c.params b (Supplier s) (OfVariant v (Room f r))

  -- what is answered as a refusal is one
  refused-found : (e : Refusal) → (step c b (Supplier s) asked).answer ≡ answer.Refused e → found_room ≡ Err e
  refused-found e h = by found_room refl
    where
      by : (o : Result ReportRows Refusal) → found_room ≡ o → found_room ≡ Err e
      by (Ok told) is =
          let shown : (step c b (Supplier s) asked).answer ≡ answer.Report false told = query-answered c b (Supplier s) asked (OfVariant v (Room f r)) known passed (Ok told) is in
          cc
      by (Err d) is =
          let refused : (step c b (Supplier s) asked).answer ≡ answer.Refused d = query-answered c b (Supplier s) asked (OfVariant v (Room f r)) known passed (Err d) is in
          let same : d ≡ e = cc in
          is ∙ ap Err same

  frozen-room : (x : Variant) → get b.variants v ≡ Some x → IsTrue x.released → found_room ≡ Err Released
  unfolding found shown ◌or◌ ◌>>=◌ ◌>>◌ refuse◌when◌
  frozen-room x there frozen = rw (there, frozen) refl

  pub room-released : (x : Variant) → get b.variants v ≡ Some x → IsTrue x.released → (step c b (Supplier s) asked).answer ≡ answer.Refused Released
  room-released x there frozen = query-answered c b (Supplier s) asked (OfVariant v (Room f r)) known passed (Err Released) (frozen-room x there frozen)

  pub room-nowhere : get b.variants v ≡ None → (step c b (Supplier s) asked).answer ≡ answer.Refused NoVariant
  room-nowhere none = query-answered c b (Supplier s) asked (OfVariant v (Room f r)) known passed (Err NoVariant) (report-lacks c.params b (Supplier s) v (Room f r) none)

-- ---- a Place

module _ (c : Cluster) (b : Book) (s v f : Name) (r : ℕ) (q : Placement) (known : IsTrue (knows b (Supplier s))) where
  stepped : (request : Request) → check c.params (Supplier s) request ≡ Ok (checked.Command (Rows (in_rows s v (change.Frame f (Place q))))) →
      step c b (Supplier s) request ≡ outcome b (done (change_rows c.params b s v (change.Frame f (Place q))))
  unfolding step act perform ◌>>=◌ ◌>>◌ refuse◌when◌
  stepped request valid = rw (known, valid) refl

  refused-done : (o : Result Book Refusal) (e : Refusal) → o ≡ Err e → (outcome b (done o)).answer ≡ answer.Refused e
  unfolding outcome done ◌>>=◌
  refused-done (Ok x) e h = cc
  refused-done (Err d) e h = ap (λ (o : Result Book Refusal). (outcome b (done o)).answer) h

  -- refused so, or as what is not granted
  abbrev IsRefusedSo : Refusal → Result Book Refusal → Type 0
  IsRefusedSo e o = (o ≡ Err e) ⊎ ((e ≡ Limit) × (o ≡ Err NotGranted))

  by_tests : (d : Book) (holds full : Bool) (taken : Result ⊤ Refusal) (places : List Placement) (e : Refusal) →
      (((refuse Limit when full) >> Ok places) >>= (λ places. Ok (shows.Room places))) ≡ Err e →
      IsRefusedSo e (((refuse NotGranted when not holds) >> ((refuse Limit when full) >> taken)) >> Ok d)
  unfolding ◌>>=◌ ◌>>◌ refuse◌when◌
  by_tests d true true taken places e h = inl (ap Err cc)
  by_tests d false true taken places e h = inr (cc, refl)
  by_tests d holds false taken places e h = cc

  module _ (x : Variant) where
    -- the lines of a Place from the frame on, and of the room for it
    abbrev lines : Option Frame → Book → Result Book Refusal
    lines there d =
        ((there or NoFrame)
        >>= λ frame. (refuse NotGranted when not (granted (own_grants s x.grants) s frame.node q)) >> ((refuse Limit when nat_le MAX_PLACEMENTS (len frame.placements)) >> cell_taken (first_taken (schedule_of x.frames) (cells_of q))))
        >> Ok d

    abbrev listed : Option Frame → Result ReportRows Refusal
    listed there =
        ((there or NoFrame)
        >>= λ frame. (refuse Limit when nat_le MAX_PLACEMENTS (len frame.placements)) >> Ok (filter (is_vacant (own_grants s x.grants) (schedule_of (own s x.frames)) s frame.node) (places_with c.params r)))
        >>= λ places. Ok (shows.Room places)

    by_frame : (d : Book) (there : Option Frame) (e : Refusal) → listed there ≡ Err e → IsRefusedSo e (lines there d)
    unfolding ◌or◌ ◌>>=◌ ◌>>◌
    by_frame d None e h = inl (ap Err cc)
    by_frame d (Some frame) e h =
        by_tests d (granted (own_grants s x.grants) s frame.node q) (nat_le MAX_PLACEMENTS (len frame.placements)) (cell_taken (first_taken (schedule_of x.frames) (cells_of q)))
        (filter (is_vacant (own_grants s x.grants) (schedule_of (own s x.frames)) s frame.node) (places_with c.params r)) e h

    by_open : (d : Book) (released : Bool) (e : Refusal) →
        ((refuse Released when released) >> listed (get (own s x.frames) (s, f))) ≡ Err e →
        IsRefusedSo e ((refuse Released when released) >> ((refuse NoSupplier when not (contains b.suppliers s)) >> lines (get (own s x.frames) (s, f)) d))
    unfolding ◌>>◌ refuse◌when◌
    by_open d true e h = inl (ap Err cc)
    by_open d false e h = rw known (by_frame d (get (own s x.frames) (s, f)) e h)

  by_variant : (o : Option Variant) (e : Refusal) →
      ((o or NoVariant) >>= λ x. (refuse Released when x.released) >> listed x (get (own s x.frames) (s, f))) ≡ Err e →
      IsRefusedSo e ((o or NoVariant) >>= λ x. (refuse Released when x.released) >> ((refuse NoSupplier when not (contains b.suppliers s)) >> lines x (get (own s x.frames) (s, f)) (with_variant b v (changed s (change.Frame f (Place q)) x))))
  unfolding ◌or◌ ◌>>=◌
  by_variant None e h = inl (ap Err cc)
  by_variant (Some x) e h = by_open x (with_variant b v (changed s (change.Frame f (Place q)) x)) x.released e h

  place-refused : (e : Refusal) → found c.params b (Supplier s) (OfVariant v (Room f r)) ≡ Err e → IsRefusedSo e (change_rows c.params b s v (change.Frame f (Place q)))
  unfolding change_rows found shown room own_rows shared_by admits admits_frame
  place-refused e h = by_variant (get b.variants v) e h

pub refused_room-refuses : RefusedRoomRefusesEach
refused_room-refuses c b s v f r q asked request e known passed valid h =
    let told = ap (λ o. o.answer) (stepped c b s v f r q known request valid) in
    elim (place-refused c b s v f r q known e (refused-found c b s v f r asked known passed e h)) [
      | inl so ↦ inl (told ∙ refused-done c b s v f r q known _ e so)
      | inr not_granted ↦ inr (not_granted.0, told ∙ refused-done c b s v f r q known _ NotGranted not_granted.1)
    ]

pub no_room-released : NoRoomWhereReleased
no_room-released c b s v f r asked known passed = (
  λ none. room-nowhere c b s v f r asked known passed none,
  λ x there frozen. room-released c b s v f r asked known passed x there frozen,
)
