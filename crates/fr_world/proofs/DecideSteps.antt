-- What a change is refused as, by what stands on the page.
use Rattle.std.proofs.Common.{◌≡◌, Bool, true, false, not, Option, Some, None, Result, Ok, Err, MatchResult, nat_le, refl, sym, ap, ◌∙◌}
use Rattle.std.specs.Prelude.{⊤}
use Rattle.std.specs.Result.{IsOk}
use Rattle.fr_base.specs.declared.limits.TheConstants.{MAX_PLACEMENTS}
use Rattle.fr_base.specs.Tables.{get, contains, len}
use Rattle.fr_base.specs.Book.{Frame, granted, schedule_of}
use Rattle.fr_base.specs.Cells.{cells_of}
use Rattle.fr_base.specs.Layouts.{LayoutData, with_signal, admits_signal, add_signal}
use Rattle.fr_base.specs.Refusing.{◌>>=◌, ◌>>◌, ◌or◌, refuse◌when◌}
use Rattle.fr_base.specs.Schedule.{first_taken}
use Rattle.fr_base.specs.Signals.{SignalData}
use Rattle.fr_base.specs.Step.{OwnRows, cell_taken}
use Rattle.fr_base.specs.declared.name.Name.{Name}
use Rattle.fr_base.specs.declared.placement.Placement.{Placement}
use Rattle.fr_base.specs.declared.refusal.Refusal.{Refusal}
use Rattle.fr_base.specs.declared.refusal.Refusal.TheVariants.{Limit, NoFrame, NotGranted, NoPlacement}
use Rattle.fr_base.specs.declared.request.Change.TheVariants as change
use Rattle.fr_base.specs.declared.request.FrameChange.TheVariants.{AddSignal, Place, Unplace}
use Rattle.fr_world.specs.Decisions.{admits_alone, has_room}
use Rattle.fr_world.proofs.DecideRows.{decide_open}

-- a layout's answer to a signal is what admits it
layout_admits : (l : LayoutData) (signal : SignalData) (r : Result ⊤ Refusal) → MatchResult r (λ _. IsOk (add_signal l signal)) (λ e. add_signal l signal ≡ Err e) → r ≡ admits_signal l signal
unfolding add_signal ◌>>◌
layout_admits l signal r h = by_both r (admits_signal l signal) h
  where
    by_both : (r a : Result ⊤ Refusal) → MatchResult r (λ _. IsOk (a >> Ok (record l { signals = with_signal signal l.signals }))) (λ e. (a >> Ok (record l { signals = with_signal signal l.signals })) ≡ Err e) → r ≡ a
    by_both (Ok x) (Ok y) h = refl
    by_both (Ok x) (Err e) h = cc
    by_both (Err e) (Ok y) h = cc
    by_both (Err e) (Err f) h = ap Err cc

module _ (page : OwnRows) where
  -- what a placement meets, where the frame is there
  module _ (f : Name) (q : Placement) (frame : Frame) (found : get page.frames (page.supplier, f) ≡ Some frame) where
    pub room-not_granted : granted page.grants page.supplier frame.node q ≡ false → Err NotGranted ≡ has_room page f q
    unfolding decide_open has_room
    room-not_granted none = rw (found, none) refl

    module _ (held : granted page.grants page.supplier frame.node q ≡ true) where
      pub room-limit : nat_le MAX_PLACEMENTS (len frame.placements) ≡ true → Err Limit ≡ has_room page f q
      unfolding decide_open has_room
      room-limit full = rw (found, held, full) refl

      pub room-there : nat_le MAX_PLACEMENTS (len frame.placements) ≡ false → Ok tt ≡ has_room page f q
      unfolding decide_open has_room
      room-there room = rw (found, held, room) refl

    pub unplace-none : contains frame.placements q ≡ false → Err NoPlacement ≡ admits_alone page (change.Frame f (Unplace q))
    unfolding decide_open
    unplace-none none = rw (found, none) refl

    pub unplace-there : contains frame.placements q ≡ true → Ok tt ≡ admits_alone page (change.Frame f (Unplace q))
    unfolding decide_open
    unplace-there there = rw (found, there) refl

  pub signal-admitted : (f : Name) (frame : Frame) → get page.frames (page.supplier, f) ≡ Some frame → (l : LayoutData) (signal : SignalData) (r : Result ⊤ Refusal) → l.words ≡ page.params.payload_words → l.signals ≡ frame.signals →
      MatchResult r (λ _. IsOk (add_signal l signal)) (λ e. add_signal l signal ≡ Err e) → r ≡ admits_alone page (change.Frame f (AddSignal signal))
  unfolding decide_open
  signal-admitted f frame found l signal r words same answer =
      layout_admits l signal r answer ∙ (λ i. admits_signal (record { words = words i; signals = same i }) signal) ∙ rw found refl

  by_tests : (t u : Bool) (r : Result ⊤ Refusal) → ((refuse NotGranted when t) >> ((refuse Limit when u) >> r)) ≡ (((refuse NotGranted when t) >> (refuse Limit when u)) >> r)
  unfolding decide_open
  by_tests true u r = refl
  by_tests false true r = refl
  by_tests false false r = refl

  -- a placement needs room, and then cells that are free
  pub place-parts : (f : Name) (q : Placement) → admits_alone page (change.Frame f (Place q)) ≡ (has_room page f q >> cell_taken (first_taken (schedule_of page.frames) (cells_of q)))
  unfolding decide_open has_room
  place-parts f q = by_frame (get page.frames (page.supplier, f))
    where
      last : Result ⊤ Refusal
      last = cell_taken (first_taken (schedule_of page.frames) (cells_of q))

      by_frame : (there : Option Frame) →
          ((there or NoFrame) >>= λ frame. (refuse NotGranted when not (granted page.grants page.supplier frame.node q)) >> ((refuse Limit when nat_le MAX_PLACEMENTS (len frame.placements)) >> last))
          ≡ (((there or NoFrame) >>= λ frame. (refuse NotGranted when not (granted page.grants page.supplier frame.node q)) >> (refuse Limit when nat_le MAX_PLACEMENTS (len frame.placements))) >> last)
      by_frame None = refl
      by_frame (Some frame) = by_tests _ _ last

  -- so it is answered by the one, and then by the other
  pub place-answer : (f : Name) (q : Placement) (r : Result ⊤ Refusal) → r ≡ has_room page f q → (last : Result ⊤ Refusal) → last ≡ cell_taken (first_taken (schedule_of page.frames) (cells_of q)) → (r >> last) ≡ admits_alone page (change.Frame f (Place q))
  place-answer f q r room last taken = (λ i. room i >> taken i) ∙ sym (place-parts f q)
