use Rattle.std.proofs.Common.{◌≡◌, ◌+◌, ◌∙◌, ap, sym, arith, inl, inr, false, add-one}
use Rattle.std.proofs.lemmas.Bool.{ltb-false}
use Rattle.fr_picture.proofs.MarkLemmas.{gap_here, unset}
use Rattle.fr_picture.proofs.drawing.marks.Marks.shows.Goals as goal
use Rattle.fr_picture.proofs.drawing.marks.Marks.shows.Goals.{then-slot-last, else-slot-last+then-slot-last-2, else-slot-last+else-slot-last-2}

pub returns-else-not-self-here : goal.returns-else-not-self-here
returns-else-not-self-here c = λ used marked n at is.
    let here : used c.args.slot ≡ false = sym (marked c.args.slot) ∙ c.if-self-here.false in
    elim c.if-slot-last.branch [
      | then-slot-last w ↦ absurd (omega (arith, ltb-false c.args.last c.args.slot (sym w.value-is ∙ c.if-not-self-here.false), w.if-slot-last.true))
      | else-slot-last+then-slot-last-2 w ↦ gap_here used c.args.last c.args.slot c.args.free n (at ∙ add-one n) here w.if-slot-last.false (inr (ap used (sym (add-one c.args.slot)) ∙ sym (marked (c.args.slot + 1)) ∙ unset _ (sym w.value-is ∙ c.if-not-self-here.false))) is
      | else-slot-last+else-slot-last-2 w ↦ gap_here used c.args.last c.args.slot c.args.free n (at ∙ add-one n) here w.if-slot-last.false (inl w.if-slot-last-2.false) is
    ]
