use Rattle.std.proofs.Common.{◌≡◌, ◌∷◌, ◌++◌, drop}
use Rattle.fr_text.specs.RoomLines.{room_lines}
use Rattle.fr_text.specs.Styles.{joined}
use Rattle.fr_text.specs.Words.{Extends}
use Rattle.fr_text.proofs.RoomLemmas.{text_behind}
use Rattle.fr_text.proofs.report.room.push_places.Given as goal

-- with what is written for the placements from here on, the text is the lines of all
abbrev pub invariant-loop-place : goal.invariant-loop-place
invariant-loop-place l = record {
  text : l.out.items ++ text_behind l.mark l.before (drop l.place-index l.rest) ≡ l.fn.out.items ++ joined l.mark (room_lines (l.first ∷ l.rest));
  extends : Extends l.fn.out.items l.out.items;
}
