use Rattle.std.proofs.Common.{◌∙◌, refl}
use Rattle.fr_picture.proofs.LaneLemmas.{perm_none, perm_more, turn_none, turn_more}
use Rattle.fr_picture.proofs.drawing.add_cells.Goals as goal

pub loop-cell-init : goal.loop-cell-init
loop-cell-init c = record {
  len = c.requires;
  drawn = perm_none _ c.args.cells.now;
  in_turn = turn_none _ c.args.cells.now;
  others = refl;
  still = λ k l. refl;
  apart = λ h. h;
  filled = λ h. h;
  at = λ channels shift columns h. h;
  home = λ h. h;
}

pub loop-cell-preserved : goal.loop-cell-preserved
loop-cell-preserved c =
    let was = c.loop-cell.invariant in
    let now = c.in_ok-add_cell.ensures in
    record {
      len = now.len;
      drawn = perm_more _ _ _ c.args.cells.now c.loop-cell.cell-index c.cell-item.result c.loop-cell-test.true c.cell-item.is was.drawn now.cells;
      in_turn = turn_more _ _ _ c.args.cells.now c.loop-cell.cell-index c.cell-item.result c.loop-cell-test.true c.cell-item.is was.in_turn now.in_turn;
      others = now.grants ∙ was.others;
      still = λ k l. now.still k l ∙ was.still k l;
      apart = λ h. now.apart (was.apart h);
      filled = λ h. now.filled (was.filled h);
      at = λ channels shift columns h. now.at channels shift columns (was.at channels shift columns h);
      home = λ h. now.home (was.home h);
    }
