use Rattle.std.proofs.Common.{take}
use Rattle.fr_base.specs.Book.{Book}
use Rattle.fr_base.specs.Cluster.{Cluster}
use Rattle.fr_base.specs.Sound.{IsSound}
use Rattle.fr_picture.proofs.drawn_frames.draw_frames.Given as goal
use Rattle.fr_picture.specs.Frames.{AreDrawn}

-- the frames so far
abbrev pub invariant-loop-place : goal.invariant-loop-place
invariant-loop-place g l =
    let desk = g.D.Desk in
    record {
      falls : desk.clean l.desk → desk.clean l.fn.desk;
      drawn : desk.clean l.desk → (c : Cluster) (b : Book) → desk.stands l.fn.desk c b → IsSound c b
          → desk.stands l.desk c b × AreDrawn c b l.variant (take l.place l.rows) l.gaps l.frames.items;
    }
