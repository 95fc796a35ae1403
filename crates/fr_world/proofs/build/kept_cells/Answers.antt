use Rattle.std.proofs.Common.{◌∙◌, sym, subst, rules, tests, refl}
use Rattle.fr_world.specs.PageCells.{ArePlaced, ShareNone}
use Rattle.fr_world.specs.Pages.{frames_data}
use Rattle.fr_world.proofs.BuildLaws.{kept_rows, kept_share, none_so, other_frames, pairs-filled, some_so, too_many_frames, too_many_nodes}
use Rattle.fr_world.proofs.KeyLaws.{frames_rise}
use Rattle.fr_world.proofs.PlacedLaws.{filled-placed}
use Rattle.fr_world.proofs.build.kept_cells.Goals as goal
use Rattle.fr_world.proofs.build.kept_cells.Goals.{then-nodes-gt-MAX_NODES-via-then-nodes-gt-MAX_NODES, then-nodes-gt-MAX_NODES-via-else-nodes-gt-MAX_NODES+then-frames-gt-MAX_FRAMES, then-nodes-gt-MAX_NODES-via-else-nodes-gt-MAX_NODES+else-frames-gt-MAX_FRAMES+then-not-are_frames}

pub returns-then-nodes-gt-MAX_NODES-clause-none : goal.returns-then-nodes-gt-MAX_NODES-clause-none
returns-then-nodes-gt-MAX_NODES-clause-none c =
    let rows = c.args.rows.now in
    let nodes_rise = c.len-nodes.ensures.ordered in
    let grants_rise = c.len-grants.ensures.ordered in
    let frames_rise = c.len-frames.ensures.ordered in
    elim c.then-nodes-gt-MAX_NODES.branch [
      | then-nodes-gt-MAX_NODES-via-then-nodes-gt-MAX_NODES w ↦ too_many_nodes rows nodes_rise grants_rise frames_rise (search (rules, tests))
      | then-nodes-gt-MAX_NODES-via-else-nodes-gt-MAX_NODES+then-frames-gt-MAX_FRAMES w ↦ too_many_frames rows nodes_rise grants_rise frames_rise (search (rules, tests))
      | then-nodes-gt-MAX_NODES-via-else-nodes-gt-MAX_NODES+else-frames-gt-MAX_FRAMES+then-not-are_frames w ↦ other_frames rows nodes_rise grants_rise frames_rise w.are_frames.result (search (rules, tests)) w.are_frames.ensures
    ]

pub returns-clause-some : goal.returns-clause-some
returns-clause-some c =
    let rows = c.args.rows.now in
    let es = rows.frames.entries in
    some_so c.cells_of.result
    (λ cells built. (
      kept_rows rows c.len-nodes.ensures.ordered c.len-grants.ensures.ordered c.len-frames.ensures.ordered (search (rules, tests)) (search (rules, tests)) (c.are_frames.ensures.0 c.if-not-are_frames.false) (subst ShareNone built.0 built.1),
      subst (λ ps. ArePlaced ps (frames_data es)) (sym (built.0 ∙ pairs-filled es)) (filled-placed es (frames_rise es (frames_data es) refl c.len-frames.ensures.ordered)),
    ))
    c.cells_of.ensures.some

pub returns-clause-none : goal.returns-clause-none
returns-clause-none c =
    let rows = c.args.rows.now in
    none_so c.cells_of.result (λ shared kept. shared (kept_share rows c.len-nodes.ensures.ordered c.len-grants.ensures.ordered c.len-frames.ensures.ordered kept)) c.cells_of.ensures.none
