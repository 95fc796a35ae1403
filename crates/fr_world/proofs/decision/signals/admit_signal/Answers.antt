use Rattle.std.proofs.Common.{◌≡◌, Some, refl, rules, tests}
use Rattle.fr_base.specs.Tables.{get}
use Rattle.fr_world.specs.Pages.{frame_data, frame_of, own_rows_of}
use Rattle.fr_world.proofs.DecideSteps.{signal-admitted}
use Rattle.fr_world.proofs.decision.signals.admit_signal.Goals as goal

pub returns : goal.returns
returns c =
    let page = own_rows_of c.args.page.now in
    let frame = frame_of (frame_data c.in_ok-row.row.now) in
    let found : get page.frames (page.supplier, c.args.frame) ≡ Some frame = search (rules, tests) in
    let words : c.in_ok-row.row.now.layout.words ≡ page.params.payload_words = search (rules, tests) in
    signal-admitted page c.args.frame frame found c.in_ok-row.row.now.layout c.args.signal.now c.admits.result words refl c.admits.ensures
