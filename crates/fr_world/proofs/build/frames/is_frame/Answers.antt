use Rattle.std.proofs.Common.{◌≡◌, ◌&&◌, refl, length, rules, tests}
use Rattle.std.specs.Prelude.{◌==◌, nat_le}
use Rattle.std.proofs.lemmas.Bool.Decides.{Decides-at}
use Rattle.fr_world.specs.Pages.{frame_data, own_rows_of, rows_data}
use Rattle.fr_world.proofs.BuildFrames.{frame_decided}
use Rattle.fr_world.proofs.build.frames.is_frame.Goals as goal

pub returns-then-of_payload : goal.returns-then-of_payload
returns-then-of_payload c =
    let f = frame_data c.args.frame.now in
    let few = nat_le (length f.placements) 8 in
    let whole = f.layout.words == c.args.rows.now.params.payload_words in
    let is : c.are_placed-placed.result ≡ (few && (whole && c.are_placed-placed.result)) = search (rules, tests) in
    Decides-at _ _ is
    (frame_decided (own_rows_of (rows_data c.args.rows.now)) f few whole c.are_placed-placed.result c.len-few.ensures.ordered c.words.ensures.sound refl refl c.are_placed-placed.ensures)

pub returns-else-of_payload : goal.returns-else-of_payload
returns-else-of_payload c =
    let f = frame_data c.args.frame.now in
    let few = nat_le (length f.placements) 8 in
    let whole = f.layout.words == c.args.rows.now.params.payload_words in
    Decides-at _ (few && (whole && c.are_placed-placed.result)) (search (rules, tests))
    (frame_decided (own_rows_of (rows_data c.args.rows.now)) f few whole c.are_placed-placed.result c.len-few.ensures.ordered c.words.ensures.sound refl refl c.are_placed-placed.ensures)
