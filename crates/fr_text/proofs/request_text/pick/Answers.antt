use Rattle.std.proofs.Common.{rules, ◌≡◌, None, Some, ◌++◌}
use Rattle.fr_text.specs.Fields.{fields_in}
use Rattle.fr_text.specs.RequestText.{integrators, of_files, of_frames, picked}
use Rattle.fr_text.proofs.PickLemmas.{picked_first, picked_behind, picked_last}
use Rattle.fr_text.proofs.request_text.pick.Goals as goal

pub returns-in-Some : goal.returns-in-Some
returns-in-Some c =
    let word = c.args.word.now in
    let fields = fields_in c.args.fields.now in
    let it = c.in-Some.request in
    let found : Some it ≡ picked integrators word fields = search rules in
    picked_first (integrators ++ of_frames) of_files word fields it
    (picked_first integrators of_frames word fields it found)

pub returns-in-Some-2 : goal.returns-in-Some-2
returns-in-Some-2 c =
    let word = c.args.word.now in
    let fields = fields_in c.args.fields.now in
    let it = c.in-Some-2.request in
    let none : None ≡ picked integrators word fields = search rules in
    let found : Some it ≡ picked of_frames word fields = search rules in
    picked_first (integrators ++ of_frames) of_files word fields it
    (picked_behind integrators of_frames word fields (Some it) none found)

pub returns : goal.returns
returns c =
    let word = c.args.word.now in
    let fields = fields_in c.args.fields.now in
    let none : None ≡ picked integrators word fields = search rules in
    let no_frames : None ≡ picked of_frames word fields = search rules in
    picked_last (integrators ++ of_frames) of_files word fields c.pick-3.result
    (picked_behind integrators of_frames word fields None none no_frames)
    c.pick-3.ensures
