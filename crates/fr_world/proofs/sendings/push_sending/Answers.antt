use Rattle.std.proofs.Common.{◌∙◌, ◌++◌, [], ap, append-nil, option_map, sym}
use Rattle.std.proofs.lemmas.Result.{on_ok_weaker}
use Rattle.std.specs.List.{cons_option}
use Rattle.fr_base.specs.Queries.{sending}
use Rattle.fr_world.specs.Sendings.{sender_of}
use Rattle.fr_world.proofs.ScheduleLaws.{cell}
use Rattle.fr_world.proofs.sendings.push_sending.Goals as goal

pub returns-in_default : goal.returns-in_default
returns-in_default c =
    let at = cell c.args.cycle c.args.slot c.args.channel in
    sym (append-nil c.args.rows.now)
    ∙ ap (λ s. c.args.rows.now ++ cons_option (option_map (λ s. sending (at, sender_of s.now)) s) []) (sym c.in_default.is)

pub returns : goal.returns
returns c =
    let at = cell c.args.cycle c.args.slot c.args.channel in
    on_ok_weaker c.push.result (λ pushed. pushed ∙ ap (λ s. c.args.rows.now ++ cons_option (option_map (λ s. sending (at, sender_of s.now)) s) []) (sym c.in-Some.is)) c.push.ensures.ok
