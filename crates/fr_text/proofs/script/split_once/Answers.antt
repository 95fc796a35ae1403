use Rattle.std.proofs.Common.{◌+◌, ◌∙◌, ap, sym, take, drop, Some}
use Rattle.std.specs.Option.{option_map}
use Rattle.std.proofs.lemmas.List.{take_rest}
use Rattle.fr_text.proofs.LineLemmas.{parts_around-position}
use Rattle.fr_text.proofs.script.split_once.Goals as goal

pub returns-in_err-at : goal.returns-in_err-at
returns-in_err-at c =
    let bytes = c.args.bytes.now in
    ap (option_map (λ parts. (parts.0.now, parts.1.now))) c.from_residual.ensures
    ∙ ap (option_map (λ at. (take at bytes, drop (at + 1) bytes))) (sym c.in_err-at.was ∙ c.index_of.ensures)
    ∙ sym (parts_around-position c.args.byte bytes)

pub returns : goal.returns
returns c =
    let bytes = c.args.bytes.now in
    ap (λ rest. Some (take c.in_ok-at.at bytes, rest)) (take_rest bytes (c.in_ok-at.at + 1))
    ∙ ap (option_map (λ at. (take at bytes, drop (at + 1) bytes))) (sym c.in_ok-at.was ∙ c.index_of.ensures)
    ∙ sym (parts_around-position c.args.byte bytes)
