use Rattle.std.proofs.Common.{◌≡◌, arith, rules, sym, ap}
use Rattle.std.specs.Prelude.{codes}
use Rattle.std.proofs.lemmas.Slice.Eq.{text_from_reads}
use Rattle.fr_base.specs.Signals.{order_of_text}
use Rattle.fr_base.proofs.signal.Order.from_bytes.Goals as goal

pub returns-in-little : goal.returns-in-little
returns-in-little c =
    let text : c.args.bytes.now ≡ codes "little" = text_from_reads c.args.bytes.now (codes "little") (omega (arith, c.in-little.len_at_least, c.in-little.len_below)) (search rules) in
    sym (ap order_of_text text)
