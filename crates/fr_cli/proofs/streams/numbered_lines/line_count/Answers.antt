use Rattle.std.proofs.Common.{◌<◌, ◌^◌, ap, arith, length, rules}
use Rattle.fr_guide.proofs.RequestFileLaws.{lines-most}
use Rattle.fr_cli.proofs.streams.numbered_lines.line_count.Goals as goal

pub overflow_add-count : goal.overflow_add-count
overflow_add-count c =
    let more = ap length c.in-Some.ensures.first.line in
    let most = lines-most c.args.text.now in
    let short : length c.args.text.now < 2 ^ 63 = search rules in
    omega (arith, more, most, short, c.loop-after.invariant)
