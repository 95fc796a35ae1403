use Rattle.std.proofs.Common.{◌+◌, ◌<◌, ◌^◌, arith, inl, length, rules, subst, sym}
use Rattle.fr_text.specs.Script.{request_lines}
use Rattle.fr_cli.proofs.CheckingLaws.{requests-most}
use Rattle.fr_cli.proofs.jobs.check.check_requests.Goals as goal

pub count-count-requires-clause-fits : goal.count-count-requires-clause-fits
count-count-requires-clause-fits c =
    let most = requests-most c.args.text.now in
    let short : length c.args.text.now < 2 ^ 63 = search rules in
    inl (subst (λ bytes. 0 + length (request_lines bytes) < 2 ^ 64) (sym c.new.ensures) (omega (arith, most, short)))
