use Rattle.std.proofs.Common.{rules, ◌≡◌, ◌≤◌, ◌+◌, ℕ, ap, arith, length, Some, Ok}
use Rattle.fr_base.specs.Cluster.{IsWellFormed}
use Rattle.fr_text.specs.ClusterFile.{config_of}
use Rattle.fr_cli.specs.Runs.{IsRunOf}
use Rattle.fr_text.specs.Script.{max_script, parts_of}
use Rattle.fr_cli.proofs.RunLaws.{HasParts, run_at, written_at}
use Rattle.fr_cli.proofs.ScriptLines.{cluster-most}
use Rattle.fr_cli.proofs.jobs.script.run_script.Goals as goal

pub overflow_add-first : goal.overflow_add-first
overflow_add-first g c =
    let bytes = c.in_ok-script.script.items in
    let size : length bytes ≤ max_script = search rules in
    let split : parts_of bytes ≡ Some (c.in_ok-cluster.cluster.now, c.in_ok-cluster.requests.now) = search rules in
    omega (arith, c.line_count-first.ensures, cluster-most bytes _ _ split size)

pub write_answers-requires : goal.write_answers-requires
write_answers-requires g c =
    let bytes = c.in_ok-script.script.items in
    let size : length bytes ≤ max_script = search rules in
    let split : parts_of bytes ≡ Some (c.in_ok-cluster.cluster.now, c.in_ok-cluster.requests.now) = search rules in
    omega (arith, c.line_count-first.ensures, cluster-most bytes _ _ split size)

pub returns-clause-run : goal.returns-clause-run
returns-clause-run g c =
    let contents = g.W.Write.contents in
    let remaining = g.R.Read.remaining in
    let bytes = c.in_ok-script.script.items in
    let requests = c.in_ok-cluster.requests.now in
    let config = c.in_ok-config.config in
    let size : length bytes ≤ max_script = search rules in
    let split : parts_of bytes ≡ Some (c.in_ok-cluster.cluster.now, requests) = search rules in
    let file : config_of c.in_ok-cluster.cluster.now ≡ Ok config = search rules in
    let formed : IsWellFormed config = search rules in
    let has : HasParts bytes config requests = record { size = size; cluster = c.in_ok-cluster.cluster.now; split = split; file = file; formed = formed } in
    let run : IsRunOf c.args.numbered (remaining c.args.reader.now) (remaining c.read_all.new.reader) (contents c.args.writer.now) (contents c.write_answers.new.output.writer.now) c.write_answers.result =
    run_at c.args.numbered _ _ _ (remaining c.args.reader.now) (remaining c.read_all.new.reader)
    (contents c.args.writer.now) (contents c.write_answers.new.output.writer.now) bytes requests config c.write_answers.result
    tt c.in_ok-script.ensures.whole c.in_ok-script.ensures.end has
    c.in-Ok.ensures.stands _ (ap (λ (n : ℕ). n + 2) c.line_count-first.ensures)
    (written_at contents _ c.args.numbered _ _ _ _ _ _ c.write_answers.result c.new-output.ensures.holds c.write_answers.ensures.written) in
    search (rules, run)
