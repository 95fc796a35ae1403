use Rattle.std.proofs.Common.{◌≡◌, Err, OnErr, rules, drop, subst, sym, take}
use Rattle.std.proofs.lemmas.List.{take-append-drop}
use Rattle.fr_http.specs.Connection.{AppendsFront}
use Rattle.fr_http.proofs.ReadsLaws.{was_flushed}
use Rattle.fr_http.specs.Writes.{LastFailed}
use Rattle.fr_http.proofs.WritesLaws.{flush_failed, write_failed}
use Rattle.fr_http.proofs.serve.write_out.Goals as goal

pub returns-in_err-write_all-clause-written : goal.returns-in_err-write_all-clause-written
returns-in_err-write_all-clause-written g c =
    let bytes = c.args.bytes.now in
    let (n, short, appended) = c.in_err-write_all.ensures.err in
    let front : AppendsFront (g.W.Write.contents c.args.output.now.writer.now) (g.W.Write.contents c.write_all.new.self.writer.now) bytes =
    (take n bytes, (drop n bytes, sym (take-append-drop n bytes)), appended) in
    record { does = search (rules, front); same_writer = search rules }

pub returns-clause-flushed : goal.returns-clause-flushed
returns-clause-flushed g c = let (given, went, alike) = c.flush.ensures.flushed in was_flushed g.W.Sink.flushes _ _ c.flush.result given went alike

pub returns-in_err-write_all-clause-failed : goal.returns-in_err-write_all-clause-failed
returns-in_err-write_all-clause-failed g c =
    let why = c.in_err-write_all.field-0.0 in
    let is : c.from_residual.result ≡ Err why = search rules in
    let failed : c.write_all.result ≡ Err why = search rules in
    let last = c.write_all.new.self.writer.now in
    subst (λ r. OnErr r (LastFailed g.W.Sink.writes g.W.Sink.flushes last)) (sym is) (write_failed g.W.Sink.writes g.W.Sink.flushes _ c.write_all.result why last _ failed c.write_all.ensures.writing)

pub returns-clause-failed : goal.returns-clause-failed
returns-clause-failed g c = let (given, went, alike) = c.flush.ensures.flushed in flush_failed g.W.Sink.writes g.W.Sink.flushes _ _ c.flush.result given went alike
