use Rattle.std.proofs.Common.{◌≡◌, ◌+◌, suc, take, refl, sym, subst, arith, ◌∙◌, ap, Ok, Err, rules}
use Rattle.std.proofs.KnownBytes.{Appends-kept}
use Rattle.std.specs.Io.KnownBytes.{Appends}
use Rattle.std.proofs.lemmas.List.{take_rest}
use Rattle.fr_text.proofs.StreamLemmas.{written_more}
use Rattle.fr_text.proofs.WritingLemmas.{all_written, differ, none_left, nothing, one_failed, something, write_more}
use Rattle.fr_text.proofs.output.Output.write_all.Goals as goal

pub loop-rest-preserved-in-Ok : goal.loop-rest-preserved-in-Ok
loop-rest-preserved-in-Ok g c =
    let l = c.loop-rest.invariant in
    let more = written_more _ _ _ _ _ l.n c.in-Ok.n l.fits l.rest c.in-Ok.ensures.bound l.front c.in-Ok.ensures.bytes in
    let made = write_more g.W.Sink.writes l.count _ _ _ (Ok c.in-Ok.n) l.made c.in-Ok.ensures.goes (omega (arith, c.in-Ok.n-test.1), take_rest c.loop-rest.rest.now c.in-Ok.n, refl) in
    record { same = l.same; retries = l.retries; n = l.n + c.in-Ok.n; fits = more.0; rest = more.1; front = more.2; count = suc l.count; made = made }

pub loop-rest-preserved : goal.loop-rest-preserved
loop-rest-preserved g c =
    let l = c.loop-rest.invariant in
    let kept = c.use_retry.ensures.same in
    let again = c.in_ok-use_retry-in-Err.ensures in
    record {
      same = ap (λ w. w.ghost_name) kept ∙ l.same;
      retries = omega (arith, l.retries, again.ok);
      n = l.n;
      fits = l.fits;
      rest = l.rest;
      front = subst (λ w. Appends (g.W.Write.contents c.args.self.now.writer.now) (g.W.Write.contents w.now) (take l.n c.args.bytes.now)) (sym kept) (Appends-kept _ _ _ _ l.front c.in-Err.ensures.bytes);
      count = suc l.count;
      made = write_more g.W.Sink.writes l.count _ _ _ (Err c.in-Err.error) l.made (subst (λ w. g.W.Sink.writes c.loop-rest.self.writer.now c.loop-rest.rest.now (Err c.in-Err.error) w.now) (sym kept) c.in-Err.ensures.goes) ((again.again.0 refl).0, refl, again.ok);
    }

pub returns-in-Ok-eq0-clause-writing : goal.returns-in-Ok-eq0-clause-writing
returns-in-Ok-eq0-clause-writing g c =
    let l = c.loop-rest.invariant in
    one_failed g.W.Sink.writes l.count _ _ _ _ _ _ (Ok c.in-Ok-eq0.field-0) l.made refl (something _ c.loop-rest-test.ensures) c.in-Ok-eq0.ensures.goes c.in-Ok-eq0.field-0-test refl

pub returns-in_err-use_retry-in-Err-clause-writing : goal.returns-in_err-use_retry-in-Err-clause-writing
returns-in_err-use_retry-in-Err-clause-writing g c =
    let l = c.loop-rest.invariant in
    let kept = c.use_retry.ensures.same in
    let again = c.in_err-use_retry-in-Err.ensures in
    let is : c.from_residual.result ≡ Err (record {}) = search rules in
    one_failed g.W.Sink.writes l.count _ _ _ _ _ _ (Err c.in-Err.error) l.made is (something _ c.loop-rest-test.ensures)
    (subst (λ w. g.W.Sink.writes c.loop-rest.self.writer.now c.loop-rest.rest.now (Err c.in-Err.error) w.now) (sym kept) c.in-Err.ensures.goes)
    (none_left c.loop-rest.self.retries _ (λ so. differ (sym (again.again.1 so)))) (sym again.err)

pub returns-clause-writing : goal.returns-clause-writing
returns-clause-writing g c =
    let l = c.loop-rest.invariant in
    all_written g.W.Sink.writes l.count _ _ _ _ _ l.made refl (nothing _ c.loop-rest-test.ensures) refl refl
