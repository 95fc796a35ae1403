use Rattle.std.proofs.Common.{◌≡◌, ◌≢◌, ◌+◌, ◌-◌, suc, true, false, cond, Err, refl, subst, arith, rules}
use Rattle.std.proofs.KnownBytes.{Keeps-trans}
use Rattle.std.specs.IoError.{error_kind}
use Rattle.fr_http.specs.declared.fault.LinkFault.TheVariants.{ReadFailed}
use Rattle.fr_http.proofs.ReadsLaws.{piece_failed, reads_piece}
use Rattle.fr_http.proofs.input.Input.read.Goals as goal

pub loop-self-preserved : goal.loop-self-preserved
loop-self-preserved g c =
    let l = c.loop-self.invariant in
    record {
      same = l.same;
      reads = omega (arith, l.reads);
      kept = Keeps-trans _ _ _ l.kept c.in-Err.ensures.bytes;
      count = suc l.count;
      interrupted = (c.loop-self.self.reader.now, l.interrupted, (c.read_once.new.piece, c.in-Err.error, c.in-Err.ensures.goes, c.in_ok-try_again-in-Err.ensures.again.0 refl));
      counted = omega (arith, l.counted, c.loop-self-test.true);
    }

pub returns-in-Ok-clause-made : goal.returns-in-Ok-clause-made
returns-in-Ok-clause-made g c =
    let l = c.loop-self.invariant in
    record {
      count = l.count;
      mid = c.loop-self.self.reader.now;
      rest = c.loop-self.self.reads;
      interrupted = l.interrupted;
      counted = l.counted;
      ends = (c.in-Ok.ensures.goes, omega (arith, c.loop-self-test.true));
    }

pub returns-in-Ok-clause-reads : goal.returns-in-Ok-clause-reads
returns-in-Ok-clause-reads g c = reads_piece g.R.Source.reads _ _ _ _ (returns-in-Ok-clause-made g c)

pub returns-in_err-try_again-in-Err-clause-made : goal.returns-in_err-try_again-in-Err-clause-made
returns-in_err-try_again-in-Err-clause-made g c =
    let l = c.loop-self.invariant in
    let is : c.from_residual.result ≡ Err ReadFailed = search rules in
    let one_less : c.loop-self.self.reads - 1 + 1 ≡ c.loop-self.self.reads = omega (arith, c.loop-self-test.true) in
    let other : error_kind c.in-Err.error ≢ _ = λ same. absurd (subst (λ b. cond b ⊥ (Unit {0})) (c.in_err-try_again-in-Err.ensures.again.1 same) tt) in
    piece_failed g.R.Source.reads _ _ _ _ is (record {
      count = l.count;
      mid = c.loop-self.self.reader.now;
      rest = c.loop-self.self.reads;
      interrupted = l.interrupted;
      counted = l.counted;
      ends = ((c.read_once.new.piece, c.in-Err.error, c.in-Err.ensures.goes, other), one_less);
    })

pub returns-in_err-try_again-in-Err-clause-reads : goal.returns-in_err-try_again-in-Err-clause-reads
returns-in_err-try_again-in-Err-clause-reads g c = reads_piece g.R.Source.reads _ _ _ _ (returns-in_err-try_again-in-Err-clause-made g c)

pub returns-clause-made : goal.returns-clause-made
returns-clause-made g c =
    let l = c.loop-self.invariant in
    record {
      count = l.count;
      mid = c.loop-self.self.reader.now;
      rest = c.loop-self.self.reads;
      interrupted = l.interrupted;
      counted = l.counted;
      ends = (refl, omega (arith, c.loop-self-test.false), omega (arith, c.loop-self-test.false));
    }

pub returns-clause-reads : goal.returns-clause-reads
returns-clause-reads g c = reads_piece g.R.Source.reads _ _ _ _ (returns-clause-made g c)
