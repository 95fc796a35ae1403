use Rattle.std.proofs.Common.{arith, ◌≡◌, ◌+◌, ◌-◌, ◌∙◌, ap, drop, sym, take}
use Rattle.std.proofs.lemmas.Slice.Eq.{bytes_eq-Decides}
use Rattle.fr_links.specs.Sending.{interim}
use Rattle.fr_links.proofs.Passing.{is_true, passes_front}
use Rattle.fr_links.proofs.outbox.Outbox.pass_over.Goals as goal

pub returns-clause-passed : goal.returns-clause-passed
unfolding interim
returns-clause-passed c =
    let s = c.args.self.now in
    let n = c.min-n.result in
    let shown : take (s.passed + n - s.passed) (drop s.passed interim) ≡ take n c.args.bytes.now =
    (bytes_eq-Decides (take (s.passed + n - s.passed) (drop s.passed interim)) (take n c.args.bytes.now)).0 (is_true _ (sym c.ne.ensures ∙ c.if-ne.false)) in
    passes_front interim s.ahead s.passed n (take n c.args.bytes.now) (omega arith)
    (ap (λ k. take k (drop s.passed interim)) (omega arith) ∙ shown)
