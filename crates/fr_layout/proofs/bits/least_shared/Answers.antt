use Rattle.std.proofs.Common.{◌*◌, ◌-◌, arith, subst, sym}
use Rattle.fr_layout.specs.Least.{IsLeast}
use Rattle.fr_layout.specs.Used.{IsShared}
use Rattle.fr_layout.proofs.LeastLemmas.{shared_is_least}
use Rattle.fr_layout.proofs.bits.least_shared.Goals as goal

pub returns : goal.returns
returns c =
    let s = c.args.signal in
    let t = c.args.other in
    subst (IsLeast (IsShared s t)) (sym c.first_shared.ensures)
    (shared_is_least s t (8 * c.max.result) (8 * c.min.result - 8 * c.max.result) (λ p h.
    let one = c.bytes-from.ensures.bits p h.0 in
    let two = c.bytes-other_from.ensures.bits p h.1 in
    (omega (arith, c.max.ensures, one.0, two.0), omega (arith, c.max.ensures, c.min.ensures, one.0, one.1, two.0, two.1))))
