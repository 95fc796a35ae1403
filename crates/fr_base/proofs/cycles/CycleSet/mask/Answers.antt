use Rattle.std.proofs.Common.{ℕ, arith, IsTrue}
use Rattle.fr_base.specs.Cycles.{are_cycles}
use Rattle.fr_base.proofs.CycleLemmas.{Within, within}
use Rattle.fr_base.proofs.MaskLemmas.{ones-some, word-has_cycle}
use Rattle.fr_base.proofs.cycles.CycleSet.mask.Goals as goal

-- the bounds of these numbers
bounds : (n b r : ℕ) → IsTrue (are_cycles (record { count = n; base = b; repetition = r })) → Within (record { count = n; base = b; repetition = r })
bounds n b r h = within (record { count = n; base = b; repetition = r }) h

pub ones-requires : goal.ones-requires
ones-requires c = let w = bounds c.self.inside.count c.self.inside.base c.self.inside.repetition c.self.invariant in (omega (arith, w.some), w.most)

pub ones-requires-2 : goal.ones-requires-2
ones-requires-2 c = let w = bounds c.self.inside.count c.self.inside.base c.self.inside.repetition c.self.invariant in (w.from_one, omega (arith, w.repetition, w.most))

pub nonzero_div-result : goal.nonzero_div-result
nonzero_div-result c = let w = bounds c.self.inside.count c.self.inside.base c.self.inside.repetition c.self.invariant in
    rw c.ones-2.ensures (ones-some c.self.inside.repetition w.from_one (omega (arith, w.repetition, w.most)))

pub overflow_shl-result : goal.overflow_shl-result
overflow_shl-result c = let w = bounds c.self.inside.count c.self.inside.base c.self.inside.repetition c.self.invariant in omega (arith, w.base, w.repetition, w.most)

pub returns : goal.returns
returns c = λ k. rw (c.ones.ensures, c.ones-2.ensures, ← c.self.view_is) (word-has_cycle _ c.self.invariant k)
