use Rattle.std.proofs.Common.{sym, ◌∙◌, le-ltb}
use Rattle.fr_base.proofs.CycleLemmas.{has_cycle-in, has_cycle-out}
use Rattle.fr_base.proofs.cycles.CycleSet.contains.Goals as goal

pub returns-then-cycle-self : goal.returns-then-cycle-self
returns-then-cycle-self c = rw (← c.self.view_is) (sym (has_cycle-in _ _ c.if-cycle-self.true))

pub returns-else-cycle-self : goal.returns-else-cycle-self
returns-else-cycle-self c = rw (← c.self.view_is) (le-ltb c.args.cycle c.self.inside.count c.if-cycle-self.false ∙ sym (has_cycle-out _ _ c.if-cycle-self.false))
