-- Records that were only read, by one call after another.
use Rattle.std.proofs.Common.{◌∙◌, refl}
use Rattle.fr_base.specs.declared.params.Params.{Params}
use Rattle.fr_world.specs.Held.{Leaving, Reads}

module _ {R : Type 0} (clean : R → Type 0) (params : R → Params) (leaves : R → Leaving) where
  pub reads_none : (old : R) → Reads clean params leaves old old
  reads_none old = record { falls = λ now. now; same = refl; leaves = λ now c books left. left }

  pub reads_then : (old mid new : R) → Reads clean params leaves old mid → Reads clean params leaves mid new → Reads clean params leaves old new
  reads_then old mid new first then = record {
    falls = λ now. first.falls (then.falls now);
    same = then.same ∙ first.same;
    leaves = λ now c books left. then.leaves now c books (first.leaves (then.falls now) c books left);
  }
