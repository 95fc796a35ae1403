-- A draft after a change that its page admits.
use Rattle.std.proofs.Common.{◌≡◌, Ok, Err, ap, sym, ◌∙◌}
use Rattle.fr_base.specs.Refusing.{◌>>◌}
use Rattle.fr_base.specs.declared.refusal.Refusal.{Refusal}
use Rattle.fr_base.specs.declared.request.Change.{Change}
use Rattle.fr_world.specs.Decisions.{admits_alone}
use Rattle.fr_world.specs.RowDecisions.{DraftData, make, with_change}

pub make-ok : (d e : DraftData) (what : Change) → admits_alone d.page what ≡ Ok tt → e ≡ with_change d what → make d what ≡ Ok e
unfolding make ◌>>◌
make-ok d e what admitted made = ap (λ r. r >> Ok (with_change d what)) admitted ∙ ap Ok (sym made)

pub make-refused : (d : DraftData) (what : Change) (e : Refusal) → admits_alone d.page what ≡ Err e → make d what ≡ Err e
unfolding make ◌>>◌
make-refused d what e refused = ap (λ r. r >> Ok (with_change d what)) refused
