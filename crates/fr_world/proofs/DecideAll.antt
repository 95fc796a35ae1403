-- What a page decides.
use Rattle.std.proofs.Common.{◌≡◌, true, false, [], ◌∷◌, Result, Ok, Err, refl}
use Rattle.std.specs.Prelude.{⊤}
use Rattle.fr_base.specs.Refusing.{◌>>◌, refuse◌when◌}
use Rattle.fr_base.specs.Changes.{in_rows}
use Rattle.fr_base.specs.declared.refusal.Refusal.{Refusal}
use Rattle.fr_base.specs.declared.refusal.Refusal.TheVariants.{Released}
use Rattle.fr_base.specs.declared.request.Change.{Change}
use Rattle.fr_world.specs.Decisions.{admits_alone, decision}
use Rattle.fr_world.specs.Pages.{PageData, own_rows_of}
use Rattle.fr_world.specs.declared.edit.Edit.TheVariants.{Rows}

-- before all else the variant has to be open
pub decision_released : (rows : PageData) (what : Change) → rows.released ≡ true → decision rows what ≡ Err Released
unfolding decision ◌>>◌ refuse◌when◌
decision_released rows what closed = rw closed refl

module _ (rows : PageData) (what : Change) (unreleased : rows.released ≡ false) where
  decision_open : (r : Result ⊤ Refusal) → r ≡ admits_alone (own_rows_of rows) what → decision rows what ≡ (r >> Ok (Rows (in_rows rows.supplier rows.variant what) ∷ []))
  unfolding decision ◌>>◌ refuse◌when◌
  decision_open r is = rw (unreleased, ← is) refl

  -- what is admitted is the edit
  pub decision_made : (t : ⊤) → Ok t ≡ admits_alone (own_rows_of rows) what → decision rows what ≡ Ok (Rows (in_rows rows.supplier rows.variant what) ∷ [])
  unfolding ◌>>◌
  decision_made t is = decision_open (Ok t) is

  -- what refuses it is the refusal
  pub decision_refused : (e : Refusal) → Err e ≡ admits_alone (own_rows_of rows) what → decision rows what ≡ Err e
  unfolding ◌>>◌
  decision_refused e is = decision_open (Err e) is
