-- Sending: what is written for a connection goes out in order, and nothing else does.
use Rattle.std.specs.Prelude.{◌≡◌, ℕ, List, ◌++◌, Option, drop, take}
use Rattle.std.specs.Io.KnownBytes.{Appends, Keeps}
use Rattle.fr_links.specs.declared.outbox.TheConstants.{INTERIM}

-- the interim reply
unfoldable pub interim : List ℕ
interim = INTERIM

-- What went out before it was written: of the interim reply so many bytes went out, of which so many were written since.
abbrev pub early : ℕ → ℕ → List ℕ
early ahead passed = drop passed (take ahead interim)

-- Of what was due to go out a front went out, and this is due now.
pub record GoesOut (held now : Option (List ℕ)) (due left : List ℕ) : Type 0 where
  pub out : List ℕ
  pub appended : Appends held now out
  pub order : due ≡ out ++ left

-- Bytes were written, and some went out. What went out early, and then what goes out now, and then what is due from now on: these are
-- what had been due, and then what was written, and then what is early from now on. So each byte that is written goes out once and in order, and
-- what goes out was written or is early.
pub record Moves (held now : Option (List ℕ)) (early due written early' due' : List ℕ) : Type 0 where
  pub out : List ℕ
  pub appended : Appends held now out
  pub order : early ++ out ++ due' ≡ due ++ written ++ early'

-- Nothing was written, and nothing went out.
pub record Rests (held now : Option (List ℕ)) (early due early' due' : List ℕ) : Type 0 where
  pub keeps : Keeps held now
  pub same_early : early' ≡ early
  pub same_due : due' ≡ due
