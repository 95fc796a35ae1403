-- Gathering ends with what was read so far, or with one piece more.
use Rattle.std.proofs.Common.{◌≡◌, ℕ, List, [], ◌++◌, Option, refl, sym, subst, append-nil}
use Rattle.std.specs.Prelude.{◌≢◌}
use Rattle.std.specs.Io.KnownBytes.{Consumes}
use Rattle.std.proofs.KnownBytes.{Consumes-trans}
use Rattle.fr_links.specs.Gathering.{Gathers}
use Rattle.fr_links.specs.declared.heard.Heard.{Heard}
use Rattle.fr_links.specs.declared.heard.Heard.TheVariants.{Failed}

-- nothing more was read
pub finish : (input left : Option (List ℕ)) (came now read : List ℕ) (heard : Heard) → Consumes input left read → now ≡ came ++ read → Gathers input left came now heard
finish input left came now read heard consumed gathered = record {
  kept = read;
  lost = [];
  consumed = subst (Consumes input left) (sym (append-nil read)) consumed;
  gathered = gathered;
  none = λ _. refl;
}

-- one piece more was read, which is empty or is lost
pub stop : (input mid left : Option (List ℕ)) (came now read more : List ℕ) (heard : Heard) → Consumes input mid read → now ≡ came ++ read → Consumes mid left more
    → (heard ≢ Failed → more ≡ []) → Gathers input left came now heard
stop input mid left came now read more heard consumed gathered rest none = record {
  kept = read;
  lost = more;
  consumed = Consumes-trans input mid left read more consumed rest;
  gathered = gathered;
  none = none;
}
