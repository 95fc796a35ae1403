-- What a proof about the check of a request opens. A query whose names are read as texts are is the checked query, and
-- so is what a file is delivered for.
use Rattle.std.proofs.Common.{◌≡◌, ◌∙◌, List, ℕ, Result, Ok, Err, refl, sym, ap}
use Rattle.std.specs.Prelude.{⊤}
use Rattle.fr_base.specs.Refusing.{◌>>=◌, ◌>>◌, ◌or◌, refuse◌when◌}
use Rattle.fr_base.specs.Checks.{asking, key, name, cycles, slot, channel, channels, placement, purpose, signal, beginning, query, check}
use Rattle.fr_base.specs.QueryNames.{IsPurposeRead, IsQueryRead}
use Rattle.fr_base.proofs.QueryLemmas.{query_alike}
use Rattle.fr_base.specs.declared.delivery.Purpose.{Purpose}
use Rattle.fr_base.specs.declared.delivery.Purpose.TheVariants.{Import, Replacement, Trial, Proposal}
use Rattle.fr_base.specs.declared.name.Name.{Name}
use Rattle.fr_base.specs.declared.query.Query.{Query}
use Rattle.fr_base.specs.declared.refusal.Refusal.{Refusal}

unfoldable pub checks_open : ⊤
unfolding ◌>>=◌ ◌>>◌ ◌or◌ refuse◌when◌ asking key name cycles slot channel channels placement purpose signal beginning check
checks_open = tt

-- the same but what a placement is
unfoldable pub frames_open : ⊤
unfolding ◌>>=◌ ◌>>◌ asking name check
frames_open = tt

pub query_read : (asked : Query (List ℕ) ℕ) (result : Result (Query Name ℕ) Refusal) → IsQueryRead (λ text read. read ≡ name text) (λ number read. read ≡ Ok number) asked result → result ≡ query asked
unfolding query
query_read = query_alike name Ok

-- a text is read as a name
abbrev AsName : List ℕ → Result Name Refusal → Type 0
AsName text result = result ≡ name text

pub purpose_read : (how : Purpose (List ℕ)) (result : Result (Purpose Name) Refusal) → IsPurposeRead AsName how result → result ≡ purpose how
unfolding IsPurposeRead purpose ◌>>=◌
purpose_read (Import label) result (read, is_name, is) = rw is (rw is_name refl)
purpose_read (Replacement whole) result is = is
purpose_read (Trial manner) result is = is
purpose_read (Proposal replace) result is = is
