-- What the statements on the cluster's row do.
use Rattle.std.proofs.Common.{ap, ◌∙◌, ℕ, List, [], ◌∷◌, codes, filter, not, ◌≡◌, Ok, refl}
use Rattle.sqlite.specs.Term.{col}
use Rattle.sqlite.specs.Listing.{understood}
use Rattle.sqlite.specs.State.{State, Executes}
use Rattle.sqlite_tied.specs.Compute.{everything}
use Rattle.fr_tables.specs.Rows.{ClusterRow}
use Rattle.fr_tables.specs.Tables.{HasTables}
use Rattle.fr_tables.specs.Changes.{Changes, tables_of}
use Rattle.fr_tables.specs.Statements.{shows_cluster, every, any_order, without_cluster}
use Rattle.fr_tables.proofs.RemoveLemmas.{Removes, removed}
use Rattle.fr_tables.proofs.BehindLemmas.{works_same}
use Rattle.fr_tables.proofs.TableOf.{Does, does}
use Rattle.fr_tables.proofs.TheTables.{cluster_table}
use Rattle.fr_tables.proofs.FindLemmas.{Selects}

abbrev delete_text : List ℕ
delete_text = codes "DELETE FROM cluster"

delete_is : Removes cluster_table delete_text [] every
unfolding understood everything
delete_is = record {
  tests = [];
  is = λ l. record { is = refl; plain = (refl, refl) };
  idle = λ l olds. works_same l 0 1 olds [];
  tested = λ p. refl;
}

none_left : (rows : List ClusterRow) → filter (λ x. not (every x)) rows ≡ []
none_left [] = refl
none_left (r ∷ rows) = none_left rows

deleted : (old new : State) (count : ℕ) → HasTables old.now → Executes delete_text [] old new (Ok count) → Changes without_cluster old new
deleted old new count was h =
    let did = removed cluster_table delete_is old new count was h in
    record { has = did.has; now = did.now ∙ ap (λ rows. record (tables_of old) { cluster = rows }) (none_left (tables_of old).cluster); schema = did.schema; shown = did.shown }

pub deletes : Does delete_text [] (Changes without_cluster)
deletes = does delete_text [] _ deleted

abbrev pub select_text : List ℕ
select_text = codes "SELECT static_slots, slot_macroticks, dynamic_macroticks, symbol_macroticks, idle_macroticks, macroticks_per_cycle, payload_words, channels, integrator FROM cluster"

pub its_row : Selects cluster_table shows_cluster (every) any_order select_text ([])
unfolding understood everything
its_row l behind = record {
  tests = [];
  order = [];
  project = col 1 2 ∷ col 1 3 ∷ col 1 4 ∷ col 1 5 ∷ col 1 6 ∷ col 1 7 ∷ col 1 8 ∷ col 1 9 ∷ col 1 10 ∷ [];
  is = record { names = codes "static_slots" ∷ codes "slot_macroticks" ∷ codes "dynamic_macroticks" ∷ codes "symbol_macroticks" ∷ codes "idle_macroticks" ∷ codes "macroticks_per_cycle" ∷ codes "payload_words" ∷ codes "channels" ∷ codes "integrator" ∷ []; is = refl; unlisted = refl; plain = (refl, refl) };
  tested = λ p. refl;
  compared = λ a b. refl;
  projected = λ p. refl;
}
