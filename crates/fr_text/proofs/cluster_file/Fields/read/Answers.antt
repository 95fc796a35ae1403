use Rattle.std.proofs.Common.{◌≡◌, true, inl, inr, arith}
use Rattle.std.proofs.lemmas.Result.{err_from_is_err_and}
use Rattle.toml.specs.View.{table_view}
use Rattle.fr_text.specs.ClusterFile.{has_only_file_keys}
use Rattle.fr_text.proofs.ClusterFileLemmas.{fields_in_open, has_only_file_keys-view}
use Rattle.fr_text.proofs.cluster_file.Fields.read.Goals as goal

pub returns-in_err-table_at-clause-refused : goal.returns-in_err-table_at-clause-refused
unfolding fields_in_open
returns-in_err-table_at-clause-refused c =
    let file = table_view c.args.file.now in
    let only : has_only_file_keys file ≡ true = grind (arith, has_only_file_keys-view) in
    let p = err_from_is_err_and c.from_residual-in_err-table_at.result c.from_residual-in_err-table_at.ensures.1 in
    rw (p.1, p.2) (inr (rw (only, ← c.in_ok-params.ensures, c.in_ok-integrator.ensures, c.in_err-table_at.ensures)))

pub returns-in_err-suppliers-clause-refused : goal.returns-in_err-suppliers-clause-refused
unfolding fields_in_open
returns-in_err-suppliers-clause-refused c =
    let p = err_from_is_err_and c.from_residual-in_err-suppliers.result c.from_residual-in_err-suppliers.ensures.1 in
    let only : has_only_file_keys (table_view c.args.file.now) ≡ true = grind (arith, has_only_file_keys-view) in
    rw (p.1, p.2) (
    elim c.in_err-suppliers.ensures.refused [
      | inl memory ↦ inl memory
      | inr fault ↦ inr (rw (only, ← c.in_ok-params.ensures, c.in_ok-integrator.ensures, c.in_ok-table_at.ensures, fault))
    ]
    )

pub returns-clause-read : goal.returns-clause-read
unfolding fields_in_open
returns-clause-read c =
    let only : has_only_file_keys (table_view c.args.file.now) ≡ true = grind (arith, has_only_file_keys-view) in
    rw (only, ← c.in_ok-params.ensures, c.in_ok-integrator.ensures, c.in_ok-table_at.ensures, c.in_ok-suppliers.ensures.read)
