use Rattle.std.proofs.Common.{◌≡◌, true, false, Err, inl, inr, IsTrue, refl, subst, sym, ap, ◌∙◌}
use Rattle.std.proofs.lemmas.Result.{err_from_is_err_and}
use Rattle.std.proofs.lemmas.Bool.{false≢true}
use Rattle.fr_base.specs.Names.{is_key}
use Rattle.fr_base.specs.Cluster.{ClusterFile, keys_of, keys_differ, names_rise}
use Rattle.fr_text.specs.SupplierTexts.{suppliers_of}
use Rattle.fr_text.proofs.ClusterFileLemmas.{check_cluster-seen, check_params-same, read-some, read-none}
use Rattle.fr_text.proofs.WellFormedLaws.{checked-well_formed}
use Rattle.fr_text.proofs.cluster_file.Fields.check.Goals as goal

pub returns-then-not-are_names-clause-refused : goal.returns-then-not-are_names-clause-refused
returns-then-not-are_names-clause-refused c =
    let rest = check_cluster-seen _ c.self.inside.params c.in_ok-params.params c.self.inside.integrator.now c.self.inside.suppliers.items c.as_slice-texts.result.now c.self.view_is c.as_slice-texts.ensures.value c.in_ok-params.ensures c.if-texts-gt-MAX_SUPPLIERS.false in
    inr (rw (rest, ← c.are_names.ensures, c.if-not-are_names.true))

pub returns-in_default-clause-refused : goal.returns-in_default-clause-refused
returns-in_default-clause-refused c =
    let rest = check_cluster-seen _ c.self.inside.params c.in_ok-params.params c.self.inside.integrator.now c.self.inside.suppliers.items c.as_slice-texts.result.now c.self.view_is c.as_slice-texts.ensures.value c.in_ok-params.ensures c.if-texts-gt-MAX_SUPPLIERS.false in
    let key = read-none (is_key c.self.inside.integrator.now) c.self.inside.integrator.now c.in_default.ensures in
    inr (rw (rest, ← c.are_names.ensures, c.if-not-are_names.false, key))

pub returns-in_err-suppliers-clause-refused : goal.returns-in_err-suppliers-clause-refused
returns-in_err-suppliers-clause-refused c =
    let rest = check_cluster-seen _ c.self.inside.params c.in_ok-params.params c.self.inside.integrator.now c.self.inside.suppliers.items c.as_slice-texts.result.now c.self.view_is c.as_slice-texts.ensures.value c.in_ok-params.ensures c.if-texts-gt-MAX_SUPPLIERS.false in
    let key = read-some (is_key c.self.inside.integrator.now) c.self.inside.integrator.now c.in-Some.integrator c.in-Some.ensures in
    let p = err_from_is_err_and c.from_residual-in_err-suppliers.result c.from_residual-in_err-suppliers.ensures.1 in
    rw (p.1, p.2) (elim c.in_err-suppliers.ensures.refused [
      | inl memory ↦ inl memory
      | inr (inl name) ↦ (
          let none = c.in_err-suppliers.ensures.name (ap Err name) in
          absurd (false≢true (sym (c.if-not-are_names.ensures ∙ none)))
          )
      | inr (inr fault) ↦ (
          let none = c.in_err-suppliers.ensures.key (ap Err fault) in
          inr (rw (rest, ← c.are_names.ensures, c.if-not-are_names.false, key.0, none, fault))
          )
    ])

pub returns-then-not-keys_differ-clause-refused : goal.returns-then-not-keys_differ-clause-refused
returns-then-not-keys_differ-clause-refused c =
    let rest = check_cluster-seen _ c.self.inside.params c.in_ok-params.params c.self.inside.integrator.now c.self.inside.suppliers.items c.as_slice-texts.result.now c.self.view_is c.as_slice-texts.ensures.value c.in_ok-params.ensures c.if-texts-gt-MAX_SUPPLIERS.false in
    let key = read-some (is_key c.self.inside.integrator.now) c.self.inside.integrator.now c.in-Some.integrator c.in-Some.ensures in
    let read = c.in_ok-suppliers.ensures.read in
    let twice : keys_differ (keys_of c.self.inside.integrator.now (suppliers_of c.as_slice-texts.result.now)) ≡ false =
    rw (← key.1, ← read.0, ← c.as_slice.ensures, ← c.keys_differ.ensures) c.if-not-keys_differ.true in
    inr (rw (rest, ← c.are_names.ensures, c.if-not-are_names.false, key.0, read.1, twice))

pub returns-clause-read : goal.returns-clause-read
returns-clause-read c =
    let rest = check_cluster-seen _ c.self.inside.params c.in_ok-params.params c.self.inside.integrator.now c.self.inside.suppliers.items c.as_slice-texts.result.now c.self.view_is c.as_slice-texts.ensures.value c.in_ok-params.ensures c.if-texts-gt-MAX_SUPPLIERS.false in
    let key = read-some (is_key c.self.inside.integrator.now) c.self.inside.integrator.now c.in-Some.integrator c.in-Some.ensures in
    let read = c.in_ok-suppliers.ensures.read in
    let differ : keys_differ (keys_of c.self.inside.integrator.now (suppliers_of c.as_slice-texts.result.now)) ≡ true =
    rw (← key.1, ← read.0, ← c.as_slice.ensures, ← c.keys_differ.ensures) c.if-not-keys_differ.false in
    let params = check_params-same c.self.inside.params c.in_ok-params.params (sym c.in_ok-params.ensures) in
    rw (rest, ← c.are_names.ensures, c.if-not-are_names.false, key.0, read.1, differ) (rw (c.new.ensures, params, key.1, read.0, c.as_slice-texts.ensures.value, ← c.self.view_is))

pub new-requires : goal.new-requires
new-requires c =
    let rest = check_cluster-seen _ c.self.inside.params c.in_ok-params.params c.self.inside.integrator.now c.self.inside.suppliers.items c.as_slice-texts.result.now c.self.view_is c.as_slice-texts.ensures.value c.in_ok-params.ensures c.if-texts-gt-MAX_SUPPLIERS.false in
    let key = read-some (is_key c.self.inside.integrator.now) c.self.inside.integrator.now c.in-Some.integrator c.in-Some.ensures in
    let read = c.in_ok-suppliers.ensures.read in
    let differ : keys_differ (keys_of c.self.inside.integrator.now (suppliers_of c.as_slice-texts.result.now)) ≡ true =
    rw (← key.1, ← read.0, ← c.as_slice.ensures, ← c.keys_differ.ensures) c.if-not-keys_differ.false in
    let params = check_params-same c.self.inside.params c.in_ok-params.params (sym c.in_ok-params.ensures) in
    checked-well_formed c.args.self.now _ (subst (λ (k : ClusterFile). IsTrue (names_rise k.suppliers)) c.self.view_is c.self.invariant) (rw (rest, ← c.are_names.ensures, c.if-not-are_names.false, key.0, read.1, differ) (rw (params, key.1, read.0, c.as_slice-texts.ensures.value, ← c.self.view_is) refl))
