use Rattle.std.proofs.Common.{rules, ◌≡◌, [], arith, ap, true, refl, sym, ◌∙◌, subst, IsTrue}
use Rattle.sqlite.specs.State.{HasCleanDisk}
use Rattle.sqlite.specs.Held.{state}
use Rattle.fr_tables.proofs.TheTables.{cluster2_table, supplier_table, variant_table}
use Rattle.fr_tables.proofs.Cluster2Lemmas as cluster2
use Rattle.fr_tables.proofs.SupplierLemmas as suppliers
use Rattle.fr_tables.proofs.VariantLemmas as variants
use Rattle.fr_tables.proofs.NumberLemmas.{asked_answers, asked_unread, asked_shown, asked_told, asked_listed, as_before, keeps}
use Rattle.fr_tables.proofs.schema_number.ask_and_undo.Goals as goal

pub returns : goal.returns
returns g c =
    let old = state g.S.Store c.args.conn.now in
    let begun = state g.S.Store c.transaction-tx.result.conn.now in
    let mid = state g.S.Store c.query_all.new.self.conn.now in
    let end = c.drop-tx.new.self.0 in
    let same : end ≡ c.conn-1.given.0 = search rules in
    let now : begun.now ≡ old.now = ap (λ h. (state g.S.Store h).now) c.transaction-tx.ensures.begun in
    let late : HasCleanDisk (state g.S.Store c.conn-1.given.0) → HasCleanDisk (state g.S.Store end) = subst (λ h. HasCleanDisk (state g.S.Store h)) (sym same) in
    let here : HasCleanDisk (state g.S.Store c.conn-1.given.0) → HasCleanDisk mid = λ clean. let ended = late clean in omega (arith, c.drop-tx.ensures.survives.clean) in
    let sql = c.args.sql.now in
    let found = c.query_all.result in
    record {
      does = record {
        number = λ clean text was. asked_shown sql old begun mid found text now was (c.query_all.ensures.ok (here clean));
        told = λ clean text was. asked_told sql old begun mid found text now was (c.query_all.ensures.err (here clean));
        answer = λ clean. asked_answers sql old begun mid found now (c.query_all.ensures.ok (here clean));
        unread = λ clean. asked_unread sql old begun mid found now (c.query_all.ensures.err (here clean));
        cluster = λ clean text was. asked_listed cluster2_table cluster2.its_row sql old begun mid found text now was (c.query_all.ensures.ok (here clean));
        suppliers = λ clean text was. asked_listed supplier_table suppliers.by_name sql old begun mid found text now was (c.query_all.ensures.ok (here clean));
        variants = λ clean text was. asked_listed variant_table variants.by_order sql old begun mid found text now was (c.query_all.ensures.ok (here clean));
      };
      same = λ clean up.
          let up_late : IsTrue (state g.S.Store end).is_open = subst (λ h. IsTrue (state g.S.Store h).is_open) (sym same) up in
          let committed : begun.committed ≡ old.committed = ap (λ h. (state g.S.Store h).committed) c.transaction-tx.ensures.begun in
          let open_then : begun.is_open ≡ old.is_open = ap (λ h. (state g.S.Store h).is_open) c.transaction-tx.ensures.begun in
          let inside : begun.in_transaction ≡ true = ap (λ h. (state g.S.Store h).in_transaction) c.transaction-tx.ensures.begun in
          let settled = c.is_autocommit-committed.ensures.settled (rw (c.is_autocommit-committed.ensures.value, c.requires) refl) in
          let all = as_before begun mid (state g.S.Store end) (λ was. now ∙ settled (rw (sym open_then) was) ∙ sym committed)
          (keeps sql begun mid inside [] found (c.query_all.ensures.ok (here clean)) (c.query_all.ensures.err (here clean))) (c.drop-tx.ensures.undone (late clean)) up_late in
          subst (λ h. IsTrue old.is_open × ((state g.S.Store h).now ≡ old.now) × ((state g.S.Store h).committed ≡ old.committed)) same
          (sym open_then ∙ all.0, all.1 ∙ now, all.2 ∙ committed);
      autocommit = search rules;
      survives = search rules;
    }
