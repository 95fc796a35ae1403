use Rattle.std.proofs.Common.{rules, ◌≡◌, ◌+◌, ◌<◌, ◌≤◌, ◌∙◌, ap, get_or, length, take, arith, refl, IsTrue}
use Rattle.std.proofs.lemmas.List.{take_all}
use Rattle.sqlite.specs.State.{HasCleanDisk}
use Rattle.sqlite.specs.Held.{state}
use Rattle.fr_base.specs.declared.name.Name.{Name}
use Rattle.fr_tables.proofs.FillLemmas.{survives_both}
use Rattle.fr_store.specs.Flat.{AnyFrames, Reaches, has_name}
use Rattle.fr_store.proofs.ClimbLemmas.{survives_itself}
use Rattle.fr_store.proofs.FlatSteps.{filled_none, more_of, next_supplier, one_more, still_reached}
use Rattle.fr_store.proofs.applying.flat.copy_all.Goals as goal

pub loop-supplier-init : goal.loop-supplier-init
loop-supplier-init g c =
    let old = state g.S.Store c.args.tx.now.conn.now in (
      refl,
      λ clean inside has. record {
        keeps = record { was_open = λ up. up; committed = λ up. refl };
        goes = record { inside = inside; has = has };
        fills = filled_none c.args.variant.now c.args.from.now AnyFrames _ old (λ whole part s n no. absurd cc);
      },
      survives_itself old,
    )

pub loop-supplier-preserved : goal.loop-supplier-preserved
loop-supplier-preserved g c =
    let v = c.args.variant.now in
    let from = c.args.from.now in
    let all = c.args.suppliers.now in
    let at = c.loop-supplier.supplier-index in
    let s : Name = c.supplier-item.result in
    let within : at < length all = search rules in
    let is : get_or all at s ≡ s = search rules in
    let old = state g.S.Store c.args.tx.now.conn.now in
    let before = state g.S.Store c.loop-supplier.tx.conn.now in
    let new = state g.S.Store c.copy_supplier.new.tx.conn.now in (
      c.copy_supplier.ensures.same_reference ∙ c.loop-supplier.invariant.0,
      λ clean inside has.
          let clean_before : HasCleanDisk before = omega (arith, c.copy_supplier.ensures.survives.clean, clean) in
          let come = c.loop-supplier.invariant.1 clean_before inside has in
          let stays = c.in_ok-copy_supplier.ensures.stays clean come.goes.inside come.goes.has in
          one_more v from AnyFrames AnyFrames AnyFrames (λ whole part. (t n : Name) → IsTrue (has_name t (take at all)) → Reaches whole part (t, n)) (λ whole part. (n : Name) → Reaches whole part (s, n))
          (λ whole part. (t n : Name) → IsTrue (has_name t (take (at + 1) all)) → Reaches whole part (t, n)) old before new (λ whole given. given) (λ whole given. given)
          (λ whole part more grown first second t n there. next_supplier all at s within is (λ u. Reaches whole more (u, n)) t there (λ low. still_reached whole part more (t, n) grown (first t n low)) (second n))
          come stays.0 stays.1 (λ cluster b x part may given within stands. c.in_ok-copy_supplier.ensures.does clean come.goes.inside cluster b x part may given within stands),
      survives_both old before new c.loop-supplier.invariant.2 c.copy_supplier.ensures.survives,
    )

pub returns : goal.returns
returns g c =
    let old = state g.S.Store c.args.tx.now.conn.now in
    let now = state g.S.Store c.loop-supplier.tx.conn.now in
    let all = c.args.suppliers.now in
    let at = c.loop-supplier.supplier-index in
    let end : length all ≤ at = c.loop-supplier-test.false in
    record {
      same_reference = c.loop-supplier.invariant.0;
      does = λ clean inside cluster b x part may given within stands.
          more_of b c.args.variant.now x part (λ more. (t n : Name) → IsTrue (has_name t (take at all)) → Reaches x.frames more (t, n)) (λ more. (t n : Name) → IsTrue (has_name t all) → Reaches x.frames more (t, n)) now cluster
          (λ more reached t n there. reached t n (ap (has_name t) (take_all at all end) ∙ there))
          ((c.loop-supplier.invariant.1 clean inside stands.has).fills cluster b x part may given within stands);
      stays = λ clean inside has. let come = c.loop-supplier.invariant.1 clean inside has in (come.keeps, come.goes);
      refused = tt;
      survives = c.loop-supplier.invariant.2;
    }
