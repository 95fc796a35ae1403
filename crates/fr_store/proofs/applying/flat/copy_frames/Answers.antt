use Rattle.std.proofs.Common.{◌≡◌, ◌∙◌, ◌++◌, [], ◌∷◌, All, arith, map, refl, sym, subst, IsTrue}
use Rattle.std.proofs.lemmas.List.{map-append}
use Rattle.std.proofs.lemmas.List.Elements.{All-append, All-cons, All-nil, All-weaker}
use Rattle.std.proofs.lemmas.Map.Iter.{iter_end}
use Rattle.std.proofs.lemmas.Map.Views.{All-turn}
use Rattle.std.specs.Map.Iter.{deref}
use Rattle.sqlite.specs.State.{HasCleanDisk}
use Rattle.sqlite.specs.Held.{state}
use Rattle.fr_base.specs.Tables.{contains}
use Rattle.fr_base.specs.declared.name.Name.{Name}
use Rattle.fr_tables.proofs.FillLemmas.{survives_both}
use Rattle.fr_store.specs.Flat.{Reaches}
use Rattle.fr_store.proofs.ClimbLemmas.{survives_itself}
use Rattle.fr_store.proofs.FlatSteps.{filled_none, more_of, one_more, still_reached}
use Rattle.fr_store.proofs.applying.flat.copy_frames.Goals as goal

pub loop-name-init : goal.loop-name-init
loop-name-init g c =
    let old = state g.S.Store c.args.tx.now.conn.now in (
      refl,
      λ clean inside has. record {
        keeps = record { was_open = λ up. up; committed = λ up. refl };
        goes = record { inside = inside; has = has };
        fills = filled_none c.args.variant.now c.args.from.now _ _ old (λ whole part. All-nil (λ n. Reaches whole part (c.args.supplier.now, n)));
      },
      survives_itself old,
    )

pub loop-name-preserved : goal.loop-name-preserved
loop-name-preserved g c =
    let v = c.args.variant.now in
    let from = c.args.from.now in
    let s = c.args.supplier.now in
    let keys = c.args.names.now.keys in
    let n : Name = c.in-Some.name.now in
    let so_far = map deref c.loop-name.yielded in
    let old = state g.S.Store c.args.tx.now.conn.now in
    let before = state g.S.Store c.loop-name.tx.conn.now in
    let new = state g.S.Store c.copy_shown.new.tx.conn.now in (
      c.copy_shown.ensures.same_reference ∙ c.loop-name.invariant.0,
      λ clean inside has.
          let clean_before : HasCleanDisk before = omega (arith, c.copy_shown.ensures.survives.clean, clean) in
          let come = c.loop-name.invariant.1 clean_before inside has in
          let stays = c.in_ok-copy_shown.ensures.stays clean come.goes.inside come.goes.has in
          one_more v from (λ whole. All (λ m. IsTrue (contains whole (s, m))) keys) (λ whole. All (λ m. IsTrue (contains whole (s, m))) keys) (λ whole. IsTrue (contains whole (s, n)))
          (λ whole part. All (λ m. Reaches whole part (s, m)) so_far) (λ whole part. Reaches whole part (s, n))
          (λ whole part. All (λ m. Reaches whole part (s, m)) (map deref (c.loop-name.yielded ++ c.in-Some.name ∷ []))) old before new (λ whole given. given)
          (λ whole given. All-turn deref (λ m. IsTrue (contains whole (s, m))) keys _ _ _ _ _ _ given (c.into_iter-name-iterator.ensures.into_iter_gives ∙ c.iter-name-items.ensures.rest) c.loop-name.yielded_by c.in-Some.is c.next.ensures.steps)
          (λ whole part more grown first second.
          subst (All (λ m. Reaches whole more (s, m))) (sym (map-append deref c.loop-name.yielded (c.in-Some.name ∷ [])))
          (All-append (λ m. Reaches whole more (s, m)) so_far (n ∷ []) (All-weaker _ _ (λ m h. still_reached whole part more (s, m) grown h) so_far first) (All-cons (λ m. Reaches whole more (s, m)) n [] second (All-nil (λ m. Reaches whole more (s, m))))))
          come stays.0 stays.1 (λ cluster b x part may given within stands. c.in_ok-copy_shown.ensures.does clean come.goes.inside cluster b x part may given within stands),
      survives_both old before new c.loop-name.invariant.2 c.copy_shown.ensures.survives,
    )

pub returns : goal.returns
returns g c =
    let s = c.args.supplier.now in
    let now = state g.S.Store c.loop-name.tx.conn.now in
    let whole : map deref c.loop-name.yielded ≡ c.args.names.now.keys =
    (iter_end deref _ c.loop-name.yielded _ c.loop-name.name-iterator c.next.new.self c.next.result (c.into_iter-name-iterator.ensures.into_iter_gives ∙ c.iter-name-items.ensures.rest) c.loop-name.yielded_by c.in-None.is c.next.ensures.steps).0 in
    record {
      same_reference = c.loop-name.invariant.0;
      does = λ clean inside cluster b x part may given within stands.
          more_of b c.args.variant.now x part (λ more. All (λ n. Reaches x.frames more (s, n)) (map deref c.loop-name.yielded)) (λ more. All (λ n. Reaches x.frames more (s, n)) c.args.names.now.keys) now cluster
          (λ more reached. subst (All (λ n. Reaches x.frames more (s, n))) whole reached)
          ((c.loop-name.invariant.1 clean inside stands.has).fills cluster b x part may given within stands);
      stays = λ clean inside has. let come = c.loop-name.invariant.1 clean inside has in (come.keeps, come.goes);
      refused = tt;
      survives = c.loop-name.invariant.2;
    }
