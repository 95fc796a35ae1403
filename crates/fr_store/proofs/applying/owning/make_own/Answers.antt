use Rattle.std.proofs.Common.{rules, ◌≡◌, ◌≢◌, ◌∙◌, IsTrue, arith}
use Rattle.sqlite.specs.State.{HasCleanDisk, KeepsCommit}
use Rattle.fr_tables.specs.Changes.{tables_of}
use Rattle.fr_tables.proofs.FillLemmas.{survives_both}
use Rattle.fr_tables.specs.Rows.{key_of}
use Rattle.fr_store.specs.Owning.{CopiesFrame, is_own}
use Rattle.fr_store.specs.Reading.{Stands}
use Rattle.fr_store.proofs.CallLemmas.{KeepsOn, done_refused, done_stays, frame_copies_stay, on_done, seen, stays_then}
use Rattle.fr_store.proofs.ClimbLemmas.{has_after}
use Rattle.fr_store.proofs.OwnCopies.{already_own, copied_own}
use Rattle.fr_store.proofs.applying.owning.make_own.Goals as goal

pub returns-then-eq : goal.returns-then-eq
returns-then-eq g c =
    let old = seen g.S.Store c.args.tx.now in
    let new = seen g.S.Store c.owner.new.tx in
    record {
      same_reference = c.owner.ensures.same_reference;
      does = λ clean inside cluster b stands.
          let itself : c.in_ok-owner.owner ≡ c.args.key.now.variant = search rules in
          already_own c.in_ok-owner.owner c.args.key.now.variant c.args.key.now.supplier c.args.key.now.frame old new (c.in_ok-owner.ensures.does clean inside stands.has).1 itself cluster b stands;
      stays = λ clean inside has. let found = c.in_ok-owner.ensures.does clean inside has in (found.0, record { inside = found.1.inside; has = has_after old new found.1.now has });
      refused = tt;
      survives = c.owner.ensures.survives;
    }

pub returns : goal.returns
returns g c =
    let v = c.args.key.now.variant in
    let s = c.args.key.now.supplier in
    let f = c.args.key.now.frame in
    let from = c.in_ok-owner.owner in
    let old = seen g.S.Store c.args.tx.now in
    let mid = seen g.S.Store c.owner.new.tx in
    let new = seen g.S.Store c.copy_frame.new.tx in
    let asked : KeepsOn old mid = λ clean inside has. let found = c.in_ok-owner.ensures.does clean inside has in (found.0, record { inside = found.1.inside; has = has_after old mid found.1.now has }) in
    record {
      same_reference = c.copy_frame.ensures.same_reference ∙ c.owner.ensures.same_reference;
      does = λ clean inside cluster b stands x frame is shown.
          let clean_mid : HasCleanDisk mid = omega (arith, c.copy_frame.ensures.survives.clean, clean) in
          let found = (c.in_ok-owner.ensures.does clean_mid inside stands.has).1 in
          let other : from ≢ v = search rules in
          on_done (CopiesFrame from (key_of v s f) mid new) (KeepsCommit mid new) (Stands new cluster b × IsTrue (is_own (key_of v s f) (tables_of new))) c.copy_frame.result c.done.result c.done.ensures
          (c.copy_frame.ensures.does clean found.inside (has_after old mid found.now stands.has)) (λ copies. copied_own from v s f old mid new found other copies cluster b stands x frame is shown);
      stays = stays_then old mid new c.done.result c.copy_frame.ensures.survives asked
          (done_stays mid new c.copy_frame.result c.done.result c.done.ensures (frame_copies_stay from v s f mid new c.copy_frame.result c.copy_frame.ensures.does));
      refused = done_refused c.copy_frame.result c.done.result c.done.ensures;
      survives = survives_both old mid new c.owner.ensures.survives c.copy_frame.ensures.survives;
    }
