use Rattle.std.proofs.Common.{◌≡◌, ◌∙◌, ap, sym, subst, arith, false}
use Rattle.sqlite.specs.State.{HasCleanDisk, KeepsCommit}
use Rattle.fr_base.specs.Tables.{get}
use Rattle.fr_base.proofs.SoundTables.{value_of}
use Rattle.fr_tables.specs.Changes.{tables_of}
use Rattle.fr_tables.specs.Rows.{key_of}
use Rattle.fr_tables.specs.declared.frame_key.FrameKey.{FrameKey}
use Rattle.fr_tables.proofs.FillLemmas.{survives_both}
use Rattle.fr_store.specs.Flat.{HasMore, Reaches, filled}
use Rattle.fr_store.specs.Owning.{CopiesFrame, IsOwner, MakesFrameCopies, is_own}
use Rattle.fr_store.proofs.AgainLemmas.{still_stands}
use Rattle.fr_store.proofs.CallLemmas.{KeepsOn, done_refused, done_stays, frame_copies_stay, keeps_on, on_done, seen, stays_then}
use Rattle.fr_store.proofs.ChainLemmas.{same_tables}
use Rattle.fr_store.proofs.ClimbLemmas.{has_after}
use Rattle.fr_store.proofs.FlatLemmas.{copied_before, copied_now}
use Rattle.fr_store.proofs.InsideLemmas.{asked_inside}
use Rattle.fr_store.proofs.applying.flat.copy_shown.Goals as goal

pub returns-then-branch : goal.returns-then-branch
returns-then-branch g c =
    let v = c.args.variant.now in
    let s = c.args.supplier.now in
    let n = c.args.name.now in
    let old = seen g.S.Store c.args.tx.now in
    let new = seen g.S.Store c.is_own.new.tx in
    record {
      same_reference = c.is_own.ensures.same_reference;
      does = λ clean inside cluster b x part may given within stands.
          let own = c.in_ok-is_own.ensures.does clean stands.has in
          let shown = value_of (get x.frames (s, n)) given in
          copied_before b v c.args.from.now x may cluster s n shown.0 shown.1 part within old new own.1 (ap (λ (key : FrameKey). is_own key (tables_of old)) (sym c.new-copy.ensures) ∙ sym own.0 ∙ c.if-branch.true) stands;
      stays = λ clean inside has. asked_inside old new inside has (c.in_ok-is_own.ensures.does clean has).1;
      refused = tt;
      survives = c.is_own.ensures.survives;
    }

pub returns : goal.returns
returns g c =
    let v = c.args.variant.now in
    let from = c.args.from.now in
    let s = c.args.supplier.now in
    let n = c.args.name.now in
    let w = c.in_ok-owner.owner in
    let old = seen g.S.Store c.args.tx.now in
    let first = seen g.S.Store c.is_own.new.tx in
    let mid = seen g.S.Store c.owner.new.tx in
    let new = seen g.S.Store c.copy_frame.new.tx in
    let copied : MakesFrameCopies w (key_of v s n) mid new c.copy_frame.result = subst (λ (key : FrameKey). MakesFrameCopies w key mid new c.copy_frame.result) c.new-copy.ensures c.copy_frame.ensures.does in
    let asked : KeepsOn old first = λ clean inside has. asked_inside old first inside has (c.in_ok-is_own.ensures.does clean has).1 in
    let climbed : KeepsOn first mid = λ clean inside has. let found = c.in_ok-owner.ensures.does clean inside has in (found.0, record { inside = found.1.inside; has = has_after first mid found.1.now has }) in
    record {
      same_reference = c.copy_frame.ensures.same_reference ∙ c.owner.ensures.same_reference ∙ c.is_own.ensures.same_reference;
      does = λ clean inside cluster b x part may given within stands.
          let clean_mid : HasCleanDisk mid = omega (arith, c.copy_frame.ensures.survives.clean, clean) in
          let clean_first : HasCleanDisk first = omega (arith, c.owner.ensures.survives.clean, clean_mid) in
          let own = c.in_ok-is_own.ensures.does clean_first stands.has in
          let went = asked clean_first inside stands.has in
          let shown = value_of (get x.frames (s, n)) given in
          let stands_first = still_stands old first cluster (filled b v x part) own.1.0.now_is stands in
          let not_own : is_own (key_of v s n) (tables_of first) ≡ false =
          ap (is_own (key_of v s n)) (same_tables old first own.1) ∙ ap (λ (key : FrameKey). is_own key (tables_of old)) (sym c.new-copy.ensures) ∙ sym own.0 ∙ c.if-branch.false in
          let found : IsOwner (key_of from s n) w first mid = subst (λ (key : FrameKey). IsOwner key w first mid) c.new-shown.ensures (c.in_ok-owner.ensures.does clean_mid went.1.inside went.1.has).1 in
          on_done (CopiesFrame w (key_of v s n) mid new) (KeepsCommit mid new) (HasMore b v x part (λ more. Reaches x.frames more (s, n)) new cluster) c.copy_frame.result c.done.result c.done.ensures
          (copied clean found.inside (has_after first mid found.now went.1.has))
          (λ copies. copied_now b v from x may cluster s n shown.0 shown.1 part within w first mid new found not_own copies stands_first);
      stays = stays_then old mid new c.done.result c.copy_frame.ensures.survives (keeps_on old first mid c.owner.ensures.survives asked climbed)
          (done_stays mid new c.copy_frame.result c.done.result c.done.ensures (frame_copies_stay w v s n mid new c.copy_frame.result copied));
      refused = done_refused c.copy_frame.result c.done.result c.done.ensures;
      survives = survives_both old first new c.is_own.ensures.survives (survives_both first mid new c.owner.ensures.survives c.copy_frame.ensures.survives);
    }
