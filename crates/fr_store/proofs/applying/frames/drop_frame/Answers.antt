use Rattle.std.proofs.Common.{rules, ◌≡◌, ◌∙◌, false, arith, subst, sym}
use Rattle.sqlite.specs.State.{HasCleanDisk}
use Rattle.fr_base.proofs.SoundTables.{value_of}
use Rattle.fr_base.specs.Tables.{get}
use Rattle.fr_base.specs.Changes.{in_rows}
use Rattle.fr_base.specs.declared.request.Change.TheVariants.{Frame}
use Rattle.fr_base.specs.declared.request.FrameChange.TheVariants.{Drop}
use Rattle.fr_world.specs.BookEdits.{applied}
use Rattle.fr_world.specs.declared.edit.Edit.TheVariants.{Rows}
use Rattle.fr_tables.specs.Changes.{Changes, Stays, tables_of}
use Rattle.fr_tables.specs.Rows.{key_of}
use Rattle.fr_tables.specs.Statements.{with_dropped, without_frame}
use Rattle.fr_tables.proofs.FillLemmas.{survives_both}
use Rattle.fr_store.specs.Owning.{IsStoredSo}
use Rattle.fr_store.specs.Reading.{Stands}
use Rattle.fr_store.proofs.AgainLemmas.{still_stands}
use Rattle.fr_store.proofs.CallLemmas.{KeepsOn, done_refused, done_stays, keeps_on, makes_stays, on_done, seen, stays_then}
use Rattle.fr_store.proofs.ChainLemmas.{same_tables}
use Rattle.fr_store.proofs.InsideLemmas.{asked_inside, made_inside}
use Rattle.fr_store.proofs.FrameEditLemmas.{ended_over, ended_alone}
use Rattle.fr_store.proofs.applying.frames.drop_frame.Goals as goal

pub returns : goal.returns
returns g c =
    let v = c.args.key.now.variant in
    let s = c.args.key.now.supplier in
    let f = c.args.key.now.frame in
    let old = seen g.S.Store c.args.tx.now in
    let read = seen g.S.Store c.read_origin.new.tx in
    let mid = seen g.S.Store c.delete.new.tx in
    let new = seen g.S.Store c.insert.new.tx in
    let asked : KeepsOn old read = λ clean inside has. asked_inside old read inside has (c.in_ok-origin.ensures.does clean has).1 in
    let ended : KeepsOn read mid = λ clean inside has. made_inside (without_frame (key_of v s f)) read mid inside (c.in_ok-delete.ensures.does clean inside has) in
    let both : KeepsOn old mid = keeps_on old read mid c.delete.ensures.survives asked ended in
    record {
      same_reference = c.insert.ensures.same_reference ∙ c.delete.ensures.same_reference ∙ c.read_origin.ensures.same_reference;
      does = λ clean inside cluster b x stands is fits counted.
          let clean_mid : HasCleanDisk mid = omega (arith, c.insert.ensures.survives.clean, clean) in
          let clean_read : HasCleanDisk read = omega (arith, c.delete.ensures.survives.clean, clean_mid) in
          let there = value_of (get x.frames (s, f)) fits in
          let same = (c.in_ok-origin.ensures.does clean_read stands.has).1 in
          let stood = still_stands old read cluster b same.0.now_is stands in
          let within = same.0.mode ∙ inside in
          let gone = c.in_ok-delete.ensures.does clean_mid within stood.has in
          on_done (Changes (with_dropped (key_of v s f)) mid new) (Stays mid new) (Stands new cluster (applied b (Rows (in_rows s v (Frame f Drop))))) c.insert.result c.done.result c.done.ensures
          (c.insert.ensures.does clean (gone.shown.mode ∙ within) gone.has) (ended_over v s f read mid new cluster b x there.0 stood is there.1 gone);
      stays = stays_then old mid new c.done.result c.insert.ensures.survives both
          (done_stays mid new c.insert.result c.done.result c.done.ensures (makes_stays (with_dropped (key_of v s f)) mid new c.insert.result c.insert.ensures.does));
      refused = done_refused c.insert.result c.done.result c.done.ensures;
      survives = survives_both old mid new (survives_both old read mid c.read_origin.ensures.survives c.delete.ensures.survives) c.insert.ensures.survives;
    }

pub returns-then-not-origin : goal.returns-then-not-origin
returns-then-not-origin g c =
    let v = c.args.key.now.variant in
    let s = c.args.key.now.supplier in
    let f = c.args.key.now.frame in
    let old = seen g.S.Store c.args.tx.now in
    let read = seen g.S.Store c.read_origin.new.tx in
    let new = seen g.S.Store c.delete.new.tx in
    record {
      same_reference = c.delete.ensures.same_reference ∙ c.read_origin.ensures.same_reference;
      does = λ clean inside cluster b x stands is fits counted.
          let clean_read : HasCleanDisk read = omega (arith, c.delete.ensures.survives.clean, clean) in
          let there = value_of (get x.frames (s, f)) fits in
          let told = c.in_ok-origin.ensures.does clean_read stands.has in
          let same = told.1 in
          let stood = still_stands old read cluster b same.0.now_is stands in
          let alone : c.in_ok-origin.origin.overlay ≡ false = search rules in
          let so = subst (λ t. IsStoredSo v c.in_ok-origin.origin.overlay t) (sym (same_tables old read same)) told.0.overlay in
          ended_alone v s f read new cluster b x there.0 stood is there.1
          (subst (λ over. IsStoredSo v over (tables_of read)) alone so) (c.in_ok-delete.ensures.does clean (same.0.mode ∙ inside) stood.has);
      stays = keeps_on old read new c.delete.ensures.survives
          (λ clean inside has. asked_inside old read inside has (c.in_ok-origin.ensures.does clean has).1)
          (λ clean inside has. made_inside (without_frame (key_of v s f)) read new inside (c.in_ok-delete.ensures.does clean inside has));
      refused = tt;
      survives = survives_both old read new c.read_origin.ensures.survives c.delete.ensures.survives;
    }
