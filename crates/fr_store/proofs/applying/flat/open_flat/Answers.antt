use Rattle.std.proofs.Common.{◌≡◌, ◌∙◌, ap, sym, arith, Some, None, IsTrue}
use Rattle.sqlite.specs.State.{HasCleanDisk}
use Rattle.fr_base.specs.Tables.{empty}
use Rattle.fr_base.specs.Keys.{owned}
use Rattle.fr_base.specs.declared.name.Name.{Name}
use Rattle.fr_base.proofs.TableLaws.{get-empty}
use Rattle.fr_world.specs.BookEdits.{applied}
use Rattle.fr_world.specs.declared.edit.Edit.TheVariants.{NewFlat}
use Rattle.fr_tables.proofs.FillLemmas.{survives_both}
use Rattle.fr_store.specs.Flat.{HasMore, Reaches, filled, has_name}
use Rattle.fr_store.specs.Reading.{Stands}
use Rattle.fr_store.proofs.AgainLemmas.{still_stands}
use Rattle.fr_store.proofs.CallLemmas.{KeepsOn, keeps_on, seen, stays_then}
use Rattle.fr_store.proofs.FlatLemmas.{all_filled, may_open}
use Rattle.fr_store.proofs.FlatSteps.{ok_map}
use Rattle.fr_store.proofs.InsideLemmas.{asked_inside}
use Rattle.fr_store.proofs.applying.flat.open_flat.Goals as goal

pub returns : goal.returns
returns g c =
    let v = c.args.variant.now in
    let from = c.args.from.now in
    let names = c.in_ok-suppliers.suppliers.items in
    let old = seen g.S.Store c.args.tx.now in
    let first = seen g.S.Store c.begin.new.tx in
    let mid = seen g.S.Store c.suppliers.new.tx in
    let new = seen g.S.Store c.copy_all.new.tx in
    let begun : KeepsOn old first = c.in_ok-begin.ensures.stays in
    let asked : KeepsOn first mid = λ clean inside has. asked_inside first mid inside has (c.in_ok-suppliers.ensures.does clean has).1 in
    record {
      same_reference = c.copy_all.ensures.same_reference ∙ c.suppliers.ensures.same_reference ∙ c.begin.ensures.same_reference;
      does = λ clean inside cluster b stands fits.
          let clean_mid : HasCleanDisk mid = omega (arith, c.copy_all.ensures.survives.clean, clean) in
          let clean_first : HasCleanDisk first = omega (arith, c.suppliers.ensures.survives.clean, clean_mid) in
          let x = fits.1.0 in
          let may = may_open b v from fits.0 fits.1 in
          let opened : Stands first cluster (filled b v x empty) = c.in_ok-begin.ensures.does clean_first inside cluster b x may stands in
          let went = begun clean_first inside stands.has in
          let read = c.in_ok-suppliers.ensures.does clean_mid opened.has in
          let known = read.0 cluster.params.cycles (filled b v x empty) opened.for.rows in
          let there = asked clean_mid went.1.inside opened.has in
          ok_map (HasMore b v x empty (λ more. (t n : Name) → IsTrue (has_name t c.as_slice.result.now) → Reaches x.frames more (t, n)) new cluster) (Stands new cluster (applied b (NewFlat v from))) c.copy_all.result
          (λ more. all_filled new cluster b v from x may fits.1.3 more.frames more.within (λ t n is. more.reached t n (ap (has_name t) c.as_slice.ensures.value ∙ known t is)) more.stands)
          (c.copy_all.ensures.does clean there.1.inside cluster b x empty may tt (λ k f at. let no : None ≡ Some f = sym (get-empty owned k) ∙ at in absurd cc)
          (still_stands first mid cluster (filled b v x empty) read.1.0.now_is opened));
      stays = stays_then old mid new c.copy_all.result c.copy_all.ensures.survives (keeps_on old first mid c.suppliers.ensures.survives begun asked) c.copy_all.ensures.stays;
      refused = c.copy_all.ensures.refused;
      survives = survives_both old first new c.begin.ensures.survives (survives_both first mid new c.suppliers.ensures.survives c.copy_all.ensures.survives);
    }
