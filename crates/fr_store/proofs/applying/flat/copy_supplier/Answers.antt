use Rattle.std.proofs.Common.{◌∙◌, sym, arith, IsTrue, All}
use Rattle.sqlite.specs.State.{HasCleanDisk}
use Rattle.fr_base.specs.Tables.{contains, get}
use Rattle.fr_base.specs.declared.name.Name.{Name}
use Rattle.fr_base.proofs.SoundTables.{some_there}
use Rattle.fr_tables.proofs.FillLemmas.{survives_both}
use Rattle.fr_store.specs.Flat.{HasMore, Reaches, filled}
use Rattle.fr_store.proofs.AgainLemmas.{still_stands}
use Rattle.fr_store.proofs.CallLemmas.{KeepsOn, seen, stays_then}
use Rattle.fr_store.proofs.FlatLemmas.{each_named, from_filled, of_named}
use Rattle.fr_store.proofs.FlatSteps.{more_of, ok_map}
use Rattle.fr_store.proofs.InsideLemmas.{asked_inside}
use Rattle.fr_store.proofs.applying.flat.copy_supplier.Goals as goal

pub returns : goal.returns
returns g c =
    let v = c.args.variant.now in
    let from = c.args.from.now in
    let s = c.args.supplier.now in
    let names = c.in_ok-names.names.keys in
    let old = seen g.S.Store c.args.tx.now in
    let mid = seen g.S.Store c.shown_names.new.tx in
    let new = seen g.S.Store c.copy_frames.new.tx in
    let asked : KeepsOn old mid = λ clean inside has. asked_inside old mid inside has (c.in_ok-names.ensures.does clean has).1 in
    record {
      same_reference = c.copy_frames.ensures.same_reference ∙ c.shown_names.ensures.same_reference;
      does = λ clean inside cluster b x part may given within stands.
          let clean_mid : HasCleanDisk mid = omega (arith, c.copy_frames.ensures.survives.clean, clean) in
          let read = c.in_ok-names.ensures.does clean_mid stands.has in
          let went = asked clean_mid inside stands.has in
          let told = read.0 cluster.params.cycles (filled b v x part) stands.for.rows x (from_filled b v from x may part) in
          let shown : All (λ n. IsTrue (contains x.frames (s, n))) names = each_named (λ n. IsTrue (contains x.frames (s, n))) names (λ n has. sym (told n) ∙ has) in
          ok_map (HasMore b v x part (λ more. All (λ n. Reaches x.frames more (s, n)) names) new cluster) (HasMore b v x part (λ more. (n : Name) → Reaches x.frames more (s, n)) new cluster) c.copy_frames.result
          (more_of b v x part (λ more. All (λ n. Reaches x.frames more (s, n)) names) (λ more. (n : Name) → Reaches x.frames more (s, n)) new cluster
          (λ more all n f there. of_named (λ n. Reaches x.frames more (s, n)) names n (told n ∙ some_there (get x.frames (s, n)) f there) all f there))
          (c.copy_frames.ensures.does clean went.1.inside cluster b x part may shown within (still_stands old mid cluster (filled b v x part) read.1.0.now_is stands));
      stays = stays_then old mid new c.copy_frames.result c.copy_frames.ensures.survives asked c.copy_frames.ensures.stays;
      refused = c.copy_frames.ensures.refused;
      survives = survives_both old mid new c.shown_names.ensures.survives c.copy_frames.ensures.survives;
    }
