use Rattle.std.proofs.Common.{arith, ◌∙◌, subst}
use Rattle.sqlite.specs.State.{HasCleanDisk}
use Rattle.fr_tables.specs.Changes.{AreListed, tables_of}
use Rattle.fr_tables.specs.Statements.{frames_cmp, is_frame_of, shows_frame}
use Rattle.fr_tables.specs.Tables.{Tables}
use Rattle.fr_tables.proofs.FillLemmas.{survives_both}
use Rattle.fr_store.proofs.CallLemmas.{refused_or, seen}
use Rattle.fr_store.proofs.ChainLemmas.{has_still, same_tables, unchanged_then}
use Rattle.fr_store.proofs.ReadingLemmas.{reads_if}
use Rattle.fr_store.proofs.ShownLemmas.{names_laid}
use Rattle.fr_store.proofs.applying.shown.lay_over.Goals as goal

pub returns : goal.returns
returns g c =
    let v = c.args.variant.now in
    let s = c.args.supplier.now in
    let old = seen g.S.Store c.args.tx.now in
    let mid = seen g.S.Store c.of_supplier_inside.new.tx in
    let new = seen g.S.Store c.of_supplier_inside-2.new.tx in
    record {
      same_reference = c.of_supplier_inside-2.ensures.same_reference ∙ c.of_supplier_inside.ensures.same_reference;
      does = λ clean was.
          let clean_mid : HasCleanDisk mid = omega (arith, c.of_supplier_inside-2.ensures.survives.clean, clean) in
          let dropped = c.in_ok-dropped.ensures.does clean_mid was in
          let own = c.in_ok-own.ensures.does clean (has_still old mid dropped.1 was) in
          let listed = subst (λ (t : Tables). AreListed shows_frame (is_frame_of v s) frames_cmp t.frames c.in_ok-own.own.items) (same_tables old mid dropped.1) own.0 in
          reads_if _ _ old new (unchanged_then old mid new dropped.1 own.1)
          (λ all joined. names_laid (tables_of old) v s c.args.inherited.keys all.keys c.in_ok-dropped.dropped.items c.in_ok-own.own.items dropped.0 listed (rw (c.as_slice.ensures.value, c.as_slice-2.ensures.value) at joined))
          c.join.result _ c.ok_or.result c.ok_or.ensures.value c.join.ensures;
      refused = refused_or c.join.result c.ok_or.result c.ok_or.ensures.value;
      survives = survives_both old mid new c.of_supplier_inside.ensures.survives c.of_supplier_inside-2.ensures.survives;
    }
