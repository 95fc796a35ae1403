use Rattle.std.proofs.Common.{rules}
use Rattle.sqlite.specs.Held.{state}
use Rattle.fr_tables.specs.Changes.{tables_of}
use Rattle.fr_store.proofs.ReadingLemmas.{reads_if}
use Rattle.fr_store.proofs.page.frames.own_frames.Goals as goal

pub returns : goal.returns
returns g c = record {
  told = λ clean was. let old = state g.S.Store c.args.conn.now in
      let rows = c.in_ok-rows.ensures.told clean was in
      reads_if _ _ old (state g.S.Store c.frame_rows.new.conn) rows.1 (λ found told. told c.args.variant.now c.args.supplier.now (tables_of old) rows.0)
      c.frames_of.result _ c.ok_or.result c.ok_or.ensures.value c.frames_of.ensures;
  refused = search rules;
  spares = search rules;
}
