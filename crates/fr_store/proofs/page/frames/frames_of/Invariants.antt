use Rattle.std.proofs.Common.{take}
use Rattle.fr_base.specs.declared.name.Name.{Name}
use Rattle.fr_tables.specs.Tables.{Tables}
use Rattle.fr_store.specs.Paging.{AreFrameRows}
use Rattle.fr_store.proofs.OwnFrameLemmas.{AreLoaded}
use Rattle.fr_store.proofs.page.frames.frames_of.Given as goal

abbrev pub invariant-loop-row : goal.invariant-loop-row
invariant-loop-row l = (v s : Name) (t : Tables) → AreFrameRows v s t l.rows → AreLoaded l.params t v s (take l.row-index l.row-items) l.frames.entries
