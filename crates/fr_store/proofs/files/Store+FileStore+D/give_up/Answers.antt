use Rattle.std.proofs.Common.{◌∙◌, sym, subst}
use Rattle.std.proofs.Math.Logic.{∥∥₁_map}
use Rattle.sqlite_pool.proofs.StateLemmas.{clean_is, may_leave_is}
use Rattle.sqlite_store.specs.FileStore.{view}
use Rattle.sqlite_trees.proofs.Doubt.{no_doubt}
use Rattle.sqlite_trees.specs.View.{IsClean}
use Rattle.sqlite_wal.specs.Files.{outcomes}
use Rattle.sqlite_wal.specs.Reads.{AreClean}
use Rattle.sqlite.proofs.Theorems.{opens_again}
use Rattle.sqlite.specs.Files.{file_state}
use Rattle.fr_store.specs.Crashes.{LeavesOnly}
use Rattle.fr_store.proofs.files.Store+FileStore+D.give_up.Goals as goal

pub returns : goal.returns
returns g c = record {
  left = λ honest image may k books left.
      let it = c.into_store.result in
      let sure = subst (λ p. AreClean g.D.Disk p.0 p.1) c.close.ensures honest in
      let clean : IsClean (view it) = no_doubt _ (clean_is it.pool ∙ sure) in
      let allowed = may_leave_is it.pool image sure (subst (λ p. outcomes g.D.Disk p.0 p.1 image) c.close.ensures may) in
      let only : LeavesOnly (file_state c.into_connection.result) k books = subst (λ h. LeavesOnly (file_state h) k books) (sym c.into_connection.ensures) left in
      ∥∥₁_map (opens_again it (c.into_store.ensures.numbered clean) (c.into_store.ensures.sound clean) image allowed)
      (λ found. (found.0, found.2, only found.0 (c.into_store.ensures.quiet.outcomes found.0 found.1)));
}
