use Rattle.fr_picture.proofs.MarkLemmas.{none_marked, used_of}
use Rattle.fr_picture.proofs.drawing.marks.Marks.of.Goals as goal

pub returns : goal.returns
returns c = λ n.
    used_of c.args.grants.now c.args.cells.now c.args.changes.now n _ _ _ _ (none_marked 1025 n) (c.mark_grants.ensures n) (c.mark_cells.ensures n) (c.mark_changes.ensures n)
