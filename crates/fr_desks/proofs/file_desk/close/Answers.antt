use Rattle.fr_office.specs.Crashed.{IsNear}
use Rattle.fr_desks.proofs.FileDeskLemmas.{one_of}
use Rattle.fr_desks.proofs.file_desk.close.Goals as goal

pub returns-in-Err-clause-book : goal.returns-in-Err-clause-book
returns-in-Err-clause-book g c k b stood db may =
    let kept = stood.1 in
    one_of k (IsNear k b) kept.books db kept.each (c.in-Err.ensures.left k kept.books kept.left db may)
