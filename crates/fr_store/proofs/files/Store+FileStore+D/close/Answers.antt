use Rattle.sqlite.specs.Files.{file_state, image_of}
use Rattle.fr_store.proofs.AgainLemmas.{holds_book, holds_register}
use Rattle.fr_store.proofs.files.Store+FileStore+D.close.Goals as goal

pub returns-in-Some-clause-clean : goal.returns-in-Some-clause-clean
returns-in-Some-clause-clean g c clean =
    let closed = rw c.into_connection.ensures at (c.in-Some.ensures.closed clean) in
    (closed.clean, closed.is_open)

pub returns-in-Some-clause-held : goal.returns-in-Some-clause-held
returns-in-Some-clause-held g c clean is =
    let closed = rw c.into_connection.ensures at (c.in-Some.ensures.closed clean) in
    holds_register (image_of g.D.Disk c.in-Some.files) (file_state c.args.self.conn).committed c.args.self.config is closed.held

pub returns-in-Some-clause-book : goal.returns-in-Some-clause-book
returns-in-Some-clause-book g c clean k b is =
    let closed = rw c.into_connection.ensures at (c.in-Some.ensures.closed clean) in
    holds_book (image_of g.D.Disk c.in-Some.files) (file_state c.args.self.conn).committed k b is closed.held

pub returns-in-Some-clause-survives : goal.returns-in-Some-clause-survives
returns-in-Some-clause-survives g c clean image left k b is =
    let closed = rw c.into_connection.ensures at (c.in-Some.ensures.closed clean) in
    holds_book image (file_state c.args.self.conn).committed k b is (closed.left image left)
