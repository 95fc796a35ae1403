use Rattle.std.proofs.Common.{subst, sym}
use Rattle.fr_cli.proofs.TextLaws.{front_read, unread}
use Rattle.fr_cli.proofs.files.file_contents.read_front.Goals as goal

pub returns : goal.returns
returns g c = record {
  front = front_read _ _ c.read_whole.result c.args.bytes c.args.path.now _ _ c.take.result
      (subst (λ r. g.F.TextFiles.opens c.args.files.now c.args.path.now r c.open.new.files) (sym c.take.ensures.inner) c.in_ok-reader.ensures.ok)
      c.take.ensures.limit c.read_whole.ensures.whole c.read_whole.ensures.bound;
  fault = unread g.F.TextFiles g.F.Reader.Read c.read_whole.result c.args.path.now _ _ c.in_ok-reader.reader c.in_ok-reader.ensures.ok c.read_whole.ensures.fault;
}
