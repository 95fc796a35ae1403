use Rattle.fr_cli.proofs.TextLaws.{unread, whole_read}
use Rattle.fr_cli.proofs.files.file_contents.read_file.Goals as goal

pub returns : goal.returns
returns g c = record {
  whole = whole_read _ _ c.read_whole.result c.args.bytes c.args.path.now _ _ c.in_ok-reader.reader c.in_ok-reader.ensures.ok
      c.read_whole.ensures.whole c.read_whole.ensures.bound;
  fault = unread g.F.TextFiles g.F.Reader.Read c.read_whole.result c.args.path.now _ _ c.in_ok-reader.reader c.in_ok-reader.ensures.ok c.read_whole.ensures.fault;
}
