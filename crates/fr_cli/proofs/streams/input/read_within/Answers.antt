use Rattle.std.proofs.Common.{◌++◌, take}
use Rattle.std.proofs.KnownBytes.{Consumes-trans}
use Rattle.fr_cli.proofs.streams.input.read_within.Goals as goal

pub returns-in_err-append-in-Ok-clause-taken : goal.returns-in_err-append-in-Ok-clause-taken
returns-in_err-append-in-Ok-clause-taken g c =
    (c.loop.input.items ++ take c.in-Ok.n c.read.new.buf, Consumes-trans _ _ _ _ _ c.loop.invariant.taken c.in-Ok.ensures.bytes.0)
