use Rattle.std.proofs.Common.{rules, sym}
use Rattle.fr_guide.proofs.RequestFileLaws.{key_read, no_key}
use Rattle.fr_guide.proofs.request_file.is_key.Goals as goal

pub returns-in-Ok : goal.returns-in-Ok
returns-in-Ok c = key_read _ _ _ _ c.is_some.ensures c.read.ensures (search rules)

pub returns-in-Err : goal.returns-in-Err
returns-in-Err c = sym (no_key c.args.bytes.now (search rules))
