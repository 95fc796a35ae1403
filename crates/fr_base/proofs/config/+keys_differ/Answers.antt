use Rattle.fr_base.proofs.JoiningLemmas.{keys_differ-split}
use Rattle.fr_base.proofs.config.+keys_differ.Goals as goal

pub returns-then-not-is_key_of : goal.returns-then-not-is_key_of
returns-then-not-is_key_of t c =
    let split = keys_differ-split c.args.key c.args.suppliers.now c.next-item.result c.next-item.is c.in-len1-up.len_at_least in
    rw (split, ← c.is_key_of.ensures, c.if-not-is_key_of.true, c.keys_differ.ensures)

pub returns-else-not-is_key_of : goal.returns-else-not-is_key_of
returns-else-not-is_key_of t c =
    let split = keys_differ-split c.args.key c.args.suppliers.now c.next-item.result c.next-item.is c.in-len1-up.len_at_least in
    rw (split, ← c.is_key_of.ensures, c.if-not-is_key_of.false)
