use Rattle.std.proofs.Common.{◌≡◌, ◌++◌, replicate}
use Rattle.fr_text.specs.Words.{Extends}
use Rattle.fr_text.proofs.words.push_spaces.Given as goal

-- the spaces up to here
abbrev pub invariant-loop : goal.invariant-loop
invariant-loop l = record {
  text : l.out.items ≡ l.initial.out.items ++ replicate l.counter 32;
  extends : Extends l.fn.out.items l.out.items;
}
