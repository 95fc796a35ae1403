use Rattle.std.proofs.Common.{◌≡◌, length, take}
use Rattle.fr_office.specs.Crashed.{WereAsked}
use Rattle.fr_office.proofs.running.run.Given as goal

-- the requests so far were answered so
abbrev pub invariant-loop-ask : goal.invariant-loop-ask
invariant-loop-ask g l =
    let it = g.R.Records in
    record {
      falls : it.clean l.records → it.clean l.fn.records;
      count : length l.answers.items ≡ l.ask-index;
      asked : it.clean l.records → WereAsked it.stands it.leaves l.fn.records (take l.ask-index l.asks) l.answers.items l.records;
    }
