use Rattle.std.proofs.Common.{ℕ, List, subst, sym}
use Rattle.clap.specs.Walk.{rows_of}
use Rattle.clap.specs.Words.{found_of}
use Rattle.fr_cli.specs.Words.{HasNumber, max_number}
use Rattle.fr_cli.proofs.words.WordsQueryReaderFieldNameFieldNameRefStrUnit.read_number.Goals as goal

pub returns-in-Some : goal.returns-in-Some
returns-in-Some c = subst (λ (name : List ℕ). HasNumber name 0 max_number (rows_of (found_of c.args.self.now.found.now)) c.in-Some.read) c.argument_name.ensures c.in-Some.ensures

pub returns-in-None : goal.returns-in-None
returns-in-None c = λ number has.
    c.in-None.ensures number (subst (λ (name : List ℕ). HasNumber name 0 max_number (rows_of (found_of c.args.self.now.found.now)) number) (sym c.argument_name.ensures) has)
