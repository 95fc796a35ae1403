use Rattle.fr_cli.proofs.WordLaws.{lacks_memory_or_object}
use Rattle.fr_cli.proofs.words.read_words.Goals as goal

pub returns-in-Err-clause-fault : goal.returns-in-Err-clause-fault
returns-in-Err-clause-fault c = (_, c.in-Err.ensures.fault, c.word_fault.ensures)

pub returns-in-Err-clause-finds : goal.returns-in-Err-clause-finds
returns-in-Err-clause-finds c = lacks_memory_or_object _ _ _ c.in-Err.ensures.fault c.word_fault.ensures
