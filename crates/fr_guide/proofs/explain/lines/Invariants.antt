use Rattle.std.proofs.Common.{◌≡◌, take}
use Rattle.fr_guide.proofs.explain.lines.Given as goal
use Rattle.fr_guide.specs.Topics.{lines_of}

-- the lines of the topics up to here
abbrev pub invariant-loop-topic : goal.invariant-loop-topic
invariant-loop-topic l = l.text.items ≡ lines_of (take l.topic-index l.topics)
