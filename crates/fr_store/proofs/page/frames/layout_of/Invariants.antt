use Rattle.std.proofs.Common.{◌≡◌, map, take, IsPermutation}
use Rattle.fr_store.specs.Paging.{signal_shown}
use Rattle.fr_store.proofs.page.frames.layout_of.Given as goal

abbrev pub invariant-loop-row : goal.invariant-loop-row
invariant-loop-row l = (l.layout.words ≡ l.payload_words) × IsPermutation (map signal_shown (take l.row-index l.rows)) l.layout.signals
