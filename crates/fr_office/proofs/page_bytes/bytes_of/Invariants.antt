use Rattle.std.proofs.Common.{◌≡◌, ◌+◌, ◌≤◌, min, sum_by}
use Rattle.fr_office.specs.KeptPages.{bytes_of, frame_bytes}
use Rattle.fr_office.specs.declared.page_bytes.TheConstants.{MAX_BYTES}
use Rattle.fr_world.specs.Pages.{frame_data}
use Rattle.fr_office.proofs.page_bytes.bytes_of.Given as goal

-- the bytes so far, with those of the frames that are left
abbrev pub invariant-loop-frame : goal.invariant-loop-frame
invariant-loop-frame l = record {
  reckoned : min (l.bytes + sum_by (λ f. frame_bytes (frame_data f)) l.frame-iterator) MAX_BYTES ≡ bytes_of l.page;
  bound : l.bytes ≤ MAX_BYTES;
}
