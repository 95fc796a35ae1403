use Rattle.std.proofs.Common.{◌≡◌, ◌+◌, sum_by}
use Rattle.std.specs.Map.{values_of}
use Rattle.fr_office.specs.KeptPages.{bytes_of}
use Rattle.fr_office.proofs.shelf.total.Given as goal

-- the bytes so far, with those of the pages that are left
abbrev pub invariant-loop-page : goal.invariant-loop-page
invariant-loop-page l = l.bytes + sum_by bytes_of l.page-iterator ≡ sum_by bytes_of (values_of l.pages.entries)
