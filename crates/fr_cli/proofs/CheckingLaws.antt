-- How many requests bytes have.
use Rattle.std.proofs.Common.{ℕ, ◌+◌, ◌≤◌, List, length, arith}
use Rattle.std.proofs.lemmas.List.Sums.{count_by-le-length, length-filter}
use Rattle.std.specs.Prelude.{nat_lt}
use Rattle.std.specs.Str.Lines.{lines}
use Rattle.fr_guide.proofs.RequestFileLaws.{lines-most}
use Rattle.fr_text.specs.Script.{request_lines}

pub requests-most : (bytes : List ℕ) → length (request_lines bytes) ≤ length bytes + 1
unfolding request_lines
requests-most bytes =
    let kept = length-filter (λ line. nat_lt 0 (length line)) (lines bytes) in
    let within = count_by-le-length (λ line. nat_lt 0 (length line)) (lines bytes) in
    let most = lines-most bytes in
    omega (arith, kept, within, most)
