use Rattle.std.proofs.Common.{◌<◌, ◌^◌, ◌≡◌, ◌∙◌, [], ap, arith, false, length, rules, sym, true}
use Rattle.fr_guide.specs.Faults.{are_none}
use Rattle.fr_guide.proofs.RequestFileLaws.{line_fine, line_told, lines-most, nothing_left}
use Rattle.fr_guide.proofs.request_file.request_file_faults.Goals as goal
use Rattle.fr_guide.proofs.request_file.request_file_faults.Goals.{then-not-is_empty+in_ok-push, else-not-is_empty}

pub overflow_add-line : goal.overflow_add-line
overflow_add-line c =
    let more = ap length c.in-Some.ensures.first.line in
    let most = lines-most c.args.bytes.now in
    let short : length c.args.bytes.now < 2 ^ 63 = search rules in
    omega (arith, more, most, short, c.loop-text.invariant.count)

pub loop-text-preserved-then-if-drop : goal.loop-text-preserved-then-if-drop
loop-text-preserved-then-if-drop c = elim c.if-not-is_empty.branch [
  | then-not-is_empty+in_ok-push w ↦
      let count = c.loop-text.invariant.count in
      let more = ap length c.in-Some.ensures.first.line in
      let bad : are_none c.in_ok-faults.faults.items ≡ false = search rules in
      let grown = ap (λ t. t.items) w.told-is ∙ w.in_ok-push.ensures.items in
      let so = line_told _ _ _ _ _ _ _ grown c.in-Some.ensures.first.line (sym c.in_ok-faults.ensures ∙ bad) bad c.loop-text.invariant.told c.loop-text.invariant.some in
      record { told = so.0; some = so.1; count = omega (arith, count, more) }
  | else-not-is_empty w ↦
      let count = c.loop-text.invariant.count in
      let more = ap length c.in-Some.ensures.first.line in
      let fine : are_none c.in_ok-faults.faults.items ≡ true = search rules in
      let same = ap (λ t. t.items) w.told-is in
      let so = line_fine _ _ _ _ _ _ _ same c.in-Some.ensures.first.line (sym c.in_ok-faults.ensures ∙ fine) c.loop-text.invariant.told c.loop-text.invariant.some in
      record { told = so.0; some = so.1; count = omega (arith, count, more) }
]

pub loop-text-preserved : goal.loop-text-preserved
loop-text-preserved c = elim c.if-not-is_empty.branch [
  | then-not-is_empty+in_ok-push w ↦
      let count = c.loop-text.invariant.count in
      let more = ap length c.in-Some.ensures.first.line in
      let bad : are_none c.in_ok-faults.faults.items ≡ false = search rules in
      let grown = ap (λ t. t.items) w.told-is ∙ w.in_ok-push.ensures.items in
      let so = line_told _ _ _ _ _ _ _ grown c.in-Some.ensures.first.line (sym c.in_ok-faults.ensures ∙ bad) bad c.loop-text.invariant.told c.loop-text.invariant.some in
      record { told = so.0; some = so.1; count = omega (arith, count, more) }
  | else-not-is_empty w ↦
      let count = c.loop-text.invariant.count in
      let more = ap length c.in-Some.ensures.first.line in
      let fine : are_none c.in_ok-faults.faults.items ≡ true = search rules in
      let same = ap (λ t. t.items) w.told-is in
      let so = line_fine _ _ _ _ _ _ _ same c.in-Some.ensures.first.line (sym c.in_ok-faults.ensures ∙ fine) c.loop-text.invariant.told c.loop-text.invariant.some in
      record { told = so.0; some = so.1; count = omega (arith, count, more) }
]

pub returns : goal.returns
returns c =
    let none : c.loop-text.rest.now ≡ [] = search rules in
    (nothing_left _ _ _ _ none c.loop-text.invariant.told, c.loop-text.invariant.some)
