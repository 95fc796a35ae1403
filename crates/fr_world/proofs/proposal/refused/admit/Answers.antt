use Rattle.std.proofs.Common.{◌≡◌, ◌∙◌, false, true, option_map, sym, ap, rules, tests}
use Rattle.fr_base.specs.RefusedWishes.{has_another_node, is_full}
use Rattle.fr_world.specs.Counts.{counted_of}
use Rattle.fr_world.specs.Pages.{own_rows_of}
use Rattle.fr_world.proofs.RefusedLaws.{no-node, node-differs, not-granted, by-limit, by-none, full-at}
use Rattle.fr_world.proofs.proposal.refused.admit.Goals as goal

pub returns-then-not-has_node : goal.returns-then-not-has_node
returns-then-not-has_node c counted few at =
    let none : c.has_node.result ≡ false = search (rules, tests) in
    no-node (own_rows_of c.args.page.now) counted c.args.wish.now (sym c.has_node.ensures ∙ none)

pub returns-then-is_of_another : goal.returns-then-is_of_another
returns-then-is_of_another c counted few at =
    let there : c.has_node.result ≡ true = search (rules, tests) in
    node-differs (own_rows_of c.args.page.now) counted c.args.wish.now (sym c.has_node.ensures ∙ there)
    (ap (has_another_node c.args.wish.now.node) at ∙ sym c.is_of_another.ensures ∙ c.if-is_of_another.true)

pub returns-then-not-holds_slot : goal.returns-then-not-holds_slot
returns-then-not-holds_slot c counted few at =
    let there : c.has_node.result ≡ true = search (rules, tests) in
    let none : c.holds_slot.result ≡ false = search (rules, tests) in
    not-granted (own_rows_of c.args.page.now) counted c.args.wish.now (sym c.has_node.ensures ∙ there)
    (ap (has_another_node c.args.wish.now.node) at ∙ sym c.is_of_another.ensures ∙ c.if-is_of_another.false) (sym c.holds_slot.ensures ∙ none)

pub returns-in-Some : goal.returns-in-Some
returns-in-Some c counted few at =
    let there : c.has_node.result ≡ true = search (rules, tests) in
    let held : c.holds_slot.result ≡ true = search (rules, tests) in (
      by-none (own_rows_of c.args.page.now) counted c.args.wish.now (sym c.has_node.ensures ∙ there)
          (ap (has_another_node c.args.wish.now.node) at ∙ sym c.is_of_another.ensures ∙ c.if-is_of_another.false) (sym c.holds_slot.ensures ∙ held)
          (ap (is_full counted) at ∙ full-at counted c.args.frames (option_map counted_of c.args.there.now) few ∙ c.in-Some.ensures.0),
      c.in-Some.ensures.1,
      c.in-Some.ensures.2,
    )

pub returns-in-None : goal.returns-in-None
returns-in-None c counted few at =
    let there : c.has_node.result ≡ true = search (rules, tests) in
    let held : c.holds_slot.result ≡ true = search (rules, tests) in
    by-limit (own_rows_of c.args.page.now) counted c.args.wish.now (sym c.has_node.ensures ∙ there)
    (ap (has_another_node c.args.wish.now.node) at ∙ sym c.is_of_another.ensures ∙ c.if-is_of_another.false) (sym c.holds_slot.ensures ∙ held)
    (ap (is_full counted) at ∙ full-at counted c.args.frames (option_map counted_of c.args.there.now) few ∙ c.in-None.ensures)
