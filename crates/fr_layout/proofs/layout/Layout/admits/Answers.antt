use Rattle.std.proofs.Common.{◌≡◌, ◌∙◌, ◌≤◌, ◌<◌, ap, sym, arith, true, false, length, leb}
use Rattle.std.proofs.lemmas.Bool.Decides.{nat_tests}
use Rattle.fr_base.specs.Layouts.{LayoutData, has_signal, lies_inside}
use Rattle.fr_layout.proofs.LayoutLemmas.{add_exists, add_limit, add_outside, add_last}
use Rattle.fr_layout.proofs.layout.Layout.admits.Goals as goal

pub returns-then-has_signal : goal.returns-then-has_signal
returns-then-has_signal c =
    let found = c.has_signal.ensures ∙ ap (has_signal c.args.self.now.signals) c.name.ensures in
    add_exists c.args.self.now c.args.signal.now (sym found ∙ c.if-has_signal.true)

pub returns-then-len-ge-MAX_SIGNALS : goal.returns-then-len-ge-MAX_SIGNALS
returns-then-len-ge-MAX_SIGNALS c =
    let found = c.has_signal.ensures ∙ ap (has_signal c.args.self.now.signals) c.name.ensures in
    let size : length c.args.self.now.signals ≡ c.len.result = sym (c.len.ensures ∙ (c.self.inside.signals.ok.0 ∙ ap (λ (l : LayoutData). length l.signals) c.self.view_is)) in
    let many : 64 ≤ length c.args.self.now.signals = omega (arith, size, c.if-len-ge-MAX_SIGNALS.true) in
    let full : leb 64 (length c.args.self.now.signals) ≡ true = grind (arith, nat_tests, many) in
    add_limit c.args.self.now c.args.signal.now (sym found ∙ c.if-has_signal.false) full

pub returns-then-not-lies_inside : goal.returns-then-not-lies_inside
returns-then-not-lies_inside c =
    let found = c.has_signal.ensures ∙ ap (has_signal c.args.self.now.signals) c.name.ensures in
    let size : length c.args.self.now.signals ≡ c.len.result = sym (c.len.ensures ∙ (c.self.inside.signals.ok.0 ∙ ap (λ (l : LayoutData). length l.signals) c.self.view_is)) in
    let few : length c.args.self.now.signals < 64 = omega (arith, size, c.if-len-ge-MAX_SIGNALS.false) in
    let room : leb 64 (length c.args.self.now.signals) ≡ false = grind (arith, nat_tests, few) in
    let outside : c.lies_inside.result ≡ false = grind (arith, c.if-not-lies_inside.true) in
    add_outside c.args.self.now c.args.signal.now (sym found ∙ c.if-has_signal.false) room
    (sym (c.lies_inside.ensures ∙ ap (λ (l : LayoutData). lies_inside l.words c.args.signal.now) c.self.view_is) ∙ outside)

pub returns : goal.returns
returns c =
    let found = c.has_signal.ensures ∙ ap (has_signal c.args.self.now.signals) c.name.ensures in
    let size : length c.args.self.now.signals ≡ c.len.result = sym (c.len.ensures ∙ (c.self.inside.signals.ok.0 ∙ ap (λ (l : LayoutData). length l.signals) c.self.view_is)) in
    let few : length c.args.self.now.signals < 64 = omega (arith, size, c.if-len-ge-MAX_SIGNALS.false) in
    let room : leb 64 (length c.args.self.now.signals) ≡ false = grind (arith, nat_tests, few) in
    let inside : c.lies_inside.result ≡ true = grind (arith, c.if-not-lies_inside.false) in
    add_last c.args.self.now c.args.signal.now c.first_taken.result (sym found ∙ c.if-has_signal.false) room
    (sym (c.lies_inside.ensures ∙ ap (λ (l : LayoutData). lies_inside l.words c.args.signal.now) c.self.view_is) ∙ inside) c.first_taken.ensures
