use Rattle.std.proofs.lemmas.Bool.Decides.{nat_tests}
use Rattle.std.proofs.Common.{IsTrue, ◌≡◌, ◌∙◌, ap, sym, subst, arith, not, is_ok, List, Ok}
use Rattle.fr_base.specs.Signals.{SignalData, is_signal_length}
use Rattle.fr_base.specs.Layouts.{IsLayout, LayoutData, add_signal, with_signal}
use Rattle.fr_layout.proofs.LayoutLemmas.{Admitted, admitted, inserted, sound_with}
use Rattle.fr_layout.proofs.layout.Layout.add.Goals as goal

pub invariant_of-self-2 : goal.invariant_of-self-2
invariant_of-self-2 c =
    let kept : LayoutData = record { words = c.self.inside.words; signals = c.self.inside.signals.items } in
    let passed : Admitted kept c.args.signal = subst (λ l. Admitted l c.args.signal) (sym c.self.view_is) (admitted c.args.self.now c.args.signal c.in_ok-admits.ensures) in
    let items : c.insert.new.self.items ≡ with_signal c.args.signal c.self.inside.signals.items =
    inserted c.self.inside.signals.items c.deref.result.now c.insert.new.self.items c.args.signal c.start.result c.len.result c.unwrap_or-index.result c.first_after.result (is_ok c.insert.result)
    c.deref.ensures.value c.start.ensures c.first_after.ensures (c.len.ensures ∙ c.self.inside.signals.ok.0) c.unwrap_or-index.ensures c.insert.ensures.items (c.is_err.ensures.negation ∙ ap not c.if-is_err.false) in
    let long : IsTrue (is_signal_length c.args.signal.length) = grind (arith, nat_tests, c.length-length.ensures.value, c.length-length.ensures.at_least, c.length-length.ensures.at_most) in
    subst (λ (xs : List SignalData). IsLayout (record { words = c.self.inside.words; signals = xs })) (sym items) (sound_with kept c.args.signal c.self.invariant passed long)

pub returns-clause-ok : goal.returns-clause-ok
returns-clause-ok c =
    let kept : LayoutData = record { words = c.self.inside.words; signals = c.self.inside.signals.items } in
    let passed : Admitted kept c.args.signal = subst (λ l. Admitted l c.args.signal) (sym c.self.view_is) (admitted c.args.self.now c.args.signal c.in_ok-admits.ensures) in
    let items : c.insert.new.self.items ≡ with_signal c.args.signal c.self.inside.signals.items =
    inserted c.self.inside.signals.items c.deref.result.now c.insert.new.self.items c.args.signal c.start.result c.len.result c.unwrap_or-index.result c.first_after.result (is_ok c.insert.result)
    c.deref.ensures.value c.start.ensures c.first_after.ensures (c.len.ensures ∙ c.self.inside.signals.ok.0) c.unwrap_or-index.ensures c.insert.ensures.items (c.is_err.ensures.negation ∙ ap not c.if-is_err.false) in
    let Added : LayoutData → Type 0 = λ l. add_signal l c.args.signal ≡ Ok (record { words = c.self.inside.words; signals = c.insert.new.self.items }) in
    subst Added c.self.view_is (passed.done ∙ ap (λ (xs : List SignalData). Ok (record { words = c.self.inside.words; signals = xs })) (sym items))
