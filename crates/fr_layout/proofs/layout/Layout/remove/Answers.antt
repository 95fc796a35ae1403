use Rattle.std.proofs.Common.{◌≡◌, ◌∙◌, ◌<◌, ap, sym, subst, arith, refl, length, List, Ok, get_or}
use Rattle.std.specs.Str.{bytes_eq}
use Rattle.std.proofs.lemmas.List.Quantifiers.{position-Some}
use Rattle.std.proofs.lemmas.Slice.Eq.{bytes_eq-Decides}
use Rattle.fr_base.specs.Signals.{SignalData}
use Rattle.fr_base.specs.Layouts.{IsLayout, LayoutData, remove_signal, has_signal}
use Rattle.fr_layout.proofs.LayoutLemmas.{position_none, remove_none, remove_some, sound_without}
use Rattle.fr_layout.proofs.layout.Layout.remove.Goals as goal

pub returns-in-None-clause-err : goal.returns-in-None-clause-err
returns-in-None-clause-err c =
    let signals = c.deref.ensures.value ∙ ap (λ (l : LayoutData). l.signals) c.self.view_is in
    (remove_none c.args.self.now c.args.name (sym (ap (λ xs. has_signal xs c.args.name) signals) ∙ position_none (λ s. bytes_eq s.name c.args.name) c.deref.result.now c.in-None.ensures), refl)

pub invariant_of-self : goal.invariant_of-self
invariant_of-self c =
    let kept : LayoutData = record { words = c.self.inside.words; signals = c.self.inside.signals.items } in
    let found = position-Some (λ s. bytes_eq s.name c.args.name) c.deref.result.now c.in-Some.index c.remove.result (sym c.in-Some.ensures) in
    let within : c.in-Some.index < length c.self.inside.signals.items = omega (arith, found.0, ap length c.deref.ensures.value) in
    subst (λ (xs : List SignalData). IsLayout (record { words = c.self.inside.words; signals = xs })) (sym c.remove.ensures.items)
    (sound_without kept c.in-Some.index c.remove.result c.self.invariant within c.remove.ensures.value)

pub returns-in-Some-clause-ok : goal.returns-in-Some-clause-ok
returns-in-Some-clause-ok c =
    let kept : LayoutData = record { words = c.self.inside.words; signals = c.self.inside.signals.items } in
    let found = position-Some (λ s. bytes_eq s.name c.args.name) c.deref.result.now c.in-Some.index c.remove.result (sym c.in-Some.ensures) in
    let within : c.in-Some.index < length c.self.inside.signals.items = omega (arith, found.0, ap length c.deref.ensures.value) in
    let seen : get_or c.deref.result.now c.in-Some.index c.remove.result ≡ c.remove.result =
    ap (λ (xs : List SignalData). get_or xs c.in-Some.index c.remove.result) c.deref.ensures.value ∙ sym c.remove.ensures.value in
    let named : c.remove.result.name ≡ c.args.name =
    (bytes_eq-Decides c.remove.result.name c.args.name).0 (sym (ap (λ (s : SignalData). bytes_eq s.name c.args.name) seen) ∙ found.1) in
    let Removed : LayoutData → Type 0 = λ l. remove_signal l c.args.name ≡ Ok (record { words = c.self.inside.words; signals = c.remove.new.self.items }) in
    subst Removed c.self.view_is
    (remove_some kept c.args.name c.in-Some.index c.remove.result c.self.invariant within c.remove.ensures.value named
    ∙ ap (λ (xs : List SignalData). Ok (record { words = c.self.inside.words; signals = xs })) (sym c.remove.ensures.items))
