use Rattle.std.proofs.Common.{◌≡◌, ◌≢◌, ◌∙◌, ap, sym, arith, length, List, Some, None, Ok}
use Rattle.std.proofs.lemmas.Result.{err_from_is_err_and}
use Rattle.fr_base.specs.Signals.{SignalData}
use Rattle.fr_base.specs.Layouts.{LayoutData}
use Rattle.fr_base.specs.Bits.{image}
use Rattle.fr_layout.specs.Packing.{packed, first_too_large}
use Rattle.fr_layout.specs.declared.pack_fault.PackFault.TheVariants.{WrongCount, TooLarge, NoMemory}
use Rattle.fr_layout.proofs.ImageLemmas.{packed_count, packed_large, packed_ok, fails_first, fails_want}
use Rattle.fr_layout.proofs.layout.Layout.pack.Goals as goal

pub returns-then-values-len-clause-fault : goal.returns-then-values-len-clause-fault
returns-then-values-len-clause-fault c =
    let size : length c.args.self.now.signals ≡ c.len.result = sym (c.len.ensures ∙ (c.self.inside.signals.ok.0 ∙ ap (λ (l : LayoutData). length l.signals) c.self.view_is)) in
    let other : length c.args.values.now ≢ length c.args.self.now.signals = omega (arith, size, c.if-values-len.true) in
    fails_first (packed c.args.self.now c.args.values.now) NoMemory WrongCount (packed_count c.args.self.now c.args.values.now other)

pub returns-in-Some-clause-fault : goal.returns-in-Some-clause-fault
returns-in-Some-clause-fault c =
    let size : length c.args.self.now.signals ≡ c.len.result = sym (c.len.ensures ∙ (c.self.inside.signals.ok.0 ∙ ap (λ (l : LayoutData). length l.signals) c.self.view_is)) in
    let count : length c.args.values.now ≡ length c.args.self.now.signals = omega (arith, size, c.if-values-len.false) in
    let signals = c.deref.ensures.value ∙ ap (λ (l : LayoutData). l.signals) c.self.view_is in
    let large : first_too_large c.args.self.now.signals c.args.values.now ≡ Some c.in-Some.index = sym (c.in-Some.ensures ∙ ap (λ xs. first_too_large xs c.args.values.now) signals) in
    fails_first (packed c.args.self.now c.args.values.now) NoMemory (TooLarge c.in-Some.index) (packed_large c.args.self.now c.args.values.now c.in-Some.index count large)

pub returns-in_err-image-in-None-clause-fault : goal.returns-in_err-image-in-None-clause-fault
returns-in_err-image-in-None-clause-fault c =
    let size : length c.args.self.now.signals ≡ c.len.result = sym (c.len.ensures ∙ (c.self.inside.signals.ok.0 ∙ ap (λ (l : LayoutData). length l.signals) c.self.view_is)) in
    let count : length c.args.values.now ≡ length c.args.self.now.signals = omega (arith, size, c.if-values-len.false) in
    let signals = c.deref.ensures.value ∙ ap (λ (l : LayoutData). l.signals) c.self.view_is in
    let small : first_too_large c.args.self.now.signals c.args.values.now ≡ None = sym (c.in-None.ensures ∙ ap (λ xs. first_too_large xs c.args.values.now) signals) in
    let p = err_from_is_err_and c.from_residual.result c.from_residual.ensures.1 in
    rw (p.1, p.2)
    (fails_want (packed c.args.self.now c.args.values.now) NoMemory (image c.args.self.now.words c.args.self.now.signals c.args.values.now) (packed_ok c.args.self.now c.args.values.now count small))

pub returns-in_ok-image-in-None-clause-bytes : goal.returns-in_ok-image-in-None-clause-bytes
returns-in_ok-image-in-None-clause-bytes c =
    let size : length c.args.self.now.signals ≡ c.len.result = sym (c.len.ensures ∙ (c.self.inside.signals.ok.0 ∙ ap (λ (l : LayoutData). length l.signals) c.self.view_is)) in
    let count : length c.args.values.now ≡ length c.args.self.now.signals = omega (arith, size, c.if-values-len.false) in
    let signals = c.deref.ensures.value ∙ ap (λ (l : LayoutData). l.signals) c.self.view_is in
    let small : first_too_large c.args.self.now.signals c.args.values.now ≡ None = sym (c.in-None.ensures ∙ ap (λ xs. first_too_large xs c.args.values.now) signals) in
    let bytes : c.in_ok-image-in-None.field-0.items ≡ image c.args.self.now.words c.args.self.now.signals c.args.values.now =
    c.in_ok-image-in-None.ensures
    ∙ (ap (λ (xs : List SignalData). image c.self.inside.words xs c.args.values.now) c.deref-in-None.ensures.value ∙ ap (λ (l : LayoutData). image l.words l.signals c.args.values.now) c.self.view_is) in
    packed_ok c.args.self.now c.args.values.now count small ∙ ap Ok (sym bytes)
