use Rattle.std.proofs.Common.{◌≡◌, ◌≢◌, ◌∙◌, ◌*◌, ap, sym, arith, length, map, List, Ok}
use Rattle.std.proofs.lemmas.Result.{err_from_is_err_and}
use Rattle.fr_base.specs.Signals.{SignalData}
use Rattle.fr_base.specs.Layouts.{LayoutData}
use Rattle.fr_base.specs.Bits.{value_in}
use Rattle.fr_layout.specs.Packing.{unpacked}
use Rattle.fr_layout.specs.declared.pack_fault.PackFault.TheVariants.{WrongLength, NoMemory}
use Rattle.fr_layout.proofs.ImageLemmas.{unpacked_length, unpacked_ok, fails_first, fails_want}
use Rattle.fr_layout.proofs.layout.Layout.unpack.Goals as goal

pub returns-then-bytes-self-clause-fault : goal.returns-then-bytes-self-clause-fault
returns-then-bytes-self-clause-fault c =
    let words = ap (λ (l : LayoutData). l.words) c.self.view_is in
    let other : length c.args.bytes.now ≢ 2 * c.args.self.now.words = omega (arith, words, c.if-bytes-self.true) in
    fails_first (unpacked c.args.self.now c.args.bytes.now) NoMemory WrongLength (unpacked_length c.args.self.now c.args.bytes.now other)

pub returns-in_err-values_in-clause-fault : goal.returns-in_err-values_in-clause-fault
returns-in_err-values_in-clause-fault c =
    let words = ap (λ (l : LayoutData). l.words) c.self.view_is in
    let size : length c.args.bytes.now ≡ 2 * c.args.self.now.words = omega (arith, words, c.if-bytes-self.false) in
    let p = err_from_is_err_and c.from_residual.result c.from_residual.ensures.1 in
    rw (p.1, p.2)
    (fails_want (unpacked c.args.self.now c.args.bytes.now) NoMemory (map (value_in c.args.bytes.now) c.args.self.now.signals) (unpacked_ok c.args.self.now c.args.bytes.now size))

pub returns-clause-values : goal.returns-clause-values
returns-clause-values c =
    let words = ap (λ (l : LayoutData). l.words) c.self.view_is in
    let size : length c.args.bytes.now ≡ 2 * c.args.self.now.words = omega (arith, words, c.if-bytes-self.false) in
    let signals = c.deref.ensures.value ∙ ap (λ (l : LayoutData). l.signals) c.self.view_is in
    let values : c.in_ok-values_in.field-0.items ≡ map (value_in c.args.bytes.now) c.args.self.now.signals =
    c.in_ok-values_in.ensures ∙ ap (λ (xs : List SignalData). map (value_in c.args.bytes.now) xs) signals in
    unpacked_ok c.args.self.now c.args.bytes.now size ∙ ap Ok (sym values)
