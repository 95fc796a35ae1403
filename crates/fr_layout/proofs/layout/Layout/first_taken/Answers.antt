use Rattle.std.proofs.Common.{◌∙◌, ◌<◌, ◌*◌, ap, arith, sym, subst, Err, None, Some}
use Rattle.fr_base.specs.Layouts.{LayoutData, user_of}
use Rattle.fr_base.specs.declared.refusal.Refusal.TheVariants.{BitTaken}
use Rattle.fr_layout.specs.Least.{IsLeast}
use Rattle.fr_layout.specs.Used.{IsTaken}
use Rattle.fr_layout.proofs.LayoutLemmas.{bit_inside, has_user, taken_none, taken_some}
use Rattle.fr_layout.proofs.layout.Layout.first_taken.Goals as goal

pub returns-in-None : goal.returns-in-None
returns-in-None c =
    let signals = c.deref.ensures.value ∙ ap (λ (l : LayoutData). l.signals) c.self.view_is in
    taken_none c.args.self.now c.args.signal (subst (λ xs. IsLeast (IsTaken c.args.signal xs) None) signals c.in-None.ensures)

pub overflow_cast-result : goal.overflow_cast-result
overflow_cast-result c =
    let words = ap (λ (l : LayoutData). l.words) c.self.view_is in
    let below : c.in-Some.bit < 16 * c.args.self.now.words = bit_inside c.args.signal c.args.self.now.words c.in-Some.bit c.requires c.in-Some.ensures.holds.0 in
    omega (arith, below, words, c.self.invariant.words)

pub unreachable-requires : goal.unreachable-requires
unreachable-requires c =
    let signals = c.deref.ensures.value ∙ ap (λ (l : LayoutData). l.signals) c.self.view_is in
    let still = c.deref-in-Some.ensures.value ∙ ap (λ (l : LayoutData). l.signals) c.self.view_is in
    has_user c.args.self.now c.args.signal c.in-Some.bit (subst (λ xs. IsTaken c.args.signal xs c.in-Some.bit) signals c.in-Some.ensures.holds)
    (sym (c.in-None-user_of.ensures ∙ ap (λ xs. user_of xs c.in-Some.bit) still))

pub returns-in-Some-user_of : goal.returns-in-Some-user_of
returns-in-Some-user_of c =
    let signals = c.deref.ensures.value ∙ ap (λ (l : LayoutData). l.signals) c.self.view_is in
    let still = c.deref-in-Some.ensures.value ∙ ap (λ (l : LayoutData). l.signals) c.self.view_is in
    taken_some c.args.self.now c.args.signal c.in-Some-user_of.user c.in-Some.bit c.requires (subst (λ xs. IsLeast (IsTaken c.args.signal xs) (Some c.in-Some.bit)) signals c.in-Some.ensures)
    (sym (c.in-Some-user_of.ensures ∙ ap (λ xs. user_of xs c.in-Some.bit) still))
    ∙ ap (λ n. Err (BitTaken c.in-Some.bit n)) (sym c.name.ensures)
