use Rattle.std.proofs.Common.{rules, refl, ◌≡◌, [], map, sym, ◌∙◌, length, arith, ap}
use Rattle.std.proofs.lemmas.List.Elements.{All-drop, All-take}
use Rattle.httparse.specs.Spans.{IsHeaderWithin, header_bytes}
use Rattle.fr_http.specs.Head.{values}
use Rattle.fr_http.proofs.HeadLaws.{taken, passed, ended}
use Rattle.fr_http.proofs.head.ValuesIterator.next.Goals as goal

next_taken : goal.returns-then-eq_ignore_ascii_case-clause-steps
next_taken c =
    let l = c.loop-self.self-inside in
    sym c.self.view_is ∙ c.loop-self.invariant.same
    ∙ taken l.bytes.now l.name.now l.fields.now _ c.of.result.now c.of-then-eq_ignore_ascii_case.result.now c.as_bytes.result.now
    c.in-len1-up.len_at_least c.of.ensures c.of-then-eq_ignore_ascii_case.ensures c.as_bytes.ensures.value (c.if-eq_ignore_ascii_case.ensures.test.0 refl)

pub returns-then-eq_ignore_ascii_case-clause-steps : goal.returns-then-eq_ignore_ascii_case-clause-steps
returns-then-eq_ignore_ascii_case-clause-steps c = next_taken c

pub returns-clause-steps : goal.returns-clause-steps
returns-clause-steps c =
    let l = c.loop-self.self-inside in
    let none : values l.name.now (map (header_bytes l.bytes.now) l.fields.now) ≡ [] = ended l.bytes.now l.name.now l.fields.now c.in_default.len_below in
    (sym c.self.view_is ∙ c.loop-self.invariant.same ∙ none, none)

pub loop-self-preserved : goal.loop-self-preserved
loop-self-preserved c =
    let l = c.loop-self.self-inside in
    record {
      same = c.loop-self.invariant.same ∙ passed l.bytes.now l.name.now l.fields.now _ c.of.result.now c.as_bytes.result.now
          c.in-len1-up.len_at_least c.of.ensures c.as_bytes.ensures.value (λ e. search (rules, c.if-eq_ignore_ascii_case.ensures.test.1 e));
      within = All-take (IsHeaderWithin (length l.bytes.now)) _ _ (All-drop (IsHeaderWithin (length l.bytes.now)) 1 l.fields.now c.loop-self.invariant.within);
    }

pub returns-then-eq_ignore_ascii_case-clause-goes : goal.returns-then-eq_ignore_ascii_case-clause-goes
returns-then-eq_ignore_ascii_case-clause-goes c =
    let e = next_taken c in
    record { on = λ _. (tt, tt, omega (arith, ap length e)); keeps = tt; rests = λ _. tt }
