use Rattle.std.proofs.Common.{◌≡◌, ◌∙◌, ◌+◌, ap, sym, true, arith}
use Rattle.fr_guide.proofs.LineLemmas.{behind, first_ends}
use Rattle.fr_guide.proofs.rows.place.Place.line_behind.Goals as goal
use Rattle.fr_guide.proofs.rows.place.Place.line_behind.Goals.{then-ends_line, else-ends_line}
use Rattle.fr_guide.specs.Rows.{line_ends}

pub overflow_add-self : goal.overflow_add-self
overflow_add-self c =
    let here : line_ends c.loop-self.self.rest.now ≡ 1 + line_ends (behind c.loop-self.self.rest.now) =
    first_ends c.loop-self.self.rest.now true c.in-len1-up.len_at_least (sym c.if-ends_line.true ∙ c.ends_line.ensures) in
    omega (arith, here, c.loop-self.invariant.all, c.requires.room)

pub loop-self-preserved : goal.loop-self-preserved
loop-self-preserved c = elim c.if-ends_line.branch [
  | then-ends_line w ↦
      let here : line_ends c.loop-self.self.rest.now ≡ 1 + line_ends (behind c.loop-self.self.rest.now) =
      first_ends _ _ c.in-len1-up.len_at_least (sym w.if-ends_line.true ∙ c.ends_line.ensures) in
      let line : c.if-ends_line.self.line ≡ c.loop-self.self.line + 1 = ap (λ s. s.line) w.self-is in
      record { order = omega (arith, line, c.loop-self.invariant.order); all = omega (arith, here, line, c.loop-self.invariant.all) }
  | else-ends_line w ↦
      let here : line_ends c.loop-self.self.rest.now ≡ 0 + line_ends (behind c.loop-self.self.rest.now) =
      first_ends _ _ c.in-len1-up.len_at_least (sym w.if-ends_line.false ∙ c.ends_line.ensures) in
      let line : c.if-ends_line.self.line ≡ c.loop-self.self.line = ap (λ s. s.line) w.self-is in
      record { order = omega (arith, line, c.loop-self.invariant.order); all = omega (arith, here, line, c.loop-self.invariant.all) }
]
