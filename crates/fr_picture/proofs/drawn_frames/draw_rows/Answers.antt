use Rattle.std.proofs.Common.{rules, ◌≡◌, ◌∙◌, ◌++◌, ◌+◌, [], ◌∷◌, ap, ap₂, map, subst, sym, take, List}
use Rattle.std.proofs.lemmas.List.{map-append, take_more}
use Rattle.std.proofs.lemmas.List.Elements.{All-push}
use Rattle.std.specs.List.{All}
use Rattle.fr_base.specs.declared.answer.SignalRow.{SignalRow}
use Rattle.fr_base.specs.declared.signal.Signal.{Signal}
use Rattle.fr_picture.specs.Strips.{HasItsBits}
use Rattle.fr_picture.specs.declared.signals.DrawnSignal.{DrawnSignal}
use Rattle.fr_picture.proofs.drawn_frames.draw_rows.Goals as goal

pub loop-row-preserved : goal.loop-row-preserved
loop-row-preserved c =
    let i = c.loop-row.row-index in
    let rows = c.args.rows.now in
    let of_row = λ (r : SignalRow). r.signal in
    let of_drawn = λ (s : DrawnSignal). s.signal in
    let row = c.row-item.result in
    let drawn = c.in_ok-of.field-0 in
    let more : take (i + 1) rows ≡ take i rows ++ row ∷ [] = take_more rows i row c.loop-row-test.true ∙ ap (λ r. take i rows ++ r ∷ []) (sym c.row-item.is) in
    let pushed : c.push.new.self ≡ c.loop-row.signals ++ drawn ∷ [] = search rules in
    let signals = ap (map of_drawn) pushed ∙ (map-append of_drawn c.loop-row.signals (drawn ∷ [])
    ∙ (ap₂ (λ (xs : List Signal) (x : Signal). xs ++ x ∷ []) c.loop-row.invariant.0 c.in_ok-of.ensures.signal
    ∙ (sym (map-append of_row (take i rows) (row ∷ [])) ∙ ap (map of_row) (sym more)))) in
    (signals, subst (All HasItsBits) (sym pushed) (All-push HasItsBits c.loop-row.signals drawn c.loop-row.invariant.1 c.in_ok-of.ensures.bits))
