use Rattle.std.proofs.Common.{◌≡◌, ◌+◌, ◌≤◌, ◌∙◌, ap, arith, map, refl, subst, sym}
use Rattle.std.specs.List.{All}
use Rattle.std.proofs.lemmas.List.Elements.{All-nil}
use Rattle.fr_picture.specs.Places.{AreInOrder, IsNamed, IsWide}
use Rattle.fr_picture.proofs.ColumnLemmas.{Until, end_of, end_of-none, all_more, last_more, opened_first, opened_more, order_more, shown_more}
use Rattle.fr_picture.proofs.drawing.columns.columns.Goals as goal

pub loop-shows-init : goal.loop-shows-init
loop-shows-init c =
    let none = c.new-columns.ensures.items in
    let end = c.args.bands.now.end in
    record {
      len = c.new-columns.ensures.len;
      shown = ap (map (λ p. p.shows)) none;
      least = omega (arith, c.args.bands.now.end_in_range.0);
      small = omega arith;
      last = ap (end_of end) none ∙ end_of-none end;
      order = subst (AreInOrder end end) (sym none) tt;
      opened = subst (Until (end ≡ end)) (sym none) refl;
      named = subst (All IsNamed) (sym none) (All-nil IsNamed);
      wide = subst (All (IsWide c.args.bands.now.width)) (sym none) (All-nil (IsWide c.args.bands.now.width));
      from = subst (All (λ p. 4 ≤ p.x)) (sym none) (All-nil (λ p. 4 ≤ p.x));
      beside = subst (All (λ p. p.x + p.width ≤ end)) (sym none) (All-nil (λ p. p.x + p.width ≤ end));
      within = subst (All (λ p. p.x + p.width ≤ 136)) (sym none) (All-nil (λ p. p.x + p.width ≤ 136));
    }

pub loop-shows-preserved : goal.loop-shows-preserved
loop-shows-preserved c =
    let was = c.loop-shows.invariant in
    let next = c.column-next.result in
    let made = c.column-next.ensures in
    let pushed = c.in_ok-push.ensures.items in
    record {
      len = omega (arith, c.in_ok-push.ensures.len, was.len);
      shown = shown_more c.args.shown.now c.loop-shows.shows-index _ c.loop-shows.columns.items _ next c.loop-shows-test.true pushed made.shows was.shown;
      least = omega (arith, made.from was.least);
      small = made.beside;
      last = last_more _ c.loop-shows.columns.items _ next pushed;
      order = order_more _ _ c.loop-shows.columns.items _ next c.loop-shows.end pushed was.last made.behind was.order;
      opened = opened_more _ _ c.loop-shows.columns.items _ next pushed made.unopened was.opened;
      named = all_more IsNamed c.loop-shows.columns.items _ next pushed was.named made.named;
      wide = all_more (IsWide c.args.bands.now.width) c.loop-shows.columns.items _ next pushed was.wide made.wide;
      from = all_more (λ p. 4 ≤ p.x) c.loop-shows.columns.items _ next pushed was.from (made.from was.least);
      beside = all_more (λ p. p.x + p.width ≤ c.args.bands.now.end) c.loop-shows.columns.items _ next pushed was.beside made.beside;
      within = all_more (λ p. p.x + p.width ≤ 136) c.loop-shows.columns.items _ next pushed was.within made.within;
    }

pub returns-clause-opened : goal.returns-clause-opened
returns-clause-opened c = opened_first _ c.loop-shows.columns.items c.loop-shows.invariant.opened
