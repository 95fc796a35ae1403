use Rattle.std.proofs.Common.{arith}
use Rattle.std.proofs.lemmas.List.{length-take}
use Rattle.fr_http.proofs.head.Head.values.Goals as goal

pub slice_bounds-result-end : goal.slice_bounds-result-end
slice_bounds-result-end c =
    let inside = c.self.inside in
    omega (arith, length-take inside.spans.headers inside.fields.now, c.self.invariant.within.section.count_fits)
