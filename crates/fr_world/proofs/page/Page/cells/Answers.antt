use Rattle.std.proofs.Common.{refl, subst}
use Rattle.fr_world.specs.Occupancies.{ShowCells}
use Rattle.fr_world.specs.Pages.{PageData, frames_data, own_rows_of}
use Rattle.fr_world.specs.contracts.page.Page.{the_view}
use Rattle.fr_world.proofs.KeyLaws.{frames_rise}
use Rattle.fr_world.proofs.PlacedLaws.{placed-shown}
use Rattle.fr_world.proofs.page.Page.cells.Goals as goal

pub returns : goal.returns
returns c =
    let es = c.self.inside.rows.frames.entries in
    let rises = c.len-len.ensures.ordered in
    subst (λ (p : PageData). ShowCells c.self.inside.cells (own_rows_of p).frames) c.self.view_is
    (placed-shown (the_view c.self.inside) es c.self.inside.cells refl rises (frames_rise es (frames_data es) refl rises) c.self.invariant.0 c.self.invariant.1)
