use Rattle.std.proofs.Common.{◌==◌, ◌∙◌, ap, refl, lit<}
use Rattle.std.specs.List.{slice_get, slice_split}
use Rattle.std.proofs.lemmas.Iterator.Consumers.{nth_from_yields_List}
use Rattle.std.proofs.lemmas.Iterator.Splits.{YieldsList-from_str_split}
use Rattle.fr_http.proofs.RouteLaws.{part_found}
use Rattle.fr_http.proofs.routes.part.Goals as goal

pub returns : goal.returns
returns c =
    part_found c.args.name c.args.path.now c.nth.result _ c.unwrap_or.result refl c.unwrap_or.ensures
    (nth_from_yields_List _ _ c.place.result c.nth.ensures.ran (YieldsList-from_str_split 47 c.args.path.now (lit< tt) c.split.ensures.text c.split.ensures.has_more c.split.ensures.pattern)
    ∙ ap (slice_get (slice_split (λ b. b == 47) c.args.path.now)) c.place.ensures)
