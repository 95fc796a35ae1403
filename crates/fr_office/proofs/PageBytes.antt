-- The bytes of a page's frames are those of the frames of its map.
use Rattle.std.proofs.Common.{◌≡◌, ◌+◌, ◌∙◌, List, [], ◌∷◌, refl, sym, ap, sum_by}
use Rattle.std.specs.Map.{values_of}
use Rattle.std.proofs.lemmas.List.Sums.{sum_by-cons}
use Rattle.fr_base.specs.declared.name.Name.{Name}
use Rattle.fr_office.specs.KeptPages.{frame_bytes}
use Rattle.fr_world.specs.Pages.{FrameData, frame_data, frames_data}
use Rattle.fr_world.specs.declared.page.PageFrame.{PageFrame}

pub frames_weigh : (es : List (Name × PageFrame)) → sum_by (λ f. frame_bytes (frame_data f)) (values_of es) ≡ sum_by (λ e. frame_bytes e.1) (frames_data es)
frames_weigh [] = refl
frames_weigh (e ∷ es) =
    sum_by-cons (λ (f : PageFrame). frame_bytes (frame_data f)) e.1 (values_of es)
    ∙ ap (λ n. frame_bytes (frame_data e.1) + n) (frames_weigh es)
    ∙ sym (sum_by-cons (λ (e : Name × FrameData). frame_bytes e.1) (e.0, frame_data e.1) (frames_data es))
