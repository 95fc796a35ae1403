-- Shapes of changes: each grant and each placement that is new or gone, as it is drawn in a lane. What is new has a whole line
-- and a plus, what is gone a dashed line and a minus.
use Rattle.std.specs.Prelude.{ℕ, Bool, List, [], ◌∷◌, ◌++◌, codes, decimal, if◌then◌else◌}
use Rattle.std.specs.List.{flat_map}
use Rattle.fr_base.specs.declared.answer.DifferenceRow.{DifferenceRow}
use Rattle.fr_base.specs.declared.answer.GrantRow.{GrantRow}
use Rattle.fr_base.specs.declared.answer.SeenRow.{SeenRow}
use Rattle.fr_base.specs.declared.answer.SeenRow.TheVariants as seen
use Rattle.fr_base.specs.declared.name.Name.{Name}
use Rattle.fr_base.specs.declared.placement.Placement.{Placement}
use Rattle.fr_picture.specs.declared.drawing.columns.Scale.{Scale}
use Rattle.fr_picture.specs.Kinds.{set_text}
use Rattle.fr_picture.specs.Texts.{together}

unfoldable pub word_of : Bool → List ℕ
word_of is_new = if is_new then codes "new" else codes "gone"

unfoldable pub sign_of : Bool → List ℕ
sign_of is_new = if is_new then codes "+" else codes "&minus;"

-- the beginning of a change, with its word, its frame or node, and its supplier as its title
unfoldable pub change_start : List ℕ → Name → Name → List ℕ
change_start word name supplier =
    together (codes "<g class=" ∷ word ∷ codes "><title>" ∷ word ∷ codes ": " ∷ name ∷ codes " of " ∷ supplier ∷ codes "</title>" ∷ [])

-- the sign at the right edge of the lane, in this cycle, and the end of the change
unfoldable pub sign_text : ℕ → ℕ → List ℕ → List ℕ
sign_text width cycle sign = together (codes "<text class=sign x=" ∷ decimal width ∷ codes " y=" ∷ decimal cycle ∷ codes ">" ∷ sign ∷ codes "</text></g>" ∷ [])

-- the same above the first cycle
unfoldable pub head_text : ℕ → List ℕ → List ℕ
head_text width sign = together (codes "<text class=sign x=" ∷ decimal width ∷ codes " y=-1>" ∷ sign ∷ codes "</text></g>" ∷ [])

-- a grant: one that is new has its sign above the lane, one that is gone below it
unfoldable pub grant_text : Scale → Bool → GrantRow → List ℕ
grant_text scale is_new g =
    change_start (word_of is_new) g.node g.supplier
    ++ (if is_new then head_text scale.width (sign_of is_new) else sign_text scale.width scale.cycles (sign_of is_new))

-- a placement: the shape of its base and repetition, and its sign in the first of its cycles
unfoldable pub placed_text : ℕ → Bool → Name → Placement → Name → List ℕ
placed_text width is_new frame q supplier =
    change_start (word_of is_new) frame supplier ++ set_text q.cycles.repetition q.cycles.base ++ sign_text width q.cycles.base (sign_of is_new)

unfoldable pub seen_text : Scale → Bool → SeenRow → List ℕ
seen_text scale is_new (seen.Grant g) = grant_text scale is_new g
seen_text scale is_new (seen.Frame f) = []
seen_text scale is_new (seen.Placement frame q supplier) = placed_text scale.width is_new frame q supplier
seen_text scale is_new (seen.Signal s) = []
seen_text scale is_new (seen.Gap g) = []

unfoldable pub changes_text : Scale → List DifferenceRow → List ℕ
changes_text scale changed = flat_map (λ d. seen_text scale d.is_new d.row) changed
