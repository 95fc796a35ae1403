-- Law: what was packed is unpacked to the same values.
use Rattle.std.specs.Prelude.{◌≡◌, ℕ, List, Ok}
use Rattle.fr_base.specs.Layouts.{LayoutData, IsLayout}
use Rattle.fr_layout.specs.Packing.{packed, unpacked}

-- what was packed is unpacked to the same values
abbrev pub UnpackUndoesPack : Type 0
UnpackUndoesPack = (layout : LayoutData) (values bytes : List ℕ) → IsLayout layout → packed layout values ≡ Ok bytes → unpacked layout bytes ≡ Ok values
