-- A form is found among those of the code as among those of the definition.
use Rattle.std.proofs.Common.{◌≡◌, ◌∙◌, refl, ap, ℕ, Bool, true, false, List, [], ◌∷◌, Option, Some, None, cond, map, Bor}
use Rattle.std.specs.Prelude.{option_copied, option_map}
use Rattle.std.specs.List.{find}
use Rattle.std.specs.Map.{lookup}
use Rattle.std.specs.Str.{bytes_eq}
use Rattle.fr_base.specs.declared.forms.Form.{Form}
use Rattle.fr_base.specs.Forms.{form_data, form_in}

-- what is seen of a form, and of its copy
pub copied : (o : Option (Bor Form)) → option_map (λ form. form_data form.now) o ≡ option_map form_data (option_copied o)
copied None = refl
copied (Some form) = refl

-- a form is found by its word
pub found : (word : List ℕ) (all : List Form)
    → option_map form_data (find (λ form. bytes_eq word form.word.now) all) ≡ lookup (bytes_eq word) (map form_in all)
found word [] = refl
found word (form ∷ others) = by (bytes_eq word form.word.now) (found word others)
  where
    by : (b : Bool) → option_map form_data (find (λ form. bytes_eq word form.word.now) others) ≡ lookup (bytes_eq word) (map form_in others)
        → option_map form_data (cond b (Some form) (find (λ form. bytes_eq word form.word.now) others))
        ≡ cond b (Some (form_data form)) (lookup (bytes_eq word) (map form_in others))
    by true same = refl
    by false same = same
