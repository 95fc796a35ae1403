-- Style: the page's style, and the colours' letters.
use Rattle.std.specs.Prelude.{ℕ, ◌==◌, List, codes, if◌then◌else◌}
use Rattle.fr_picture.specs.declared.style.TheConstants.{STYLE}

unfoldable pub style_text : List ℕ
style_text = STYLE.now

-- a letter for each of eight colours
unfoldable pub letter_of : ℕ → List ℕ
letter_of n =
    if n == 0 then codes "a" else if n == 1 then codes "b" else if n == 2 then codes "c" else if n == 3 then codes "d"
    else if n == 4 then codes "e" else if n == 5 then codes "f" else if n == 6 then codes "g" else codes "h"
