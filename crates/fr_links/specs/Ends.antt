-- The end of a connection that gives its bytes.
use Rattle.std.specs.Prelude.{ℕ, List, Option, Some, drop}
use Rattle.std.specs.Io.Cursor.{cursor_inner, cursor_position}
use Rattle.fr_links.specs.declared.ends.Given.{Given}

-- the bytes that it will give from here on
abbrev pub given_bytes : Given → Option (List ℕ)
given_bytes given = Some (drop (cursor_position given.bytes) (cursor_inner given.bytes).items)
