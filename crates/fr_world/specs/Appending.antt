-- Appending: how far a list has grown, where memory was refused as rows were appended to it.
use Rattle.std.specs.Prelude.{◌≡◌, ◌++◌, List}

-- These rows are the first of those.
abbrev pub Begins : {X : Type 0} → List X → List X → Type 0
Begins {X} front rows = (more : List X) × (rows ≡ front ++ more)

-- Some of these rows were appended, from the first on. What was there before stands in front of them.
abbrev pub AppendsSome : {X : Type 0} → List X → List X → List X → Type 0
AppendsSome rows old new = Begins old new × Begins new (old ++ rows)
