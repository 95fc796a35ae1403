-- Wishes: what the bytes of a file of wishes say. The first record is the header `frame,node,channels,repetition`. Each further
-- record is a wish, that a frame have one more placement with these channels and this repetition, or its own refusal; a refused one keeps none after it
-- from being read. There are at most 512.
use Rattle.std.specs.Prelude.{ℕ, suc, ◌+◌, ◌==◌, Bool, false, not, List, [], ◌∷◌, length, take, codes, nat_lt, if◌then◌else◌, Result, Ok, Err}
use Rattle.std.specs.Cmp.Lexicographic.{pointwise}
use Rattle.fr_base.specs.Refusing.{◌>>=◌, ◌>>◌, refuse◌when◌}
use Rattle.fr_base.specs.Names.{same_text}
use Rattle.fr_base.specs.Cycles.{is_repetition}
use Rattle.fr_base.specs.Checks.{name, channels}
use Rattle.fr_base.specs.ImportRows.{records_of, text_at, number_at}
use Rattle.fr_base.specs.declared.limits.TheConstants.{MAX_ROWS}
use Rattle.fr_base.specs.declared.params.Params.{Params}
use Rattle.fr_base.specs.declared.refusal.Refusal.{Refusal}
use Rattle.fr_base.specs.declared.refusal.Refusal.TheVariants.{BadText, BadCycles, Limit}
use Rattle.fr_base.specs.declared.wish.Wish.{Wish}
use Rattle.fr_base.specs.declared.wish.WishRead.{WishRead}

-- how the first record of a file of wishes is spelled
abbrev pub spelled_wishes : List (List ℕ)
spelled_wishes = codes "frame" ∷ codes "node" ∷ codes "channels" ∷ codes "repetition" ∷ []

-- whether a record spells it, field by field
abbrev pub spells_wishes : List (List ℕ) → Bool
spells_wishes fields = pointwise same_text fields spelled_wishes

-- the wish with these fields: its names are asked first, then its repetition and its channels
unfoldable pub wish : Params → List ℕ → List ℕ → List ℕ → ℕ → Result Wish Refusal
wish p frame node text repetition = do
  f ← name frame
  n ← name node
  refuse BadCycles when not (is_repetition p.cycles repetition)
  cs ← channels p text
  Ok (record { frame = f; node = n; channels = cs; repetition = repetition })

-- the wish that a record's fields are, each of its form
unfoldable pub wish_in : Params → List (List ℕ) → Result Wish Refusal
wish_in p fields = do
  frame ← text_at fields 0
  node ← text_at fields 1
  channels ← text_at fields 2
  repetition ← number_at fields 3
  wish p frame node channels repetition

-- the wish that a record is: it has as many fields as the header
unfoldable pub wish_of : Params → List (List ℕ) → Result Wish Refusal
wish_of p fields = do
  refuse BadText when not (length fields == length spelled_wishes)
  wish_in p fields

-- the wish that a record at a line is; the header is line 1, and what comes after 512 wishes is one too many, whatever it holds
unfoldable pub wish_at : Params → ℕ → List (List ℕ) → Result Wish Refusal
wish_at p line fields = do
  refuse Limit when nat_lt (MAX_ROWS + 1) line
  wish_of p fields

-- the records as wishes, the first of them at this line
unfoldable pub wishes_from : Params → ℕ → List (List (List ℕ)) → List WishRead
wishes_from p line [] = []
wishes_from p line (fields ∷ rest) = record { line = line; wish = wish_at p line fields } ∷ wishes_from p (suc line) rest

-- the records below a first one as wishes; where that is another header there is one line, refused
unfoldable pub wishes_below : Params → Bool → List (List (List ℕ)) → List WishRead
wishes_below p spelled records = if spelled then wishes_from p 2 records else (record { line = 1; wish = Err BadText } ∷ [])

-- a file's records as wishes
unfoldable pub wishes_of_records : Params → List (List (List ℕ)) → List WishRead
wishes_of_records p [] = wishes_below p false []
wishes_of_records p (first ∷ records) = wishes_below p (spells_wishes first) records

-- All the wishes that a body's bytes are, each a wish or its own refusal, to the file's end: at most 512, and one more that is refused.
unfoldable pub wishes_of_body : Params → List ℕ → List WishRead
wishes_of_body p body = take (MAX_ROWS + 1) (wishes_of_records p (records_of body))
