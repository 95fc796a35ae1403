-- Refuse .. when, or: the lines of a definition are refusals, asked from the top. The first that applies is the answer.
use Rattle.std.specs.Prelude.{Bool, true, false, Option, Some, None, Result, Ok, Err, ⊤}

infixl 10 ◌>>=◌
unfoldable pub ◌>>=◌ : {A B E : Type 0} → Result A E → (A → Result B E) → Result B E
(Ok x) >>= f = f x
(Err e) >>= f = Err e

infixl 10 ◌>>◌
unfoldable pub ◌>>◌ : {A B E : Type 0} → Result A E → Result B E → Result B E
(Ok x) >> r = r
(Err e) >> r = Err e

-- what is there, or else this refusal
infixl 12 ◌or◌
unfoldable pub ◌or◌ : {A E : Type 0} → Option A → E → Result A E
(Some x) or e = Ok x
None or e = Err e

-- this refusal where the test passes
infixl 12 refuse◌when◌
unfoldable pub refuse◌when◌ : {E : Type 0} → E → Bool → Result ⊤ E
refuse e when true = Err e
refuse e when false = Ok tt
