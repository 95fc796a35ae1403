-- What is written of a text that is written in pieces.
use Rattle.std.proofs.Common.{◌≡◌, ℕ, ◌<◌, List, [], ◌∷◌, ◌++◌, take, drop, Result, Ok, Err, refl, sym, subst, ap, ◌∙◌, append_assoc, arith}
use Rattle.std.specs.Prelude.{◌≢◌, OnErr, OnOk, Option, length, ⊤}
use Rattle.std.specs.Io.KnownBytes.{Appends}
use Rattle.std.proofs.KnownBytes.{Appends-trans}
use Rattle.std.proofs.lemmas.List.{length-drop, take-append-drop}
use Rattle.fr_text.specs.Writing.{IsWriting, Writes}
use Rattle.fr_text.specs.declared.output.TheConstants.{WRITE_RETRIES}
use Rattle.fr_text.specs.declared.output.WriteFailed.{WriteFailed}
use Rattle.fr_cli.specs.Outlets.{AppendsLess, AreWritten, IsWritten}
use Rattle.fr_cli.specs.Visits.{SinkGhosts}

-- ---- the bytes

-- a text of which not all was written
pub less-taken : (a b : Option (List ℕ)) (bytes : List ℕ) → (n : ℕ) × (n < length bytes) × Appends a b (take n bytes) → AppendsLess a b bytes
less-taken a b bytes (n, few, put) =
    (take n bytes, drop n bytes, sym (take-append-drop n bytes), (λ none. let no : length (drop n bytes) ≡ 0 = ap length none in omega (arith, length-drop n bytes, few)), put)

-- so it is where the write failed
pub less-of : {E : Type 0} (r : Result ⊤ E) (a b : Option (List ℕ)) (bytes : List ℕ) → OnErr r ((n : ℕ) × (n < length bytes) × Appends a b (take n bytes))
    → OnErr r (AppendsLess a b bytes)
less-of (Ok x) a b bytes err = tt
less-of (Err x) a b bytes err = less-taken a b bytes err

some-before : (l more : List ℕ) → l ≢ [] → l ++ more ≢ []
some-before [] more some none = some refl
some-before (x ∷ l) more some none = absurd cc

-- then more is to come
pub less-before : (a b : Option (List ℕ)) (text more : List ℕ) → AppendsLess a b text → AppendsLess a b (text ++ more)
less-before a b text more (written, missing, is, some, put) =
    (written, missing ++ more, ap (λ l. l ++ more) is ∙ append_assoc written missing more, some-before missing more some, put)

-- it comes after what was written whole
pub less-after : (a b c : Option (List ℕ)) (first text : List ℕ) → Appends a b first → AppendsLess b c text → AppendsLess a c (first ++ text)
less-after a b c first text p (written, missing, is, some, put) =
    (first ++ written, missing, ap (λ l. first ++ l) is ∙ sym (append_assoc first written missing), some, Appends-trans a b c first written p put)

-- ---- the writes

module _ {W : Type 0} (writes : Writes W) where
  -- a piece that was written whole, and those behind it
  pub piece-then : (old mid new : W) (retries left : ℕ) (piece : List ℕ) (pieces : List (List ℕ)) (one done : Result ⊤ WriteFailed) (x : ⊤) → one ≡ Ok x
      → IsWriting writes (record { writer = old; retries = retries; rest = piece }) one mid left → AreWritten writes mid left pieces done new
      → AreWritten writes old retries (piece ∷ pieces) done new
  piece-then old mid new retries left piece pieces one done x is written more =
      (Ok x, mid, left, subst (λ r. IsWriting writes (record { writer = old; retries = retries; rest = piece }) r mid left) is written, more)

  -- one behind which no other was written
  pub piece-cut : (old new : W) (retries left : ℕ) (piece : List ℕ) (pieces : List (List ℕ)) (one done : Result ⊤ WriteFailed) (why : WriteFailed) → one ≡ Err why → done ≡ one
      → IsWriting writes (record { writer = old; retries = retries; rest = piece }) one new left → AreWritten writes old retries (piece ∷ pieces) done new
  piece-cut old new retries left piece pieces one done why is same written =
      (Err why, new, left, subst (λ r. IsWriting writes (record { writer = old; retries = retries; rest = piece }) r new left) is written, (same ∙ is, refl))

  -- the last one
  pub piece-last : (old new : W) (retries left : ℕ) (piece : List ℕ) (done : Result ⊤ WriteFailed)
      → IsWriting writes (record { writer = old; retries = retries; rest = piece }) done new left → AreWritten writes old retries (piece ∷ []) done new
  piece-last old new retries left piece (Ok x) written = (Ok x, new, left, written, (refl, refl))
  piece-last old new retries left piece (Err why) written = (Err why, new, left, written, (refl, refl))

  -- Where they were written from is the same by another name.
  pub written-from : (old w new : W) (all retries : ℕ) (pieces : List (List ℕ)) (done : Result ⊤ WriteFailed) → w ≡ old → retries ≡ all
      → AreWritten writes w retries pieces done new → AreWritten writes old all pieces done new
  written-from old w new all retries pieces done is many written =
      subst (λ n. AreWritten writes old n pieces done new) many (subst (λ o. AreWritten writes o retries pieces done new) is written)

-- A text was cut short.
pub written-cut : {W : Type 0} (sink : SinkGhosts W) (text : List ℕ) (pieces : List (List ℕ)) (old new : W) (done : Result ⊤ WriteFailed) (why : WriteFailed) → done ≡ Err why
    → AppendsLess (sink.contents old) (sink.contents new) text → AreWritten sink.writes old WRITE_RETRIES pieces done new → IsWritten sink text pieces old new done
written-cut sink text pieces old new done why is less made = record {
  whole = subst (λ d. OnOk d (Appends (sink.contents old) (sink.contents new) text)) (sym is) tt;
  less = subst (λ d. OnErr d (AppendsLess (sink.contents old) (sink.contents new) text)) (sym is) less;
  made = made;
}
