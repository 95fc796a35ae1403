-- What a definition by refusals gives, line by line.
use Rattle.std.proofs.Common.{◌≡◌, Bool, true, false, not, Option, Some, None, Result, Ok, Err, IfOk, IsTrue, refl}
use Rattle.std.specs.Prelude.{⊤}
use Rattle.fr_base.specs.Refusing.{◌>>=◌, ◌>>◌, ◌or◌, refuse◌when◌}

module _ {A B E : Type 0} (P : B → Type 0) where
  -- after a look-up that found something
  pub gives_or : (o : Option A) (e : E) (f : A → Result B E) → ((x : A) → o ≡ Some x → IfOk (f x) P) → IfOk ((o or e) >>= f) P
  unfolding ◌or◌ ◌>>=◌
  gives_or None e f h = tt
  gives_or (Some x) e f h = h x refl

  -- after a definition that gave a value of which Q holds
  pub gives_bind : (Q : A → Type 0) (r : Result A E) (f : A → Result B E) → IfOk r Q → ((x : A) → Q x → IfOk (f x) P) → IfOk (r >>= f) P
  unfolding ◌>>=◌
  gives_bind Q (Ok x) f q h = h x q
  gives_bind Q (Err e) f q h = tt

  -- after a definition that gave a value
  pub gives_each : (r : Result A E) (f : A → Result B E) → ((x : A) → r ≡ Ok x → IfOk (f x) P) → IfOk (r >>= f) P
  unfolding ◌>>=◌
  gives_each (Ok x) f h = h x refl
  gives_each (Err e) f h = tt

  -- after a test that was passed
  pub gives_then : (r : Result A E) (s : Result B E) → ((x : A) → r ≡ Ok x → IfOk s P) → IfOk (r >> s) P
  unfolding ◌>>◌
  gives_then (Ok x) s h = h x refl
  gives_then (Err e) s h = tt

  -- after a definition that gave something of which Q holds
  pub gives_next : (Q : A → Type 0) (r : Result A E) (s : Result B E) → IfOk r Q → ((x : A) → Q x → IfOk s P) → IfOk (r >> s) P
  unfolding ◌>>◌
  gives_next Q (Ok x) s q h = h x q
  gives_next Q (Err e) s q h = tt

module _ {B E : Type 0} (P : B → Type 0) where
  -- after a refusal that did not apply
  pub gives_when : (e : E) (t : Bool) (r : Result B E) → (t ≡ false → IfOk r P) → IfOk ((refuse e when t) >> r) P
  unfolding refuse◌when◌ ◌>>◌
  gives_when e true r h = tt
  gives_when e false r h = h refl

  -- after a refusal of what does not hold
  pub gives_unless : (e : E) (t : Bool) (r : Result B E) → (IsTrue t → IfOk r P) → IfOk ((refuse e when not t) >> r) P
  unfolding refuse◌when◌ ◌>>◌
  gives_unless e true r h = h refl
  gives_unless e false r h = tt

  -- where the last line gave something of which Q holds
  pub gives_bind_last : (Q : B → Type 0) (r : Result B E) → IfOk r Q → ((x : B) → Q x → P x) → IfOk r P
  gives_bind_last Q (Ok x) q h = h x q
  gives_bind_last Q (Err e) q h = tt

  -- where the last line gave a value
  pub gives_last : (r : Result B E) → ((x : B) → r ≡ Ok x → P x) → IfOk r P
  gives_last (Ok x) h = h x refl
  gives_last (Err e) h = tt

module _ {E : Type 0} (P : ⊤ → Type 0) where
  -- where the last line is a refusal that did not apply
  pub gives_when_last : (e : E) (t : Bool) → (t ≡ false → P tt) → IfOk (refuse e when t) P
  unfolding refuse◌when◌
  gives_when_last e true h = tt
  gives_when_last e false h = h refl

  -- or one of what does not hold
  pub gives_unless_last : (e : E) (t : Bool) → (IsTrue t → P tt) → IfOk (refuse e when not t) P
  unfolding refuse◌when◌
  gives_unless_last e true h = h refl
  gives_unless_last e false h = tt
