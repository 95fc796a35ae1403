-- Two lists of refusals, compared line by line.
use Rattle.std.proofs.Common.{◌≡◌, Bool, true, false, Option, Some, None, Result, Ok, Err, refl, sym, subst}
use Rattle.std.specs.Option.{option_map}
use Rattle.fr_base.specs.Refusing.{◌>>=◌, ◌>>◌, ◌or◌, refuse◌when◌}

-- the value changed, if there is one
abbrev pub map_ok : {A B E : Type 0} → (A → B) → Result A E → Result B E
map_ok g (Ok x) = Ok (g x)
map_ok g (Err e) = Err e

-- a relation of results that holds of the same refusal
module _ {B C E : Type 0} (R : Result B E → Result C E → Type 0) (same : (e : E) → R (Err e) (Err e)) where
  some_or : {A D : Type 0} (h : A → D) (o : Option A) (e : E) (f : A → Result B E) (g : D → Result C E) → ((x : A) → o ≡ Some x → R (f x) (g (h x))) → R ((o or e) >>= f) ((option_map h o or e) >>= g)
  unfolding ◌or◌ ◌>>=◌
  some_or h None e f g k = same e
  some_or h (Some x) e f g k = k x refl

  -- look-ups that find the like, or nothing
  pub alike_or : {A D : Type 0} (h : A → D) (o : Option A) (u : Option D) → u ≡ option_map h o → (e : E) (f : A → Result B E) (g : D → Result C E) → ((x : A) → o ≡ Some x → R (f x) (g (h x))) → R ((o or e) >>= f) ((u or e) >>= g)
  alike_or h o u found e f g k = subst (λ y. R ((o or e) >>= f) ((y or e) >>= g)) (sym found) (some_or h o e f g k)

  both_when : (e : E) (t : Bool) (r : Result B E) (s : Result C E) → (t ≡ false → R r s) → R ((refuse e when t) >> r) ((refuse e when t) >> s)
  unfolding refuse◌when◌ ◌>>◌
  both_when e true r s k = same e
  both_when e false r s k = k refl

  -- tests that come out alike
  pub alike_when : (e : E) (t u : Bool) → u ≡ t → (r : Result B E) (s : Result C E) → (t ≡ false → R r s) → R ((refuse e when t) >> r) ((refuse e when u) >> s)
  alike_when e t u eq r s k = subst (λ y. R ((refuse e when t) >> r) ((refuse e when y) >> s)) (sym eq) (both_when e t r s k)

  both_bind : {A : Type 0} (r : Result A E) (f : A → Result B E) (g : A → Result C E) → ((x : A) → r ≡ Ok x → R (f x) (g x)) → R (r >>= f) (r >>= g)
  unfolding ◌>>=◌
  both_bind (Ok x) f g k = k x refl
  both_bind (Err e) f g k = same e

  -- definitions that give the same
  pub alike_bind : {A : Type 0} (r u : Result A E) → u ≡ r → (f : A → Result B E) (g : A → Result C E) → ((x : A) → r ≡ Ok x → R (f x) (g x)) → R (r >>= f) (u >>= g)
  alike_bind r u eq f g k = subst (λ y. R (r >>= f) (y >>= g)) (sym eq) (both_bind r f g k)

  mapped_bind : {A D : Type 0} (h : A → D) (r : Result A E) (f : A → Result B E) (g : D → Result C E) → ((x : A) → r ≡ Ok x → R (f x) (g (h x))) → R (r >>= f) (map_ok h r >>= g)
  unfolding ◌>>=◌
  mapped_bind h (Ok x) f g k = k x refl
  mapped_bind h (Err e) f g k = same e

  -- definitions that give the like
  pub alike_map : {A D : Type 0} (h : A → D) (r : Result A E) (u : Result D E) → u ≡ map_ok h r → (f : A → Result B E) (g : D → Result C E) → ((x : A) → r ≡ Ok x → R (f x) (g (h x))) → R (r >>= f) (u >>= g)
  alike_map h r u eq f g k = subst (λ y. R (r >>= f) (y >>= g)) (sym eq) (mapped_bind h r f g k)
