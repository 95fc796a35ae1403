-- What is among the elements of a list, and of the lists that are made of it.
use Rattle.std.proofs.Common.{◌≡◌, ℕ, zero, suc, true, eqb, List, [], ◌∷◌, ◌++◌, map, Option, Some, None, refl, sym, ap, subst, ◌∙◌, ◌⊎◌, inl, inr, arith}
use Rattle.std.specs.List.{Contains, cons_option, filter_map, flat_map, list_any}
use Rattle.std.proofs.lemmas.Bool.{or_cases, or_left, or_right, eqb-true, eq-eqb}

abbrev pub In : {X : Type 0} → X → List X → Type 0
In x [] = ⊥
In x (y ∷ ys) = (y ≡ x) ⊎ In x ys

pub In-map : {X Y : Type 0} (f : X → Y) (x : X) (xs : List X) → In x xs → In (f x) (map f xs)
In-map f x [] i = absurd i
In-map f x (y ∷ ys) (inl e) = inl (ap f e)
In-map f x (y ∷ ys) (inr i) = inr (In-map f x ys i)

pub map-In : {X Y : Type 0} (f : X → Y) (y : Y) (xs : List X) → In y (map f xs) → (x : X) × In x xs × (f x ≡ y)
map-In f y [] i = absurd i
map-In f y (x ∷ xs) (inl e) = (x, inl refl, e)
map-In f y (x ∷ xs) (inr i) = let found = map-In f y xs i in (found.0, inr found.1, found.2)

In-cons_option : {Y : Type 0} (y : Y) (o : Option Y) (ys : List Y) → In y (cons_option o ys) → (o ≡ Some y) ⊎ In y ys
In-cons_option y None ys i = inr i
In-cons_option y (Some z) ys (inl e) = inl (ap Some e)
In-cons_option y (Some z) ys (inr i) = inr i

cons_option-In : {Y : Type 0} (y : Y) (o : Option Y) (ys : List Y) → In y ys → In y (cons_option o ys)
cons_option-In y None ys i = i
cons_option-In y (Some z) ys i = inr i

pub filter_map-In : {X Y : Type 0} (h : X → Option Y) (y : Y) (xs : List X) → In y (filter_map h xs) → (x : X) × In x xs × (h x ≡ Some y)
filter_map-In h y [] i = absurd i
filter_map-In h y (x ∷ xs) i = elim (In-cons_option y (h x) (filter_map h xs) i) [
  | inl e ↦ (x, inl refl, e)
  | inr rest ↦ let found = filter_map-In h y xs rest in (found.0, inr found.1, found.2)
]

pub In-filter_map : {X Y : Type 0} (h : X → Option Y) (x : X) (y : Y) (xs : List X) → In x xs → h x ≡ Some y → In y (filter_map h xs)
In-filter_map h x y [] i is = absurd i
In-filter_map h x y (z ∷ zs) (inl e) is = subst (λ o. In y (cons_option o (filter_map h zs))) (sym (ap h e ∙ is)) (inl refl)
In-filter_map h x y (z ∷ zs) (inr i) is = cons_option-In y (h z) (filter_map h zs) (In-filter_map h x y zs i is)

In-append_left : {X : Type 0} (x : X) (xs ys : List X) → In x xs → In x (xs ++ ys)
In-append_left x [] ys i = absurd i
In-append_left x (z ∷ zs) ys (inl e) = inl e
In-append_left x (z ∷ zs) ys (inr i) = inr (In-append_left x zs ys i)

In-append_right : {X : Type 0} (x : X) (xs ys : List X) → In x ys → In x (xs ++ ys)
In-append_right x [] ys i = i
In-append_right x (z ∷ zs) ys i = inr (In-append_right x zs ys i)

append-In : {X : Type 0} (x : X) (xs ys : List X) → In x (xs ++ ys) → In x xs ⊎ In x ys
append-In x [] ys i = inr i
append-In x (z ∷ zs) ys (inl e) = inl (inl e)
append-In x (z ∷ zs) ys (inr i) = elim (append-In x zs ys i) [ inl j ↦ inl (inr j) | inr j ↦ inr j ]

pub In-flat_map : {X Y : Type 0} (f : X → List Y) (x : X) (y : Y) (xs : List X) → In x xs → In y (f x) → In y (flat_map f xs)
In-flat_map f x y [] i j = absurd i
In-flat_map f x y (z ∷ zs) (inl e) j = In-append_left y (f z) (flat_map f zs) (subst (λ u. In y (f u)) (sym e) j)
In-flat_map f x y (z ∷ zs) (inr i) j = In-append_right y (f z) (flat_map f zs) (In-flat_map f x y zs i j)

pub flat_map-In : {X Y : Type 0} (f : X → List Y) (y : Y) (xs : List X) → In y (flat_map f xs) → (x : X) × In x xs × In y (f x)
flat_map-In f y [] i = absurd i
flat_map-In f y (x ∷ xs) i = elim (append-In y (f x) (flat_map f xs) i) [
  | inl j ↦ (x, inl refl, j)
  | inr j ↦ let found = flat_map-In f y xs j in (found.0, inr found.1, found.2)
]

pub In-lone : {X : Type 0} (x y : X) → In x (y ∷ []) → y ≡ x
In-lone x y (inl e) = e
In-lone x y (inr none) = absurd none

pub In-any : (k : ℕ) (ks : List ℕ) → list_any (eqb k) ks ≡ true → In k ks
In-any k [] e = cc
In-any k (j ∷ js) e = elim (or_cases (eqb k j) (list_any (eqb k) js) e) [
  | inl here ↦ inl (sym (eqb-true k j here))
  | inr rest ↦ inr (In-any k js rest)
]

pub any-In : (k : ℕ) (ks : List ℕ) → In k ks → list_any (eqb k) ks ≡ true
any-In k [] i = absurd i
any-In k (j ∷ js) (inl e) = or_left (eqb k j) (list_any (eqb k) js) (eq-eqb k j (sym e))
any-In k (j ∷ js) (inr i) = or_right (eqb k j) (list_any (eqb k) js) (any-In k js i)

pub In-Contains : {X : Type 0} (x : X) (xs : List X) → Contains xs x → In x xs
In-Contains x [] c = absurd (omega (arith, c.1))
In-Contains x (y ∷ ys) (zero, low, e) = inl e
In-Contains x (y ∷ ys) (suc k, low, e) = inr (In-Contains x ys (k, omega (arith, low), e))

pub Contains-In : {X : Type 0} (x : X) (xs : List X) → In x xs → Contains xs x
Contains-In x [] i = absurd i
Contains-In x (y ∷ ys) (inl e) = (zero, omega arith, e)
Contains-In x (y ∷ ys) (inr i) = let found = Contains-In x ys i in let low = found.1 in (suc found.0, omega (arith, low), found.2)
