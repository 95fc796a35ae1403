-- A row of cells, some of them good. What is sent with a repetition takes a class of them: all cells with one remainder by the repetition, its base.
-- Two classes of a repetition change places, and what fitted still fits: so it does not matter which free class the first of some repetitions gets, where
-- it divides the others.
use Rattle.std.proofs.Common.{◌≡◌, ◌≢◌, ℕ, ◌+◌, ◌*◌, ◌/◌, ◌%◌, ◌<◌, ◌==◌, ◌∙◌, cond, List, [], ◌∷◌, map, sym, ap, subst, inl, inr, arith}
use Rattle.std.proofs.lemmas.Nat.{div-mul-add, mod-mul-add, mul-add-lt, div_below, mod_below, div-add-mod'}
use Rattle.std.proofs.lemmas.Bool.Decides.{nat_tests}
use Rattle.std.proofs.lemmas.Bool.{cases_eq}

-- each of the first n cells of the class is a good one
abbrev pub IsWithin : ℕ → (ℕ → Type 0) → ℕ → ℕ → Type 0
IsWithin n Good r b = (c : ℕ) → c < n → c % r ≡ b → Good c

-- a good cell outside the class
abbrev pub Beside : (ℕ → Type 0) → ℕ → ℕ → ℕ → Type 0
Beside Good r b c = Good c × (c % r ≢ b)

-- the bases fit: one for each repetition and below it, whose class has good cells alone, none of them in a class before
abbrev pub Fits : ℕ → (ℕ → Type 0) → List ℕ → List ℕ → Type 0
Fits n Good [] [] = Unit {0}
Fits n Good [] (b ∷ bs) = ⊥
Fits n Good (r ∷ rs) [] = ⊥
Fits n Good (r ∷ rs) (b ∷ bs) = (b < r) × (IsWithin n Good r b) × (Fits n (Beside Good r b) rs bs)

-- r divides each
abbrev pub DividesEach : ℕ → List ℕ → Type 0
DividesEach r [] = Unit {0}
DividesEach r (m ∷ ms) = (m % r ≡ 0) × DividesEach r ms

-- the remainders a and b change places
abbrev pub turned : ℕ → ℕ → ℕ → ℕ
turned a b x = cond (x == a) b (cond (x == b) a x)

-- the cells of the classes a and b change places
abbrev pub swapped : ℕ → ℕ → ℕ → ℕ → ℕ
swapped r a b x = (x / r) * r + turned a b (x % r)

pub turned_below : (r a b x : ℕ) → a < r → b < r → x < r → turned a b x < r
turned_below r a b x p q h = grind (arith, nat_tests)

pub turned_back : (a b x : ℕ) → turned a b (turned a b x) ≡ x
turned_back a b x = grind (arith, nat_tests)

pub swapped-div : (r a b x : ℕ) → 0 < r → a < r → b < r → swapped r a b x / r ≡ x / r
swapped-div r a b x z p q = div-mul-add (x / r) r (turned a b (x % r)) (turned_below r a b (x % r) p q (mod_below x r z))

pub swapped-mod : (r a b x : ℕ) → 0 < r → a < r → b < r → swapped r a b x % r ≡ turned a b (x % r)
swapped-mod r a b x z p q = mod-mul-add (x / r) r (turned a b (x % r)) (turned_below r a b (x % r) p q (mod_below x r z))

pub swapped_back : (r a b x : ℕ) → 0 < r → a < r → b < r → swapped r a b (swapped r a b x) ≡ x
swapped_back r a b x z p q =
    ap (λ n. n * r + turned a b (swapped r a b x % r)) (swapped-div r a b x z p q)
    ∙ ap (λ n. x / r * r + turned a b n) (swapped-mod r a b x z p q)
    ∙ ap (λ n. x / r * r + n) (turned_back a b (x % r))
    ∙ div-add-mod' x r

-- x, whole repetitions further on
whole : (r j x : ℕ) → j * r + x ≡ (j + x / r) * r + x % r
whole r j x = omega (arith, div-add-mod' x r)

placed : (r j k t : ℕ) → (j + k) * r + t ≡ j * r + (k * r + t)
placed r j k t = omega arith

-- whole repetitions stay
pub swapped_along : (r a b j x : ℕ) → 0 < r → swapped r a b (j * r + x) ≡ j * r + swapped r a b x
swapped_along r a b j x z =
    let d : (j * r + x) / r ≡ j + x / r = ap (λ n. n / r) (whole r j x) ∙ div-mul-add (j + x / r) r (x % r) (mod_below x r z) in
    let m : (j * r + x) % r ≡ x % r = ap (λ n. n % r) (whole r j x) ∙ mod-mul-add (j + x / r) r (x % r) (mod_below x r z) in
    ap (λ n. n * r + turned a b ((j * r + x) % r)) d
    ∙ ap (λ n. (j + x / r) * r + turned a b n) m
    ∙ placed r j (x / r) (turned a b (x % r))

pub multiple : (n r : ℕ) → n % r ≡ 0 → n / r * r ≡ n
multiple n r d = omega (arith, div-add-mod' n r)

-- below a multiple of r it stays below
pub swapped_below : (r a b n x : ℕ) → 0 < r → a < r → b < r → n % r ≡ 0 → x < n → swapped r a b x < n
swapped_below r a b n x z p q d h =
    let e : n / r * r ≡ n = multiple n r d in
    let f : x / r < n / r = div_below x r (n / r) z (rw e h) in
    let g : x / r * r + turned a b (x % r) < r * (n / r) = mul-add-lt (x / r) r (turned a b (x % r)) (n / r) f (turned_below r a b (x % r) p q (mod_below x r z)) in
    omega arith

regroup : (q k r m c d : ℕ) → q * (k * r) ≡ q * m → q * m + d ≡ c → c ≡ (q * k) * r + d
regroup q k r m c d f g = omega arith

-- a cell of a class of a multiple of r, by whole repetitions of r
apart : (r m c d : ℕ) → m % r ≡ 0 → c % m ≡ d → c ≡ (c / m * (m / r)) * r + d
apart r m c d e k =
    let f : c / m * (m / r * r) ≡ c / m * m = ap (λ n. c / m * n) (multiple m r e) in
    regroup (c / m) (m / r) r m c d f (ap (λ n. c / m * m + n) (sym k) ∙ div-add-mod' c m)

along : (q k r m s : ℕ) → q * (k * r) ≡ q * m → (q * k) * r + s ≡ q * m + s
along q k r m s f = omega arith

-- a class of a multiple of r becomes one
pub class_moves : (r a b m c d : ℕ) → 0 < r → a < r → b < r → m % r ≡ 0 → d < m → c % m ≡ d → swapped r a b c % m ≡ swapped r a b d
class_moves r a b m c d z p q e h k =
    let f : c / m * (m / r * r) ≡ c / m * m = ap (λ n. c / m * n) (multiple m r e) in
    ap (λ n. swapped r a b n % m) (apart r m c d e k)
    ∙ ap (λ n. n % m) (swapped_along r a b (c / m * (m / r)) d z)
    ∙ ap (λ n. n % m) (along (c / m) (m / r) r m (swapped r a b d) f)
    ∙ mod-mul-add (c / m) m (swapped r a b d) (swapped_below r a b m d z p q e h)

-- what fits still fits when the classes a and b of r change places, under repetitions that r divides
pub fits_swapped : (n r a b : ℕ) → 0 < r → a < r → b < r → n % r ≡ 0 → (P Q : ℕ → Type 0) → ((c : ℕ) → c < n → P c → Q (swapped r a b c)) → (rs : List ℕ) → DividesEach r rs → (bs : List ℕ) → Fits n P rs bs → Fits n Q rs (map (swapped r a b) bs)
fits_swapped n r a b z p q e P Q f [] each [] h = tt
fits_swapped n r a b z p q e P Q f [] each (d ∷ bs) h = h
fits_swapped n r a b z p q e P Q f (m ∷ rs) each [] h = h
fits_swapped n r a b z p q e P Q f (m ∷ rs) each (d ∷ bs) h =
    let below : swapped r a b d < m = swapped_below r a b m d z p q each.0 h.0 in (
      below,
      (λ c less k.
          let s = swapped r a b c in
          subst Q (swapped_back r a b c z p q)
          (f s (swapped_below r a b n c z p q e less)
          (h.1 s (swapped_below r a b n c z p q e less)
          (class_moves r a b m c (swapped r a b d) z p q each.0 below k ∙ swapped_back r a b d z p q)))),
      fits_swapped n r a b z p q e (Beside P m d) (Beside Q m (swapped r a b d))
          (λ c less pc. (
            f c less pc.0,
            λ k. pc.1
                (sym (ap (λ x. x % m) (swapped_back r a b c z p q))
                ∙ class_moves r a b m (swapped r a b c) (swapped r a b d) z p q each.0 below k
                ∙ swapped_back r a b d z p q),
          ))
          rs each.1 bs h.2,
    )

turned_at : (a b : ℕ) → turned a b b ≡ a
turned_at a b = grind (arith, nat_tests)

turned_other : (a b x : ℕ) → x ≢ a → x ≢ b → turned a b x ≡ x
turned_other a b x p q = grind (arith, nat_tests)

-- a cell outside a goes outside b, into a good one
goes_beside : (n r a b : ℕ) → 0 < r → a < r → b < r → n % r ≡ 0 → (P : ℕ → Type 0) → IsWithin n P r a → (c : ℕ) → c < n → Beside P r a c → Beside P r b (swapped r a b c)
goes_beside n r a b z p q e P within c less pc =
    elim (cases_eq (c % r) b) [
      | inl k ↦
          let m : swapped r a b c % r ≡ a = swapped-mod r a b c z p q ∙ ap (turned a b) k ∙ turned_at a b in (
            within (swapped r a b c) (swapped_below r a b n c z p q e less) m,
            λ i. pc.1 (k ∙ sym i ∙ m),
          )
      | inr k ↦
          let t : turned a b (c % r) ≡ c % r = turned_other a b (c % r) pc.1 k in
          let m : swapped r a b c ≡ c = ap (λ x. c / r * r + x) t ∙ div-add-mod' c r in (
            subst P (sym m) pc.0,
            λ i. k (sym (ap (λ x. x % r) m) ∙ i),
          )
    ]

-- whichever free class the first repetition gets, the others fit if they did beside another
pub exchange : (n r b : ℕ) → 0 < r → n % r ≡ 0 → b < r → (P : ℕ → Type 0) → IsWithin n P r b → (rs : List ℕ) → DividesEach r rs → (bs : List ℕ) → Fits n P (r ∷ rs) bs → (cs : List ℕ) × Fits n (Beside P r b) rs cs
exchange n r b z e q P within rs each [] h = absurd h
exchange n r b z e q P within rs each (a ∷ bs) h =
    (map (swapped r a b) bs, fits_swapped n r a b z h.0 q e (Beside P r a) (Beside P r b) (goes_beside n r a b z h.0 q e P h.1) rs each bs h.2)
