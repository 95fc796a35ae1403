-- Lines of wishes: each line of a file is told once, so a wish that is not refused is found by its line.
use Rattle.std.proofs.Common.{◌≡◌, ◌⊎◌, ◌≤◌, ◌+◌, ◌∙◌, ℕ, zero, suc, Bool, true, false, List, [], ◌∷◌, ◌++◌, filter, flat_map, take, Some, None, Result, Ok, Err, refl, sym, ap, subst, inl, inr, arith, true≢false}
use Rattle.std.specs.List.{cons_option}
use Rattle.std.proofs.lemmas.Bool.{cases_Bool}
use Rattle.fr_base.specs.Tables.{Table}
use Rattle.fr_base.specs.Keys.{owned}
use Rattle.fr_base.specs.ImportRows.{records_of}
use Rattle.fr_base.specs.OwnRows.{OwnRows}
use Rattle.fr_base.specs.Wishes.{spells_wishes, wishes_from, wishes_below, wishes_of_records, wishes_of_body}
use Rattle.fr_base.specs.RefusedWishes.{Counted, count_wish, judged, judge, asked_at, asked_of}
use Rattle.fr_base.specs.declared.limits.TheConstants.{MAX_ROWS}
use Rattle.fr_base.specs.declared.params.Params.{Params}
use Rattle.fr_base.specs.declared.refusal.Refusal.{Refusal}
use Rattle.fr_base.specs.declared.wish.Asked.{Asked}
use Rattle.fr_base.specs.declared.wish.Wish.{Wish}
use Rattle.fr_base.specs.declared.wish.WishRead.{WishRead}

-- ---- members of lists

abbrev pub Member : {X : Type 0} → X → List X → Type 0
Member x [] = ⊥
Member x (y ∷ ys) = (x ≡ y) ⊎ Member x ys

pub member-front : {X : Type 0} (x : X) (xs ys : List X) → Member x xs → Member x (xs ++ ys)
member-front x [] ys h = absurd h
member-front x (y ∷ xs) ys h = elim h [ inl here ↦ inl here | inr later ↦ inr (member-front x xs ys later) ]

pub member-back : {X : Type 0} (x : X) (xs ys : List X) → Member x ys → Member x (xs ++ ys)
member-back x [] ys h = h
member-back x (y ∷ xs) ys h = inr (member-back x xs ys h)

pub member-either : {X : Type 0} (x : X) (xs ys : List X) → Member x (xs ++ ys) → Member x xs ⊎ Member x ys
member-either x [] ys h = inr h
member-either x (y ∷ xs) ys h = elim h [
  | inl here ↦ inl (inl here)
  | inr later ↦ elim (member-either x xs ys later) [
    | inl front ↦ inl (inr front)
    | inr back ↦ inr back
  ]
]

pub member-filter : {X : Type 0} (t : X → Bool) (x : X) (xs : List X) → Member x (filter t xs) → Member x xs × (t x ≡ true)
member-filter t x [] h = absurd h
member-filter t x (y ∷ xs) h = elim (cases_Bool (t y)) [
  | inl holds ↦
      let at : Member x (y ∷ filter t xs) = rw holds at h in
      elim at [
        | inl here ↦ (inl here, ap t here ∙ holds)
        | inr later ↦ let more = member-filter t x xs later in (inr more.0, more.1)
      ]
  | inr lacks ↦ let more = member-filter t x xs (rw lacks at h) in (inr more.0, more.1)
]

pub member-kept : {X : Type 0} (t : X → Bool) (x : X) (xs : List X) → Member x xs → t x ≡ true → Member x (filter t xs)
member-kept t x [] h pass = absurd h
member-kept t x (y ∷ xs) h pass = elim (cases_Bool (t y)) [
  | inl holds ↦ elim h [
    | inl here ↦ rw holds (inl here)
    | inr later ↦ rw holds (inr (member-kept t x xs later pass))
  ]
  | inr lacks ↦ elim h [
    | inl here ↦ absurd (true≢false (sym pass ∙ ap t here ∙ lacks))
    | inr later ↦ rw lacks (member-kept t x xs later pass)
  ]
]

pub member-flat : {X Y : Type 0} (g : Y → List X) (x : X) (ys : List Y) → Member x (flat_map g ys) → (y : Y) × Member y ys × Member x (g y)
member-flat g x [] h = absurd h
member-flat g x (y ∷ ys) h = elim (member-either x (g y) (flat_map g ys) h) [
  | inl front ↦ (y, inl refl, front)
  | inr back ↦ let more = member-flat g x ys back in (more.0, inr more.1, more.2)
]

pub flat-member : {X Y : Type 0} (g : Y → List X) (x : X) (y : Y) (ys : List Y) → Member y ys → Member x (g y) → Member x (flat_map g ys)
flat-member g x y [] h at = absurd h
flat-member g x y (z ∷ ys) h at = elim h [
  | inl here ↦ member-front x (g z) (flat_map g ys) (subst (λ k. Member x (g k)) here at)
  | inr later ↦ member-back x (g z) (flat_map g ys) (flat-member g x y ys later at)
]

-- ---- lines

-- the lines go on from this one
abbrev pub AreNumbered : ℕ → List WishRead → Type 0
AreNumbered k [] = Unit {0}
AreNumbered k (read ∷ reads) = (read.line ≡ k) × AreNumbered (suc k) reads

from-numbered : (p : Params) (k : ℕ) (records : List (List (List ℕ))) → AreNumbered k (wishes_from p k records)
unfolding wishes_from
from-numbered p k [] = tt
from-numbered p k (fields ∷ records) = (refl, from-numbered p (suc k) records)

take-numbered : (n k : ℕ) (reads : List WishRead) → AreNumbered k reads → AreNumbered k (take n reads)
take-numbered zero k reads h = tt
take-numbered (suc n) k [] h = tt
take-numbered (suc n) k (read ∷ reads) h = (h.0, take-numbered n (suc k) reads h.1)

below-numbered : (p : Params) (spelled : Bool) (records : List (List (List ℕ))) → (k : ℕ) × AreNumbered k (wishes_below p spelled records)
unfolding wishes_below
below-numbered p true records = (2, from-numbered p 2 records)
below-numbered p false records = (1, (refl, tt))

records-numbered : (p : Params) (records : List (List (List ℕ))) → (k : ℕ) × AreNumbered k (wishes_of_records p records)
unfolding wishes_of_records
records-numbered p [] = below-numbered p false []
records-numbered p (first ∷ records) = below-numbered p (spells_wishes first) records

pub body-numbered : (p : Params) (body : List ℕ) → (k : ℕ) × AreNumbered k (wishes_of_body p body)
unfolding wishes_of_body
body-numbered p body =
    let all = records-numbered p (records_of body) in
    (all.0, take-numbered (MAX_ROWS + 1) all.0 (wishes_of_records p (records_of body)) all.1)

pub judge-numbered : (own : OwnRows) (counted : Table owned Counted) (k : ℕ) (reads : List WishRead) → AreNumbered k reads → AreNumbered k (judge own counted reads)
unfolding judge
judge-numbered own counted k [] h = tt
judge-numbered own counted k (read ∷ reads) h = (h.0, judge-numbered own (count_wish own.supplier counted (judged own counted read.wish)) (suc k) reads h.1)

-- ---- wishes by their lines

-- a wish is not refused exactly where a line says it
pub record IsRead (a : Asked) (read : WishRead) : Type 0 where
  pub line : read.line ≡ a.line
  pub wish : read.wish ≡ Ok a.wish

pub asked-read : (reads : List WishRead) (a : Asked) → Member a (asked_of reads) → (read : WishRead) × Member read reads × IsRead a read
asked-read [] a h = absurd h
asked-read (read ∷ reads) a h =
    let more : Member a (asked_of reads) → (r : WishRead) × Member r (read ∷ reads) × IsRead a r = λ at. let x = asked-read reads a at in (x.0, inr x.1, x.2) in
    (elim read.wish as (λ w. read.wish ≡ w → Member a (cons_option (asked_at read.line w) (asked_of reads)) → (r : WishRead) × Member r (read ∷ reads) × IsRead a r) [
      | Ok wish ↦ λ e at. elim at [
        | inl here ↦ (read, inl refl, record { line = sym (ap (λ (z : Asked). z.line) here); wish = e ∙ ap Ok (sym (ap (λ (z : Asked). z.wish) here)) })
        | inr later ↦ more later
      ]
      | Err refusal ↦ λ e at. more at
    ]) refl h

pub read-asked : (reads : List WishRead) (a : Asked) (read : WishRead) → Member read reads → IsRead a read → Member a (asked_of reads)
read-asked [] a read h is = absurd h
read-asked (x ∷ reads) a read h is = elim h [
  | inl here ↦
      let w : x.wish ≡ Ok a.wish = sym (ap (λ (z : WishRead). z.wish) here) ∙ is.wish in
      let l : a ≡ record { line = x.line; wish = a.wish } = λ i. record { line = (sym is.line ∙ ap (λ (z : WishRead). z.line) here) i; wish = a.wish } in
      subst (λ r. Member a (cons_option (asked_at x.line r) (asked_of reads))) (sym w) (inl l)
  | inr later ↦
      let more = read-asked reads a read later is in
      elim (asked_at x.line x.wish) as (λ o. Member a (cons_option o (asked_of reads))) [
        | None ↦ more
        | Some y ↦ inr more
      ]
]

pub line-from : (k : ℕ) (reads : List WishRead) (read : WishRead) → AreNumbered k reads → Member read reads → k ≤ read.line
line-from k [] read h at = absurd at
line-from k (x ∷ reads) read h at = elim at [
  | inl here ↦ omega (arith, ap (λ (z : WishRead). z.line) here, h.0)
  | inr later ↦ omega (arith, line-from (suc k) reads read h.1 later)
]

-- of one line there is one
pub one-line : (k : ℕ) (reads : List WishRead) (x y : WishRead) → AreNumbered k reads → Member x reads → Member y reads → x.line ≡ y.line → x ≡ y
one-line k [] x y h at in_too same = absurd at
one-line k (z ∷ reads) x y h at in_too same = elim at [
  | inl here ↦ elim in_too [
    | inl too ↦ here ∙ sym too
    | inr later ↦ absurd (omega (arith, line-from (suc k) reads y h.1 later, ap (λ (r : WishRead). r.line) here, h.0, same))
  ]
  | inr here ↦ elim in_too [
    | inl too ↦ absurd (omega (arith, line-from (suc k) reads x h.1 here, ap (λ (r : WishRead). r.line) too, h.0, same))
    | inr later ↦ one-line (suc k) reads x y h.1 here later same
  ]
]

-- and one wish
pub one-asked : (k : ℕ) (reads : List WishRead) (a b : Asked) → AreNumbered k reads → Member a (asked_of reads) → Member b (asked_of reads) → a.line ≡ b.line → a ≡ b
one-asked k reads a b h at in_too same =
    let x = asked-read reads a at in
    let y = asked-read reads b in_too in
    let reads_same = one-line k reads x.0 y.0 h x.1 y.1 (x.2.line ∙ same ∙ sym y.2.line) in
    let wishes : Ok a.wish ≡ Ok b.wish = sym x.2.wish ∙ ap (λ (z : WishRead). z.wish) reads_same ∙ y.2.wish in
    λ i. record { line = same i; wish = same_ok a.wish b.wish wishes i }
  where
    same_ok : (v w : Wish) → ◌≡◌ {A = Result Wish Refusal} (Ok v) (Ok w) → v ≡ w
    same_ok v w e = cc
