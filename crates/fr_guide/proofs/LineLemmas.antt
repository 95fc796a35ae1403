-- Lines of a file: how many there are, and numbers of lines that are in order.
use Rattle.std.proofs.Common.{◌≡◌, ◌∙◌, ap, sym, subst, ℕ, ◌≤◌, ◌<◌, ◌+◌, ◌-◌, ◌^◌, ◌++◌, Bool, true, false, List, [], ◌∷◌, length, take, drop, arith}
use Rattle.std.proofs.lemmas.List.{map-append, take_all}
use Rattle.std.specs.Prelude.{if◌then◌else◌, slice_index}
use Rattle.fr_guide.specs.Rows.{AreInOrder, ends_line, line_count, line_ends, numbers_of}
use Rattle.fr_guide.specs.declared.line_faults.LineFaults.{LineFaults}

-- a byte ends one line at most
pub line_ends-most : (bytes : List ℕ) → line_ends bytes ≤ length bytes
unfolding line_ends
line_ends-most [] = omega arith
line_ends-most (b ∷ bytes) = by (ends_line b bytes) (line_ends-most bytes)
  where
    by : (ends : Bool) → line_ends bytes ≤ length bytes → (if ends then 1 else 0) + line_ends bytes ≤ length (b ∷ bytes)
    by true most = omega (arith, most)
    by false most = omega (arith, most)

-- numbers in order, and one more
pub in_order-more : (least most next : ℕ) (numbers : List ℕ) → AreInOrder least most numbers → most ≤ next → AreInOrder least next (numbers ++ next ∷ [])
unfolding AreInOrder
in_order-more least most next [] order more = (omega (arith, order, more), omega arith)
in_order-more least most next (n ∷ numbers) order more = (order.0, in_order-more n most next numbers order.1 more)

-- the same, up to a later line
pub in_order-wider : (least most next : ℕ) (numbers : List ℕ) → AreInOrder least most numbers → most ≤ next → AreInOrder least next numbers
unfolding AreInOrder
in_order-wider least most next [] order more = omega (arith, order, more)
in_order-wider least most next (n ∷ numbers) order more = (order.0, in_order-wider n most next numbers order.1 more)

-- one number
pub one_in_order : (least n most : ℕ) → least ≤ n → n ≤ most → AreInOrder least most (n ∷ [])
unfolding AreInOrder
one_in_order least n most from to = (from, to)

-- the line of what is told of one more record
pub next_line : (told new : List LineFaults) (one : LineFaults) (least most next : ℕ) → new ≡ told ++ one ∷ [] → one.line ≡ next → most ≤ next
    → AreInOrder least most (numbers_of told) → AreInOrder least next (numbers_of new)
next_line told new one least most next grew is later order =
    let numbers : numbers_of new ≡ numbers_of told ++ next ∷ [] = ap numbers_of grew ∙ map-append (λ t. t.line) told (one ∷ []) ∙ ap (λ n. numbers_of told ++ n ∷ []) is in
    subst (AreInOrder least next) (sym numbers) (in_order-more least most next (numbers_of told) order later)

-- all behind the first
abbrev pub behind : List ℕ → List ℕ
behind bytes = take (length bytes - 1) (drop 1 bytes)

-- the first byte ends a line, or does not
pub first_ends : (rest : List ℕ) (ends : Bool) → 1 ≤ length rest → ends ≡ ends_line (slice_index rest 0) (behind rest)
    → line_ends rest ≡ (if ends then 1 else 0) + line_ends (behind rest)
unfolding line_ends
first_ends [] ends some is = absurd (omega (arith, some))
first_ends (b ∷ bytes) ends some is =
    let all : behind (b ∷ bytes) ≡ bytes = take_all (length (b ∷ bytes) - 1) bytes (omega arith) in
    let here : ends ≡ ends_line b bytes = subst (λ l. ends ≡ ends_line b l) all is in
    ap (λ e. (if e then 1 else 0) + line_ends bytes) (sym here) ∙ ap (λ l. (if ends then 1 else 0) + line_ends l) (sym all)

-- lines can be counted
pub room_in : (bytes : List ℕ) (total : ℕ) → total ≡ line_count bytes → length bytes < 2 ^ 63 → total < 2 ^ 64
room_in bytes total is short = let most = line_ends-most bytes in omega (arith, is, short, most)
