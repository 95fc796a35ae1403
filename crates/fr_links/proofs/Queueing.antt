-- What waits for its turn: over several calls, and as the first is taken.
use Rattle.std.proofs.Common.{◌≡◌, ◌∙◌, ℕ, false, List, [], ◌∷◌, ◌++◌, Option, None, Some, IfNone, IfSome, Bor, nat_lt, length, get_or, drop, sym, ap, append-nil, append_assoc}
use Rattle.std.specs.Option.{is_some, option_copied}
use Rattle.std.specs.List.{AllByRecursion}
use Rattle.fr_links.specs.Connections.{Queues}
use Rattle.fr_links.specs.declared.table.Table.{Table}

module _ {S : Type 0} where
  -- nothing comes to wait
  pub stands : (old new : Table S) → new.ready.items ≡ old.ready.items → Queues old new
  stands old new same = record { more = []; behind = same ∙ sym (append-nil old.ready.items) }

  -- one comes to wait
  pub stands_behind : (old new : Table S) (key : ℕ) → new.ready.items ≡ old.ready.items ++ key ∷ [] → Queues old new
  stands_behind old new key grown = record { more = key ∷ []; behind = grown }

  pub queues_on : (a b c : Table S) → Queues a b → Queues b c → Queues a c
  queues_on a b c p q = record {
    more = p.more ++ q.more;
    behind = q.behind ∙ ap (λ t. t ++ q.more) p.behind ∙ append_assoc a.ready.items p.more q.more;
  }

-- one more is passed
pub all_passed : (P : ℕ → Type 0) (xs : List ℕ) (x : ℕ) → AllByRecursion P xs → P x → AllByRecursion P (xs ++ x ∷ [])
all_passed P [] x all here = (here, tt)
all_passed P (y ∷ ys) x all here = (all.0, all_passed P ys x all.1 here)

-- nothing was found
pub when_none : {X : Type 0} (found : Option X) (P : Type 0) → is_some found ≡ false → IfNone found P → P
when_none None P none here = here
when_none (Some x) P none here = absurd (cc)

-- the front stands before the rest
pub stands_first : (xs rest : List ℕ) (front : Option (Bor ℕ)) (key : ℕ) → Some key ≡ option_copied front → is_some front ≡ nat_lt 0 (length xs)
    → IfSome front (λ x. x.now ≡ get_or xs 0 x.now) → rest ≡ drop 1 xs → xs ≡ key ∷ rest
stands_first xs rest None key copied some found is = absurd (cc)
stands_first [] rest (Some x) key copied some found is = absurd (cc)
stands_first (y ∷ ys) rest (Some x) key copied some found is = let same : key ≡ x.now = cc in cc
