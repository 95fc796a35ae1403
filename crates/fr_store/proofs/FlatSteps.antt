-- Copies of frames one after the other, inside a transaction.
use Rattle.std.proofs.Common.{◌≡◌, ℕ, suc, ◌+◌, ◌<◌, Bool, true, false, ◌||◌, List, [], ◌∷◌, ◌++◌, take, length, get_or, Result, Ok, Err, IsTrue, refl, sym, ap, ◌∙◌, subst, arith, true≢false}
use Rattle.std.specs.Prelude.{OnOk}
use Rattle.std.specs.BTreeMap.{is_at}
use Rattle.std.specs.Cmp.Lexicographic.{slice_cmp}
use Rattle.std.specs.Ordering.{nat_cmp}
use Rattle.std.proofs.lemmas.List.Folds.{list_any-append}
use Rattle.std.proofs.Math.Bool.{or-false}
use Rattle.std.proofs.Math.Seq.{take-suc}
use Rattle.sqlite.specs.State.{State, KeepsCommit}
use Rattle.fr_base.specs.Tables.{Table}
use Rattle.fr_base.specs.Keys.{owned}
use Rattle.fr_base.specs.Cluster.{Cluster}
use Rattle.fr_base.specs.Book.{Frame, Variant, Book}
use Rattle.fr_base.specs.declared.name.Name.{Name}
use Rattle.fr_store.specs.Applying.{GoesOn}
use Rattle.fr_store.specs.Flat.{HasMore, IsPart, MayOpen, Reaches, filled, has_name}
use Rattle.fr_store.specs.Reading.{Stands}
use Rattle.fr_store.proofs.FlatLemmas.{same_name}
use Rattle.fr_store.proofs.InsideLemmas.{keeps_then}

-- ---- what was copied, and what is copied then

abbrev pub Frames : Type 0
Frames = Table owned Frame

-- more frames of the other variant are there, and these are reached
abbrev pub Filled : Name → Name → (Frames → Type 0) → (Frames → Frames → Type 0) → State → State → Type 0
Filled v from Given Reached old new =
    (c : Cluster) (b : Book) (x : Variant) (part : Frames) → MayOpen b v from x → Given x.frames → IsPart part x.frames → Stands old c (filled b v x part) → HasMore b v x part (Reached x.frames) new c

module _ (v from : Name) where
  -- nothing is copied yet
  pub filled_none : (Given : Frames → Type 0) (Reached : Frames → Frames → Type 0) (s : State) → ((whole part : Frames) → Reached whole part) → Filled v from Given Reached s s
  filled_none Given Reached s all c b x part may given within stands = record { frames = part; within = within; more = λ k f there. there; reached = all x.frames part; stands = stands }

  pub filled_then : (Given First Second : Frames → Type 0) (One Two Both : Frames → Frames → Type 0) (old mid new : State) → ((whole : Frames) → Given whole → First whole) → ((whole : Frames) → Given whole → Second whole)
      → ((whole part more : Frames) → IsPart part more → One whole part → Two whole more → Both whole more) → Filled v from First One old mid → Filled v from Second Two mid new → Filled v from Given Both old new
  filled_then Given First Second One Two Both old mid new to_first to_second join first second c b x part may given within stands =
      let one = first c b x part may (to_first x.frames given) within stands in
      let two = second c b x one.frames may (to_second x.frames given) one.within one.stands in
      record { frames = two.frames; within = two.within; more = λ k f there. two.more k f (one.more k f there); reached = join x.frames one.frames two.frames two.more one.reached two.reached; stands = two.stands }

  -- so far the frames were copied, and nothing is committed
  pub record HasFilled (Given : Frames → Type 0) (Reached : Frames → Frames → Type 0) (old now : State) : Type 0 where
    pub keeps : KeepsCommit old now
    pub goes : GoesOn now
    pub fills : Filled v from Given Reached old now

  pub one_more : (Given First Second : Frames → Type 0) (One Two Both : Frames → Frames → Type 0) (old mid new : State) → ((whole : Frames) → Given whole → First whole) → ((whole : Frames) → Given whole → Second whole)
      → ((whole part more : Frames) → IsPart part more → One whole part → Two whole more → Both whole more) → HasFilled First One old mid → KeepsCommit mid new → GoesOn new → Filled v from Second Two mid new → HasFilled Given Both old new
  one_more Given First Second One Two Both old mid new to_first to_second join first keeps goes second = record {
    keeps = keeps_then old mid new first.keeps keeps;
    goes = goes;
    fills = filled_then Given First Second One Two Both old mid new to_first to_second join first.fills second;
  }

-- ---- the suppliers one after the other

module _ (suppliers : List Name) (at : ℕ) (s : Name) (low : at < length suppliers) (is : get_or suppliers at s ≡ s) where
  next : at + 1 ≡ suc at
  next = omega arith

  more_names : (t : Name) → has_name t (take (at + 1) suppliers) ≡ (has_name t (take at suppliers) || is_at (slice_cmp nat_cmp t) s)
  more_names t =
      ap (λ n. has_name t (take n suppliers)) next ∙ ap (has_name t) (take-suc suppliers at s low ∙ ap (λ x. take at suppliers ++ x ∷ []) is)
      ∙ list_any-append (is_at (slice_cmp nat_cmp t)) (take at suppliers) (s ∷ []) ∙ ap (λ b. has_name t (take at suppliers) || b) (or-false (is_at (slice_cmp nat_cmp t) s))

  -- one of the first, or the next
  pub next_supplier : (P : Name → Type 0) (t : Name) → IsTrue (has_name t (take (at + 1) suppliers)) → (IsTrue (has_name t (take at suppliers)) → P t) → P s → P t
  next_supplier P t has first its = by_test (has_name t (take at suppliers)) (is_at (slice_cmp nat_cmp t) s) refl refl (sym (more_names t) ∙ has)
    where
      by_test : (a b : Bool) → has_name t (take at suppliers) ≡ a → is_at (slice_cmp nat_cmp t) s ≡ b → (a || b) ≡ true → P t
      by_test true b there tie any = first there
      by_test false true there tie any = subst P (sym (same_name t s tie)) its
      by_test false false there tie any = absurd (true≢false (sym any))

-- what was reached stays so
pub still_reached : (whole part more : Frames) (k : Name × Name) → IsPart part more → Reaches whole part k → Reaches whole more k
still_reached whole part more k within reached f there = within k f (reached f there)

-- a call that did not fail
pub did : {X E : Type 0} (P : Type 0) (r : Result X E) (x : X) → r ≡ Ok x → OnOk r P → P
did P r x is h = subst (λ r. OnOk r P) is h

pub ok_map : {X E : Type 0} (P Q : Type 0) (r : Result X E) → (P → Q) → OnOk r P → OnOk r Q
ok_map P Q (Ok x) so h = so h
ok_map P Q (Err e) so h = tt

-- more than that is reached
pub more_of : (b : Book) (v : Name) (x : Variant) (part : Frames) (One Two : Frames → Type 0) (s : State) (c : Cluster) → ((frames : Frames) → One frames → Two frames) → HasMore b v x part One s c → HasMore b v x part Two s c
more_of b v x part One Two s c so h = record { frames = h.frames; within = h.within; more = h.more; reached = so h.frames h.reached; stands = h.stands }
