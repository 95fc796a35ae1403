-- Writes and flushes that failed, and faults that are none of writing.
use Rattle.std.proofs.Common.{◌≡◌, Bool, cond, false, true≢false, ℕ, List, Option, Result, Ok, Err, inl, inr, refl, sym, subst, ◌⊎◌}
use Rattle.std.specs.Prelude.{◌↔◌, IsOk, OnErr, ⊤}
use Rattle.std.specs.declared.io.Error.{Error}
use Rattle.fr_text.specs.Writing.{Ends, IsWriting, Progress, Writes}
use Rattle.fr_text.specs.declared.output.WriteFailed.{WriteFailed as Unwritten}
use Rattle.fr_http.specs.Operations.{MakesOperation}
use Rattle.fr_http.specs.Head.{HeadData}
use Rattle.fr_http.specs.Reading.{HasReceived, LacksBody}
use Rattle.fr_http.specs.Writes.{Flushes, LastFailed, MayFail, MayFailAsking}
use Rattle.fr_http.specs.declared.fault.LinkFault.{LinkFault}
use Rattle.fr_http.specs.declared.fault.LinkFault.TheVariants.{Truncated, ReadFailed, TooManyReads, WriteFailed, NoMemory}
use Rattle.fr_http.specs.declared.fault.Unasked.{Unasked}
use Rattle.fr_http.specs.declared.fault.Unasked.TheVariants.{Engine, Explained, Fault, Page, Refused}
use Rattle.fr_http.specs.Reads.{MayEndAsking, Reads}
use Rattle.fr_http.proofs.ServeLaws.{is_fault, why_not}
use Rattle.fr_http.specs.declared.routes.Route.{Route}

module _ {W : Type 0} (writes : Writes W) (flushes : Flushes W) where
  -- a text that was not written whole
  pub write_failed : (from : Progress W) (done : Result ⊤ Unwritten) (why : Unwritten) (last : W) (left : ℕ) → done ≡ Err why → IsWriting writes from done last left
      → LastFailed writes flushes last
  write_failed from done why last left is written = inl (written.to, why, subst (λ d. Ends writes written.to d last) is written.ends)

  -- a flush that gave an error
  pub flush_failed : (mid last : W) (done : Result ⊤ Unwritten) (given : Result ⊤ Error) → flushes mid given last → IsOk done ↔ IsOk given → OnErr done (LastFailed writes flushes last)
  flush_failed mid last (Ok done) given went alike = tt
  flush_failed mid last (Err failed) (Err e) went alike = inr (mid, e, went)
  flush_failed mid last (Err failed) (Ok done) went alike = absurd (subst (λ (b : Bool). cond b ⊥ (Unit {0})) (alike.1 refl) tt)

  -- a fault behind a call that failed
  pub may_fail : (fault : LinkFault) (last : W) → LastFailed writes flushes last → MayFail writes flushes fault last
  may_fail Truncated last failed = tt
  may_fail ReadFailed last failed = tt
  may_fail TooManyReads last failed = tt
  may_fail (WriteFailed asked) last failed = failed
  may_fail (NoMemory asked) last failed = tt

  -- where no head came
  pub unreceived : (input left : Option (List ℕ)) (unasked : Unasked) (last : W) → HasReceived input left (Err unasked) → MayFailAsking writes flushes unasked last
  unreceived input left (Engine rejection) last has = tt
  unreceived input left (Page part held) last has = tt
  unreceived input left (Explained word) last has = tt
  unreceived input left (Refused refusal) last has = tt
  unreceived input left (Fault Truncated) last has = tt
  unreceived input left (Fault ReadFailed) last has = tt
  unreceived input left (Fault TooManyReads) last has = tt
  unreceived input left (Fault (WriteFailed asked)) last (bytes, consumed, fails, size) = absurd fails
  unreceived input left (Fault (NoMemory asked)) last has = tt

  -- where the body is not whole
  pub unbodied : (n : ℕ) (bytes : List ℕ) (left : Option (List ℕ)) (fault : LinkFault) (last : W) → LacksBody n bytes left fault → MayFail writes flushes fault last
  unbodied n bytes left Truncated last lacks = tt
  unbodied n bytes left ReadFailed last lacks = tt
  unbodied n bytes left TooManyReads last lacks = tt
  unbodied n bytes left (WriteFailed asked) last lacks = absurd lacks
  unbodied n bytes left (NoMemory asked) last lacks = tt

  -- what is no fault is none of writing
  unfailed : (unasked : Unasked) (last : W) → is_fault unasked ≡ false → MayFailAsking writes flushes unasked last
  unfailed (Engine rejection) last none = tt
  unfailed (Page part held) last none = tt
  unfailed (Explained word) last none = tt
  unfailed (Refused refusal) last none = tt
  unfailed (Fault fault) last none = absurd (true≢false none)

  -- where the text is no request
  pub unmade : (route : Route) (path : List ℕ) (fields : List (List ℕ × List ℕ)) (body : List ℕ) (unasked : Unasked) (last : W) → MakesOperation route path fields body (Err unasked) → MayFailAsking writes flushes unasked last
  unmade route path fields body unasked last (inl lacks) = subst (λ u. MayFailAsking writes flushes u last) (sym lacks) tt
  unmade route path fields body unasked last (inr none) = unfailed unasked last (why_not route path fields body unasked none)

-- a fault of reading is no cause that a route asks nothing
pub unread : {R : Type 0} (reads : Reads R) (route : Route) (path : List ℕ) (fields : List (List ℕ × List ℕ)) (body : List ℕ) (unasked : Unasked) (new : R) (left : ℕ) → MakesOperation route path fields body (Err unasked)
    → MayEndAsking reads unasked new left
unread reads route path fields body unasked new left (inl lacks) = subst (λ u. MayEndAsking reads u new left) (sym lacks) tt
unread reads route path fields body unasked new left (inr none) = unended unasked (why_not route path fields body unasked none)
  where
    unended : (u : Unasked) → is_fault u ≡ false → MayEndAsking reads u new left
    unended (Engine rejection) none = tt
    unended (Page part held) none = tt
    unended (Explained word) none = tt
    unended (Refused refusal) none = tt
    unended (Fault fault) none = absurd (true≢false none)
