-- Reads: how a connection is read, read by read. One that is interrupted is tried again, up to a bound on all reads; and why
-- reading ends with a fault.
use Rattle.std.specs.Prelude.{◌≡◌, ◌≢◌, ℕ, zero, suc, ◌+◌, ◌-◌, ◌≤◌, List, Result, Ok, Err, IfErr, ⊤}
use Rattle.std.specs.IoError.{error_kind}
use Rattle.std.specs.declared.io.Error.{Error}
use Rattle.std.specs.declared.io.ErrorKind.TheVariants.{Interrupted}
use Rattle.fr_http.specs.declared.fault.LinkFault.{LinkFault}
use Rattle.fr_http.specs.declared.fault.LinkFault.TheVariants.{ReadFailed, TooManyReads}
use Rattle.fr_http.specs.declared.fault.Unasked.{Unasked}
use Rattle.fr_http.specs.declared.fault.Unasked.TheVariants.{Fault}
use Rattle.fr_http.specs.declared.input.Input.{Input}

-- how a read may make of a reader the next one: what stands in the piece then, and what the read gives
abbrev pub Reads : Type 0 → Type 1
Reads R = R → List ℕ → Result ℕ Error → R → Type 0

module _ {R : Type 0} (reads : Reads R) where
  -- So many reads were made, one after another.
  abbrev pub AreReads : ℕ → R → R → Type 0
  AreReads zero old new = new ≡ old
  AreReads (suc n) old new = (mid : R) × AreReads n old mid × ((piece : List ℕ) × (given : Result ℕ Error) × reads mid piece given new)

  -- So many reads were made, one after another, and each was interrupted.
  abbrev pub AreInterrupted : ℕ → R → R → Type 0
  AreInterrupted zero old new = new ≡ old
  AreInterrupted (suc n) old new =
      (mid : R) × AreInterrupted n old mid × ((piece : List ℕ) × (e : Error) × reads mid piece (Err e) new × (error_kind e ≡ Interrupted))

  -- A read failed, otherwise than by an interruption, and it was the last.
  abbrev pub HasFailed : R → R → Type 0
  HasFailed old new = (piece : List ℕ) × (e : Error) × reads old piece (Err e) new × (error_kind e ≢ Interrupted)

  -- The piece was read there, where so many reads were left: one read more gave so many bytes, or failed; or none was left.
  abbrev pub EndsRead : R → ℕ → List ℕ → Result ℕ LinkFault → R → ℕ → Type 0
  EndsRead old most piece (Ok n) new left = reads old piece (Ok n) new × (left + 1 ≡ most)
  EndsRead old most piece (Err ReadFailed) new left = HasFailed old new × (left + 1 ≡ most)
  EndsRead old most piece (Err TooManyReads) new left = (new ≡ old) × (most ≡ 0) × (left ≡ 0)
  EndsRead old most piece (Err _) new left = ⊥

  -- A piece was read of an input: reads that were interrupted, and then that one. Each counts.
  pub record IsRead (old : Input R) (piece : List ℕ) (given : Result ℕ LinkFault) (new : Input R) : Type 0 where
    pub count : ℕ
    pub mid : R
    pub rest : ℕ
    pub interrupted : AreInterrupted count old.reader.now mid
    pub counted : rest + count ≡ old.reads
    pub ends : EndsRead mid rest piece given new.reader.now new.reads

  -- Such a fault may end reading, where so many reads are left: that of too many reads where none is, that of a read that failed behind such a read.
  -- Of any other fault this says nothing.
  abbrev pub MayEnd : LinkFault → R → ℕ → Type 0
  MayEnd TooManyReads new left = left ≡ 0
  MayEnd ReadFailed new left = (old : R) × HasFailed old new
  MayEnd _ new left = ⊤

  -- the same of why nothing is asked
  abbrev pub MayEndAsking : Unasked → R → ℕ → Type 0
  MayEndAsking (Fault fault) new left = MayEnd fault new left
  MayEndAsking _ new left = ⊤

  -- Reads were made, and of so many so many are left.
  pub record Spends (old : R) (most : ℕ) (new : R) (left : ℕ) : Type 0 where
    pub count : ℕ
    pub made : AreReads count old new
    pub counted : left + count ≡ most

  -- A call makes reads of an input, and each counts. If the call fails, its fault is such that it may end reading there.
  pub record SpendsReads {X E : Type 0} (May : E → R → ℕ → Type 0) (old new : Input R) (given : Result X E) : Type 0 where
    pub spends : Spends old.reader.now old.reads new.reader.now new.reads
    pub ended : IfErr given (λ fault. May fault new.reader.now new.reads)

  -- A connection was read at most so many times. If a fault of reading ended that, it is one that may.
  pub record IsReadWithin {X : Type 0} (most : ℕ) (old new : R) (done : Result X LinkFault) : Type 0 where
    pub count : ℕ
    pub made : AreReads count old new
    pub few : count ≤ most
    pub ended : IfErr done (λ fault. MayEnd fault new (most - count))
