-- Reads one after another; a flush.
use Rattle.std.proofs.Common.{◌≡◌, Bool, cond, ℕ, zero, suc, ◌+◌, ◌-◌, List, Result, Ok, Err, refl, sym, subst, arith}
use Rattle.std.specs.Prelude.{◌↔◌, IfErr, IsOk, OnOk, ⊤}
use Rattle.std.specs.declared.io.Error.{Error}
use Rattle.fr_text.specs.declared.output.WriteFailed.{WriteFailed as Unwritten}
use Rattle.fr_http.specs.Connection.{WasFlushed}
use Rattle.fr_http.specs.Reads.{AreInterrupted, AreReads, EndsRead, IsRead, IsReadWithin, MayEnd, Reads, Spends, SpendsReads}
use Rattle.fr_http.specs.declared.fault.LinkFault.{LinkFault}
use Rattle.fr_http.specs.declared.input.Input.{Input}
use Rattle.fr_http.specs.declared.fault.LinkFault.TheVariants.{Truncated, ReadFailed, TooManyReads, WriteFailed, NoMemory}

module _ {R : Type 0} (reads : Reads R) where
  -- reads, and then more
  reads_more : (n m all : ℕ) (old mid new : R) → m + n ≡ all → AreReads reads n old mid → AreReads reads m mid new → AreReads reads all old new
  reads_more n zero all old mid new sum before more =
      let same : n ≡ all = omega (arith, sum) in
      subst (AreReads reads all old) (sym more) (subst (λ k. AreReads reads k old mid) same before)
  reads_more n (suc m) zero old mid new sum before more = absurd (omega (arith, sum))
  reads_more n (suc m) (suc all) old mid new sum before more =
      (more.0, reads_more n m all old mid more.0 (omega (arith, sum)) before more.1, more.2)

  -- reads that were interrupted are reads
  interrupted_reads : (n : ℕ) (old new : R) → AreInterrupted reads n old new → AreReads reads n old new
  interrupted_reads zero old new are = are
  interrupted_reads (suc n) old new are =
      let (mid, before, last) = are in (mid, interrupted_reads n old mid before, (last.0, Err last.1, last.2))

  -- no read
  pub spends_none : (old : R) (most : ℕ) → Spends reads old most old most
  spends_none old most = record { count = 0; made = refl; counted = omega arith }

  -- one reading, and then another
  pub spends_more : (a b c : R) (k l m : ℕ) → Spends reads a k b l → Spends reads b l c m → Spends reads a k c m
  spends_more a b c k l m first next = record {
    count = next.count + first.count;
    made = reads_more first.count next.count (next.count + first.count) a b c refl first.made next.made;
    counted = omega (arith, first.counted, next.counted);
  }

  -- the reads of one piece
  spends_by : (old mid new : R) (count rest most left : ℕ) (piece : List ℕ) (given : Result ℕ LinkFault) → AreInterrupted reads count old mid → rest + count ≡ most
      → EndsRead reads mid rest piece given new left → Spends reads old most new left
  spends_by old mid new count rest most left piece (Ok n) before counted ends =
      record { count = suc count; made = (mid, interrupted_reads count old mid before, (piece, Ok n, ends.0)); counted = omega (arith, counted, ends.1) }
  spends_by old mid new count rest most left piece (Err Truncated) before counted ends = absurd ends
  spends_by old mid new count rest most left piece (Err ReadFailed) before counted ends =
      let failed = ends.0 in
      record { count = suc count; made = (mid, interrupted_reads count old mid before, (failed.0, Err failed.1, failed.2)); counted = omega (arith, counted, ends.1) }
  spends_by old mid new count rest most left piece (Err TooManyReads) before counted ends =
      record {
        count = count;
        made = subst (AreReads reads count old) (sym ends.0) (interrupted_reads count old mid before);
        counted = omega (arith, counted, ends.1, ends.2);
      }
  spends_by old mid new count rest most left piece (Err (WriteFailed asked)) before counted ends = absurd ends
  spends_by old mid new count rest most left piece (Err (NoMemory asked)) before counted ends = absurd ends

  spends_read : (old new : Input R) (piece : List ℕ) (given : Result ℕ LinkFault) → IsRead reads old piece given new
      → Spends reads old.reader.now old.reads new.reader.now new.reads
  spends_read old new piece given is =
      spends_by old.reader.now is.mid new.reader.now is.count is.rest old.reads new.reads piece given is.interrupted is.counted is.ends

  -- why a piece was not read
  ended_by : (mid new : R) (rest left : ℕ) (piece : List ℕ) (fault : LinkFault) → EndsRead reads mid rest piece (Err fault) new left → MayEnd reads fault new left
  ended_by mid new rest left piece Truncated ends = absurd ends
  ended_by mid new rest left piece ReadFailed ends = (mid, ends.0)
  ended_by mid new rest left piece TooManyReads ends = ends.2
  ended_by mid new rest left piece (WriteFailed asked) ends = absurd ends
  ended_by mid new rest left piece (NoMemory asked) ends = absurd ends

  -- a piece was not read
  pub piece_failed : (old new : Input R) (piece : List ℕ) (given : Result ℕ LinkFault) → given ≡ Err ReadFailed → IsRead reads old piece (Err ReadFailed) new
      → IsRead reads old piece given new
  piece_failed old new piece given is failed = subst (λ r. IsRead reads old piece r new) (sym is) failed

  -- the reads of a piece are those of the call
  pub reads_piece : (old new : Input R) (piece : List ℕ) (given : Result ℕ LinkFault) → IsRead reads old piece given new → SpendsReads reads (MayEnd reads) old new given
  reads_piece old new piece (Ok n) is = record { spends = spends_read old new piece (Ok n) is; ended = tt }
  reads_piece old new piece (Err fault) is = record {
    spends = spends_read old new piece (Err fault) is;
    ended = ended_by is.mid new.reader.now is.rest new.reads piece fault is.ends;
  }

  -- all reads of a connection
  pub read_within : {X : Type 0} (old new : R) (most left : ℕ) (done : Result X LinkFault) → Spends reads old most new left → IfErr done (λ fault. MayEnd reads fault new left)
      → IsReadWithin reads most old new done
  read_within old new most left done spends ended =
      let same : left ≡ most - spends.count = omega (arith, spends.counted) in
      record {
        count = spends.count;
        made = spends.made;
        few = omega (arith, spends.counted);
        ended = subst (λ n. IfErr done (λ fault. MayEnd reads fault new n)) same ended;
      }

pub ruleset spending = (spends_none, spends_more, read_within)

-- what was flushed without a fault
pub was_flushed : {W : Type 0} (flushes : W → Result ⊤ Error → W → Type 0) (mid last : W) (done : Result ⊤ Unwritten) (given : Result ⊤ Error) → flushes mid given last → IsOk done ↔ IsOk given
    → OnOk done (WasFlushed flushes last)
was_flushed flushes mid last (Ok done) (Ok given) went alike = (mid, went)
was_flushed flushes mid last (Ok done) (Err e) went alike = absurd (subst (λ (b : Bool). cond b ⊥ (Unit {0})) (alike.0 refl) tt)
was_flushed flushes mid last (Err failed) given went alike = tt
