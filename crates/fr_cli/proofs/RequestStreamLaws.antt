-- Requests that come in piece by piece: which lines of the input they are.
use Rattle.std.proofs.Common.{◌≡◌, ℕ, Bool, ◌+◌, ◌<◌, ◌≤◌, List, [], ◌∷◌, ◌++◌, length, Option, Some, None, IfSome, Result, Ok, Err, refl, sym, ap, ◌∙◌, subst, append_assoc, append-nil, arith, length-append, inl, inr}
use Rattle.std.specs.List.{filter}
use Rattle.std.specs.Prelude.{◌⊎◌, nat_lt, ⊤}
use Rattle.std.specs.Str.Lines.{lines}
use Rattle.std.proofs.lemmas.List.Elements.{filter-append}
use Rattle.std.specs.Io.KnownBytes.{Appends, Consumes, IsAtEnd, Keeps}
use Rattle.std.proofs.KnownBytes.{Appends-nil, Appends-trans, Consumes-nil, Keeps-refl}
use Rattle.sqlite.specs.Files.{IsCleanLeft}
use Rattle.sqlite.specs.declared.file.Leftover.{Leftover}
use Rattle.sqlite_disk.specs.declared.Disk.{Ghosts}
use Rattle.sqlite_wal.specs.Recovery.{Image}
use Rattle.fr_base.specs.declared.answer.Answer.{Answer}
use Rattle.fr_base.specs.declared.desk.Desk as Desk
use Rattle.fr_desks.specs.FileDesk.{Held, IsLeftWith}
use Rattle.fr_cli.specs.AnsweredLines.{Account, AnswersEach, AnswersLines, BeginWith, GoOnBehind, IsStill, WasCutShort, account_by}
use Rattle.fr_cli.specs.Guarding.{script_fault_unwatched}
use Rattle.fr_cli.specs.Numbered.{numbered_lines, without_numbers}
use Rattle.fr_cli.specs.RequestStream.{AreFirstOf, AreFirstOfAll, AreShort, EndsAsking, EndsLines, HasAnswered, WasAsked, HasHeard, HasLongLine, IsAsked, account_over}
use Rattle.fr_text.specs.Script.{HasNo, max_line, max_script, request_lines}
use Rattle.fr_cli.specs.ScriptFault.{script_fault_of}
use Rattle.fr_cli.specs.declared.fault.Fault.{Fault}
use Rattle.fr_cli.specs.declared.streams.input.InputFault.{InputFault}
use Rattle.fr_cli.specs.declared.streams.input.InputFault.TheVariants.{NoMemory as Wanting, ReadFailed as Unread, TooLong as Lengthy, TooManyReads as Many}
use Rattle.fr_cli.specs.declared.script_fault.ScriptFault.{ScriptFault}
use Rattle.fr_cli.specs.declared.script_fault.ScriptFault.TheVariants.{NoMemory, ReadFailed, TooLong, TooManyReads, Unavailable, WriteFailed}
use Rattle.fr_cli.specs.declared.files.watch.WatchFault.{WatchFault}
use Rattle.fr_cli.specs.declared.files.watch.WatchFault.TheVariants as watch
use Rattle.fr_cli.proofs.AnsweredLineLaws.{Asked, Tells, cut_after, cut_as, cut_here, cut_told, cut_unasked, each_told, lines_as, lines_stay, lines_then, told_moved}
use Rattle.fr_cli.proofs.NumberedLaws.{numbered-append, numbered-requests}
use Rattle.fr_cli.proofs.RegisterTaskLaws.{done_over}
use Rattle.fr_cli.specs.Opened.{IsOver}
use Rattle.fr_cli.specs.Outlets.{MayStop, outlet}
use Rattle.fr_cli.specs.RegisterTasks.{AnswersInput, IsDoneOver}
use Rattle.fr_cli.specs.Visits.{SinkGhosts}

-- ---- ends of lines

pub ends-none : EndsLines []
ends-none more = refl

pub ends-then : (front chunk : List ℕ) → EndsLines front → EndsLines chunk → EndsLines (front ++ chunk)
ends-then front chunk p q more =
    ap lines (append_assoc front chunk more) ∙ p (chunk ++ more) ∙ ap (λ l. lines front ++ l) (q more)
    ∙ sym (append_assoc (lines front) (lines chunk) (lines more)) ∙ ap (λ l. l ++ lines more) (sym (p chunk))

-- how many lines there are
pub count-then : (n : ℕ) (front chunk : List ℕ) → EndsLines front → n + length (lines (front ++ chunk)) ≡ (n + length (lines front)) + length (lines chunk)
count-then n front chunk p = omega (arith, ap length (p chunk), length-append (lines front) (lines chunk))

-- the requests of whole lines, and of what follows them
requests-then : (front more : List ℕ) → EndsLines front → request_lines (front ++ more) ≡ request_lines front ++ request_lines more
unfolding request_lines
requests-then front more p = ap (filter (λ line. nat_lt 0 (length line))) (p more) ∙ filter-append (λ line. nat_lt 0 (length line)) (lines front) (lines more)

-- ---- first requests

-- of bytes that begin with whole lines
pub first_whole : (n : ℕ) (front rest : List ℕ) → EndsLines front → AreFirstOfAll n (front ++ rest) (numbered_lines n front)
first_whole n front rest p more = (
  numbered_lines (n + length (lines front)) (rest ++ more),
  ap (numbered_lines n) (append_assoc front rest more) ∙ numbered-append n front (rest ++ more) p,
)

-- and of what follows these
pub first_then : (n : ℕ) (front rest : List ℕ) (l : Asked) → EndsLines front → AreFirstOfAll (n + length (lines front)) rest l
    → AreFirstOfAll n (front ++ rest) (numbered_lines n front ++ l)
first_then n front rest l p q more =
    let (left, split) = q more in (
      left,
      ap (numbered_lines n) (append_assoc front rest more) ∙ numbered-append n front (rest ++ more) p ∙ ap (λ k. numbered_lines n front ++ k) split
          ∙ sym (append_assoc (numbered_lines n front) l left),
    )

-- of whole lines, and what follows them
pub first_begin : (n : ℕ) (chunk rest : List ℕ) (l left : Asked) → EndsLines chunk → numbered_lines n chunk ≡ l ++ left → AreFirstOfAll n (chunk ++ rest) l
first_begin n chunk rest l left p split more =
    let behind = numbered_lines (n + length (lines chunk)) (rest ++ more) in (
      left ++ behind,
      ap (numbered_lines n) (append_assoc chunk rest more) ∙ numbered-append n chunk (rest ++ more) p ∙ ap (λ k. k ++ behind) split ∙ append_assoc l left behind,
    )

-- ---- what was taken of an input

-- what is so of what was taken, whatever follows it, is so of the input
pub on_input : (P : List ℕ → Type 0) (input left : Option (List ℕ)) (taken : List ℕ) → Consumes input left taken → ((more : List ℕ) → P (taken ++ more)) → IfSome input P
on_input P None left taken c f = tt
on_input P (Some x) None taken c f = absurd c
on_input P (Some x) (Some y) taken c f = subst P (sym c) (f y)

-- an input was taken whole
pub on_whole : (P : List ℕ → Type 0) (input left : Option (List ℕ)) (taken : List ℕ) → Consumes input left taken → IsAtEnd left → P taken → IfSome input P
on_whole P None left taken c e p = tt
on_whole P (Some x) None taken c e p = absurd c
on_whole P (Some x) (Some y) taken c e p = subst P (sym (c ∙ ap (λ l. taken ++ l) e ∙ append-nil taken)) p

-- more was taken than there is room for
pub on_long : (bound : ℕ) (input left : Option (List ℕ)) (taken : List ℕ) → Consumes input left taken → bound < length taken → IfSome input (λ bytes. bound < length bytes)
on_long bound input left taken c long = on_input (λ bytes. bound < length bytes) input left taken c (λ more. omega (arith, long, length-append taken more))

-- ---- answers

module _ {D : Type 0} (desk : Desk.Ghosts D) where
  abbrev Each : D → D → List (List ℕ) → List Answer → Type 0
  Each = AnswersEach desk.clean desk.stands

  -- whole lines more were answered
  pub heard_more : (numbered : Bool) (n : ℕ) (old mid new : D) (front chunk w v : List ℕ) → EndsLines front → AnswersLines numbered (Each old mid) (numbered_lines n front) w
      → AnswersLines numbered (Each mid new) (numbered_lines (n + length (lines front)) chunk) v → AnswersLines numbered (Each old new) (numbered_lines n (front ++ chunk)) (w ++ v)
  heard_more numbered n old mid new front chunk w v ends p q =
      subst (λ l. AnswersLines numbered (Each old new) l (w ++ v)) (sym (numbered-append n front chunk ends))
      (lines_then desk numbered old mid new (numbered_lines n front) (numbered_lines (n + length (lines front)) chunk) w v p q)

  -- all lines were answered, and more may be asked
  pub asked_on : (numbered : Bool) (old mid new : D) (l : Asked) (a b : Option (List ℕ)) → IsStill desk.clean desk.stands mid new
      → (written : List ℕ) × Appends a b written × AnswersLines numbered (Each old mid) l written → WasAsked numbered (account_by desk old new) l a b (Ok tt)
  asked_on numbered old mid new l a b still all = record {
    all = (all.0, all.1, lines_stay desk numbered old mid new l all.0 still all.2);
    early = tt;
    faults = tt;
  }

  -- all lines were answered, and the register has come to an end
  pub asked_last : (numbered : Bool) (old mid new : D) (l : Asked) (a b : Option (List ℕ)) → IsStill desk.clean desk.stands mid new
      → (written : List ℕ) × Appends a b written × AnswersLines numbered (Each old mid) l written → WasAsked numbered (account_by desk old new) l a b (Err Unavailable)
  asked_last numbered old mid new l a b still all =
      let begin : BeginWith l l = ([], sym (append-nil l)) in
      record {
        all = tt;
        early = cut_here desk numbered old new (BeginWith l) (BeginWith l) a b Unavailable l all.0 (lines_stay desk numbered old mid new l all.0 still all.2) all.1 begin begin;
        faults = inr (inr refl);
      }

-- a fault came before all were
pub asked_early : (numbered : Bool) (account : Account) (l : Asked) (a b : Option (List ℕ)) (fault : ScriptFault)
    → WasCutShort numbered account (BeginWith l) (GoOnBehind l) a b fault → (fault ≡ NoMemory) ⊎ (fault ≡ WriteFailed) → WasAsked numbered account l a b (Err fault)
asked_early numbered account l a b fault early of = record {
  all = tt;
  early = cut_as numbered account (BeginWith l) (GoOnBehind l) (BeginWith l) (BeginWith l) a b fault (λ k so. so) (λ k so. (so.0 ∷ so.1, so.2)) early;
  faults = elim of [
    | inl none ↦ inl none
    | inr failed ↦ inr (inl failed)
  ];
}

-- ---- long lines and short ones

short-append : (xs ys : List (List ℕ)) → AreShort xs → AreShort ys → AreShort (xs ++ ys)
short-append [] ys p q = q
short-append (x ∷ xs) ys p q = (p.0, short-append xs ys p.1 q)

-- of whole lines, and then more
pub short-then : (front more : List ℕ) → EndsLines front → AreShort (request_lines front) → AreShort (request_lines more) → AreShort (request_lines (front ++ more))
short-then front more ends p q = subst AreShort (sym (requests-then front more ends)) (short-append (request_lines front) (request_lines more) p q)

-- a line that is too long stands in what it is a part of
pub long_within : (front bytes more : List ℕ) → HasLongLine bytes → HasLongLine ((front ++ bytes) ++ more)
long_within front bytes more (before, line, rest, split, clear, long) = (
  front ++ before,
  line,
  rest ++ more,
  ap (λ b. (front ++ b) ++ more) split ∙ append_assoc front (before ++ (line ++ rest)) more ∙ ap (λ r. front ++ r) (append_assoc before (line ++ rest) more)
      ∙ ap (λ r. front ++ (before ++ r)) (append_assoc line rest more) ∙ sym (append_assoc front before (line ++ (rest ++ more))),
  clear,
  long,
)

is_lengthy : (of : InputFault) → script_fault_of of ≡ TooLong → of ≡ Lengthy
is_lengthy Lengthy e = refl
is_lengthy Many e = absurd cc
is_lengthy Unread e = absurd cc
is_lengthy Wanting e = absurd cc

-- what is begun is too long with what follows it
pub long_by : (begun more : List ℕ) → max_line < length begun + length more → max_line < length (begun ++ more)
long_by begun more long = omega (arith, long, length-append begun more)

-- a fault comes between lines
pub heard_cut : {D : Type 0} (desk : Desk.Ghosts D) (numbered : Bool) (n next : ℕ) (old new : D) (bytes begun : List ℕ) (a b : Option (List ℕ)) (front written : List ℕ) (of : InputFault)
    → AnswersLines numbered (AnswersEach desk.clean desk.stands old new) (numbered_lines n front) written → Appends a b written → AreFirstOfAll n bytes (numbered_lines n front)
    → (of ≡ Lengthy → HasLongLine bytes) → HasHeard numbered (account_by desk old new) n next bytes begun a b (Err (script_fault_of of))
heard_cut desk numbered n next old new bytes begun a b front written of answered appended first long = record {
  heard = tt;
  early = cut_here desk numbered old new (AreFirstOfAll n bytes) (AreFirstOfAll n bytes) a b (script_fault_of of) (numbered_lines n front) written answered appended first first;
  too_long = λ e. long (is_lengthy of cc);
}

-- ---- pieces of an input

-- Of what was begun and the piece behind it some are whole lines.
pub split_then : (front begun piece more rest : List ℕ) → begun ++ piece ≡ more ++ rest → (front ++ begun) ++ piece ≡ (front ++ more) ++ rest
split_then front begun piece more rest e = append_assoc front begun piece ∙ ap (λ r. front ++ r) e ∙ sym (append_assoc front more rest)

-- A fault comes between pieces.
pub cut_between : {D : Type 0} (desk : Desk.Ghosts D) (numbered : Bool) (old new : D) (input left a b : Option (List ℕ)) (front begun written : List ℕ) (fault : ScriptFault) (of : InputFault)
    → fault ≡ script_fault_of of → Consumes input left (front ++ begun) → EndsLines front → Appends a b written
    → AnswersLines numbered (AnswersEach desk.clean desk.stands old new) (numbered_lines 1 front) written → (fault ≡ TooLong → IfSome input (λ bytes. (max_script < length bytes) ⊎ HasLongLine bytes))
    → ((fault ≡ ReadFailed) ⊎ (fault ≡ TooManyReads) → HasNo 10 begun)
    → HasAnswered numbered (account_by desk old new) input left a b (Err fault)
cut_between desk numbered old new input left a b front begun written fault of is taken ends appended answered long open_ended =
    let first : IfSome input (AreFirstOf (numbered_lines 1 front)) =
    on_input (AreFirstOf (numbered_lines 1 front)) input left (front ++ begun) taken (first_whole 1 front begun ends) in
    record {
      all = tt;
      early = cut_here desk numbered old new (λ l. IfSome input (AreFirstOf l)) (λ l. IfSome input (AreFirstOf l)) a b fault (numbered_lines 1 front) written answered appended first first;
      unread = λ e. (front, begun, written, taken, ends, open_ended e, appended, answered);
      too_long = λ e. long cc;
      faults = inr (inr (of, is));
    }

-- a fault of a line is one of the input
of_line : (fault : ScriptFault) → (fault ≡ TooLong) ⊎ EndsAsking fault → (fault ≡ WriteFailed) ⊎ ((fault ≡ Unavailable) ⊎ ((of : InputFault) × (fault ≡ script_fault_of of)))
of_line fault (inl long) = inr (inr (Lengthy, long))
of_line fault (inr (inl none)) = inr (inr (Wanting, none))
of_line fault (inr (inr (inl failed))) = inl failed
of_line fault (inr (inr (inr ended))) = inr (inl ended)

-- and it is no fault of reading
of_line-read : (fault : ScriptFault) → (fault ≡ TooLong) ⊎ EndsAsking fault → (fault ≡ ReadFailed) ⊎ (fault ≡ TooManyReads) → ⊥
of_line-read fault (inl long) (inl e) = absurd cc
of_line-read fault (inl long) (inr e) = absurd cc
of_line-read fault (inr (inl none)) (inl e) = absurd cc
of_line-read fault (inr (inl none)) (inr e) = absurd cc
of_line-read fault (inr (inr (inl failed))) (inl e) = absurd cc
of_line-read fault (inr (inr (inl failed))) (inr e) = absurd cc
of_line-read fault (inr (inr (inr ended))) (inl e) = absurd cc
of_line-read fault (inr (inr (inr ended))) (inr e) = absurd cc

-- where the register's files are not watched nothing is asked
ends_unwatched : (why : WatchFault) (fault : ScriptFault) → fault ≡ script_fault_unwatched why → EndsAsking fault
ends_unwatched watch.NoMemory fault is = inl is
ends_unwatched watch.Unavailable fault is = inr (inr is)

-- what ends the asking is not that a line is too long
pub not_long : (fault : ScriptFault) → EndsAsking fault → fault ≡ TooLong → ⊥
not_long fault (inl none) e = absurd cc
not_long fault (inr (inl failed)) e = absurd cc
not_long fault (inr (inr ended)) e = absurd cc

-- A fault comes within a piece.
pub cut_within : {D : Type 0} (desk : Desk.Ghosts D) (numbered : Bool) (old mid new : D) (input left a m b : Option (List ℕ)) (front bytes written : List ℕ) (fault : ScriptFault)
    → Consumes input left (front ++ bytes) → EndsLines front → Appends a m written → AnswersLines numbered (AnswersEach desk.clean desk.stands old mid) (numbered_lines 1 front) written
    → WasCutShort numbered (account_by desk mid new) (AreFirstOfAll (1 + length (lines front)) bytes) (AreFirstOfAll (1 + length (lines front)) bytes) m b fault
    → (fault ≡ TooLong → HasLongLine bytes) → (fault ≡ TooLong) ⊎ EndsAsking fault → HasAnswered numbered (account_by desk old new) input left a b (Err fault)
cut_within desk numbered old mid new input left a m b front bytes written fault taken ends appended answered short long of =
    let behind = AreFirstOfAll (1 + length (lines front)) bytes in
    let is_first : (k : Asked) → AreFirstOfAll (1 + length (lines front)) bytes k → IfSome input (AreFirstOf (numbered_lines 1 front ++ k)) =
    λ k so. on_input (AreFirstOf (numbered_lines 1 front ++ k)) input left (front ++ bytes) taken (first_then 1 front bytes k ends so) in
    record {
      all = tt;
      early = cut_after desk numbered old mid new behind behind (λ l. IfSome input (AreFirstOf l)) (λ l. IfSome input (AreFirstOf l)) a m b fault
          (numbered_lines 1 front) written answered appended is_first is_first short;
      unread = λ e. absurd (of_line-read fault of e);
      too_long = λ e. on_input (λ all. (max_script < length all) ⊎ HasLongLine all) input left (front ++ bytes) taken (λ more. inr (long_within front bytes more (long cc)));
      faults = of_line fault of;
    }

-- Nothing was asked, and nothing was read: the register's files are not watched.
pub asked_none : {D : Type 0} (desk : Desk.Ghosts D) (numbered : Bool) (old : D) (input a : Option (List ℕ)) (why : WatchFault) (fault : ScriptFault) → fault ≡ script_fault_unwatched why
    → HasAnswered numbered (account_by desk old old) input input a a (Err fault)
asked_none desk numbered old input a why fault is =
    let first : IfSome input (AreFirstOf []) = on_input (AreFirstOf []) input input [] (Consumes-nil input) (λ more. (numbered_lines 1 more, refl)) in
    record {
      all = tt;
      early = cut_unasked desk numbered old (λ l. IfSome input (AreFirstOf l)) (λ l. IfSome input (AreFirstOf l)) a a fault (Appends-nil a) first first;
      unread = λ e. absurd (of_line-read fault (inr (ends_unwatched why fault is)) e);
      too_long = λ e. absurd (not_long fault (ends_unwatched why fault is) cc);
      faults = of_line fault (inr (ends_unwatched why fault is));
    }

-- The input has ended, and what was begun are its last lines.
pub at_end : {D : Type 0} (desk : Desk.Ghosts D) (numbered : Bool) (old mid new : D) (input left a m b : Option (List ℕ)) (front begun written : List ℕ) (done : Result ⊤ ScriptFault)
    → Consumes input left (front ++ begun) → IsAtEnd left → length (front ++ begun) ≤ max_script → EndsLines front → Appends a m written
    → AnswersLines numbered (AnswersEach desk.clean desk.stands old mid) (numbered_lines 1 front) written → AreShort (request_lines (front ++ begun))
    → WasAsked numbered (account_by desk mid new) (numbered_lines (1 + length (lines front)) begun) m b done → HasAnswered numbered (account_by desk old new) input left a b done
at_end desk numbered old mid new input left a m b front begun written (Ok x) taken end fits ends appended answered short has =
    let (more, then, last) = has.all in
    let l = numbered_lines 1 (front ++ begun) in
    record {
      all = (
        l,
        written ++ more,
        on_whole (λ bytes. (l ≡ numbered_lines 1 bytes) × (length bytes ≤ max_script)) input left (front ++ begun) taken end (refl, fits),
        subst AreShort (sym (numbered-requests 1 (front ++ begun))) short,
        Appends-trans a m b written more appended then,
        heard_more desk numbered 1 old mid new front begun written more ends answered last,
      );
      early = tt;
      unread = tt;
      too_long = λ e. absurd cc;
      faults = tt;
    }
at_end desk numbered old mid new input left a m b front begun written (Err fault) taken end fits ends appended answered short has =
    let these = numbered_lines 1 front in
    let last = numbered_lines (1 + length (lines front)) begun in
    let is_first : (k rest : Asked) → last ≡ k ++ rest → IfSome input (AreFirstOf (these ++ k)) =
    λ k rest split. on_whole (AreFirstOf (these ++ k)) input left (front ++ begun) taken end
    (rest, numbered-append 1 front begun ends ∙ ap (λ l. these ++ l) split ∙ sym (append_assoc these k rest)) in
    record {
      all = tt;
      early = cut_after desk numbered old mid new (BeginWith last) (BeginWith last) (λ l. IfSome input (AreFirstOf l)) (λ l. IfSome input (AreFirstOf l))
          a m b fault these written answered appended (λ k so. is_first k so.0 so.1) (λ k so. is_first k so.0 so.1) has.early;
      unread = λ e. absurd (of_line-read fault (inr has.faults) e);
      too_long = λ e. absurd (not_long fault has.faults cc);
      faults = of_line fault (inr has.faults);
    }

-- ---- over a file

-- Something else is said of the lines.
pub answered_told : (numbered : Bool) (A B : Account) (input left a b : Option (List ℕ)) (asked : Result ⊤ ScriptFault) → Tells A B → HasAnswered numbered A input left a b asked
    → HasAnswered numbered B input left a b asked
answered_told numbered A B input left a b (Ok x) so has =
    let (l, written, all, short, appended, answered) = has.all in
    record {
      all = (l, written, all, short, appended, lines_as numbered A.all B.all l written (so.all (without_numbers l)) answered);
      early = tt;
      unread = tt;
      too_long = λ e. absurd cc;
      faults = tt;
    }
answered_told numbered A B input left a b (Err fault) so has = record {
  all = tt;
  early = cut_told numbered A B _ _ a b fault so has.early;
  unread = λ e.
      let (front, begun, written, taken, ends, open_ended, appended, answered) = has.unread e in
      (front, begun, written, taken, ends, open_ended, appended, lines_as numbered A.all B.all (numbered_lines 1 front) written (so.all (without_numbers (numbered_lines 1 front))) answered);
  too_long = has.too_long;
  faults = has.faults;
}

module _ {D R : Type 0} {g : Ghosts D} {desk : Desk.Ghosts R} {file : Image} {rest : Option (Leftover D g)} where
  -- What is said by the register behind each line is said of the file too.
  told_over : {last : Leftover D g} {old new : R} → IsOver file rest last (desk.clean new) (desk.stands old) (desk.stands new)
      → Tells (account_by desk old new) (account_over desk file last old new)
  told_over {last} {old} {new} over =
      let each = each_told desk old new in
      let moved = told_moved (IsCleanLeft last) (desk.clean new) (Held file) (desk.stands old) (desk.stands new) (IsLeftWith last) over.closes over.finds over.leaves in
      record {
        all = λ l answers so. (moved.all l answers (each.all l answers so), so);
        first = λ l answers so. (moved.first l answers (each.first l answers so), so);
      }

  -- What a task asked was asked over the file.
  pub asked_over : {O : Type 0} {same kept : Type 0} (numbered : Bool) (printed : SinkGhosts O) {input left left' : Option (List ℕ)} {a b b' : O} {done : Result ⊤ Fault}
      → left' ≡ left → b' ≡ b → (same → (left ≡ input) × (b ≡ a))
      → IsDoneOver file rest desk (λ fault of. of ≡ fault) same (λ R desk old new done. AnswersInput numbered input left (outlet printed a b) R desk old new done × kept) done
      → IsAsked numbered desk file rest input left' (outlet printed a b') done
  unfolding IsAsked
  asked_over {kept = kept} numbered printed {input} {left} {left'} {a} {b} {b'} {done} is_left is_b quiet is =
      subst (λ l. IsAsked numbered desk file rest input l (outlet printed a b') done) (sym is_left) (subst (λ o. IsAsked numbered desk file rest input left (outlet printed a o) done) (sym is_b)
      (done_over (λ fault. fault) (IsAsked numbered desk file rest input left (outlet printed a b))
      (λ R desk old new done. AnswersInput numbered input left (outlet printed a b) R desk old new done × kept) is
      (λ fault not same.
      let (unread, quiet) = quiet same in inl (fault, refl, not, subst (Keeps input) (sym unread) (Keeps-refl input), quiet))
      (λ last old new over did.
      let (asked, is, end, stops, has) = did.0 in
      inr (asked, last, old, new, over, is, end, stops, answered_told numbered (account_by desk old new) (account_over desk file last old new) input left (printed.contents a) (printed.contents b) asked (told_over over) has))))

-- A fault of reading is none of writing.
pub unread_stops : {W : Type 0} (sink : SinkGhosts W) (of : InputFault) (last : W) → MayStop sink (script_fault_of of) last
unread_stops sink Wanting last = tt
unread_stops sink Unread last = tt
unread_stops sink Lengthy last = tt
unread_stops sink Many last = tt

-- So is one of a watch.
pub unwatched_stops : {W : Type 0} (sink : SinkGhosts W) (why : WatchFault) (fault : ScriptFault) (last : W) → fault ≡ script_fault_unwatched why → MayStop sink fault last
unwatched_stops sink watch.NoMemory fault last is = subst (λ f. MayStop sink f last) (sym is) tt
unwatched_stops sink watch.Unavailable fault last is = subst (λ f. MayStop sink f last) (sym is) tt
