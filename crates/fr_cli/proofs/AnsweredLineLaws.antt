-- Lines are answered, and then more lines are.
use Rattle.std.proofs.Common.{◌≡◌, inl, inr, ℕ, ◌+◌, Bool, List, [], ◌∷◌, ◌++◌, Option, Ok, Err, refl, sym, ap₂, ◌∙◌, subst, append_assoc, append-nil, length-append}
use Rattle.std.specs.Io.KnownBytes.{Appends}
use Rattle.std.proofs.KnownBytes.{Appends-trans}
use Rattle.std.proofs.lemmas.List.{map-append}
use Rattle.fr_base.specs.Book.{Book}
use Rattle.fr_base.specs.Cluster.{Cluster}
use Rattle.fr_base.specs.declared.answer.Answer.{Answer}
use Rattle.fr_base.specs.declared.answer.Answer.TheVariants.{Done, Refused}
use Rattle.fr_base.specs.declared.desk.Desk as Desk
use Rattle.fr_base.specs.declared.refusal.Refusal.{Refusal}
use Rattle.fr_base.specs.declared.refusal.Refusal.TheVariants.{Unavailable}
use Rattle.fr_base.specs.declared.request.Ask.{Ask}
use Rattle.fr_office.specs.Answers.{Answers}
use Rattle.fr_world.specs.Held.{Standing}
use Rattle.fr_cli.specs.AnsweredLines.{Account, AnswersAll, AnswersEach, AnswersLine, AnswersLines, EndsAnswer, IsStill, Reads, WasCutShort, account_by, account_of}
use Rattle.fr_cli.specs.Numbered.{front_of, without_numbers}
use Rattle.fr_cli.specs.Outcomes.{line_of}
use Rattle.fr_cli.specs.ScriptRun.{Replied}
use Rattle.fr_cli.specs.declared.script_fault.ScriptFault.{ScriptFault}
use Rattle.fr_cli.proofs.NumberedLaws.{text-append, text-none, text-one}
use Rattle.fr_cli.proofs.ScriptRunLaws.{answered-sound}

-- ---- one line

-- What a line asks was answered.
pub line_asks : (old new : Standing) (line : List ℕ) (ask : Ask) (answer : Answer)
    → Reads old line (Ok ask) → Answers old new ask answer → AnswersLine old new line answer
line_asks old new line ask answer (inl none) answers = absurd cc
line_asks old new line ask answer (inr reads) answers = λ c b stands sound.
    let (last, after, run) = answers c b stands sound in
    (last, after, subst (λ r. Replied c b r answer last) (reads c b stands sound) run)

-- A line that asks nothing was refused.
pub line_refused : (old : Standing) (line : List ℕ) (refusal : Refusal)
    → (refusal ≡ Unavailable → ⊥) → Reads old line (Err refusal)
    → AnswersLine old old line (Refused refusal)
line_refused old line refusal other (inl same) = absurd (other cc)
line_refused old line refusal other (inr reads) = λ c b stands sound.
    (b, stands, subst (λ r. Replied c b r (Refused refusal) b) (reads c b stands sound) (refl, refl))

-- ---- what is said of lines

-- lines with their numbers
abbrev pub Asked : Type 0
Asked = List (ℕ × List ℕ)

-- It is said of those that are said to be none.
none_said : (numbered : Bool) (Are : List (List ℕ) → List Answer → Type 0) → Are [] [] → AnswersLines numbered Are [] []
none_said numbered Are so = record { answers = []; each = refl; bytes = text-none numbered; answered = so }

-- Something else is said of them.
pub lines_as : (numbered : Bool) (A B : List (List ℕ) → List Answer → Type 0) (l : Asked) (w : List ℕ)
    → ((answers : List Answer) → A (without_numbers l) answers → B (without_numbers l) answers) → AnswersLines numbered A l w → AnswersLines numbered B l w
lines_as numbered A B l w so p = record { answers = p.answers; each = p.each; bytes = p.bytes; answered = so p.answers p.answered }

-- It is said of lines and of more.
both_said : (numbered : Bool) (A B C : List (List ℕ) → List Answer → Type 0) (l m : Asked) (w v : List ℕ)
    → ((xs ys : List Answer) → A (without_numbers l) xs → B (without_numbers m) ys → C (without_numbers l ++ without_numbers m) (xs ++ ys))
    → AnswersLines numbered A l w → AnswersLines numbered B m v → AnswersLines numbered C (l ++ m) (w ++ v)
both_said numbered A B C l m w v so p q = record {
  answers = p.answers ++ q.answers;
  each = length-append p.answers q.answers ∙ ap₂ (λ (x y : ℕ). x + y) p.each q.each ∙ sym (length-append l m);
  bytes = ap₂ (λ (x y : List ℕ). x ++ y) p.bytes q.bytes ∙ sym (text-append numbered l m p.answers q.answers p.each);
  answered = subst (λ k. C k (p.answers ++ q.answers)) (sym (map-append (λ (one : ℕ × List ℕ). one.1) l m)) (so p.answers q.answers p.answered q.answered);
}

-- No end of an answer lacks.
pub none_missing : (numbered : Bool) → EndsAnswer numbered []
none_missing numbered = (front_of numbered 0 ++ line_of Done, 0, Done, sym (append-nil (front_of numbered 0 ++ line_of Done)))

-- A fault comes when whole answers were written.
cut_at : (numbered : Bool) (account : Account) (D T : Asked → Type 0) (a b : Option (List ℕ)) (fault : ScriptFault) (l : Asked) (w : List ℕ)
    → AnswersLines numbered account.all l w → AnswersLines numbered account.first l w → Appends a b w → D l → T l → WasCutShort numbered account D T a b fault
cut_at numbered account D T a b fault l w p q appended d t = record {
  lines = l;
  done = d;
  written = w;
  missing = [];
  appended = appended;
  one = none_missing numbered;
  answered = subst (AnswersLines numbered account.all l) (sym (append-nil w)) p;
  whole = inr (l, t, q);
}

-- Other lines are of what was answered.
pub cut_as : (numbered : Bool) (account : Account) (D T E U : Asked → Type 0) (a b : Option (List ℕ)) (fault : ScriptFault)
    → ((l : Asked) → D l → E l) → ((l : Asked) → T l → U l) → WasCutShort numbered account D T a b fault → WasCutShort numbered account E U a b fault
cut_as numbered account D T E U a b fault f g w = record {
  lines = w.lines;
  done = f w.lines w.done;
  written = w.written;
  missing = w.missing;
  appended = w.appended;
  one = w.one;
  answered = w.answered;
  whole = elim w.whole [
    | inl is ↦ inl is
    | inr so ↦ inr (so.0, g so.0 so.1, so.2)
  ];
}

-- ---- from one account to another

-- What is said by the one is said by the other.
pub record Tells (A B : Account) : Type 0 where
  pub all : (l : List (List ℕ)) (answers : List Answer) → A.all l answers → B.all l answers
  pub first : (l : List (List ℕ)) (answers : List Answer) → A.first l answers → B.first l answers

pub cut_told : (numbered : Bool) (A B : Account) (D T : Asked → Type 0) (a b : Option (List ℕ)) (fault : ScriptFault) → Tells A B → WasCutShort numbered A D T a b fault → WasCutShort numbered B D T a b fault
cut_told numbered A B D T a b fault so w = record {
  lines = w.lines;
  done = w.done;
  written = w.written;
  missing = w.missing;
  appended = w.appended;
  one = w.one;
  answered = lines_as numbered A.all B.all w.lines (w.written ++ w.missing) (so.all (without_numbers w.lines)) w.answered;
  whole = elim w.whole [
    | inl is ↦ inl is
    | inr told ↦ inr (told.0, told.1, lines_as numbered A.first B.first told.0 w.written (so.first (without_numbers told.0)) told.2)
  ];
}

-- What was answered by a register that stands for what is held, and leaves what it then stands for, was answered of that.
pub told_moved : (whole clean : Type 0) (held old new leaves : Standing) → (whole → clean)
    → (clean → (c : Cluster) (b : Book) → held c b → old c b) → ((c : Cluster) (b : Book) → new c b → leaves c b)
    → Tells (account_of clean old new) (account_of whole held leaves)
told_moved whole clean held old new leaves closes finds left = record {
  all = λ l answers so is c b there sound.
      let (last, after, are) = so (closes is) c b (finds (closes is) c b there) sound in
      (last, left c last after, are);
  first = λ l answers so is c b there sound. so (closes is) c b (finds (closes is) c b there) sound;
}

-- ---- one line behind another

module _ {D : Type 0} (desk : Desk.Ghosts D) where
  abbrev Each : D → D → List (List ℕ) → List Answer → Type 0
  Each = AnswersEach desk.clean desk.stands

  abbrev Still : D → D → Type 0
  Still = IsStill desk.clean desk.stands

  still_then : (old mid new : D) → Still old mid → Still mid new → Still old new
  still_then old mid new p q = (λ is. p.0 (q.0 is), λ is c b there. q.1 is c b (p.1 (q.0 is) c b there))

  -- behind a register that stands for the same
  each_behind : (old mid new : D) (l : List (List ℕ)) (xs : List Answer) → Still old mid → Each mid new l xs → Each old new l xs
  each_behind old mid new [] [] still so = still_then old mid new still so
  each_behind old mid new [] (x ∷ xs) still so = absurd so
  each_behind old mid new (line ∷ l) [] still so = absurd so
  each_behind old mid new (line ∷ l) (x ∷ xs) still so =
      (so.0, λ is. still.0 (so.1 is), λ is c b there sound. so.2 is c b (still.1 (so.1 is) c b there) sound, so.3)

  each_then : (old mid new : D) (l m : List (List ℕ)) (xs ys : List Answer) → Each old mid l xs → Each mid new m ys → Each old new (l ++ m) (xs ++ ys)
  each_then old mid new [] m [] ys so more = each_behind old mid new m ys so more
  each_then old mid new [] m (x ∷ xs) ys so more = absurd so
  each_then old mid new (line ∷ l) m [] ys so more = absurd so
  each_then old mid new (line ∷ l) m (x ∷ xs) ys so more = (so.0, so.1, so.2, each_then so.0 mid new l m xs ys so.3 more)

  -- before a register that stands for the same
  each_still : (old mid new : D) (l : List (List ℕ)) (xs : List Answer) → Each old mid l xs → Still mid new → Each old new l xs
  each_still old mid new [] [] so still = still_then old mid new so still
  each_still old mid new [] (x ∷ xs) so still = absurd so
  each_still old mid new (line ∷ l) [] so still = absurd so
  each_still old mid new (line ∷ l) (x ∷ xs) so still = (so.0, so.1, so.2, each_still so.0 mid new l xs so.3 still)

  pub each_falls : (old new : D) (l : List (List ℕ)) (xs : List Answer) → Each old new l xs → desk.clean new → desk.clean old
  each_falls old new [] [] so is = so.0 is
  each_falls old new [] (x ∷ xs) so is = absurd so
  each_falls old new (line ∷ l) [] so is = absurd so
  each_falls old new (line ∷ l) (x ∷ xs) so is = so.1 (each_falls so.0 new l xs so.3 is)

  -- from what the first register stood for to what the last stands for
  pub each_all : (old new : D) (l : List (List ℕ)) (xs : List Answer) → Each old new l xs → AnswersAll (desk.clean new) (desk.stands old) (desk.stands new) l xs
  each_all old new [] [] so = λ is c b there sound. (b, so.1 is c b there, refl)
  each_all old new [] (x ∷ xs) so = absurd so
  each_all old new (line ∷ l) [] so = absurd so
  each_all old new (line ∷ l) (x ∷ xs) so = λ is c b there sound.
      let (book, stood, replied) = so.2 (each_falls so.0 new l xs so.3 is) c b there sound in
      let (last, after, are) = each_all so.0 new l xs so.3 is c book stood (answered-sound c b book (line ∷ []) (x ∷ []) (book, replied, refl) sound) in
      (last, after, (book, replied, are))

  -- What is said by the register behind each line is said by what it stood for and stands for.
  pub each_told : (old new : D) → Tells (account_by desk old new) (account_of (desk.clean new) (desk.stands old) (desk.stands new))
  each_told old new = record {
    all = each_all old new;
    first = λ l answers so is c b there sound.
        let (last, after, are) = each_all old so.0 l answers so.2 (so.1 is) c b there sound in
        (last, tt, are);
  }

  -- No line was answered, and a fault came.
  pub cut_unasked : (numbered : Bool) (old : D) (S T : Asked → Type 0) (a b : Option (List ℕ)) (fault : ScriptFault) → Appends a b [] → S [] → T []
      → WasCutShort numbered (account_by desk old old) S T a b fault
  cut_unasked numbered old S T a b fault =
      let still : Still old old = (λ is. is, λ is c b there. there) in
      cut_at numbered (account_by desk old old) S T a b fault [] [] (none_said numbered (Each old old) still) (none_said numbered (account_by desk old old).first (old, (λ is. is), still))

  -- ---- lines, and then more

  -- No line is answered yet.
  pub no_lines : (numbered : Bool) (d : D) → AnswersLines numbered (Each d d) [] []
  no_lines numbered d = none_said numbered (Each d d) (λ is. is, λ is c b there. there)

  -- One line was answered.
  pub one_line : (numbered : Bool) (old new : D) (n : ℕ) (line : List ℕ) (answer : Answer) (text : List ℕ) → (desk.clean new → desk.clean old)
      → (desk.clean new → AnswersLine (desk.stands old) (desk.stands new) line answer) → text ≡ front_of numbered n ++ line_of answer
      → AnswersLines numbered (Each old new) ((n, line) ∷ []) text
  one_line numbered old new n line answer text falls so e = record {
    answers = answer ∷ [];
    each = refl;
    bytes = e ∙ sym (text-one numbered n line answer);
    answered = (new, falls, so, (λ is. is, λ is c b there. there));
  }

  -- More lines were answered.
  pub lines_then : (numbered : Bool) (old mid new : D) (l m : Asked) (w v : List ℕ) → AnswersLines numbered (Each old mid) l w → AnswersLines numbered (Each mid new) m v
      → AnswersLines numbered (Each old new) (l ++ m) (w ++ v)
  lines_then numbered old mid new l m w v = both_said numbered (Each old mid) (Each mid new) (Each old new) l m w v (each_then old mid new (without_numbers l) (without_numbers m))

  -- The register's rows stayed afterwards.
  pub lines_stay : (numbered : Bool) (old mid new : D) (l : Asked) (w : List ℕ) → Still mid new → AnswersLines numbered (Each old mid) l w → AnswersLines numbered (Each old new) l w
  lines_stay numbered old mid new l w still = lines_as numbered (Each old mid) (Each old new) l w (λ xs so. each_still old mid new (without_numbers l) xs so still)

  -- What the register stands for now is not said.
  pub lines_kept : (numbered : Bool) (old mid new : D) (l : Asked) (w : List ℕ) → (desk.clean new → desk.clean mid) → AnswersLines numbered (Each old mid) l w
      → AnswersLines numbered (account_by desk old new).first l w
  lines_kept numbered old mid new l w falls = lines_as numbered (Each old mid) (account_by desk old new).first l w (λ xs so. (mid, falls, so))

  -- ---- a fault comes

  -- It comes when whole answers were written.
  pub cut_here : (numbered : Bool) (old new : D) (E U : Asked → Type 0) (a b : Option (List ℕ)) (fault : ScriptFault) (l : Asked) (w : List ℕ)
      → AnswersLines numbered (Each old new) l w → Appends a b w → E l → U l → WasCutShort numbered (account_by desk old new) E U a b fault
  cut_here numbered old new E U a b fault l w p = cut_at numbered (account_by desk old new) E U a b fault l w p (lines_kept numbered old new new l w (λ is. is) p)

  -- It comes after lines that were answered before.
  pub cut_after : (numbered : Bool) (old mid new : D) (S T E U : Asked → Type 0) (a m b : Option (List ℕ)) (fault : ScriptFault) (l : Asked) (w : List ℕ)
      → AnswersLines numbered (Each old mid) l w → Appends a m w → ((k : Asked) → S k → E (l ++ k)) → ((k : Asked) → T k → U (l ++ k))
      → WasCutShort numbered (account_by desk mid new) S T m b fault → WasCutShort numbered (account_by desk old new) E U a b fault
  cut_after numbered old mid new S T E U a m b fault l w p appended f g c = record {
    lines = l ++ c.lines;
    done = f c.lines c.done;
    written = w ++ c.written;
    missing = c.missing;
    appended = Appends-trans a m b w c.written appended c.appended;
    one = c.one;
    answered = subst (AnswersLines numbered (Each old new) (l ++ c.lines)) (sym (append_assoc w c.written c.missing))
        (lines_then numbered old mid new l c.lines w (c.written ++ c.missing) p c.answered);
    whole = elim c.whole [
      | inl is ↦ inl is
      | inr so ↦ inr (
        l ++ so.0,
        g so.0 so.1,
        both_said numbered (Each old mid) (account_by desk mid new).first (account_by desk old new).first l so.0 w c.written
            (λ xs ys first more. (more.0, more.1, each_then old mid more.0 (without_numbers l) (without_numbers so.0) xs ys first more.2)) p so.2,
      )
    ];
  }

module _ {D E : Type 0} (desk : Desk.Ghosts E) (of : D → E) where
  -- what is known of the register that another one guards
  abbrev guard : Desk.Ghosts D
  guard = record { stands = λ d. desk.stands (of d); clean = λ d. desk.clean (of d) }

  each_guarded : (old new : D) (l : List (List ℕ)) (xs : List Answer) → Each guard old new l xs → Each desk (of old) (of new) l xs
  each_guarded old new [] [] so = so
  each_guarded old new [] (x ∷ xs) so = absurd so
  each_guarded old new (line ∷ l) [] so = absurd so
  each_guarded old new (line ∷ l) (x ∷ xs) so = (of so.0, so.1, so.2, each_guarded so.0 new l xs so.3)

  -- What is said by the guard behind each line is said by the register that it guards.
  pub told_guarded : (old new : D) → Tells (account_by guard old new) (account_by desk (of old) (of new))
  told_guarded old new = record {
    all = each_guarded old new;
    first = λ l answers so. (of so.0, so.1, each_guarded old so.0 l answers so.2);
  }
