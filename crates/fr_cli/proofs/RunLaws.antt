-- How the run of a script ends where its register was made.
use Rattle.std.proofs.Common.{◌≡◌, ◌≤◌, ◌+◌, ℕ, Bool, true, false, List, [], ◌∷◌, ◌++◌, length, Option, Some, None, Result, Ok, Err, IfSome, refl, sym, ap, ◌∙◌, subst, inl, inr, append-nil}
use Rattle.std.specs.Prelude.{⊤}
use Rattle.std.specs.Io.KnownBytes.{Appends, IsAtEnd}
use Rattle.std.specs.Option.{option_map}
use Rattle.std.specs.Str.Lines.{lines}
use Rattle.std.proofs.lemmas.List.{map-append}
use Rattle.fr_base.specs.Book.{opening}
use Rattle.fr_base.specs.Cluster.{ClusterFile, IsWellFormed}
use Rattle.fr_text.specs.ClusterFile.{config_of}
use Rattle.fr_world.specs.Held.{Standing}
use Rattle.fr_base.specs.declared.desk.Desk as Desk
use Rattle.fr_cli.specs.AnsweredLines.{Account, AnswersAll, AnswersLines, Anything, WasWritten, account_by, account_of}
use Rattle.fr_cli.specs.Numbered.{numbered_lines, numbered_text, without_numbers}
use Rattle.fr_cli.specs.NumberedOutput.{IsCutShort, IsWrittenOf, IsWrittenTo, LacksMemory}
use Rattle.fr_cli.specs.Output.{IsAnsweredTo, IsOutputTo, text_of_answers}
use Rattle.fr_cli.specs.Runs.{IsRunOf}
use Rattle.fr_text.specs.Script.{max_script, parts_of, request_lines}
use Rattle.fr_cli.proofs.AnsweredLineLaws.{Asked, Tells, cut_told, each_told, lines_as}
use Rattle.fr_cli.proofs.NumberedLaws.{numbered-requests, text-behind}
use Rattle.fr_cli.proofs.OutputLaws.{answered_to}
use Rattle.fr_cli.specs.declared.script_fault.ScriptFault.{ScriptFault}
use Rattle.fr_cli.specs.declared.script_fault.ScriptFault.TheVariants.{NoMemory, WriteFailed}

-- what is so of the bytes that were read is so of the script, if it is known
on_script : (P : List ℕ → Type 0) (script : Option (List ℕ)) (bytes : List ℕ) → IfSome script (λ all. bytes ≡ all) → P bytes → IfSome script P
on_script P None bytes whole so = tt
on_script P (Some s) bytes whole so = subst P whole so

-- something else is said of the lines
written_told : (numbered : Bool) (A B : Account) (l : Asked) (a b : Option (List ℕ)) (done : Result ⊤ ScriptFault) → Tells A B → WasWritten numbered A l a b done → WasWritten numbered B l a b done
written_told numbered A B l a b (Ok x) so was = record {
  all = (was.all.0, was.all.1, lines_as numbered A.all B.all l was.all.0 (so.all (without_numbers l)) was.all.2);
  early = tt;
  faults = tt;
}
written_told numbered A B l a b (Err fault) so was = record { all = tt; early = cut_told numbered A B _ _ a b fault so was.early; faults = was.faults }

-- what was written to a writer was written to the same one
pub written_at : {W D : Type 0} (contents : W → Option (List ℕ)) (desk : Desk.Ghosts D) (numbered : Bool) (old new : D) (l : Asked) (held same : W) (now : Option (List ℕ)) (done : Result ⊤ ScriptFault)
    → held ≡ same → WasWritten numbered (account_by desk old new) l (contents held) now done
    → WasWritten numbered (account_of (desk.clean new) (desk.stands old) (desk.stands new)) l (contents same) now done
written_at contents desk numbered old new l held same now done is was =
    let account = account_of (desk.clean new) (desk.stands old) (desk.stands new) in
    subst (λ w. WasWritten numbered account l (contents w) now done) is (written_told numbered (account_by desk old new) account l (contents held) now done (each_told desk old new) was)

-- A script of these parts, whose cluster file is read so.
pub record HasParts (script : List ℕ) (f : ClusterFile) (requests : List ℕ) : Type 0 where
  pub size : length script ≤ max_script
  pub cluster : List ℕ
  pub split : parts_of script ≡ Some (cluster, requests)
  pub file : config_of cluster ≡ Ok f
  pub formed : IsWellFormed f

-- an output of these answers
output_to : (script requests : List ℕ) (f : ClusterFile) (left : List (List ℕ)) (written : List ℕ) → HasParts script f requests
    → (answered : IsAnsweredTo f (request_lines requests) left written) → (o : IsOutputTo script left written) × (o.answered.answered.answers ≡ answered.answered.answers)
output_to script requests f left written has answered = (
  record {
    size = has.size;
    config = f;
    formed = has.formed;
    lines = request_lines requests;
    file = ap (option_map (λ parts. config_of parts.0)) has.split ∙ ap Some has.file;
    requests = ap (option_map (λ parts. request_lines parts.1)) has.split;
    answered = answered;
  },
  refl,
)

-- the number of the first line behind the separator
abbrev pub first_number : List ℕ → ℕ
first_number cluster = length (lines cluster) + 2

module _ (clean : Type 0) (old new : Standing) (script requests : List ℕ) (f : ClusterFile) (front left : Asked) (is : clean) (has : HasParts script f requests)
    (stands : old f.cluster (opening f)) (split : numbered_lines (first_number has.cluster) requests ≡ front ++ left) where
  -- the lines without their numbers
  split-lines : request_lines requests ≡ without_numbers front ++ without_numbers left
  split-lines =
      sym (numbered-requests (first_number has.cluster) requests) ∙ ap without_numbers split ∙ map-append (λ (one : ℕ × List ℕ). one.1) front left

  -- an output of answers to the first lines, with numbers or without
  written_to : (numbered : Bool) (written : List ℕ) → AnswersLines numbered (AnswersAll clean old new) front written → IsWrittenTo numbered script (without_numbers left) written
  written_to false written so =
      let (answered, same) = answered_to clean old new f (request_lines requests) (without_numbers front) (without_numbers left) so.answers written is has.formed stands
      split-lines so.answered so.bytes in
      (output_to script requests f (without_numbers left) written has answered).0
  written_to true written so =
      let plain = text_of_answers so.answers in
      let (answered, same) = answered_to clean old new f (request_lines requests) (without_numbers front) (without_numbers left) so.answers plain is has.formed stands
      split-lines so.answered refl in
      let (output, these) = output_to script requests f (without_numbers left) plain has answered in
      record {
        plain = plain;
        output = output;
        asked = numbered_lines (first_number has.cluster) requests;
        numbers = ap (option_map (λ parts. numbered_lines (first_number parts.0) parts.1)) has.split;
        bytes = so.bytes ∙ sym (text-behind front left so.answers so.each) ∙ ap (λ l. numbered_text l so.answers) (sym split)
            ∙ ap (numbered_text (numbered_lines (first_number has.cluster) requests)) (sym (these ∙ same));
      }

-- All lines are answered.
written_whole : (numbered : Bool) (script written : List ℕ) → IsWrittenTo numbered script [] written → IsWrittenOf numbered script written
written_whole true script written so = so
written_whole false script written so = so

-- Where memory was wanting, and where a write failed, no more is to be said.
lacked : (numbered : Bool) (script left a b : Option (List ℕ)) → IfSome script (λ s. (written : List ℕ) × Appends a b written × LacksMemory numbered s written) → IsRunOf numbered script left a b (Err NoMemory)
lacked numbered script left a b so = record {
  output = tt;
  whole_script = tt;
  too_long = λ e. absurd cc;
  too_many_reads = λ e. absurd cc;
  read_failed = λ e. absurd cc;
  no_separator = λ e. absurd cc;
  config = λ fault e. absurd cc;
  no_memory = λ e. inr so;
  write_failed = λ e. absurd cc;
  unavailable = λ e. absurd cc;
}

failed : (numbered : Bool) (script left a b : Option (List ℕ)) → IfSome script (λ s. (written : List ℕ) × Appends a b written × IsCutShort numbered s written) → IsRunOf numbered script left a b (Err WriteFailed)
failed numbered script left a b so = record {
  output = tt;
  whole_script = tt;
  too_long = λ e. absurd cc;
  too_many_reads = λ e. absurd cc;
  read_failed = λ e. absurd cc;
  no_separator = λ e. absurd cc;
  config = λ fault e. absurd cc;
  no_memory = λ e. absurd cc;
  write_failed = λ e. so;
  unavailable = λ e. absurd cc;
}

no_write_failed : NoMemory ≡ WriteFailed → ⊥
no_write_failed e = absurd cc

run_of : (numbered : Bool) (clean : Type 0) (old new : Standing) (script left a b : Option (List ℕ)) (bytes requests : List ℕ) (f : ClusterFile) (done : Result ⊤ ScriptFault)
    → clean → IfSome script (λ all. bytes ≡ all) → IsAtEnd left → (has : HasParts bytes f requests) → old f.cluster (opening f)
    → WasWritten numbered (account_of clean old new) (numbered_lines (first_number has.cluster) requests) a b done → IsRunOf numbered script left a b done
run_of numbered clean old new script left a b bytes requests f (Ok x) is whole end has stands w = record {
  output =
      let (written, appended, answered) = w.all in
      let l = numbered_lines (first_number has.cluster) requests in
      on_script _ script bytes whole (
        written,
        appended,
        written_whole numbered bytes written (written_to clean old new bytes requests f l [] is has stands (sym (append-nil l)) numbered written answered),
      );
  whole_script = end;
  too_long = λ e. absurd cc;
  too_many_reads = λ e. absurd cc;
  read_failed = λ e. absurd cc;
  no_separator = λ e. absurd cc;
  config = λ fault e. absurd cc;
  no_memory = λ e. absurd cc;
  write_failed = λ e. absurd cc;
  unavailable = λ e. absurd cc;
}
run_of numbered clean old new script left a b bytes requests f (Err fault) is whole end has stands w =
    let c = w.early in
    elim w.faults [
      | inl lacks ↦ elim c.whole [
        | inl other ↦ absurd (no_write_failed (sym lacks ∙ other))
        | inr so ↦
            let (line, rest, split) = so.1 in
            subst (λ e. IsRunOf numbered script left a b (Err e)) (sym lacks)
            (lacked numbered script left a b (on_script _ script bytes whole (
              c.written,
              c.appended,
              (
                line.1,
                without_numbers rest,
                written_to clean old Anything bytes requests f so.0 (line ∷ rest) is has stands split numbered c.written so.2,
              ),
            )))
      ]
      | inr fails ↦
          let (rest, split) = c.done in
          subst (λ e. IsRunOf numbered script left a b (Err e)) (sym fails)
          (failed numbered script left a b (on_script _ script bytes whole (
            c.written,
            c.appended,
            (
              without_numbers rest,
              c.missing,
              written_to clean old new bytes requests f c.lines rest is has stands split numbered (c.written ++ c.missing) c.answered,
            ),
          )))
    ]

-- The first line behind the separator has this number.
pub run_at : (numbered : Bool) (clean : Type 0) (old new : Standing) (script left a b : Option (List ℕ)) (bytes requests : List ℕ) (f : ClusterFile) (done : Result ⊤ ScriptFault)
    → clean → IfSome script (λ all. bytes ≡ all) → IsAtEnd left → (has : HasParts bytes f requests) → old f.cluster (opening f) → (n : ℕ) → n ≡ first_number has.cluster
    → WasWritten numbered (account_of clean old new) (numbered_lines n requests) a b done → IsRunOf numbered script left a b done
run_at numbered clean old new script left a b bytes requests f done is whole end has stands n first w =
    run_of numbered clean old new script left a b bytes requests f done is whole end has stands
    (subst (λ (n : ℕ). WasWritten numbered (account_of clean old new) (numbered_lines n requests) a b done) first w)
