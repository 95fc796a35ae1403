use Rattle.std.proofs.Common.{◌≡◌, ap₂, length-append, ◌+◌, ◌<◌, ◌≤◌, ◌++◌, ◌∷◌, [], ℕ, List, None, Err, length, refl, sym, ap, ◌∙◌, subst, append_assoc, append-nil, arith, rules}
use Rattle.std.proofs.KnownBytes.{Appends-nil, Appends-trans}
use Rattle.std.specs.Str.Lines.{lines}
use Rattle.fr_cli.specs.AnsweredLines.{AnswersEach, AnswersLines, BeginWith}
use Rattle.fr_cli.specs.Numbered.{numbered_lines}
use Rattle.fr_cli.specs.RequestStream.{AreFirstOfAll, AreShort, EndsLines, HasHeard}
use Rattle.fr_text.specs.Script.{HasNo, max_line, parts_around, request_lines}
use Rattle.fr_cli.specs.ScriptFault.{script_fault_of}
use Rattle.fr_cli.specs.declared.script_fault.ScriptFault.TheVariants.{NoMemory}
use Rattle.fr_cli.proofs.AnsweredLineLaws.{Asked, cut_after, cut_here, no_lines}
use Rattle.fr_cli.proofs.EndedLines.{ended-append}
use Rattle.fr_cli.specs.Outlets.{StopsSo}
use Rattle.fr_cli.proofs.NumberedLaws.{numbered-none}
use Rattle.fr_cli.proofs.RequestStreamLaws.{count-then, ends-none, ends-then, first_begin, first_then, first_whole, heard_cut, heard_more, long_by, not_long, short-then, unread_stops}
use Rattle.fr_cli.proofs.VisitLaws.{sink}
use Rattle.fr_text.proofs.LineLemmas.{lines_at, has_no-append, no_feed, request_lines-none, split_by, split_clear}
use Rattle.fr_cli.proofs.ShortLines.{short_ended}
use Rattle.fr_cli.proofs.jobs.request_stream.answer_piece.Goals as goal

pub loop-line-init : goal.loop-line-init
loop-line-init g c = record {
  same = refl;
  open_ended = c.requires.open_ended;
  fits = subst (λ (n : ℕ). n ≤ max_line) c.args.begun.now.ok.0 c.requires.short;
  short = subst AreShort (sym (request_lines-none [] refl)) tt;
  falls = λ clean. clean;
  front = [];
  split = refl;
  ends = ends-none;
  written = [];
  appended = Appends-nil (g.W.Write.contents c.args.output.now.writer.now);
  count = omega arith;
  room = omega arith;
  answered = subst (λ l. AnswersLines c.args.numbered (AnswersEach g.D.Desk.clean g.D.Desk.stands c.args.desk.now c.args.desk.now) l [])
      (sym (numbered-none c.args.number.now [] refl)) (no_lines g.D.Desk c.args.numbered c.args.desk.now);
}

pub returns-in_err-append-clause-heard : goal.returns-in_err-append-clause-heard
returns-in_err-append-clause-heard g c =
    let l = c.loop-line.invariant in
    let bytes = c.args.begun.now.items ++ c.args.piece.now in
    let line = c.in-Some.line.now in
    let after = c.in-Some.after.now in
    let begun = c.loop-line.begun.items in
    let number = c.args.number.now in
    let first : AreFirstOfAll number bytes (numbered_lines number l.front) =
    subst (λ all. AreFirstOfAll number all (numbered_lines number l.front)) (sym l.split) (first_whole number l.front _ l.ends) in
    let rest : c.loop-line.rest.now ≡ line ++ 10 ∷ after = split_by c.loop-line.rest.now line after c.in-Some.ensures in
    let split : bytes ≡ l.front ++ ((begun ++ line) ++ 10 ∷ after) = l.split ∙ ap (λ r. l.front ++ (begun ++ r)) rest ∙ ap (λ r. l.front ++ r) (sym (append_assoc begun line (10 ∷ after))) in
    let clear : HasNo 10 (begun ++ line) = has_no-append 10 begun line l.open_ended (split_clear c.loop-line.rest.now line after c.in-Some.ensures) in
    let is : c.from_residual.result ≡ Err (script_fault_of c.in_err-append.field-0.0) = search rules in
    subst (HasHeard _ _ _ _ bytes _ _ _) (sym is)
    (heard_cut g.D.Desk _ _ _ _ _ bytes _ _ _ l.front l.written c.in_err-append.field-0.0 l.answered l.appended first
    (λ e.
    let was = c.in_err-append.was in
    let over = c.append.ensures.too_long.0 cc in
    (l.front, begun ++ line, 10 ∷ after, split, clear, long_by begun line (subst (λ (n : ℕ). max_line < n + length line) c.loop-line.begun.ok.0 over))))

pub returns-in_err-extend_from_slice-clause-heard : goal.returns-in_err-extend_from_slice-clause-heard
returns-in_err-extend_from_slice-clause-heard g c =
    let l = c.loop-line.invariant in
    let bytes = c.args.begun.now.items ++ c.args.piece.now in
    let number = c.args.number.now in
    let first : AreFirstOfAll number bytes (numbered_lines number l.front) =
    subst (λ all. AreFirstOfAll number all (numbered_lines number l.front)) (sym l.split) (first_whole number l.front _ l.ends) in
    let is : c.from_residual-in_err-extend_from_slice.result ≡ Err NoMemory = search rules in
    subst (HasHeard _ _ _ _ bytes _ _ _) (sym is)
    (record { heard = tt; early = cut_here g.D.Desk _ _ _ _ _ _ _ _ (numbered_lines number l.front) l.written l.answered l.appended first first; too_long = λ e. absurd cc })

pub returns-in_err-answer_requests-clause-heard : goal.returns-in_err-answer_requests-clause-heard
returns-in_err-answer_requests-clause-heard g c =
    let l = c.loop-line.invariant in
    let bytes = c.args.begun.now.items ++ c.args.piece.now in
    let line = c.in-Some.line.now in
    let after = c.in-Some.after.now in
    let begun = c.loop-line.begun.items in
    let chunk = (begun ++ line) ++ 10 ∷ [] in
    let rest : c.loop-line.rest.now ≡ line ++ 10 ∷ after = split_by c.loop-line.rest.now line after c.in-Some.ensures in
    let ends : EndsLines chunk = ended-append (begun ++ line) in
    let same : begun ++ c.loop-line.rest.now ≡ chunk ++ after =
    ap (λ r. begun ++ r) rest ∙ sym (append_assoc begun line (10 ∷ after)) ∙ sym (append_assoc (begun ++ line) (10 ∷ []) after) in
    let split : bytes ≡ l.front ++ (chunk ++ after) = l.split ∙ ap (λ r. l.front ++ r) same in
    let whole : c.deref.result.now ≡ chunk = search rules in
    let number = c.args.number.now in
    let behind = number + length (lines l.front) in
    let these : numbered_lines behind chunk ≡ numbered_lines c.loop-line.number c.deref.result.now = ap₂ numbered_lines (sym l.count) (sym whole) in
    let is_first : (k : Asked) → BeginWith (numbered_lines c.loop-line.number c.deref.result.now) k → AreFirstOfAll number bytes (numbered_lines number l.front ++ k) =
    λ k so. subst (λ all. AreFirstOfAll number all (numbered_lines number l.front ++ k)) (sym split)
    (first_then number l.front (chunk ++ after) k l.ends (first_begin behind chunk after k so.0 ends (these ∙ so.1))) in
    let is : c.from_residual-in_err-answer_requests.result ≡ Err _ = search rules in
    subst (HasHeard _ _ _ _ bytes _ _ _) (sym is)
    (record {
      heard = tt;
      early = cut_after g.D.Desk _ _ _ _ _ _ _ _ _ _ _ _ (numbered_lines number l.front) l.written l.answered l.appended is_first is_first
          c.in_err-answer_requests.ensures.asked.early;
      too_long = λ e. absurd (not_long _ c.in_err-answer_requests.ensures.asked.faults cc);
    })

pub loop-line-preserved : goal.loop-line-preserved
loop-line-preserved g c =
    let l = c.loop-line.invariant in
    let line = c.in-Some.line.now in
    let after = c.in-Some.after.now in
    let begun = c.loop-line.begun.items in
    let chunk = (begun ++ line) ++ 10 ∷ [] in
    let rest : c.loop-line.rest.now ≡ line ++ 10 ∷ after = split_by c.loop-line.rest.now line after c.in-Some.ensures in
    let ends : EndsLines chunk = ended-append (begun ++ line) in
    let same : begun ++ c.loop-line.rest.now ≡ chunk ++ after =
    ap (λ r. begun ++ r) rest ∙ sym (append_assoc begun line (10 ∷ after)) ∙ sym (append_assoc (begun ++ line) (10 ∷ []) after) in
    let clear : HasNo 10 (begun ++ line) = has_no-append 10 begun line l.open_ended (split_clear c.loop-line.rest.now line after c.in-Some.ensures) in
    let (written, appended, answers) = c.in_ok-answer_requests.ensures.asked.all in
    let whole : c.deref.result.now ≡ chunk = search rules in
    let number = c.args.number.now in
    let behind = number + length (lines l.front) in
    let these : numbered_lines c.loop-line.number c.deref.result.now ≡ numbered_lines behind chunk = ap₂ numbered_lines l.count whole in
    let answered = subst (λ b. AnswersLines c.args.numbered (AnswersEach g.D.Desk.clean g.D.Desk.stands c.loop-line.desk c.answer_requests.new.desk) b written) these answers in
    let one : length (lines chunk) ≡ 1 = ap length (lines_at (begun ++ line) [] clear) in
    let size = ap length rest in
    let none : c.clear.new.self.items ≡ [] = search rules in
    let fits : length (begun ++ line) ≤ max_line = search rules in
    record {
      same = c.answer_requests.ensures.same_writer ∙ l.same;
      falls = λ clean. l.falls (c.answer_requests.ensures.falls clean);
      front = l.front ++ chunk;
      split = l.split ∙ ap (λ r. l.front ++ r) same ∙ sym (append_assoc l.front chunk after) ∙ ap (λ b. (l.front ++ chunk) ++ (b ++ after)) (sym none);
      ends = ends-then l.front chunk l.ends ends;
      count = omega (arith, l.count, one, count-then number l.front chunk l.ends);
      room = omega (arith, l.room, size, length-append line (10 ∷ after));
      open_ended = subst (HasNo 10) (sym none) tt;
      fits = subst (λ (b : List ℕ). length b ≤ max_line) (sym none) (omega arith);
      short = short-then l.front chunk l.ends l.short (short_ended (begun ++ line) clear fits);
      written = l.written ++ written;
      appended = Appends-trans _ _ _ l.written written l.appended appended;
      answered = heard_more g.D.Desk _ number _ _ _ l.front chunk l.written written l.ends l.answered answered;
    }

pub returns-in_err-append-2-clause-heard : goal.returns-in_err-append-2-clause-heard
returns-in_err-append-2-clause-heard g c =
    let l = c.loop-line.invariant in
    let bytes = c.args.begun.now.items ++ c.args.piece.now in
    let begun = c.loop-line.begun.items in
    let left = c.loop-line.rest.now in
    let number = c.args.number.now in
    let first : AreFirstOfAll number bytes (numbered_lines number l.front) =
    subst (λ all. AreFirstOfAll number all (numbered_lines number l.front)) (sym l.split) (first_whole number l.front _ l.ends) in
    let none : None ≡ parts_around 10 left = search rules in
    let clear : HasNo 10 (begun ++ left) = has_no-append 10 begun left l.open_ended (no_feed left none) in
    let split : bytes ≡ l.front ++ ((begun ++ left) ++ []) = l.split ∙ ap (λ r. l.front ++ r) (sym (append-nil (begun ++ left))) in
    let is : c.from_residual-in_err-append-2.result ≡ Err (script_fault_of c.in_err-append-2.field-0.0) = search rules in
    subst (HasHeard _ _ _ _ bytes _ _ _) (sym is)
    (heard_cut g.D.Desk _ _ _ _ _ bytes _ _ _ l.front l.written c.in_err-append-2.field-0.0 l.answered l.appended first
    (λ e.
    let was = c.in_err-append-2.was in
    let over = c.append-2.ensures.too_long.0 cc in
    (l.front, begun ++ left, [], split, clear, long_by begun left (subst (λ (n : ℕ). max_line < n + length left) c.loop-line.begun.ok.0 over))))

pub returns-clause-heard : goal.returns-clause-heard
returns-clause-heard g c =
    let l = c.loop-line.invariant in
    let more : c.append-2.new.input.items ≡ c.loop-line.begun.items ++ c.loop-line.rest.now = search rules in
    let left : None ≡ parts_around 10 c.loop-line.rest.now = search rules in
    let rest : HasNo 10 c.loop-line.rest.now = no_feed c.loop-line.rest.now left in
    let open_ended : HasNo 10 c.append-2.new.input.items = subst (HasNo 10) (sym more) (has_no-append 10 c.loop-line.begun.items c.loop-line.rest.now l.open_ended rest) in
    record { heard = (l.front, l.written, l.split ∙ ap (λ r. l.front ++ r) (sym more), l.ends, l.count, open_ended, l.short, l.appended, l.answered); early = tt; too_long = λ e. absurd cc }

pub returns-in_err-append-clause-stops : goal.returns-in_err-append-clause-stops
returns-in_err-append-clause-stops g c =
    let is : c.from_residual.result ≡ Err (script_fault_of c.in_err-append.field-0.0) = search rules in
    subst (StopsSo (sink g.W.Write g.W.Sink) _) (sym is) (unread_stops (sink g.W.Write g.W.Sink) c.in_err-append.field-0.0 _)

pub returns-in_err-extend_from_slice-clause-stops : goal.returns-in_err-extend_from_slice-clause-stops
returns-in_err-extend_from_slice-clause-stops g c =
    let is : c.from_residual-in_err-extend_from_slice.result ≡ Err NoMemory = search rules in subst (StopsSo (sink g.W.Write g.W.Sink) _) (sym is) tt

pub returns-in_err-answer_requests-clause-stops : goal.returns-in_err-answer_requests-clause-stops
returns-in_err-answer_requests-clause-stops g c =
    let is : c.from_residual-in_err-answer_requests.result ≡ Err c.in_err-answer_requests.field-0.0 = search rules in
    subst (StopsSo (sink g.W.Write g.W.Sink) _) (sym is) c.in_err-answer_requests.ensures.stops

pub returns-in_err-append-2-clause-stops : goal.returns-in_err-append-2-clause-stops
returns-in_err-append-2-clause-stops g c =
    let is : c.from_residual-in_err-append-2.result ≡ Err (script_fault_of c.in_err-append-2.field-0.0) = search rules in
    subst (StopsSo (sink g.W.Write g.W.Sink) _) (sym is) (unread_stops (sink g.W.Write g.W.Sink) c.in_err-append-2.field-0.0 _)
