use Rattle.std.proofs.Common.{◌≡◌, ◌<◌, ◌+◌, ◌^◌, ℕ, List, length, arith, ◌++◌, ◌∷◌, [], Err, OnErr, refl, sym, ap, ◌∙◌, subst, append_assoc, append-nil, take, drop, take-append-drop, rules, inl, inr}
use Rattle.std.proofs.KnownBytes.{Appends-nil, Appends-trans, Appends-kept}
use Rattle.std.specs.Str.Lines.{lines}
use Rattle.fr_guide.proofs.RequestFileLaws.{lines-most}
use Rattle.fr_cli.specs.AnsweredLines.{AnswersEach, AnswersLines, WasWritten}
use Rattle.fr_cli.specs.Outcomes.{line_of}
use Rattle.fr_cli.specs.Numbered.{front_of, numbered_lines}
use Rattle.fr_cli.specs.declared.script_fault.ScriptFault.TheVariants.{NoMemory, WriteFailed}
use Rattle.fr_cli.specs.Outlets.{StopsSo}
use Rattle.fr_cli.proofs.AnsweredLineLaws.{cut_here, lines_kept, lines_then, no_lines, none_missing, one_line}
use Rattle.fr_cli.proofs.VisitLaws.{sink}
use Rattle.fr_http.proofs.WritesLaws.{flush_failed, write_failed}
use Rattle.fr_http.specs.Writes.{LastFailed}
use Rattle.fr_cli.proofs.jobs.answers.write_answers.Goals as goal

-- a text's lines have numbers behind this one
fits : (n : ℕ) (text : List ℕ) → n < 2 ^ 63 → length text < 2 ^ 63 → n + length (lines text) < 2 ^ 64
fits n text low short = omega (arith, low, short, lines-most text)

pub loop-next-init : goal.loop-next-init
loop-next-init g c = record {
  same = refl;
  falls = λ clean. clean;
  room = fits c.args.first c.args.lines.now c.requires.room (search rules);
  front = [];
  split = refl;
  written = [];
  appended = Appends-nil (g.W.Write.contents c.args.output.now.writer.now);
  answered = no_lines g.D.Desk c.args.numbered c.args.desk.now;
}

pub returns-in_err-answer : goal.returns-in_err-answer
returns-in_err-answer g c =
    let l = c.loop-next.invariant in
    let next = c.in-Some.next in
    let line : ℕ × List ℕ = (next.number, next.line.now) in
    let left = numbered_lines (next.number + 1) next.rest.now in
    let lines : numbered_lines c.args.first c.args.lines.now ≡ l.front ++ line ∷ left = l.split ∙ ap (λ left. l.front ++ left) c.in-Some.ensures.some.first in
    let answered : AnswersLines c.args.numbered (AnswersEach g.D.Desk.clean g.D.Desk.stands c.args.desk.now c.answer_line.new.desk) l.front l.written =
    subst (λ d. AnswersLines c.args.numbered (AnswersEach g.D.Desk.clean g.D.Desk.stands c.args.desk.now d) l.front l.written) (sym c.in_err-answer.ensures.fault.1) l.answered in
    let is : c.from_residual.result ≡ Err NoMemory = search rules in
    record {
      written = subst (WasWritten _ _ _ _ _) (sym is) (record {
        all = tt;
        early = cut_here g.D.Desk _ _ _ _ _ _ _ _ l.front l.written answered l.appended (line ∷ left, lines) (line, left, lines);
        faults = inl refl;
      });
      falls = search rules;
      same_writer = search rules;
      stops = subst (StopsSo (sink g.W.Write g.W.Sink) _) (sym is) tt;
    }

pub returns-in_err-text : goal.returns-in_err-text
returns-in_err-text g c =
    let l = c.loop-next.invariant in
    let next = c.in-Some.next in
    let line : ℕ × List ℕ = (next.number, next.line.now) in
    let left = numbered_lines (next.number + 1) next.rest.now in
    let answer = c.in_ok-answer.answer in
    let text = front_of c.args.numbered next.number ++ line_of answer in
    let lines : numbered_lines c.args.first c.args.lines.now ≡ l.front ++ line ∷ left = l.split ∙ ap (λ left. l.front ++ left) c.in-Some.ensures.some.first in
    let is : c.from_residual-in_err-text.result ≡ Err NoMemory = search rules in
    record {
      written = subst (WasWritten _ _ _ _ _) (sym is) (record {
        all = tt;
        early = record {
          lines = l.front ++ line ∷ [];
          done = (left, lines ∙ sym (append_assoc l.front (line ∷ []) left));
          written = l.written;
          missing = text;
          appended = l.appended;
          one = ([], next.number, answer, refl);
          answered = lines_then g.D.Desk _ _ c.loop-next.desk _ l.front (line ∷ []) l.written text l.answered
              (one_line g.D.Desk _ _ _ next.number next.line.now answer text c.answer_line.ensures.answers.falls c.in_ok-answer.ensures.answers.does refl);
          whole = inr (l.front, (line, left, lines), lines_kept g.D.Desk _ _ _ _ l.front l.written c.answer_line.ensures.answers.falls l.answered);
        };
        faults = inl refl;
      });
      falls = search rules;
      same_writer = search rules;
      stops = subst (StopsSo (sink g.W.Write g.W.Sink) _) (sym is) tt;
    }

pub returns-in_err-write_all : goal.returns-in_err-write_all
returns-in_err-write_all g c =
    let l = c.loop-next.invariant in
    let text = c.deref.result.now in
    let (n, short, cut) = c.in_err-write_all.ensures.err in
    let next = c.in-Some.next in
    let line : ℕ × List ℕ = (next.number, next.line.now) in
    let left = numbered_lines (next.number + 1) next.rest.now in
    let answer = c.in_ok-answer.answer in
    let is : text ≡ front_of c.args.numbered next.number ++ line_of answer = c.deref.ensures.value ∙ c.in_ok-text.ensures in
    let fails : c.from_residual-in_err-write_all.result ≡ Err WriteFailed = search rules in
    let why = c.in_err-write_all.field-0.0 in
    let last = c.write_all.new.self.writer.now in
    let was : c.write_all.result ≡ Err why = search rules in
    record {
      written = subst (WasWritten _ _ _ _ _) (sym fails) (record {
        all = tt;
        early = record {
          lines = l.front ++ line ∷ [];
          done = (left, l.split ∙ ap (λ left. l.front ++ left) c.in-Some.ensures.some.first ∙ sym (append_assoc l.front (line ∷ []) left));
          written = l.written ++ take n text;
          missing = drop n text;
          appended = Appends-trans _ _ _ l.written (take n text) l.appended cut;
          one = (take n text, next.number, answer, sym is ∙ sym (take-append-drop n text));
          answered = subst (AnswersLines _ _ (l.front ++ line ∷ []))
              (ap (λ t. l.written ++ t) (sym (take-append-drop n text)) ∙ sym (append_assoc l.written (take n text) (drop n text)))
              (lines_then g.D.Desk _ _ c.loop-next.desk _ l.front (line ∷ []) l.written text l.answered
              (one_line g.D.Desk _ _ _ next.number next.line.now answer text c.answer_line.ensures.answers.falls c.in_ok-answer.ensures.answers.does is));
          whole = inl refl;
        };
        faults = inr refl;
      });
      falls = search rules;
      same_writer = search rules;
      stops = subst (StopsSo (sink g.W.Write g.W.Sink) last) (sym fails) (write_failed g.W.Sink.writes g.W.Sink.flushes _ c.write_all.result why last _ was c.write_all.ensures.writing);
    }

pub loop-next-preserved : goal.loop-next-preserved
loop-next-preserved g c =
    let l = c.loop-next.invariant in
    let text = c.deref.result.now in
    let next = c.in-Some.next in
    let line : ℕ × List ℕ = (next.number, next.line.now) in
    let answer = c.in_ok-answer.answer in
    record {
      same = c.in_ok-write_all.ensures.same ∙ l.same;
      falls = λ clean. l.falls (c.answer_line.ensures.answers.falls clean);
      front = l.front ++ line ∷ [];
      room = omega (arith, l.room, c.in-Some.ensures.some.room);
      split = l.split ∙ ap (λ left. l.front ++ left) c.in-Some.ensures.some.first ∙ sym (append_assoc l.front (line ∷ []) (numbered_lines (next.number + 1) next.rest.now));
      written = l.written ++ text;
      appended = Appends-trans _ _ _ l.written text l.appended c.in_ok-write_all.ensures.ok;
      answered = lines_then g.D.Desk _ _ c.loop-next.desk _ l.front (line ∷ []) l.written text l.answered
          (one_line g.D.Desk _ _ _ next.number next.line.now answer text c.answer_line.ensures.answers.falls c.in_ok-answer.ensures.answers.does (c.deref.ensures.value ∙ c.in_ok-text.ensures));
    }

pub returns-in_err-flush : goal.returns-in_err-flush
returns-in_err-flush g c =
    let l = c.loop-next.invariant in
    let none : numbered_lines c.loop-next.number c.loop-next.rest.now ≡ [] = search rules in
    let fails : c.from_residual-in_err-flush.result ≡ Err WriteFailed = search rules in
    let why = c.in_err-flush.field-0.0 in
    let last = c.flush.new.self.writer.now in
    let was : c.flush.result ≡ Err why = search rules in
    let (given, went, alike) = c.flush.ensures.flushed in
    record {
      written = subst (WasWritten _ _ _ _ _) (sym fails) (record {
        all = tt;
        early = record {
          lines = l.front;
          done = ([], l.split ∙ ap (λ left. l.front ++ left) none);
          written = l.written;
          missing = [];
          appended = Appends-kept _ _ _ l.written l.appended c.flush.ensures.holds;
          one = none_missing _;
          answered = subst (AnswersLines _ _ l.front) (sym (append-nil l.written)) l.answered;
          whole = inl refl;
        };
        faults = inr refl;
      });
      falls = search rules;
      same_writer = search rules;
      stops = subst (StopsSo (sink g.W.Write g.W.Sink) last) (sym fails)
          (subst (λ r. OnErr r (LastFailed g.W.Sink.writes g.W.Sink.flushes last)) was (flush_failed g.W.Sink.writes g.W.Sink.flushes _ last c.flush.result given went alike));
    }

pub returns : goal.returns
returns g c =
    let l = c.loop-next.invariant in
    let none : numbered_lines c.loop-next.number c.loop-next.rest.now ≡ [] = search rules in
    let all : numbered_lines c.args.first c.args.lines.now ≡ l.front = l.split ∙ ap (λ left. l.front ++ left) none ∙ append-nil l.front in
    record {
      written = record {
        all = (l.written, Appends-kept _ _ _ l.written l.appended c.flush.ensures.holds, subst (λ lines. AnswersLines c.args.numbered (AnswersEach g.D.Desk.clean g.D.Desk.stands c.args.desk.now c.loop-next.desk) lines l.written) (sym all) l.answered);
        early = tt;
        faults = tt;
      };
      falls = search rules;
      same_writer = search rules;
      stops = tt;
    }
