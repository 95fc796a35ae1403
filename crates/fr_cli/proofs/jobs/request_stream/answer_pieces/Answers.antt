use Rattle.std.proofs.Common.{◌≡◌, ap₂, ◌⊎◌, ◌++◌, ◌+◌, ◌<◌, ◌≤◌, [], ℕ, List, Err, length, refl, sym, ap, ◌∙◌, subst, append_assoc, append-nil, take, arith, rules, length-append, inl, inr}
use Rattle.std.specs.Io.KnownBytes.{Consumes, IsAtEnd}
use Rattle.std.proofs.KnownBytes.{Appends-nil, Appends-trans, Consumes-nil, Consumes-trans}
use Rattle.std.specs.Str.Lines.{lines}
use Rattle.fr_cli.specs.AnsweredLines.{AnswersEach, AnswersLines, WasCutShort, account_by}
use Rattle.fr_cli.specs.Numbered.{numbered_lines}
use Rattle.fr_cli.specs.RequestStream.{AreFirstOfAll, AreShort, HasAnswered, WasAsked, HasLongLine}
use Rattle.fr_text.specs.Script.{HasNo, max_line, max_script, request_lines}
use Rattle.fr_cli.specs.declared.script_fault.ScriptFault.TheVariants as fault
use Rattle.fr_cli.specs.declared.streams.input.InputFault.TheVariants.{ReadFailed, TooLong, TooManyReads}
use Rattle.fr_cli.proofs.AnsweredLineLaws.{no_lines}
use Rattle.fr_cli.proofs.RequestStreamLaws.{at_end, count-then, cut_between, cut_within, ends-none, ends-then, heard_more, on_input, short-then, split_then}
use Rattle.fr_cli.specs.Outlets.{StopsSo}
use Rattle.fr_text.proofs.LineLemmas.{request_lines-none}
use Rattle.fr_guide.proofs.RequestFileLaws.{lines-most}
use Rattle.fr_cli.proofs.NumberedLaws.{numbered-none}
use Rattle.fr_cli.proofs.ShortLines.{short_open}
use Rattle.fr_cli.proofs.VisitLaws.{sink}
use Rattle.fr_cli.proofs.jobs.request_stream.answer_pieces.Goals as goal
use Rattle.fr_cli.proofs.jobs.request_stream.answer_pieces.Goals.{in-Ok+in_ok-room-in-Ok+in_ok-answer_piece-in-Ok, in-Err+in_ok-try_again-in-Err}

pub loop-init : goal.loop-init
loop-init g c =
    record {
      same = refl;
      falls = λ clean. clean;
      front = [];
      taken = subst (Consumes (g.R.Read.remaining c.args.reader.now) (g.R.Read.remaining c.args.reader.now)) (sym c.new-begun.ensures.items) (Consumes-nil (g.R.Read.remaining c.args.reader.now));
      room = ap (λ (bytes : List ℕ). max_script + length bytes) c.new-begun.ensures.items;
      ends = ends-none;
      open_ended = subst (HasNo 10) (sym c.new-begun.ensures.items) tt;
      fits = omega (arith, c.new-begun.result.ok.0, ap (λ (bytes : List ℕ). length bytes) c.new-begun.ensures.items);
      short = subst AreShort (sym (request_lines-none [] refl)) tt;
      written = [];
      appended = Appends-nil (g.W.Write.contents c.args.output.now.writer.now);
      count = omega arith;
      answered = subst (λ l. AnswersLines c.args.numbered (AnswersEach g.D.Desk.clean g.D.Desk.stands c.args.desk.now c.args.desk.now) l []) (sym (numbered-none 1 [] refl))
          (no_lines g.D.Desk c.args.numbered c.args.desk.now);
    }

pub answer_requests-requires : goal.answer_requests-requires
answer_requests-requires g c =
    let l = c.loop.invariant in
    omega (arith, l.count, l.room, lines-most l.front, length-append l.front c.loop.begun.items)

pub answer_piece-requires-clause-room : goal.answer_piece-requires-clause-room
answer_piece-requires-clause-room g c =
    let l = c.loop.invariant in
    let piece : length (take c.in-Ok.n c.read.new.buf) ≤ 8192 = search rules in
    omega (arith, l.count, l.room, piece, lines-most l.front, length-append l.front c.loop.begun.items)

pub returns-in-Ok-eq0-clause-answered : goal.returns-in-Ok-eq0-clause-answered
returns-in-Ok-eq0-clause-answered g c =
    let l = c.loop.invariant in
    let contents = g.W.Write.contents in
    let remaining = g.R.Read.remaining in
    let end : IsAtEnd (remaining c.read.new.self) = search rules in
    let none : take c.in-Ok-eq0.field-0 c.read.new.buf ≡ [] = search rules in
    let taken : Consumes (remaining c.args.reader.now) (remaining c.read.new.self) (l.front ++ c.loop.begun.items) =
    subst (Consumes _ _) (ap (λ r. (l.front ++ c.loop.begun.items) ++ r) none ∙ append-nil (l.front ++ c.loop.begun.items)) (Consumes-trans _ _ _ _ _ l.taken c.in-Ok-eq0.ensures.bytes.0) in
    let has : WasAsked c.args.numbered (account_by g.D.Desk c.loop.desk c.answer_requests.new.desk) (numbered_lines (1 + length (lines l.front)) c.loop.begun.items)
    (contents c.loop.output.writer.now) (contents c.answer_requests.new.output.writer.now) c.answer_requests.result =
    subst (λ b. WasAsked c.args.numbered (account_by g.D.Desk c.loop.desk c.answer_requests.new.desk) b
    (contents c.loop.output.writer.now) (contents c.answer_requests.new.output.writer.now) c.answer_requests.result) (ap₂ numbered_lines l.count c.deref.ensures.value)
    c.answer_requests.ensures.asked in
    let short : AreShort (request_lines (l.front ++ c.loop.begun.items)) =
    short-then l.front c.loop.begun.items l.ends l.short (short_open c.loop.begun.items l.open_ended (subst (λ (n : ℕ). n ≤ max_line) c.loop.begun.ok.0 l.fits)) in
    let fits : length (l.front ++ c.loop.begun.items) ≤ max_script = omega (arith, l.room) in
    at_end g.D.Desk c.args.numbered c.args.desk.now c.loop.desk c.answer_requests.new.desk
    (remaining c.args.reader.now) (remaining c.read.new.self)
    (contents c.args.output.now.writer.now) (contents c.loop.output.writer.now) (contents c.answer_requests.new.output.writer.now)
    l.front c.loop.begun.items l.written c.answer_requests.result taken end fits l.ends l.appended l.answered short has

pub returns-in_err-room-in-Ok-clause-answered : goal.returns-in_err-room-in-Ok-clause-answered
returns-in_err-room-in-Ok-clause-answered g c =
    let l = c.loop.invariant in
    let remaining = g.R.Read.remaining in
    let piece = take c.in-Ok.n c.read.new.buf in
    let less : c.loop.room < c.in-Ok.n = search rules in
    let size : length piece ≡ c.in-Ok.n = search rules in
    let is : c.from_residual.result ≡ Err fault.TooLong = search rules in
    let taken : Consumes (remaining c.args.reader.now) (remaining c.read.new.self) ((l.front ++ c.loop.begun.items) ++ piece) =
    Consumes-trans _ _ _ _ _ l.taken c.in-Ok.ensures.bytes.0 in
    let long : max_script < length ((l.front ++ c.loop.begun.items) ++ piece) =
    omega (arith, less, size, l.room, length-append (l.front ++ c.loop.begun.items) piece) in
    subst (HasAnswered c.args.numbered (account_by g.D.Desk c.args.desk.now c.loop.desk) (remaining c.args.reader.now) (remaining c.read.new.self)
    (g.W.Write.contents c.args.output.now.writer.now) (g.W.Write.contents c.loop.output.writer.now)) (sym is)
    (cut_between g.D.Desk c.args.numbered c.args.desk.now c.loop.desk (remaining c.args.reader.now) (remaining c.read.new.self)
    (g.W.Write.contents c.args.output.now.writer.now) (g.W.Write.contents c.loop.output.writer.now) l.front (c.loop.begun.items ++ piece) l.written fault.TooLong TooLong refl
    (subst (Consumes _ _) (append_assoc l.front c.loop.begun.items piece) taken) l.ends l.appended l.answered
    (λ is. on_input (λ bytes. (max_script < length bytes) ⊎ HasLongLine bytes) (remaining c.args.reader.now) (remaining c.read.new.self) ((l.front ++ c.loop.begun.items) ++ piece) taken
    (λ more. inl (omega (arith, long, length-append ((l.front ++ c.loop.begun.items) ++ piece) more))))
    (λ is. elim is [
      | inl e ↦ absurd cc
      | inr e ↦ absurd cc
    ]))

pub returns-in_err-answer_piece-in-Ok-clause-answered : goal.returns-in_err-answer_piece-in-Ok-clause-answered
returns-in_err-answer_piece-in-Ok-clause-answered g c =
    let l = c.loop.invariant in
    let contents = g.W.Write.contents in
    let remaining = g.R.Read.remaining in
    let bytes = c.loop.begun.items ++ take c.in-Ok.n c.read.new.buf in
    let is : c.from_residual-in_err-answer_piece-in-Ok.result ≡ Err c.in_err-answer_piece-in-Ok.field-0.0 = search rules in
    let early = subst (λ (n : ℕ). WasCutShort c.args.numbered (account_by g.D.Desk c.loop.desk c.answer_piece.new.desk) (AreFirstOfAll n bytes) (AreFirstOfAll n bytes)
    (contents c.loop.output.writer.now) (contents c.answer_piece.new.output.writer.now) c.in_err-answer_piece-in-Ok.field-0.0) l.count c.in_err-answer_piece-in-Ok.ensures.heard.early in
    let taken : Consumes (remaining c.args.reader.now) (remaining c.read.new.self) (l.front ++ bytes) =
    subst (Consumes _ _) (append_assoc l.front c.loop.begun.items (take c.in-Ok.n c.read.new.buf)) (Consumes-trans _ _ _ _ _ l.taken c.in-Ok.ensures.bytes.0) in
    subst (HasAnswered c.args.numbered (account_by g.D.Desk c.args.desk.now c.answer_piece.new.desk) (remaining c.args.reader.now) (remaining c.read.new.self)
    (contents c.args.output.now.writer.now) (contents c.answer_piece.new.output.writer.now)) (sym is)
    (cut_within g.D.Desk c.args.numbered c.args.desk.now c.loop.desk c.answer_piece.new.desk
    (remaining c.args.reader.now) (remaining c.read.new.self)
    (contents c.args.output.now.writer.now) (contents c.loop.output.writer.now) (contents c.answer_piece.new.output.writer.now)
    l.front bytes l.written c.in_err-answer_piece-in-Ok.field-0.0 taken l.ends l.appended l.answered
    early (λ is. c.in_err-answer_piece-in-Ok.ensures.heard.too_long cc) c.in_err-answer_piece-in-Ok.ensures.faults)

pub returns-in_err-try_again-in-Err-clause-answered : goal.returns-in_err-try_again-in-Err-clause-answered
returns-in_err-try_again-in-Err-clause-answered g c =
    let l = c.loop.invariant in
    let remaining = g.R.Read.remaining in
    let is : c.from_residual-in_err-try_again-in-Err.result ≡ Err fault.ReadFailed = search rules in
    let taken : Consumes (remaining c.args.reader.now) (remaining c.read.new.self) (l.front ++ c.loop.begun.items) = search rules in
    subst (HasAnswered c.args.numbered (account_by g.D.Desk c.args.desk.now c.loop.desk) (remaining c.args.reader.now) (remaining c.read.new.self)
    (g.W.Write.contents c.args.output.now.writer.now) (g.W.Write.contents c.loop.output.writer.now)) (sym is)
    (cut_between g.D.Desk c.args.numbered c.args.desk.now c.loop.desk (remaining c.args.reader.now) (remaining c.read.new.self)
    (g.W.Write.contents c.args.output.now.writer.now) (g.W.Write.contents c.loop.output.writer.now) l.front c.loop.begun.items l.written fault.ReadFailed ReadFailed refl
    taken l.ends l.appended l.answered (λ is. absurd cc) (λ is. l.open_ended))

pub loop-preserved : goal.loop-preserved
loop-preserved g c =
    let l = c.loop.invariant in
    let remaining = g.R.Read.remaining in
    elim c.match-read.branch [
      | in-Ok+in_ok-room-in-Ok+in_ok-answer_piece-in-Ok w ↦
          let piece = take w.in-Ok.n c.read.new.buf in
          let (more, written, split, ends, count, open_ended, short, appended, answers) = w.in_ok-answer_piece-in-Ok.ensures.heard.heard in
          let begun = w.answer_piece.new.begun.items in
          let all : (l.front ++ c.loop.begun.items) ++ piece ≡ (l.front ++ more) ++ begun = split_then l.front c.loop.begun.items piece more begun split in
          let size : length piece ≡ w.in-Ok.n = search rules in
          let less : w.in_ok-room-in-Ok.room + w.in-Ok.n ≡ c.loop.room = search rules in
          let answered = subst (λ (n : ℕ). AnswersLines c.args.numbered (AnswersEach g.D.Desk.clean g.D.Desk.stands c.loop.desk w.answer_piece.new.desk) (numbered_lines n more) written)
          l.count answers in
          rw w.desk-is (rw w.output-is (rw w.begun-is (rw w.number-is (rw w.room-is (record {
            same = w.answer_piece.ensures.same ∙ l.same;
            falls = λ clean. l.falls (w.answer_piece.ensures.falls clean);
            front = l.front ++ more;
            taken = subst (Consumes (remaining c.args.reader.now) (remaining c.read.new.self)) all (Consumes-trans _ _ _ _ _ l.taken w.in-Ok.ensures.bytes.0);
            room = omega (arith, less, size, l.room, length-append (l.front ++ c.loop.begun.items) piece, ap (λ (bytes : List ℕ). length bytes) all);
            ends = ends-then l.front more l.ends ends;
            count = omega (arith, count, l.count, count-then 1 l.front more l.ends);
            open_ended = open_ended;
            fits = w.in_ok-answer_piece-in-Ok.ensures.short;
            short = short-then l.front more l.ends l.short short;
            written = l.written ++ written;
            appended = Appends-trans _ _ _ l.written written l.appended appended;
            answered = heard_more g.D.Desk _ 1 _ _ _ l.front more l.written written l.ends l.answered answered;
          })))))
      | in-Err+in_ok-try_again-in-Err w ↦
          let taken : Consumes (remaining c.args.reader.now) (remaining c.read.new.self) (l.front ++ c.loop.begun.items) = search rules in
          rw w.desk-is (rw w.output-is (rw w.begun-is (rw w.number-is (rw w.room-is (record {
            same = l.same;
            falls = l.falls;
            front = l.front;
            taken = taken;
            room = l.room;
            ends = l.ends;
            count = l.count;
            open_ended = l.open_ended;
            fits = l.fits;
            short = l.short;
            written = l.written;
            appended = l.appended;
            answered = l.answered;
          })))))
    ]

pub returns-clause-answered : goal.returns-clause-answered
returns-clause-answered g c =
    let l = c.loop.invariant in
    cut_between g.D.Desk c.args.numbered c.args.desk.now c.loop.desk (g.R.Read.remaining c.args.reader.now) (g.R.Read.remaining c.loop.reader)
    (g.W.Write.contents c.args.output.now.writer.now) (g.W.Write.contents c.loop.output.writer.now) l.front c.loop.begun.items l.written fault.TooManyReads TooManyReads refl
    l.taken l.ends l.appended l.answered (λ is. absurd cc) (λ is. l.open_ended)

pub returns-in_err-room-in-Ok-clause-stops : goal.returns-in_err-room-in-Ok-clause-stops
returns-in_err-room-in-Ok-clause-stops g c =
    let is : c.from_residual.result ≡ Err fault.TooLong = search rules in subst (StopsSo (sink g.W.Write g.W.Sink) _) (sym is) tt

pub returns-in_err-answer_piece-in-Ok-clause-stops : goal.returns-in_err-answer_piece-in-Ok-clause-stops
returns-in_err-answer_piece-in-Ok-clause-stops g c =
    let is : c.from_residual-in_err-answer_piece-in-Ok.result ≡ Err c.in_err-answer_piece-in-Ok.field-0.0 = search rules in
    subst (StopsSo (sink g.W.Write g.W.Sink) _) (sym is) c.in_err-answer_piece-in-Ok.ensures.stops

pub returns-in_err-try_again-in-Err-clause-stops : goal.returns-in_err-try_again-in-Err-clause-stops
returns-in_err-try_again-in-Err-clause-stops g c =
    let is : c.from_residual-in_err-try_again-in-Err.result ≡ Err fault.ReadFailed = search rules in subst (StopsSo (sink g.W.Write g.W.Sink) _) (sym is) tt
