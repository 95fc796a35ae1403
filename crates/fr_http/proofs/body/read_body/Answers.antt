use Rattle.std.proofs.Common.{rules, ◌≡◌, ◌<◌, ◌≤◌, ◌+◌, ◌++◌, ap, ◌∙◌, take, length}
use Rattle.std.proofs.lemmas.List.{take-append-le}
use Rattle.std.proofs.KnownBytes.{Consumes-trans}
use Rattle.fr_http.proofs.ReadingLaws.{enough, longer}
use Rattle.fr_http.proofs.ReadsLaws.{spends_more}
use Rattle.fr_http.proofs.body.read_body.Goals as goal

pub loop-piece-preserved : goal.loop-piece-preserved
loop-piece-preserved g c =
    let l = c.loop-piece in
    let more = take c.in_ok-n.n c.read.new.piece in
    let items : c.extend_from_slice-in-loop-piece.new.self.items ≡ l.body.items ++ more =
    c.in_ok-extend_from_slice-2.ensures.items ∙ ap (λ t. l.body.items ++ t) (take-append-le c.in_ok-n.n c.read.new.piece _ c.in_ok-n.ensures.piece.does.bound) in
    let short : length l.body.items < c.args.length = search rules in
    let room : length l.body.items + length more ≤ c.args.length = search rules in
    record {
      same = c.in_ok-n.ensures.piece.same_reader ∙ l.invariant.same;
      size = search rules;
      read = l.invariant.read ++ more;
      consumed = Consumes-trans _ _ _ _ _ l.invariant.consumed c.in_ok-n.ensures.piece.does.bytes;
      front = items ∙ longer c.args.length c.args.begun.now l.invariant.read more l.body.items l.invariant.front short room;
      few = enough c.args.length c.args.begun.now l.invariant.read more l.body.items l.invariant.front short room;
      spends = spends_more g.R.Source.reads _ _ _ _ _ _ l.invariant.spends c.in_ok-n.ensures.reads.spends;
    }

pub returns-in_err-extend_from_slice-2-clause-body : goal.returns-in_err-extend_from_slice-2-clause-body
returns-in_err-extend_from_slice-2-clause-body g c =
    let l = c.loop-piece in
    let more = take c.in_ok-n.n c.read.new.piece in
    let short : length l.body.items < c.args.length = search rules in
    let room : length l.body.items + length more ≤ c.args.length = search rules in
    record {
      does = (
        l.invariant.read ++ more,
        Consumes-trans _ _ _ _ _ l.invariant.consumed c.in_ok-n.ensures.piece.does.bytes,
        search rules,
        enough c.args.length c.args.begun.now l.invariant.read more l.body.items l.invariant.front short room,
      );
      same_reader = search rules;
    }
