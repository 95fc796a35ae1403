use Rattle.std.proofs.Common.{sym, ap, ◌∙◌, ◌++◌, append-nil}
use Rattle.fr_text.proofs.ReportLemmas.{plain_lines-nil}
use Rattle.fr_text.specs.ProposalFiles.{record_of}
use Rattle.fr_text.proofs.ProposalLemmas.{lines_more}
use Rattle.fr_text.proofs.report.proposal.push_placed.Goals as goal

pub loop-row-preserved : goal.loop-row-preserved
loop-row-preserved c =
    lines_more (λ row. record_of row.proposed) c.args.rows.now c.loop-row.row-index c.row-item.result c.args.out.now.items c.loop-row.out.items _ c.loop-row-test.true c.row-item.is
    c.loop-row.invariant c.in_ok-push_record_of.ensures

pub loop-row-init : goal.loop-row-init
loop-row-init c = sym (append-nil c.args.out.now.items) ∙ ap (λ text. c.args.out.now.items ++ text) (sym plain_lines-nil)
