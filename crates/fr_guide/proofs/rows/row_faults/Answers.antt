use Rattle.std.proofs.Common.{◌≡◌, arith, rules}
use Rattle.fr_guide.proofs.LineLemmas.{room_in}
use Rattle.fr_guide.proofs.RowLemmas.{long_file, told_long}
use Rattle.fr_guide.proofs.rows.row_faults.Goals as goal

pub line_behind-line-requires : goal.line_behind-line-requires
line_behind-line-requires c = record { room = room_in c.args.body.now _ c.new.ensures.all (search rules) }

pub returns-then-body-gt-MAX_IMPORT_BYTES : goal.returns-then-body-gt-MAX_IMPORT_BYTES
returns-then-body-gt-MAX_IMPORT_BYTES c =
    let at : c.line_behind-line.result ≡ c.line_behind-line.new.self.line = c.line_behind-line.ensures.line in
    told_long _ _ _ (search rules) c.one_line.ensures.lines (long_file _ (search (rules, arith)))
    (omega (arith, at, c.line_behind-line.ensures.order, c.new.ensures.line)) (omega (arith, at, c.line_behind-line.ensures.all, c.new.ensures.all))
