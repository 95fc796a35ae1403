use Rattle.std.proofs.Common.{◌≡◌, length, rules}
use Rattle.fr_office.proofs.RowReplies.{joined}
use Rattle.fr_office.proofs.queries.kind_rows.join.Goals as goal

pub returns : goal.returns
returns g c =
    let signals = c.args.signals.items in
    let size : c.len-count.result ≡ length signals = search (rules, c.len-count.ensures) in
    joined signals c.args.first.now c.args.frames.now c.args.placements.now c.args.gaps.now c.extend_from_slice.new.self.items c.extend_from_slice-2.new.self.items c.extend_from_slice-3.new.self.items
    c.rotate_left.new.self.items c.extend_from_slice-4.new.self.items c.len-count.result size c.in_ok-extend_from_slice.ensures.items c.in_ok-extend_from_slice-2.ensures.items c.in_ok-extend_from_slice-3.ensures.items
    c.rotate_left.ensures.items c.in_ok-extend_from_slice-4.ensures.items
