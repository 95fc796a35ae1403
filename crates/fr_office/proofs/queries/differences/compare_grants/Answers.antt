use Rattle.std.proofs.Common.{◌≡◌, ◌∙◌, rules}
use Rattle.fr_world.specs.Loads.{grants_in_lanes}
use Rattle.fr_office.proofs.DifferenceReplies.{grants-merged, grants_merged}
use Rattle.fr_office.proofs.queries.differences.compare_grants.Goals as goal

pub returns : goal.returns
returns c =
    let told : c.push_differences.new.rows ≡ grants_merged c.in_ok-old_rows.old_rows c.in_ok-new_rows.new_rows = search rules in
    told
    ∙ (λ i. grants_merged (c.in_ok-old_rows.ensures i) (c.in_ok-new_rows.ensures i))
    ∙ grants-merged (grants_in_lanes c.args.old.now.entries) (grants_in_lanes c.args.new.now.entries)
