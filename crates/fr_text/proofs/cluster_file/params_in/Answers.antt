use Rattle.std.proofs.Common.{◌≡◌, Some, sym, ◌∙◌}
use Rattle.fr_base.specs.Channels.{channels_of_text}
use Rattle.fr_text.proofs.ClusterFileLemmas.{params_in_open}
use Rattle.fr_text.proofs.cluster_file.params_in.Goals as goal

pub returns : goal.returns
unfolding params_in_open
returns c =
    let channels : channels_of_text c.in_ok-text_at.field-0.now ≡ Some c.in_ok-channels.channels = sym c.read.ensures ∙ c.in_ok-channels.ensures.ok_part in
    rw (
      c.in_ok-text_at.ensures,
      channels,
      ← c.in_ok-number_at.ensures,
      ← c.in_ok-number_at-2.ensures,
      ← c.in_ok-number_at-3.ensures,
      ← c.in_ok-number_at-4.ensures,
      ← c.in_ok-number_at-5.ensures,
      ← c.in_ok-number_at-6.ensures,
      ← c.in_ok-number_at-7.ensures,
      ← c.in_ok-number_or.ensures,
    )
