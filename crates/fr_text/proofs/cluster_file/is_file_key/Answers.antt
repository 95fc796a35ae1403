use Rattle.std.proofs.Common.{◌∙◌, ap}
use Rattle.std.specs.List.{list_any}
use Rattle.std.specs.Str.{bytes_eq}
use Rattle.fr_text.proofs.ClusterFileLemmas.{any-seen}
use Rattle.fr_text.proofs.cluster_file.is_file_key.Goals as goal

pub returns : goal.returns
returns c =
    c.is_among.ensures ∙ any-seen (bytes_eq c.args.key.now) (λ known. known.now) c.file_keys.result.now
    ∙ ap (list_any (bytes_eq c.args.key.now)) c.file_keys.ensures
