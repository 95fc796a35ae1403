-- What a cluster file gives is well formed.
use Rattle.std.proofs.Common.{◌≡◌, ◌∙◌, ℕ, false, ap, refl, Result, Ok, Err, IfOk, IsTrue, nat_le, nat_lt, length, arith, subst}
use Rattle.std.proofs.lemmas.Bool.{and_from}
use Rattle.std.proofs.lemmas.Bool.Decides.{nat_tests}
use Rattle.fr_base.specs.Cluster.{ClusterFile, IsWellFormed, is_cluster, names_rise}
use Rattle.fr_base.specs.Parameters.{check_params}
use Rattle.fr_base.proofs.SoundRefusing.{gives_then, gives_when, gives_unless}
use Rattle.fr_base.specs.declared.params.RawParams.{RawParams}
use Rattle.fr_base.specs.declared.params.ParamFault.{ParamFault}
use Rattle.fr_text.proofs.ClusterFileLemmas.{check_params-same}
use Rattle.fr_text.specs.ClusterFile.{in_params, check_cluster}
use Rattle.fr_text.specs.declared.cluster_file.ConfigFault.TheVariants.{Limit, BadName, BadKey, KeyTwice}

-- parameters that the file's check lets pass are a cluster's
in_params-same : (params checked : RawParams) (r : Result RawParams ParamFault) → check_params params ≡ r → in_params r ≡ Ok checked → check_params params ≡ Ok params
in_params-same params checked (Ok p) said is = said ∙ ap Ok (check_params-same params p said)
in_params-same params checked (Err e) said is = cc

few_enough : (n : ℕ) → nat_lt 64 n ≡ false → IsTrue (nat_le n 64)
few_enough n h = grind (arith, nat_tests, h)

forms : (f : ClusterFile) → IsTrue (names_rise f.suppliers) → IfOk (check_cluster f) IsWellFormed
unfolding check_cluster is_cluster
forms f rise =
    gives_then IsWellFormed (in_params (check_params f.cluster.params)) _ (λ checked passed.
    gives_when IsWellFormed Limit _ _ (λ few.
    gives_unless IsWellFormed BadName _ _ (λ named.
    gives_unless IsWellFormed BadKey _ _ (λ keyed.
    gives_unless IsWellFormed KeyTwice _ _ (λ differ.
    record {
      params = in_params-same f.cluster.params checked (check_params f.cluster.params) refl passed;
      cluster = and_from _ _ (and_from _ _ (few_enough (length f.suppliers) few) rise) differ;
      names = named;
      keys = keyed;
    })))))

-- A cluster file that was checked is well formed, if its suppliers are in order.
pub checked-well_formed : (f d : ClusterFile) → IsTrue (names_rise f.suppliers) → check_cluster f ≡ Ok d → IsWellFormed d
checked-well_formed f d rise is = subst (λ r. IfOk r IsWellFormed) is (forms f rise)
