use Rattle.std.proofs.Common.{inl, inr, refl, rules}
use Rattle.fr_base.specs.Cluster.{ClusterFile, IsWellFormed}
use Rattle.fr_cli.proofs.SingleRequestLaws.{err_follows, ok_follows}
use Rattle.fr_cli.proofs.jobs.create.create.Goals as goal

-- a well-formed cluster file of which both are so
both : (P Q : ClusterFile → Type 0) (f : ClusterFile) → P f → IsWellFormed f → Q f → (x : ClusterFile) × P x × IsWellFormed x × Q x
both P Q f p formed q = (f, p, formed, q)

pub returns-in-Ok-clause-fault : goal.returns-in-Ok-clause-fault
returns-in-Ok-clause-fault g c = err_follows _ _ _ (λ fault not. inr (_, c.in-Ok.ensures.read, not)) c.make.ensures.fault

pub returns-in-Ok-clause-made : goal.returns-in-Ok-clause-made
returns-in-Ok-clause-made g c = ok_follows _ _ _ (λ made. both _ _ _ c.in-Ok.ensures.read (search rules) made) c.make.ensures.made

pub returns-in-Err-clause-fault : goal.returns-in-Err-clause-fault
returns-in-Err-clause-fault g c = inl (c.in-Err.ensures.fault, refl)

pub returns-in-Ok-clause-files : goal.returns-in-Ok-clause-files
returns-in-Ok-clause-files g c = inl (_, c.in-Ok.ensures.read, c.make.ensures.files)

pub returns-in-Err-clause-files : goal.returns-in-Err-clause-files
returns-in-Err-clause-files g c = inr (refl, refl)
