use Rattle.std.proofs.Common.{◌≡◌, false, rules}
use Rattle.fr_base.proofs.PurposeLemmas.{purpose_made}
use Rattle.fr_base.proofs.QueryLemmas.{query_taken}
use Rattle.fr_base.specs.declared.refusal.Refusal.TheVariants.{BadText}
use Rattle.fr_http.specs.Routes.{number_in, operation_by, part}
use Rattle.fr_http.specs.declared.fault.LinkFault.TheVariants.{NoMemory}
use Rattle.fr_http.specs.declared.fault.Unasked.TheVariants.{Fault, Refused}
use Rattle.fr_http.proofs.exchange.asked_operation.Goals as goal

pub returns-in_ok-read-in-Query : goal.returns-in_ok-read-in-Query
unfolding operation_by
returns-in_ok-read-in-Query c =
    let path = c.args.plan.now.path.now in
    let taken = query_taken (λ name. part name path) (λ name. number_in name path) (λ e. e ≡ Fault (NoMemory false)) (λ e. e ≡ Refused BadText)
    c.in-Query.asked c.read-in-Query.result c.read-in-Query.ensures in
    search rules

pub returns-in_err-read-in-Query : goal.returns-in_err-read-in-Query
unfolding operation_by
returns-in_err-read-in-Query c =
    let path = c.args.plan.now.path.now in
    let taken = query_taken (λ name. part name path) (λ name. number_in name path) (λ e. e ≡ Fault (NoMemory false)) (λ e. e ≡ Refused BadText)
    c.in-Query.asked c.read-in-Query.result c.read-in-Query.ensures in
    search rules

pub returns-in_ok-copy-in-Deliver : goal.returns-in_ok-copy-in-Deliver
unfolding operation_by
returns-in_ok-copy-in-Deliver c =
    let made = purpose_made (λ name. part name c.args.plan.now.path.now) (λ e. e ≡ Fault (NoMemory false)) c.in-Deliver.how c.read.result c.read.ensures in
    search rules

pub returns-in_err-read-in-Deliver : goal.returns-in_err-read-in-Deliver
unfolding operation_by
returns-in_err-read-in-Deliver c =
    let made = purpose_made (λ name. part name c.args.plan.now.path.now) (λ e. e ≡ Fault (NoMemory false)) c.in-Deliver.how c.read.result c.read.ensures in
    search rules
