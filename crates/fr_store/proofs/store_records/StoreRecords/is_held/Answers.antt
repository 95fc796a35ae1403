use Rattle.std.proofs.Common.{rules, ◌≡◌, ◌∙◌, subst, sym, Err, MatchResult, is_some, option_map}
use Rattle.fr_base.specs.declared.refusal.Refusal.TheVariants.{Unavailable}
use Rattle.fr_store.specs.Reading.{as_holder, holder_in}
use Rattle.fr_world.specs.Held.{held_in}
use Rattle.fr_store.proofs.StoredLaws.{held_as}
use Rattle.fr_store.proofs.AskedLemmas.{reads_ready, told_ready}
use Rattle.fr_store.proofs.store_records.StoreRecords.is_held.Goals as goal

pub returns-in_err-holder-clause-held : goal.returns-in_err-holder-clause-held
returns-in_err-holder-clause-held g c clean cluster b stored =
    let known = told_ready c.in_ok-require_ready.ensures c.holder.ensures c.or_unavailable.result c.or_unavailable.ensures clean cluster b stored in
    let why = subst (λ o. MatchResult o (λ found. option_map as_holder found ≡ holder_in b c.args.variant (c.args.slot, c.args.channel)) (λ e. e ≡ Unavailable)) c.in_err-holder.was known.1 in
    let is : c.from_residual-in_err-holder.result ≡ Err c.in_err-holder.field-0.0 = search rules in (
      known.0,
      subst (λ o. MatchResult o (λ is. is ≡ held_in b c.args.variant (c.args.slot, c.args.channel)) (λ e. e ≡ Unavailable)) (sym is) why,
    )

pub returns-clause-held : goal.returns-clause-held
returns-clause-held g c clean cluster b stored =
    let known = told_ready c.in_ok-require_ready.ensures c.holder.ensures c.or_unavailable.result c.or_unavailable.ensures clean cluster b stored in
    let who = subst (λ o. MatchResult o (λ found. option_map as_holder found ≡ holder_in b c.args.variant (c.args.slot, c.args.channel)) (λ e. e ≡ Unavailable)) c.in_ok-holder.was known.1 in
    let is : c.is_some.result ≡ is_some c.in_ok-holder.holder = search rules in
    (known.0, is ∙ held_as b c.args.variant (c.args.slot, c.args.channel) c.in_ok-holder.holder who)

pub returns-clause-reads : goal.returns-clause-reads
returns-clause-reads g c = reads_ready c.in_ok-require_ready.ensures c.holder.ensures

pub returns-in_err-holder-clause-reads : goal.returns-in_err-holder-clause-reads
returns-in_err-holder-clause-reads g c = reads_ready c.in_ok-require_ready.ensures c.holder.ensures
