use Rattle.std.proofs.Common.{rules, true, Ok, Err, ◌≡◌, subst, ◌∷◌, inl, inr, sym}
use Rattle.fr_base.specs.declared.params.Params.{Params}
use Rattle.fr_base.specs.Step.{Outcome}
use Rattle.fr_office.specs.Answers.{HasPassed, WhereChanged}
use Rattle.fr_office.proofs.DoneLaws.{changed_so}
use Rattle.fr_office.proofs.StepLaws.{acted, acts_so, knows-so, passed, unchecked, unknown}
use Rattle.fr_office.proofs.dispatch.answer.Goals as goal

pub returns-then-not-is_known : goal.returns-then-not-is_known
returns-then-not-is_known g c = record {
  falls = λ now. now;
  serves = λ now cl b stood sound. tt;
  leaves = λ now cl b books stood sound left. inl left;
  answers = λ now.
      unknown (g.R.Records.stands c.args.records.now) c.config-config.result.now c.config-config.ensures.config c.args.ask.now (search rules);
}

pub act-requires : goal.act-requires
act-requires g c =
    let cluster : c.params-params.result ≡ g.R.Records.params c.args.records.now = search rules in
    let fits = passed c.params-params.result c.args.ask.now.actor c.args.ask.now.request c.in-Ok.valid (search rules) in
    record {
      passed = subst (λ (p : Params). HasPassed p c.args.ask.now.actor c.in-Ok.valid) cluster fits;
      known = knows-so (g.R.Records.stands c.args.records.now) c.config-config.result.now c.config-config.ensures.config c.args.ask.now true (search rules);
    }

pub returns-in-Ok-act : goal.returns-in-Ok-act
returns-in-Ok-act g c =
    let records = g.R.Records in
    let old = records.stands c.args.records.now in
    let so = acts_so old c.config-config.result.now c.config-config.ensures.config c.args.ask.now (search rules) c.in-Ok.valid (search rules) in
    let new = c.act.new.records in
    record {
      falls = c.act.ensures.falls;
      serves = λ now cl b stood sound.
          let acts = c.in-Ok-act.ensures.acts now cl b stood sound (so cl b stood).0 in
          let made : Outcome = record { book = acts.0; answer = c.in-Ok-act.answer } in
          subst (λ (after : Outcome). WhereChanged b after.book c.in-Ok-act.answer (records.serves new)) (sym ((so cl b stood).1 made acts.1))
          (changed_so cl b c.args.ask.now.actor old c.in-Ok.valid c.in-Ok-act.answer (records.serves new) acts.0 stood sound acts.1 (c.in-Ok-act.ensures.serves now));
      leaves = λ now cl b books stood sound left. elim (c.act.ensures.leaves now cl b books stood sound (so cl b stood).0 left) [
        | inl stays ↦ inl stays
        | inr more ↦ inr (subst (λ (after : Outcome). records.leaves c.act.new.records cl (after.book ∷ books)) (sym ((so cl b stood).1 more.0 more.1)) more.2)
      ];
      answers = λ now.
          acted old c.config-config.result.now c.config-config.ensures.config c.args.ask.now (search rules) c.in-Ok.valid (search rules) (records.stands new) (Ok c.in-Ok-act.answer) (c.in-Ok-act.ensures.acts now);
    }

pub returns-in-Err-act : goal.returns-in-Err-act
returns-in-Err-act g c =
    let records = g.R.Records in
    let old = records.stands c.args.records.now in
    let so = acts_so old c.config-config.result.now c.config-config.ensures.config c.args.ask.now (search rules) c.in-Ok.valid (search rules) in
    record {
      falls = c.act.ensures.falls;
      serves = λ now cl b stood sound. tt;
      leaves = λ now cl b books stood sound left. elim (c.act.ensures.leaves now cl b books stood sound (so cl b stood).0 left) [
        | inl stays ↦ inl stays
        | inr more ↦ inr (subst (λ (after : Outcome). records.leaves c.act.new.records cl (after.book ∷ books)) (sym ((so cl b stood).1 more.0 more.1)) more.2)
      ];
      answers = λ now.
          acted old c.config-config.result.now c.config-config.ensures.config c.args.ask.now (search rules) c.in-Ok.valid (search rules) (records.stands c.act.new.records) (Err c.in-Err-act.refusal) (c.in-Err-act.ensures.acts now);
    }

pub returns-in-Err : goal.returns-in-Err
returns-in-Err g c = record {
  falls = λ now. now;
  serves = λ now cl b stood sound. tt;
  leaves = λ now cl b books stood sound left. inl left;
  answers = λ now.
      unchecked (g.R.Records.stands c.args.records.now) c.config-config.result.now c.config-config.ensures.config c.args.ask.now (search rules) c.in-Err.refusal (search rules);
}
