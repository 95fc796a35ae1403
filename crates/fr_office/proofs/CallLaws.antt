-- Calls on records, by what was read of these, and what was carried out then.
use Rattle.std.proofs.Common.{◌≡◌, ◌∙◌, inl, List, None, Result, Ok, Err, IfOk, subst, sym}
use Rattle.std.specs.Prelude.{MatchResult, OnOk, ⊤}
use Rattle.fr_base.specs.Book.{Book}
use Rattle.fr_base.specs.Cluster.{Cluster}
use Rattle.fr_base.specs.Step.{done, perform}
use Rattle.fr_base.specs.declared.actor.Actor.{Actor}
use Rattle.fr_base.specs.declared.answer.Answer.{Answer}
use Rattle.fr_base.specs.declared.answer.Answer.TheVariants.{Done}
use Rattle.fr_base.specs.declared.refusal.Refusal.{Refusal}
use Rattle.fr_base.specs.declared.request.Checked.{Checked}
use Rattle.fr_base.specs.declared.request.Checked.TheVariants as checked
use Rattle.fr_base.specs.declared.request.Command.{Command}
use Rattle.fr_base.specs.declared.delivery.Delivery.{Delivery}
use Rattle.fr_base.specs.declared.delivery.Purpose.{Purpose}
use Rattle.fr_base.specs.declared.name.Name.{Name}
use Rattle.fr_world.specs.Held.{Applies, Reads, Standing}
use Rattle.fr_world.specs.declared.edit.Edit.{Edit}
use Rattle.fr_world.specs.declared.records.Records.{Ghosts}
use Rattle.fr_office.specs.Answers.{Acts, AfterAct, CarriesAct}
use Rattle.fr_office.specs.Carried.{CarriesEdits, CarriesStep, Does, LeavesDone, Performs}
use Rattle.fr_office.specs.Deliveries.{CarriesDelivery, GivesDelivery}
use Rattle.fr_office.proofs.CommandLaws.{performed}
use Rattle.fr_office.proofs.DeliveryLaws.{after_refused}
use Rattle.fr_office.proofs.CrashLaws.{AddsTo, act_command, may_do, may_perform, may_stay}
use Rattle.fr_office.proofs.StepLaws.{command_acts}

-- what is said of an answer alone is said of no refusal
on_refused : (r : Result ⊤ Refusal) (e : Refusal) (P : Type 0) → r ≡ Err e → OnOk r P
on_refused (Ok x) e P is = cc
on_refused (Err f) e P is = tt

module _ {R : Type 0} (g : Ghosts R) (step : Cluster → Book → Result Book Refusal) (old mid : R) (read : Reads g.clean g.params g.leaves old mid) where
  -- what was read refuses the change
  pub refuses : (r : Result ⊤ Refusal) (e : Refusal) → r ≡ Err e → (g.clean mid → Does (g.stands old) (g.stands mid) r step) → CarriesStep g step old mid r
  refuses r e is did = record {
    falls = read.falls;
    same = read.same;
    serves = λ now. on_refused r e (g.serves mid) is;
    leaves = λ now. may_stay (g.stands old) (g.leaves old) (g.leaves mid) step (read.leaves now);
    does = did;
  }

  -- edits carry out the change, wherever they are carried out
  pub carries : (new : R) (edits : List Edit) (r : Result ⊤ Refusal) → (g.clean mid → (last : Standing) (r : Result ⊤ Refusal) → Applies (g.stands mid) last r edits → Does (g.stands old) last r step)
      → CarriesEdits g edits mid new r → CarriesStep g step old new r
  carries new edits r made edited = record {
    falls = λ now. read.falls (edited.falls now);
    same = edited.same ∙ read.same;
    serves = edited.serves;
    leaves = λ now. may_do (g.stands old) (g.leaves old) (g.leaves mid) (g.leaves new) step (read.leaves (edited.falls now)) (λ books.
        made (edited.falls now) (AddsTo books (g.leaves mid) (g.leaves new)) (Ok tt) (λ c b stood fit left. edited.leaves now c b books stood fit left));
    does = λ now. made (edited.falls now) (g.stands new) r (edited.applies now);
  }

-- ---- a command, as a request

-- what is said of a change that was made is said of its answer
on_done : (carried : Result ⊤ Refusal) (said : Result Answer Refusal) (P : Type 0) → MatchResult carried (λ _. said ≡ Ok Done) (λ e. said ≡ Err e) → OnOk carried P → OnOk said P
on_done (Ok x) said P is has = subst (λ (r : Result Answer Refusal). OnOk r P) (sym is) has
on_done (Err e) said P is has = subst (λ (r : Result Answer Refusal). OnOk r P) (sym is) tt

pub command_carried : {R : Type 0} (g : Ghosts R) (actor : Actor) (command : Command) (step : Cluster → Book → Result Book Refusal) (old new : R) (carried : Result ⊤ Refusal) (said : Result Answer Refusal)
    → MatchResult carried (λ _. said ≡ Ok Done) (λ e. said ≡ Err e) → CarriesStep g step old new carried → ((c : Cluster) (b : Book) → done (step c b) ≡ perform c b command)
    → CarriesAct g actor (checked.Command command) old new said
command_carried g actor command step old new carried said is call same =
    let performs : (λ (c : Cluster) (b : Book). done (step c b)) ≡ (λ c b. perform c b command) = λ i c b. same c b i in
    record {
      falls = call.falls;
      serves = λ now. on_done carried said (g.serves new) is (call.serves now);
      leaves = λ now. act_command (g.stands old) (g.leaves old) (g.leaves new) actor command
          (subst (LeavesDone (g.stands old) (g.leaves old) (g.leaves new)) performs (may_perform (g.stands old) (g.leaves old) (g.leaves new) step (call.leaves now)));
      acts = λ now. command_acts (g.stands old) (g.stands new) actor command carried said is
          (subst (Performs (g.stands old) (g.stands new) carried) performs (performed (g.stands old) (g.stands new) carried step (call.does now)));
    }

-- ---- what was only read, as a request

pub only_read : {R : Type 0} (g : Ghosts R) (actor : Actor) (valid : Checked) (old new : R) (r : Result Answer Refusal) → Reads g.clean g.params g.leaves old new
    → (g.clean new → AfterAct (g.stands old) valid r (g.serves new)) → (g.clean new → Acts (g.stands old) (g.stands new) r actor valid) → CarriesAct g actor valid old new r
only_read g actor valid old new r read serves acts = record {
  falls = read.falls;
  serves = serves;
  leaves = λ now c b books stood sound known left. inl (read.leaves now c books left);
  acts = acts;
}

-- ---- a delivered file, by what was only read

pub delivery_refused : {R : Type 0} (g : Ghosts R) (old mid : R) → Reads g.clean g.params g.leaves old mid → (r : Result Answer Refusal) (e : Refusal) → r ≡ Err e → (d : Delivery) (how : Purpose Name)
    → (g.clean mid → GivesDelivery (g.stands old) (g.stands mid) (Err e) d how) → CarriesDelivery g d how old mid r
delivery_refused g old mid read r e is d how gives = record {
  falls = read.falls;
  serves = λ now. after_refused (g.stands old) d how (g.serves mid) r e is;
  leaves = λ now c b books stood sound known left. inl (read.leaves now c books left);
  gives = λ now. subst (λ said. GivesDelivery (g.stands old) (g.stands mid) said d how) (sym is) (gives now);
}
