-- What the register deals with, and what the reply to it is.
use Rattle.std.proofs.Common.{◌≡◌, ℕ, List, [], ◌∷◌, Option, Result, Ok, Err, refl, subst, inl}
use Rattle.std.specs.Global.{Vec}
use Rattle.fr_base.specs.Book.{Book}
use Rattle.fr_base.specs.Cluster.{Cluster}
use Rattle.fr_base.specs.Desks.{Standing}
use Rattle.fr_base.specs.Run.{IsRun}
use Rattle.fr_base.specs.Sound.{IsSound}
use Rattle.fr_base.specs.declared.actor.Actor.{Actor}
use Rattle.fr_base.specs.declared.answer.Answer.{Answer}
use Rattle.fr_base.specs.declared.answer.Answer.TheVariants as answer
use Rattle.fr_base.specs.declared.refusal.Refusal.{Refusal}
use Rattle.fr_base.specs.declared.refusal.Refusal.TheVariants.{Unavailable}
use Rattle.fr_base.specs.declared.request.Ask.{Ask}
use Rattle.fr_picture.specs.Pages.{IsPage}
use Rattle.fr_picture.specs.Plans.{IsPicture, MayRefusePicture}
use Rattle.fr_picture.specs.Reports.{Reads}
use Rattle.fr_picture.specs.declared.plan.Plan.{Plan}
use Rattle.fr_http.specs.Connection.{HasDealt, HasDrawn}
use Rattle.fr_guide.specs.declared.advice.Subject.{Subject}
use Rattle.fr_http.specs.Exchanges.{Advised, AdvisesOn, Answered, Drawn}
use Rattle.fr_http.specs.Reply.{Reply, answer_reply, page_reply}
use Rattle.fr_http.specs.declared.exchange.Exchange.TheVariants as exchange
use Rattle.fr_http.specs.declared.method.Method.{Method}
use Rattle.fr_http.specs.declared.method.Method.TheVariants.{Get}

module _ (clean : Type 0) (old new : Standing) where
  -- a request was answered
  pub request_dealt : (ask : Ask) (method : Method) (answer : Answer)
      → (clean → (c : Cluster) (b : Book) → old c b → IsSound c b → (last : Book) × new c last × IsRun c b (ask ∷ []) (answer ∷ []) last)
      → HasDealt clean old new (exchange.Request ask method) (answer_reply method answer)
  request_dealt ask method answer answered = record {
    dealing = Answered ask method answer;
    is_asked = refl;
    deals = λ cl c b stood sound. let (last, stands, run) = answered cl c b stood sound in (last, run, stands);
    is_reply = refl;
  }

  -- advice was given, and the register stands as it stood
  pub advice_dealt : (reader : Actor) (subject : Subject) (text : List ℕ) (reply : Reply) → AdvisesOn subject text reply → ((c : Cluster) (b : Book) → old c b → new c b)
      → HasDealt clean old new (exchange.Advice reader subject text) reply
  advice_dealt reader subject text reply advises stays = record {
    dealing = Advised reader subject text;
    is_asked = refl;
    deals = λ cl c b stood sound. (b, refl, stays c b stood);
    is_reply = advises;
  }

  module _ (reader : Actor) (variant : List ℕ) (since : Option (List ℕ)) where
    -- a plan was drawn
    pub page_dealt : (page : Vec ℕ) → HasDrawn reader variant since clean old new (Ok page) → HasDealt clean old new (exchange.Picture reader variant since) (page_reply page.items)
    page_dealt page (Ok plan, is, drawn) = record {
      dealing = Drawn reader variant since (Ok plan);
      is_asked = refl;
      deals = λ cl c b stood sound. let (stands, may) = drawn cl c b stood sound in (b, (refl, may), stands);
      is_reply = (page.items, is, refl);
    }
    page_dealt page (Err refusal, is, drawn) = absurd cc

    -- there was no plan
    pub refusal_dealt : (refusal : Refusal) → HasDrawn reader variant since clean old new (Err refusal)
        → HasDealt clean old new (exchange.Picture reader variant since) (answer_reply Get (answer.Refused refusal))
    refusal_dealt refusal (Ok plan, is, drawn) = absurd is
    refusal_dealt refusal (Err same, is, drawn) =
        let e : same ≡ refusal = cc in
        record {
          dealing = Drawn reader variant since (Err refusal);
          is_asked = refl;
          deals = λ cl c b stood sound. let (stands, may) = drawn cl c b stood sound in (b, (refl, subst (λ r. MayRefusePicture c b reader variant since r) e may), stands);
          is_reply = refl;
        }

    -- ---- a page, or none

    abbrev Read : Result Plan Refusal → Type 0
    Read r = clean → Reads old new r (λ c b plan. IsPicture c b reader variant since plan) (λ c b e. MayRefusePicture c b reader variant since e)

    -- the plan was read, and its page written
    pub page_drawn : (plan : Plan) (page : Vec ℕ) → Read (Ok plan) → IsPage plan page.items → HasDrawn reader variant since clean old new (Ok page)
    page_drawn plan page read is = (Ok plan, is, λ cl c b stood sound. read cl c b stood sound)

    -- there was no memory for the page
    pub page_lacked : (plan : Plan) → Read (Ok plan) → HasDrawn reader variant since clean old new (Err Unavailable)
    page_lacked plan read = (Err Unavailable, refl, λ cl c b stood sound. ((read cl c b stood sound).0, inl (inl refl)))

    -- the plan was refused
    pub plan_refused : (refusal : Refusal) → Read (Err refusal) → HasDrawn reader variant since clean old new (Err refusal)
    plan_refused refusal read = (Err refusal, refl, λ cl c b stood sound. read cl c b stood sound)
