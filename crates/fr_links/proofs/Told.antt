-- What a judge told of a request holds of it as more of its bytes come.
use Rattle.std.proofs.Common.{◌≡◌, ◌∙◌, ℕ, List, ◌++◌, Option, None, Some, Bool, IsSome, ap, refl, append_assoc, append-nil, subst, sym}
use Rattle.std.specs.Prelude.{[], min}
use Rattle.fr_links.specs.Gathering.{IsTold}
use Rattle.fr_links.specs.declared.judge.Judgement.{Judgement}
use Rattle.fr_links.specs.declared.judge.Judgement.TheVariants.{Known}

-- its length was told before
pub told_before : (tells : List ℕ → Judgement → Type 0) (need : ℕ) (came more : List ℕ) → IsTold tells (Some need) came → IsTold tells (Some need) (came ++ more)
told_before tells need came more (seen, rest, same, bytes, invites, told, least) =
    (seen, rest ++ more, ap (λ t. t ++ more) same ∙ append_assoc seen rest more, bytes, invites, told, least)

-- its length is told now
pub told_now : (tells : List ℕ → Judgement → Type 0) (came : List ℕ) (bytes : ℕ) (invites : Bool) → tells came (Known bytes invites)
    → IsTold tells (Some (min bytes 73728)) came
told_now tells came bytes invites told = (came, [], sym (append-nil came), bytes, invites, told, refl)

-- none was told
pub untold : (tells : List ℕ → Judgement → Type 0) → IsTold tells None []
untold tells some = absurd (some refl)

-- more came of one whose length was told before
pub told_grows : (tells : List ℕ → Judgement → Type 0) (need : Option ℕ) (came more now : List ℕ) → IsSome need → now ≡ came ++ more → IsTold tells need came → IsTold tells need now
told_grows tells None came more now is grown told = absurd (cc)
told_grows tells (Some need) came more now is grown told = subst (IsTold tells (Some need)) (sym grown) (told_before tells need came more told)
