-- The same lines from one book have the same answers, but for where Unavailable comes; so a script has one output.
use Rattle.std.proofs.Common.{◌≡◌, ℕ, Bool, false, List, [], ◌∷◌, map, drop, append-nil, Option, Some, Result, Ok, Err, refl, sym, ap, ◌∙◌, subst}
use Rattle.std.specs.Prelude.{unwrap_or}
use Rattle.fr_base.specs.Alone.{is_unavailable}
use Rattle.fr_base.specs.Book.{Book, opening}
use Rattle.fr_base.specs.Cluster.{Cluster, ClusterFile}
use Rattle.fr_base.specs.declared.answer.Answer.{Answer}
use Rattle.fr_base.specs.declared.refusal.Refusal.{Refusal}
use Rattle.fr_base.specs.declared.request.Ask.{Ask}
use Rattle.fr_base.proofs.RunLaws.{runs-one}
use Rattle.fr_text.specs.declared.cluster_file.ConfigFault.{ConfigFault}
use Rattle.fr_cli.specs.Asked.{ask_in}
use Rattle.fr_cli.specs.Output.{IsOutput, text_of_answers}
use Rattle.fr_cli.specs.OutputLaws.{answers_in}
use Rattle.fr_cli.specs.ScriptRun.{AreAnswered, Replied}

first_of : Answer → List Answer → Answer
first_of other [] = other
first_of other (answer ∷ answers) = answer

head_of : List Bool → Bool
head_of [] = false
head_of (t ∷ _) = t

-- one line
replied-one : (c : Cluster) (b d e : Book) (read : Result Ask Refusal) (answer reply : Answer) → Replied c b read answer d → Replied c b read reply e →
    is_unavailable answer ≡ is_unavailable reply → (answer ≡ reply) × (d ≡ e)
unfolding first_of
replied-one c b d e (Err refusal) answer reply one two alike = (one.0 ∙ sym two.0, one.1 ∙ sym two.1)
replied-one c b d e (Ok ask) answer reply one two alike =
    let is = runs-one c b d e (ask ∷ []) (answer ∷ []) (reply ∷ []) one two (ap (λ (t : Bool). t ∷ []) alike) in
    (ap (first_of answer) is.0, is.1)

pub lines-one : (c : Cluster) (b last end : Book) (lines : List (List ℕ)) (answers replies : List Answer) →
    AreAnswered c b lines answers last → AreAnswered c b lines replies end →
    map is_unavailable answers ≡ map is_unavailable replies → (answers ≡ replies) × (last ≡ end)
unfolding head_of
lines-one c b last end [] [] [] one two alike = (refl, one ∙ sym two)
lines-one c b last end [] (answer ∷ answers) replies one two alike = absurd one
lines-one c b last end [] [] (reply ∷ replies) one two alike = absurd two
lines-one c b last end (line ∷ lines) [] replies one two alike = absurd one
lines-one c b last end (line ∷ lines) (answer ∷ answers) [] one two alike = absurd two
lines-one c b last end (line ∷ lines) (answer ∷ answers) (reply ∷ replies) one two alike =
    let first = replied-one c b one.0 two.0 (ask_in c b line) answer reply one.1 two.1 (ap head_of alike) in
    let rest = lines-one c one.0 last end lines answers replies one.2 (subst (λ d. AreAnswered c d lines replies end) (sym first.1) two.2) (ap (drop 1) alike) in
    (λ i. first.0 i ∷ rest.0 i, rest.1)

-- the cluster file of a script that has one
file_in : ClusterFile → Option (Result ClusterFile ConfigFault) → ClusterFile
file_in other (Some (Ok f)) = f
file_in other _ = other

pub output-one : (script one other : List ℕ) (here : IsOutput script one) (there : IsOutput script other) →
    map is_unavailable (answers_in here) ≡ map is_unavailable (answers_in there) → one ≡ other
unfolding file_in
output-one script one other here there alike =
    let file : here.config ≡ there.config = ap (file_in here.config) (sym here.file ∙ there.file) in
    let lines : here.lines ≡ there.lines = ap (λ o. unwrap_or o here.lines) (sym here.requests ∙ there.requests) in
    let mine : here.answered.front ≡ here.lines = sym (append-nil here.answered.front) ∙ sym here.answered.all in
    let theirs : there.lines ≡ there.answered.front = there.answered.all ∙ append-nil there.answered.front in
    let fronts : here.answered.front ≡ there.answered.front = mine ∙ lines ∙ theirs in
    let moved = subst (λ (z : ClusterFile × List (List ℕ)). AreAnswered z.0.cluster (opening z.0) z.1 (answers_in there) there.answered.answered.last)
    (λ i. (sym file i, sym fronts i)) there.answered.answered.answered in
    let is = lines-one here.config.cluster (opening here.config) here.answered.answered.last there.answered.answered.last here.answered.front
    (answers_in here) (answers_in there) here.answered.answered.answered moved alike in
    here.answered.answered.bytes ∙ ap text_of_answers is.0 ∙ sym there.answered.answered.bytes
