-- What parameters that passed their check have.
use Rattle.std.proofs.Common.{◌≡◌, ◌≤◌, Ok, IfOk, IsTrue, ltb, refl, subst, ltb-false}
use Rattle.fr_base.specs.Cycles.{is_cycle_count}
use Rattle.fr_base.specs.Parameters.{check_params}
use Rattle.fr_base.specs.declared.params.RawParams.{RawParams}
use Rattle.fr_base.proofs.SoundRefusing.{gives_when, gives_unless}

-- they are the ones that were checked
pub same_params : (p : RawParams) → IfOk (check_params p) (λ q. q ≡ p)
unfolding check_params
same_params p =
    gives_when _ _ _ _ (λ _.
    gives_when _ _ _ _ (λ _.
    gives_when _ _ _ _ (λ _.
    gives_when _ _ _ _ (λ _.
    gives_when _ _ _ _ (λ _. refl)))))

words-few : (p : RawParams) → IfOk (check_params p) (λ _. p.payload_words ≤ 127)
unfolding check_params
words-few p =
    gives_when _ _ _ _ (λ _.
    gives_when _ _ (ltb 127 p.payload_words) _ (λ few.
    gives_when _ _ _ _ (λ _.
    gives_when _ _ _ _ (λ _.
    gives_when _ _ _ _ (λ _. ltb-false 127 p.payload_words few)))))

-- their payload has at most 127 words
pub few_words : (p : RawParams) → check_params p ≡ Ok p → p.payload_words ≤ 127
few_words p form = subst (λ r. IfOk r (λ _. p.payload_words ≤ 127)) form (words-few p)

cycles-counted : (p : RawParams) → IfOk (check_params p) (λ _. IsTrue (is_cycle_count p.cycles))
unfolding check_params
cycles-counted p =
    gives_when _ _ _ _ (λ _.
    gives_when _ _ _ _ (λ _.
    gives_when _ _ _ _ (λ _.
    gives_when _ _ _ _ (λ _.
    gives_unless _ _ (is_cycle_count p.cycles) _ (λ counted. counted)))))

-- and their count of cycles is one
pub counted_cycles : (p : RawParams) → check_params p ≡ Ok p → IsTrue (is_cycle_count p.cycles)
counted_cycles p form = subst (λ r. IfOk r (λ _. IsTrue (is_cycle_count p.cycles))) form (cycles-counted p)
