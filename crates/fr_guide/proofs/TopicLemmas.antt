-- Words of topics, and the topic of a word.
use Rattle.std.proofs.Common.{◌≡◌, ◌∙◌, ◌++◌, ◌||◌, ℕ, List, [], ◌∷◌, Bool, true, false, cond, Option, Some, None, is_some, refl, sym, ap, ap₂}
use Rattle.std.specs.Borrow.{Bor}
use Rattle.std.specs.Prelude.{find, option_copied}
use Rattle.std.specs.List.{list_any}
use Rattle.std.specs.Str.{bytes_eq}
use Rattle.std.proofs.lemmas.List.Folds.{list_any-append}
use Rattle.std.proofs.lemmas.Slice.Eq.{bytes_eq-Decides}
use Rattle.fr_guide.specs.declared.topic.Topic.{Topic}
use Rattle.fr_guide.specs.Topics.{words_of}

-- words that grew by others, where it is known what they and the others are
pub grown : (new old more a b : List (List ℕ)) → new ≡ old ++ more → old ≡ a → more ≡ b → new ≡ a ++ b
grown new old more a b grew e f = grew ∙ ap₂ (λ (x y : List (List ℕ)). x ++ y) e f

-- a word is among those of topics where one of them is found
pub is_found : (word : List ℕ) (topics : List Topic) → list_any (λ w. bytes_eq w word) (words_of topics) ≡ is_some (find (λ t. bytes_eq t.word.now word) topics)
is_found word [] = refl
is_found word (t ∷ ts) = by_test (bytes_eq t.word.now word) (is_found word ts)
  where
    by_test : (b : Bool) → list_any (λ w. bytes_eq w word) (words_of ts) ≡ is_some (find (λ t. bytes_eq t.word.now word) ts)
        → (b || list_any (λ w. bytes_eq w word) (words_of ts)) ≡ is_some (cond b (Some t) (find (λ t. bytes_eq t.word.now word) ts))
    by_test true e = refl
    by_test false e = e

-- the topic that is found has the word
pub found-word : (word : List ℕ) (topics : List Topic) (topic : Topic) → find (λ t. bytes_eq t.word.now word) topics ≡ Some topic → topic.word.now ≡ word
found-word word [] topic found = cc
found-word word (t ∷ ts) topic found = elim (bytes_eq t.word.now word) as (λ b. bytes_eq t.word.now word ≡ b → cond b (Some t) (find (λ t. bytes_eq t.word.now word) ts) ≡ Some topic → topic.word.now ≡ word) [
  | true ↦ λ passes is.
      let same : topic ≡ t = cc in
      ap (λ (x : Topic). x.word.now) same ∙ (bytes_eq-Decides t.word.now word).0 passes
  | false ↦ λ fails is. found-word word ts topic is
] refl found

pub is_some-copied : (found : Option (Bor Topic)) → is_some found ≡ is_some (option_copied found)
is_some-copied None = refl
is_some-copied (Some topic) = refl

-- words are among those of two parts where they are among the one's or the other's
pub any_more : (is : List ℕ → Bool) (xs ys : List (List ℕ)) (one other : Bool) → one ≡ list_any is xs → other ≡ list_any is ys → (one || other) ≡ list_any is (xs ++ ys)
any_more is xs ys one other e f = ap₂ (λ (a b : Bool). a || b) e f ∙ sym (list_any-append is xs ys)
