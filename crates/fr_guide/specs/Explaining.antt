-- Explaining: when a text explains a word, when it lists all words, and when it lists those that
-- begin alike.
use Rattle.std.specs.Prelude.{◌≡◌, ℕ, true, false, List, filter, Option, Some, None}
use Rattle.std.specs.Global.{Vec}
use Rattle.fr_guide.specs.declared.topic.Topic.{Topic}
use Rattle.fr_guide.specs.Topics.{begin_alike, explained, is_explained, lines_of, page_of, words_of}

-- A word that is explained has a topic, and the text has all lines of it. Any other word has no
-- text.
abbrev pub Explains : List ℕ → Option (Vec ℕ) → Type 0
Explains word (Some text) = (is_explained word ≡ true) × (topic : Topic) × (topic.word.now ≡ word) × (text.items ≡ page_of topic)
Explains word None = is_explained word ≡ false

-- The text has a line for each word that is explained.
abbrev pub ListsAll : List ℕ → Type 0
ListsAll text = (topics : List Topic) × (words_of topics ≡ explained) × (text ≡ lines_of topics)

-- The text has the lines of the words that begin like this one.
abbrev pub ListsAlike : List ℕ → List ℕ → Type 0
ListsAlike word text = (topics : List Topic) × (words_of topics ≡ explained) × (text ≡ lines_of (filter (λ t. begin_alike t.word.now word) topics))
