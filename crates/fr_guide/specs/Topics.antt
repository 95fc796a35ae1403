-- Explained: the list of the words that are explained. Which words begin alike. The line of a
-- topic, its page, and the lines of several topics.
use Rattle.std.specs.Prelude.{ℕ, Bool, List, [], ◌∷◌, ◌++◌, map, min, take, length, codes}
use Rattle.std.specs.List.{flat_map, list_any}
use Rattle.std.specs.Str.{bytes_eq, str_eq_ignore_ascii_case}
use Rattle.fr_guide.specs.declared.topic.Topic.{Topic}

-- refusals of what is no request, and of senders
abbrev pub senders : List (List ℕ)
senders = codes "BadText" ∷ codes "UnknownKey" ∷ codes "NotYours" ∷ codes "BadName" ∷ []

-- refusals of the values of fields
abbrev pub fields : List (List ℕ)
fields = codes "BadCycles" ∷ codes "BadSlot" ∷ codes "BadChannel" ∷ codes "BadSignal" ∷ []

-- the refusal of an import's label
abbrev pub labels : List (List ℕ)
labels = codes "LabelUsed" ∷ []

-- refusals of variants
abbrev pub variants : List (List ℕ)
variants = codes "NoVariant" ∷ codes "Released" ∷ codes "NotReleased" ∷ codes "TooDeep" ∷ []

-- refusals of what is named and is not there
abbrev pub missing : List (List ℕ)
missing = codes "NoSupplier" ∷ codes "NoNode" ∷ codes "NoFrame" ∷ codes "NoSignal" ∷ codes "NoPlacement" ∷ []

-- refusals of grants, and of what is there already
abbrev pub grants : List (List ℕ)
grants = codes "Exists" ∷ codes "NodeDiffers" ∷ codes "NotGranted" ∷ codes "InUse" ∷ []

-- refusals of rows that find no room
abbrev pub edits : List (List ℕ)
edits = codes "Limit" ∷ codes "Taken" ∷ codes "CellTaken" ∷ []

-- refusals of a signal's bits
abbrev pub signals : List (List ℕ)
signals = codes "OutOfPayload" ∷ codes "BitTaken" ∷ []

-- the refusal of a register that cannot be used
abbrev pub register : List (List ℕ)
register = codes "Unavailable" ∷ []

-- the refusal of an import's row
abbrev pub rows : List (List ℕ)
rows = codes "BadRow" ∷ []

-- refusals of keys
abbrev pub keys : List (List ℕ)
keys = codes "BadKey" ∷ codes "KeyTaken" ∷ []

-- the refusal of a wish
abbrev pub wishes : List (List ℕ)
wishes = codes "NoRoom" ∷ []

-- faults of a cluster file: its text, its keys and the bounds of its slots
abbrev pub clusters : List (List ℕ)
clusters = codes "BadToml" ∷ codes "BadField" ∷ codes "BadSlots" ∷ codes "BadPayload" ∷ []

-- faults of a cluster file: the lengths of its cycle, the count of cycles, and its keys
abbrev pub segments : List (List ℕ)
segments = codes "BadMacroticks" ∷ codes "BadSum" ∷ codes "BadCycleCount" ∷ codes "KeyTwice" ∷ []

-- faults of scripts and connections
abbrev pub inputs : List (List ℕ)
inputs = codes "TooLong" ∷ codes "TooManyReads" ∷ codes "ReadFailed" ∷ codes "NoSeparator" ∷ codes "Truncated" ∷ []

-- faults of files, registers, the socket, memory and output
abbrev pub files : List (List ℕ)
files = codes "CannotOpen" ∷ codes "NotEmpty" ∷ codes "NotARegister" ∷ codes "WrongSchema" ∷ codes "CannotListen" ∷ codes "NoMemory"
    ∷ codes "WriteFailed" ∷ []

-- all words that are explained: the refusals in the order of their numbers, then the faults
unfoldable pub explained : List (List ℕ)
explained = senders ++ fields ++ labels ++ variants ++ missing ++ grants ++ edits ++ signals ++ register ++ rows ++ keys ++ wishes
    ++ clusters ++ segments ++ inputs ++ files

-- whether the word is explained
abbrev pub is_explained : List ℕ → Bool
is_explained word = list_any (λ w. bytes_eq w word) explained

-- the words of topics
abbrev pub words_of : List Topic → List (List ℕ)
words_of topics = map (λ t. t.word.now) topics

-- how many letters words that begin alike have in common at their front, unless one of them has
-- fewer
abbrev pub alike_letters : ℕ → ℕ → ℕ
alike_letters one other = min (min 3 one) other

-- whether two words begin alike, where small and capital letters count as the same
abbrev pub begin_alike : List ℕ → List ℕ → Bool
begin_alike one other = let n = alike_letters (length one) (length other) in str_eq_ignore_ascii_case (take n one) (take n other)

-- the line of a topic
abbrev pub line_of : Topic → List ℕ
line_of topic = topic.word.now ++ codes ": " ++ topic.about.now ++ codes "\n"

-- all lines of a topic
abbrev pub page_of : Topic → List ℕ
page_of topic = line_of topic ++ topic.help.now

-- the lines of topics
abbrev pub lines_of : List Topic → List ℕ
lines_of topics = flat_map line_of topics
