-- Head: which bytes begin with a request's head, by `httparse`'s grammar and within the bounds; the values of its
-- fields by name, and the key.
use Rattle.std.specs.Prelude.{ℕ, ◌≤◌, Bool, List, [], ◌∷◌, length, map, filter, codes, Option, Some, None}
use Rattle.std.specs.Str.{str_eq_ignore_ascii_case}
use Rattle.httparse.specs.Grammar.{ReadsRequest, RequestHead, print_request}
use Rattle.httparse.specs.Spans.{name_and_value}

-- how many bytes a head has at most, and how many field lines
abbrev pub max_head : ℕ
max_head = 8192

abbrev pub max_fields : ℕ
max_fields = 64

-- what a head says; for each field its name, and its value without the spaces and tabs round it
pub record HeadData : Type 0 where
  pub method : List ℕ
  pub target : List ℕ
  pub minor : ℕ
  pub fields : List (List ℕ × List ℕ)

abbrev pub said : RequestHead → HeadData
said h = record { method = h.method; target = h.target; minor = h.minor; fields = map name_and_value h.fields }

-- The bytes begin with this head, which keeps the bounds, and the rest follows the head.
pub record BeginsWith (bytes : List ℕ) (h : RequestHead) (rest : List ℕ) : Type 0 where
  pub reads : ReadsRequest bytes h rest
  pub size : length (print_request h) ≤ max_head
  pub lines : length h.fields ≤ max_fields

-- The bytes do not begin with a head that keeps the bounds.
abbrev pub HasNoHead : List ℕ → Type 0
HasNoHead bytes = (h : RequestHead) (rest : List ℕ) → ¬ (BeginsWith bytes h rest)

-- ---- fields

-- whether the two texts are the same but for the case of ASCII letters
abbrev pub same_but_case : List ℕ → List ℕ → Bool
same_but_case a b = str_eq_ignore_ascii_case a b

-- the values of the fields of this name, in their order
unfoldable pub values : List ℕ → List (List ℕ × List ℕ) → List (List ℕ)
values name fields = map (λ f. f.1) (filter (λ f. same_but_case f.0 name) fields)

-- the only text of the list; none where there are more or fewer
abbrev pub only_one : List (List ℕ) → Option (List ℕ)
only_one (value ∷ []) = Some value
only_one [] = None
only_one (_ ∷ _ ∷ _) = None

-- the key by which the request is asked
abbrev pub key_of : HeadData → Option (List ℕ)
key_of head = only_one (values (codes "x-office-key") head.fields)
