-- What is written or due goes out by a write, or stays; and so by several.
use Rattle.std.proofs.Common.{arith, length, length-drop, ◌≡◌, ◌≤◌, ◌<◌, ◌-◌, ◌+◌, ℕ, List, [], ◌++◌, Option, Some, None, refl, sym, ap, ◌∙◌, append-nil, append_assoc, take, drop, drop-drop, take-append-drop, inl, inr}
use Rattle.std.proofs.lemmas.Bool.{cases_lt}
use Rattle.std.proofs.lemmas.List.{take_all, drop_all, length-take}
use Rattle.std.specs.Io.KnownBytes.{Appends, Keeps}
use Rattle.std.proofs.KnownBytes.{Appends-nil, Appends-trans}
use Rattle.fr_links.specs.Sending.{GoesOut, Moves, early, interim}

-- a slice from there on
pub to_the_end : (xs : List ℕ) (at : ℕ) → take (length xs - at) (drop at xs) ≡ drop at xs
to_the_end xs at = take_all (length xs - at) (drop at xs) (omega (arith, length-drop at xs))

pub appends_nothing : (held now : Option (List ℕ)) → Keeps held now → Appends held now []
appends_nothing None now keeps = tt
appends_nothing (Some xs) None keeps = keeps
appends_nothing (Some xs) (Some ys) keeps = keeps ∙ sym (append-nil xs)

-- nothing is early where all that went out early was written since
pub none_early : (ahead passed : ℕ) → ahead ≤ passed → early ahead passed ≡ []
none_early ahead passed all = drop_all passed (take ahead interim) (omega (arith, length-take ahead interim))

-- nothing is due of what is empty
pub none_due : (sent : ℕ) (kept : List ℕ) → length kept ≡ 0 → drop sent kept ≡ []
none_due sent kept empty = drop_all sent kept (omega arith)

-- where something is early nothing is due, so that both change places
pub commute : (ahead passed sent : ℕ) (kept : List ℕ) → (passed < ahead → length kept ≡ 0) → early ahead passed ++ drop sent kept ≡ drop sent kept ++ early ahead passed
commute ahead passed sent kept turn =
    elim (cases_lt passed ahead) [
      | inl before ↦
          let none = none_due sent kept (turn before) in
          ap (λ t. early ahead passed ++ t) none ∙ append-nil (early ahead passed) ∙ sym (ap (λ t. t ++ early ahead passed) none)
      | inr past ↦
          let none = none_early ahead passed past in
          ap (λ t. t ++ drop sent kept) none ∙ sym (append-nil (drop sent kept)) ∙ sym (ap (λ t. drop sent kept ++ t) none)
    ]

-- nothing is written, and nothing goes out
pub rests : (held now : Option (List ℕ)) (before due : List ℕ) → Keeps held now → before ++ due ≡ due ++ before → Moves held now before due [] before due
rests held now before due keeps both = record {
  out = [];
  appended = appends_nothing held now keeps;
  order = ap (λ t. t ++ due) (append-nil before) ∙ both ∙ sym (ap (λ t. t ++ before) (append-nil due));
}

-- what goes out now is early
pub goes_early : (held now : Option (List ℕ)) (before due out : List ℕ) → Appends held now out → before ≡ [] → due ≡ [] → Moves held now before due [] out due
goes_early held now before due out appended none empty = record {
  out = out;
  appended = appended;
  order = ap (λ t. t ++ out ++ due) none ∙ ap (λ t. out ++ t) empty ∙ append-nil out ∙ sym (ap (λ t. t ++ [] ++ out) empty);
}

-- what is written went out early
pub passes : (held : Option (List ℕ)) (before due written after : List ℕ) → due ≡ [] → before ≡ written ++ after → Moves held held before due written after due
passes held before due written after empty order = record {
  out = [];
  appended = Appends-nil held;
  order = ap (λ t. before ++ [] ++ t) empty ∙ append-nil (before ++ []) ∙ append-nil before ∙ order ∙ sym (ap (λ t. t ++ written ++ after) empty);
}

-- what is written goes out
pub goes_through : (held now : Option (List ℕ)) (before due written : List ℕ) → Appends held now written → before ≡ [] → due ≡ [] → Moves held now before due written before due
goes_through held now before due written appended none empty = record {
  out = written;
  appended = appended;
  order =
      ap (λ t. t ++ written ++ due) none ∙ ap (λ t. written ++ t) empty ∙ sym (ap (λ t. written ++ t) none)
      ∙ sym (ap (λ t. t ++ written ++ before) empty);
}

-- what is written is due
pub holds_back : (held now : Option (List ℕ)) (before due written later : List ℕ) → Keeps held now → before ≡ [] → later ≡ due ++ written → Moves held now before due written before later
holds_back held now before due written later keeps none grown = record {
  out = [];
  appended = appends_nothing held now keeps;
  order = ap (λ t. t ++ [] ++ later) none ∙ grown ∙ sym (append-nil (due ++ written)) ∙ sym (ap (λ t. due ++ written ++ t) none);
}

-- ---- what is due goes out

pub wrote : (held now : Option (List ℕ)) (kept : List ℕ) (sent n : ℕ) → Appends held now (take n (drop sent kept)) → GoesOut held now (drop sent kept) (drop (sent + n) kept)
wrote held now kept sent n appended = record {
  out = take n (drop sent kept);
  appended = appended;
  order = sym (take-append-drop n (drop sent kept)) ∙ ap (λ t. take n (drop sent kept) ++ t) (drop-drop n sent kept);
}

pub kept : (held now : Option (List ℕ)) (due : List ℕ) → Keeps held now → GoesOut held now due due
kept held now due keeps = record { out = []; appended = appends_nothing held now keeps; order = refl }

pub stays : (held : Option (List ℕ)) (due : List ℕ) → GoesOut held held due due
stays held due = record { out = []; appended = Appends-nil held; order = refl }

pub goes_on : (held mid now : Option (List ℕ)) (due between left : List ℕ) → GoesOut held mid due between → GoesOut mid now between left → GoesOut held now due left
goes_on held mid now due between left first second = record {
  out = first.out ++ second.out;
  appended = Appends-trans held mid now first.out second.out first.appended second.appended;
  order = first.order ∙ ap (λ t. first.out ++ t) second.order ∙ sym (append_assoc first.out second.out left);
}
