-- A key is a text, so what is none is nobody's key.
use Rattle.std.proofs.Common.{◌≡◌, ℕ, ◌<◌, true, false, List, [], ◌∷◌, map, find, Option, None, IsUtf8, arith, refl, sym, ap, ◌∙◌, subst, inl, inr}
use Rattle.std.specs.List.{list_all}
use Rattle.std.specs.Option.{option_map}
use Rattle.std.specs.Str.{IsAscii}
use Rattle.std.proofs.lemmas.Bool.{and_parts, cases_Bool}
use Rattle.std.proofs.lemmas.Bool.Decides.{nat_tests}
use Rattle.std.proofs.lemmas.Slice.Eq.{bytes_eq-Decides}
use Rattle.std.proofs.lemmas.Str.{IsUtf8-from_ascii}
use Rattle.std.proofs.lemmas.Str.Ascii.{IsAscii-nil, IsAscii-cons}
use Rattle.fr_base.specs.Actors.{actor_of}
use Rattle.fr_base.specs.Book.{Book, file_of}
use Rattle.fr_base.specs.Cluster.{Cluster}
use Rattle.fr_base.specs.Names.{is_key, is_key_byte, same_text}
use Rattle.fr_base.specs.Sound.{IsSound}
use Rattle.fr_base.specs.declared.actor.Actor.TheVariants as actor
use Rattle.fr_base.specs.declared.config.Supplier.{Supplier}
use Rattle.fr_base.specs.declared.actor.Actor.{Actor}
use Rattle.fr_http.specs.Head.{only_one}
use Rattle.fr_http.specs.Outcome.{holder}
use Rattle.fr_guide.proofs.RequestFileLaws.{key_is_text}
use Rattle.fr_base.proofs.ActorsLemmas.{has_key, listed_now}

-- what is no text is not this key
other_than : (k text : List ℕ) → is_key k ≡ true → (IsUtf8 text → ⊥) → same_text k text ≡ false
other_than k text is none = elim (cases_Bool (same_text k text)) [
  | inl same ↦ absurd (none (subst IsUtf8 ((bytes_eq-Decides k text).0 same) (key_is_text k is)))
  | inr other ↦ other
]

-- nor is it one of the suppliers'
none_has : (ss : List Supplier) (text : List ℕ) → list_all is_key (map (λ s. s.key) ss) ≡ true → (IsUtf8 text → ⊥) → find (has_key text) ss ≡ None
none_has [] text are none = refl
none_has (s ∷ ss) text are none =
    let both = and_parts _ _ are in
    rw (other_than s.key text both.0 none) (none_has ss text both.1 none)

pub nobodys : (c : Cluster) (b : Book) (key : List ℕ) → IsSound c b → (IsUtf8 key → ⊥) → None ≡ actor_of c b key
nobodys c b key sound none =
    let both = and_parts _ _ sound.cluster.keys in
    let file = file_of c b in
    sym (ap (option_map (λ s. actor.Supplier s.name)) (none_has file.suppliers key both.1 none))
    ∙ listed_now c b file key refl (other_than c.integrator key both.0 none)

-- who has the one value that there is
pub holder_of : (who : List ℕ → Option Actor) (values rest left : List (List ℕ)) (key : List ℕ) → values ≡ key ∷ rest → rest ≡ left → left ≡ [] → holder who (only_one values) ≡ who key
holder_of who values rest left key first same none = ap (λ v. holder who (only_one v)) (first ∙ ap (λ r. key ∷ r) (same ∙ none))
