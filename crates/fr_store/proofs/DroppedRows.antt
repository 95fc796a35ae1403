-- Which frames are dropped after one more is.
use Rattle.std.proofs.Common.{◌≡◌, Bool, true, false, ◌||◌, if◌then◌else◌, Some, is_some, List, [], ◌∷◌, ◌++◌, refl, sym, ap, ◌∙◌}
use Rattle.std.specs.List.{All, list_any}
use Rattle.std.proofs.lemmas.Bool.{and_parts, and_from}
use Rattle.std.proofs.lemmas.List.Elements.{All-push}
use Rattle.std.proofs.lemmas.List.Folds.{list_any-append}
use Rattle.std.specs.Prelude.{IsTrue}
use Rattle.fr_base.specs.Tables.{get, contains}
use Rattle.fr_base.specs.Book.{Variant, Book}
use Rattle.fr_base.specs.declared.name.Name.{Name}
use Rattle.fr_base.proofs.SoundRows.{same_text-is}
use Rattle.fr_tables.specs.Rows.{DroppedRow, key_of}
use Rattle.fr_tables.specs.Statements.{is_dropped, with_dropped}
use Rattle.fr_tables.specs.Tables.{Tables}
use Rattle.fr_store.proofs.FrameChanges.{DropsElsewhere}
use Rattle.fr_store.proofs.PlacementSections.{own_text}

pub or_none : (b : Bool) → (b || false) ≡ b
or_none true = refl
or_none false = refl

module _ (v s f : Name) where
  abbrev added : Bool → List DroppedRow → List DroppedRow
  added there ds = if there then ds else ds ++ (key_of v s f) ∷ []

  its_own : is_dropped (key_of v s f) (key_of v s f) ≡ true
  its_own = and_from _ _ (own_text v) (and_from _ _ (own_text s) (own_text f))

  not_another : (w : Name) (k : Name × Name) → (w ≡ v → k ≡ (s, f) → ⊥) → is_dropped (key_of w k.0 k.1) (key_of v s f) ≡ false
  not_another w k other = by_test (is_dropped (key_of w k.0 k.1) (key_of v s f)) refl
    where
      by_test : (b : Bool) → is_dropped (key_of w k.0 k.1) (key_of v s f) ≡ b → b ≡ false
      by_test false e = refl
      by_test true e =
          let one = and_parts _ _ e in
          let two = and_parts _ _ one.1 in
          absurd (other (sym (same_text-is v w one.0)) (λ i. (sym (same_text-is s k.0 two.0) i, sym (same_text-is f k.1 two.1) i)))

  -- the frame is among them
  pub now_dropped : (ds : List DroppedRow) → list_any (is_dropped (key_of v s f)) (added (list_any (is_dropped (key_of v s f)) ds) ds) ≡ true
  now_dropped ds = by_test (list_any (is_dropped (key_of v s f)) ds) refl
    where
      by_test : (there : Bool) → list_any (is_dropped (key_of v s f)) ds ≡ there → list_any (is_dropped (key_of v s f)) (added there ds) ≡ true
      by_test true is = is
      by_test false is = list_any-append (is_dropped (key_of v s f)) ds (key_of v s f ∷ []) ∙ ap (λ b. b || (is_dropped (key_of v s f) (key_of v s f) || false)) is ∙ or_none _ ∙ its_own

  -- and another where it was
  pub others_dropped : (ds : List DroppedRow) (there : Bool) (w : Name) (k : Name × Name) → (w ≡ v → k ≡ (s, f) → ⊥)
      → list_any (is_dropped (key_of w k.0 k.1)) (added there ds) ≡ list_any (is_dropped (key_of w k.0 k.1)) ds
  others_dropped ds true w k other = refl
  others_dropped ds false w k other =
      list_any-append (is_dropped (key_of w k.0 k.1)) ds (key_of v s f ∷ []) ∙ ap (λ b. list_any (is_dropped (key_of w k.0 k.1)) ds || (b || false)) (not_another w k other) ∙ or_none _

  pub drops_elsewhere : (t : Tables) (b : Book) (x : Variant) → get b.variants v ≡ Some x → All (λ d. IsTrue (contains b.variants d.variant)) t.dropped
      → DropsElsewhere t b v s f (with_dropped (key_of v s f) t).dropped
  drops_elsewhere t b x there known = record {
    others = others_dropped t.dropped (list_any (is_dropped (key_of v s f)) t.dropped);
    known = all_known (list_any (is_dropped (key_of v s f)) t.dropped);
  }
    where
      all_known : (is : Bool) → All (λ (d : DroppedRow). IsTrue (contains b.variants d.variant)) (added is t.dropped)
      all_known true = known
      all_known false = All-push (λ (d : DroppedRow). IsTrue (contains b.variants d.variant)) t.dropped (key_of v s f) known (ap is_some there)
