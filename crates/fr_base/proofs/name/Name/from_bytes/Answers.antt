use Rattle.std.proofs.Common.{◌≡◌, ◌⊎◌, ◌<◌, ◌∙◌, ◌++◌, ◌∷◌, [], true, false, length, take, get_or, length-take-le, sym, ap, rules, arith, inl, inr, refl}
use Rattle.std.specs.List.{list_all}
use Rattle.std.proofs.lemmas.List.{take_all, take_more, take_more_set}
use Rattle.fr_base.specs.Names.{is_name_byte, starts_with_letter}
use Rattle.fr_base.proofs.FixedTextLemmas.{IsPadded_pushed}
use Rattle.fr_base.proofs.NameLemmas.{name_byte_is_ascii, no_name, no_name_byte, whole_name, more_name_bytes}
use Rattle.fr_base.proofs.name.Name.from_bytes.Goals as goal
use Rattle.fr_base.proofs.name.Name.from_bytes.Goals.{then-not-starts_with_letter-via-then-not-starts_with_letter, then-not-starts_with_letter-via-else-not-starts_with_letter+then-bytes-gt32}

pub returns-then-not-starts_with_letter : goal.returns-then-not-starts_with_letter
returns-then-not-starts_with_letter c =
    let how : (starts_with_letter c.args.bytes.now ≡ false) ⊎ (32 < length c.args.bytes.now) =
    elim c.then-not-starts_with_letter.branch [
      | then-not-starts_with_letter-via-then-not-starts_with_letter w ↦ inl (search rules)
      | then-not-starts_with_letter-via-else-not-starts_with_letter+then-bytes-gt32 w ↦ inr w.if-bytes-gt32.true
    ]
    in
    rw (no_name c.args.bytes.now how) refl

pub returns-then-not-is_name_byte : goal.returns-then-not-is_name_byte
returns-then-not-is_name_byte c = rw (no_name_byte c.args.bytes.now c.loop-place.place c.loop-place-test.true (search rules)) refl

pub loop-place-preserved : goal.loop-place-preserved
loop-place-preserved c =
    let text = c.args.bytes.now in
    let place = c.loop-place.place in
    let copy = c.loop-place.copy in
    let h = c.loop-place.invariant in
    let byte : is_name_byte (get_or text place 0) ≡ true = search rules in
    let inside : place < length copy = omega (arith, h.0.full, c.loop-place-test.true, c.if-bytes-gt32.false) in
    let count : length (take place copy) < 32 = omega (arith, h.0.full, inside, length-take-le place copy (omega (arith, inside))) in
    let copied = take_more_set copy place (get_or text place 0) inside in (
      IsPadded_pushed 32 copy place (get_or text place 0) h.0 count (name_byte_is_ascii (get_or text place 0) byte),
      copied ∙ ap (λ t. t ++ get_or text place 0 ∷ []) h.1 ∙ sym (take_more text place 0 c.loop-place-test.true),
      more_name_bytes text place c.loop-place-test.true h.2 byte,
    )

pub invariant_of-result : goal.invariant_of-result
invariant_of-result c =
    let text = c.args.bytes.now in
    let whole = take_all c.loop-place.place text (omega arith) in
    let at : c.loop-place.place ≡ length text = omega arith in
    let copied = c.of.ensures ∙ ap (λ n. take n c.loop-place.copy) (sym at) ∙ c.loop-place.invariant.1 ∙ whole in
    let bytes : list_all is_name_byte text ≡ true = sym (ap (list_all is_name_byte) whole) ∙ c.loop-place.invariant.2 in
    rw copied (whole_name text (search rules) c.if-bytes-gt32.false bytes)

pub returns : goal.returns
returns c =
    let text = c.args.bytes.now in
    let whole = take_all c.loop-place.place text (omega arith) in
    let at : c.loop-place.place ≡ length text = omega arith in
    let copied = c.of.ensures ∙ ap (λ n. take n c.loop-place.copy) (sym at) ∙ c.loop-place.invariant.1 ∙ whole in
    let bytes : list_all is_name_byte text ≡ true = sym (ap (list_all is_name_byte) whole) ∙ c.loop-place.invariant.2 in
    rw (whole_name text (search rules) c.if-bytes-gt32.false bytes, copied) refl
