-- A row is refused for its text or a name exactly where its record is not formed, in any cluster.
use Rattle.std.proofs.Common.{◌≡◌, ◌∙◌, ◌^◌, ap, refl, sym, ℕ, Bool, true, false, cond, List, length, Option, Some, None, Result, Ok, Err, arith}
use Rattle.std.specs.Prelude.{not, ◌&&◌, ◌==◌, if◌then◌else◌, is_some, nat_le, nat_lt, ⊤}
use Rattle.std.specs.List.{list_all}
use Rattle.std.specs.Result.{is_ok}
use Rattle.std.specs.Str.{is_utf8}
use Rattle.std.specs.Str.Parse.{digits_value}
use Rattle.csv.specs.Records.{field_at}
use Rattle.fr_base.specs.Checks.{name, placement, signal}
use Rattle.fr_base.specs.ImportRows.{frame_in, frame_row, number, number_at, placement_in, placement_row, row_of, signal_in, signal_row, spelled, text_at}
use Rattle.fr_base.specs.Names.{is_digit, is_name}
use Rattle.fr_base.specs.Refusing.{◌>>=◌, ◌>>◌, ◌or◌, refuse◌when◌}
use Rattle.fr_base.specs.declared.import.Header.TheVariants.{Frames, Placements, Signals}
use Rattle.fr_base.specs.declared.params.Params.{Params}
use Rattle.fr_base.specs.declared.refusal.Refusal.{Refusal}
use Rattle.fr_base.specs.declared.refusal.Refusal.TheVariants.{BadText, BadName}
use Rattle.fr_base.specs.Wishes.{spelled_wishes, wish, wish_in, wish_of}
use Rattle.fr_guide.proofs.RequestLaws.{formed_behind, is_formed, named, placement-formed, signal-formed, wish-formed}
use Rattle.fr_base.specs.declared.import.Header.{Header}
use Rattle.fr_guide.specs.Laws.{is_misformed, is_of_form, misforms}
use Rattle.fr_guide.specs.Rows.{name_at}
use Rattle.fr_guide.specs.declared.rows.file_kind.FileKind.{FileKind}
use Rattle.fr_guide.specs.declared.rows.file_kind.FileKind.TheVariants.{Rows, Wishes}

-- What is refused is refused for its form.
OnlyForm : {A : Type 0} → Result A Refusal → Type 0
OnlyForm (Ok x) = ⊤
OnlyForm (Err refusal) = is_of_form refusal ≡ true

-- whether the fields of a row have their form: each name, number and text is one
is_formed_frame : List (List ℕ) → Bool
is_formed_frame fields = is_ok (name_at fields 0) && is_ok (name_at fields 1)

is_formed_placement : List (List ℕ) → Bool
is_formed_placement fields = is_ok (name_at fields 0) && is_ok (name_at fields 1) && is_ok (number_at fields 2) && is_ok (text_at fields 3)
    && is_ok (number_at fields 4) && is_ok (number_at fields 5)

is_formed_signal : List (List ℕ) → Bool
is_formed_signal fields = is_ok (name_at fields 0) && is_ok (name_at fields 1) && is_ok (number_at fields 2) && is_ok (number_at fields 3)
    && is_ok (text_at fields 4)

is_formed_wish : List (List ℕ) → Bool
is_formed_wish fields = is_ok (name_at fields 0) && is_ok (name_at fields 1) && is_ok (text_at fields 2) && is_ok (number_at fields 3)

has_formed_fields : Header → List (List ℕ) → Bool
has_formed_fields Frames fields = is_formed_frame fields
has_formed_fields Placements fields = is_formed_placement fields
has_formed_fields Signals fields = is_formed_signal fields

pub is_formed_row : Header → List (List ℕ) → Bool
is_formed_row header fields = (length fields == length (spelled header)) && has_formed_fields header fields

pub is_formed_record : FileKind → List (List ℕ) → Bool
is_formed_record (Rows header) fields = is_formed_row header fields
is_formed_record Wishes fields = (length fields == length spelled_wishes) && is_formed_wish fields

-- ---- a line of a row: a field that has its form, and what stands behind it

asked : {A B : Type 0} (r : Result A Refusal) (f : A → Result B Refusal) (b : Bool) → OnlyForm r → ((x : A) → r ≡ Ok x → is_formed (f x) ≡ b) → is_formed (r >>= f) ≡ (is_ok r && b)
unfolding ◌>>=◌ OnlyForm
asked (Ok x) f b only others = others x refl
asked (Err refusal) f b only others = ap not only

text_at-only : (fields : List (List ℕ)) (place : ℕ) → OnlyForm (text_at fields place)
unfolding text_at ◌>>=◌ ◌>>◌ ◌or◌ refuse◌when◌ OnlyForm
text_at-only fields place = by (field_at fields place)
  where
    text : (f : List ℕ) (is : Bool) → OnlyForm ((refuse BadText when not is) >> Ok f)
    text f true = tt
    text f false = refl

    by : (found : Option (List ℕ)) → OnlyForm ((found or BadText) >>= λ field. refuse BadText when not (is_utf8 field) >> Ok field)
    by None = refl
    by (Some f) = text f (is_utf8 f)

number-only : (text : List ℕ) → OnlyForm (number text)
unfolding number ◌>>◌ refuse◌when◌ OnlyForm
number-only text = by (not (nat_le 1 (length text) && nat_le (length text) 10)) (not (list_all is_digit text)) (not (nat_lt (digits_value 10 text) (2 ^ 32)))
  where
    by : (size digits value : Bool) → OnlyForm ((refuse BadText when size) >> ((refuse BadText when digits) >> ((refuse BadText when value) >> Ok (digits_value 10 text))))
    by true digits value = refl
    by false true value = refl
    by false false true = refl
    by false false false = tt

behind-only : {A B : Type 0} (r : Result A Refusal) (f : A → Result B Refusal) → OnlyForm r → ((x : A) → OnlyForm (f x)) → OnlyForm (r >>= f)
unfolding ◌>>=◌ OnlyForm
behind-only (Ok x) f first others = others x
behind-only (Err refusal) f first others = first

number_at-only : (fields : List (List ℕ)) (place : ℕ) → OnlyForm (number_at fields place)
unfolding number_at
number_at-only fields place = behind-only (text_at fields place) number (text_at-only fields place) number-only

-- whether the field at a place is a name, where it is this text
pub name_of : (fields : List (List ℕ)) (place : ℕ) (text : List ℕ) → text_at fields place ≡ Ok text → is_ok (name_at fields place) ≡ is_name text
unfolding name_at name ◌>>=◌
name_of fields place text is = rw is (elim (is_name text) as (λ b. is_ok (cond b (Ok text) (Err BadName)) ≡ b) [ true ↦ refl | false ↦ refl ])

-- the name that is read of the text at a place is there exactly where one stands at the place
pub name_found : (fields : List (List ℕ)) (place : ℕ) (text : List ℕ) → text_at fields place ≡ Ok text
    → is_some (if is_name text then Some text else None) ≡ is_ok (name_at fields place)
name_found fields place text is = by (is_name text) ∙ sym (name_of fields place text is)
  where
    by : (b : Bool) → is_some (cond b (Some text) None) ≡ b
    by true = refl
    by false = refl

-- where there is no text, there is no name
pub no_name_in : (fields : List (List ℕ)) (place : ℕ) (refusal : Refusal) → text_at fields place ≡ Err refusal → false ≡ is_ok (name_at fields place)
unfolding name_at ◌>>=◌
no_name_in fields place refusal is = rw is refl

-- a name is a text
is_text : (fields : List (List ℕ)) (place : ℕ) → is_ok (name_at fields place) ≡ true → is_ok (text_at fields place) ≡ true
unfolding name_at ◌>>=◌
is_text fields place = by (text_at fields place)
  where
    by : (r : Result (List ℕ) Refusal) → is_ok (r >>= name) ≡ true → is_ok r ≡ true
    by (Ok x) is = refl
    by (Err refusal) is = is

-- ---- rows

two : (t0 t1 m0 m1 : Bool) → (m0 ≡ true → t0 ≡ true) → (m1 ≡ true → t1 ≡ true) → (t0 && (t1 && (m0 && (m1 && true)))) ≡ (m0 && m1)
two t0 t1 m0 m1 first second = grind (arith, first, second)

six : (t0 t1 n2 t3 n4 n5 m0 m1 : Bool) → (m0 ≡ true → t0 ≡ true) → (m1 ≡ true → t1 ≡ true)
    → (t0 && (t1 && (n2 && (t3 && (n4 && (n5 && (m0 && (m1 && true)))))))) ≡ (m0 && m1 && n2 && t3 && n4 && n5)
six t0 t1 n2 t3 n4 n5 m0 m1 first second = grind (arith, first, second)

five : (t0 t1 n2 n3 t4 m0 m1 : Bool) → (m0 ≡ true → t0 ≡ true) → (m1 ≡ true → t1 ≡ true)
    → (t0 && (t1 && (n2 && (n3 && (t4 && (m0 && (m1 && true))))))) ≡ (m0 && m1 && n2 && n3 && t4)
five t0 t1 n2 n3 t4 m0 m1 first second = grind (arith, first, second)

four : (t0 t1 t2 n3 m0 m1 : Bool) → (m0 ≡ true → t0 ≡ true) → (m1 ≡ true → t1 ≡ true)
    → (t0 && (t1 && (t2 && (n3 && (m0 && (m1 && true)))))) ≡ (m0 && m1 && t2 && n3)
four t0 t1 t2 n3 m0 m1 first second = grind (arith, first, second)

-- the names behind the fields
names_are : (fields : List (List ℕ)) (one other : List ℕ) → text_at fields 0 ≡ Ok one → text_at fields 1 ≡ Ok other
    → (is_name one && (is_name other && true)) ≡ (is_ok (name_at fields 0) && (is_ok (name_at fields 1) && true))
names_are fields one other is0 is1 = rw (name_of fields 0 one is0) (rw (name_of fields 1 other is1) refl)

frames : (fields : List (List ℕ)) → is_formed (frame_in fields) ≡ is_formed_frame fields
unfolding frame_in frame_row is_formed_frame
frames fields =
    asked (text_at fields 0) _ _ (text_at-only fields 0) (λ frame is0.
    asked (text_at fields 1) _ (is_ok (name_at fields 0) && (is_ok (name_at fields 1) && true)) (text_at-only fields 1) (λ node is1.
    named frame _ _ (named node _ true refl)
    ∙ names_are fields frame node is0 is1))
    ∙ two (is_ok (text_at fields 0)) (is_ok (text_at fields 1)) (is_ok (name_at fields 0)) (is_ok (name_at fields 1)) (is_text fields 0) (is_text fields 1)

placements : (p : Params) (fields : List (List ℕ)) → is_formed (placement_in p fields) ≡ is_formed_placement fields
unfolding placement_in placement_row is_formed_placement
placements p fields =
    asked (text_at fields 0) _ _ (text_at-only fields 0) (λ frame is0.
    asked (text_at fields 1) _ _ (text_at-only fields 1) (λ node is1.
    asked (number_at fields 2) _ _ (number_at-only fields 2) (λ slot is2.
    asked (text_at fields 3) _ _ (text_at-only fields 3) (λ channels is3.
    asked (number_at fields 4) _ _ (number_at-only fields 4) (λ base is4.
    asked (number_at fields 5) _ (is_ok (name_at fields 0) && (is_ok (name_at fields 1) && true)) (number_at-only fields 5) (λ repetition is5.
    named frame _ _ (named node _ true (formed_behind (placement p slot channels base repetition) _ (placement-formed p slot channels base repetition) (λ q. refl)))
    ∙ names_are fields frame node is0 is1))))))
    ∙ six (is_ok (text_at fields 0)) (is_ok (text_at fields 1)) (is_ok (number_at fields 2)) (is_ok (text_at fields 3)) (is_ok (number_at fields 4))
    (is_ok (number_at fields 5)) (is_ok (name_at fields 0)) (is_ok (name_at fields 1)) (is_text fields 0) (is_text fields 1)

signals : (fields : List (List ℕ)) → is_formed (signal_in fields) ≡ is_formed_signal fields
unfolding signal_in signal_row is_formed_signal
signals fields =
    asked (text_at fields 0) _ _ (text_at-only fields 0) (λ frame is0.
    asked (text_at fields 1) _ _ (text_at-only fields 1) (λ x is1.
    asked (number_at fields 2) _ _ (number_at-only fields 2) (λ start is2.
    asked (number_at fields 3) _ _ (number_at-only fields 3) (λ length is3.
    asked (text_at fields 4) _ (is_ok (name_at fields 0) && (is_ok (name_at fields 1) && true)) (text_at-only fields 4) (λ order is4.
    named frame _ _ (named x _ true (formed_behind (signal x start length order) _ (signal-formed x start length order) (λ y. refl)))
    ∙ names_are fields frame x is0 is1)))))
    ∙ five (is_ok (text_at fields 0)) (is_ok (text_at fields 1)) (is_ok (number_at fields 2)) (is_ok (number_at fields 3)) (is_ok (text_at fields 4))
    (is_ok (name_at fields 0)) (is_ok (name_at fields 1)) (is_text fields 0) (is_text fields 1)

wishes : (p : Params) (fields : List (List ℕ)) → is_formed (wish_in p fields) ≡ is_formed_wish fields
unfolding wish_in wish is_formed_wish
wishes p fields =
    asked (text_at fields 0) _ _ (text_at-only fields 0) (λ frame is0.
    asked (text_at fields 1) _ _ (text_at-only fields 1) (λ node is1.
    asked (text_at fields 2) _ _ (text_at-only fields 2) (λ channels is2.
    asked (number_at fields 3) _ (is_ok (name_at fields 0) && (is_ok (name_at fields 1) && true)) (number_at-only fields 3) (λ repetition is3.
    named frame _ _ (named node _ true (wish-formed p channels repetition (λ cs. record { frame = frame; node = node; channels = cs; repetition = repetition })))
    ∙ names_are fields frame node is0 is1))))
    ∙ four (is_ok (text_at fields 0)) (is_ok (text_at fields 1)) (is_ok (text_at fields 2)) (is_ok (number_at fields 3)) (is_ok (name_at fields 0)) (is_ok (name_at fields 1))
    (is_text fields 0) (is_text fields 1)

pub misformed_rows : (p : Params) (header : Header) (fields : List (List ℕ)) → is_formed_row header fields ≡ not (is_misformed (row_of p header fields))
unfolding is_formed_row has_formed_fields row_of ◌>>◌ refuse◌when◌
misformed_rows p Frames fields = by (length fields == length (spelled Frames))
  where
    by : (fits : Bool) → (fits && is_formed_frame fields) ≡ is_formed ((refuse BadText when not fits) >> frame_in fields)
    by true = sym (frames fields)
    by false = refl
misformed_rows p Placements fields = by (length fields == length (spelled Placements))
  where
    by : (fits : Bool) → (fits && is_formed_placement fields) ≡ is_formed ((refuse BadText when not fits) >> placement_in p fields)
    by true = sym (placements p fields)
    by false = refl
misformed_rows p Signals fields = by (length fields == length (spelled Signals))
  where
    by : (fits : Bool) → (fits && is_formed_signal fields) ≡ is_formed ((refuse BadText when not fits) >> signal_in fields)
    by true = sym (signals fields)
    by false = refl

-- so of a record of any kind
pub misformed_records : (p : Params) (kind : FileKind) (fields : List (List ℕ)) → is_formed_record kind fields ≡ not (misforms p kind fields)
unfolding is_formed_record wish_of ◌>>◌ refuse◌when◌
misformed_records p (Rows header) fields = misformed_rows p header fields
misformed_records p Wishes fields = by (length fields == length spelled_wishes)
  where
    by : (fits : Bool) → (fits && is_formed_wish fields) ≡ is_formed ((refuse BadText when not fits) >> wish_in p fields)
    by true = sym (wishes p fields)
    by false = refl
