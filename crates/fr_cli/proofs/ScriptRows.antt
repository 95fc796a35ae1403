-- Scripts' lines computed: who sends each, what it asks, and which are one supplier's.
use Rattle.std.proofs.Common.{◌≡◌, ℕ, false, List, [], ◌∷◌, ◌++◌, refl, codes}
use Rattle.std.specs.Prelude.{⊤}
use Rattle.std.specs.Char.{encode_utf8}
use Rattle.std.specs.Float.Numeral.{scan_numeral}
use Rattle.std.specs.Str.{chars, is_utf8}
use Rattle.json.specs.Json.{value}
use Rattle.json.specs.Lex.{lex, punctuate}
use Rattle.json.specs.Text.{content}
use Rattle.json.specs.Word.{after_number, word}
use Rattle.serde_json.specs.Read.{number_of}
use Rattle.fr_base.specs.Actors.{actor_of}
use Rattle.fr_base.specs.Alone.{alone}
use Rattle.fr_base.specs.Book.{opening}
use Rattle.fr_base.specs.Forms.{form_of, forms}
use Rattle.fr_base.specs.declared.answer.Answer.{Answer}
use Rattle.fr_base.specs.declared.answer.Answer.TheVariants.{Done, Refused, Report as Told}
use Rattle.fr_base.specs.declared.answer.ReportRows.TheVariants as rows_of
use Rattle.fr_base.specs.declared.channel.Channel.TheVariants as ch
use Rattle.fr_base.specs.declared.name.Name.{Name}
use Rattle.fr_base.specs.declared.refusal.Refusal.TheVariants.{BadText, UnknownKey, NoVariant, Taken, Unavailable}
use Rattle.fr_base.proofs.WorkedRows.{a_small_register, file}
use Rattle.fr_cli.specs.Asked.{ask_in}
use Rattle.fr_text.specs.Fields.{value_of, is_among, only, as_whole, has_just, word_of, text, text_or_null, number}
use Rattle.fr_text.specs.RequestText as request
use Rattle.fr_text.specs.Script.{key_and_text, request_lines}
use Rattle.fr_cli.specs.ScriptRun.{answers_of, answers_to, lines_of}

-- what the rows below unfold
unfoldable pub a_script : ⊤
unfolding a_small_register actor_of key_and_text request_lines ask_in encode_utf8 scan_numeral chars is_utf8 value lex punctuate content after_number word number_of value_of is_among only as_whole has_just word_of text text_or_null number form_of forms request.integrators request.of_frames request.of_files request.request_in request.request_from request.request_of
a_script = tt

-- a line: a key, a space, and a request
abbrev pub line : List ℕ → List ℕ → List ℕ
line key request = key ++ 32 ∷ request

abbrev pub integrator : List ℕ → List ℕ
integrator request = line (codes "integrator1") request

abbrev pub s1 : List ℕ → List ℕ
s1 request = line (codes "supplier01") request

abbrev pub s2 : List ℕ → List ℕ
s2 request = line (codes "supplier02") request

abbrev pub s3 : List ℕ → List ℕ
s3 request = line (codes "supplier03") request

-- the answers of a new register
abbrev pub answers : List (List ℕ) → List Answer
answers lines = answers_to file.cluster (opening file) lines

-- the lines that are the supplier's
abbrev pub lines_for : Name → List (List ℕ) → List (List ℕ)
lines_for s lines = lines_of s file.cluster (opening file) lines (answers lines)

-- their answers
abbrev pub answers_for : Name → List (List ℕ) → List Answer
answers_for s lines = answers_of s file.cluster (opening file) lines (answers lines)

-- the answers of a new register that holds the supplier alone
abbrev pub answers_alone : Name → List (List ℕ) → List Answer
answers_alone s lines = answers_to file.cluster (opening (alone s file)) lines

-- a variant, a node of `s1`, a grant to it, a frame, and its placement in the first cycle
unfoldable pub planned : List (List ℕ)
planned =
    integrator (codes "{\"do\":\"open_variant\",\"variant\":\"v1\"}")
    ∷ integrator (codes "{\"do\":\"add_node\",\"supplier\":\"s1\",\"node\":\"n1\"}")
    ∷ integrator (codes "{\"do\":\"grant\",\"variant\":\"v1\",\"slot\":1,\"channel\":\"A\",\"supplier\":\"s1\",\"node\":\"n1\"}")
    ∷ s1 (codes "{\"do\":\"add_frame\",\"variant\":\"v1\",\"frame\":\"f1\",\"node\":\"n1\"}")
    ∷ s1 (codes "{\"do\":\"place\",\"variant\":\"v1\",\"frame\":\"f1\",\"slot\":1,\"channels\":\"A\",\"base\":0,\"repetition\":64}")
    ∷ []

-- the schedule of `s1`
unfoldable pub shown : List (List ℕ)
shown = s1 (codes "{\"do\":\"schedule\",\"variant\":\"v1\"}") ∷ []

-- its answer
unfoldable pub told : List Answer
told = Told false (rows_of.Schedule (record { cycle = 0; slot = 1; channel = ch.A; frame = codes "f1"; node = codes "n1"; supplier = codes "s1" } ∷ [])) ∷ []

-- the answers to both
unfoldable pub answered : List Answer
answered = Done ∷ Done ∷ Done ∷ Done ∷ Done ∷ told

-- all of the first script is the supplier's
pub the_first_script :
    (lines_for (codes "s1") (planned ++ shown) ≡ planned ++ shown)
    × (answers_for (codes "s1") (planned ++ shown) ≡ answered)
    × (answers_alone (codes "s1") (planned ++ shown) ≡ answered)
unfolding a_script planned shown told answered
the_first_script = (refl, refl, refl)

-- others' lines: a node of `s2`, a grant of what `s1` holds and one of the other channel, a frame, a line that is no request, one of
-- nobody's key, and one without a space
unfoldable pub between : List (List ℕ)
between =
    integrator (codes "{\"do\":\"add_node\",\"supplier\":\"s2\",\"node\":\"n2\"}")
    ∷ integrator (codes "{\"do\":\"grant\",\"variant\":\"v1\",\"slot\":1,\"channel\":\"A\",\"supplier\":\"s2\",\"node\":\"n2\"}")
    ∷ integrator (codes "{\"do\":\"grant\",\"variant\":\"v1\",\"slot\":1,\"channel\":\"B\",\"supplier\":\"s2\",\"node\":\"n2\"}")
    ∷ s2 (codes "{\"do\":\"add_frame\",\"variant\":\"v1\",\"frame\":\"f1\",\"node\":\"n2\"}")
    ∷ s2 (codes "schedule")
    ∷ s3 (codes "{\"do\":\"schedule\",\"variant\":\"v1\"}")
    ∷ codes "schedule"
    ∷ []

unfoldable pub answered_between : List Answer
answered_between = Done ∷ Refused Taken ∷ Done ∷ Done ∷ Refused BadText ∷ Refused UnknownKey ∷ Refused BadText ∷ []

-- of nobody's lines the last two, that of `s3` and the one without a space
unfoldable pub nobodys : List (List ℕ)
nobodys = s3 (codes "{\"do\":\"schedule\",\"variant\":\"v1\"}") ∷ codes "schedule" ∷ []

-- others' lines between change nothing for `s1`; those that nobody sends are refused alike
pub others_lines_between :
    (answers (planned ++ between) ≡ Done ∷ Done ∷ Done ∷ Done ∷ Done ∷ answered_between)
    × (lines_for (codes "s1") (planned ++ between ++ shown) ≡ planned ++ nobodys ++ shown)
    × (answers_for (codes "s1") (planned ++ between ++ shown) ≡ Done ∷ Done ∷ Done ∷ Done ∷ Done ∷ Refused UnknownKey ∷ Refused BadText ∷ told)
    × (answers_alone (codes "s1") (planned ++ nobodys ++ shown) ≡ Done ∷ Done ∷ Done ∷ Done ∷ Done ∷ Refused UnknownKey ∷ Refused BadText ∷ told)
unfolding a_script planned shown told between answered_between nobodys
others_lines_between = (refl, refl, refl, refl)

-- a line that is no request is the supplier's, where it has its key or none
pub a_line_that_asks_nothing :
    (lines_for (codes "s2") (s1 (codes "grants") ∷ s2 (codes "grants") ∷ codes "grants" ∷ []) ≡ s2 (codes "grants") ∷ codes "grants" ∷ [])
    × (answers_for (codes "s2") (s1 (codes "grants") ∷ s2 (codes "grants") ∷ codes "grants" ∷ []) ≡ Refused BadText ∷ Refused BadText ∷ [])
    × (answers_alone (codes "s2") (s2 (codes "grants") ∷ codes "grants" ∷ []) ≡ Refused BadText ∷ Refused BadText ∷ [])
unfolding a_script
a_line_that_asks_nothing = (refl, refl, refl)

-- `s3` joins, and adds itself a frame
unfoldable pub joined : List (List ℕ)
joined =
    integrator (codes "{\"do\":\"add_supplier\",\"supplier\":\"s3\",\"key\":\"supplier03\"}")
    ∷ s3 (codes "{\"do\":\"add_frame\",\"variant\":\"v1\",\"frame\":\"f1\",\"node\":\"n1\"}")
    ∷ []

-- before it joins, a line with its key is nobody's, and so among its own
pub one_that_joins :
    (answers (shown ++ between ++ joined) ≡ Refused NoVariant ∷ Done ∷ Refused NoVariant ∷ Refused NoVariant ∷ Refused NoVariant ∷ Refused BadText ∷ Refused UnknownKey ∷ Refused BadText ∷ Done ∷ Refused NoVariant ∷ [])
    × (lines_for (codes "s3") (shown ++ between ++ joined) ≡ nobodys ++ joined)
    × (answers_for (codes "s3") (shown ++ between ++ joined) ≡ Refused UnknownKey ∷ Refused BadText ∷ Done ∷ Refused NoVariant ∷ [])
    × (answers_alone (codes "s3") (nobodys ++ joined) ≡ Refused UnknownKey ∷ Refused BadText ∷ Done ∷ Refused NoVariant ∷ [])
unfolding a_script planned shown between joined nobodys
one_that_joins = (refl, refl, refl, refl)

-- a line that was answered Unavailable is left out, as if it had not been sent
pub one_without_memory :
    (lines_of (codes "s1") file.cluster (opening file) (shown ++ shown) (Refused Unavailable ∷ Refused NoVariant ∷ []) ≡ shown)
    × (answers_of (codes "s1") file.cluster (opening file) (shown ++ shown) (Refused Unavailable ∷ Refused NoVariant ∷ []) ≡ Refused NoVariant ∷ [])
unfolding a_script shown
one_without_memory = (refl, refl)
