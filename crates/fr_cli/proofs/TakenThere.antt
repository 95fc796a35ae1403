-- What `clap` has of an argument that takes one value and is required, or has a default: where it finds no fault in the words, that
-- value is there.
use Rattle.std.proofs.Common.{◌≡◌, Bool, true, false, not, ◌&&◌, ◌||◌, cond, List, [], ◌∷◌, length, Option, Some, None, is_some, refl, sym, ap, ◌∙◌, subst}
use Rattle.std.specs.Prelude.{◌==◌, nat_le, find, fold, slice_get, option_map, option_and_then}
use Rattle.std.specs.List.{list_any}
use Rattle.std.specs.Option.{option_map_or}
use Rattle.std.specs.Str.{bytes_eq}
use Rattle.std.proofs.Math.Bool.{and-false}
use Rattle.std.proofs.lemmas.Bool.{eqb-true, leb-true}
use Rattle.std.proofs.lemmas.Slice.Eq.{bytes_eq-Decides}
use Rattle.clap.specs.Facts.{explicit_source, parser_of_value, unwrap_or_range}
use Rattle.clap.specs.Faults.{level_fault}
use Rattle.clap.specs.Kinds.{check_kinds}
use Rattle.clap.specs.Simple.{Shape}
use Rattle.clap.specs.Takes.{is_given}
use Rattle.clap.specs.ValueTests.{accepts}
use Rattle.clap.specs.Values.{read_as}
use Rattle.clap.specs.Walk.{Row, Rule, Text, action_of, arg_by_id, default_rows, first_of, has_row, more_values, most_values, nothing_held, one_of, reading_by, rows_after, settled, walk, with_default}
use Rattle.clap.specs.declared.builder.action.ArgAction.{ArgAction}
use Rattle.clap.specs.declared.builder.action.ArgAction.TheVariants.{Set, Append, SetTrue, SetFalse, Count, Help, HelpShort, HelpLong, Version}
use Rattle.clap.specs.declared.error.kind.ErrorKind.TheVariants as kind
use Rattle.clap.specs.declared.parser.matches.ValueSource.TheVariants.{DefaultValue}
use Rattle.fr_cli.proofs.TakenRows.{Alone, either_none, HasOne, TakesOne, row_of_id, differ, fresh_default, new_row, not_none, some_none, some_same, taken_rows, is_fine, values_other}

-- ---- which arguments are so

abbrev pub is_set : ArgAction → Bool
is_set Set = true
is_set _ = false

-- it takes one value, and has one default at most
abbrev pub takes_word : Rule → Bool
takes_word a = is_set (action_of a) && (((unwrap_or_range a.range).start_inclusive == 1) && ((most_values a == 1) && nat_le (length a.defaults) 1))

-- it is required, or has a default
abbrev pub is_wanted : Rule → Bool
is_wanted a = a.required || not (length a.defaults == 0)

abbrev pub is_word : Rule → Bool
is_word a = takes_word a && is_wanted a

-- the list has an argument of this id, and no second
abbrev pub has_one : List Rule → Text → Bool
has_one [] id = false
has_one (b ∷ rules) id = cond (bytes_eq b.id id) (not (list_any (λ b. bytes_eq b.id id) rules)) (has_one rules id)

-- the list has one argument of this id, and it is so
abbrev pub has_word : List Rule → Text → Bool
has_word rules id = option_map_or is_word (arg_by_id rules id) false && has_one rules id

both : (x y : Bool) → (x && y) ≡ true → (x ≡ true) × (y ≡ true)
both true y e = (refl, e)
both false y e = differ (sym e)

unset_not : (x : Bool) → not x ≡ true → x ≡ false
unset_not true e = sym e
unset_not false e = refl

unset : (x : Bool) → not x ≡ false → x ≡ true
unset true e = refl
unset false e = sym e

set_by : (x : ArgAction) → is_set x ≡ true → x ≡ Set
set_by Set e = refl
set_by Append e = differ (sym e)
set_by SetTrue e = differ (sym e)
set_by SetFalse e = differ (sym e)
set_by Count e = differ (sym e)
set_by Help e = differ (sym e)
set_by HelpShort e = differ (sym e)
set_by HelpLong e = differ (sym e)
set_by Version e = differ (sym e)

takes_one : (a : Rule) → takes_word a ≡ true → TakesOne a
takes_one a e =
    let (set, e1) = both (is_set (action_of a)) _ e in
    let (least, e2) = both ((unwrap_or_range a.range).start_inclusive == 1) _ e1 in
    let (most, few) = both (most_values a == 1) _ e2 in
    record { action = set_by (action_of a) set; least = eqb-true _ _ least; most = eqb-true _ _ most; defaults = leb-true _ _ few }

found_id : (id : Text) (rules : List Rule) (a : Rule) → find (λ b. bytes_eq b.id id) rules ≡ Some a → a.id ≡ id
found_id id [] a e = some_none a e
found_id id (b ∷ rules) a e = go (bytes_eq b.id id) refl e (found_id id rules a)
  where
    go : (t : Bool) → bytes_eq b.id id ≡ t → cond t (Some b) (find (λ b. bytes_eq b.id id) rules) ≡ Some a
        → (find (λ b. bytes_eq b.id id) rules ≡ Some a → a.id ≡ id) → a.id ≡ id
    go true is e rest = ap (λ (r : Rule). r.id) (sym (some_same b a e)) ∙ (bytes_eq-Decides b.id id).0 is
    go false is e rest = rest e

no_other : (id : Text) (rules : List Rule) (a : Rule) → a.id ≡ id → list_any (λ b. bytes_eq b.id id) rules ≡ false → Alone rules a
no_other id [] a own none = tt
no_other id (b ∷ rules) a own none =
    let (here, rest) = either_none (bytes_eq b.id id) (list_any (λ b. bytes_eq b.id id) rules) none in
    ((λ same. differ (sym same ∙ ap (bytes_eq b.id) own ∙ here)), no_other id rules a own rest)

-- an argument of which there is one is alone
alone_by : (id : Text) (rules : List Rule) (a : Rule) → find (λ b. bytes_eq b.id id) rules ≡ Some a → has_one rules id ≡ true
    → Alone rules a
alone_by id [] a e one = some_none a e
alone_by id (b ∷ rules) a e one = go (bytes_eq b.id id) refl e one (alone_by id rules a)
  where
    own : a.id ≡ id
    own = found_id id (b ∷ rules) a e

    go : (t : Bool) → bytes_eq b.id id ≡ t → cond t (Some b) (find (λ b. bytes_eq b.id id) rules) ≡ Some a
        → cond t (not (list_any (λ b. bytes_eq b.id id) rules)) (has_one rules id) ≡ true
        → (find (λ b. bytes_eq b.id id) rules ≡ Some a → has_one rules id ≡ true → Alone rules a) → Alone (b ∷ rules) a
    go true is e one rest = ((λ same. some_same b a e), no_other id rules a own (unset_not _ one))
    go false is e one rest = ((λ same. differ (sym same ∙ ap (bytes_eq b.id) own ∙ is)), rest e one)

-- ---- its row is there

found_any : {X : Type 0} (p : X → Bool) (xs : List X) → is_some (find p xs) ≡ list_any p xs
found_any p [] = refl
found_any p (x ∷ xs) = go (p x) (found_any p xs)
  where
    go : (t : Bool) → is_some (find p xs) ≡ list_any p xs → is_some (cond t (Some x) (find p xs)) ≡ (t || list_any p xs)
    go true rest = refl
    go false rest = rest

not_any : {X : Type 0} (p q : X → Bool) (xs : List X) (x : X) → find p xs ≡ Some x → list_any q xs ≡ false → q x ≡ false
not_any p q [] x e none = some_none x e
not_any p q (y ∷ xs) x e none = go (p y) (q y) refl e none (not_any p q xs x)
  where
    go : (t u : Bool) → q y ≡ u → cond t (Some y) (find p xs) ≡ Some x → (u || list_any q xs) ≡ false
        → (find p xs ≡ Some x → list_any q xs ≡ false → q x ≡ false) → q x ≡ false
    go t true is e none rest = differ none
    go true false is e none rest = ap q (sym (some_same y x e)) ∙ is
    go false false is e none rest = rest e none

module _ (a : Rule) where
  stays_there : (b : Rule) (rows : List Row) → (bytes_eq b.id a.id ≡ true → b ≡ a) → is_some (row_of_id a.id rows) ≡ true
      → is_some (row_of_id a.id (with_default rows b)) ≡ true
  stays_there b rows alone there = go (has_row b.id rows) refl
    where
      other : (defaults : List Text) → bytes_eq b.id a.id ≡ false
          → is_some (row_of_id a.id (default_rows b.id (reading_by b) defaults rows)) ≡ true
      other [] is = there
      other (v ∷ vs) is = ap is_some (values_other a b.id (reading_by b) DefaultValue (v ∷ vs) rows is) ∙ there

      which : (t : Bool) → bytes_eq b.id a.id ≡ t → has_row b.id rows ≡ false
          → is_some (row_of_id a.id (default_rows b.id (reading_by b) b.defaults rows)) ≡ true
      which true is free = differ (sym there ∙ found_any (λ r. bytes_eq r.id a.id) rows ∙ subst (λ (k : Rule). has_row k.id rows ≡ false) (alone is) free)
      which false is free = other b.defaults is

      go : (t : Bool) → has_row b.id rows ≡ t
          → is_some (row_of_id a.id (cond t rows (default_rows b.id (reading_by b) b.defaults rows))) ≡ true
      go true is = there
      go false is = which (bytes_eq b.id a.id) refl is

  all_stay : (rules : List Rule) (rows : List Row) → Alone rules a → is_some (row_of_id a.id rows) ≡ true
      → is_some (row_of_id a.id (fold with_default rows rules)) ≡ true
  all_stay [] rows alone there = there
  all_stay (b ∷ rules) rows alone there = all_stay rules (with_default rows b) alone.1 (stays_there b rows alone.0 there)

  comes : (rows : List Row) → (length a.defaults == 0) ≡ false → is_some (row_of_id a.id (with_default rows a)) ≡ true
  comes rows has = go (has_row a.id rows) refl
    where
      new : (defaults : List Text) → (length defaults == 0) ≡ false → has_row a.id rows ≡ false
          → is_some (row_of_id a.id (default_rows a.id (reading_by a) defaults rows)) ≡ true
      new [] has free = differ has
      new (v ∷ vs) has free =
          ap is_some (fresh_default a (more_values DefaultValue (v ∷ vs)) (new_row a.id (reading_by a) DefaultValue (v ∷ vs)) rows refl free)

      go : (t : Bool) → has_row a.id rows ≡ t
          → is_some (row_of_id a.id (cond t rows (default_rows a.id (reading_by a) a.defaults rows))) ≡ true
      go true is = found_any (λ r. bytes_eq r.id a.id) rows ∙ is
      go false is = new a.defaults has is

  all_come : (rules : List Rule) (rows : List Row) (p : Rule → Bool) → Alone rules a → find p rules ≡ Some a
      → (length a.defaults == 0) ≡ false
      → is_some (row_of_id a.id (fold with_default rows rules)) ≡ true
  all_come [] rows p alone e has = some_none a e
  all_come (b ∷ rules) rows p alone e has = go (p b) e (λ found. all_come rules (with_default rows b) p alone.1 found has)
    where
      go : (t : Bool) → cond t (Some b) (find p rules) ≡ Some a
          → (find p rules ≡ Some a → is_some (row_of_id a.id (fold with_default rows (b ∷ rules))) ≡ true)
          → is_some (row_of_id a.id (fold with_default rows (b ∷ rules))) ≡ true
      go true e rest =
          subst (λ (k : Rule). is_some (row_of_id a.id (fold with_default (with_default rows k) rules)) ≡ true) (sym (some_same b a e))
          (all_stay rules (with_default rows a) alone.1 (comes rows has))
      go false e rest = rest e

given_some : (o : Option Row) → option_map_or (λ r. explicit_source r.source) o false ≡ true → is_some o ≡ true
given_some None e = e
given_some (Some r) e = refl

nothing_wanted : (help subcommand wanted : Bool) → check_kinds help subcommand wanted ≡ [] → wanted ≡ false
nothing_wanted true subcommand wanted e = not_none kind.DisplayHelpOnMissingArgumentOrSubcommand [] e
nothing_wanted false true wanted e = not_none kind.MissingSubcommand [] e
nothing_wanted false false true e = not_none kind.MissingRequiredArgument [] e
nothing_wanted false false false e = refl

module _ (s : Shape) (a : Rule) (words : List Text) (fine : level_fault s [] nothing_held words false [] ≡ []) where
  required_there : (p : Rule → Bool) → find p s.rules ≡ Some a → a.required ≡ true
      → is_some (row_of_id a.id (rows_after s.rules [] words)) ≡ true
  required_there p found required =
      let rows = rows_after s.rules [] words in
      let checked = nothing_wanted _ _ _ (is_fine s [] words false [] fine).checked in
      let none : list_any (λ b. b.required && not (is_given b.id rows)) s.rules ≡ false =
      subst (λ (t : Bool). (not t && list_any (λ b. b.required && not (is_given b.id rows)) s.rules) ≡ false) (and-false s.subcommand_negates_reqs) checked in
      let mine : (a.required && not (is_given a.id rows)) ≡ false = not_any p (λ b. b.required && not (is_given b.id rows)) s.rules a found none in
      given_some (row_of_id a.id rows) (unset _ (subst (λ (t : Bool). (t && not (is_given a.id rows)) ≡ false) required mine))

  is_there : (p : Rule → Bool) → Alone s.rules a → find p s.rules ≡ Some a → is_wanted a ≡ true
      → is_some (row_of_id a.id (rows_after s.rules [] words)) ≡ true
  is_there p alone found stands = go a.required refl stands
    where
      go : (t : Bool) → a.required ≡ t → (t || not (length a.defaults == 0)) ≡ true
          → is_some (row_of_id a.id (rows_after s.rules [] words)) ≡ true
      go true is stands = required_there p found is
      go false is stands = all_come a s.rules (settled s.rules (walk s.rules [] nothing_held words).held).rows p alone found (unset_not _ stands)

the_row : (o : Option Row) → is_some o ≡ true → (r : Row) × (o ≡ Some r)
the_row None e = differ (sym e)
the_row (Some r) e = (r, refl)

-- a word that stands at its place: the argument, and the text, which its parser takes
pub record Stands (rules : List Rule) (id : Text) (rows : List Row) : Type 0 where
  pub rule : Rule
  pub is : arg_by_id rules id ≡ Some rule
  pub text : Text
  pub first : first_of id rows ≡ Some text
  pub read : one_of id rows ≡ Some (read_as (reading_by rule) text)
  pub passes : accepts rule.ignore_case (parser_of_value rule.parser) text ≡ true

row_stands : (rules : List Rule) (id : Text) (rows : List Row) (a : Rule) (r : Row) → arg_by_id rules id ≡ Some a
    → row_of_id id rows ≡ Some r → HasOne a r → Stands rules id rows
row_stands rules id rows a r is found one = record {
  rule = a;
  is = is;
  text = one.value;
  first = ap (option_and_then (λ r. slice_get r.values 0)) found ∙ ap (λ vs. slice_get vs 0) one.is;
  read =
      ap (option_and_then (λ r. option_map (read_as r.reading) (slice_get r.values 0))) found ∙ ap (λ vs. option_map (read_as r.reading) (slice_get vs 0)) one.is
      ∙ ap (λ how. Some (read_as how one.value)) one.read;
  passes = one.passes;
}

word_of_rule : (s : Shape) (id : Text) (words : List Text) (o : Option Rule) → s.args_override_self ≡ false → arg_by_id s.rules id ≡ o
    → (option_map_or is_word o false && has_one s.rules id) ≡ true → level_fault s [] nothing_held words false [] ≡ []
    → Stands s.rules id (rows_after s.rules [] words)
word_of_rule s id words None once is so fine = differ (sym so)
word_of_rule s id words (Some a) once is so fine =
    let (is_so, single) = both (is_word a) (has_one s.rules id) so in
    let (takes, wanted) = both (takes_word a) _ is_so in
    let own = found_id id s.rules a is in
    let alone = alone_by id s.rules a is single in
    let (r, found) = the_row _ (is_there s a words fine (λ b. bytes_eq b.id id) alone is wanted) in
    let one = taken_rows s a words once alone (takes_one a takes) fine r found in
    row_stands s.rules id (rows_after s.rules [] words) a r is (subst (λ t. row_of_id t (rows_after s.rules [] words) ≡ Some r) own found) one

-- where no fault is found in the words of a command that has no subcommand, such a word of it stands at its place
pub word_stands : (s : Shape) (id : Text) (words : List Text) → s.args_override_self ≡ false → has_word s.rules id ≡ true
    → level_fault s [] nothing_held words false [] ≡ []
    → Stands s.rules id (rows_after s.rules [] words)
word_stands s id words once so fine = word_of_rule s id words (arg_by_id s.rules id) once refl so fine
