-- What `clap` has of an argument that takes one value, where it finds no fault in the words.
use Rattle.std.proofs.Common.{◌≡◌, ◌≢◌, ◌⊎◌, inl, inr, ℕ, zero, suc, ◌+◌, ◌≤◌, Bool, true, false, not, ◌&&◌, ◌||◌, cond, List, [], ◌∷◌, ◌++◌, length, Option, Some, None, is_some, refl, sym, ap, ◌∙◌, subst, arith}
use Rattle.std.specs.Prelude.{◌==◌, nat_lt, drop, encode_utf8, find, fold, min, slice_get, unwrap_or}
use Rattle.std.specs.Option.{option_map_or}
use Rattle.std.specs.Str.{bytes_eq, chars}
use Rattle.std.proofs.lemmas.Bool.Decides.{eqb_tells}
use Rattle.std.proofs.lemmas.Slice.Eq.{bytes_eq-Decides}
use Rattle.clap.specs.Facts.{parser_of_value, unwrap_or_range}
use Rattle.clap.specs.Faults.{check_fault, action_fault, bundle_fault, bundle_step_fault, default_fault, defaults_fault, flag_word_fault, flags_fault, given_default_fault, level_fault, long_fault, option_fault, other_fault, positional_fault, react_fault, set_fault, settle_fault, short_fault, step_fault, stray_fault, turn_fault, use_fault, values_fault, walk_fault, word_fault}
use Rattle.clap.specs.Kinds.{Kinds, or_else, range_kinds, request_kinds}
use Rattle.clap.specs.Lexer.{long_of, short_of}
use Rattle.clap.specs.Simple.{Shape}
use Rattle.clap.specs.ValueTests.{accepts}
use Rattle.clap.specs.Values.{refused_kind}
use Rattle.clap.specs.Walk.{Held, Names, Outcome, Row, Rule, Step, Text, Waiting, Walk, action_of, after_flag, after_step, arg_by_id, arg_by_index, arg_by_long, arg_by_short, at_row, attached_value, count_of, bundle, bundle_met, bundle_step, default_rows, flag_met, has_row, is_pending, long_met, long_or_other, more_values, most_values, new_count, nothing_held, option_met, option_word, plain_word, reacted, reading_by, rows_after, settled, settled_rows, short_met, short_or_plain, subcommand_or_other, takes_several, takes_values, to_positional, used, used_as, used_by_id, values_or_missing, walk, walk_from, walked, walked_from, with_count, with_default, with_values, without, word_met}
use Rattle.clap.specs.Walk.{done, waits, plain, refused, idle, option, positional, next, trailing, subcommand, value}
use Rattle.clap.specs.declared.builder.action.ArgAction.{ArgAction}
use Rattle.clap.specs.declared.builder.action.ArgAction.TheVariants.{Set, Append, SetTrue, SetFalse, Count, Help, HelpShort, HelpLong, Version}
use Rattle.clap.specs.declared.builder.value_parser.Reading.{Reading}
use Rattle.clap.specs.declared.error.kind.ErrorKind.TheVariants as kind
use Rattle.clap.specs.declared.error.kind.ErrorKind.{ErrorKind}
use Rattle.clap.specs.declared.parser.matches.ValueSource.{ValueSource}
use Rattle.clap.specs.declared.parser.matches.ValueSource.TheVariants.{DefaultValue, CommandLine}

-- no other argument of the list has its id
abbrev pub Alone : List Rule → Rule → Type 0
Alone [] a = Unit {0}
Alone (b ∷ rules) a = (bytes_eq b.id a.id ≡ true → b ≡ a) × Alone rules a

-- it takes one value, and has one default at most
pub record TakesOne (a : Rule) : Type 0 where
  pub action : action_of a ≡ Set
  pub least : (unwrap_or_range a.range).start_inclusive ≡ 1
  pub most : most_values a ≡ 1
  pub defaults : length a.defaults ≤ 1

-- the row has one value, which the argument's parser takes, and which is read by it
pub record HasOne (a : Rule) (r : Row) : Type 0 where
  pub value : Text
  pub is : r.values ≡ value ∷ []
  pub passes : accepts a.ignore_case (parser_of_value a.parser) value ≡ true
  pub read : r.reading ≡ reading_by a

abbrev pub row_of_id : Text → List Row → Option Row
row_of_id id rows = find (λ r. bytes_eq r.id id) rows

-- the argument's row, if there is one, has one value
abbrev pub AreOne : Rule → List Row → Type 0
AreOne a rows = (r : Row) → row_of_id a.id rows ≡ Some r → HasOne a r

-- ---- faults

pub not_none : {X : Type 0} (k : ErrorKind) (ks : Kinds) → k ∷ ks ≡ [] → X
not_none k ks e = absurd (omega (arith, ap length e))

pub first_none : (a b : Kinds) → or_else a b ≡ [] → a ≡ []
first_none [] b e = refl
first_none (k ∷ ks) b e = not_none k ks e

pub then_none : (a b : Kinds) → or_else a b ≡ [] → b ≡ []
then_none [] b e = e
then_none (k ∷ ks) b e = not_none k ks e

-- what has no fault, where a level of a parse has none
pub record IsFine (s : Shape) (names : Names) (words : List Text) (has_subcommand : Bool) (below : Kinds) : Type 0 where
  pub walked_on : walk_fault s names (walk_from nothing_held) words ≡ []
  pub entered_on : below ≡ []
  pub settled_on : settle_fault s.rules s.args_override_self (walk s.rules names nothing_held words).held ≡ []
  pub defaulted : defaults_fault (settled s.rules (walk s.rules names nothing_held words).held).rows s.rules ≡ []
  pub checked : check_fault s (rows_after s.rules names words) has_subcommand ≡ []

pub is_fine : (s : Shape) (names : Names) (words : List Text) (has_subcommand : Bool) (below : Kinds)
    → level_fault s names nothing_held words has_subcommand below ≡ []
    → IsFine s names words has_subcommand below
is_fine s names words has_subcommand below e =
    let end = (walk s.rules names nothing_held words).held in
    let settling = settle_fault s.rules s.args_override_self end in
    let defaulting = defaults_fault (settled s.rules end).rows s.rules in
    let e1 = then_none (walk_fault s names (walk_from nothing_held) words) _ e in
    let e2 = then_none below _ e1 in
    let e3 = then_none settling _ e2 in
    record {
      walked_on = first_none (walk_fault s names (walk_from nothing_held) words) _ e;
      entered_on = first_none below _ e1;
      settled_on = first_none settling _ e2;
      defaulted = first_none defaulting _ e3;
      checked = then_none defaulting _ e3;
    }

-- a test that gives a fault where it holds does not hold where there is none
passed : (t : Bool) (k : ErrorKind) (rest : Kinds) → cond t (k ∷ []) rest ≡ [] → t ≡ false
passed true k rest e = not_none k [] e
passed false k rest e = refl

accepted : (t : Bool) (k : ErrorKind) → cond t [] (k ∷ []) ≡ [] → t ≡ true
accepted true k e = refl
accepted false k e = not_none k [] e

pub differ : {X : Type 0} → true ≡ false → X
differ e = absurd (subst (λ (b : Bool). cond b (Unit {0}) ⊥) e tt)

pub either_none : (a b : Bool) → (a || b) ≡ false → (a ≡ false) × (b ≡ false)
either_none true b e = differ e
either_none false b e = (refl, e)

held_once : (t again : Bool) → again ≡ false → (t && not again) ≡ false → t ≡ false
held_once true again once e = differ (ap not (sym once) ∙ e)
held_once false again once e = refl

pub some_same : {X : Type 0} (x y : X) → Some x ≡ Some y → x ≡ y
some_same x y e = ap (λ o. unwrap_or o x) e

pub some_none : {X Y : Type 0} (x : X) → None ≡ Some x → Y
some_none x e = differ (ap is_some (sym e))

-- one value is wanted, and one is there
one_bool : (zero one : Bool) → cond zero (kind.InvalidValue ∷ []) (cond one [] (kind.WrongNumberOfValues ∷ [])) ≡ [] → one ≡ true
one_bool true one e = not_none kind.InvalidValue [] e
one_bool false true e = refl
one_bool false false e = not_none kind.WrongNumberOfValues [] e

one_count : (n : ℕ) → range_kinds 1 1 n ≡ [] → n ≡ 1
one_count n e = go (eqb_tells 1 n)
  where
    go : (((1 == n) ≡ true) × (1 ≡ n)) ⊎ (((1 == n) ≡ false) × (1 ≢ n)) → n ≡ 1
    go (inl same) = sym same.1
    go (inr other) = differ (sym (one_bool (nat_lt 0 1 && (n == 0)) (1 == n) e) ∙ other.0)

single : (values : List Text) → range_kinds 1 1 (length values) ≡ [] → (v : Text) × (values ≡ v ∷ [])
single [] e = absurd (omega (arith, one_count 0 e))
single (v ∷ []) e = (v, refl)
single (v ∷ w ∷ vs) e = absurd (omega (arith, one_count (length (v ∷ w ∷ vs)) e))

filled : {X : Type 0} (v : X) (vs : List X) → (length (v ∷ vs) == 0) ≡ false
filled v vs = go (eqb_tells (length (v ∷ vs)) 0)
  where
    go : (((length (v ∷ vs) == 0) ≡ true) × (length (v ∷ vs) ≡ 0)) ⊎ (((length (v ∷ vs) == 0) ≡ false) × (length (v ∷ vs) ≢ 0))
        → (length (v ∷ vs) == 0) ≡ false
    go (inl same) = absurd (omega (arith, same.1))
    go (inr other) = other.0

abbrev pub new_row : Text → Reading → ValueSource → List Text → Row
new_row id how s values = record { id = id; values = values; count = None; source = Some s; reading = how }

module _ (a : Rule) where
  -- ---- rows of other arguments

  at_other : (id : Text) (r : Row) (rs : List Row) → bytes_eq id a.id ≡ false → r.id ≡ id → row_of_id a.id (r ∷ rs) ≡ row_of_id a.id rs
  at_other id r rs other same = ap (λ b. cond b (Some r) (row_of_id a.id rs)) (ap (λ t. bytes_eq t a.id) same ∙ other)

  other_row : (id : Text) (change : Row → List Row) (missing rows : List Row) → bytes_eq id a.id ≡ false
      → ((r : Row) (rs : List Row) → r.id ≡ id → row_of_id a.id (change r ++ rs) ≡ row_of_id a.id rs) → row_of_id a.id missing ≡ None
      → row_of_id a.id (at_row id change missing rows) ≡ row_of_id a.id rows
  other_row id change missing [] other keeps none = none
  other_row id change missing (r ∷ rs) other keeps none = go (bytes_eq r.id id) refl (other_row id change missing rs other keeps none)
    where
      go : (t : Bool) → bytes_eq r.id id ≡ t → row_of_id a.id (at_row id change missing rs) ≡ row_of_id a.id rs
          → row_of_id a.id (cond t (change r ++ rs) (r ∷ at_row id change missing rs)) ≡ row_of_id a.id (r ∷ rs)
      go true e rest = let same : r.id ≡ id = (bytes_eq-Decides r.id id).0 e in keeps r rs same ∙ sym (at_other id r rs other same)
      go false e rest = ap (λ o. cond (bytes_eq r.id a.id) (Some r) o) rest

  without_other : (id : Text) (rows : List Row) → bytes_eq id a.id ≡ false → row_of_id a.id (without id rows) ≡ row_of_id a.id rows
  without_other id rows other = other_row id (λ _. []) [] rows other (λ r rs same. refl) refl

  pub values_other : (id : Text) (how : Reading) (s : ValueSource) (values : List Text) (rows : List Row) → bytes_eq id a.id ≡ false
      → row_of_id a.id (with_values id how s values rows) ≡ row_of_id a.id rows
  values_other id how s values rows other =
      other_row id (more_values s values) (new_row id how s values ∷ []) rows other (λ r rs same. at_other id _ rs other same)
      (at_other id (new_row id how s values) [] other refl)

  count_other : (id : Text) (how : Reading) (s : ValueSource) (n : ℕ) (rows : List Row) → bytes_eq id a.id ≡ false
      → row_of_id a.id (with_count id how s n rows) ≡ row_of_id a.id rows
  count_other id how s n rows other = other_row id (new_count s n) _ rows other (λ r rs same. at_other id _ rs other same) (at_other id _ [] other refl)

  as_other : (x : ArgAction) (id : Text) (how : Reading) (values : List Text) (rows : List Row) → bytes_eq id a.id ≡ false
      → row_of_id a.id (used_as x id how values rows) ≡ row_of_id a.id rows
  as_other Set id how values rows other = values_other id how CommandLine values (without id rows) other ∙ without_other id rows other
  as_other SetTrue id how values rows other = values_other id how CommandLine values (without id rows) other ∙ without_other id rows other
  as_other SetFalse id how values rows other = values_other id how CommandLine values (without id rows) other ∙ without_other id rows other
  as_other Append id how values rows other = values_other id how CommandLine values rows other
  as_other Count id how [] rows other = count_other id how CommandLine (min (count_of id rows + 1) 255) (without id rows) other ∙ without_other id rows other
  as_other Count id how (v ∷ vs) rows other = values_other id how CommandLine (v ∷ vs) (without id rows) other ∙ without_other id rows other
  as_other Help id how values rows other = refl
  as_other HelpShort id how values rows other = refl
  as_other HelpLong id how values rows other = refl
  as_other Version id how values rows other = refl

  -- ---- its own row

  own_id : bytes_eq a.id a.id ≡ true
  own_id = (bytes_eq-Decides a.id a.id).1 refl

  pub fresh_default : (change : Row → List Row) (new : Row) (rows : List Row) → new.id ≡ a.id → has_row a.id rows ≡ false
      → row_of_id a.id (at_row a.id change (new ∷ []) rows) ≡ Some new
  fresh_default change new [] own none = ap (λ b. cond b (Some new) None) (ap (λ t. bytes_eq t a.id) own ∙ own_id)
  fresh_default change new (r ∷ rs) own none =
      let (here, rest) = either_none (bytes_eq r.id a.id) (has_row a.id rs) none in
      ap (λ b. row_of_id a.id (cond b (change r ++ rs) (r ∷ at_row a.id change (new ∷ []) rs))) here
      ∙ ap (λ b. cond b (Some r) (row_of_id a.id (at_row a.id change (new ∷ []) rs))) here ∙ fresh_default change new rs own rest

  none_without : (rows : List Row) → has_row a.id rows ≡ false → without a.id rows ≡ rows
  none_without [] none = refl
  none_without (r ∷ rs) none =
      let (here, rest) = either_none (bytes_eq r.id a.id) (has_row a.id rs) none in
      ap (λ b. cond b rs (r ∷ without a.id rs)) here ∙ ap (λ t. r ∷ t) (none_without rs rest)

  only : (new : Row) (rows : List Row) → row_of_id a.id rows ≡ Some new → HasOne a new → AreOne a rows
  only new rows is one = λ r found. subst (HasOne a) (some_same new r (sym is ∙ found)) one

  own_row : (v : Text) (s : ValueSource) → accepts a.ignore_case (parser_of_value a.parser) v ≡ true
      → HasOne a (new_row a.id (reading_by a) s (v ∷ []))
  own_row v s passes = record { value = v; is = refl; passes = passes; read = refl }

  value_passes : (v : Text) → values_fault a (v ∷ []) ≡ [] → accepts a.ignore_case (parser_of_value a.parser) v ≡ true
  value_passes v e = accepted _ (refused_kind (parser_of_value a.parser)) (first_none _ _ e)

  module _ (again : Bool) (once : again ≡ false) (one : TakesOne a) where
    own_set : (v : Text) (rows : List Row) → set_fault again a (v ∷ []) rows ≡ [] → AreOne a (used_as Set a.id (reading_by a) (v ∷ []) rows)
    own_set v rows e =
        let first : has_row a.id rows ≡ false = held_once (has_row a.id rows) again once (passed _ kind.ArgumentConflict [] (first_none _ _ e)) in
        let new = new_row a.id (reading_by a) CommandLine (v ∷ []) in
        only new _ (ap (λ t. row_of_id a.id (at_row a.id (more_values CommandLine (v ∷ [])) (new ∷ []) t)) (none_without rows first)
        ∙ fresh_default (more_values CommandLine (v ∷ [])) new rows refl first) (own_row v CommandLine (value_passes v (then_none _ _ e)))

    used_own : (values : List Text) (rows : List Row) → use_fault again a values rows ≡ [] → AreOne a (used a values rows)
    used_own values rows e =
        let ranged : range_kinds 1 1 (length values) ≡ [] =
        subst (λ n. range_kinds 1 n (length values) ≡ []) one.most (subst (λ n. range_kinds n (most_values a) (length values) ≡ []) one.least (first_none _ _ e)) in
        let (v, is) = single values ranged in
        let acted : set_fault again a (v ∷ []) rows ≡ [] =
        subst (λ (x : ArgAction). action_fault x again a (v ∷ []) rows ≡ []) one.action
        (subst (λ (vs : List Text). action_fault (action_of a) again a (values_or_missing a vs) rows ≡ []) is (then_none _ _ e)) in
        subst (λ (vs : List Text). AreOne a (used a vs rows)) (sym is)
        (subst (λ (x : ArgAction). AreOne a (used_as x a.id (reading_by a) (v ∷ []) rows)) (sym one.action) (own_set v rows acted))

    use_keeps : (b : Rule) (values : List Text) (rows : List Row) → (bytes_eq b.id a.id ≡ true → b ≡ a) → use_fault again b values rows ≡ []
        → AreOne a rows
        → AreOne a (used b values rows)
    use_keeps b values rows alone e ok = go (bytes_eq b.id a.id) refl
      where
        go : (t : Bool) → bytes_eq b.id a.id ≡ t → AreOne a (used b values rows)
        go true is =
            let own = used_own values rows (subst (λ (k : Rule). use_fault again k values rows ≡ []) (alone is) e) in
            subst (λ (k : Rule). AreOne a (used k values rows)) (sym (alone is)) own
        go false is = λ r found. ok r (sym (as_other (action_of b) b.id (reading_by b) (values_or_missing b values) rows is) ∙ found)

    default_keeps : (b : Rule) (rows : List Row) → (bytes_eq b.id a.id ≡ true → b ≡ a) → default_fault rows b ≡ [] → AreOne a rows
        → AreOne a (with_default rows b)
    default_keeps b rows alone e ok = go (has_row b.id rows) refl e
      where
        own : (v : Text) (vs : List Text) → b ≡ a → b.defaults ≡ v ∷ vs → has_row b.id rows ≡ false → values_fault b (v ∷ vs) ≡ []
            → AreOne a (with_values b.id (reading_by b) DefaultValue (v ∷ vs) rows)
        own v [] is has free passes =
            let new = new_row a.id (reading_by a) DefaultValue (v ∷ []) in
            subst (λ (k : Rule). AreOne a (with_values k.id (reading_by k) DefaultValue (v ∷ []) rows)) (sym is)
            (only new _ (fresh_default (more_values DefaultValue (v ∷ [])) new rows refl (subst (λ (k : Rule). has_row k.id rows ≡ false) is free))
            (own_row v DefaultValue (value_passes v (subst (λ (k : Rule). values_fault k (v ∷ []) ≡ []) is passes))))
        own v (w ∷ vs) is has free passes =
            absurd (omega (arith, one.defaults, ap length (subst (λ (k : Rule). k.defaults ≡ v ∷ w ∷ vs) is has)))

        given : (defaults : List Text) → b.defaults ≡ defaults → has_row b.id rows ≡ false
            → cond (length defaults == 0) [] (given_default_fault b defaults) ≡ []
            → AreOne a (default_rows b.id (reading_by b) defaults rows)
        given [] has free passes = ok
        given (v ∷ vs) has free passes = which (bytes_eq b.id a.id) refl
          where
            passed_all : values_fault b (v ∷ vs) ≡ []
            passed_all = then_none (request_kinds (action_of b)) (values_fault b (v ∷ vs))
                (subst (λ (t : Bool). cond t [] (given_default_fault b (v ∷ vs)) ≡ []) (filled v vs) passes)

            which : (t : Bool) → bytes_eq b.id a.id ≡ t → AreOne a (with_values b.id (reading_by b) DefaultValue (v ∷ vs) rows)
            which true is = own v vs (alone is) has free passed_all
            which false is = λ r found. ok r (sym (values_other b.id (reading_by b) DefaultValue (v ∷ vs) rows is) ∙ found)

        go : (t : Bool) → has_row b.id rows ≡ t → cond (t || (length b.defaults == 0)) [] (given_default_fault b b.defaults) ≡ []
            → AreOne a (cond t rows (default_rows b.id (reading_by b) b.defaults rows))
        go true is e = ok
        go false is e = given b.defaults refl is e

    defaults_keep : (rules : List Rule) (rows : List Row) → Alone rules a → defaults_fault rows rules ≡ [] → AreOne a rows
        → AreOne a (fold with_default rows rules)
    unfolding defaults_fault
    defaults_keep [] rows alone e ok = ok
    defaults_keep (b ∷ rules) rows alone e ok = defaults_keep rules (with_default rows b) alone.1 (then_none _ _ e) (default_keeps b rows alone.0 (first_none _ _ e) ok)

found_alone : (a : Rule) (p : Rule → Bool) (rules : List Rule) (b : Rule) → Alone rules a → find p rules ≡ Some b
    → bytes_eq b.id a.id ≡ true → b ≡ a
found_alone a p [] b alone e = some_none b e
found_alone a p (x ∷ rules) b alone e = go (p x) e (found_alone a p rules b alone.1)
  where
    go : (t : Bool) → cond t (Some x) (find p rules) ≡ Some b → (find p rules ≡ Some b → bytes_eq b.id a.id ≡ true → b ≡ a)
        → bytes_eq b.id a.id ≡ true → b ≡ a
    go true e rest = λ own.
        let same : x ≡ b = some_same x b e in
        sym same ∙ alone.0 (ap (λ (k : Rule). bytes_eq k.id a.id) same ∙ own)
    go false e rest = rest e

-- ---- the walk over the words of a command that has no subcommand

module _ (s : Shape) (a : Rule) (once : s.args_override_self ≡ false) (alone : Alone s.rules a) (one : TakesOne a) where
  -- the argument that was found, if it has this id, is this one
  abbrev IsAlone : Option Rule → Type 0
  IsAlone o = (b : Rule) → o ≡ Some b → bytes_eq b.id a.id ≡ true → b ≡ a

  alone_in : (p : Rule → Bool) → IsAlone (find p s.rules)
  alone_in p b e = found_alone a p s.rules b alone e

  settle_rows : (p : Option (Text × List Text)) (rows : List Row)
      → option_map_or (λ q. option_map_or (λ b. use_fault s.args_override_self b q.1 rows) (arg_by_id s.rules q.0) []) p [] ≡ []
      → AreOne a rows → AreOne a (settled_rows s.rules p rows)
  settle_rows None rows e ok = ok
  settle_rows (Some q) rows e ok = go (arg_by_id s.rules q.0) (alone_in _) e
    where
      go : (o : Option Rule) → IsAlone o → option_map_or (λ b. use_fault s.args_override_self b q.1 rows) o [] ≡ []
          → AreOne a (used_by_id o q.1 rows)
      go None is e = ok
      go (Some b) is e = use_keeps a s.args_override_self once one b q.1 rows (is b refl) e ok

  settle_keeps : (h : Held) → settle_fault s.rules s.args_override_self h ≡ [] → AreOne a h.rows → AreOne a (settled s.rules h).rows
  settle_keeps h e ok = settle_rows h.pending h.rows e ok

  react_keeps : (b : Rule) → (bytes_eq b.id a.id ≡ true → b ≡ a) → (values : List Text) (h : Held)
      → react_fault s.rules s.args_override_self b values h ≡ [] → AreOne a h.rows
      → AreOne a (reacted s.rules b values h).rows
  react_keeps b same values h e ok =
      use_keeps a s.args_override_self once one b values (settled s.rules h).rows same (then_none _ _ e) (settle_keeps h (first_none _ _ e) ok)

  option_keeps : (b : Rule) → (bytes_eq b.id a.id ≡ true → b ≡ a) → (v : Option Text) (h : Held)
      → option_fault s.rules s.args_override_self b v h ≡ [] → AreOne a h.rows
      → AreOne a (option_met s.rules b v h).0.rows
  option_keeps b same (Some v) h e ok = react_keeps b same (v ∷ []) h e ok
  option_keeps b same None h e ok = settle_keeps h e ok

  flag_keeps : (b : Rule) → (bytes_eq b.id a.id ≡ true → b ≡ a) → (v : Option Text) (h : Held)
      → cond (is_some v) (kind.TooManyValues ∷ []) (react_fault s.rules s.args_override_self b [] h) ≡ [] → AreOne a h.rows
      → AreOne a (flag_met s.rules b v h).0.rows
  flag_keeps b same (Some v) h e ok = not_none kind.TooManyValues [] e
  flag_keeps b same None h e ok = react_keeps b same [] h e ok

  long_keeps : (o : Option Rule) → IsAlone o → (v : Option Text) (h : Held) → long_fault s.rules s.args_override_self o v h ≡ []
      → AreOne a h.rows → AreOne a (long_met s.rules o v h).0.rows
  long_keeps None same v h e ok = ok
  long_keeps (Some b) same v h e ok = go (takes_values b) e
    where
      go : (t : Bool)
          → cond t (option_fault s.rules s.args_override_self b v h) (cond (is_some v) (kind.TooManyValues ∷ []) (react_fault s.rules s.args_override_self b [] h)) ≡ []
          → AreOne a (cond t (option_met s.rules b v h) (flag_met s.rules b v h)).0.rows
      go true e = option_keeps b (same b refl) v h e ok
      go false e = flag_keeps b (same b refl) v h e ok

  -- a bundle of flags, where the flags behind one keep it
  abbrev Keeps : (Text → ℕ → Held → Kinds) → (Text → ℕ → Outcome → Held → Held × Outcome) → Type 0
  Keeps fault met = (flags : Text) (skip : ℕ) (so_far : Outcome) (h : Held) → fault flags skip h ≡ [] → AreOne a h.rows → AreOne a (met flags skip so_far h).0.rows

  short_keeps : (fault : Text → ℕ → Held → Kinds) (met : Text → ℕ → Outcome → Held → Held × Outcome) → Keeps fault met → (o : Option Rule)
      → IsAlone o → (rest : Text) (h : Held)
      → short_fault s.rules s.args_override_self o rest h (fault rest 0) ≡ [] → AreOne a h.rows
      → AreOne a (short_met s.rules o rest h (met rest 0 done)).0.rows
  short_keeps fault met keeps None same rest h e ok = ok
  short_keeps fault met keeps (Some b) same rest h e ok = go (takes_values b) e
    where
      go : (t : Bool) → cond t (option_fault s.rules s.args_override_self b (attached_value rest) h)
          (or_else (react_fault s.rules s.args_override_self b [] h) (fault rest 0 (reacted s.rules b [] h))) ≡ []
          → AreOne a (cond t (option_met s.rules b (attached_value rest) h) (met rest 0 done (reacted s.rules b [] h))).0.rows
      go true e = option_keeps b (same b refl) (attached_value rest) h e ok
      go false e = keeps rest 0 done (reacted s.rules b [] h) (then_none _ _ e) (react_keeps b (same b refl) [] h (first_none _ _ e) ok)

  flag_step : (fault : Text → ℕ → Held → Kinds) (met : Text → ℕ → Outcome → Held → Held × Outcome) → Keeps fault met
      → (x : Option ℕ) (flags : Text) (skip : ℕ) (so_far : Outcome) (h : Held)
      → bundle_step_fault s.rules s.args_override_self x flags skip h fault ≡ [] → AreOne a h.rows
      → AreOne a (bundle_step s.rules x flags skip so_far h met).0.rows
  flag_step fault met keeps None flags skip so_far h e ok = ok
  flag_step fault met keeps (Some x) flags zero so_far h e ok =
      short_keeps fault met keeps (arg_by_short s.rules x) (alone_in _) (drop (length (encode_utf8 x)) flags) h e ok
  flag_step fault met keeps (Some x) flags (suc skip) so_far h e ok = keeps (drop (length (encode_utf8 x)) flags) skip so_far h e ok

  bundle_keeps : (k : ℕ) → Keeps (flags_fault s.rules s.args_override_self k) (bundle_met s.rules k)
  unfolding flags_fault bundle_met
  bundle_keeps zero = λ flags skip so_far h e ok. ok
  bundle_keeps (suc k) = λ flags skip so_far h e ok.
      flag_step (flags_fault s.rules s.args_override_self k) (bundle_met s.rules k) (bundle_keeps k) (slice_get (chars flags) 0) flags skip so_far h e ok

  option_rows : (o : Option Rule) (id word : Text) (h : Held) → (option_word o id word h).0.rows ≡ h.rows
  option_rows None id word h = refl
  option_rows (Some b) id word h = refl

  plain_rows : (waiting : Waiting) (word : Text) (h : Held) → (plain_word s.rules waiting word h).0.rows ≡ h.rows
  plain_rows idle word h = refl
  plain_rows (option id) word h = option_rows (arg_by_id s.rules id) id word h
  plain_rows positional word h = refl

  after_rows : (waiting : Waiting) (word : Text) (h : Held) (o : Outcome) → (after_flag s.rules waiting word h o).0.rows ≡ h.rows
  after_rows waiting word h done = refl
  after_rows waiting word h (waits id) = refl
  after_rows waiting word h plain = plain_rows waiting word h
  after_rows waiting word h refused = plain_rows waiting word h

  short_word_keeps : (waiting : Waiting) (word : Text) (o : Option Text) (h : Held)
      → option_map_or (λ flags. bundle_fault s.rules s.args_override_self flags h) o [] ≡ []
      → AreOne a h.rows → AreOne a (short_or_plain s.rules waiting word o h).0.rows
  short_word_keeps waiting word (Some flags) h e ok =
      subst (AreOne a) (sym (after_rows waiting word (bundle s.rules flags h).0 (bundle s.rules flags h).1))
      (bundle_keeps (length flags) flags h.skip plain (record h { skip = 0 }) e ok)
  short_word_keeps waiting word None h e ok = subst (AreOne a) (sym (plain_rows waiting word h)) ok

  flag_word_keeps : (waiting : Waiting) (word : Text) (o : Option (Text × Option Text)) (h : Held)
      → flag_word_fault s.rules s.args_override_self o word h ≡ []
      → AreOne a h.rows → AreOne a (long_or_other s.rules waiting word o h).0.rows
  flag_word_keeps waiting word (Some p) h e ok =
      let met = long_met s.rules (arg_by_long s.rules p.0) p.1 h in
      subst (AreOne a) (sym (after_rows waiting word met.0 met.1)) (long_keeps (arg_by_long s.rules p.0) (alone_in _) p.1 h e ok)
  flag_word_keeps waiting word None h e ok = short_word_keeps waiting word (short_of word) h e ok

  other_keeps : (waiting : Waiting) (place : ℕ) (word : Text) (h : Held) → other_fault s None word h ≡ [] → AreOne a h.rows
      → AreOne a (subcommand_or_other s.rules None waiting place word h).0.rows
  other_keeps waiting place word h e ok = go (bytes_eq word (45 ∷ 45 ∷ [])) e
    where
      go : (t : Bool) → cond t [] (flag_word_fault s.rules s.args_override_self (long_of word) word h) ≡ []
          → AreOne a (cond t (h, trailing place) (long_or_other s.rules waiting word (long_of word) h)).0.rows
      go true e = ok
      go false e = flag_word_keeps waiting word (long_of word) h e ok

  word_keeps : (is_trailing : Bool) (waiting : Waiting) (place : ℕ) (word : Text) (h : Held)
      → word_fault s [] is_trailing waiting word h ≡ [] → AreOne a h.rows
      → AreOne a (word_met s.rules [] is_trailing waiting place word h).0.rows
  word_keeps true waiting place word h e ok = ok
  word_keeps false idle place word h e ok = other_keeps idle place word h e ok
  word_keeps false (option id) place word h e ok = other_keeps (option id) place word h e ok
  word_keeps false positional place word h e ok = other_keeps positional place word h e ok

  place_keeps : (o : Option Rule) (word : Text) (w : Walk) (h : Held)
      → option_map_or (λ b. positional_fault s.rules s.args_override_self b h) o (stray_fault s) ≡ [] → AreOne a h.rows
      → AreOne a (to_positional s.rules o word w h).held.rows
  place_keeps None word w h e ok = ok
  place_keeps (Some b) word w h e ok = go (is_pending b h.pending && takes_several b) e
    where
      go : (t : Bool) → cond t [] (settle_fault s.rules s.args_override_self h) ≡ [] → AreOne a (cond t h (settled s.rules h)).rows
      go true e = ok
      go false e = settle_keeps h e ok

  step_keeps : (w : Walk) (word : Text) (h : Held) (step : Step) → step_fault s w.position h step ≡ [] → AreOne a h.rows
      → AreOne a (after_step s.rules word w h step).held.rows
  step_keeps w word h (next waiting) e ok = ok
  step_keeps w word h (trailing place) e ok = ok
  step_keeps w word h (subcommand name) e ok = ok
  step_keeps w word h value e ok = place_keeps (arg_by_index s.rules w.position) word w h e ok

  turn_keeps : (w : Walk) (word : Text) → turn_fault s [] w word ≡ [] → AreOne a w.held.rows → AreOne a (walked s.rules [] w word).held.rows
  unfolding walked
  turn_keeps w word e ok = go w.stopped e
    where
      met : Held × Step
      met = word_met s.rules [] w.is_trailing w.waiting w.position word w.held

      go : (o : Option (Text × List Text))
          → cond (is_some o) [] (or_else (word_fault s [] w.is_trailing w.waiting word w.held) (step_fault s w.position met.0 met.1)) ≡ []
          → AreOne a (walked_from s.rules [] o w word).held.rows
      go (Some p) e = ok
      go None e = step_keeps w word met.0 met.1 (then_none _ _ e) (word_keeps w.is_trailing w.waiting w.position word w.held (first_none _ _ e) ok)

  walk_keeps : (words : List Text) (w : Walk) → walk_fault s [] w words ≡ [] → AreOne a w.held.rows
      → AreOne a (fold (walked s.rules []) w words).held.rows
  unfolding walk_fault
  walk_keeps [] w e ok = ok
  walk_keeps (word ∷ rest) w e ok = walk_keeps rest (walked s.rules [] w word) (then_none _ _ e) (turn_keeps w word (first_none _ _ e) ok)

  level_keeps : (words : List Text) → level_fault s [] nothing_held words false [] ≡ [] → AreOne a (rows_after s.rules [] words)
  level_keeps words e =
      let end = (walk s.rules [] nothing_held words).held in
      let fine = is_fine s [] words false [] e in
      let walked = walk_keeps words (walk_from nothing_held) fine.walked_on (λ r found. some_none r found) in
      defaults_keep a s.args_override_self once one s.rules (settled s.rules end).rows alone fine.defaulted (settle_keeps end fine.settled_on walked)

pub taken_rows : (s : Shape) (a : Rule) (words : List Text) → s.args_override_self ≡ false → Alone s.rules a → TakesOne a
    → level_fault s [] nothing_held words false [] ≡ [] → AreOne a (rows_after s.rules [] words)
taken_rows s a words once alone one e = level_keeps s a once alone one words e
