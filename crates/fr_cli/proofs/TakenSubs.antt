-- Which subcommand's words they are, where `clap` finds no fault in the words: one of the command's, and not `help`.
use Rattle.std.proofs.Common.{◌≡◌, Bool, true, false, not, ◌&&◌, cond, List, [], ◌∷◌, Option, Some, None, is_some, refl, sym, subst}
use Rattle.std.specs.Prelude.{codes, find, fold, option_map}
use Rattle.std.specs.List.{list_any}
use Rattle.std.specs.Option.{option_map_or}
use Rattle.std.specs.Str.{bytes_eq}
use Rattle.clap.specs.Facts.{explicit_source}
use Rattle.clap.specs.Takes.{is_given}
use Rattle.clap.specs.Faults.{check_fault, entered_fault, built_fault, level_fault, other_fault, step_fault, turn_fault, walk_fault, word_fault}
use Rattle.clap.specs.Kinds.{Kinds, check_kinds, or_else}
use Rattle.clap.specs.Lexer.{long_of, short_of}
use Rattle.clap.specs.Simple.{App, Shape, entered, label_of, names_of, rows_at}
use Rattle.clap.specs.Walk.{Held, Names, Outcome, Row, Rule, Step, Text, Waiting, Walk, after_flag, after_step, answers_to, arg_by_index, arg_by_long, bundle, long_met, long_or_other, nothing_held, plain_word, rows_after, stop_after, short_or_plain, subcommand_met, subcommand_or_other, to_positional, walk_from, walked, walked_from, word_met}
use Rattle.clap.specs.Walk.{done, waits, plain, refused, idle, option, positional, next, trailing, subcommand, value}
use Rattle.clap.specs.declared.error.kind.ErrorKind.TheVariants as kind
use Rattle.fr_cli.proofs.TakenRows.{differ, first_none, is_fine, not_none, then_none}

-- the walk did not stop at `help`
abbrev pub NoHelp : Option (Text × List Text) → Type 0
NoHelp None = Unit {0}
NoHelp (Some p) = bytes_eq p.0 (codes "help") ≡ false

-- the step enters no subcommand
abbrev IsWithin : Step → Type 0
IsWithin (subcommand name) = ⊥
IsWithin _ = Unit {0}

no_call : (here off : Bool) (rest : Kinds) → off ≡ false → cond (here && not off) (kind.DisplayHelp ∷ kind.InvalidSubcommand ∷ []) rest ≡ []
    → here ≡ false
no_call true true rest on e = differ on
no_call true false rest on e = not_none kind.DisplayHelp _ e
no_call false off rest on e = refl

module _ (s : Shape) (names : Names) (helps : s.disable_help_subcommand ≡ false) where
  plain_within : (waiting : Waiting) (word : Text) (h : Held) → IsWithin (plain_word s.rules waiting word h).1
  plain_within idle word h = tt
  plain_within (option id) word h = tt
  plain_within positional word h = tt

  after_within : (waiting : Waiting) (word : Text) (h : Held) (o : Outcome) → IsWithin (after_flag s.rules waiting word h o).1
  after_within waiting word h done = tt
  after_within waiting word h (waits id) = tt
  after_within waiting word h plain = plain_within waiting word h
  after_within waiting word h refused = plain_within waiting word h

  short_within : (waiting : Waiting) (word : Text) (o : Option Text) (h : Held) → IsWithin (short_or_plain s.rules waiting word o h).1
  short_within waiting word (Some flags) h = after_within waiting word (bundle s.rules flags h).0 (bundle s.rules flags h).1
  short_within waiting word None h = plain_within waiting word h

  long_within : (waiting : Waiting) (word : Text) (o : Option (Text × Option Text)) (h : Held)
      → IsWithin (long_or_other s.rules waiting word o h).1
  long_within waiting word (Some p) h =
      let met = long_met s.rules (arg_by_long s.rules p.0) p.1 h in
      after_within waiting word met.0 met.1
  long_within waiting word None h = short_within waiting word (short_of word) h

  step_stops : (w : Walk) (word : Text) (h : Held) (step : Step) → IsWithin step → NoHelp w.stopped
      → NoHelp (after_step s.rules word w h step).stopped
  step_stops w word h (next waiting) within ok = ok
  step_stops w word h (trailing place) within ok = ok
  step_stops w word h (subcommand name) within ok = absurd within
  step_stops w word h value within ok = go (arg_by_index s.rules w.position)
    where
      go : (o : Option Rule) → NoHelp (to_positional s.rules o word w h).stopped
      go None = ok
      go (Some b) = tt

  -- the walk after a step that was met
  abbrev goes : Walk → Text → Held × Step → Walk
  goes w word met = after_step s.rules word w met.0 met.1

  other_stops : (o : Option Text) (w : Walk) (word : Text) → other_fault s o word w.held ≡ [] → NoHelp w.stopped
      → NoHelp (goes w word (subcommand_or_other s.rules o w.waiting w.position word w.held)).stopped
  other_stops (Some name) w word e ok = no_call (bytes_eq name (codes "help")) s.disable_help_subcommand [] helps e
  other_stops None w word e ok = go (bytes_eq word (45 ∷ 45 ∷ []))
    where
      met : Held × Step
      met = long_or_other s.rules w.waiting word (long_of word) w.held

      go : (t : Bool) → NoHelp (goes w word (cond t (w.held, trailing w.position) met)).stopped
      go true = ok
      go false = step_stops w word met.0 met.1 (long_within w.waiting word (long_of word) w.held) ok

  word_stops : (is_trailing : Bool) (w : Walk) (word : Text) → word_fault s names is_trailing w.waiting word w.held ≡ [] → NoHelp w.stopped
      → NoHelp (goes w word (word_met s.rules names is_trailing w.waiting w.position word w.held)).stopped
  word_stops true w word e ok = step_stops w word w.held value tt ok
  word_stops false w word e ok = other_stops (subcommand_met names w.waiting word) w word e ok

  turn_stops : (w : Walk) (word : Text) → turn_fault s names w word ≡ [] → NoHelp w.stopped → NoHelp (walked s.rules names w word).stopped
  unfolding walked
  turn_stops w word e ok = go w.stopped e ok
    where
      met : Held × Step
      met = word_met s.rules names w.is_trailing w.waiting w.position word w.held

      go : (o : Option (Text × List Text))
          → cond (is_some o) [] (or_else (word_fault s names w.is_trailing w.waiting word w.held) (step_fault s w.position met.0 met.1)) ≡ [] → NoHelp o
          → NoHelp (walked_from s.rules names o w word).stopped
      go (Some p) e fine = fine
      go None e fine = word_stops w.is_trailing w word (first_none _ _ e) ok

  walk_stops : (words : List Text) (w : Walk) → walk_fault s names w words ≡ [] → NoHelp w.stopped
      → NoHelp (fold (walked s.rules names) w words).stopped
  unfolding walk_fault
  walk_stops [] w e ok = ok
  walk_stops (word ∷ rest) w e ok = walk_stops rest (walked s.rules names w word) (then_none _ _ e) (turn_stops w word (first_none _ _ e) ok)

-- what the words name: a subcommand of a built command, whose own words have no fault
pub record IsTaken (a : App) (words : List Text) : Type 0 where
  pub word : Text
  pub sub : Shape
  pub rest : List Text
  pub found : find (λ s. answers_to word (label_of s)) a.subs ≡ Some sub
  pub other : bytes_eq word (codes "help") ≡ false
  pub fine : level_fault sub [] nothing_held rest false [] ≡ []
  pub is : entered a (stop_after a.top.rules (names_of a) words) ≡ Some (rows_at sub rest)

not_without : (help third : Bool) → check_kinds help true third ≡ [] → false ≡ true
not_without true third e = not_none kind.DisplayHelpOnMissingArgumentOrSubcommand [] e
not_without false third e = not_none kind.MissingSubcommand [] e

-- a subcommand that is wanted is there
is_entered : (s : Shape) (rows : List Row) (has : Bool) → s.subcommand_required ≡ true → check_fault s rows has ≡ [] → has ≡ true
is_entered s rows true needs e = refl
is_entered s rows false needs e =
    let help = s.arg_required_else_help && not (list_any (λ r. explicit_source r.source) rows) in
    let third = not (s.subcommand_negates_reqs && false) && list_any (λ a. a.required && not (is_given a.id rows)) s.rules in
    not_without help third (subst (λ (t : Bool). check_kinds help t third ≡ []) needs e)

module _ (a : App) (words : List Text) where
  abbrev stop : Option (Text × List Text)
  stop = stop_after a.top.rules (names_of a) words

  sub_of : (p : Text × List Text) (o : Option Shape) → find (λ s. answers_to p.0 (label_of s)) a.subs ≡ o → NoHelp (Some p)
      → option_map_or (λ s. level_fault s [] nothing_held p.1 false []) o [] ≡ [] → is_some (option_map (λ s. rows_at s p.1) o) ≡ true
      → entered a stop ≡ option_map (λ s. rows_at s p.1) o → IsTaken a words
  sub_of p None is other fine some named = differ (sym some)
  sub_of p (Some s) is other fine some named = record { word = p.0; sub = s; rest = p.1; found = is; other = other; fine = fine; is = named }

  stopped_at : (o : Option (Text × List Text)) → NoHelp o → entered_fault a o ≡ [] → is_some (entered a o) ≡ true → entered a stop ≡ entered a o
      → IsTaken a words
  stopped_at None other fine some named = differ (sym some)
  stopped_at (Some p) other fine some named = sub_of p (find (λ s. answers_to p.0 (label_of s)) a.subs) refl other fine some named

  pub taken_sub : a.top.subcommand_required ≡ true → a.top.disable_help_subcommand ≡ false → built_fault a nothing_held words ≡ [] → IsTaken a words
  taken_sub needs helps e =
      let fine = is_fine a.top (names_of a) words (is_some (entered a stop)) (entered_fault a stop) e in
      let no_help = walk_stops a.top (names_of a) helps words (walk_from nothing_held) fine.walked_on tt in
      let found = is_entered a.top (rows_after a.top.rules (names_of a) words) (is_some (entered a stop)) needs fine.checked in
      stopped_at stop no_help fine.entered_on found refl
