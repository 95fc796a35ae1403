use Rattle.std.proofs.Common.{rules, arith, inl, inr, ◌≡◌, ◌≤◌, ◌<◌, ◌⊎◌, Some, subst, Option, ℕ}
use Rattle.std.specs.Str.Parse.{ExplainsUnsignedError, HasUnsignedDigitsIfOk, ParsesUnsigned}
use Rattle.clap.specs.Walk.{one_of, rows_of}
use Rattle.clap.specs.Words.{found_of}
use Rattle.fr_cli.proofs.NumberLaws.{IsReadOf, no_number, number_is, one_read}
use Rattle.fr_cli.proofs.words.number.Goals as goal

pub returns-in_err-read : goal.returns-in_err-read
returns-in_err-read c =
    let read = one_read (λ bs r. ParsesUnsigned 32 10 bs r × ExplainsUnsignedError 10 bs r × HasUnsignedDigitsIfOk bs r) (λ t r gives. gives.0)
    (found_of c.args.found.now) c.args.name.now c.get_one.result c.get_one.ensures.none c.get_one.ensures.value in
    no_number c.args.name.now c.args.least c.args.most (rows_of (found_of c.args.found.now)) c.from_residual.result c.from_residual.ensures (λ number has.
    let is = number_is c.args.name.now c.args.least c.args.most (rows_of (found_of c.args.found.now)) c.get_one.result c.ranges.most.fits read number has in
    let none = c.in_err-read.was in
    cc)

pub returns-then-contains : goal.returns-then-contains
returns-then-contains c =
    let read = one_read (λ bs r. ParsesUnsigned 32 10 bs r × ExplainsUnsignedError 10 bs r × HasUnsignedDigitsIfOk bs r) (λ t r gives. gives.0)
    (found_of c.args.found.now) c.args.name.now c.get_one.result c.get_one.ensures.none c.get_one.ensures.value in
    let is : IsReadOf (Some c.in_ok-read.read) (one_of c.args.name.now (rows_of (found_of c.args.found.now))) =
    subst (λ (o : Option ℕ). IsReadOf o (one_of c.args.name.now (rows_of (found_of c.args.found.now)))) c.in_ok-read.was read in
    let first : c.args.least ≤ c.in_ok-read.read = search rules in
    let last : c.in_ok-read.read ≤ c.args.most = search rules in
    (is.0, is.1, is.2, is.3, first, last)

pub returns-else-contains : goal.returns-else-contains
returns-else-contains c = λ number has.
    let read = one_read (λ bs r. ParsesUnsigned 32 10 bs r × ExplainsUnsignedError 10 bs r × HasUnsignedDigitsIfOk bs r) (λ t r gives. gives.0)
    (found_of c.args.found.now) c.args.name.now c.get_one.result c.get_one.ensures.none c.get_one.ensures.value in
    let is = number_is c.args.name.now c.args.least c.args.most (rows_of (found_of c.args.found.now)) c.get_one.result c.ranges.most.fits read number has in
    let was = c.in_ok-read.was in
    let same : c.in_ok-read.read ≡ number = search rules in
    let out : (c.in_ok-read.read < c.args.least) ⊎ (c.args.most < c.in_ok-read.read) = search rules in
    elim out [
      | inl low ↦ omega (arith, has.4)
      | inr high ↦ omega (arith, has.5)
    ]
