use Rattle.std.proofs.Common.{◌≡◌, ◌++◌, ◌∙◌, ℕ, List, [], true, ap, append-nil, is_some, rules, subst, sym, take}
use Rattle.std.specs.Option.{option_map}
use Rattle.std.specs.Io.KnownBytes.{Consumes, IsAtEnd}
use Rattle.std.proofs.KnownBytes.{Consumes-trans}
use Rattle.fr_text.specs.Script.{parts_around}
use Rattle.fr_text.proofs.LineLemmas.{feed_found}
use Rattle.fr_cli.proofs.streams.input.read_line.Goals as goal

pub returns-in-Ok-eq0-clause-line : goal.returns-in-Ok-eq0-clause-line
returns-in-Ok-eq0-clause-line g c =
    let end : IsAtEnd (g.R.Read.remaining c.read.new.self) = search rules in
    let none : take c.in-Ok-eq0.field-0 c.read.new.buf ≡ [] = search rules in
    let taken : Consumes (g.R.Read.remaining c.args.reader.now) (g.R.Read.remaining c.read.new.self) c.loop.front.items =
    subst (Consumes _ _) (ap (λ r. c.loop.front.items ++ r) none ∙ append-nil c.loop.front.items) (Consumes-trans _ _ _ _ _ c.loop.invariant.taken c.in-Ok-eq0.ensures.bytes.0) in
    (taken, λ clear. end)

pub returns-then-is_some-clause-line : goal.returns-then-is_some-clause-line
returns-then-is_some-clause-line g c =
    let bytes = c.append.new.input.items in
    let whole : bytes ≡ c.loop.front.items ++ take c.in-Ok.n c.read.new.buf = search rules in
    let taken : Consumes (g.R.Read.remaining c.args.reader.now) (g.R.Read.remaining c.read.new.self) bytes =
    subst (Consumes _ _) (sym whole) (Consumes-trans _ _ _ _ _ c.loop.invariant.taken c.in-Ok.ensures.bytes.0) in
    let some : is_some c.split_once.result ≡ true = search rules in
    let found : option_map (λ x. (x.0.now, x.1.now)) c.split_once.result ≡ parts_around 10 bytes =
    subst (λ (b : List ℕ). option_map (λ x. (x.0.now, x.1.now)) c.split_once.result ≡ parts_around 10 b) c.deref.ensures.value c.split_once.ensures in
    (taken, λ clear. absurd (feed_found bytes c.split_once.result some found clear))

pub returns-in_err-append-in-Ok-clause-taken : goal.returns-in_err-append-in-Ok-clause-taken
returns-in_err-append-in-Ok-clause-taken g c =
    (c.loop.front.items ++ take c.in-Ok.n c.read.new.buf, Consumes-trans _ _ _ _ _ c.loop.invariant.taken c.in-Ok.ensures.bytes.0)
