-- One connection: what is read on it, what is written, and what rests, put together.
use Rattle.std.proofs.Common.{arith, ◌≡◌, ℕ, List, [], ◌++◌, ◌∙◌, Option, None, Some, refl, sym, ap, subst, append-nil, append_assoc}
use Rattle.std.proofs.KnownBytes.{Appends-kept, Consumes-kept, Keeps-refl}
use Rattle.std.proofs.lemmas.Grind.{common_steps}
use Rattle.std.specs.Io.KnownBytes.{Appends, Consumes, Keeps}
use Rattle.fr_links.proofs.Moved.{commute, rests}
use Rattle.fr_links.specs.Connection.{Follows, IsMoved, LosesNone, Writes, due_of, early_of}
use Rattle.fr_links.specs.Gathering.{Gathers}
use Rattle.fr_links.specs.Sending.{GoesOut, Moves}
use Rattle.fr_links.specs.declared.heard.Heard.{Heard}
use Rattle.fr_links.specs.declared.link.Link.{Link}
use Rattle.fr_links.specs.declared.stage.Stage.{Stage}
use Rattle.fr_links.specs.declared.stage.Stage.TheVariants.{Asking, Ready, Replying, Resting}
use Rattle.fr_links.specs.declared.outbox.Outbox.{Outbox}

appends_after : (a b c : Option (List ℕ)) (bs : List ℕ) → Keeps a b → Appends b c bs → Appends a c bs
appends_after None b c bs p q = tt
appends_after (Some x) None c bs p q = absurd p
appends_after (Some x) (Some y) None bs p q = absurd q
appends_after (Some x) (Some y) (Some z) bs p q = q ∙ ap (λ l. l ++ bs) p

consumes_after : (a b c : Option (List ℕ)) (bs : List ℕ) → Keeps a b → Consumes b c bs → Consumes a c bs
consumes_after None b c bs p q = tt
consumes_after (Some x) None c bs p q = absurd p
consumes_after (Some x) (Some y) None bs p q = absurd q
consumes_after (Some x) (Some y) (Some z) bs p q = sym p ∙ q

consumes_nothing : (a b : Option (List ℕ)) → Keeps a b → Consumes a b []
consumes_nothing None b keeps = tt
consumes_nothing (Some x) None keeps = keeps
consumes_nothing (Some x) (Some y) keeps = sym keeps

-- what was gathered is so where the stream then rests
pub gathers_kept : (input mid left : Option (List ℕ)) (came now : List ℕ) (heard : Heard) → Gathers input mid came now heard → Keeps mid left → Gathers input left came now heard
gathers_kept input mid left came now heard g keeps = record {
  kept = g.kept;
  lost = g.lost;
  consumed = Consumes-kept input mid left _ g.consumed keeps;
  gathered = g.gathered;
  none = g.none;
}

-- what moved is so where the stream rested before, or rests then
pub moves_after : (a b c : Option (List ℕ)) (e d w e' d' : List ℕ) → Keeps a b → Moves b c e d w e' d' → Moves a c e d w e' d'
moves_after a b c e d w e' d' keeps m = record { out = m.out; appended = appends_after a b c m.out keeps m.appended; order = m.order }

pub moves_kept : (a b c : Option (List ℕ)) (e d w e' d' : List ℕ) → Moves a b e d w e' d' → Keeps b c → Moves a c e d w e' d'
moves_kept a b c e d w e' d' m keeps = record { out = m.out; appended = Appends-kept a b c m.out m.appended keeps; order = m.order }

-- nothing is early where something is due
pub box_commutes : (box : Outbox) → early_of box ++ due_of box ≡ due_of box ++ early_of box
box_commutes box =
    commute box.ahead box.passed box.sent box.kept.items
    (λ before. let empty = box.turn before in omega (arith, box.kept.ok.0, empty))

-- what is to go out rests
pub box_rests : (box : Outbox) (held now : Option (List ℕ)) → Keeps held now → Moves held now (early_of box) (due_of box) [] (early_of box) (due_of box)
box_rests box held now keeps = rests held now (early_of box) (due_of box) keeps (box_commutes box)

-- a front of what is due goes out
pub goes_out : (held now : Option (List ℕ)) (before due after left : List ℕ) → GoesOut held now due left → after ≡ before → before ++ due ≡ due ++ before
    → Moves held now before due [] after left
goes_out held now before due after left g stays both = record {
  out = g.out;
  appended = g.appended;
  order =
      append_assoc before g.out left ∙ ap (λ t. before ++ t) (sym g.order) ∙ both ∙ ap (λ t. due ++ t) (sym stays)
      ∙ ap (λ t. t ++ after) (sym (append-nil due));
}

-- none is lost at any stage
pub loses_nothing : (stage : Stage) (lost : List ℕ) → lost ≡ [] → LosesNone stage lost
loses_nothing Asking lost none = none
loses_nothing (Ready ending) lost none = λ _. none
loses_nothing (Replying asked) lost none = tt
loses_nothing (Resting asked room) lost none = tt

-- what was lost by a stage is so by one that follows
pub loses_on : (old new : Stage) (lost : List ℕ) → Follows old new → LosesNone old lost → LosesNone new lost
loses_on Asking new lost follows none = loses_nothing new lost none
loses_on (Ready ending) new lost follows none = subst (λ stage. LosesNone stage lost) (sym follows) none
loses_on (Replying asked) Asking lost follows none = absurd follows
loses_on (Replying asked) (Ready ending) lost follows none = absurd follows
loses_on (Replying asked) (Replying again) lost follows none = tt
loses_on (Replying asked) (Resting again room) lost follows none = tt
loses_on (Resting asked room) Asking lost follows none = absurd follows
loses_on (Resting asked room) (Ready ending) lost follows none = absurd follows
loses_on (Resting asked room) (Replying again) lost follows none = tt
loses_on (Resting asked room) (Resting again left) lost follows none = tt

module _ {S : Type 0} (remaining contents : S → Option (List ℕ)) where
  pub moved_gathers : (old new : Link S) (stage : Stage) (heard : Heard) (g : Gathers (remaining old.stream) (remaining new.stream) old.inbox.came.items new.inbox.came.items heard)
      → Writes contents old new [] → LosesNone stage g.lost → IsMoved remaining contents old new stage
  moved_gathers old new stage heard g written none = record { kept = g.kept; lost = g.lost; consumed = g.consumed; gathered = g.gathered; none = none; written = written }

  -- only what is to go out moves
  pub moved_writes : (old new : Link S) (stage : Stage) → Keeps (remaining old.stream) (remaining new.stream) → new.inbox ≡ old.inbox → Writes contents old new [] → IsMoved remaining contents old new stage
  moved_writes old new stage keeps same written = record {
    kept = [];
    lost = [];
    consumed = consumes_nothing _ _ keeps;
    gathered = grind (arith, common_steps);
    none = loses_nothing stage [] refl;
    written = written;
  }

  -- what comes is let go
  pub moved_lets_go : (old new : Link S) (stage : Stage) (lost : List ℕ) → Consumes (remaining old.stream) (remaining new.stream) lost → Keeps (contents old.stream) (contents new.stream)
      → new.inbox ≡ old.inbox → new.outbox ≡ old.outbox → LosesNone stage lost → IsMoved remaining contents old new stage
  moved_lets_go old new stage lost consumed keeps inbox outbox none = record {
    kept = [];
    lost = lost;
    consumed = consumed;
    gathered = grind (arith, common_steps);
    none = none;
    written = subst (λ box. Moves (contents old.stream) (contents new.stream) (early_of old.outbox) (due_of old.outbox) [] (early_of box) (due_of box)) (sym outbox)
        (box_rests old.outbox _ _ keeps);
  }

  -- nothing moves
  pub unmoved : (old new : Link S) (stage : Stage) → Keeps (remaining old.stream) (remaining new.stream) → Keeps (contents old.stream) (contents new.stream)
      → new.inbox ≡ old.inbox → new.outbox ≡ old.outbox → IsMoved remaining contents old new stage
  unmoved old new stage heard sent inbox outbox = moved_lets_go old new stage [] (consumes_nothing _ _ heard) sent inbox outbox (loses_nothing stage [] refl)

  pub same : (link : Link S) (stage : Stage) → IsMoved remaining contents link link stage
  same link stage = unmoved link link stage (Keeps-refl _) (Keeps-refl _) refl refl

  -- it moved, and then rested
  pub moved_kept : (old mid new : Link S) (before stage : Stage) → IsMoved remaining contents old mid before → Follows before stage → Keeps (remaining mid.stream) (remaining new.stream) → Keeps (contents mid.stream) (contents new.stream)
      → new.inbox ≡ mid.inbox → new.outbox ≡ mid.outbox → IsMoved remaining contents old new stage
  moved_kept old mid new before stage m follows heard sent inbox outbox = record {
    kept = m.kept;
    lost = m.lost;
    consumed = Consumes-kept _ _ _ _ m.consumed heard;
    gathered = ap (λ box. box.came.items) inbox ∙ m.gathered;
    none = loses_on before stage m.lost follows m.none;
    written = subst (λ box. Moves (contents old.stream) (contents new.stream) (early_of old.outbox) (due_of old.outbox) [] (early_of box) (due_of box)) (sym outbox)
        (moves_kept _ _ _ _ _ _ _ _ m.written sent);
  }

  -- what was due went out, and then what came was let go
  pub lets_go_after : (old sent new : Link S) (stage : Stage) → Writes contents old sent [] → sent.inbox ≡ old.inbox → Keeps (remaining old.stream) (remaining sent.stream)
      → IsMoved remaining contents sent new stage → new.outbox ≡ sent.outbox → Keeps (contents sent.stream) (contents new.stream) → IsMoved remaining contents old new stage
  lets_go_after old sent new stage written inbox heard m outbox quiet = record {
    kept = m.kept;
    lost = m.lost;
    consumed = consumes_after _ _ _ _ heard m.consumed;
    gathered = m.gathered ∙ ap (λ box. box.came.items ++ m.kept) inbox;
    none = m.none;
    written = subst (λ box. Moves (contents old.stream) (contents new.stream) (early_of old.outbox) (due_of old.outbox) [] (early_of box) (due_of box)) (sym outbox)
        (moves_kept _ _ _ _ _ _ _ _ written quiet);
  }
