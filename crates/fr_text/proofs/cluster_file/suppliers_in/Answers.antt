use Rattle.std.proofs.Common.{◌≡◌, [], ◌∷◌, ◌++◌, Some, None, string_bytes, append_assoc, append-nil, inr, sym, ap, ◌∙◌, arith}
use Rattle.std.proofs.lemmas.Grind.{common_steps}
use Rattle.std.proofs.lemmas.List.{map-append}
use Rattle.toml.specs.Data.{as_str}
use Rattle.toml.specs.View.{view, members_view}
use Rattle.toml.proofs.Views.{Entry}
use Rattle.fr_text.specs.SupplierTexts.{suppliers_of}
use Rattle.fr_text.proofs.ClusterFileLemmas.{prefixed-push, suppliers_in-refused, suppliers_in-done, names_rise-sorted}
use Rattle.fr_text.proofs.cluster_file.suppliers_in.Goals as goal

pub returns-in_default-clause-refused : goal.returns-in_default-clause-refused
returns-in_default-clause-refused c =
    let l = c.loop-name in
    let e : Entry = (c.in-Some.name.now, c.in-Some.value.now) in
    let iter : l.name-iterator ≡ e ∷ c.next.new.self = c.in-Some.ensures.steps in
    let none : as_str (view e.1) ≡ None = grind (arith, common_steps) in
    inr (sym (rw iter at l.invariant.told) ∙ suppliers_in-refused (suppliers_of l.texts.items) (string_bytes e.0) (view e.1) (members_view c.next.new.self) none)

pub loop-name-preserved : goal.loop-name-preserved
loop-name-preserved c =
    let l = c.loop-name in
    let e : Entry = (c.in-Some.name.now, c.in-Some.value.now) in
    let left = c.next.new.self in
    let iter : l.name-iterator ≡ e ∷ left = c.in-Some.ensures.steps in
    let key = c.in-Some-as_str.key.now in
    let is : as_str (view e.1) ≡ Some key = grind (arith, common_steps) in
    let more : suppliers_of c.push.new.self.items ≡ suppliers_of l.texts.items ++ record { name = string_bytes e.0; key = key } ∷ [] = rw c.in_ok-push.ensures.items (rw (map-append, c.as_str-name.ensures.value)) in
    record {
      can = tt;
      finite = tt;
      told = rw more (prefixed-push (suppliers_of l.texts.items) (string_bytes e.0) key (view e.1) (members_view left) is ∙ rw iter at l.invariant.told);
      done = l.invariant.done ++ e ∷ [];
      all = l.invariant.all ∙ ap (λ es. l.invariant.done ++ es) iter ∙ sym (append_assoc l.invariant.done (e ∷ []) left);
      named = rw (more, map-append, map-append, l.invariant.named);
    }

pub returns-clause-read : goal.returns-clause-read
returns-clause-read c =
    let l = c.loop-name in
    let none : l.name-iterator ≡ [] = grind (arith, common_steps) in
    sym (rw none at l.invariant.told) ∙ suppliers_in-done (suppliers_of l.texts.items)

pub returns-clause-rise : goal.returns-clause-rise
returns-clause-rise c =
    let l = c.loop-name in
    let none : l.name-iterator ≡ [] = grind (arith, common_steps) in
    let all : c.args.table.now.entries ≡ l.invariant.done = l.invariant.all ∙ rw none (append-nil l.invariant.done) in
    names_rise-sorted l.invariant.done (suppliers_of l.texts.items) (rw all at c.into_iter-name-iterator.ensures.into_iter_gives.5) l.invariant.named
