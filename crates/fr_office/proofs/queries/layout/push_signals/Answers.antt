use Rattle.std.proofs.Common.{◌≡◌, ◌∙◌, ◌++◌, Some, None, sym, ap, append-nil, rules}
use Rattle.std.specs.BTreeMap.{is_at}
use Rattle.std.specs.Map.{lookup}
use Rattle.fr_base.specs.Queries.{signal_rows}
use Rattle.fr_world.specs.Pages.{frame_data, frame_of}
use Rattle.fr_world.proofs.KeyLaws.{name_cmp}
use Rattle.fr_office.proofs.NamedLaws.{signals-found, signals-none, there-found, there-none}
use Rattle.fr_office.proofs.queries.layout.push_signals.Goals as goal

pub returns-in_ok-push_signal_rows-in-Some-clause-rows : goal.returns-in_ok-push_signal_rows-in-Some-clause-rows
returns-in_ok-push_signal_rows-in-Some-clause-rows c =
    let is : Some c.in-Some.frame.now ≡ lookup (is_at (name_cmp c.args.name)) c.frames.result.now.entries = search rules in
    c.in_ok-push_signal_rows-in-Some.ensures.ok c.args.name
    ∙ ap (λ more. c.args.rows.now ++ more)
    ((λ i. signal_rows ((c.supplier.ensures i, c.args.name), frame_of (frame_data c.in-Some.frame.now)))
    ∙ sym (signals-found c.args.page.now c.args.name c.frames.result.now.entries c.frames.ensures.value c.frames.ensures.kept c.in-Some.frame.now is))

pub returns-in_ok-push_signal_rows-in-Some-clause-found : goal.returns-in_ok-push_signal_rows-in-Some-clause-found
returns-in_ok-push_signal_rows-in-Some-clause-found c =
    let is : Some c.in-Some.frame.now ≡ lookup (is_at (name_cmp c.args.name)) c.frames.result.now.entries = search rules in
    there-found c.args.page.now c.args.name c.frames.result.now.entries c.frames.ensures.value c.frames.ensures.kept c.in-Some.frame.now is

pub returns-in-None-clause-rows : goal.returns-in-None-clause-rows
returns-in-None-clause-rows c =
    let is : None ≡ lookup (is_at (name_cmp c.args.name)) c.frames.result.now.entries = search rules in
    sym (append-nil c.args.rows.now)
    ∙ ap (λ more. c.args.rows.now ++ more) (sym (signals-none c.args.page.now c.args.name c.frames.result.now.entries c.frames.ensures.value c.frames.ensures.kept is))

pub returns-in-None-clause-found : goal.returns-in-None-clause-found
returns-in-None-clause-found c =
    let is : None ≡ lookup (is_at (name_cmp c.args.name)) c.frames.result.now.entries = search rules in
    there-none c.args.page.now c.args.name c.frames.result.now.entries c.frames.ensures.value c.frames.ensures.kept is
