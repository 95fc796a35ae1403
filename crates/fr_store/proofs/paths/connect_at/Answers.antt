use Rattle.std.proofs.Common.{rules, ap, IfSome, Some, ◌≡◌, ◌∙◌, false, true, inl, refl, sym, subst}
use Rattle.sqlite.specs.Effect.{Database}
use Rattle.sqlite.specs.Files.{AreFoundIn, file_state}
use Rattle.fr_store.proofs.RisingLemmas.{found_ordered, found_ordered_before}
use Rattle.sqlite_wal.specs.Files.{image_at}
use Rattle.sqlite.specs.declared.error.Error.TheVariants.{SqliteFailure}
use Rattle.sqlite.specs.declared.error.ErrorCode.TheVariants.{NotADatabase}
use Rattle.fr_store.specs.Refused.{IsSpared, IsUnopened}
use Rattle.fr_store.specs.declared.fault.StoreFault.TheVariants.{Unavailable}
use Rattle.fr_store.proofs.FileLemmas.{found_opened}
use Rattle.fr_store.proofs.LeftLemmas.{IsLeftOf, IsSettled, left_no_database, left_unavailable, settled_left}
use Rattle.fr_store.proofs.paths.connect_at.Goals as goal

pub returns-in-Ok-clause-connected : goal.returns-in-Ok-clause-connected
returns-in-Ok-clause-connected g c clean =
    let image = image_at g.S.Start in
    let s = file_state c.in-Ok.conn in
    let opens = c.in-Ok.ensures.opened clean in
    let finds = c.in-Ok.ensures.found clean in
    let is : s.now.trees ≡ s.committed.trees = ap (λ (db : Database). db.trees) opens.0.clean in
    let reads : AreFoundIn image s.now.trees = subst (AreFoundIn image) (sym is) finds.reads in
    let sound = (opens.1 opens.0.is_open).0 in
    record {
      opens = opens;
      ordered = found_ordered image s.now sound reads;
      ordered_before = found_ordered_before image s.now sound reads;
      found = λ db held. is ∙ finds.holds db held;
      reads = found_opened image s opens.0.is_open opens.1 s.committed.trees is finds.reads finds.holds;
    }

pub returns-in-Err-SqliteFailure-NotADatabase-Some-clause-refused : goal.returns-in-Err-SqliteFailure-NotADatabase-Some-clause-refused
returns-in-Err-SqliteFailure-NotADatabase-Some-clause-refused g c =
    let it = c.in-Err-SqliteFailure-NotADatabase-Some in
    let is : it.field-0-0 ≡ SqliteFailure NotADatabase = search rules in
    let rest = subst (λ rest. IfSome rest (IsLeftOf (IsSettled true) (IsSettled false) it.field-0-0)) it.field-0-1-is it.ensures.cause in
    left_no_database (image_at g.S.Start) (IsSettled true) (IsSettled false) (λ file. inl refl)
    (λ files log db image may. (settled_left g.S.Start files.log true log image.log may.0, settled_left g.S.Start files.db false db image.db may.1)) (Some it.left) it.field-0-0 is rest (λ none. let no = none in cc)

pub returns-in-Err-clause-refused : goal.returns-in-Err-clause-refused
returns-in-Err-clause-refused g c =
    let it = c.in-Err in
    let rest : IfSome it.left (IsLeftOf (IsSettled true) (IsSettled false) it.field-0-0) = it.ensures.cause in
    let left : IsUnopened IsSpared (image_at g.S.Start) Unavailable it.left = left_unavailable (image_at g.S.Start) (IsSettled true) (IsSettled false) (λ file. inl refl)
    (λ files log db image may. (settled_left g.S.Start files.log true log image.log may.0, settled_left g.S.Start files.db false db image.db may.1)) it.left it.field-0-0 rest in
    search (rules, left)
