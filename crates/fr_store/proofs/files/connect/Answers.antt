use Rattle.std.proofs.Common.{rules, ◌≡◌, ◌∙◌, ap, refl, subst, sym}
use Rattle.sqlite.specs.Effect.{Database}
use Rattle.sqlite.specs.Files.{AreFoundIn, file_state, image_of}
use Rattle.fr_store.proofs.RisingLemmas.{found_ordered, found_ordered_before}
use Rattle.sqlite.specs.declared.error.Error.TheVariants.{SqliteFailure}
use Rattle.sqlite.specs.declared.error.ErrorCode.TheVariants.{NotADatabase}
use Rattle.fr_store.specs.declared.fault.StoreFault.TheVariants.{NotARegister, Unavailable}
use Rattle.fr_store.proofs.FileLemmas.{holds_none, clean_left, found_opened}
use Rattle.fr_store.proofs.LeftLemmas.{unopened_files}
use Rattle.fr_store.proofs.files.connect.Goals as goal

pub returns-in-Err-SqliteFailure-NotADatabase-default-clause-refused : goal.returns-in-Err-SqliteFailure-NotADatabase-default-clause-refused
returns-in-Err-SqliteFailure-NotADatabase-default-clause-refused g c =
    let it = c.in-Err-SqliteFailure-NotADatabase-default in
    let is : it.field-0-0 ≡ SqliteFailure NotADatabase = search rules in
    unopened_files (image_of g.D.Disk c.args.files) NotARegister _
    (λ clean db held. absurd (holds_none c.args.files it.left it.field-0-0 is (it.ensures.cause (clean_left it.left c.into_files.result.log c.into_files.result.db c.into_files.ensures clean)) db held))
    (λ other. cc) (λ other. cc)

pub returns-in-Err-clause-refused : goal.returns-in-Err-clause-refused
returns-in-Err-clause-refused g c = unopened_files (image_of g.D.Disk c.args.files) Unavailable _ (λ clean db held. refl) (λ other. cc) (λ other. cc)

pub returns-in-Ok-clause-connected : goal.returns-in-Ok-clause-connected
returns-in-Ok-clause-connected g c clean =
    let image = image_of g.D.Disk c.args.files in
    let s = file_state c.in-Ok.conn in
    let opens = c.in-Ok.ensures.opened clean in
    let finds = c.in-Ok.ensures.found clean in
    let is : s.now.trees ≡ s.committed.trees = ap (λ (db : Database). db.trees) opens.0.clean in
    let reads : AreFoundIn image s.now.trees = subst (AreFoundIn image) (sym is) finds.reads in
    let sound = (opens.1 opens.0.is_open).0 in
    record {
      opens = opens;
      ordered = found_ordered image s.now sound reads;
      ordered_before = found_ordered_before image s.now sound reads;
      found = λ db held. is ∙ finds.holds db held;
      reads = found_opened image s opens.0.is_open opens.1 s.committed.trees is finds.reads finds.holds;
    }

pub returns-in-Ok-clause-honest : goal.returns-in-Ok-clause-honest
returns-in-Ok-clause-honest g c clean = (c.in-Ok.ensures.found clean).honest
