-- The names that are read level by level, as calls one after the other.
use Rattle.std.proofs.Common.{◌≡◌, None, Some, Option, List, [], if◌then◌else◌, Result, Ok, Err, subst, arith}
use Rattle.std.specs.BTreeSet.{BTreeSet}
use Rattle.sqlite.specs.State.{State, HasCleanDisk, IsUnchanged, Survives}
use Rattle.fr_base.specs.declared.name.Name.{Name}
use Rattle.fr_tables.specs.Changes.{tables_of}
use Rattle.fr_tables.specs.Tables.{Tables, HasTables}
use Rattle.fr_store.specs.Flat.{LaysNames, TellsNames}
use Rattle.fr_store.specs.Owning.{TellsOrigin}
use Rattle.fr_store.specs.Paging.{Reads}
use Rattle.fr_store.specs.declared.applying.origin.Origin.{Origin}
use Rattle.fr_store.proofs.ChainLemmas.{has_still, same_tables, stays_then, unchanged_then}
use Rattle.fr_store.proofs.ShownLemmas.{alone_named, over_named}

-- what a call that did not fail says of the tables, and leaves them
abbrev pub Said : (Tables → Type 0) → State → State → Type 0
Said says old new = HasCleanDisk new → HasTables old.now → says (tables_of old) × IsUnchanged old new

-- a read after another one says of the first tables what it says of those that it reads
pub reads_after : {X E : Type 0} (First : Tables → Type 0) (Second Last : Tables → X → Type 0) (old mid new : State) (r : Result X E) → Survives mid new (λ _. ⊥) → Said First old mid → ((t : Tables) (x : X) → First t → Second t x → Last t x)
    → Reads Second mid new r → Reads Last old new r
reads_after First Second Last old mid new (Ok x) after first join second clean was =
    let clean_mid : HasCleanDisk mid = omega (arith, after.clean, clean) in
    let one = first clean_mid was in
    let two = second clean (has_still old mid one.1 was) in
    (join (tables_of old) x one.0 (subst (λ t. Second t x) (same_tables old mid one.1) two.0), unchanged_then old mid new one.1 two.1)
reads_after First Second Last old mid new (Err e) after first join second clean was =
    let clean_mid : HasCleanDisk mid = omega (arith, after.clean, clean) in
    let one = first clean_mid was in
    stays_then old mid new one.1 (second clean (has_still old mid one.1 was))

-- two reads that did not fail
pub said_after : (First Second Both : Tables → Type 0) (old mid new : State) → Survives mid new (λ _. ⊥) → Said First old mid → ((t : Tables) → First t → Second t → Both t) → Said Second mid new → Said Both old new
said_after First Second Both old mid new after first join second clean was =
    let clean_mid : HasCleanDisk mid = omega (arith, after.clean, clean) in
    let one = first clean_mid was in
    let two = second clean (has_still old mid one.1 was) in
    (join (tables_of old) one.0 (subst Second (same_tables old mid one.1) two.0), unchanged_then old mid new one.1 two.1)

module _ (v s : Name) (origin : Origin) where
  abbrev above : Option Name
  above = if origin.overlay then origin.parent else None

  pub alone_read : {E : Type 0} (none : List Name) (old mid new : State) (r : Result (BTreeSet Name) E) → Survives mid new (λ _. ⊥) → Said (λ t. TellsOrigin v t origin) old mid → above ≡ None → none ≡ []
      → Reads (λ t (all : BTreeSet Name). LaysNames v s none t all.keys) mid new r → Reads (λ t (all : BTreeSet Name). TellsNames v s t all.keys) old new r
  alone_read none old mid new r after told laid empty =
      reads_after (λ t. TellsOrigin v t origin) (λ t all. LaysNames v s none t all.keys) (λ t all. TellsNames v s t all.keys) old mid new r after told
      (λ t all told lays. alone_named t v s origin told all.keys laid (subst (λ names. LaysNames v s names t all.keys) empty lays))

  pub over_read : {E : Type 0} (parent : Name) (inherited : List Name) (old mid up new : State) (r : Result (BTreeSet Name) E) → Survives mid up (λ _. ⊥) → Survives up new (λ _. ⊥) → Said (λ t. TellsOrigin v t origin) old mid → above ≡ Some parent
      → Said (λ t. TellsNames parent s t inherited) mid up → Reads (λ t (all : BTreeSet Name). LaysNames v s inherited t all.keys) up new r → Reads (λ t (all : BTreeSet Name). TellsNames v s t all.keys) old new r
  over_read parent inherited old mid up new r after last told laid names =
      reads_after (λ t. TellsOrigin v t origin × TellsNames parent s t inherited) (λ t all. LaysNames v s inherited t all.keys) (λ t all. TellsNames v s t all.keys) old up new r last
      (said_after (λ t. TellsOrigin v t origin) (λ t. TellsNames parent s t inherited) (λ t. TellsOrigin v t origin × TellsNames parent s t inherited) old mid up after told (λ t one two. (one, two)) names)
      (λ t all both lays. over_named t v s origin both.0 all.keys parent inherited laid both.1 lays)
