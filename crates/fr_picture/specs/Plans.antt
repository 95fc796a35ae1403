-- Plan: the plan of a variant as a reader sees it in the book: its parent and state, the suppliers,
-- and the rows of the reader's reports. Picture: a plan, and what is new since another variant and what is gone.
use Rattle.std.specs.Prelude.{◌≡◌, ◌⊎◌, ℕ, Bool, List, [], ◌∷◌, map, Option, Some, None, Contains}
use Rattle.std.specs.Borrow.{Bor}
use Rattle.fr_base.specs.Book.{Book, file_of}
use Rattle.fr_base.specs.Cluster.{Cluster}
use Rattle.fr_base.specs.declared.actor.Actor.{Actor}
use Rattle.fr_base.specs.declared.actor.Actor.TheVariants.{Integrator, Supplier}
use Rattle.fr_base.specs.declared.answer.VariantRow.{VariantRow}
use Rattle.fr_base.specs.declared.config.Supplier as config
use Rattle.fr_base.specs.declared.name.Name.{Name}
use Rattle.fr_base.specs.declared.answer.Answer.TheVariants as answer
use Rattle.fr_base.specs.declared.refusal.Refusal.{Refusal}
use Rattle.fr_base.specs.declared.report.Report.TheVariants.{Grants, Schedule}
use Rattle.fr_picture.specs.declared.changes.Changes.{Changes}
use Rattle.fr_picture.specs.declared.plan.Plan.{Plan}
use Rattle.fr_picture.specs.Frames.{AreFrames, MayRefusePlan}
use Rattle.fr_picture.specs.Reports.{answer_to, asks, asks_difference, asks_variants, with_cells, with_difference, with_grants, with_variants}

-- the supplier whose rows alone the reader sees; none for the integrator
abbrev pub supplier_of : Actor → Option Name
supplier_of Integrator = None
supplier_of (Supplier s) = Some s

-- the suppliers that may have rows that the reader sees: all of the register, or the reader alone
abbrev pub suppliers_seen : Actor → List config.Supplier → List Name
suppliers_seen Integrator suppliers = map (λ s. s.name) suppliers
suppliers_seen (Supplier s) suppliers = s ∷ []

-- The row is one of the report of variants that the reader is told.
abbrev pub IsListed : Cluster → Book → Actor → VariantRow → Type 0
IsListed c b reader row =
    (rows : List VariantRow) × ((all : Bool) × (answer_to c b reader asks_variants ≡ with_variants all rows)) × Contains rows row

-- The plan is the variant's, as the reader sees it in the book. Its parent and its state are those
-- of the row of this name in the report of variants. Its suppliers are those of the register, or
-- the reader alone. Its grants, cells and frames are the rows of the reader's reports.
pub record IsPlan (c : Cluster) (b : Book) (reader : Actor) (variant : List ℕ) (plan : Plan) : Type 0 where
  pub params : plan.params ≡ c.params
  pub name : plan.variant ≡ variant
  pub row : VariantRow
  pub listed : IsListed c b reader row
  pub same : (row.variant ≡ plan.variant) × (row.parent ≡ plan.parent) × (row.released ≡ plan.released)
  pub viewer : plan.supplier ≡ supplier_of reader
  pub suppliers : plan.suppliers.items ≡ suppliers_seen reader (file_of c b).suppliers
  pub grants : (all : Bool) × (answer_to c b reader (asks variant Grants) ≡ with_grants all plan.grants)
  pub cells : (all : Bool) × (answer_to c b reader (asks variant Schedule) ≡ with_cells all plan.cells)
  pub frames : AreFrames c b reader variant plan.frames.items

-- the name of the other variant, as it was given, if it was
abbrev pub since_of : Option (Bor (List ℕ)) → Option (List ℕ)
since_of None = None
since_of (Some name) = Some name.now

-- The changes are the rows in which the variant differs from the one of this name, as the reader is told them. There are
-- none where no other variant is named.
abbrev pub AreChanges : Cluster → Book → Actor → List ℕ → Option (List ℕ) → Option Changes → Type 0
AreChanges c b reader variant None changes = changes ≡ None
AreChanges c b reader variant (Some from) None = ⊥
AreChanges c b reader variant (Some from) (Some changes) =
    (changes.from ≡ from) × ((all : Bool) × (answer_to c b reader (asks_difference variant from) ≡ with_difference all changes.rows))

-- The plan is the variant's, as the reader sees it in the book, with its changes since the variant that is named, if one is.
pub record IsPicture (c : Cluster) (b : Book) (reader : Actor) (variant : List ℕ) (since : Option (List ℕ)) (plan : Plan) : Type 0 where
  pub is_plan : IsPlan c b reader variant plan
  pub changes : AreChanges c b reader variant since plan.changes

-- Another variant is named, and the reader is refused the difference by this refusal.
abbrev pub RefusesChanges : Cluster → Book → Actor → List ℕ → Option (List ℕ) → Refusal → Type 0
RefusesChanges c b reader variant None e = ⊥
RefusesChanges c b reader variant (Some from) e = answer_to c b reader (asks_difference variant from) ≡ answer.Refused e

-- The reader is refused the plan, or the difference from the variant that is named.
abbrev pub MayRefusePicture : Cluster → Book → Actor → List ℕ → Option (List ℕ) → Refusal → Type 0
MayRefusePicture c b reader variant since e = MayRefusePlan c b reader variant e ⊎ RefusesChanges c b reader variant since e
