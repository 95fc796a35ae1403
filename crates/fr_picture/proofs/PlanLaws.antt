-- The variant of a plan among those of the register, and why there is no plan.
use Rattle.std.proofs.Common.{◌≡◌, Bool, true, false, cond, List, ℕ, Option, Some, None, Result, Ok, Err, refl, sym, ap, subst, ◌∙◌, inl, inr}
use Rattle.std.proofs.lemmas.Option.{none-some, same_Some}
use Rattle.std.specs.Borrow.{Bor}
use Rattle.std.specs.Prelude.{Contains, Vec}
use Rattle.std.specs.declared.alloc.Global.{Global}
use Rattle.fr_base.specs.Book.{Book, file_of}
use Rattle.fr_base.specs.Cluster.{Cluster, ClusterFile}
use Rattle.fr_base.specs.Desks.{Standing}
use Rattle.fr_base.specs.Sound.{IsSound}
use Rattle.fr_base.specs.declared.actor.Actor.{Actor}
use Rattle.fr_base.specs.declared.answer.Answer.{Answer}
use Rattle.fr_base.specs.declared.answer.DifferenceRow.{DifferenceRow}
use Rattle.fr_base.specs.declared.answer.GrantRow.{GrantRow}
use Rattle.fr_base.specs.declared.answer.Sending.{Sending}
use Rattle.fr_base.specs.declared.answer.VariantRow.{VariantRow}
use Rattle.fr_base.specs.declared.name.Name.{Name}
use Rattle.fr_base.specs.declared.params.Params.{Params}
use Rattle.fr_base.specs.declared.refusal.Refusal.{Refusal}
use Rattle.fr_base.specs.declared.refusal.Refusal.TheVariants.{Unavailable}
use Rattle.fr_base.specs.declared.report.Report.TheVariants.{Grants, Schedule}
use Rattle.fr_base.specs.declared.request.Request.{Request}
use Rattle.fr_picture.specs.declared.changes.Changes.{Changes}
use Rattle.fr_picture.specs.declared.frame_table.DrawnFrame.{DrawnFrame}
use Rattle.fr_picture.specs.declared.plan.Plan.{Plan}
use Rattle.fr_picture.proofs.FrameLaws.{refuses_plan}
use Rattle.fr_picture.specs.Frames.{AreFrames, IsOfPlan, MayRefusePlan}
use Rattle.fr_picture.specs.Plans.{AreChanges, IsListed, IsPicture, IsPlan, MayRefusePicture, since_of, supplier_of, suppliers_seen}
use Rattle.fr_picture.specs.Reports.{Reads, Reports, asks, asks_difference, asks_variants, with_cells, with_difference, with_grants, with_variants}

-- ---- the row

module _ (old new : Standing) (reader : Actor) (variant : List ℕ) where
  abbrev ReadsRow : Result VariantRow Refusal → Type 0
  ReadsRow r = Reads old new r (λ c b row. IsListed c b reader row × (row.variant ≡ variant)) (λ c b e. MayRefusePlan c b reader variant e)

  -- one of the rows that were told has the name
  pub row_read : (rows : List VariantRow) (row : VariantRow) → Reports old new reader asks_variants with_variants (Ok rows) → Contains rows row → row.variant ≡ variant → ReadsRow (Ok row)
  row_read rows row reports among named c b stood sound =
      let told = reports c b stood sound in
      (told.0, ((rows, told.1, among), named))

  -- no rows were told
  pub row_refused : (r : Result VariantRow Refusal) (e : Refusal) → r ≡ Err e → Reports {X = List VariantRow} old new reader asks_variants with_variants (Err e) → ReadsRow r
  row_refused r e is reports = subst ReadsRow (sym is) (λ c b stood sound.
      let told = reports c b stood sound in
      (told.0, refuses_plan c b reader variant asks_variants e (inr (inr (inr (inr refl)))) told.1))

  -- no row has the name
  pub row_lacked : (rows : List VariantRow) → Reports old new reader asks_variants with_variants (Ok rows) → ReadsRow (Err Unavailable)
  row_lacked rows reports c b stood sound = ((reports c b stood sound).0, inl refl)

-- ---- the plan

-- In each sound book for which the register stood this holds, and the register stands for the same book as before.
abbrev Keeps : Standing → Standing → (Cluster → Book → Type 0) → Type 0
Keeps old new Is = (c : Cluster) (b : Book) → old c b → IsSound c b → new c b × Is c b

module _ (reader : Actor) (variant : List ℕ) where
  -- one of the plan's reports was refused
  report_refused : {X : Type 0} (old new : Standing) (asked : Request) (kind : Bool → X → Answer) (e : Refusal) → IsOfPlan variant asked → Reports old new reader asked kind (Err e)
      → Keeps old new (λ c b. MayRefusePlan c b reader variant e)
  report_refused old new asked kind e of reports c b stood sound =
      let told = reports c b stood sound in
      (told.0, refuses_plan c b reader variant asked e of told.1)

  -- a plan that was refused
  plan_refused : (old new : Standing) (r : Result Plan Refusal) (e : Refusal) → r ≡ Err e → Keeps old new (λ c b. MayRefusePlan c b reader variant e)
      → Reads old new r (λ c b plan. IsPlan c b reader variant plan) (λ c b e. MayRefusePlan c b reader variant e)
  plan_refused old new r e is keeps =
      subst (λ (r : Result Plan Refusal). Reads old new r (λ c b plan. IsPlan c b reader variant plan) (λ c b e. MayRefusePlan c b reader variant e)) (sym is) keeps

  module _ (s0 s1 : Standing) where
    -- its grants were refused
    pub grants_refused : (r : Result Plan Refusal) (e : Refusal) → r ≡ Err e → Reports {X = List GrantRow} s0 s1 reader (asks variant Grants) with_grants (Err e)
        → Reads s0 s1 r (λ c b plan. IsPlan c b reader variant plan) (λ c b e. MayRefusePlan c b reader variant e)
    grants_refused r e is grants = plan_refused s0 s1 r e is (report_refused s0 s1 (asks variant Grants) with_grants e (inl refl) grants)

    module _ (grants : List GrantRow) (granted : Reports s0 s1 reader (asks variant Grants) with_grants (Ok grants)) (s2 : Standing) where
      -- its cells were refused
      pub cells_refused : (r : Result Plan Refusal) (e : Refusal) → r ≡ Err e → Reports {X = List Sending} s1 s2 reader (asks variant Schedule) with_cells (Err e)
          → Reads s0 s2 r (λ c b plan. IsPlan c b reader variant plan) (λ c b e. MayRefusePlan c b reader variant e)
      cells_refused r e is cells = plan_refused s0 s2 r e is (λ c b stood sound.
          report_refused s1 s2 (asks variant Schedule) with_cells e (inr (inl refl)) cells c b (granted c b stood sound).0 sound)

      module _ (cells : List Sending) (scheduled : Reports s1 s2 reader (asks variant Schedule) with_cells (Ok cells)) (s3 : Standing) where
        -- its frames were refused
        pub frames_refused : (r : Result Plan Refusal) (e : Refusal) → r ≡ Err e → Keeps s2 s3 (λ c b. MayRefusePlan c b reader variant e)
            → Reads s0 s3 r (λ c b plan. IsPlan c b reader variant plan) (λ c b e. MayRefusePlan c b reader variant e)
        frames_refused r e is refuses = plan_refused s0 s3 r e is (λ c b stood sound. refuses c b (scheduled c b (granted c b stood sound).0 sound).0 sound)

        module _ (frames : List DrawnFrame) (framed : Keeps s2 s3 (λ c b. AreFrames c b reader variant frames)) (s4 : Standing) where
          -- its row was refused
          pub row_lacks : (r : Result Plan Refusal) (e : Refusal) → r ≡ Err e → Keeps s3 s4 (λ c b. MayRefusePlan c b reader variant e)
              → Reads s0 s4 r (λ c b plan. IsPlan c b reader variant plan) (λ c b e. MayRefusePlan c b reader variant e)
          row_lacks r e is refuses = plan_refused s0 s4 r e is (λ c b stood sound.
              refuses c b (framed c b (scheduled c b (granted c b stood sound).0 sound).0 sound).0 sound)

          -- there was no memory for its suppliers
          pub suppliers_lack : (row : VariantRow) (r : Result Plan Refusal) → r ≡ Err Unavailable → Keeps s3 s4 (λ c b. IsListed c b reader row × (row.variant ≡ variant))
              → Reads s0 s4 r (λ c b plan. IsPlan c b reader variant plan) (λ c b e. MayRefusePlan c b reader variant e)
          suppliers_lack row r is rowed = plan_refused s0 s4 r Unavailable is (λ c b stood sound.
              ((rowed c b (framed c b (scheduled c b (granted c b stood sound).0 sound).0 sound).0 sound).0, inl refl))

          -- all of it was read
          pub plan_read : (row : VariantRow) (params : Params) (viewer : Option Name) (known : Vec Name Global) (file : ClusterFile) (drawn : Vec DrawnFrame Global) → viewer ≡ supplier_of reader → drawn.items ≡ frames → Keeps s3 s4 (λ c b. IsListed c b reader row × (row.variant ≡ variant))
              → params ≡ file.cluster.params → ((c : Cluster) (b : Book) → s4 c b → file ≡ file_of c b) → known.items ≡ suppliers_seen reader file.suppliers
              → Keeps s0 s4 (λ c b. IsPlan c b reader variant (record {
                params = params;
                variant = row.variant;
                parent = row.parent;
                released = row.released;
                supplier = viewer;
                suppliers = known;
                grants = grants;
                cells = cells;
                frames = drawn;
                changes = None;
              }))
          plan_read row params viewer known file drawn is same rowed has says named c b stood sound =
              let one = granted c b stood sound in
              let two = scheduled c b one.0 sound in
              let three = framed c b two.0 sound in
              let four = rowed c b three.0 sound in (
                four.0,
                record {
                  params = has ∙ ap (λ (f : ClusterFile). f.cluster.params) (says c b four.0);
                  name = four.1.1;
                  row = row;
                  listed = four.1.0;
                  same = (refl, refl, refl);
                  viewer = is;
                  suppliers = subst (λ (f : ClusterFile). known.items ≡ suppliers_seen reader f.suppliers) (says c b four.0) named;
                  grants = one.1;
                  cells = two.1;
                  frames = subst (λ (fs : List DrawnFrame). AreFrames c b reader variant fs) (sym same) three.1;
                },
              )

-- ---- the changes

module _ (old new : Standing) (reader : Actor) (variant from : List ℕ) where
  abbrev ReadsChanges : Result (Option Changes) Refusal → Type 0
  ReadsChanges r = Reads old new r (λ c b changes. AreChanges c b reader variant (Some from) changes) (λ c b e. MayRefusePicture c b reader variant (Some from) e)

  -- they are the rows of the difference
  pub changes_read : (name : Name) (rows : List DifferenceRow) → name ≡ from → Reports old new reader (asks_difference variant from) with_difference (Ok rows)
      → ReadsChanges (Ok (Some (record { from = name; rows = rows })))
  changes_read name rows is reports c b stood sound =
      let told = reports c b stood sound in
      (told.0, (is, told.1))

  -- the difference was refused
  pub changes_refused : (r : Result (Option Changes) Refusal) (e : Refusal) → r ≡ Err e → Reports {X = List DifferenceRow} old new reader (asks_difference variant from) with_difference (Err e) → ReadsChanges r
  changes_refused r e is reports = subst ReadsChanges (sym is) (λ c b stood sound.
      let told = reports c b stood sound in (
        told.0,
        elim told.1 [
          | inl lacked ↦ inl (inl lacked)
          | inr refused ↦ inr refused
        ],
      ))

  -- its name is none
  pub changes_lacked : (rows : List DifferenceRow) → Reports old new reader (asks_difference variant from) with_difference (Ok rows) → ReadsChanges (Err Unavailable)
  changes_lacked rows reports c b stood sound = ((reports c b stood sound).0, inl (inl refl))

-- what a name is read as
pub name_read : (is : Bool) (text name : List ℕ) (read : Option (List ℕ)) → read ≡ cond is (Some text) None → read ≡ Some name → name ≡ text
name_read true text name read made found = same_Some name text (sym found ∙ made)
name_read false text name read made found = absurd (none-some name (sym made ∙ found))

-- they are those of the variant that is named, or none
module _ (old new : Standing) (reader : Actor) (variant : List ℕ) (since : Option (Bor (List ℕ))) (r : Result (Option Changes) Refusal) where
  abbrev ReadsSince : Option (List ℕ) → Type 0
  ReadsSince from = Reads old new r (λ c b changes. AreChanges c b reader variant from changes) (λ c b e. MayRefusePicture c b reader variant from e)

  pub since_some : (from : Bor (List ℕ)) → since ≡ Some from → ReadsSince (Some from.now) → ReadsSince (since_of since)
  since_some from is reads = subst ReadsSince (ap since_of (sym is)) reads

  pub since_none : since ≡ None → r ≡ Ok None → new ≡ old → ReadsSince (since_of since)
  since_none is told same = subst ReadsSince (ap since_of (sym is))
      (subst (λ (s : Result (Option Changes) Refusal). Reads old new s (λ c b changes. AreChanges c b reader variant None changes) (λ c b e. MayRefusePicture c b reader variant None e)) (sym told)
      (λ c b stood sound. (subst (λ (s : Standing). s c b) (sym same) stood, refl)))

-- ---- the plan with its changes

module _ (reader : Actor) (variant : List ℕ) (since : Option (List ℕ)) (s0 s1 : Standing) where
  abbrev ReadsPicture : Standing → Result Plan Refusal → Type 0
  ReadsPicture s r = Reads s0 s r (λ c b plan. IsPicture c b reader variant since plan) (λ c b e. MayRefusePicture c b reader variant since e)

  -- its changes were refused
  pub changes_refuse : (r : Result Plan Refusal) (e : Refusal) → r ≡ Err e → Keeps s0 s1 (λ c b. MayRefusePicture c b reader variant since e) → ReadsPicture s1 r
  changes_refuse r e is keeps = subst (ReadsPicture s1) (sym is) keeps

  module _ (changes : Option Changes) (changed : Keeps s0 s1 (λ c b. AreChanges c b reader variant since changes)) (s2 : Standing) where
    -- the plan was refused
    pub plan_refuses : (r : Result Plan Refusal) (e : Refusal) → r ≡ Err e → Keeps s1 s2 (λ c b. MayRefusePlan c b reader variant e) → ReadsPicture s2 r
    plan_refuses r e is keeps = subst (ReadsPicture s2) (sym is) (λ c b stood sound.
        let told = keeps c b (changed c b stood sound).0 sound in
        (told.0, inl told.1))

    -- all of it was read
    pub picture_read : (plan : Plan) → Keeps s1 s2 (λ c b. IsPlan c b reader variant plan) → ReadsPicture s2 (Ok (record plan { changes = changes }))
    picture_read plan keeps c b stood sound =
        let known = changed c b stood sound in
        let told = keeps c b known.0 sound in
        let is = told.1 in (
          told.0,
          record {
            is_plan = record {
              params = is.params;
              name = is.name;
              row = is.row;
              listed = is.listed;
              same = is.same;
              viewer = is.viewer;
              suppliers = is.suppliers;
              grants = is.grants;
              cells = is.cells;
              frames = is.frames;
            };
            changes = known.1;
          },
        )
