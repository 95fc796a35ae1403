-- What was gathered of two variants from the suppliers' pages, one supplier after another.
use Rattle.std.proofs.Common.{◌≡◌, ℕ, ◌≤◌, List, [], ◌∷◌, ◌++◌, length, take, Some, Ok, sym, ap, ◌∙◌}
use Rattle.std.specs.Prelude.{⊤}
use Rattle.std.proofs.lemmas.List.{take_all}
use Rattle.fr_base.specs.Book.{Variant}
use Rattle.fr_base.specs.Differences.{grants_differ}
use Rattle.fr_base.specs.declared.answer.DifferenceRow.{DifferenceRow}
use Rattle.fr_base.specs.declared.answer.LaneHolder.{LaneHolder}
use Rattle.fr_base.specs.declared.name.Name.{Name}
use Rattle.fr_base.specs.declared.params.Params.{Params}
use Rattle.fr_office.specs.Compared.{AreTaken, Compares, compared_rows, rows_among, rows_told, supplier_told, suppliers_told}
use Rattle.fr_office.specs.Shared.{grants_among, with_rows}
use Rattle.fr_office.specs.Shown.{FindsPage, Gathers}
use Rattle.fr_office.specs.declared.queries.compared.ComparedRows.{ComparedRows}
use Rattle.fr_office.specs.Kinds.{ByKind, with_more}
use Rattle.fr_office.proofs.GatherLaws.{page-rows}
use Rattle.fr_office.proofs.GrantLaws.{lanes-more, lanes_none}
use Rattle.fr_world.specs.Held.{Standing}
use Rattle.fr_world.specs.Loads.{grants_in_lanes}
use Rattle.fr_world.specs.Pages.{PageData, own_rows_of}
use Rattle.fr_world.specs.declared.page.ChannelSlot.{ChannelSlot}
use Rattle.fr_base.specs.Book.{Holder, own, own_grants}
use Rattle.fr_base.specs.Keys.{channel_slots}
use Rattle.fr_base.specs.Tables.{Table}
use Rattle.fr_office.proofs.GatherLaws.{flat-more}

-- ---- of one page

pub page-taken : (old new : Standing) (s v : Name) (page : PageData) (held after : List (ChannelSlot × LaneHolder)) (rows : ComparedRows) → FindsPage (Some page) s v old new (Ok tt) →
    rows ≡ compared_rows page.params (own_rows_of page).frames → grants_in_lanes after ≡ with_rows (grants_in_lanes held) (own_rows_of page).grants.rows →
    Gathers v (λ p x rows. AreTaken p s x held after rows) old new (Ok rows)
page-taken old new s v page held after rows finds made added =
    page-rows old old new s v page (λ p x. ⊤) (λ p x. AreTaken p s x held after rows) (λ c b stood. (stood, λ x there. tt)) finds
    (λ x of_s has _. record {
      rows_are = made ∙ ap (compared_rows page.params) (has.frames ∙ ap (λ t. own t x.frames) of_s);
      holders = added ∙ ap (λ (t : Table channel_slots Holder). with_rows (grants_in_lanes held) t.rows) (has.grants ∙ ap (λ t. own_grants t x.grants) of_s);
    })

-- ---- of the suppliers so far

-- their grants of both variants, and in what their frames differ
pub record AreGathered (p : Params) (ss : List Name) (new before : Variant) (olds news : List (ChannelSlot × LaneHolder)) (told : ByKind DifferenceRow) : Type 0 where
  pub old_grants : grants_in_lanes olds ≡ grants_among ss before.grants
  pub new_grants : grants_in_lanes news ≡ grants_among ss new.grants
  pub frames : told ≡ suppliers_told p ss before new

abbrev pub GatheredSoFar : Standing → Standing → Name → Name → List Name → List (ChannelSlot × LaneHolder) → List (ChannelSlot × LaneHolder) → ByKind DifferenceRow → Type 0
GatheredSoFar old now v w ss olds news told = Compares {X = ⊤} v w (λ p new before _. AreGathered p ss new before olds news told) old now (Ok tt)

module _ (old : Standing) (v w : Name) where
  -- before the first
  pub compared-none : (olds news : List (ChannelSlot × LaneHolder)) (told : ByKind DifferenceRow) → olds ≡ [] → news ≡ [] →
      told ≡ record { frames = []; placements = []; signals = []; gaps = [] } → GatheredSoFar old old v w [] olds news told
  compared-none olds news told none no_news nothing c b stood =
      (stood, λ new before is was. record { old_grants = lanes_none olds none before.grants; new_grants = lanes_none news no_news new.grants; frames = nothing })

  told-more : (p : Params) (s : Name) (ss : List Name) (before new : Variant) →
      with_more (suppliers_told p ss before new) (supplier_told p before new s) ≡ suppliers_told p (ss ++ s ∷ []) before new
  told-more p s ss before new = λ i. record {
    frames = flat-more (λ t. (supplier_told p before new t).frames) ss s i;
    placements = flat-more (λ t. (supplier_told p before new t).placements) ss s i;
    signals = flat-more (λ t. (supplier_told p before new t).signals) ss s i;
    gaps = flat-more (λ t. (supplier_told p before new t).gaps) ss s i;
  }

  -- one supplier more
  pub compared-more : (mid one now : Standing) (s : Name) (ss more : List Name) (olds news olds_now news_now : List (ChannelSlot × LaneHolder)) (told told_now : ByKind DifferenceRow) (gone come : ComparedRows) →
      GatheredSoFar old mid v w ss olds news told →
      Gathers w (λ p x rows. AreTaken p s x olds olds_now rows) mid one (Ok gone) → Gathers v (λ p x rows. AreTaken p s x news news_now rows) one now (Ok come) →
      told_now ≡ with_more told (rows_told gone come) → more ≡ ss ++ s ∷ [] → GatheredSoFar old now v w more olds_now news_now told_now
  compared-more mid one now s ss more olds news olds_now news_now told told_now gone come so first second pushed is_more c b stood =
      let start = so c b stood in
      let was_taken = first c b start.0 in
      let is_taken = second c b was_taken.0 in (
        is_taken.0,
        λ new before is was.
            let so_far = start.1 new before is was in
            let taken = was_taken.1 before was in
            let taken_now = is_taken.1 new is in
            record {
              old_grants = lanes-more s ss more before.grants olds olds_now so_far.old_grants taken.holders is_more;
              new_grants = lanes-more s ss more new.grants news news_now so_far.new_grants taken_now.holders is_more;
              frames = pushed
                  ∙ (λ i. with_more (so_far.frames i) (rows_told (taken.rows_are i) (taken_now.rows_are i)))
                  ∙ told-more c.params s ss before new
                  ∙ ap (λ ts. suppliers_told c.params ts before new) (sym is_more);
            },
      )

  -- after the last, kind after kind
  pub compared-all : (now : Standing) (i : ℕ) (ss : List Name) (olds news : List (ChannelSlot × LaneHolder)) (told : ByKind DifferenceRow) (grants all : List DifferenceRow) → length ss ≤ i →
      GatheredSoFar old now v w (take i ss) olds news told → grants ≡ grants_differ (grants_in_lanes olds) (grants_in_lanes news) →
      all ≡ grants ++ told.frames ++ told.placements ++ told.signals ++ told.gaps →
      Compares v w (λ p new before rows. rows ≡ rows_among p ss before new) old now (Ok all)
  compared-all now i ss olds news told grants all last so differ joined c b stood =
      let so_far = so c b stood in (
        so_far.0,
        λ new before is was.
            let gathered = so_far.1 new before is was in
            joined
            ∙ (λ j. differ j ++ (gathered.frames j).frames ++ (gathered.frames j).placements ++ (gathered.frames j).signals ++ (gathered.frames j).gaps)
            ∙ ap (λ both. both ++ (suppliers_told c.params (take i ss) before new).frames ++ (suppliers_told c.params (take i ss) before new).placements
            ++ (suppliers_told c.params (take i ss) before new).signals ++ (suppliers_told c.params (take i ss) before new).gaps)
            (λ j. grants_differ (gathered.old_grants j) (gathered.new_grants j))
            ∙ ap (λ ts. rows_among c.params ts before new) (take_all i ss last),
      )
