-- The rows of a proposal are those of its wishes, in their order.
use Rattle.std.proofs.Common.{◌≡◌, ◌∙◌, ℕ, false, List, [], ◌∷◌, map, Option, Some, None, Result, Ok, Err, IsTrue, refl, sym, ap}
use Rattle.std.specs.List.{AllByRecursion, AllZip, cons_option, list_all}
use Rattle.fr_base.specs.Refusing.{◌>>=◌, ◌or◌}
use Rattle.fr_base.specs.Tables.{Table}
use Rattle.fr_base.specs.Keys.{owned}
use Rattle.fr_base.specs.Cells.{slots_of}
use Rattle.fr_base.specs.Channels.{channels_in, has_channel}
use Rattle.fr_base.specs.OwnRows.{OwnRows, own_rows}
use Rattle.fr_base.specs.Wishes.{wishes_of_body}
use Rattle.fr_base.specs.RefusedWishes.{Counted, counted_frames, frames_beside, count_wish, judged, judge, asked_at, asked_of}
use Rattle.fr_base.specs.Proposals.{place_at, proposal_row, proposal, proposal_of}
use Rattle.fr_base.specs.ProposalLaws.{IsRowOf, RowsAreTheirWishes}
use Rattle.fr_base.specs.declared.placement.Placement.{Placement}
use Rattle.fr_base.specs.declared.proposal.Given.{Given}
use Rattle.fr_base.specs.declared.proposal.ProposedPlacement.{ProposedPlacement}
use Rattle.fr_base.specs.declared.refusal.Refusal.{Refusal}
use Rattle.fr_base.specs.declared.wish.Asked.{Asked}
use Rattle.fr_base.specs.declared.wish.Wish.{Wish}
use Rattle.fr_base.specs.declared.wish.WishRead.{WishRead}
use Rattle.fr_base.proofs.AskedLines.{Member, body-numbered}
use Rattle.fr_base.proofs.TurnOrder.{each-of}
use Rattle.fr_base.proofs.GivenLaws.{the_judged, all_given, wish-admitted, judged-admitted}
use Rattle.fr_base.proofs.GivenPlaces.{placed-stands}
use Rattle.fr_base.proofs.CertainLaws.{held-has, sound-count}

module _ (own : OwnRows) (given : List Given) where
  -- what is given at the line of a wish has its channels and its repetition
  abbrev AreAsWished : List Asked → Type 0
  AreAsWished asked = AllByRecursion (λ a. (q : Placement) → place_at given a.line ≡ Some q → (q.channels ≡ a.wish.channels) × (q.cycles.repetition ≡ a.wish.repetition)) asked

  refused-row : (line : ℕ) (refusal : Refusal) (placed : ProposedPlacement) → (proposal_row given (record { line = line; wish = Err refusal })).proposed ≡ Ok placed → ⊥
  unfolding proposal_row ◌>>=◌
  refused-row line refusal placed e = cc

  placed-row : (line : ℕ) (wish : Wish) (place : Option Placement) → place_at given line ≡ place → ((q : Placement) → place_at given line ≡ Some q → (q.channels ≡ wish.channels) × (q.cycles.repetition ≡ wish.repetition)) →
      (placed : ProposedPlacement) → (proposal_row given (record { line = line; wish = Ok wish })).proposed ≡ Ok placed →
      wish ≡ record { frame = placed.frame; node = placed.node; channels = placed.placement.channels; repetition = placed.placement.cycles.repetition }
  unfolding proposal_row ◌>>=◌ ◌or◌
  placed-row line wish None e wished placed h = let no = rw e at h in cc
  placed-row line wish (Some q) e wished placed h =
      let is : ◌≡◌ {A = Result ProposedPlacement Refusal} (Ok (record { frame = wish.frame; node = wish.node; placement = q })) (Ok placed) = rw e at h in
      let one : record { frame = wish.frame; node = wish.node; placement = q } ≡ placed = same_ok _ placed is in
      let its = wished q e in
      λ i. record {
        frame = (one i).frame;
        node = (one i).node;
        channels = (sym its.0 ∙ ap (λ (z : ProposedPlacement). z.placement.channels) one) i;
        repetition = (sym its.1 ∙ ap (λ (z : ProposedPlacement). z.placement.cycles.repetition) one) i;
      }
    where
      same_ok : (x y : ProposedPlacement) → ◌≡◌ {A = Result ProposedPlacement Refusal} (Ok x) (Ok y) → x ≡ y
      same_ok x y e = cc

  pub rows-of : (reads : List WishRead) (counted : Table owned Counted) → AreAsWished (asked_of (judge own counted reads)) → AllZip IsRowOf reads (map (proposal_row given) (judge own counted reads))
  unfolding judge proposal_row
  rows-of [] counted h = tt
  rows-of (read ∷ reads) counted h =
      (elim (judged own counted read.wish) as (λ j. judged own counted read.wish ≡ j → AreAsWished (cons_option (asked_at read.line j) (asked_of (judge own (count_wish own.supplier counted j) reads))) →
      IsRowOf read (proposal_row given (record { line = read.line; wish = j })) × AllZip IsRowOf reads (map (proposal_row given) (judge own (count_wish own.supplier counted j) reads))) [
        | Ok wish ↦ λ e k. (
          record {
            line = refl;
            placed = λ placed is. (judged-admitted own counted read.wish wish e).0 ∙ ap Ok (placed-row read.line wish (place_at given read.line) refl k.0 placed is);
          },
          rows-of reads (count_wish own.supplier counted (Ok wish)) k.1,
        )
        | Err refusal ↦ λ e k. (
          record { line = refl; placed = λ placed is. absurd (refused-row read.line refusal placed is) },
          rows-of reads counted k,
        )
      ]) refl h

pub rows_are_wishes : RowsAreTheirWishes
unfolding own_rows proposal proposal_of frames_beside
rows_are_wishes c b s v x body sound found =
    let mine = own_rows c.params b s x in
    let reads = wishes_of_body c.params body in
    let numbered = body-numbered c.params body in
    let asked = asked_of (the_judged mine false reads numbered.0 numbered.1) in
    let fits : (a : Asked) → Member a asked → IsTrue (list_all (has_channel c.params.channels) (channels_in a.wish.channels)) =
    λ a at. held-has c b s v a.wish.node x a.wish.channels (slots_of c.params) sound found (wish-admitted mine false reads numbered.0 numbered.1 a at).1.held in
    rows-of mine (all_given mine false reads numbered.0 numbered.1) reads (counted_frames (frames_beside mine false reads))
    (each-of _ asked (λ a at q e. let may = placed-stands mine reads numbered.0 numbered.1 (sound-count c b sound) fits a q at e in (may.channels, may.repetition)))
