-- That a frame's placements are of so many cycles, and its signals stand by their starts, when it is added or changed.
use Rattle.std.proofs.Common.{◌≡◌, ℕ, [], is_some, inl, inr, arith, ap, sym, ◌∙◌, true≢false}
use Rattle.std.specs.List.{AllByRecursion}
use Rattle.sqlite_keyed.proofs.ListLemmas.{all_map, all_weaker}
use Rattle.fr_base.specs.Tables.{empty, get, insert, remove}
use Rattle.fr_base.specs.Keys.{placement_order}
use Rattle.fr_base.specs.Book.{Frame}
use Rattle.fr_base.specs.Layouts.{with_signal, without_signal}
use Rattle.fr_base.specs.Queries.{placements_in}
use Rattle.fr_base.specs.Signals.{SignalData}
use Rattle.fr_base.specs.declared.name.Name.{Name}
use Rattle.fr_base.specs.declared.placement.Placement.{Placement}
use Rattle.fr_base.proofs.SoundTables.{contains-cases, contains-fewer}
use Rattle.fr_base.proofs.TableLaws.{get-empty}
use Rattle.fr_store.specs.StandsFor.{IsFine}
use Rattle.fr_store.proofs.SignalSections.{rise-with, rise-without}
use Rattle.fr_store.proofs.TurnLemmas.{each_found}

module _ (count : ℕ) where
  pub fine_empty : (node : Name) → IsFine count (record { node = node; placements = empty; signals = [] })
  fine_empty node = record {
    by_start = λ k d low short. absurd (omega arith);
    counted = λ q there. absurd (true≢false (sym there ∙ ap is_some (get-empty placement_order q)));
  }

  module _ (frame : Frame) (fine : IsFine count frame) where
    pub fine_placed : (q : Placement) → q.cycles.count ≡ count → IsFine count (record frame { placements = insert frame.placements q tt })
    fine_placed q same = record {
      by_start = fine.by_start;
      counted = λ r there. elim (contains-cases frame.placements q tt r there) [ inl is ↦ ap (λ (p : Placement). p.cycles.count) is ∙ same | inr before ↦ fine.counted r before ];
    }

    pub fine_unplaced : (q : Placement) → IsFine count (record frame { placements = remove frame.placements q })
    fine_unplaced q = record { by_start = fine.by_start; counted = λ r there. fine.counted r (contains-fewer placement_order frame.placements q r there) }

    pub fine_with : (signal : SignalData) → IsFine count (record frame { signals = with_signal signal frame.signals })
    fine_with signal = record { by_start = rise-with signal frame.signals fine.by_start; counted = fine.counted }

    pub fine_without : (name : Name) → IsFine count (record frame { signals = without_signal name frame.signals })
    fine_without name = record { by_start = rise-without name frame.signals fine.by_start; counted = fine.counted }

    -- each of its placements is of so many
    pub each_counted : AllByRecursion (λ q. q.cycles.count ≡ count) (placements_in frame)
    unfolding get
    each_counted =
        all_map (λ q. q.cycles.count ≡ count) (λ e. e.0) frame.placements.rows
        (all_weaker _ (λ e. e.0.cycles.count ≡ count) (λ e found. fine.counted e.0 (ap is_some found)) frame.placements.rows (each_found placement_order frame.placements.rows frame.placements.sorted))
