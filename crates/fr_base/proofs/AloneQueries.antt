-- A query shows a supplier of its own rows what it shows it of all.
use Rattle.std.proofs.Common.{◌≡◌, ◌∙◌, ℕ, false, List, [], ◌∷◌, map, Some, Result, Ok, refl, sym, ap}
use Rattle.std.specs.Prelude.{◌==◌, ◌++◌}
use Rattle.fr_base.specs.Refusing.{◌>>=◌, ◌>>◌, refuse◌when◌}
use Rattle.fr_base.specs.Tables.{get, len, each}
use Rattle.fr_base.specs.Keys.{names, owned, channel_slots}
use Rattle.fr_base.specs.Names.{same_text}
use Rattle.fr_base.specs.Book.{Variant, Book, held_by, is_of, own, own_grants}
use Rattle.fr_base.specs.Queries.{grants_of, frames_of, sendings_of, gaps_of, named, signals_of, cluster_of, variant_row, variants_of, nodes_of, held, shown, found, reply}
use Rattle.fr_base.specs.Exports.{exported}
use Rattle.fr_base.specs.Differences.{grant_seen, rows_of_frames, seen_rows, grants_differ, frames_differ, differences}
use Rattle.fr_base.specs.Room.{own_room}
use Rattle.fr_base.specs.Alone.{own_variant, rows_of}
use Rattle.fr_base.specs.declared.name.Name.{Name}
use Rattle.fr_base.specs.declared.params.Params.{Params}
use Rattle.fr_base.specs.declared.answer.ReportRows.{ReportRows}
use Rattle.fr_base.specs.declared.answer.ReportRows.TheVariants as rows
use Rattle.fr_base.specs.declared.answer.Answer.TheVariants as answer
use Rattle.fr_base.specs.declared.refusal.Refusal.{Refusal}
use Rattle.fr_base.specs.declared.refusal.Refusal.TheVariants.{NoVariant, Released, NoFrame}
use Rattle.fr_base.specs.declared.actor.Actor.TheVariants.{Supplier}
use Rattle.fr_base.specs.declared.query.Query.{Query}
use Rattle.fr_base.specs.declared.query.Query.TheVariants.{Register as OfRegister, Variant as OfVariant, Difference}
use Rattle.fr_base.specs.declared.query.Inventory.{Inventory}
use Rattle.fr_base.specs.declared.query.Inventory.TheVariants.{Cluster, Variants, Nodes}
use Rattle.fr_base.specs.declared.report.Report.{Report}
use Rattle.fr_base.specs.declared.report.Report.TheVariants.{Grants, Frames, Schedule, Gaps, Layout, Load, Rows, Room, Export}
use Rattle.fr_base.proofs.AloneTables.{only-only}
use Rattle.fr_base.proofs.AloneRefusing.{alike_or}
use Rattle.fr_base.proofs.AloneRows.{rows_of-variant}
use Rattle.fr_base.proofs.LoadLaws.{load-own}

module _ (p : Params) (s : Name) where
  own_grants-own : (x : Variant) → own_grants s (own_grants s x.grants) ≡ own_grants s x.grants
  own_grants-own x = only-only channel_slots (λ _ h. held_by s (Some h)) x.grants

  own_frames-own : (x : Variant) → own s (own s x.frames) ≡ own s x.frames
  own_frames-own x = only-only owned (λ k _. is_of s k) x.frames

  shown-own : (x : Variant) (report : Report Name ℕ) → shown p (Supplier s) (own_variant s x) report ≡ shown p (Supplier s) x report
  unfolding shown own_variant seen_rows
  shown-own x Grants = ap (λ t. Ok (rows.Grants (grants_of t))) (own_grants-own x)
  shown-own x Frames = ap (λ t. Ok (rows.Frames (frames_of t))) (own_frames-own x)
  shown-own x Schedule = ap (λ t. Ok (rows.Schedule (sendings_of p t))) (own_frames-own x)
  shown-own x Gaps = ap (λ t. Ok (rows.Gaps (gaps_of p t))) (own_frames-own x)
  shown-own x Load = ap (λ t. Ok (rows.Load t)) (load-own p s x)
  shown-own x Rows = (λ i. Ok (rows.Seen (map grant_seen (own_grants-own x i).rows ++ rows_of_frames p (own_frames-own x i))))
  shown-own x (Room f repetition) =
      ap (λ t. (refuse Released when x.released) >> (own_room p t (own s (own s x.frames)) s f repetition >>= (λ places. Ok (rows.Room places)))) (own_grants-own x)
      ∙ ap (λ t. (refuse Released when x.released) >> (own_room p (own_grants s x.grants) t s f repetition >>= (λ places. Ok (rows.Room places)))) (own_frames-own x)
  shown-own x (Export header part) = ap (λ t. Ok (exported header part t.rows)) (own_frames-own x)
  shown-own x (Layout f) = ap (λ t. (refuse NoFrame when len (named f t) == 0) >> Ok (rows.Layout (signals_of (named f t)))) (own_frames-own x)

  -- in what two variants differ
  difference-own : (x y : Variant) → differences p (Supplier s) (own_variant s x) (own_variant s y) ≡ differences p (Supplier s) x y
  unfolding differences own_variant
  difference-own x y i = grants_differ (own_grants-own x i) (own_grants-own y i) ++ frames_differ p (own_frames-own x i) (own_frames-own y i)

  -- a variant is told alike whosever rows are in it
  rows-own : (es : List (Name × Variant)) → map variant_row es ≡ map variant_row (map (λ e. (e.0, own_variant s e.1)) es)
  unfolding own_variant
  rows-own [] = refl
  rows-own (e ∷ es) = ap (λ rest. variant_row e ∷ rest) (rows-own es)

  -- what the register holds, of its own rows and of all
  held-own : (b : Book) (inventory : Inventory) → held p b (Supplier s) inventory ≡ held p (rows_of s b) (Supplier s) inventory
  unfolding held rows_of variants_of each
  held-own b Cluster = ap (λ t. rows.Cluster (cluster_of p t)) (sym (only-only names (λ t _. same_text t s) b.suppliers))
  held-own b Variants = ap rows.Variants (rows-own b.variants.rows)
  held-own b Nodes = ap (λ t. rows.Nodes (nodes_of t)) (sym (only-only owned (λ k _. is_of s k) b.nodes))

  abbrev Same : Result ReportRows Refusal → Result ReportRows Refusal → Type 0
  Same r u = r ≡ u

  found-own : (b : Book) (query : Query Name ℕ) → found p b (Supplier s) query ≡ found p (rows_of s b) (Supplier s) query
  unfolding found
  found-own b (OfRegister inventory) = ap Ok (held-own b inventory)
  found-own b (OfVariant v report) = alike_or Same (λ e. refl) (own_variant s) (get b.variants v) _ (rows_of-variant s b v) NoVariant _ _ (λ x _. sym (shown-own x report))
  found-own b (Difference v from) =
      alike_or Same (λ e. refl) (own_variant s) (get b.variants v) _ (rows_of-variant s b v) NoVariant _ _ (λ y _.
      alike_or Same (λ e. refl) (own_variant s) (get b.variants from) _ (rows_of-variant s b from) NoVariant _ _ (λ x _.
      ap (λ t. Ok (rows.Difference t)) (sym (difference-own x y))))

  -- a query shows the supplier of its own rows what it shows it of all
  pub reply-own : (b : Book) (query : Query Name ℕ) → reply p b (Supplier s) query ≡ reply p (rows_of s b) (Supplier s) query
  unfolding reply
  reply-own b query = ap (λ r. r >>= (λ rows. Ok (answer.Report false rows))) (found-own b query)
