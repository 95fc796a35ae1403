-- In what two variants differ, as it is gathered of one after the other, is what the register shows.
use Rattle.std.proofs.Common.{◌≡◌, ℕ, Bool, true, false, List, [], ◌∷◌, ◌++◌, map, Option, Some, None, is_some, Result, Ok, Err, refl, sym, ap, ◌∙◌, inl, inr, append_assoc}
use Rattle.std.specs.List.{flat_map}
use Rattle.fr_base.specs.Book as book
use Rattle.fr_base.specs.Book.{Book, Frame, Variant}
use Rattle.fr_base.specs.Cluster.{Cluster}
use Rattle.fr_base.specs.Differences.{all_placements, all_signals, differences, frame_seen, frames_differ, gap_of, gap_seen, grant_seen, grants_differ, placed_frames, placement_seen, same_gap, same_holder, same_signal, signal_seen, starts}
use Rattle.fr_base.specs.Exports.{frame_records, placement_records, signal_records}
use Rattle.fr_base.specs.Keys.{channel_slots, owned}
use Rattle.fr_base.specs.Merging.{merge}
use Rattle.fr_base.specs.Names.{same_text}
use Rattle.fr_base.specs.Queries.{found as rows_found, gap_row, grant_row, grants_of}
use Rattle.fr_base.specs.Refusing.{◌>>=◌, ◌or◌}
use Rattle.fr_base.specs.Seen.{seen_frames, seen_grants}
use Rattle.fr_base.specs.Sound.{IsSound}
use Rattle.fr_base.specs.Tables.{Order, Table, contains, each, get, only}
use Rattle.fr_base.specs.declared.actor.Actor.{Actor}
use Rattle.fr_base.specs.declared.actor.Actor.TheVariants.{Integrator, Supplier}
use Rattle.fr_base.specs.declared.answer.DifferenceRow.{DifferenceRow}
use Rattle.fr_base.specs.declared.answer.GrantRow.{GrantRow}
use Rattle.fr_base.specs.declared.answer.SeenRow.{SeenRow}
use Rattle.fr_base.specs.declared.channel.Channel.{Channel}
use Rattle.fr_base.specs.declared.answer.ReportRows.{ReportRows}
use Rattle.fr_base.specs.declared.answer.ReportRows.TheVariants as shows
use Rattle.fr_base.specs.declared.name.Name.{Name}
use Rattle.fr_base.specs.declared.params.Params.{Params}
use Rattle.fr_base.specs.declared.query.Query.TheVariants.{Difference}
use Rattle.fr_base.specs.declared.refusal.Refusal.{Refusal}
use Rattle.fr_base.specs.declared.refusal.Refusal.TheVariants.{NoVariant}
use Rattle.fr_base.proofs.SoundTables.{value_of}
use Rattle.fr_office.specs.Carried.{Replies}
use Rattle.fr_office.specs.Compared.{Compares, SeesDifferences, kind_told, rows_among}
use Rattle.fr_office.specs.Shown.{seen_names}
use Rattle.fr_office.proofs.SeenRows.{In-filter, frames-seen, grants-seen}
use Rattle.fr_office.proofs.FlatRows.{Rise, frame-keys, gap-keys, placement-keys, signal-keys, signals-rise}
use Rattle.fr_office.proofs.PageRows.{FrameEntry}
use Rattle.fr_office.proofs.SupplierMerges.{frames-told, gaps-told, placements-told, rows_in, signals-told}
use Rattle.fr_world.specs.Held.{Standing}
use Rattle.fr_world.specs.KeyedRows.{by_key, frame_entry, gap_entry, grant_entry, placement_entry, same_at, signal_entry}
use Rattle.fr_world.proofs.AmongLaws.{In}
use Rattle.fr_world.proofs.MergedRows.{merge-between}

-- ---- the grants of both

pub grant-keys : (t : Table channel_slots book.Holder) → map grant_entry (grants_of t) ≡ t.rows
unfolding grants_of
grant-keys t = again t.rows
  where
    again : (es : List ((ℕ × Channel) × book.Holder)) → map grant_entry (map grant_row es) ≡ es
    again [] = refl
    again (e ∷ es) = ap (λ rest. e ∷ rest) (again es)

-- what a merge of grants tells
abbrev pub grants_merged : List GrantRow → List GrantRow → List DifferenceRow
grants_merged before new = merge (by_key channel_slots grant_entry) (same_at same_holder grant_entry) (λ r. grant_seen (grant_entry r)) before new

pub grants-merged : (before new : Table channel_slots book.Holder) → grants_merged (grants_of before) (grants_of new) ≡ grants_differ before new
unfolding grants_differ
grants-merged before new = merge-between channel_slots same_holder grant_seen grant_entry before new (grants_of before) (grants_of new) (grant-keys before) (grant-keys new)

-- ---- the frames of both

module _ (p : Params) (before new : Table owned Frame) where
  -- what a merge of rows by their keys tells
  abbrev told : {X K V : Type 0} → Order K → (V → V → Bool) → (K × V → SeenRow) → (X → K × V) → (FrameEntry → List X) → List DifferenceRow
  told o same seen entry rows = merge (by_key o entry) (same_at same entry) (λ r. seen (entry r)) (flat_map rows before.rows) (flat_map rows new.rows)

  frames-merged : ((e : FrameEntry) → In e before.rows → Rise e) → ((e : FrameEntry) → In e new.rows → Rise e) →
      told owned same_text frame_seen frame_entry frame_records
      ++ told placed_frames (λ _ _. true) placement_seen placement_entry placement_records
      ++ told starts same_signal signal_seen signal_entry signal_records
      ++ told owned same_gap gap_seen gap_entry (λ e. gap_row p e ∷ [])
      ≡ frames_differ p before new
  unfolding frames_differ
  frames-merged rose rise = λ i.
      merge-between owned same_text frame_seen frame_entry (each (λ f. f.node) before) (each (λ f. f.node) new) _ _ (frame-keys before) (frame-keys new) i
      ++ merge-between placed_frames (λ _ _. true) placement_seen placement_entry (all_placements before) (all_placements new) _ _ (placement-keys before) (placement-keys new) i
      ++ merge-between starts same_signal signal_seen signal_entry (all_signals before) (all_signals new) _ _ (signal-keys before rose) (signal-keys new rise) i
      ++ merge-between owned same_gap gap_seen gap_entry (each (gap_of p) before) (each (gap_of p) new) _ _ (gap-keys p before) (gap-keys p new) i

-- ---- as the actor sees them

pub append-five : {X : Type 0} (vs ws xs ys zs : List X) → vs ++ ws ++ xs ++ ys ++ zs ≡ vs ++ (ws ++ xs ++ ys ++ zs)
append-five vs ws xs ys zs =
    ap (λ l. l ++ ys ++ zs) (append_assoc vs ws xs)
    ∙ ap (λ l. l ++ zs) (append_assoc vs (ws ++ xs) ys)
    ∙ append_assoc vs (ws ++ xs ++ ys) zs

module _ (c : Cluster) (b : Book) (v : Name) (x : Variant) (sound : IsSound c b) (there : get b.variants v ≡ Some x) where
  pub signals-seen : (actor : Actor) (e : FrameEntry) → In e (seen_frames actor x.frames).rows → Rise e
  unfolding only
  signals-seen Integrator e i = signals-rise c b v x sound there e i
  signals-seen (Supplier s) e i = signals-rise c b v x sound there e (In-filter (λ (e : FrameEntry). same_text e.0.0 s) (λ _. true) e x.frames.rows i)

-- the rows of those whom the actor sees
pub rows-differ : (c : Cluster) (b : Book) (v w : Name) (new before : Variant) (actor : Actor) → IsSound c b → get b.variants v ≡ Some new → get b.variants w ≡ Some before →
    rows_among c.params (seen_names actor b) before new ≡ differences c.params actor before new
unfolding differences
rows-differ c b v w new before actor sound is was =
    let p = c.params in
    (λ i.
    grants_differ (grants-seen c b w before sound was actor i) (grants-seen c b v new sound is actor i)
    ++ (frames-told b before new actor p ∙ of_kind owned same_text frame_seen frame_entry frame_records) i
    ++ (placements-told b before new actor p ∙ of_kind placed_frames (λ _ _. true) placement_seen placement_entry placement_records) i
    ++ (signals-told b before new actor p ∙ of_kind starts same_signal signal_seen signal_entry signal_records) i
    ++ (gaps-told b before new actor p ∙ of_kind owned same_gap gap_seen gap_entry (λ e. gap_row p e ∷ [])) i)
    ∙ append-five (grants_differ (seen_grants actor before.grants) (seen_grants actor new.grants)) _ _ _ _
    ∙ ap (λ rest. grants_differ (seen_grants actor before.grants) (seen_grants actor new.grants) ++ rest)
    (frames-merged p (seen_frames actor before.frames) (seen_frames actor new.frames) (signals-seen c b w before sound was actor) (signals-seen c b v new sound is actor))
  where
    of_kind : {X K V : Type 0} (o : Order K) (same : V → V → Bool) (seen : K × V → SeenRow) (entry : X → K × V) (rows : FrameEntry → List X) →
        kind_told o same seen entry (flat_map (rows_in rows before) (seen_names actor b)) (flat_map (rows_in rows new) (seen_names actor b))
        ≡ told c.params (seen_frames actor before.frames) (seen_frames actor new.frames) o same seen entry rows
    of_kind o same seen entry rows = λ i. kind_told o same seen entry (frames-seen c b w before sound was actor rows i) (frames-seen c b v new sound is actor rows i)

-- what was gathered of those whom the actor sees
pub gathered-seen : (old now : Standing) (actor : Actor) (v w : Name) (suppliers : List Name) (r : Result (List DifferenceRow) Refusal) →
    ((c : Cluster) (b : Book) → old c b → suppliers ≡ seen_names actor b) → Compares v w (λ p new before rows. rows ≡ rows_among p suppliers before new) old now r → SeesDifferences actor v w old now r
gathered-seen old now actor v w suppliers (Ok rows) known told c b stood sound =
    let so = told c b stood in
    (so.0, λ new before is was. so.1 new before is was ∙ ap (λ ss. rows_among c.params ss before new) (known c b stood) ∙ rows-differ c b v w new before actor sound is was)
gathered-seen old now actor v w suppliers (Err e) known told c b stood sound =
    let so = told c b stood in (
      so.0,
      λ new before is was. elim so.1 [
        | inl lacks ↦ lacks
        | inr none ↦ elim none.1 [
          | inl gone ↦ let no : Some new ≡ None = sym is ∙ gone in cc
          | inr gone ↦ let no : Some before ≡ None = sym was ∙ gone in cc
        ]
      ],
    )

-- ---- the answer

module _ (p : Params) (b : Book) (actor : Actor) (v w : Name) where
  abbrev told_of : Option Variant → Option Variant → Result ReportRows Refusal
  told_of o q = (o or NoVariant) >>= λ new. (q or NoVariant) >>= λ before. Ok (shows.Difference (differences p actor before new))

  found-told : rows_found p b actor (Difference v w) ≡ told_of (get b.variants v) (get b.variants w)
  unfolding rows_found
  found-told = refl

  found-both : (new before : Variant) → get b.variants v ≡ Some new → get b.variants w ≡ Some before → rows_found p b actor (Difference v w) ≡ Ok (shows.Difference (differences p actor before new))
  unfolding ◌>>=◌ ◌or◌
  found-both new before is was = found-told ∙ (λ i. told_of (is i) (was i))

  found-no_new : get b.variants v ≡ None → rows_found p b actor (Difference v w) ≡ Err NoVariant
  unfolding ◌>>=◌ ◌or◌
  found-no_new none = found-told ∙ ap (λ o. told_of o (get b.variants w)) none

  found-no_old : get b.variants w ≡ None → rows_found p b actor (Difference v w) ≡ Err NoVariant
  unfolding ◌>>=◌ ◌or◌
  found-no_old none = found-told ∙ by_new (get b.variants v) (get b.variants w) none
    where
      by_new : (o q : Option Variant) → q ≡ None → told_of o q ≡ Err NoVariant
      by_new None q e = refl
      by_new (Some new) q e = ap (told_of (Some new)) e

no_value : {X : Type 0} (o : Option X) → is_some o ≡ false → o ≡ None
no_value None e = refl
no_value (Some x) e = cc

-- whether a variant is there
abbrev Has : Standing → Standing → Name → Bool → Type 0
Has old now v has = (c : Cluster) (b : Book) → old c b → now c b × (has ≡ contains b.variants v)

module _ (old mid : Standing) (actor : Actor) (v w : Name) where
  pub no_new-replied : (has : Bool) → Has old mid v has → has ≡ false → Replies (λ c b. rows_found c.params b actor (Difference v w)) old mid (Err NoVariant)
  no_new-replied has told is c b stood sound =
      let first = told c b stood in
      (first.0, inr (found-no_new c.params b actor v w (no_value (get b.variants v) (sym first.1 ∙ is))))

  pub no_old-replied : (last : Standing) (has had : Bool) → Has old mid v has → Has mid last w had → had ≡ false → Replies (λ c b. rows_found c.params b actor (Difference v w)) old last (Err NoVariant)
  no_old-replied last has had told then is c b stood sound =
      let second = then c b (told c b stood).0 in
      (second.0, inr (found-no_old c.params b actor v w (no_value (get b.variants w) (sym second.1 ∙ is))))

  module _ (last now : Standing) (has had : Bool) (told : Has old mid v has) (then : Has mid last w had) (is : has ≡ true) (was : had ≡ true) where
    pub differences-replied : (rows : List DifferenceRow) → SeesDifferences actor v w last now (Ok rows) → Replies (λ c b. rows_found c.params b actor (Difference v w)) old now (Ok (shows.Difference rows))
    differences-replied rows sees c b stood sound =
        let first = told c b stood in
        let second = then c b first.0 in
        let new = value_of (get b.variants v) (sym first.1 ∙ is) in
        let before = value_of (get b.variants w) (sym second.1 ∙ was) in
        let seen = sees c b second.0 sound in
        (seen.0, found-both c.params b actor v w new.0 before.0 new.1 before.1 ∙ ap (λ rs. Ok (shows.Difference rs)) (sym (seen.1 new.0 before.0 new.1 before.1)))

    pub differences-lacked : (e : Refusal) (r : Result ReportRows Refusal) → r ≡ Err e → SeesDifferences actor v w last now (Err e) → Replies (λ c b. rows_found c.params b actor (Difference v w)) old now r
    differences-lacked e r made sees c b stood sound =
        let first = told c b stood in
        let second = then c b first.0 in
        let new = value_of (get b.variants v) (sym first.1 ∙ is) in
        let before = value_of (get b.variants w) (sym second.1 ∙ was) in
        let seen = sees c b second.0 sound in
        (seen.0, rw made (inl (seen.1 new.0 before.0 new.1 before.1)))
