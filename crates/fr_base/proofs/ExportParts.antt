-- The parts of an export, one after another, are all its records; each is within the limit, and behind the last there is
-- nothing.
use Rattle.std.proofs.Common.{◌≡◌, ℕ, zero, suc, ◌-◌, ◌+◌, ◌≤◌, ◌<◌, All, Bool, true, false, cond, List, [], ◌∷◌, ◌++◌, map, length, Option, Some, None, Ok, Err, IsTrue, refl, sym, ap, subst, ◌∙◌, ◌⊎◌, inl, inr, arith, append_assoc, append-nil, length-append}
use Rattle.std.specs.Prelude.{nat_le, ⊤}
use Rattle.std.specs.List.{flat_map}
use Rattle.std.proofs.lemmas.Bool.{cases_Bool, leb-true, leb-false}
use Rattle.std.proofs.lemmas.Bool.Decides.{nat_tests}
use Rattle.std.proofs.lemmas.Grind.{flat_map-append}
use Rattle.std.proofs.lemmas.List.{length-map}
use Rattle.std.proofs.lemmas.List.Elements.{All-head, All-tail, All-map, All-weaker}
use Rattle.fr_base.specs.Refusing.{◌>>=◌, ◌>>◌, ◌or◌, refuse◌when◌}
use Rattle.fr_base.specs.Tables.{get, len}
use Rattle.fr_base.specs.Keys.{owned}
use Rattle.fr_base.specs.Checks.{is_integrator, name, query, check}
use Rattle.fr_base.specs.Cluster.{Cluster}
use Rattle.fr_base.specs.Names.{is_name}
use Rattle.fr_base.specs.Book.{Frame, Variant, Book, is_of, own}
use Rattle.fr_base.specs.Exports.{fitting, part_of, frame_records, placement_records, signal_records, exported}
use Rattle.fr_base.specs.ExportParts.{all_of, joined, parts, IsFull, IsPart, HaveAll, AreParts, frames_seen, ExportHasParts, export_told, ExportIsTold, frames_told, placements_told, signals_told, part_told, FewRecordsAreTold, AllRecordsAreTold}
use Rattle.fr_base.specs.Queries.{shown, found}
use Rattle.fr_base.specs.Step.{knows, step}
use Rattle.fr_base.specs.Sound.{IsSoundFrame, IsSoundVariant, IsSound}
use Rattle.fr_base.specs.declared.limits.TheConstants.{MAX_ROWS}
use Rattle.fr_base.specs.Signals.{SignalData}
use Rattle.fr_base.specs.declared.placement.Placement.{Placement}
use Rattle.fr_base.specs.declared.name.Name.{Name}
use Rattle.fr_base.specs.declared.actor.Actor.{Actor}
use Rattle.fr_base.specs.declared.actor.Actor.TheVariants.{Integrator, Supplier}
use Rattle.fr_base.specs.declared.import.Header.{Header}
use Rattle.fr_base.specs.declared.import.Header.TheVariants.{Frames, Placements, Signals}
use Rattle.fr_base.specs.declared.answer.Answer.{Answer}
use Rattle.fr_base.specs.declared.answer.PlacementRecord.{PlacementRecord}
use Rattle.fr_base.specs.declared.answer.SignalRecord.{SignalRecord}
use Rattle.fr_base.specs.declared.answer.Answer.TheVariants.{Report, Refused}
use Rattle.fr_base.specs.declared.refusal.Refusal.{Refusal}
use Rattle.fr_base.specs.declared.refusal.Refusal.TheVariants.{UnknownKey, BadName, NoVariant}
use Rattle.fr_base.specs.declared.request.Request.{Request}
use Rattle.fr_base.specs.declared.request.Request.TheVariants.{Query}
use Rattle.fr_base.specs.declared.query.Query.TheVariants.{Variant as OfVariant}
use Rattle.fr_base.specs.declared.report.Report.TheVariants.{Export}
use Rattle.fr_base.specs.declared.request.Checked.TheVariants as checked
use Rattle.fr_base.proofs.DifferenceRows.{rows-found}
use Rattle.fr_base.proofs.QuerySteps.{only_told, told_of, answers, unknown, unchecked, query-step}
use Rattle.fr_base.proofs.SoundTables.{only-stood}

module _ {R : Type 0} where
  -- no frame has more records than a part
  abbrev IsFew : List R → Type 0
  IsFew records = length records ≤ MAX_ROWS

  abbrev AreFew : List (List R) → Type 0
  AreFew lists = All IsFew lists

  -- the records in a part that goes on behind these, and the frames behind it
  abbrev more_of : ℕ → List R → List (List R) → List R × List (List R)
  more_of room records rest = fitting (room - length records) rest

  -- a part that takes these records, if there is room, and goes on
  abbrev taken_if : Bool → ℕ → List R → List (List R) → List R × List (List R)
  taken_if has_room room records rest =
      cond has_room (records ++ (more_of room records rest).0, (more_of room records rest).1) ([], records ∷ rest)

  fits : (room : ℕ) (records : List R) (rest : List (List R)) → nat_le (length records) room ≡ true →
      fitting room (records ∷ rest) ≡ (records ++ (more_of room records rest).0, (more_of room records rest).1)
  unfolding fitting
  fits room records rest h = ap (λ b. taken_if b room records rest) h

  stops : (room : ℕ) (records : List R) (rest : List (List R)) → nat_le (length records) room ≡ false →
      fitting room (records ∷ rest) ≡ ([], records ∷ rest)
  unfolding fitting
  stops room records rest h = ap (λ b. taken_if b room records rest) h

  -- ---- one part

  -- so many records leave no room for the next frame's
  abbrev IsFullIn : ℕ → List R → List (List R) → Type 0
  IsFullIn room part [] = ⊤
  IsFullIn room part (records ∷ rest) = room < length part + length records

  -- what there is room for: whole frames, and no room for the next one
  record AreTaken (room : ℕ) (lists : List (List R)) (made : List R × List (List R)) : Type 0 where
    taken : List (List R)
    is_all : lists ≡ taken ++ made.1
    has : made.0 ≡ all_of taken
    few : length made.0 ≤ room
    full : IsFullIn room made.0 made.1

  full-more : (room : ℕ) (records part : List R) (behind : List (List R)) → length records ≤ room →
      IsFullIn (room - length records) part behind → IsFullIn room (records ++ part) behind
  full-more room records part [] within full = tt
  full-more room records part (next ∷ behind) within full = rw (length-append records part) (omega (arith, within, full))

  fitting-takes : (room : ℕ) (lists : List (List R)) → AreTaken room lists (fitting room lists)
  unfolding fitting
  fitting-takes room [] = record { taken = []; is_all = refl; has = refl; few = omega arith; full = tt }
  fitting-takes room (records ∷ rest) = by (nat_le (length records) room) refl (fitting-takes (room - length records) rest)
    where
      by : (b : Bool) → nat_le (length records) room ≡ b →
          AreTaken (room - length records) rest (more_of room records rest) →
          AreTaken room (records ∷ rest) (fitting room (records ∷ rest))
      by true e more =
          let within : length records ≤ room = leb-true (length records) room e in
          let part = (more_of room records rest).0 in
          let few : length (records ++ part) ≤ room = rw (length-append records part) (omega (arith, within, more.few)) in
          subst (AreTaken room (records ∷ rest)) (sym (fits room records rest e)) (record {
            taken = records ∷ more.taken;
            is_all = ap (λ ls. records ∷ ls) more.is_all;
            has = ap (λ rs. records ++ rs) more.has;
            few = few;
            full = full-more room records part (more_of room records rest).1 within more.full;
          })
      by false e more =
          subst (AreTaken room (records ∷ rest)) (sym (stops room records rest e)) (record {
            taken = [];
            is_all = refl;
            has = refl;
            few = omega arith;
            full = omega (arith, leb-false (length records) room e);
          })

  -- no frame comes to those that are left
  fitting-left : (room : ℕ) (lists : List (List R)) → AreFew lists →
      AreFew (fitting room lists).1 × (length (fitting room lists).1 ≤ length lists)
  unfolding fitting
  fitting-left room [] few = (few, omega arith)
  fitting-left room (records ∷ rest) few =
      by (nat_le (length records) room) refl (fitting-left (room - length records) rest (All-tail IsFew records rest few))
    where
      by : (b : Bool) → nat_le (length records) room ≡ b →
          AreFew (more_of room records rest).1 × (length (more_of room records rest).1 ≤ length rest) →
          AreFew (fitting room (records ∷ rest)).1 × (length (fitting room (records ∷ rest)).1 ≤ suc (length rest))
      by true e more = rw (fits room records rest e) (more.0, omega (arith, more.1))
      by false e more = rw (stops room records rest e) (few, omega arith)

  first-fits : (records : List R) (rest : List (List R)) → AreFew (records ∷ rest) → nat_le (length records) MAX_ROWS ≡ true
  first-fits records rest few =
      let within : length records ≤ MAX_ROWS = All-head IsFew records rest few in
      grind (arith, nat_tests)

  -- one of them at least is in the part
  fewer-left : (records : List R) (rest : List (List R)) → AreFew (records ∷ rest) →
      length (fitting MAX_ROWS (records ∷ rest)).1 ≤ length rest
  fewer-left records rest few =
      rw (fits MAX_ROWS records rest (first-fits records rest few))
      (fitting-left (MAX_ROWS - length records) rest (All-tail IsFew records rest few)).1

  -- where it has no records, there are none
  none-fit : (lists : List (List R)) → AreFew lists → (fitting MAX_ROWS lists).0 ≡ [] → all_of lists ≡ []
  none-fit [] few e = refl
  none-fit ([] ∷ rest) few e =
      none-fit rest (All-tail IsFew [] rest few) (ap (λ f. f.0) (sym (fits MAX_ROWS [] rest (first-fits [] rest few))) ∙ e)
  none-fit ((r ∷ rs) ∷ rest) few e =
      let is = fits MAX_ROWS (r ∷ rs) rest (first-fits (r ∷ rs) rest few) in
      let no : r ∷ (rs ++ (more_of MAX_ROWS (r ∷ rs) rest).0) ≡ [] = ap (λ f. f.0) (sym is) ∙ e in
      cc

  -- ---- part by part

  -- what is left behind so many parts
  unfoldable left : ℕ → List (List R) → List (List R)
  left zero lists = lists
  left (suc n) lists = left n (fitting MAX_ROWS lists).1

  next-part : (n : ℕ) (lists : List (List R)) → part_of n lists ≡ (fitting MAX_ROWS (left n lists)).0
  unfolding part_of left
  next-part zero lists = refl
  next-part (suc n) lists = next-part n (fitting MAX_ROWS lists).1

  next-left : (n : ℕ) (lists : List (List R)) → left (suc n) lists ≡ (fitting MAX_ROWS (left n lists)).1
  unfolding left
  next-left zero lists = refl
  next-left (suc n) lists = next-left n (fitting MAX_ROWS lists).1

  -- what so many parts have, and what is left behind them, is all that was there
  record AreBefore (lists : List (List R)) (n : ℕ) : Type 0 where
    before : List (List R)
    is_all : lists ≡ before ++ left n lists
    starts : joined (parts lists) n ≡ all_of before

  all_of-append : (xs ys : List (List R)) → all_of (xs ++ ys) ≡ all_of xs ++ all_of ys
  all_of-append xs ys = flat_map-append (λ records. records) xs ys

  parts-before : (lists : List (List R)) (n : ℕ) → AreBefore lists n
  unfolding joined left
  parts-before lists zero = record { before = []; is_all = refl; starts = refl }
  parts-before lists (suc n) =
      let so_far = parts-before lists n in
      let next = fitting-takes MAX_ROWS (left n lists) in
      record {
        before = so_far.before ++ next.taken;
        is_all =
            so_far.is_all
            ∙ ap (λ ls. so_far.before ++ ls) next.is_all
            ∙ sym (append_assoc so_far.before next.taken (fitting MAX_ROWS (left n lists)).1)
            ∙ ap (λ ls. (so_far.before ++ next.taken) ++ ls) (sym (next-left n lists));
        starts =
            (λ i. so_far.starts i ++ (next-part n lists ∙ next.has) i)
            ∙ sym (all_of-append so_far.before next.taken);
      }

  full-whole : (part : List R) (behind : List (List R)) → IsFullIn MAX_ROWS part behind → IsFull part behind
  full-whole part [] full = tt
  full-whole part (records ∷ rest) full = full

  is-part : (lists : List (List R)) (n : ℕ) → IsPart lists n
  is-part lists n =
      let so_far = parts-before lists n in
      let next = fitting-takes MAX_ROWS (left n lists) in
      record {
        before = so_far.before;
        taken = next.taken;
        behind = (fitting MAX_ROWS (left n lists)).1;
        frame_by_frame = so_far.is_all ∙ ap (λ ls. so_far.before ++ ls) next.is_all;
        starts = so_far.starts;
        has = next-part n lists ∙ next.has;
        few = subst (λ rs. length rs ≤ MAX_ROWS) (sym (next-part n lists)) next.few;
        full = subst (λ rs. IsFull rs (fitting MAX_ROWS (left n lists)).1) (sym (next-part n lists)) (full-whole _ _ next.full);
      }

  few-left : (n : ℕ) (lists : List (List R)) → AreFew lists → AreFew (left n lists)
  unfolding left
  few-left zero lists few = few
  few-left (suc n) lists few = few-left n (fitting MAX_ROWS lists).1 (fitting-left MAX_ROWS lists few).0

  -- so many parts take so many frames
  none-left : (n : ℕ) (lists : List (List R)) → AreFew lists → length lists ≤ n → left n lists ≡ []
  unfolding left fitting
  none-left zero [] few last = refl
  none-left zero (records ∷ rest) few last = absurd (omega (arith, last))
  none-left (suc n) [] few last = none-left n [] few (omega arith)
  none-left (suc n) (records ∷ rest) few last =
      let fewer = fewer-left records rest few in
      none-left n (fitting MAX_ROWS (records ∷ rest)).1 (fitting-left MAX_ROWS (records ∷ rest) few).0 (omega (arith, fewer, last))

  -- ---- all parts

  have-all : (lists : List (List R)) → AreFew lists → HaveAll (parts lists) (length lists) (all_of lists)
  unfolding fitting
  have-all lists few = record {
    each_once = λ n none.
        let so_far = parts-before lists n in
        let empty = none-fit (left n lists) (few-left n lists few) (sym (next-part n lists) ∙ none) in
        so_far.starts
        ∙ sym (append-nil (all_of so_far.before))
        ∙ ap (λ rs. all_of so_far.before ++ rs) (sym empty)
        ∙ sym (all_of-append so_far.before (left n lists))
        ∙ ap all_of (sym so_far.is_all);
    end = λ n last. next-part n lists ∙ ap (λ ls. (fitting MAX_ROWS ls).0) (none-left n lists few last);
  }

  are-parts : (lists : List (List R)) → AreFew lists → AreParts lists
  are-parts lists few = (is-part lists, have-all lists few)

-- ---- the frames that an actor sees

module _ (c : Cluster) (b : Book) (sound : IsSound c b) (v : Name) (x : Variant) (there : get b.variants v ≡ Some x) where
  vouched : IsSoundVariant c.params b.nodes x
  vouched = (sound.variants v x there).1

  abbrev IsThere : (Name × Name) × Frame → Type 0
  IsThere e = get x.frames e.0 ≡ Some e.1

  seen-there : (actor : Actor) → All IsThere (frames_seen actor x)
  unfolding get
  seen-there Integrator = rows-found owned x.frames.rows x.frames.sorted
  seen-there (Supplier s) =
      All-weaker _ IsThere (λ e stood. only-stood owned (λ k _. is_of s k) x.frames e.0 e.1 stood) (own s x.frames).rows
      (rows-found owned (own s x.frames).rows (own s x.frames).sorted)

  -- where each of its frames has few records of a kind, so has each that an actor sees
  few-seen : {R : Type 0} (records : (Name × Name) × Frame → List R) →
      ((e : (Name × Name) × Frame) → IsSoundFrame c.params b.nodes x.grants e.0 e.1 → IsFew (records e)) →
      (actor : Actor) → AreFew (map records (frames_seen actor x))
  few-seen records few actor =
      All-map IsFew records (frames_seen actor x)
      (All-weaker IsThere (λ e. IsFew (records e)) (λ e is. few e (vouched.frames e.0 e.1 is))
      (frames_seen actor x) (seen-there actor))

  few-frames : (actor : Actor) → AreFew (map frame_records (frames_seen actor x))
  few-frames actor = few-seen frame_records (λ e frame. omega arith) actor

  abbrev record_of : (Name × Name) × Frame → Placement × ⊤ → PlacementRecord
  record_of e q = record { frame = e.0.1; node = e.1.node; placement = q.0; supplier = e.0.0 }

  few-placements : (actor : Actor) → AreFew (map placement_records (frames_seen actor x))
  unfolding len
  few-placements actor =
      few-seen placement_records (λ e frame.
      let count = length-map e.1.placements.rows (record_of e) in omega (arith, frame.limit, count)) actor

  abbrev signal_of : (Name × Name) × Frame → SignalData → SignalRecord
  signal_of e s = record { frame = e.0.1; signal = s; supplier = e.0.0 }

  few-signals : (actor : Actor) → AreFew (map signal_records (frames_seen actor x))
  few-signals actor =
      few-seen signal_records (λ e frame.
      let count = length-map e.1.signals (signal_of e) in omega (arith, frame.layout.count, count)) actor

pub export_has_parts : ExportHasParts
export_has_parts c b v x actor sound there = (
  are-parts _ (few-frames c b sound v x there actor),
  are-parts _ (few-placements c b sound v x there actor),
  are-parts _ (few-signals c b sound v x there actor),
)

-- ---- what is told

module _ (c : Cluster) (b : Book) (actor : Actor) where
  found-export : (v : Name) (header : Header) (part : ℕ) →
      told_of (is_integrator actor) (found c.params b actor (OfVariant v (Export header part)))
      ≡ export_told actor header part (get b.variants v)
  unfolding found shown ◌or◌ ◌>>=◌
  found-export v header part = by actor (get b.variants v)
    where
      by : (who : Actor) (o : Option Variant) →
          told_of (is_integrator who) ((o or NoVariant) >>= (λ x. shown c.params who x (Export header part)))
          ≡ export_told who header part o
      by who None = refl
      by Integrator (Some x) = refl
      by (Supplier s) (Some x) = refl

  abbrev asked : List ℕ → Header → ℕ → Request
  asked variant header part = Query (OfVariant variant (Export header part))

  told : (v : Name) (header : Header) (part : ℕ) (request : Request) → IsTrue (knows b actor) →
      check c.params actor request ≡ Ok (checked.Query (OfVariant v (Export header part))) →
      step c b actor request ≡ only_told b (export_told actor header part (get b.variants v))
  told v header part request known checks =
      query-step c b actor request (OfVariant v (Export header part)) known checks
      ∙ ap (only_told b) (found-export v header part)

  checks-named : (variant : List ℕ) (header : Header) (part : ℕ) → IsTrue (is_name variant) →
      check c.params actor (asked variant header part) ≡ Ok (checked.Query (OfVariant variant (Export header part)))
  unfolding check query name ◌>>=◌ ◌>>◌ refuse◌when◌
  checks-named variant header part named = by actor
    where
      by : (who : Actor) → check c.params who (asked variant header part) ≡ Ok (checked.Query (OfVariant variant (Export header part)))
      by Integrator = rw named refl
      by (Supplier s) = rw named refl

  checks-other : (variant : List ℕ) (header : Header) (part : ℕ) → is_name variant ≡ false →
      check c.params actor (asked variant header part) ≡ Err BadName
  unfolding check query name ◌>>=◌ ◌>>◌ refuse◌when◌
  checks-other variant header part other = by actor
    where
      by : (who : Actor) → check c.params who (asked variant header part) ≡ Err BadName
      by Integrator = rw other refl
      by (Supplier s) = rw other refl

  -- the part is told, or refused
  told-or-refused : (variant : List ℕ) (header : Header) (part : ℕ) →
      ((e : Refusal) × (part_told c b actor variant header part ≡ Refused e))
      ⊎ (part_told c b actor variant header part ≡ export_told actor header part (get b.variants variant))
  told-or-refused variant header part = elim (cases_Bool (knows b actor)) [
    | inr stranger ↦ inl (UnknownKey, answers _ _ (unknown c b actor ask stranger))
    | inl known ↦ elim (cases_Bool (is_name variant)) [
      | inr other ↦ inl (BadName, answers _ _ (unchecked c b actor ask BadName known (checks-other variant header part other)))
      | inl named ↦ inr (answers _ _ (told variant header part ask known (checks-named variant header part named)))
    ]
  ]
    where
      ask : Request
      ask = asked variant header part

pub export_is_told : ExportIsTold
export_is_told c b actor v header part request known checks = told c b actor v header part request known checks

abbrev HasFew : Answer → Type 0
HasFew answer =
    (length (frames_told answer) ≤ MAX_ROWS)
    × (length (placements_told answer) ≤ MAX_ROWS)
    × (length (signals_told answer) ≤ MAX_ROWS)

few-refused : (e : Refusal) → HasFew (Refused e)
few-refused e = (omega arith, omega arith, omega arith)

few-told : (actor : Actor) (header : Header) (part : ℕ) (o : Option Variant) → HasFew (export_told actor header part o)
unfolding exported
few-told actor header part None = few-refused NoVariant
few-told actor Frames part (Some x) =
    ((is-part (map frame_records (frames_seen actor x)) part).few, omega arith, omega arith)
few-told actor Placements part (Some x) =
    (omega arith, (is-part (map placement_records (frames_seen actor x)) part).few, omega arith)
few-told actor Signals part (Some x) =
    (omega arith, omega arith, (is-part (map signal_records (frames_seen actor x)) part).few)

pub few_records_are_told : FewRecordsAreTold
few_records_are_told c b actor variant header part = elim (told-or-refused c b actor variant header part) [
  | inl (e, refuses) ↦ subst HasFew (sym refuses) (few-refused e)
  | inr tells ↦ subst HasFew (sym tells) (few-told actor header part (get b.variants variant))
]

-- ---- all of them

all-mapped : {X R : Type 0} (f : X → List R) (xs : List X) → all_of (map f xs) ≡ flat_map f xs
all-mapped f [] = refl
all-mapped f (x ∷ xs) = ap (λ rs. f x ++ rs) (all-mapped f xs)

-- where these are the parts of the frames, they have all their records
told-all : {X R : Type 0} (f : X → List R) (xs : List X) (part : ℕ → List R) →
    ((k : ℕ) → part k ≡ part_of k (map f xs)) → AreFew (map f xs) → HaveAll part (length xs) (flat_map f xs)
told-all f xs part is few =
    let have = have-all (map f xs) few in
    let count = length-map xs f in
    record {
      each_once = λ n none.
          (λ i. joined (λ k. is k i) n) ∙ have.each_once n (sym (is n) ∙ none) ∙ all-mapped f xs;
      end = λ n last. is n ∙ have.end n (omega (arith, last, count));
    }

module _ (c : Cluster) (b : Book) (actor : Actor) (v : Name) (x : Variant) (sound : IsSound c b)
    (known : IsTrue (knows b actor)) (there : get b.variants v ≡ Some x) where
  abbrev frames : List ((Name × Name) × Frame)
  frames = frames_seen actor x

  abbrev part_at : Header → ℕ → Answer
  part_at header k = part_told c b actor v header k

  part-is : (header : Header) (k : ℕ) → part_at header k ≡ Report (is_integrator actor) (exported header k frames)
  part-is header k =
      let named : IsTrue (is_name v) = (sound.variants v x there).0 in
      answers _ _ (told c b actor v header k (asked c b actor v header k) known (checks-named c b actor v header k named))
      ∙ ap (export_told actor header k) there

  told-frames : HaveAll (λ k. frames_told (part_at Frames k)) (length frames) (flat_map frame_records frames)
  unfolding exported
  told-frames =
      told-all frame_records frames _ (λ k. ap frames_told (part-is Frames k)) (few-frames c b sound v x there actor)

  told-placements : HaveAll (λ k. placements_told (part_at Placements k)) (length frames) (flat_map placement_records frames)
  unfolding exported
  told-placements =
      told-all placement_records frames _ (λ k. ap placements_told (part-is Placements k))
      (few-placements c b sound v x there actor)

  told-signals : HaveAll (λ k. signals_told (part_at Signals k)) (length frames) (flat_map signal_records frames)
  unfolding exported
  told-signals =
      told-all signal_records frames _ (λ k. ap signals_told (part-is Signals k)) (few-signals c b sound v x there actor)

pub all_records_are_told : AllRecordsAreTold
all_records_are_told c b actor v x sound known there = (
  told-frames c b actor v x sound known there,
  told-placements c b actor v x sound known there,
  told-signals c b actor v x sound known there,
)
