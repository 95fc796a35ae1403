-- After a whole replacement that was carried out, the supplier's frames are what its file says.
use Rattle.std.proofs.Common.{◌≡◌, ℕ, Bool, true, false, ◌||◌, ◌&&◌, cond, List, [], ◌∷◌, map, Option, Some, None, Result, Ok, Err, is_err, is_some, length, IsTrue, IsFalse, refl, sym, ap, subst, ◌∙◌, inl, inr, true≢false}
use Rattle.std.specs.Prelude.{⊤}
use Rattle.std.specs.List.{AllByRecursion, list_all, list_any}
use Rattle.std.specs.Option.{option_and_then}
use Rattle.std.proofs.lemmas.Bool.{cases_Bool}
use Rattle.fr_base.specs.Tables.{Table, empty, from_rows, get, left_by}
use Rattle.fr_base.specs.Keys.{placement_order}
use Rattle.fr_base.specs.Cluster.{Cluster}
use Rattle.fr_base.specs.Names.{same_text}
use Rattle.fr_base.specs.Signals.{SignalData}
use Rattle.fr_base.specs.Book.{Frame, Variant, Book}
use Rattle.fr_base.specs.Brought.{nodes_for, placements_for, signals_for, node_or, had_placements, had_signals, placed_by, put_in, signalled_by}
use Rattle.fr_base.specs.ImportRows.{header_of_body, rows_of_body}
use Rattle.fr_base.specs.ReplacingLaws.{names_frame, is_named, begins_as, begins_at, IsElsewhereAs}
use Rattle.fr_base.specs.ReplacedLaws.{IsAsFiled, IsFiledIn}
use Rattle.fr_base.specs.WholeLaws.{IsOfItsNode, WholeIsFiled, frame_of_file, made_by_file, new_frame, placed_by_file, signalled_by_file}
use Rattle.fr_base.specs.Step.{cleared, freed, frame_at, names_with, step}
use Rattle.fr_base.specs.declared.answer.Answer.TheVariants.{Replaced}
use Rattle.fr_base.specs.declared.actor.Actor.TheVariants.{Supplier}
use Rattle.fr_base.specs.declared.import.Header.{Header}
use Rattle.fr_base.specs.declared.import.Header.TheVariants.{Frames, Placements, Signals}
use Rattle.fr_base.specs.declared.import.Row.{Row}
use Rattle.fr_base.specs.declared.import.Row.TheVariants as row
use Rattle.fr_base.specs.declared.import.RowRead.{RowRead}
use Rattle.fr_base.specs.declared.name.Name.{Name}
use Rattle.fr_base.specs.declared.placement.Placement.{Placement}
use Rattle.fr_base.specs.declared.refusal.Refusal.{Refusal}
use Rattle.fr_base.specs.declared.request.Request.TheVariants.{Deliver}
use Rattle.fr_base.specs.declared.delivery.Purpose.TheVariants as purpose
use Rattle.fr_base.proofs.SoundTables.{get-put, same_some}
use Rattle.fr_base.proofs.SoundRows.{same_text-is}
use Rattle.fr_base.proofs.AloneCells.{same_text-itself}
use Rattle.fr_base.proofs.ClearedAgain.{is_named_with, named_with}
use Rattle.fr_base.proofs.ReplacedLaws.{is_filed}
use Rattle.fr_base.proofs.ReplacingLaws.{leaves_the_rest}
use Rattle.fr_base.proofs.WholeFiles.{IsOfKind, body-header, body-kind, frames_place_none, frames_sign_none, named_nodes, placements_sign_none, signals_node_none, signals_place_none, unnamed_nodes, unnamed_placements, unnamed_signals}

-- ---- a frame of which the parts are known

same_frame : (y z : Frame) → y.node ≡ z.node → y.placements ≡ z.placements → y.signals ≡ z.signals → ◌≡◌ {A = Option Frame} (Some y) (Some z)
same_frame y z node placements signals = λ i. Some (record { node = node i; placements = placements i; signals = signals i })

no_rows : ◌≡◌ {A = Table placement_order ⊤} (from_rows []) empty
unfolding from_rows
no_rows = refl

placed_from : (qs : List Placement) → placed_by qs empty ≡ from_rows (map (λ q. (q, tt)) qs)
placed_from [] = sym no_rows
placed_from (q ∷ qs) = refl

put_from : (xs : List SignalData) → signalled_by xs [] ≡ put_in [] xs
put_from [] = refl
put_from (x ∷ xs) = refl

signalled_from : (xs had : List SignalData) → had ≡ [] → signalled_by xs had ≡ put_in [] xs
signalled_from xs had none = ap (signalled_by xs) none ∙ put_from xs

-- what is left of a frame that was cleared
abbrev left : Header → List RowRead → Name → Option Frame → Option Frame
left kind reads f o = left_by (cleared kind reads f o)

module _ (reads : List RowRead) (f : Name) where
  abbrev ns : List Name
  ns = nodes_for f reads

  abbrev qs : List Placement
  qs = placements_for f reads

  abbrev xs : List SignalData
  xs = signals_for f reads

  stays : (w : Frame) → named_with f w.node reads ≡ true → left Frames reads f (Some w) ≡ Some w
  unfolding cleared
  stays w named = rw named refl

  goes : (w : Frame) → named_with f w.node reads ≡ false → left Frames reads f (Some w) ≡ None
  unfolding cleared
  goes w named = rw named refl

  none_left : (kind : Header) → left kind reads f None ≡ None
  unfolding cleared freed
  none_left Frames = refl
  none_left Placements = refl
  none_left Signals = refl

  bare : (w : Frame) → left Placements reads f (Some w) ≡ Some (record w { placements = empty })
  unfolding cleared freed
  bare w = refl

  unsigned : (w : Frame) → left Signals reads f (Some w) ≡ Some (record w { signals = [] })
  unfolding cleared freed
  unsigned w = refl

  -- what a frame has is what the rows say, of what was left
  module _ (o : Option Frame) (y : Frame) (is : IsAsFiled reads f o y) where
    -- of a frame that was left
    of_left : (w : Frame) → o ≡ Some w → (y.node ≡ w.node) × (y.placements ≡ placed_by qs w.placements) × (y.signals ≡ signalled_by xs w.signals)
    of_left w there = (
      same_some y.node w.node (sym is.node ∙ ap (node_or ns) there),
      is.placements ∙ ap (λ o. placed_by qs (had_placements o)) there,
      is.signals ∙ ap (λ o. signalled_by xs (had_signals o)) there,
    )

    -- of one that was not
    of_none : o ≡ None → (node_or ns None ≡ Some y.node) × (y.placements ≡ placed_by qs empty) × (y.signals ≡ signalled_by xs [])
    of_none none = (
      sym (ap (node_or ns) none) ∙ is.node,
      is.placements ∙ ap (λ o. placed_by qs (had_placements o)) none,
      is.signals ∙ ap (λ o. signalled_by xs (had_signals o)) none,
    )

  -- ---- below the header of frames

  module _ (all : AllByRecursion (IsOfKind Frames) reads) where
    no_places : (had : Table placement_order ⊤) → placed_by qs had ≡ had
    no_places had = ap (λ l. placed_by l had) (frames_place_none f reads all)

    no_signals : (had : List SignalData) → signalled_by xs had ≡ had
    no_signals had = ap (λ l. signalled_by l had) (frames_sign_none f reads all)

    -- a frame that was not left is a new one
    new_one : (o : Option Frame) (y : Frame) → IsAsFiled reads f o y → o ≡ None → (n : Name) (rest : List Name) → ns ≡ n ∷ rest → Some y ≡ Some (new_frame n [])
    new_one o y is none n rest said =
        let k = of_none o y is none in
        same_frame y (new_frame n []) (sym (same_some n y.node (sym (ap (λ l. node_or l None) said) ∙ k.0))) (k.1 ∙ no_places empty ∙ sym no_rows) (k.2 ∙ no_signals [])

    -- one that was is as it was
    old_one : (o : Option Frame) (y : Frame) → IsAsFiled reads f o y → (w : Frame) → o ≡ Some w → Some y ≡ Some w
    old_one o y is w there =
        let k = of_left o y is w there in
        same_frame y w k.0 (k.1 ∙ no_places w.placements) (k.2 ∙ no_signals w.signals)

    apart : (n m : Name) → same_text n m ≡ false → m ≡ n → ⊥
    apart n m other same = let no : true ≡ false = sym (same_text-itself n) ∙ ap (same_text n) (sym same) ∙ other in cc

    first_said : (n : Name) (rest : List Name) (y : Frame) → ns ≡ n ∷ rest → IsTrue (list_all (same_text y.node) ns) → y.node ≡ n
    first_said n rest y said one = elim (cases_Bool (same_text y.node n)) [
      | inl same ↦ same_text-is y.node n same
      | inr other ↦ let no : IsTrue (list_all (same_text y.node) (n ∷ rest)) = subst (λ l. IsTrue (list_all (same_text y.node) l)) said one in let never = rw other at no in cc
    ]

    named_frame : is_named f reads ≡ true → (before : Option Frame) (y : Frame) → IsAsFiled reads f (left Frames reads f before) y → (nodes : List Name) → ns ≡ nodes → Some y ≡ frame_of_file nodes before
    named_frame named before y is [] said = absurd (named_nodes f reads all named said)
    named_frame named None y is (n ∷ rest) said = new_one _ y is (none_left Frames) n rest said
    named_frame named (Some w) y is (n ∷ rest) said = elim (cases_Bool (same_text n w.node)) [
      | inl same ↦
          let found : named_with f w.node reads ≡ true = is_named_with f w.node reads (ap (list_any (λ m. same_text m w.node)) said ∙ ap (λ t. t || list_any (λ m. same_text m w.node) rest) same) in
          old_one _ y is w (stays w found) ∙ sym (ap (λ t. cond t (Some w) (Some (new_frame n []))) same)
      | inr other ↦ elim (cases_Bool (named_with f w.node reads)) [
        | inl found ↦ absurd (apart n w.node other (sym (of_left _ y is w (stays w found)).0 ∙ first_said n rest y said is.one_node))
        | inr lost ↦ new_one _ y is (goes w lost) n rest said ∙ sym (ap (λ t. cond t (Some w) (Some (new_frame n []))) other)
      ]
    ]

  -- ---- below the header of placements

  module _ (all : AllByRecursion (IsOfKind Placements) reads) where
    signs_stay : (had : List SignalData) → signalled_by xs had ≡ had
    signs_stay had = ap (λ l. signalled_by l had) (placements_sign_none f reads all)

    named_placed : (before : Option Frame) (y : Frame) → IsAsFiled reads f (left Placements reads f before) y → (nodes : List Name) → ns ≡ nodes → Some y ≡ placed_by_file nodes qs before
    named_placed (Some w) y is nodes said =
        let k = of_left _ y is (record w { placements = empty }) (bare w) in
        same_frame y (record w { placements = from_rows (map (λ q. (q, tt)) qs) }) k.0 (k.1 ∙ placed_from qs) (k.2 ∙ signs_stay w.signals)
    named_placed None y is (n ∷ rest) said =
        let k = of_none _ y is (none_left Placements) in
        same_frame y (new_frame n qs) (sym (same_some n y.node (sym (ap (λ l. node_or l None) said) ∙ k.0))) (k.1 ∙ placed_from qs) (k.2 ∙ signs_stay [])
    named_placed None y is [] said =
        let k = of_none _ y is (none_left Placements) in
        let no : ◌≡◌ {A = Option Name} None (Some y.node) = sym (ap (λ l. node_or l None) said) ∙ k.0 in cc

  -- ---- below the header of signals

  module _ (all : AllByRecursion (IsOfKind Signals) reads) where
    places_stay : (had : Table placement_order ⊤) → placed_by qs had ≡ had
    places_stay had = ap (λ l. placed_by l had) (signals_place_none f reads all)

    named_signalled : (before : Option Frame) (y : Frame) → IsAsFiled reads f (left Signals reads f before) y → Some y ≡ signalled_by_file xs before
    named_signalled (Some w) y is =
        let k = of_left _ y is (record w { signals = [] }) (unsigned w) in
        same_frame y (record w { signals = put_in [] xs }) k.0 (k.1 ∙ places_stay w.placements) (k.2 ∙ put_from xs)
    named_signalled None y is =
        let k = of_none _ y is (none_left Signals) in
        let no : ◌≡◌ {A = Option Name} None (Some y.node) = sym (ap (λ l. node_or l None) (signals_node_none f reads all)) ∙ k.0 in cc

  -- ---- each frame

  named_made : (kind : Header) → AllByRecursion (IsOfKind kind) reads → is_named f reads ≡ true → (before : Option Frame) (y : Frame) → IsAsFiled reads f (left kind reads f before) y → Some y ≡ made_by_file kind reads f before
  named_made Frames all named before y is = named_frame all named before y is ns refl
  named_made Placements all named before y is = named_placed all before y is ns refl
  named_made Signals all named before y is = named_signalled all before y is

  -- ---- a frame that no row names

  both_false : (a c : Bool) → (a || c) ≡ false → (a ≡ false) × (c ≡ false)
  both_false true c h = cc
  both_false false c h = (refl, h)

  no_node : (n : Name) (r : Result Row Refusal) → names_frame f r ≡ false → names_with f n r ≡ false
  no_node n (Ok (row.AddFrame g m)) h = rw h refl
  no_node n (Ok (row.Place g m q)) h = rw h refl
  no_node n (Ok (row.AddSignal g x)) h = refl
  no_node n (Err e) h = refl

  no_name : (n : Name) (rows : List RowRead) → is_named f rows ≡ false → named_with f n rows ≡ false
  no_name n [] h = refl
  no_name n (read ∷ rest) h =
      let k = both_false (names_frame f read.row) (is_named f rest) h in
      ap (λ t. t || named_with f n rest) (no_node n read.row k.0) ∙ no_name n rest k.1

  unnamed_made : (kind : Header) → is_named f reads ≡ false → (before : Option Frame) → left kind reads f before ≡ made_by_file kind reads f before
  unnamed_made Frames none None = none_left Frames ∙ sym (ap (λ l. frame_of_file l None) (unnamed_nodes f reads none))
  unnamed_made Frames none (Some w) = goes w (no_name w.node reads none) ∙ sym (ap (λ l. frame_of_file l (Some w)) (unnamed_nodes f reads none))
  unnamed_made Placements none None = none_left Placements ∙ sym (ap (λ l. placed_by_file l qs None) (unnamed_nodes f reads none))
  unnamed_made Placements none (Some w) =
      bare w ∙ ap (λ t. Some (record w { placements = t })) (sym no_rows) ∙ sym (ap (λ l. placed_by_file ns l (Some w)) (unnamed_placements f reads none))
  unnamed_made Signals none None = none_left Signals
  unnamed_made Signals none (Some w) = unsigned w ∙ sym (ap (λ l. signalled_by_file l (Some w)) (unnamed_signals f reads none))

-- ---- the replacement

module _ (c : Cluster) (b : Book) (s : Name) (variant body : List ℕ) (rows : ℕ) (told : (step c b (Supplier s) (Deliver variant (purpose.Replacement true) body)).answer ≡ Replaced rows) where
  abbrev reads_of : List RowRead
  reads_of = rows_of_body c.params body

  abbrev after : Book
  after = (step c b (Supplier s) (Deliver variant (purpose.Replacement true) body)).book

  filed : (length reads_of ≡ rows) × IsFalse (list_any (λ read. is_err read.row) reads_of) × ((f : Name) → IsTrue (is_named f reads_of) → IsFiledIn b s variant (header_of_body body) reads_of after f)
  filed = is_filed c b s variant body true rows told

  rest : IsElsewhereAs b s variant (header_of_body body) reads_of after
  rest = leaves_the_rest c b s variant body true rows told

  module _ (kind : Header) (is : header_of_body body ≡ Some kind) (f : Name) where
    was : frame_at b s variant f ≡ get rest.x.frames (s, f)
    was = ap (option_and_then (λ (y : Variant). get y.frames (s, f))) rest.there

    now : frame_at after s variant f ≡ get rest.frames (s, f)
    now =
        ap (λ d. frame_at d s variant f) rest.is
        ∙ ap (option_and_then (λ (y : Variant). get y.frames (s, f))) (get-put b.variants variant (record rest.x { frames = rest.frames }))

    unnamed_now : is_named f reads_of ≡ false → frame_at after s variant f ≡ left kind reads_of f (frame_at b s variant f)
    unnamed_now none =
        now
        ∙ rest.others (s, f) (ap (λ t. t && is_named f reads_of) (same_text-itself s) ∙ none)
        ∙ ap (λ h. begins_at s h reads_of (s, f) (get rest.x.frames (s, f))) is
        ∙ ap (λ t. cond t (left kind reads_of f (get rest.x.frames (s, f))) (get rest.x.frames (s, f))) (same_text-itself s)
        ∙ ap (left kind reads_of f) (sym was)

    abbrev IsMade : Type 0
    IsMade =
        (frame_at after s variant f ≡ made_by_file kind reads_of f (frame_at b s variant f))
        × IsOfItsNode reads_of f (frame_at after s variant f)
        × (IsTrue (is_named f reads_of) → IsTrue (is_some (frame_at after s variant f)))

    made_so : AllByRecursion (IsOfKind kind) reads_of → IsMade
    made_so all = elim (cases_Bool (is_named f reads_of)) [
      | inl named ↦
          let y = filed.2 f named in
          let as_filed : IsAsFiled reads_of f (left kind reads_of f (frame_at b s variant f)) y.0 =
          subst (λ h. IsAsFiled reads_of f (begins_as h reads_of f (frame_at b s variant f)) y.0) is y.2 in (
            y.1 ∙ named_made reads_of f kind all named (frame_at b s variant f) y.0 as_filed,
            λ frame there. subst (λ (w : Frame). IsTrue (list_all (same_text w.node) (nodes_for f reads_of))) (same_some y.0 frame (sym y.1 ∙ there)) as_filed.one_node,
            λ _. ap is_some y.1,
          )
      | inr none ↦ (
        unnamed_now none ∙ unnamed_made reads_of f kind none (frame_at b s variant f),
        λ frame there. ap (list_all (same_text frame.node)) (unnamed_nodes f reads_of none),
        λ named. absurd (true≢false (sym named ∙ none)),
      )
    ]

pub whole_is_filed : WholeIsFiled
whole_is_filed c b s variant body rows told =
    let k = filed c b s variant body rows told in
    let header = body-header c.params body k.1 in
    (k.0, k.1, (header.0, header.1, λ f. made_so c b s variant body rows told header.0 header.1 f (body-kind c.params header.0 body header.1)))
