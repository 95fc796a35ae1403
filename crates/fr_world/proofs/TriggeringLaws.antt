-- The placements of a page's frames, frame by frame.
use Rattle.std.proofs.Common.{◌≡◌, ℕ, ◌<◌, List, [], ◌∷◌, ◌++◌, length, map, refl, sym, ap, subst, ◌∙◌, arith}
use Rattle.std.specs.Prelude.{⊤}
use Rattle.std.specs.List.{flat_map}
use Rattle.std.specs.List.Sorted.{IsStrictlySortedBy}
use Rattle.std.specs.Map.{keys_of}
use Rattle.std.proofs.Math.Seq.{get_or-append_seam}
use Rattle.std.proofs.lemmas.List.{get_or_append_left, length-append, map-append}
use Rattle.std.proofs.lemmas.List.Elements.{All-append, All-cons, All-head, All-nil, All-tail}
use Rattle.fr_base.specs.Book as book
use Rattle.fr_base.specs.Keys.{owned, placement_order}
use Rattle.fr_base.specs.Queries.{placements_in}
use Rattle.fr_base.specs.declared.name.Name.{Name}
use Rattle.fr_base.specs.declared.placement.Placement.{Placement}
use Rattle.fr_world.specs.Pages.{FrameData, PageData, frame_data, frame_of, frames_data, own_rows_of}
use Rattle.fr_world.specs.Sendings.{HaveSenders, filled, filled_by, nobody, sender_in, sender_of, sent_by}
use Rattle.fr_world.specs.declared.page.PageFrame.{PageFrame}
use Rattle.fr_world.specs.declared.triggerings.FrameSender.{FrameSender}
use Rattle.fr_world.specs.declared.triggerings.FrameTriggering.{FrameTriggering}
use Rattle.fr_world.proofs.KeyLaws.{name_cmp, own_alike, placement_cmp, placements_alike, frames_rise}
use Rattle.fr_world.proofs.MapLaws.{rows-table_of, rows-set_of}

abbrev pub owner_of : Name × Name → Name → book.Sender
owner_of k node = record { supplier = k.0; frame = k.1; node = node }

with_sender : (o : book.Sender) (rows : List (Placement × ⊤)) → map {B = book.Sender × Placement} (λ q. (o, q)) (map {B = Placement} (λ row. row.0) rows) ≡ map {B = book.Sender × Placement} (λ row. (o, row.0)) rows
with_sender o [] = refl
with_sender o (row ∷ rows) = ap (λ rest. (o, row.0) ∷ rest) (with_sender o rows)

-- a frame's placements with their sender
pub placements_in-filled : (k : Name × Name) (f : book.Frame) → map {B = book.Sender × Placement} (λ q. (owner_of k f.node, q)) (placements_in f) ≡ filled_by k f
placements_in-filled k f = with_sender (owner_of k f.node) f.placements.rows

keys_of-rows : (qs : List Placement) → map {B = Placement} (λ (row : Placement × ⊤). row.0) (map {B = Placement × ⊤} (λ q. (q, tt)) qs) ≡ qs
keys_of-rows [] = refl
keys_of-rows (q ∷ qs) = ap (λ rest. q ∷ rest) (keys_of-rows qs)

-- a frame's placements are the set's keys
pub placements_in-keys : (f : FrameData) → IsStrictlySortedBy placement_cmp f.placements → placements_in (frame_of f) ≡ f.placements
placements_in-keys f h = ap (map {B = Placement} (λ row. row.0)) (rows-set_of placement_cmp placement_order (λ p. p) placements_alike f.placements h) ∙ keys_of-rows f.placements

-- what a page's entries fill
abbrev pub fillings : Name → List (Name × PageFrame) → List (book.Sender × Placement)
fillings s [] = []
fillings s (e ∷ es) = filled_by (s, e.0) (frame_of (frame_data e.1)) ++ fillings s es

fillings-rows : (s : Name) (es : List (Name × PageFrame)) → flat_map (λ row. filled_by row.0 row.1) (map {B = (Name × Name) × book.Frame} (λ e. ((s, e.0), frame_of e.1)) (frames_data es)) ≡ fillings s es
fillings-rows s [] = refl
fillings-rows s (e ∷ es) = ap (λ rest. filled_by (s, e.0) (frame_of (frame_data e.1)) ++ rest) (fillings-rows s es)

pub placements_of-page : (page : PageData) (es : List (Name × PageFrame)) → frames_data es ≡ page.frames → IsStrictlySortedBy name_cmp (keys_of es) → book.placements_of (own_rows_of page).frames ≡ fillings page.supplier es
unfolding book.placements_of
placements_of-page page es e h =
    ap (flat_map (λ row. filled_by row.0 row.1)) (rows-table_of name_cmp owned (λ f. (page.supplier, f)) frame_of (own_alike page.supplier) page.frames (frames_rise es page.frames e h))
    ∙ ap (λ fs. flat_map (λ row. filled_by row.0 row.1) (map {B = (Name × Name) × book.Frame} (λ e. ((page.supplier, e.0), frame_of e.1)) fs)) (sym e)
    ∙ fillings-rows page.supplier es

-- ---- one sender more

module _ (ss : List FrameSender) (s : FrameSender) where
  abbrev more : List FrameSender
  more = ss ++ s ∷ []

  -- the placements before still have their senders
  pub senders-before : (ps : List FrameTriggering) → HaveSenders ss ps → HaveSenders more ps
  senders-before [] have = All-nil (λ p. p.sender < length more)
  senders-before (p ∷ ps) have =
      let low : p.sender < length ss = All-head (λ p. p.sender < length ss) p ps have in
      All-cons (λ p. p.sender < length more) p ps (omega (arith, low, length-append ss (s ∷ []))) (senders-before ps (All-tail (λ p. p.sender < length ss) p ps have))

  -- and are filled by them
  pub filled-before : (ps : List FrameTriggering) → HaveSenders ss ps → filled more ps ≡ filled ss ps
  filled-before [] have = refl
  filled-before (p ∷ ps) have =
      λ i. (sender_of (get_or_append_left ss (s ∷ []) nobody p.sender (All-head (λ p. p.sender < length ss) p ps have) i), p.placement) ∷ filled-before ps (All-tail (λ p. p.sender < length ss) p ps have) i

  -- its own placements have it
  senders-last : (qs : List Placement) → HaveSenders more (map (sent_by (length ss)) qs)
  senders-last [] = All-nil (λ p. p.sender < length more)
  senders-last (q ∷ qs) = All-cons (λ p. p.sender < length more) (sent_by (length ss) q) (map (sent_by (length ss)) qs) (omega (arith, length-append ss (s ∷ []))) (senders-last qs)

  filled-last : (qs : List Placement) → filled more (map (sent_by (length ss)) qs) ≡ map (λ q. (sender_of s, q)) qs
  filled-last [] = refl
  filled-last (q ∷ qs) = λ i. (sender_of (get_or-append_seam ss s [] nobody i), q) ∷ filled-last qs i

  module _ (ps : List FrameTriggering) (n : ℕ) (qs : List Placement) (last : n ≡ length ss) (have : HaveSenders ss ps) where
    pub senders-all : HaveSenders more (ps ++ map (sent_by n) qs)
    senders-all = subst (λ n. HaveSenders more (ps ++ map (sent_by n) qs)) (sym last) (All-append (λ p. p.sender < length more) ps (map (sent_by (length ss)) qs) (senders-before ps have) (senders-last qs))

    pub filled-all : filled more (ps ++ map (sent_by n) qs) ≡ filled ss ps ++ map (λ q. (sender_of s, q)) qs
    filled-all =
        map-append (λ p. (sender_in more p, p.placement)) ps (map (sent_by n) qs)
        ∙ (λ i. filled-before ps have i ++ filled more (map (sent_by (last i)) qs))
        ∙ ap (λ rest. filled ss ps ++ rest) (filled-last qs)
