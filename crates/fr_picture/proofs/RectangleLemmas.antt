-- Rectangles that grow, and lists of rectangles that a cell is added to.
use Rattle.std.proofs.Common.{◌≡◌, true, false, ◌+◌, ◌≤◌, List, [], ◌∷◌, ◌++◌, sym, ap, ◌∙◌, append_assoc, append-nil, arith, subst, zero-add}
use Rattle.std.proofs.lemmas.Grind.{flat_map-append}
use Rattle.std.proofs.lemmas.List.Elements.{All-push}
use Rattle.std.proofs.lemmas.List.{get_or_append_left, length-append}
use Rattle.std.proofs.lemmas.List.FromFn.{map-range_with_len_more}
use Rattle.fr_base.specs.declared.answer.Sending.{Sending}
use Rattle.fr_picture.specs.declared.drawing.rectangle.Rectangle.{Rectangle}
use Rattle.fr_picture.specs.Rectangles.{later, cells_of, cells_in, Meets, AreApart, AreFilled}

-- a rectangle with one cycle more
abbrev pub grown : Rectangle → Rectangle
grown r = record { first = r.first; cycles = r.cycles + 1 }

pub longer_cells : (r : Rectangle) → cells_of (grown r) ≡ cells_of r ++ later r.first r.cycles ∷ []
unfolding cells_of
longer_cells r = map-range_with_len_more (later r.first) 0 r.cycles r.cycles (zero-add r.cycles)

pub one_cell : (s : Sending) → cells_of (record { first = s; cycles = 1 }) ≡ s ∷ []
unfolding cells_of
one_cell s = grind arith

pub cells_in-append : (rs ss : List Rectangle) → cells_in (rs ++ ss) ≡ cells_in rs ++ cells_in ss
unfolding cells_in
cells_in-append rs ss = flat_map-append cells_of rs ss

pub cells_in-one : (r : Rectangle) → cells_in (r ∷ []) ≡ cells_of r
unfolding cells_in
cells_in-one r = append-nil (cells_of r)

pub cells_in-push : (rs : List Rectangle) (r : Rectangle) → cells_in (rs ++ r ∷ []) ≡ cells_in rs ++ cells_of r
cells_in-push rs r = cells_in-append rs (r ∷ []) ∙ ap (λ t. cells_in rs ++ t) (cells_in-one r)

-- the last rectangle grows by the cell that goes on where it ends
pub cells_in-grown : (rs : List Rectangle) (r : Rectangle) (s : Sending) → s ≡ later r.first r.cycles
    → cells_in (rs ++ grown r ∷ []) ≡ cells_in (rs ++ r ∷ []) ++ s ∷ []
cells_in-grown rs r s e =
    cells_in-push rs (grown r) ∙ ap (λ t. cells_in rs ++ t) (longer_cells r)
    ∙ sym (append_assoc (cells_in rs) (cells_of r) (later r.first r.cycles ∷ []))
    ∙ ap (λ t. t ++ later r.first r.cycles ∷ []) (sym (cells_in-push rs r))
    ∙ ap (λ x. cells_in (rs ++ r ∷ []) ++ x ∷ []) (sym e)

-- a rectangle of its own has the cell
pub cells_in-more : (rs : List Rectangle) (r : Rectangle) (s : Sending) → cells_of r ≡ s ∷ []
    → cells_in (rs ++ r ∷ []) ≡ cells_in rs ++ s ∷ []
cells_in-more rs r s e = cells_in-push rs r ∙ ap (λ t. cells_in rs ++ t) e

-- the last rectangle may grow: what is before it looks only at its first cell
pub AreApart-grown : (rs : List Rectangle) (r : Rectangle) → AreApart (rs ++ r ∷ []) → AreApart (rs ++ grown r ∷ [])
AreApart-grown [] r h = tt
AreApart-grown (a ∷ []) r h = (h.0, tt)
AreApart-grown (a ∷ b ∷ rs) r h = (h.0, AreApart-grown (b ∷ rs) r h.1)

-- one more, which the last does not meet
pub AreApart-more : (rs : List Rectangle) (r s : Rectangle) → AreApart (rs ++ r ∷ []) → ¬ Meets r s.first
    → AreApart ((rs ++ r ∷ []) ++ s ∷ [])
AreApart-more [] r s h n = (n, tt)
AreApart-more (a ∷ []) r s h n = (h.0, (n, tt))
AreApart-more (a ∷ b ∷ rs) r s h n = (h.0, AreApart-more (b ∷ rs) r s h.1 n)

-- a cell that no rectangle was there for
pub adds_first : (old rest new : List Rectangle) (r : Rectangle) (s : Sending) → old ≡ rest ++ [] → new ≡ rest ++ r ∷ [] → cells_of r ≡ s ∷ []
    → cells_in new ≡ cells_in old ++ s ∷ []
adds_first old rest new r s before after e =
    ap cells_in after ∙ cells_in-more rest r s e ∙ ap (λ rs. cells_in rs ++ s ∷ []) (sym (append-nil rest) ∙ sym before)

-- a cell that makes the last rectangle longer
pub adds_longer : (old rest new : List Rectangle) (last long : Rectangle) (s : Sending) → old ≡ rest ++ last ∷ [] → new ≡ rest ++ long ∷ []
    → long ≡ grown last → Meets last s → cells_in new ≡ cells_in old ++ s ∷ []
adds_longer old rest new last long s before after grows meets =
    ap cells_in (after ∙ ap (λ r. rest ++ r ∷ []) grows) ∙ cells_in-grown rest last s meets ∙ ap (λ rs. cells_in rs ++ s ∷ []) (sym before)

pub apart_longer : (old rest new : List Rectangle) (last long : Rectangle) → old ≡ rest ++ last ∷ [] → new ≡ rest ++ long ∷ []
    → long ≡ grown last → AreApart old → AreApart new
apart_longer old rest new last long before after grows apart =
    subst AreApart (sym (after ∙ ap (λ r. rest ++ r ∷ []) grows)) (AreApart-grown rest last (subst AreApart before apart))

-- a cell that the last rectangle does not meet
pub adds_another : (old rest mid new : List Rectangle) (last r : Rectangle) (s : Sending) → old ≡ rest ++ last ∷ [] → mid ≡ rest ++ last ∷ []
    → new ≡ mid ++ r ∷ [] → cells_of r ≡ s ∷ [] → cells_in new ≡ cells_in old ++ s ∷ []
adds_another old rest mid new last r s before between after e =
    ap cells_in after ∙ cells_in-more mid r s e ∙ ap (λ rs. cells_in rs ++ s ∷ []) (between ∙ sym before)

pub apart_another : (old rest mid new : List Rectangle) (last r : Rectangle) (s : Sending) → old ≡ rest ++ last ∷ [] → mid ≡ rest ++ last ∷ []
    → new ≡ mid ++ r ∷ [] → r ≡ record { first = s; cycles = 1 } → (Meets last s → false ≡ true) → AreApart old → AreApart new
apart_another old rest mid new last r s before between after one alone apart =
    let first : r.first ≡ s = ap (λ t. t.first) one in
    let unmet : ¬ Meets last r.first = λ m. let both : false ≡ true = alone (sym first ∙ m) in cc in
    subst AreApart (sym (after ∙ ap (λ rs. rs ++ r ∷ []) between)) (AreApart-more rest last r (subst AreApart before apart) unmet)

-- the last rectangle may grow: those before it stay as they are
pub filled_longer : (old rest new : List Rectangle) (last long : Rectangle) → old ≡ rest ++ last ∷ [] → new ≡ rest ++ long ∷ []
    → long ≡ grown last → AreFilled old → AreFilled new
filled_longer old rest new last long before after grows filled =
    let whole : AreFilled (rest ++ last ∷ []) = subst AreFilled before filled in
    let kept : AreFilled rest = λ k d small.
    subst (λ r. 1 ≤ r.cycles) (get_or_append_left rest (last ∷ []) d k small) (whole k d (omega (arith, length-append rest (last ∷ []), small))) in
    subst AreFilled (sym after) (All-push (λ r. 1 ≤ r.cycles) rest long kept (omega (arith, ap (λ r. r.cycles) grows)))
