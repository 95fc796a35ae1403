-- Lemmas on a text in an array of a fixed length.
use Rattle.std.proofs.Common.{◌≡◌, ◌∙◌, ℕ, suc, ◌+◌, ◌-◌, ◌<◌, ◌≤◌, List, [], ◌∷◌, ◌++◌, length, take, drop, set, replicate, IsUtf8, arith, length-append, length-take-le, append_assoc, ap, sym, refl}
use Rattle.std.proofs.lemmas.List.{length-replicate, length-set, drop-replicate, set_at, take_more_set}
use Rattle.std.proofs.lemmas.Str.{IsUtf8-append, IsUtf8-from_ascii}
use Rattle.std.proofs.lemmas.Str.Ascii.{IsAscii-nil, IsAscii-cons}
use Rattle.std.proofs.Math.Seq.{take-append_seam}
use Rattle.fr_base.specs.FixedText.{IsPadded}

-- a text that is written over the front of zeros
pub IsPadded-written : (n : ℕ) (text : List ℕ) → length text ≤ n → IsUtf8 text → IsPadded n (text ++ drop (length text) (replicate n 0)) (length text)
IsPadded-written n text fits utf8 =
    let front : take (length text) (text ++ drop (length text) (replicate n 0)) ≡ text = take-append_seam text _ in
    let behind = drop-replicate {X = ℕ} (length text) n 0 in record {
      within = fits;
      full = rw (length-append, behind, length-replicate) (omega arith);
      zeros = rw (front, behind) refl;
      utf8 = rw front utf8;
    }

-- an ASCII character is written behind a text
pub IsPadded_pushed : (n : ℕ) (bytes : List ℕ) (len c : ℕ) → IsPadded n bytes len → length (take len bytes) < n → c < 128 → IsPadded n (set bytes len c) (len + 1)
IsPadded_pushed n bytes len c h room ascii =
    let count : length (take len bytes) ≡ len = length-take-le len bytes (omega (arith, h.within, h.full)) in
    let front : take (len + 1) (set bytes len c) ≡ take len bytes ++ c ∷ [] = take_more_set bytes len c (omega (arith, h.full, count)) in
    let left : n - len ≡ suc (n - (len + 1)) = omega arith in
    let zeros : bytes ≡ take len bytes ++ 0 ∷ replicate (n - (len + 1)) 0 = h.zeros ∙ ap (λ k. take len bytes ++ replicate k 0) left in
    record {
      within = omega arith;
      full = length-set bytes len c ∙ h.full;
      zeros = ap (λ b. set b len c) zeros ∙ set_at (take len bytes) 0 (replicate (n - (len + 1)) 0) c len count
          ∙ sym (ap (λ t. t ++ replicate (n - (len + 1)) 0) front ∙ append_assoc (take len bytes) (c ∷ []) (replicate (n - (len + 1)) 0));
      utf8 = rw front (IsUtf8-append (take len bytes) (c ∷ []) h.utf8 (IsUtf8-from_ascii (c ∷ []) (IsAscii-cons c [] ascii IsAscii-nil)));
    }
